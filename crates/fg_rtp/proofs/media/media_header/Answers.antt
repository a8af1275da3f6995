use Rattle.std.proofs.Common.{◌≡◌, ℕ, ◌<◌, sym, ap, ◌∙◌, subst, get_or, drop, arith}
use Rattle.fg_rtp.specs.declared.Rtp.{Rtp}
use Rattle.fg_rtp.specs.Header.{header, version}
use Rattle.fg_words.specs.Word.{transport_word}
use Rattle.fg_rtp.specs.MediaDatagram.{IsMediaDatagram, HasHeader, IsPlain, IsTransport}
use Rattle.fg_rtp.proofs.DatagramLemmas.{datagram_is_synced, datagram_of_rules}
use Rattle.fg_rtp.proofs.media.media_header.Goals as goal

pub returns-then-not-is_synced-clause-refused : goal.returns-then-not-is_synced-clause-refused
returns-then-not-is_synced-clause-refused c seq ssrc word d =
    let synced = c.is_synced.ensures.1 (datagram_is_synced c.args.bytes.now seq ssrc word d) in
    let other = c.if-not-is_synced.true in
    cc

pub returns-clause-ok : goal.returns-clause-ok
returns-clause-ok c =
    let bytes = c.args.bytes.now in
    let is : c.in_ok-header.header ≡ header bytes = c.in_ok-header.ensures.ok in
    let long : HasHeader bytes = grind arith in
    let two : version bytes ≡ 2 = grind arith in
    let plain : IsPlain bytes = (sym (ap (λ (h : Rtp). h.padding) is) ∙ c.if-header.false, sym (ap (λ (h : Rtp). h.extension) is) ∙ c.if-header-2.false, sym (ap (λ (h : Rtp). h.sources) is) ∙ c.if-header-ne0.false) in
    let transport : IsTransport bytes = sym (ap (λ (h : Rtp). h.pt) is) ∙ c.if-header-ne-TRANSPORT_TYPE.false in
    let packets = c.has_whole_packets.ensures.0 c.if-not-has_whole_packets.false in
    let synced = c.is_synced.ensures.0 c.if-not-is_synced.false in
    let fits : (i : ℕ) → get_or bytes i 0 < 256 = λ i. (c.type_inv.bytes i).fits in
    let read = datagram_of_rules bytes fits long two plain transport packets synced in
    subst (λ (h : Rtp). IsMediaDatagram bytes h.seq h.ssrc (transport_word h.ts (drop 12 bytes))) (sym is) read
