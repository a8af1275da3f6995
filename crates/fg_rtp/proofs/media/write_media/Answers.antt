use Rattle.std.proofs.Common.{◌≡◌, ℕ, ◌≤◌, ◌++◌, List, length, take, drop, ap, sym, ◌∙◌, subst, arith, length-append, length-take}
use Rattle.std.proofs.lemmas.List.{take_at}
use Rattle.fg_rtp.specs.MediaDatagram.{IsMediaDatagram, media_bytes, payload_of}
use Rattle.fg_rtp.specs.Header.{plain_header}
use Rattle.fg_rtp.proofs.DatagramLemmas.{written_datagram}
use Rattle.fg_rtp.proofs.media.write_media.Goals as goal

pub returns-clause-written : goal.returns-clause-written
returns-clause-written c =
    c.write_payload.ensures.written
    ∙ ap (λ (n : ℕ). (plain_header 33 c.args.seq c.args.word.now.ts c.args.ssrc ++ take n c.args.word.now.bytes) ++ drop c.write_payload.result c.args.into.now) c.from-length.ensures

pub returns-clause-datagram : goal.returns-clause-datagram
returns-clause-datagram c =
    let bytes : List ℕ = media_bytes c.args.seq c.args.ssrc c.args.word.now in
    let count = c.requires.packets in
    let inside : c.args.word.now.len ≤ length c.args.word.now.bytes = omega (arith, count.2, count.3, c.requires.room) in
    let long : length bytes ≡ c.write_payload.result = omega (arith, c.write_payload.ensures.size, length-take c.from-length.result c.args.word.now.bytes, length-take c.args.word.now.len c.args.word.now.bytes, c.from-length.ensures, length-append (plain_header 33 c.args.seq c.args.word.now.ts c.args.ssrc) (payload_of c.args.word.now)) in
    let front = ap (λ (l : List ℕ). take c.write_payload.result l) (returns-clause-written c) ∙ take_at bytes (drop c.write_payload.result c.args.into.now) c.write_payload.result long in
    subst (λ (l : List ℕ). IsMediaDatagram l c.args.seq c.args.ssrc c.args.word.now) (sym front)
    (written_datagram c.args.seq c.args.ssrc c.args.word.now (omega arith) (omega arith) (omega arith) c.requires)
