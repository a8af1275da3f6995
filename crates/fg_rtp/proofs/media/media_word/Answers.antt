use Rattle.std.proofs.Common.{◌≡◌, ℕ, List, sym, ap, ◌∙◌, subst, drop}
use Rattle.fg_words.specs.declared.Word.{Word}
use Rattle.fg_words.specs.Word.{transport_word}
use Rattle.fg_rtp.specs.MediaDatagram.{IsMediaDatagram}
use Rattle.fg_rtp.proofs.DatagramLemmas.{datagram_one_way}
use Rattle.fg_rtp.proofs.media.media_word.Goals as goal

pub returns-clause-ok : goal.returns-clause-ok
returns-clause-ok c =
    let bytes = c.args.bytes.now in
    let header = c.in_ok-header.header in
    let word : c.word_of-word.result ≡ transport_word header.ts (drop 12 bytes) =
    c.word_of-word.ensures ∙ ap (λ (l : List ℕ). transport_word header.ts l) c.payload.ensures.rest in
    subst (λ (w : Word). IsMediaDatagram bytes header.seq header.ssrc w) (sym word) c.in_ok-header.ensures.ok

pub returns-clause-only : goal.returns-clause-only
returns-clause-only c seq ssrc word d = datagram_one_way c.args.bytes.now _ _ seq ssrc _ word (returns-clause-ok c) d
