use Rattle.std.proofs.Common.{◌≡◌, ◌/◌, arith}
use Rattle.fg_words.proofs.WordLemmas.{media_of_packets}
use Rattle.fg_words.proofs.Word.is_media.Goals as goal

pub returns-then-begins_with_sync : goal.returns-then-begins_with_sync
returns-then-begins_with_sync c =
    let word = c.args.self.now in
    let length : c.from-length.result ≡ word.len = omega arith in (
      λ zeros. media_of_packets word (c.from-length.result / 188) c.if-self-ne-TRANSPORT_TYPE.false (omega arith) (omega arith)
          (omega arith) (omega arith) (c.begins_with_sync.ensures.0 c.if-begins_with_sync.true)
          (λ i past. c.is_zero_from.ensures.0 zeros i (omega arith)),
      λ media. c.is_zero_from.ensures.1 (λ i past. media.padded i (omega arith)),
    )
