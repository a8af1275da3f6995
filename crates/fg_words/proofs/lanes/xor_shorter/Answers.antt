use Rattle.std.proofs.Common.{ℕ, ◌*◌, ◌/◌, ◌<◌, ◌≤◌, ⊎_elim, ◌∙◌, ap, sym, bit_xor, length, slice_index}
use Rattle.std.proofs.lemmas.Bool.{cases_lt}
use Rattle.fg_words.proofs.ByteLemmas.{padded, padded_at, padded_long, xor_of_bytes}
use Rattle.fg_words.proofs.lanes.xor_shorter.Goals as goal

pub returns : goal.returns
returns c =
    let front = c.args.front.now in
    let whole : ℕ = 32 * (length front / 32) in
    xor_of_bytes 1316 c.args.bytes.now (padded 1316 front) c.xor_front_rest.new.bytes c.told-bytes (padded_long 1316 front c.requires) c.xor_front_rest.array_long (λ i lt.
    ⊎_elim
    (λ (below : i < whole). c.xor_front_rest.ensures.below i below ∙ c.xor_front_whole.ensures.below i below)
    (λ (from : whole ≤ i). c.xor_front_rest.ensures.rest i from ∙ ap (λ (k : ℕ). bit_xor k (slice_index front i)) (c.xor_front_whole.ensures.rest i from))
    (cases_lt i whole)
    ∙ ap (λ (k : ℕ). bit_xor (slice_index c.args.bytes.now i) k) (sym (padded_at 1316 front i)))
