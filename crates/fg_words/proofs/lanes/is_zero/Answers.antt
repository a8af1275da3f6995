use Rattle.std.proofs.Common.{◌<◌, ◌≤◌, ⊎_elim}
use Rattle.std.proofs.lemmas.Bool.{cases_lt, eqb-true}
use Rattle.fg_words.proofs.ByteLemmas.{zeros_of_bytes, bytes_of_zeros}
use Rattle.fg_words.proofs.lanes.is_zero.Goals as goal

-- src/lanes.rt:49:1
pub returns-then-union_of_whole-eq0 : goal.returns-then-union_of_whole-eq0
returns-then-union_of_whole-eq0 c = (
  λ t. zeros_of_bytes 1316 c.args.bytes.now c.told-bytes (λ i lt. ⊎_elim
      (λ (below : i < 1312). c.union_of_whole.ensures.0 c.if-union_of_whole-eq0.true i below)
      (λ (from : 1312 ≤ i). c.is_zero_from.ensures.0 t i from)
      (cases_lt i 1312)),
  λ e. c.is_zero_from.ensures.1 (λ i from. bytes_of_zeros 1316 c.args.bytes.now e i),
)

-- src/lanes.rt:49:1
pub returns-else-union_of_whole-eq0 : goal.returns-else-union_of_whole-eq0
returns-else-union_of_whole-eq0 c = (
  λ t. absurd (c.if-union_of_whole-eq0.false (eqb-true _ _ t)),
  λ e. absurd (c.if-union_of_whole-eq0.false (c.union_of_whole.ensures.1 (λ i below. bytes_of_zeros 1316 c.args.bytes.now e i))),
)
