use Rattle.std.proofs.Common.{◌≡◌, ◌+◌, IfSome, length, string_bytes}
use Rattle.fgate.proofs.WordLemmas.{TakenSoFar}
use Rattle.fgate.proofs.words_one_by_one.Given as goal

abbrev pub invariant-loop-place : goal.invariant-loop-place
invariant-loop-place g l = record {
  count : length l.words.items + 1 ≡ l.place;
  taken : IfSome (g.C.Called.told l.called) (λ all. TakenSoFar string_bytes all l.words.items);
}
