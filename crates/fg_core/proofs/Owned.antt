-- What the admitter's calls make of a board.
use Rattle.std.proofs.Common.{◌≡◌, ℕ, true, refl, sym, ◌∙◌, arith, true≢false}
use Rattle.std.proofs.lemmas.List.Elements.{All-nil}
use Rattle.std.specs.Ordering.{nat_cmp}
use Rattle.std.specs.FinSet.{contains, empty, contains-empty}
use Rattle.fg_playout.specs.Laws.{OpeningHolds}
use Rattle.fg_core.specs.Core.{KeyIsOf}
use Rattle.fg_core.specs.Laws.{OpeningIsOwned}
use Rattle.fg_core.proofs.Known.{opened_is_solved}

not_in_empty : (k : ℕ) → contains (empty {R = nat_cmp}) k ≡ true → ⊥
not_in_empty k is = true≢false (sym is ∙ contains-empty nat_cmp k)

pub opening_is_owned : OpeningHolds → OpeningIsOwned
opening_is_owned opening playout one most fits = record {
  desk = refl;
  facts = opening playout one most fits;
  solved = opened_is_solved playout;
  vouched = λ serial is. absurd (not_in_empty serial is);
  handed_out = λ serial is. absurd (not_in_empty serial is);
  bare = λ position is. absurd (not_in_empty position is);
  keys = All-nil (KeyIsOf 0);
  epoch = omega arith;
}
