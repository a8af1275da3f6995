-- No records have no cases.
use Rattle.std.proofs.Common.{◌≡◌, ◌∙◌, ℕ, Bool, true, false, cond, nat_lt, sym, Option, Some, None, [], refl}
use Rattle.fg_shape.specs.Playout.{Playout}
use Rattle.fg_words.specs.declared.Word.{Word}
use Rattle.fg_playout.specs.State.{opening, known}
use Rattle.fg_playout.specs.Solution.{InClosure, given, derived}
use Rattle.fg_playout.proofs.Equations.{live_stand_under_serials}
use Rattle.fg_peel.specs.Live.{Live}
use Rattle.fg_prove.proofs.Missing.{not_some}
use Rattle.std.specs.Ordering.{nat_cmp}
use Rattle.std.specs.FinMap.{get-empty}
use Rattle.fg_prove.specs.Proved.{AreProved}

-- Nothing is known of a desk at first, and nothing follows.
none_either : (b : Bool) (x y : Option Word) → x ≡ None → y ≡ None → cond b x y ≡ None
none_either true x y one other = one
none_either false x y one other = other

nothing_follows : (playout : Playout) {position : ℕ} → InClosure (opening playout) position → ⊥
nothing_follows playout (given {position} some) =
    let none : known (opening playout) position ≡ None = none_either (nat_lt position 0) _ _ (get-empty nat_cmp position) (get-empty nat_cmp position) in
    not_some (known (opening playout) position) none some
nothing_follows playout (derived equation {position} live slot ahead others) =
    let stands = (live_stand_under_serials (opening playout) equation).0 live in
    let none : ◌≡◌ {A = Option Live} None (Some stands.1) = sym (get-empty nat_cmp stands.0) ∙ stands.2 in
    cc

pub none_proved : (playout : Playout) (flow : ℕ) → AreProved playout [] flow []
none_proved playout flow = record {
  arrivals = [];
  plays = [];
  replies = [];
  arrive = tt;
  run = record {
    taken = [];
    flushed = [];
    filled = opening playout;
    empty = opening playout;
    takes = (refl, refl, refl);
    flush = (λ more. nothing_follows playout more.1, refl);
    plays_are = refl;
  };
  cases_are = refl;
}
