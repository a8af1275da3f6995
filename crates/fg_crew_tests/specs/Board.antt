-- The board of a test: what contracts see of its state, of its admitter and of its passes, with the
-- codes that a crate above would write. This project's own.
use Rattle.std.specs.Prelude.{ℕ, List, [], ◌∷◌, Option, Some, None, refl}
use Rattle.std.specs.Ordering.{nat_cmp}
use Rattle.std.specs.FinMap as map
use Rattle.std.specs.Coded.{Coded, code_by, coded×, coded_ℕ}
use Rattle.fg_turn.specs.Entries.{Entry}
use Rattle.fg_turn.specs.Standing.{Standing, standing_coded}

-- how far the shelf was played, and its words by their places
pub record ShelfView : Type 0 where
  pub mark : ℕ
  pub words : map.FinMap nat_cmp ℕ

abbrev pub shelf_coded : Coded ShelfView
shelf_coded =
    code_by (ℕ × map.FinMap nat_cmp ℕ) (coded× coded_ℕ (map.code coded_ℕ coded_ℕ))
    (λ s. (s.mark, s.words)) (λ p. record { mark = p.0; words = p.1 }) (λ _. refl)

-- what an admitter or a pass has: its seat, and how often it looked
pub record ActorView : Type 0 where
  pub seat : Standing ShelfView
  pub looks : ℕ

abbrev pub actor_coded : Coded ActorView
actor_coded =
    code_by (Standing ShelfView × ℕ) (coded× (standing_coded shelf_coded) coded_ℕ)
    (λ a. (a.seat, a.looks)) (λ p. record { seat = p.0; looks = p.1 }) (λ _. refl)

-- the mark of the state that was entered
abbrev pub mark_of : Option ShelfView → ℕ
mark_of None = 0
mark_of (Some shelf) = shelf.mark

-- what a look tells, and the entry of a play
abbrev pub told_of_look : Option ShelfView → List Entry
told_of_look entered = (mark_of entered ∷ []) ∷ []
