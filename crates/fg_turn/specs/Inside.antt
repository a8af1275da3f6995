-- What an owner and a seat hold, and what contracts see of it: this project's own.
use Rattle.std.specs.Prelude.{◌≡◌, ℕ, Bool, true, false, List, [], ◌∷◌, Option, None}
use Rattle.atomic_table.specs.Seated.{TableId}
use Rattle.atomic_table.specs.declared.shared.Seat.{Seat}
use Rattle.fg_turn.specs.declared.view.View.{View}
use Rattle.fg_turn.specs.declared.view.Place.{Place}
use Rattle.fg_turn.specs.declared.view.Place.TheVariants.{Unopened, Spent, Outside, Waiting, Inside}
use Rattle.fg_turn.specs.Plays.{Knows}
use Rattle.fg_turn.specs.Standing.{Standing}

-- the seat is one of that table, which has two words and one slot
abbrev pub IsOf : {S : Type 0} → TableId → Seat (Option S) (View S) → Type 0
IsOf name seat = (seat.table_id ≡ name) × (name.words ≡ 2) × (name.slots ≡ 1)

abbrev pub IsSame : {S : Type 0} → Seat (Option S) (View S) → Seat (Option S) (View S) → Type 0
IsSame before after = (after.table_id ≡ before.table_id) × (after.id ≡ before.id)

-- the seat has the turn, and has taken the state out
abbrev pub InTurn : {S : Type 0} → Knows S → Type 0
InTurn me = ((t : ℕ) × (me.0.place ≡ Inside t)) × (me.1 ≡ (0, None) ∷ [])

abbrev pub is_inside : Place → Bool
is_inside Unopened = false
is_inside Spent = false
is_inside Outside = false
is_inside (Waiting t) = false
is_inside (Inside t) = true

-- between two calls a seat is outside and holds nothing, or has taken the state out
abbrev pub BetweenCalls : {S : Type 0} → Place → List (ℕ × Option S) → Type 0
BetweenCalls Unopened held = ⊥
BetweenCalls Spent held = ⊥
BetweenCalls Outside held = held ≡ []
BetweenCalls (Waiting t) held = ⊥
BetweenCalls (Inside t) held = held ≡ (0, None) ∷ []

-- what contracts see of it; of an owner, with how many passes are out and how many seats there were
abbrev pub standing : {S : Type 0} → Seat (Option S) (View S) → ℕ → ℕ → Standing S
standing seat made seated = record {
  turn = seat.table_id;
  number = seat.me.0.number;
  calls = seat.me.0.calls;
  told = seat.me.0.told;
  turns = seat.me.0.turns;
  inside = is_inside seat.me.0.place;
  entered = seat.me.0.entered;
  left = seat.me.0.left;
  made = made;
  seated = seated;
}
