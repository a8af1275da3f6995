-- What follows from the rule of the turn's table, as its callers read it: this project's own.
use Rattle.std.specs.Prelude.{◌≡◌, ℕ, ◌+◌, ◌%◌, ◌^◌, ◌<◌, List, [], ◌∷◌, Option, Some, slice_index}
use Rattle.std.specs.List.{sum_by}
use mathlib.Core.List.{IsPrefix}
use mathlib.Core.Option.{some}
use lib.ListN.{get_elem?}
use Rattle.atomic_table.specs.Table.{State}
use Rattle.fg_turn.specs.Entries.{Entry}
use Rattle.fg_turn.specs.declared.view.View.{View}
use Rattle.fg_turn.specs.Rule.{HasTurn, ticket_at, drawn, live, Apart, NoTurn, Kept}

module _ {S : Type 0} (owner grows : List Entry → S → Type 0) where
  -- this holds of each state of the table that the rule allows
  abbrev Always : (State (Option S) (View S) → Type 0) → Type 0
  Always holds = (s : State (Option S) (View S)) → Kept owner grows s → holds s

  -- word 1 plus the number of seats with a ticket is word 0, modulo 2^64
  abbrev pub TicketsCount : Type 0
  TicketsCount =
      Always (λ s. slice_index s.words 0 ≡ (slice_index s.words 1 + sum_by drawn s.views) % 2 ^ 64)

  -- fewer than 65,536 seats have a ticket
  abbrev pub FewTickets : Type 0
  FewTickets = Always (λ s. sum_by drawn s.views < 65536)

  -- no two seats have one ticket
  abbrev pub TicketsApart : Type 0
  TicketsApart = Always (λ s. Apart s.views)

  -- no two seats that were not brought back have one number
  abbrev pub NumbersApart : Type 0
  NumbersApart =
      Always (λ s. (i j : ℕ) (v w : View S)
      → get_elem? s.views i ≡ some v → get_elem? s.views j ≡ some w
      → live v ≡ 1 → live w ≡ 1 → v.number ≡ w.number → i ≡ j)

  -- no two seats have the turn
  abbrev pub OneTurn : Type 0
  OneTurn =
      Always (λ s. (i j : ℕ) (v w : View S)
      → get_elem? s.views i ≡ some v → get_elem? s.views j ≡ some w
      → HasTurn v.place → HasTurn w.place → i ≡ j)

  -- who has the turn has the ticket that is served
  abbrev pub TurnIsServed : Type 0
  TurnIsServed =
      Always (λ s. (j : ℕ) (v : View S) → get_elem? s.views j ≡ some v → HasTurn v.place
      → slice_index s.words 1 ≡ ticket_at v.place % 2 ^ 64)

  -- what each seat has seen is a beginning of the calls of the owner, whose seat is the first
  abbrev pub SeesABeginning : Type 0
  SeesABeginning =
      Always (λ s. (o : View S) → get_elem? s.views 0 ≡ some o
      → (j : ℕ) (v : View S) → get_elem? s.views j ≡ some v → IsPrefix v.calls o.calls)

  -- who has the turn has seen all the owner's calls
  abbrev pub TurnSeesAll : Type 0
  TurnSeesAll =
      Always (λ s. (o : View S) → get_elem? s.views 0 ≡ some o
      → (j : ℕ) (v : View S) → get_elem? s.views j ≡ some v → HasTurn v.place → v.calls ≡ o.calls)

  -- what holds of the state for the calls of the owner, and for what each seat was told
  abbrev pub Guards : List (View S) → S → Type 0
  Guards views x =
      ((o : View S) → get_elem? views 0 ≡ some o → owner o.calls x)
      × ((j : ℕ) (v : View S) → get_elem? views j ≡ some v → grows v.told x)

  -- where no seat has the turn, the state is in the slot
  abbrev pub HomeState : Type 0
  HomeState =
      Always (λ s. NoTurn s.views → (x : S) × (s.homes ≡ some (Some x) ∷ []) × Guards s.views x)

  -- where a seat has the turn, it notes the state that it entered
  abbrev pub EnteredState : Type 0
  EnteredState =
      Always (λ s. (j : ℕ) (v : View S) → get_elem? s.views j ≡ some v → HasTurn v.place
      → (x : S) × (v.entered ≡ Some x) × Guards s.views x)
