-- What each atomic step of a turn tells the seat that takes it: this project's own.
use Rattle.std.specs.Prelude.{◌≡◌, ◌≢◌, ℕ, ◌+◌, ◌%◌, ◌^◌, ◌≤◌, true}
use Rattle.std.specs.Prelude.{List, [], ◌∷◌, ◌++◌, Option, Some, None}
use mathlib.Core.List.{IsPrefix}
use Rattle.atomic_table.specs.Table.{Me, rest}
use Rattle.fg_turn.specs.Entries.{Entry}
use Rattle.fg_turn.specs.declared.view.View.{View}
use Rattle.fg_turn.specs.Rule.{ticket_at}
use Rattle.fg_turn.specs.declared.view.Place.TheVariants.{Outside, Waiting, Inside}

-- what a seat knows and holds
abbrev pub Knows : Type 0 → Type 0
Knows S = Me (Option S) (View S)

module _ {S : Type 0} where
  -- the owner's view, once its calls begin with these
  abbrev pub opening_with : List Entry → View S → View S
  opening_with calls v = record v { calls = calls; place = Outside }

  abbrev pub opened : List Entry → Knows S → ℕ → Knows S → Type 0
  opened calls m r m' = m' ≡ (opening_with calls m.0, m.1)

  -- the view with the ticket t
  abbrev pub waiting : ℕ → View S → View S
  waiting t v = record v { place = Waiting t; turns = v.turns + 1 }

  abbrev pub drew : Knows S → ℕ → Knows S → Type 0
  drew m r m' = (t : ℕ) × (r ≡ t % 2 ^ 64) × (m' ≡ (waiting t m.0, m.1))

  -- the view in the turn of its ticket, which begins with this state and has seen these calls
  abbrev pub entering : List Entry → S → View S → View S
  entering calls x v =
      record v { place = Inside (ticket_at v.place); calls = calls; entered = Some x }

  -- the seat has the turn, and with it the slot and the state
  abbrev pub Has : (owner grows : List Entry → S → Type 0) → Knows S → Knows S → Type 0
  Has owner grows m m' =
      (calls : List Entry) × (x : S) × (m' ≡ (entering calls x m.0, (0, Some x) ∷ m.1))
      × IsPrefix m.0.calls calls × (m.0.owns ≡ true → calls ≡ m.0.calls) × owner calls x
      × grows m.0.told x

  -- the view after the ticket t was drawn and served
  abbrev pub seeing : ℕ → List Entry → S → View S → View S
  seeing t calls x v =
      record v { place = Inside t; calls = calls; turns = v.turns + 1; entered = Some x }

  -- the seat has the turn and the empty slot, and this state was taken out
  abbrev pub HasSeen : (owner grows : List Entry → S → Type 0) → View S → Knows S → S → Type 0
  HasSeen owner grows v m' x =
      (calls : List Entry) × (t : ℕ) × (m' ≡ (seeing t calls x v, (0, None) ∷ []))
      × IsPrefix v.calls calls × (v.owns ≡ true → calls ≡ v.calls) × owner calls x × grows v.told x

  -- where the ticket served is the seat's own, it has the turn; and else nothing changes
  abbrev pub looked : (owner grows : List Entry → S → Type 0) → Knows S → ℕ → Knows S → Type 0
  looked owner grows m r m' =
      (r ≡ ticket_at m.0.place % 2 ^ 64 → Has owner grows m m')
      × (r ≢ ticket_at m.0.place % 2 ^ 64 → m' ≡ m)

  -- the state in the slot that was taken last
  abbrev pub carried : List (ℕ × Option S) → Option S
  carried [] = None
  carried (x ∷ xs) = x.1

  -- the view after a turn that left this state
  abbrev pub leaving : List Entry → List Entry → Option S → View S → View S
  leaving entry told y v =
      record v { place = Outside; calls = v.calls ++ entry; told = v.told ++ told; left = y }

  abbrev pub served : List Entry → List Entry → Knows S → ℕ → Knows S → Type 0
  served entry told m r m' = m' ≡ (leaving entry told (carried m.1) m.0, rest m.1)

  abbrev pub counted : Knows S → ℕ → Knows S → Type 0
  counted m r m' = (m' ≡ m) × (m.0.joined ≤ m.0.split)
