-- The rule of the turn's table: this project's own. It holds between any two atomic steps.
-- Word 0 is the next ticket and word 1 the ticket that is served, both modulo 2^64. Slot 0 has the
-- state.
use Rattle.std.specs.Prelude.{◌≡◌, ℕ, ◌+◌, ◌%◌, ◌^◌, ◌<◌, ◌≤◌, true, false, ◌⊎◌}
use Rattle.std.specs.Prelude.{List, [], ◌∷◌, length, Option, Some, None}
use Rattle.std.specs.List.{sum_by}
use mathlib.Core.List.{IsPrefix}
use mathlib.Core.Option.{none, some}
use mathlib.Core.Option as maybe
use lib.ListN.{get_elem?}
use Rattle.atomic_table.specs.Table.{State, opening}
use Rattle.fg_turn.specs.Entries.{Entry}
use Rattle.fg_turn.specs.declared.view.View.{View}
use Rattle.fg_turn.specs.declared.view.Place.{Place}
use Rattle.fg_turn.specs.declared.view.Place.TheVariants.{Unopened, Spent, Outside, Waiting, Inside}

-- 1 where a seat with a ticket stands, and else 0
abbrev pub drawn_at : Place → ℕ
drawn_at Unopened = 0
drawn_at Spent = 0
drawn_at Outside = 0
drawn_at (Waiting t) = 1
drawn_at (Inside t) = 1

-- 1 but for a seat that was brought back
abbrev pub live_at : Place → ℕ
live_at Unopened = 1
live_at Spent = 0
live_at Outside = 1
live_at (Waiting t) = 1
live_at (Inside t) = 1

-- the ticket t is out with a seat that stands there
abbrev pub HasTicket : ℕ → Place → Type 0
HasTicket t Unopened = ⊥
HasTicket t Spent = ⊥
HasTicket t Outside = ⊥
HasTicket t (Waiting u) = u ≡ t
HasTicket t (Inside u) = u ≡ t

-- whoever stands there has a ticket from the one served on and before the next, and has the
-- turn with the one served alone
abbrev pub InLine : ℕ → ℕ → Place → Type 0
InLine serving next Unopened = ⊥
InLine serving next Spent = Unit {0}
InLine serving next Outside = Unit {0}
InLine serving next (Waiting t) = (serving ≤ t) × (t < next)
InLine serving next (Inside t) = (t ≡ serving) × (t < next)

-- the ticket of whoever stands there
abbrev pub ticket_at : Place → ℕ
ticket_at Unopened = 0
ticket_at Spent = 0
ticket_at Outside = 0
ticket_at (Waiting t) = t
ticket_at (Inside t) = t

-- whoever stands there is inside
abbrev pub HasTurn : Place → Type 0
HasTurn Unopened = ⊥
HasTurn Spent = ⊥
HasTurn Outside = ⊥
HasTurn (Waiting t) = ⊥
HasTurn (Inside t) = Unit {0}

module _ {S : Type 0} where
  abbrev pub drawn : View S → ℕ
  drawn v = drawn_at v.place

  abbrev pub live : View S → ℕ
  live v = live_at v.place

  -- The seat of the owner is the first, and has seen all the owner's calls. `out` is the number of
  -- passes that are out, and `seated` the number of seats that there have been
  pub record IsOwner (calls : List Entry) (out seated j : ℕ) (v : View S) : Type 0 where
    pub first : j ≡ 0
    pub all : v.calls ≡ calls
    pub counts : v.joined + out ≡ v.split
    pub seats : v.split + 1 ≡ seated
    pub lives : live v ≡ 1

  -- What the rule says of one seat: of its number, its calls, its ticket, and what it was told.
  -- Who has the turn has seen all the owner's calls
  pub record Fits (grows : List Entry → S → Type 0) (next serving : ℕ) (calls : List Entry)
      (out seated : ℕ) (here : S) (j : ℕ) (v : View S) : Type 0 where
    pub owner : v.owns ≡ true → IsOwner calls out seated j v
    pub numbered : live v ≡ 1 → v.number ≡ j
    pub seen : IsPrefix v.calls calls
    pub all : HasTurn v.place → v.calls ≡ calls
    pub waits : InLine serving next v.place
    pub grown : grows v.told here

  -- no seat has the turn
  abbrev pub NoTurn : List (View S) → Type 0
  NoTurn views = (j : ℕ) (v : View S) → get_elem? views j ≡ some v → ¬ HasTurn v.place

  -- a seat has the turn, which noted that it entered this state
  abbrev pub Entered : List (View S) → S → Type 0
  Entered views here =
      (j : ℕ) × (v : View S) × (get_elem? views j ≡ some v) × HasTurn v.place
      × (v.entered ≡ Some here)

  -- the state lies in the slot and no seat has the turn; or the slot is out with a seat that has it
  abbrev pub Lies : List (maybe.Option (Option S)) → List (View S) → S → Type 0
  Lies homes views here =
      ((homes ≡ some (Some here) ∷ []) × NoTurn views) ⊎ ((homes ≡ none ∷ []) × Entered views here)

  -- no ticket is out with two seats
  abbrev pub Apart : List (View S) → Type 0
  Apart views =
      (i j t : ℕ) (v w : View S) → get_elem? views i ≡ some v → get_elem? views j ≡ some w
      → HasTicket t v.place → HasTicket t w.place → i ≡ j

  -- The rule. Tickets count on past 2^64. `out` is the number of passes that are out, `seated` the
  -- number of seats that there have been, and `here` the state: it lies in the slot, or is the one
  -- entered
  pub record Kept (owner grows : List Entry → S → Type 0) (s : State (Option S) (View S)) :
      Type 0 where
    pub next : ℕ
    pub serving : ℕ
    pub calls : List Entry
    pub out : ℕ
    pub seated : ℕ
    pub here : S
    pub words : s.words ≡ next % 2 ^ 64 ∷ serving % 2 ^ 64 ∷ []
    pub tickets : serving + sum_by drawn s.views ≡ next
    pub seats : sum_by live s.views ≡ out + 1
    pub few : out + 1 < 65536
    pub many : length s.views ≡ seated
    pub apart : Apart s.views
    pub held : (o : View S) × (get_elem? s.views 0 ≡ some o) × (o.owns ≡ true)
    pub each : (j : ℕ) (v : View S) → get_elem? s.views j ≡ some v
        → Fits grows next serving calls out seated here j v
    pub lies : Lies s.homes s.views here
    pub meets : owner calls here

  -- the view of the first seat
  abbrev pub unopened : View S
  unopened = record {
    owns = true;
    number = 0;
    split = 0;
    joined = 0;
    calls = [];
    told = [];
    turns = 0;
    place = Unopened;
    entered = None;
    left = None;
  }

  -- the owner's calls are not known yet; or the rule is kept
  abbrev pub Ruled : (owner grows : List Entry → S → Type 0) → S → State (Option S) (View S)
      → Type 0
  Ruled owner grows first s =
      (s ≡ opening (0 ∷ 0 ∷ []) (Some first ∷ []) unopened) ⊎ Kept owner grows s

  -- the owner after a seat was split off, and the new seat: its number is new, it has seen the
  -- owner's calls and was told nothing
  abbrev pub splitting : View S → View S
  splitting v = record v { split = v.split + 1 }

  abbrev pub newcomer : View S → View S
  newcomer v = record {
    owns = false;
    number = v.split + 1;
    split = 0;
    joined = 0;
    calls = v.calls;
    told = [];
    turns = 0;
    place = Outside;
    entered = None;
    left = None;
  }

  -- the owner after a seat was taken back, and what that seat is left with
  abbrev pub joining : View S → View S
  joining v = record v { joined = v.joined + 1 }

  abbrev pub spent : View S
  spent = record {
    owns = false;
    number = 0;
    split = 0;
    joined = 0;
    calls = [];
    told = [];
    turns = 0;
    place = Spent;
    entered = None;
    left = None;
  }
