-- What contracts see of a turn, of its owner and of its seats: this project's own.
use Rattle.std.specs.Prelude.{ℕ, Bool, false, List, [], ◌∷◌, Option, Some, None, refl}
use Rattle.std.specs.Coded.{Coded, code_by, coded×, coded_ℕ, coded_bool, coded_list, coded_option}
use Rattle.atomic_table.specs.Seated.{TableId, table_id_coded}
use Rattle.fg_turn.specs.Entries.{Entry}

-- which turn it is, and how many seats it may have at once, the owner's among them
pub record TurnId : Type 0 where
  pub name : TableId
  pub seats : ℕ

-- What an owner or a seat has: the turn that it is of, its number, the owner's calls as far as it
-- has seen them, what it was told, how many turns it had, whether it is inside, the states that its
-- last turn began and ended with, and, of an owner, how many passes are out and how many seats
-- there have been. The owner's number is 0, and each pass has the number of seats before it
pub record Standing (S : Type 0) : Type 0 where
  pub turn : TableId
  pub number : ℕ
  pub calls : List Entry
  pub told : List Entry
  pub turns : ℕ
  pub inside : Bool
  pub entered : Option S
  pub left : Option S
  pub made : ℕ
  pub seated : ℕ

-- the seat with this number, which was told nothing and had no turn
abbrev pub newcomer_of : {S : Type 0} → TableId → ℕ → List Entry → Standing S
newcomer_of turn number calls = record {
  turn = turn;
  number = number;
  calls = calls;
  told = [];
  turns = 0;
  inside = false;
  entered = None;
  left = None;
  made = 0;
  seated = 0;
}

-- the owner of a new turn, whose seat is the first
abbrev pub owner_of : {S : Type 0} → TableId → List Entry → Standing S
owner_of turn calls = record (newcomer_of turn 0 calls) { seated = 1 }

-- the owner's list names an entry, by which the state follows the one entered
abbrev pub OwnerStep : {S : Type 0} → (Option Entry → S → S → Type 0) → List Entry → Option S → S
    → Type 0
OwnerStep step [] old new = ⊥
OwnerStep step (entry ∷ told) None new = ⊥
OwnerStep step (entry ∷ told) (Some old) new = step (Some entry) old new

-- The codes, by which proofs tell values apart (Rattle.std.specs.Coded): a standing is stored as
-- the tuple of its fields. A type whose model's value has a standing gives `standing_coded` the
-- code of its state, as `map.code coded_ℕ coded_ℕ` for a finite map
abbrev Fields : Type 0 → Type 0
Fields S =
    TableId × (ℕ × (List Entry × (List Entry × (ℕ × (Bool × (Option S × (Option S × (ℕ × ℕ))))))))

abbrev coded_entries : Coded (List Entry)
coded_entries = coded_list (coded_list coded_ℕ)

abbrev coded_fields : {S : Type 0} → Coded S → Coded (Fields S)
coded_fields state =
    coded× table_id_coded (coded× coded_ℕ (coded× coded_entries (coded× coded_entries
    (coded× coded_ℕ (coded× coded_bool (coded× (coded_option state) (coded× (coded_option state)
    (coded× coded_ℕ coded_ℕ))))))))

abbrev fields_of : {S : Type 0} → Standing S → Fields S
fields_of s = (
  s.turn,
  (
    s.number,
    (
      s.calls,
      (
        s.told,
        (
          s.turns,
          (
            s.inside,
            (
              s.entered,
              (
                s.left,
                (s.made, s.seated),
              ),
            ),
          ),
        ),
      ),
    ),
  ),
)

abbrev of_fields : {S : Type 0} → Fields S → Standing S
of_fields f = record {
  turn = f.0;
  number = f.1.0;
  calls = f.1.1.0;
  told = f.1.1.1.0;
  turns = f.1.1.1.1.0;
  inside = f.1.1.1.1.1.0;
  entered = f.1.1.1.1.1.1.0;
  left = f.1.1.1.1.1.1.1.0;
  made = f.1.1.1.1.1.1.1.1.0;
  seated = f.1.1.1.1.1.1.1.1.1;
}

abbrev pub standing_coded : {S : Type 0} → Coded S → Coded (Standing S)
standing_coded {S} state =
    code_by (Fields S) (coded_fields state) fields_of of_fields (λ _. refl)

abbrev pub turn_id_coded : Coded TurnId
turn_id_coded =
    code_by (TableId × ℕ) (coded× table_id_coded coded_ℕ) (λ t. (t.name, t.seats))
    (λ p. record { name = p.0; seats = p.1 }) (λ _. refl)
