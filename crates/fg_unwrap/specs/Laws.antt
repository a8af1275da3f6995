-- What makes the position a good definition. Sequence numbers have 16 bits.
use Rattle.std.specs.Prelude.{◌≡◌, ℕ, ◌<◌, ◌^◌, ◌↔◌, ℤ, pos, Some, None}
use Rattle.fg_unwrap.specs.Position.{IsPosition, IsBelowZero, position_of}

-- Every sequence number has a position.
abbrev pub HasPosition : Type 0
HasPosition = (top top_seq seq : ℕ) → (position : ℤ) × IsPosition top top_seq seq position

-- And it has only one.
abbrev pub HasOnePosition : Type 0
HasOnePosition = (top top_seq seq : ℕ) (position position' : ℤ) →
    IsPosition top top_seq seq position → IsPosition top top_seq seq position' → position ≡ position'

-- The function gives the position, and none exactly where that is below 0.
abbrev pub FunctionGivesPosition : Type 0
FunctionGivesPosition = (top top_seq seq position : ℕ) → top_seq < 2 ^ 16 →
    (position_of top top_seq seq ≡ Some position) ↔ IsPosition top top_seq seq (pos position)

abbrev pub FunctionTellsBelowZero : Type 0
FunctionTellsBelowZero = (top top_seq seq : ℕ) → top_seq < 2 ^ 16 →
    (position_of top top_seq seq ≡ None) ↔ IsBelowZero top top_seq seq
