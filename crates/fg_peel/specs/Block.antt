-- Worked blocks of SMPTE ST 2022-1: 4 columns and 4 rows of media datagrams, each row and each column with a parity.
use Rattle.std.specs.Prelude.{◌≢◌, ◌↔◌, ◌*◌, ◌<◌, ℕ, List, [], ◌∷◌, ◌++◌, map, Option, Some, None, IsSome, if◌then◌else◌, nat_lt, not, ◌&&◌, ◌==◌}
use Rattle.std.specs.List.{list_any}
use Rattle.fg_words.specs.declared.Word.{Word}
use Rattle.fg_words.specs.Word.{word_sum}
use Rattle.fg_peel.specs.Equation.{Equation}
use Rattle.fg_peel.specs.Closure.{InClosure}
use Rattle.fg_peel.specs.Solution.{IsSolution}

-- Row r protects the positions 4r to 4r + 3, and column c every fourth position from c on.
abbrev pub row : Word → ℕ → Equation
row parity r = record { base = 4 * r; offset = 1; count = 4; parity = parity }

abbrev pub column : Word → ℕ → Equation
column parity c = record { base = c; offset = 4; count = 4; parity = parity }

-- The rows and columns of these numbers, with any parity words.
abbrev pub block : (ℕ → Word) → (ℕ → Word) → List ℕ → List ℕ → List Equation
block across down rows columns = map (λ r. row (across r) r) rows ++ map (λ c. column (down c) c) columns

-- The block's words, but for the lost ones.
abbrev pub received : (ℕ → Word) → List ℕ → ℕ → Option Word
received words lost position =
    (if nat_lt position 16 && not (list_any (λ other. other == position) lost) then Some (words position) else None)

-- Three lost: 9 follows from its row, 6 from its column, and then 5 from either. The closure is the whole block.
abbrev pub ThreeLostFollow : Type 0
ThreeLostFollow =
    (words across down : ℕ → Word)
    → let all = block across down (0 ∷ 1 ∷ 2 ∷ 3 ∷ []) (0 ∷ 1 ∷ 2 ∷ 3 ∷ []) in
    (position : ℕ) → position < 16 → InClosure (received words (5 ∷ 6 ∷ 9 ∷ [])) all position

-- The block of two passes: without column 3, four lost in a chain follow one after another.
abbrev pub TwoPassesFollow : Type 0
TwoPassesFollow =
    (words across down : ℕ → Word)
    → let given = block across down (0 ∷ 1 ∷ 2 ∷ 3 ∷ []) (0 ∷ 1 ∷ 2 ∷ []) in
    (position : ℕ) → position < 16 → InClosure (received words (5 ∷ 6 ∷ 10 ∷ 11 ∷ [])) given position

-- Four lost in a square: each row and column of theirs has lost two, and none of them follows.
abbrev pub FourInSquareStay : Type 0
FourInSquareStay =
    (words across down : ℕ → Word)
    → let all = block across down (0 ∷ 1 ∷ 2 ∷ 3 ∷ []) (0 ∷ 1 ∷ 2 ∷ 3 ∷ []) in
    let known = received words (5 ∷ 6 ∷ 9 ∷ 10 ∷ []) in
    (position : ℕ) → InClosure known all position ↔ IsSome (known position)

-- A flipped bit: nothing is lost, but row 1's parity isn't the sum of its words. There is no solution.
abbrev pub WrongParityIsUnsolvable : Type 0
WrongParityIsUnsolvable =
    (words across down : ℕ → Word) → across 1 ≢ word_sum (words 4 ∷ words 5 ∷ words 6 ∷ words 7 ∷ [])
    → let all = block across down (0 ∷ 1 ∷ 2 ∷ 3 ∷ []) (0 ∷ 1 ∷ 2 ∷ 3 ∷ []) in
    (assigned : ℕ → Option Word) → ¬ IsSolution (received words []) all assigned

-- All of it.
pub record WorkedBlocks : Type 0 where
  pub three : ThreeLostFollow
  pub chain : TwoPassesFollow
  pub square : FourInSquareStay
  pub parity : WrongParityIsUnsolvable
