-- The parts of a job as contracts see them. No public contract cites it.
use Rattle.std.specs.Prelude.{◌≡◌, ◌+◌, ◌<◌, ◌≤◌, ℕ, List, [], ◌∷◌, length, slice_index_or, Option, Some, None}
use Rattle.std.specs.FinMap.{insert, empty}
use Rattle.fg_words.specs.declared.Word.{Word}
use Rattle.fg_words.specs.Word.{HasRoom}
use Rattle.fg_shape.specs.declared.Shape.{Shape}
use Rattle.fg_shape.specs.Shape.{IsShape, position_limit}
use Rattle.fg_playout.specs.State.{Words}
use Rattle.fg_core.specs.Board.{JobState}
use Rattle.fg_core.specs.declared.key.Key.{Key}

-- The words of a list at positions that lie so far from each other, the first at this one.
unfoldable pub inputs_from : ℕ → ℕ → List (Option Word) → Words
inputs_from position offset [] = empty
inputs_from position offset (None ∷ shares) = inputs_from (position + offset) offset shares
inputs_from position offset (Some word ∷ shares) =
    insert (inputs_from (position + offset) offset shares) position word

abbrev pub job_of : Key → ℕ → Shape → Word → List (Option Word) → JobState
job_of key base shape parity shares = record {
  key = key;
  equation = record { base = base; offset = shape.offset; count = shape.na; parity = parity };
  inputs = inputs_from base shape.offset shares;
}

-- One place at most has no word.
abbrev pub MissOne : List (Option Word) → Type 0
MissOne shares =
    (i j : ℕ) → i < length shares → j < length shares → slice_index_or shares i None ≡ None
    → slice_index_or shares j None ≡ None → i ≡ j

abbrev pub HaveRoom : List (Option Word) → Type 0
HaveRoom shares = (j : ℕ) (word : Word) → slice_index_or shares j None ≡ Some word → HasRoom word

-- What is true of the parts.
pub record IsWork (base : ℕ) (shape : Shape) (parity : Word) (shares : List (Option Word)) : Type 0 where
  pub read : IsShape shape.offset shape.na
  pub near : base ≤ position_limit
  pub count : length shares ≡ shape.na
  pub one : MissOne shares
  pub parity_room : HasRoom parity
  pub rooms : HaveRoom shares
