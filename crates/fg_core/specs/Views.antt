-- What a pass was told, and what of it holds of a board. This project's own.
use Rattle.std.specs.Prelude.{◌≡◌, ◌≢◌, ◌≤◌, ◌<◌, ◌+◌, ⊤, ℕ, Bool, List, ◌∷◌, map, Option, Some, IsTrue}
use Rattle.std.specs.List.{All, Contains}
use Rattle.std.specs.FinMap.{entries}
use Rattle.fg_words.specs.declared.Word.{Word}
use Rattle.fg_words.specs.Word.{word_xor}
use Rattle.fg_peel.specs.Equation.{Equation, ComesOut, slots, others, sum_at}
use Rattle.fg_playout.specs.State.{Live}
use Rattle.fg_playout.specs.Admission.{kept_count}
use Rattle.fg_desk.specs.Contents.{known_in}
use Rattle.fg_core.specs.Board.{BoardState, JobState, IsLive, mark_of, equation_with}
use Rattle.fg_core.specs.declared.key.Key.{Key}
use Rattle.fg_core.specs.declared.fate.Asked.{Asked}
use Rattle.fg_core.specs.declared.fate.Asked.TheVariants as asked

-- One thing that a pass was told: the mark, the epoch and the number of equations admitted; a word at a slot in an
-- epoch; or the equation of a serial number.
pub data Told : Type 0 where
  saw : ℕ → ℕ → ℕ → Told
  word_at : ℕ → ℕ → Word → Told
  equation_is : ℕ → Equation → Told

-- What of it holds of a board. The three numbers never fall. In its epoch a word is known as long as its slot isn't more
-- than 100 positions before the mark. A serial number is that of one equation alone.
abbrev pub IsBorneOut : BoardState → Told → Type 0
IsBorneOut board (saw mark epoch admitted) =
    (mark ≤ mark_of board) × (epoch ≤ board.desk.epoch) × (admitted ≤ board.desk.state.admitted)
IsBorneOut board (word_at epoch slot word) =
    (epoch ≤ board.desk.epoch)
    × (epoch ≡ board.desk.epoch → mark_of board ≤ slot + kept_count → known_in board.desk slot ≡ Some word)
IsBorneOut board (equation_is serial equation) =
    (serial < board.desk.state.admitted)
    × ((live : Live) → IsLive board serial live → live.equation ≡ equation)

-- A board has grown from what was told.
abbrev pub Grows : List Told → BoardState → Type 0
Grows told board = All (IsBorneOut board) told

-- What each answer tells: the three numbers.
abbrev pub seen_of : BoardState → Told
seen_of board = saw (mark_of board) board.desk.epoch board.desk.state.admitted

-- A word that follows from what was told: the equation of the key, and, in the key's epoch, the words at its other slots.
pub record IsWorked (told : List Told) (key : Key) (equation : Equation) (slot : ℕ) (word : Word) : Type 0 where
  pub equation_told : Contains told (equation_is key.serial equation)
  pub slot_is : Contains (slots equation) slot
  pub words : ℕ → Option Word
  pub words_told :
      (other : ℕ) → Contains (slots equation) other → other ≢ slot
      → (known : Word) × (words other ≡ Some known) × Contains told (word_at key.epoch other known)
  pub word_is : word ≡ word_xor equation.parity (sum_at words (others slot (slots equation)))

-- Whether the equation of the key comes out follows from what was told: the words at all its slots.
pub record IsChecked (told : List Told) (key : Key) (equation : Equation) (zero : Bool) : Type 0 where
  pub equation_told : Contains told (equation_is key.serial equation)
  pub words : ℕ → Option Word
  pub words_told :
      (other : ℕ) → Contains (slots equation) other
      → (known : Word) × (words other ≡ Some known) × Contains told (word_at key.epoch other known)
  pub zero_is : IsTrue zero → ComesOut words equation

-- What a job tells: its equation and the words of its slots.
abbrev pub told_of_job : JobState → List Told
told_of_job job =
    equation_is job.key.serial job.equation
    ∷ map (λ entry. word_at job.key.epoch entry.0 entry.1) (entries job.inputs)

-- Where an equation is answered, it was told.
abbrev pub WasAnswered : List Told → Key → Asked → Type 0
WasAnswered told key (asked.Live base shape parity) =
    Contains told (equation_is key.serial (equation_with base shape parity))
WasAnswered told key (asked.Gone mark epoch) = ⊤
