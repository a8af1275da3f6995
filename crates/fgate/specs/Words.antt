-- The words that the program is called with, and what it takes of them: this project's own rule.
use Rattle.std.specs.Prelude.{◌≡◌, ◌⊎◌, ◌+◌, ◌-◌, ◌<◌, ◌≤◌, ℕ, Result, Ok, Err, Option, None, Some, List, [], length, take}
use Rattle.std.specs.List.{slice_index_or}
use Rattle.std.specs.Str.{IsUtf8}
use Rattle.std.specs.declared.env.FillError.{FillError}
use Rattle.std.specs.declared.env.FillError.TheVariants.{NotPresent, TooLong}

-- The word at the place, of all that are there, the program's own name first.
abbrev pub word_at : List (List ℕ) → ℕ → List ℕ
word_at all place = slice_index_or all place []

-- What is answered for a place, and what the buffer holds then: the word there, that it is longer than the buffer, or that there
-- is none.
abbrev pub Tells : List (List ℕ) → ℕ → Result ℕ FillError → List ℕ → Type 0
Tells all place (Ok size) buffer = (place < length all) × (word_at all place ≡ take size buffer)
Tells all place (Err TooLong) buffer = (place < length all) × (length buffer < length (word_at all place))
Tells all place (Err NotPresent) buffer = length all ≤ place

-- What is taken of a word: itself where it is a text of at most 64 bytes; else no byte, which is as faulty a word.
pub record IsTaken (word taken : List ℕ) : Type 0 where
  pub text : length word ≤ 64 → IsUtf8 word → taken ≡ word
  pub no_text : (64 < length word) ⊎ (¬ IsUtf8 word) → taken ≡ []

-- The same of a place where there may be none.
abbrev pub IsTakenAt : {W : Type 0} → (W → List ℕ) → List (List ℕ) → ℕ → Option W → Type 0
IsTakenAt text all place None = length all ≤ place
IsTakenAt text all place (Some taken) = (place < length all) × IsTaken (word_at all place) (text taken)

-- These are taken of the words behind the program's own name: one of each, in their order.
pub record AreTaken {W : Type 0} (text : W → List ℕ) (all : List (List ℕ)) (taken : List W) : Type 0 where
  pub count : length taken ≡ length all - 1
  pub each : (place : ℕ) (d : W) → place < length taken → IsTaken (word_at all (place + 1)) (text (slice_index_or taken place d))
