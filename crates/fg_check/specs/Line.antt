-- How a line of the text of a case is read: this project's own.
use Rattle.std.specs.Prelude.{◌≡◌, ◌<◌, ◌≤◌, ◌^◌, ℕ, ⊤, List, [], ◌∷◌, ◌++◌, length, slice_index, take, All}
use Rattle.std.specs.Fmt.{decimal}
use Rattle.std.specs.List.{Contains}
use Rattle.fg_proof.specs.Text.{Line, Head, Known, Rule, Open, End, IsWritableRule, IsWritableRun, line_text, number_limit}
use Rattle.fg_check.specs.declared.reading.TextLine.{TextLine}
use Rattle.fg_check.specs.declared.reading.TextLine.TheVariants as read

-- The numbers of a line fit their fields.
abbrev pub FitsFields : Line → Type 0
FitsFields (Head port mark count) = (port < 2 ^ 16) × (mark < number_limit) × (count < 2 ^ 32)
FitsFields (Known run) = IsWritableRun run
FitsFields (Rule rule) = IsWritableRule rule
FitsFields (Open run) = IsWritableRun run
FitsFields End = ⊤

-- The line is spelled so, and can stand in a text.
pub record IsLine (text : List ℕ) (line : Line) : Type 0 where
  pub is : text ≡ line_text line
  pub fits : FitsFields line

-- The line that was read.
abbrev pub line_of : TextLine → Line
line_of (read.Head port mark count) = Head port mark count
line_of (read.Known first count) = Known (first, count)
line_of (read.Rule base shape) = Rule (base, shape)
line_of (read.Open first count) = Open (first, count)
line_of read.End = End

-- Numbers in decimal, with a blank between each and the next.
abbrev pub numbers_text : List ℕ → List ℕ
numbers_text [] = []
numbers_text (number ∷ []) = decimal number
numbers_text (number ∷ more) = decimal number ++ 32 ∷ numbers_text more

-- The text is that of these numbers, each of at most 19 digits.
pub record AreNumbers (text numbers : List ℕ) : Type 0 where
  pub is : text ≡ numbers_text numbers
  pub fit : All (λ number. number < number_limit) numbers

-- A text begins as a number's does: with something, and with 0 only where that is all. No public contract cites it.
pub record BeginsPlain (text : List ℕ) : Type 0 where
  pub some : 1 ≤ length text
  pub zero : slice_index text 0 ≡ 48 → length text ≡ 1

-- The first place of a byte with this value. No public contract cites it.
pub record IsFirstPlace (byte : ℕ) (text : List ℕ) (place : ℕ) : Type 0 where
  pub within : place < length text
  pub here : slice_index text place ≡ byte
  pub first : ¬ Contains (take place text) byte
