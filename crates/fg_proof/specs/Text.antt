-- The text of a case, line by line: this project's own.
use Rattle.std.specs.Prelude.{◌+◌, ◌*◌, ◌^◌, ◌<◌, ◌≤◌, ℕ, List, [], ◌∷◌, ◌++◌, codes, length, map, All}
use Rattle.std.specs.Fmt.{decimal}
use Rattle.std.specs.List.{flat_map}
use Rattle.fg_shape.specs.declared.Shape.{Shape}
use Rattle.fg_proof.specs.declared.case.Case.{Case}

-- A line that stands in the text of a case.
pub data Line : Type 0 where
  -- The case begins: the flow's port, the mark, and how many positions the window has.
  Head : (port mark count : ℕ) → Line
  -- So many positions from a first one on are known.
  Known : ℕ × ℕ → Line
  -- The slots of an equation.
  Rule : ℕ × Shape → Line
  -- So many positions from a first one on are holes.
  Open : ℕ × ℕ → Line
  -- The case ends.
  End : Line

-- The lines of a case.
abbrev pub lines_of : Case → List Line
lines_of case =
    Head case.port case.mark case.count ∷ map Known case.known ++ map Rule case.lines ++ map Open case.holes ++ End ∷ []

-- A word and numbers behind it, each after a blank.
abbrev pub spelled : List ℕ → List ℕ → List ℕ
spelled word [] = word
spelled word (number ∷ numbers) = spelled (word ++ 32 ∷ decimal number) numbers

-- How a line is spelled, without the line feed that ends it.
unfoldable pub line_text : Line → List ℕ
line_text (Head port mark count) = spelled (codes "case") (port ∷ mark ∷ count ∷ [])
line_text (Known run) = spelled (codes "known") (run.0 ∷ run.1 ∷ [])
line_text (Rule rule) = spelled (codes "line") (rule.0 ∷ rule.1.offset ∷ rule.1.na ∷ [])
line_text (Open run) = spelled (codes "open") (run.0 ∷ run.1 ∷ [])
line_text End = codes "end"

-- The text of lines: each is ended by a line feed.
abbrev pub text_of : List Line → List ℕ
text_of lines = flat_map (λ line. line_text line ++ 10 ∷ []) lines

abbrev pub case_text : Case → List ℕ
case_text case = text_of (lines_of case)

-- The texts of several cases, one after another.
abbrev pub cases_text : List Case → List ℕ
cases_text cases = flat_map case_text cases

-- A number of a text has 1 to 19 digits.
abbrev pub number_limit : ℕ
number_limit = 10 ^ 19

-- The most lines that a case's text has.
abbrev pub line_limit : ℕ
line_limit = 10000

abbrev pub IsWritableRun : ℕ × ℕ → Type 0
IsWritableRun run = (run.0 < number_limit) × (run.1 < number_limit)

abbrev pub IsWritableRule : ℕ × Shape → Type 0
IsWritableRule rule = (rule.0 < number_limit) × (rule.1.offset < 2 ^ 8) × (rule.1.na < 2 ^ 8)

-- A case has a text: its numbers fit their fields, and it has at most so many lines.
pub record IsWritable (case : Case) : Type 0 where
  pub port : case.port < 2 ^ 16
  pub mark : case.mark < number_limit
  pub count : case.count < 2 ^ 32
  pub known : All IsWritableRun case.known
  pub lines : All IsWritableRule case.lines
  pub holes : All IsWritableRun case.holes
  pub few : length (lines_of case) ≤ line_limit
