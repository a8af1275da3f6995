-- How far a checking has come. No public contract cites what stands here.
use Rattle.std.specs.Prelude.{◌≡◌, ◌+◌, ◌-◌, ◌≤◌, ◌<◌, ◌^◌, ℕ, Bool, true, Option, None, Some, IfSome, List, [], ◌∷◌, ◌++◌, length, map, take, drop, All}
use Rattle.std.specs.List.{Contains, flat_map}
use Rattle.std.specs.Io.KnownBytes.{IsAtEnd}
use Rattle.fg_io.specs.Texts.{ReadTexts}
use Rattle.fg_io.specs.declared.input_buffer.Ahead.{Ahead}
use Rattle.fg_io.specs.declared.input_buffer.Ahead.TheVariants as ahead
use Rattle.fg_io.specs.InputBuffer.{InputState}
use Rattle.fg_io.specs.Sent.{Sent}
use Rattle.fg_io.specs.Source.{Gives}
use Rattle.fg_proof.specs.declared.case.Case.{Case}
use Rattle.fg_proof.specs.declared.judging.Answer.{Answer}
use Rattle.fg_proof.specs.Text.{Line, Head, Known, Rule, Open, IsWritable, line_text, lines_of}
use Rattle.fg_check.specs.declared.gathering.Taken.{Taken}
use Rattle.fg_check.specs.declared.gathering.Taken.TheVariants as taken
use Rattle.fg_check.specs.declared.lines.Lines.{Lines}
use Rattle.fg_check.specs.declared.walk.Checked.{Checked}
use Rattle.fg_check.specs.declared.walk.Next.{Next}
use Rattle.fg_check.specs.declared.walk.Next.TheVariants as next
use Rattle.fg_check.specs.declared.walk.Passed.{Passed}
use Rattle.fg_check.specs.declared.walk.Passed.TheVariants as passed
use Rattle.fg_check.specs.declared.walk.Walk.{Walk}
use Rattle.fg_check.specs.Checked.{CheckEnding, ChecksPart, IsChecked, LeavesNothing, Tells}
use Rattle.fg_check.specs.Line.{IsFirstPlace}
use Rattle.fg_check.specs.Reading.{IsCheckReadFor}
use Rattle.fg_check.specs.Split.{Fit, ended}
use Rattle.fg_check.specs.Text.{AreAnswers, IsFirstUnproved, verdicts_from}

-- Gathering

-- The lines of a case without the last.
abbrev pub front_of : Case → List Line
front_of case = Head case.port case.mark case.count ∷ map Known case.known ++ map Rule case.lines ++ map Open case.holes

-- Those of a case that is open, where one is.
abbrev pub front_if : Option Case → List Line
front_if None = []
front_if (Some case) = front_of case

-- The lines are those of these cases, and then those of the open one so far, which can be ended.
pub record Stands (lines : List (List ℕ)) (cases : List Case) (opened : Option Case) : Type 0 where
  pub writable : All IsWritable cases
  pub endable : IfSome opened IsWritable
  pub are : lines ≡ map line_text (flat_map lines_of cases ++ front_if opened)

-- What becomes of a line with this text, after any lines that led to the open case: it goes on with the case; it ends it; or it
-- doesn't fit.
abbrev pub TakesText : Option Case → List ℕ → Taken → Option Case → Type 0
TakesText opened text taken.More next =
    (lines : List (List ℕ)) (cases : List Case) → Stands lines cases opened → Stands (lines ++ text ∷ []) cases next
TakesText opened text (taken.Whole case) next =
    (lines : List (List ℕ)) (cases : List Case) → Stands lines cases opened → Stands (lines ++ text ∷ []) (cases ++ case ∷ []) next
TakesText opened text taken.Refused next =
    (lines : List (List ℕ)) (cases : List Case) → Stands lines cases opened → ¬ Fit (lines ++ text ∷ [])

abbrev pub Takes : Option Case → Line → Taken → Option Case → Type 0
Takes opened line taken next = TakesText opened (line_text line) taken next

-- Reading

-- No line that fits has more bytes, without its line feed: that of a run of known positions, with two numbers of 19 digits.
abbrev pub longest : ℕ
longest = 45

-- A buffer from which lines are taken.
pub record IsBuffer (input : InputState) : Type 0 where
  pub longest_is : input.longest ≡ longest + 1
  pub small : input.piece ≤ 2 ^ 16
  pub limit : input.max ≤ 2 ^ 40
  pub within : input.place ≤ input.max
  pub bounded : input.place + length input.held ≤ input.max + 1

-- The source had `first`. Of it, it gave these bytes, which were stepped over, and then what is held.
pub record IsBehind (first : Option (List ℕ)) (front : List ℕ) (input : InputState) (now : Option (List ℕ)) : Type 0 where
  pub gave : Gives first (front ++ input.held) now
  pub place : input.place ≡ length front
  pub at_end : input.ended ≡ true → IsAtEnd now

-- What stands ahead in a buffer from which lines are taken: a line of so many bytes, and its line feed; or, where `longest` bytes
-- and a line feed were asked for, no line feed in what is held within the limit.
abbrev pub IsNext : Next → InputState → Type 0
IsNext (next.Line count) input = IsFirstPlace 10 input.held count × (input.place + count + 1 ≤ input.max)
IsNext (next.Other ahead.Whole) input =
    (longest + 1 ≤ length input.held) × (input.place + longest + 1 ≤ input.max) × ¬ Contains (take (longest + 1) input.held) 10
IsNext (next.Other ahead.EndsHere) input = (input.held ≡ []) × (input.ended ≡ true)
IsNext (next.Other ahead.EndsInside) input =
    (1 ≤ length input.held) × (input.ended ≡ true) × (input.place + length input.held ≤ input.max) × ¬ Contains input.held 10
IsNext (next.Other ahead.PastLimit) input =
    (input.max < input.place + length input.held) × ¬ Contains (take (input.max - input.place) input.held) 10

-- So many bytes were stepped over.
abbrev pub stepped : InputState → ℕ → InputState
stepped input count = record input { place = input.place + count; held = drop count input.held }

-- A line of these bytes behind others was passed over: to its line feed; to the end, where it has none; or to the limit, and a
-- byte past that is held.
abbrev pub PassedBehind : Option (List ℕ) → List ℕ → Passed → List ℕ → InputState → Option (List ℕ) → Type 0
PassedBehind first front passed.Line line input now = IsBehind first (front ++ (line ++ 10 ∷ [])) input now
PassedBehind first front passed.Rest line input now = IsBehind first (front ++ line) input now × (input.held ≡ []) × (input.ended ≡ true)
PassedBehind first front passed.Limit line input now =
    IsBehind first (front ++ line) input now × (input.place ≡ input.max) × (1 ≤ length input.held)

-- A line of which these bytes were passed over before.
pub record HasPassed
    (first : Option (List ℕ)) (front line : List ℕ) (passed : Passed) (input : InputState) (now : Option (List ℕ)) : Type 0 where
  pub more : List ℕ
  pub lacks : ¬ Contains (line ++ more) 10
  pub ends : PassedBehind first front passed (line ++ more) input now

-- Telling

-- What the answer to a case, before which there are so many, makes of the first that isn't `Yes`.
abbrev pub FindsUnproved : ℕ → Option ℕ → Answer → Option ℕ → Type 0
FindsUnproved count before answer after =
    (answers : List Answer) → count ≡ length answers → IsFirstUnproved answers before → IsFirstUnproved (answers ++ answer ∷ []) after

-- The cases are judged and told: the sink has gained a front of their lines since then, and the rest is held.
pub record HasTold (cases : List Case) (lines : Lines) (before after : Option (List ℕ)) : Type 0 where
  pub answers : List Answer
  pub are : AreAnswers cases answers
  pub count : lines.cases ≡ length answers
  pub unproved : IsFirstUnproved answers lines.unproved
  pub sent : Sent before (verdicts_from 0 answers) lines.held after

-- Walking

-- The same of an input whether or not it tells its bytes.
abbrev pub IsReadTo : ℕ → Option Checked → Option (List ℕ) → Option (List ℕ) → Type 0
IsReadTo max checked first now = IfSome first (λ bytes. IsCheckReadFor max checked bytes now)

-- These lines were taken, and the cases that are whole in them are told.
pub record IsUnderway (first now : Option (List ℕ)) (walk : Walk) (before after : Option (List ℕ)) : Type 0 where
  pub lines : List (List ℕ)
  pub cases : List Case
  pub behind : IsBehind first (ended lines) walk.input now
  pub buffer : IsBuffer walk.input
  pub limit : walk.max ≡ walk.input.max
  pub lack : All (λ line. ¬ Contains line 10) lines
  pub count : walk.number ≡ length lines
  pub stands : Stands lines cases walk.opened
  pub told : HasTold cases walk.lines before after

-- All that is to be told of the input is, and this is the answer, for which it was read.
pub record HasWalked
    (first now : Option (List ℕ)) (checked : Checked) (walk : Walk) (before after : Option (List ℕ)) : Type 0 where
  pub cases : List Case
  pub ending : CheckEnding
  pub of_input : IfSome first (λ bytes. IsChecked walk.max bytes cases ending)
  pub read : IsReadTo walk.max (Some checked) first now
  pub at_end : LeavesNothing checked → IsAtEnd now
  pub told : HasTold cases walk.lines before after
  pub tells : Tells checked ending told.answers

-- What a fault leaves: the input was read no further than a byte past the limit, and the sink has gained a prefix of the text.
abbrev pub Breaks : ℕ → ReadTexts
Breaks max first now before after = ChecksPart max first before after × IsReadTo max None first now
