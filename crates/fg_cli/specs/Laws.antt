-- Laws of the command line.
use Rattle.std.specs.Prelude.{◌≡◌, ◌↔◌, ℕ, List}
use Rattle.fg_shape.specs.Limits.{HasColumns, HasRows}
use Rattle.fg_cli.specs.declared.grammar.Command.{Command}
use Rattle.fg_cli.specs.declared.grammar.Key.TheVariants as key
use Rattle.fg_cli.specs.declared.help.Question.{Question}
use Rattle.fg_cli.specs.declared.settings.Setting.{Setting}
use Rattle.fg_cli.specs.declared.Order.{Order}
use Rattle.fg_cli.specs.declared.WordFault.{WordFault}
use Rattle.fg_cli.specs.Grammar.{Allows, told_row}
use Rattle.fg_cli.specs.Help.{IsQuestion}
use Rattle.fg_cli.specs.Lines.{IsLine}
use Rattle.fg_cli.specs.Orders.{FirstFault, IsReading}

-- Words are a command and settings in at most one way.
abbrev pub OneLine : Type 0
OneLine =
    (words : List (List ℕ)) (b c : Command) (xs ys : List Setting)
    → IsLine words b xs → IsLine words c ys → (b ≡ c) × (xs ≡ ys)

-- Words have at most one reading.
abbrev pub OneReading : Type 0
OneReading = (words : List (List ℕ)) (a b : Order) → IsReading words a → IsReading words b → a ≡ b

-- Words that have a reading have no fault.
abbrev pub ReadingsHaveNoFault : Type 0
ReadingsHaveNoFault =
    (words : List (List ℕ)) (order : Order) (fault : WordFault)
    → IsReading words order → FirstFault words fault → ⊥

-- Words break at most one rule first.
abbrev pub OneFault : Type 0
OneFault =
    (words : List (List ℕ)) (a b : WordFault) → FirstFault words a → FirstFault words b → a ≡ b

-- Words are at most one question.
abbrev pub OneQuestion : Type 0
OneQuestion = (words : List (List ℕ)) (p q : Question) → IsQuestion words p → IsQuestion words q → p ≡ q

-- The words of a question have no reading.
abbrev pub QuestionsHaveNoReading : Type 0
QuestionsHaveNoReading =
    (words : List (List ℕ)) (order : Order) (question : Question)
    → IsQuestion words question → IsReading words order → ⊥

-- The help tells the columns and the rows that a layout has.
abbrev pub ToldColumns : Type 0
ToldColumns = (n : ℕ) → Allows (told_row key.Columns).range n ↔ HasColumns n

abbrev pub ToldRows : Type 0
ToldRows = (n : ℕ) → Allows (told_row key.Rows).range n ↔ HasRows n
