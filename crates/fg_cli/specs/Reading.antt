-- What the private functions of the reader stand for. No public contract cites it.
use Rattle.std.specs.Prelude.{◌≡◌, ◌≤◌, ℕ, List, Option, Some, None, Result, IfErr, IfOk, length, slice_index}
use Rattle.fg_cli.specs.declared.grammar.Row.{Row}
use Rattle.fg_cli.specs.declared.grammar.Values.{Values}
use Rattle.fg_cli.specs.declared.grammar.Values.TheVariants as values
use Rattle.std.specs.List.{All}
use Rattle.fg_flows.specs.declared.TableFault.{TableFault}
use Rattle.fg_flows.specs.declared.TableFault.TheVariants as tables
use Rattle.fg_cli.specs.declared.ReadWords.{ReadWords}
use Rattle.fg_cli.specs.declared.ReadWords.TheVariants as answer
use Rattle.fg_cli.specs.declared.WordFault.TheVariants.{Flows}
use Rattle.fg_cli.specs.declared.Order.{Order}
use Rattle.fg_cli.specs.declared.grammar.Command.{Command}
use Rattle.fg_cli.specs.declared.grammar.Key.{Key}
use Rattle.fg_cli.specs.declared.settings.Setting.{Setting}
use Rattle.fg_cli.specs.Grammar.{row, Range, TableRow, Number, Either, Allows, most_of, value_text}
use Rattle.fg_cli.specs.Lines.{values_of, AtMost, IsKnown}
use Rattle.fg_cli.specs.Orders.{AreWhole, DepthIsBelow, FirstOfLine, IsDepthWord, IsOrder, OrderFits}

-- the range and the row of the code, as those of the table
abbrev pub range_seen : Values → Range
range_seen (values.Number least greatest) = Number least greatest
range_seen (values.Either first second) = Either first.now second.now

abbrev pub row_seen : Row → TableRow
row_seen r = record { name = r.name.now; range = range_seen r.values; absent = r.absent; most = r.most }

-- the value that the text stands for, or none
abbrev pub Reads : Range → List ℕ → Option ℕ → Type 0
Reads range text None = (n : ℕ) → Allows range n → text ≡ value_text range n → ⊥
Reads range text (Some n) = Allows range n × (text ≡ value_text range n)

-- the greatest value of a range
abbrev pub greatest_of : Range → ℕ
greatest_of (Number least greatest) = greatest
greatest_of (Either first second) = 1

-- the text begins with a digit, and with 0 only where it is 0
abbrev pub BeginsPlain : List ℕ → Type 0
BeginsPlain text =
    (1 ≤ length text) × (48 ≤ slice_index text 0) × (slice_index text 0 ≡ 48 → length text ≡ 1)

-- no value is past its name's greatest
abbrev pub AreBounded : List Setting → Type 0
AreBounded settings = All (λ setting. setting.value ≤ greatest_of (row setting.key).range) settings

-- each value is one that its name takes
abbrev pub InRanges : List Setting → Type 0
InRanges settings = All (λ setting. Allows (row setting.key).range setting.value) settings

-- the word that sets a depth below the window, or none where the depth isn't below it
abbrev pub IsShallow : List Setting → Option ℕ → Type 0
IsShallow settings None = ¬ DepthIsBelow settings
IsShallow settings (Some i) = DepthIsBelow settings × IsDepthWord settings i

-- the fault is the first of a command with these settings; want of memory has no cause
abbrev pub IsLineFault : Command → List Setting → ReadWords → Type 0
IsLineFault command settings answer.Memory = Unit {0}
IsLineFault command settings (answer.Words fault) = FirstOfLine command settings fault

-- settings of which none is missing and the depth isn't below the window
pub record CanBeOrdered (command : Command) (settings : List Setting) : Type 0 where
  pub known : All (IsKnown command) settings
  pub bounded : AreBounded settings
  pub limited : (key : Key) → AtMost (most_of command key) (length (values_of key settings))
  pub whole : AreWhole command settings

-- the order of the command with these settings, or the first rule that they break
pub record Orders (command : Command) (settings : List Setting) (result : Result Order ReadWords) : Type 0 where
  pub order : IfOk result (IsOrder command settings)
  pub fits : IfOk result OrderFits
  pub faults : IfErr result (IsLineFault command settings)

-- a table's fault, and a layout's, as the fault of the words
abbrev pub table_fault : TableFault → ReadWords
table_fault tables.Memory = answer.Memory
table_fault (tables.Flow f) = answer.Words (Flows f)
