-- How far an inspection has come. No public contract cites what stands here.
use Rattle.std.specs.Prelude.{◌≡◌, ℕ, Option, List, [], length}
use Rattle.fg_io.specs.Sent.{Sent}
use Rattle.fg_io.specs.Sink.{Gains, GainsPart}
use Rattle.fg_flows.specs.Flows.{IsTable}
use Rattle.fg_trace.specs.Trace.{Record, Ending}
use Rattle.fg_inspect.specs.declared.lines.Lines.{Lines}
use Rattle.fg_inspect.specs.Text.{IsText}

-- The text of these records is told: the sink has gained its front since then, and the lines hold the rest.
pub record HasTold
    (flows : List ℕ) (records : List Record) (lines : Lines) (before after : Option (List ℕ)) : Type 0 where
  pub table : IsTable flows
  pub text : List ℕ
  pub is_text : IsText flows records text
  pub number : lines.number ≡ length records
  pub sent : Sent before text lines.held after

-- No record is told.
pub record IsNew (flows : List ℕ) (lines : Lines) : Type 0 where
  pub table : IsTable flows
  pub empty : lines.held ≡ []
  pub number : lines.number ≡ 0

-- The sink has gained the text of these records.
pub record HasGained (flows : List ℕ) (records : List Record) (end : Ending) (before after : Option (List ℕ)) : Type 0 where
  pub text : List ℕ
  pub is_text : IsText flows records text
  pub gained : Gains before text after

-- It has gained a prefix of it.
abbrev pub HasPart : List ℕ → List Record → Option (List ℕ) → Option (List ℕ) → Type 0
HasPart flows records before after = (text : List ℕ) → IsText flows records text → GainsPart before text after
