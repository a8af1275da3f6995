-- Numbers of 64 bits.
use Rattle.std.specs.Prelude.{ℕ, ◌^◌, ◌<◌, List, [], ◌∷◌, ⊤}
use Rattle.fg_report.specs.declared.marks.Marks.{Marks}
use Rattle.fg_report.specs.declared.flow_sum.FlowSum.{FlowSum}
use Rattle.fg_report.specs.declared.tail.Tail.{Tail}
use Rattle.fg_report.specs.declared.tail.Tail.TheVariants.{Ended, Cut, TooLong}

-- The number has at most 64 bits.
abbrev pub Fits : ℕ → Type 0
Fits number = number < 2 ^ 64

-- So have all counters,
pub record MarksFit (marks : Marks) : Type 0 where
  pub admitted : Fits marks.admitted
  pub duplicate : Fits marks.duplicate
  pub conflict : Fits marks.conflict
  pub late : Fits marks.late
  pub not_started : Fits marks.not_started
  pub before_start : Fits marks.before_start
  pub ahead : Fits marks.ahead
  pub crowded : Fits marks.crowded
  pub bad : Fits marks.bad
  pub foreign : Fits marks.foreign

-- all runs,
abbrev pub GapsFit : List (ℕ × ℕ) → Type 0
GapsFit [] = ⊤
GapsFit (run ∷ more) = Fits run.0 × Fits run.1 × GapsFit more

-- all numbers of a flow,
pub record FlowFits (flow : FlowSum) : Type 0 where
  pub port : Fits flow.port
  pub shown : Fits flow.shown
  pub repaired : Fits flow.repaired
  pub missing : Fits flow.missing
  pub windows : Fits flow.windows
  pub inconsistent : Fits flow.inconsistent
  pub media : MarksFit flow.media
  pub column : MarksFit flow.column
  pub row : MarksFit flow.row
  pub runs : Fits flow.runs
  pub gaps : GapsFit flow.gaps

-- of all flows,
abbrev pub FlowsFit : List FlowSum → Type 0
FlowsFit [] = ⊤
FlowsFit (flow ∷ more) = FlowFits flow × FlowsFit more

-- and the place where a trace ends.
abbrev pub TailFits : Tail → Type 0
TailFits Ended = ⊤
TailFits (Cut place) = Fits place
TailFits (TooLong place) = Fits place
