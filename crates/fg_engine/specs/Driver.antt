-- How a repair begins, and what it has come to once its records were taken. No clause of a whole repair cites what stands here.
use Rattle.std.specs.Prelude.{◌≡◌, ℕ, Option, None, IfSome, IfOk, IfErr, Result, List, []}
use Rattle.fg_io.specs.declared.fault.Fault.{Fault}
use Rattle.fg_io.specs.Faults.{Counts}
use Rattle.fg_io.specs.Outlet.{Lanes}
use Rattle.fg_trace.specs.Finish.{finish_after}
use Rattle.fg_trace.specs.Reading.{HasReached}
use Rattle.fg_trace.specs.Trace.{IsTrace, NotTrace}
use Rattle.fg_flows.specs.declared.Plan.{Plan}
use Rattle.fg_report.specs.declared.tail.Tail.{Tail}
use Rattle.fg_results.specs.Counted.{CountsBeside}
use Rattle.fg_results.specs.Stops.{Growth, ByRecord, ByBatch}
use Rattle.fg_engine.specs.declared.records.Begun.{Begun}
use Rattle.fg_engine.specs.Engine.{IsAtStart, HasRead, TookAll, LanesStop, StandsAtFault, told_finish}

-- What a part of a repair has counted whose lanes grow so.
abbrev pub PartCounts : {A : Type 0} → Growth → Result A Fault → List (ℕ × ℕ) → List (ℕ × ℕ) → Type 0
PartCounts ByRecord result sources sinks = Counts result sources sinks
PartCounts ByBatch result sources sinks = CountsBeside result sources sinks

-- The input begins as a trace does, where it is told.
abbrev pub HasMagic : Plan → Option (List ℕ) → Type 0
HasMagic plan first = IfSome first (λ bytes. (place : ℕ) → ¬ IsTrace bytes plan.max [] (NotTrace place))

-- The repair of an input has begun: its lanes are made, and the reader stands before the first record.
pub record HasBegun {D : Type 0} (plan : Plan) (first left : Option (List ℕ)) (begun : Begun D) (before after : Option Lanes) : Type 0 where
  pub magic : HasMagic plan first
  pub start : IsAtStart plan first left begun.reader begun.engine before after
  pub far : HasRead plan.max begun.reader first left
  pub unkept : begun.reader.kept ≡ None
  pub max : begun.reader.max ≡ plan.max
  pub sums : begun.sums.items ≡ []

-- What came of taking the records of a repair that had begun, whose lanes grow so: all were taken, and the input was read as far as
-- that needs; or the lanes have stopped.
pub record HasTakenAll {D : Type 0}
    (growth : Growth) (plan : Plan) (first left : Option (List ℕ)) (begun : Begun D) (before after : Option Lanes)
    (taken : Result Tail Fault) : Type 0 where
  pub magic : HasMagic plan first
  pub whole : IfOk taken (λ tail. TookAll plan first begun.engine tail before after)
  pub stops : IfErr taken (λ fault. LanesStop growth plan (finish_after fault) first before after)
  pub at_read : IfErr taken (λ fault. StandsAtFault plan fault first left before after)
  pub far : HasRead plan.max begun.reader first left
  pub reaches : IfOk taken (λ tail. HasReached (told_finish tail) begun.reader left)
