-- What a pick comes to. This project's own.
use Rattle.std.specs.Prelude.{◌≡◌, ◌≤◌, ℕ, ⊤, Option, IfSome, List, [], length}
use Rattle.fg_io.specs.Sink.{Gains, GainsPart}
use Rattle.fg_flows.specs.declared.selection.Selection.{Selection}
use Rattle.fg_trace.specs.declared.step.Finish.{Finish}
use Rattle.fg_trace.specs.declared.step.Finish.TheVariants as finish
use Rattle.fg_trace.specs.Finish.{finish_of}
use Rattle.fg_trace.specs.Trace.{Record, Ending, Ended, NotTrace, Cut, TooLong, IsTrace, trace_of}
use Rattle.fg_pick.specs.Picked.{IsPicked}

-- What is written of a trace of this ending, of which these records are picked: of what is no trace nothing, and else their
-- trace.
abbrev pub written_of : Ending → List Record → List ℕ
written_of (NotTrace n) picked = []
written_of Ended picked = trace_of picked
written_of (Cut n) picked = trace_of picked
written_of (TooLong n) picked = trace_of picked

-- The sink has gained the trace of the records that are picked of the input's, and the answer is that of its ending.
pub record Picks
    (selection : Selection) (max : ℕ) (answer : Finish) (input written written' : Option (List ℕ)) : Type 0 where
  pub records : List Record
  pub picked : List Record
  pub end : Ending
  pub answer_is : answer ≡ finish_of end
  pub of_input : IfSome input (λ bytes. IsTrace bytes max records end)
  pub is_picked : IsPicked selection records picked
  pub gained : Gains written (written_of end picked) written'

-- The sink has gained a prefix of that.
abbrev pub PicksPart : Selection → ℕ → Option (List ℕ) → Option (List ℕ) → Option (List ℕ) → Type 0
PicksPart selection max input written written' =
    IfSome input (λ bytes. (records picked : List Record) (end : Ending)
    → IsTrace bytes max records end → IsPicked selection records picked
    → GainsPart written (written_of end picked) written')

-- The answers with which a trace is written.
abbrev pub WritesTrace : Finish → Type 0
WritesTrace finish.Done = ⊤
WritesTrace (finish.Cut n) = ⊤
WritesTrace (finish.TooLong n) = ⊤
WritesTrace (finish.NotTrace n) = ⊥
WritesTrace finish.ReadFault = ⊥
WritesTrace finish.WriteFault = ⊥
WritesTrace finish.Memory = ⊥

-- The sink has gained a whole trace, no longer than the input may be, which is read back as the records that are picked of
-- these bytes' trace, under each limit that it is within.
pub record ComesBack (selection : Selection) (max : ℕ) (bytes : List ℕ) (before after : Option (List ℕ)) : Type 0 where
  pub trace : List ℕ
  pub gained : Gains before trace after
  pub within : length trace ≤ max
  pub read_back : (records picked : List Record) (end : Ending) (limit : ℕ)
      → IsTrace bytes max records end → IsPicked selection records picked → length trace ≤ limit
      → IsTrace trace limit picked Ended
