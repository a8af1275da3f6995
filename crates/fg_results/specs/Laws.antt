-- Laws that show the definition of a repair to be right.
use Rattle.std.specs.Prelude.{◌≡◌, ◌≤◌, ◌++◌, ℕ, Option, Some, List}
use Rattle.fg_io.specs.Outlet.{Lanes}
use Rattle.fg_io.specs.Prefix.{IsPrefix}
use Rattle.fg_trace.specs.declared.step.Finish.{Finish}
use Rattle.fg_flows.specs.declared.Plan.{Plan}
use Rattle.fg_trace.specs.Trace.{Record, Ending, IsLongest, IsTrace}
use Rattle.fg_shape.specs.Playout.{Playout}
use Rattle.fg_results.specs.Flow.{FlowResult, IsFlowResult}
use Rattle.fg_results.specs.Lanes.{PutsAllPart}
use Rattle.fg_results.specs.Repair.{AreResults, lanes_of}
use Rattle.fg_results.specs.Stops.{Growth, Stage, Stops, HasGained, HasShown, LanesShow, StandsAtRead}

-- Records give a flow one result at most.
abbrev pub OneFlowResult : Type 0
OneFlowResult =
    (playout : Playout) (flow : ℕ) (records : List Record) (a b : FlowResult)
    → IsFlowResult playout records flow a → IsFlowResult playout records flow b → a ≡ b

-- Bytes have at most one list of results.
abbrev pub OneResult : Type 0
OneResult =
    (plan : Plan) (bytes : List ℕ) (records others : List Record) (end end' : Ending) (one other : List FlowResult)
    → IsTrace bytes plan.max records end → IsTrace bytes plan.max others end'
    → AreResults plan records one → AreResults plan others other → one ≡ other

-- What a flow has shown is the front of its lane in every trace that begins with the records taken.
abbrev pub ShownIsFront : Type 0
ShownIsFront =
    (playout : Playout) (flow : ℕ) (records later : List Record) (bytes : List ℕ) (result : FlowResult)
    → HasShown playout flow records bytes → IsFlowResult playout (records ++ later) flow result
    → IsPrefix bytes result.lane

-- At a stage a flow's lane has gained one list of bytes at most.
abbrev pub OneGained : Type 0
OneGained =
    (plan : Plan) (records : List Record) (stage : Stage) (flow : ℕ) (one other : List ℕ)
    → HasGained plan records stage flow one → HasGained plan records stage flow other → one ≡ other

-- Wherever a repair stops, each flow's lane has gained a prefix of its bytes.
abbrev pub StopsLeaveParts : Type 0
StopsLeaveParts =
    (growth : Growth) (plan : Plan) (answer : Finish) (records : List Record) (results : List FlowResult)
    (before after : Option Lanes)
    → 1 ≤ plan.window → AreResults plan records results → Stops growth plan answer records before after
    → PutsAllPart before plan.table (lanes_of results) after

-- After a failed read the lanes show the records that stand whole in what was read, whichever way these are told.
abbrev pub WholeRecordsAreShown : Type 0
WholeRecordsAreShown =
    (plan : Plan) (bytes read rest : List ℕ) (records : List Record) (before after : Option Lanes)
    → StandsAtRead plan bytes (Some rest) before after → bytes ≡ read ++ rest → IsLongest read plan.max records
    → LanesShow plan records before after
