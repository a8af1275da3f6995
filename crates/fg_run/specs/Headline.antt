-- The headline in terms of peelings: what each window of a repair shows. This project's own.
use Rattle.std.specs.Prelude.{◌≡◌, ℕ, Some, Option, List, [], map}
use Rattle.std.specs.List.{AllZip}
use Rattle.fg_io.specs.Outlet.{Lanes}
use Rattle.fg_shape.specs.Playout.{Playout}
use Rattle.fg_trace.specs.Trace.{Record, Ending, IsTrace}
use Rattle.fg_flows.specs.declared.Plan.{Plan}
use Rattle.fg_flows.specs.Plan.{playout_of}
use Rattle.fg_cli.specs.declared.Order.TheVariants.{Repair}
use Rattle.fg_playout.specs.PlayedAfter.{EachAfter, ShowsWhatWasAdmitted}
use Rattle.fg_playout.specs.PlayedOn.{PlayOn, played_on}
use Rattle.fg_results.specs.Flow.{FlowResult, IsFlowResult}
use Rattle.fg_results.specs.Repair.{Gain}
use Rattle.fg_commands.specs.declared.ended.Why.{Why}
use Rattle.fg_commands.specs.Endings.{why_of_ending}
use Rattle.fg_run.specs.declared.request.Request.TheVariants.{Ordered}
use Rattle.fg_run.specs.Behaviours.{behaviour_of}
use Rattle.fg_run.specs.Request.{Asks}

-- The records give a flow this result: its lane and its counts are those of the plays of its run. Each of these, on its desk, shows
-- what every sound peeling of what was admitted before it gives, or the received words alone where none is sound.
pub record FlowShows (playout : Playout) (records : List Record) (flow : ℕ) (result : FlowResult) : Type 0 where
  pub given : IsFlowResult playout records flow result
  pub mades : List PlayOn
  pub mades_are : mades ≡ played_on playout given.arrivals given.plays given.replies given.run
  pub plays_are : map (λ made. made.play) mades ≡ given.plays
  pub windows : EachAfter (ShowsWhatWasAdmitted playout given.arrivals) [] mades

-- A repair of the trace in these bytes answers so, and lanes and report have gained what the results of the flows say, of which
-- each shows so.
pub record RepairShows
    (plan : Plan) (answer : Why) (bytes : List ℕ) (lanes lanes' : Option Lanes) (written written' : Option (List ℕ)) : Type 0 where
  pub records : List Record
  pub end : Ending
  pub results : List FlowResult
  pub answer_is : answer ≡ why_of_ending end
  pub of_input : IsTrace bytes plan.max records end
  pub flows : AllZip (FlowShows (playout_of plan) records) plan.table results
  pub gain : Gain plan records results end lanes lanes' written written'

-- That is what `run` has done, where its words ask for a repair and what it owes for that is gained.
abbrev pub WindowsShowSoundPeelings : Type 0
WindowsShowSoundPeelings =
    (words : List (List ℕ)) (plan : Plan) (answer : Why) (bytes : List ℕ)
    (lanes lanes' : Option Lanes) (written written' : Option (List ℕ))
    → Asks words (Ordered (Repair plan))
    → (behaviour_of (Ordered (Repair plan))).gains answer (Some bytes) lanes lanes' written written'
    → RepairShows plan answer bytes lanes lanes' written written'
