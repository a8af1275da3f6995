-- What a repair of a trace is: how its answer, its lanes and its report follow from the input. This project's own. Threads
-- are no part of it.
use Rattle.std.specs.Prelude.{◌≡◌, ◌⊎◌, ℕ, Option, IfSome, List, [], ◌∷◌}
use Rattle.std.specs.Io.KnownBytes.{IsAtEnd}
use Rattle.fg_io.specs.Outlet.{Lanes}
use Rattle.fg_trace.specs.declared.step.Finish.{Finish}
use Rattle.fg_trace.specs.declared.step.Finish.TheVariants as finish
use Rattle.fg_trace.specs.Finish.{IsFault, ReadsAll, finish_of}
use Rattle.fg_trace.specs.Reading.{IsReadFor}
use Rattle.fg_trace.specs.Trace.{Record, Ending, NotTrace, IsTrace}
use Rattle.fg_flows.specs.declared.Plan.{Plan}
use Rattle.fg_results.specs.Counted.{RepairCounts}
use Rattle.fg_results.specs.Repair.{Finishes, OutputsPart}
use Rattle.fg_results.specs.Stops.{Growth, StandsAtRead, StopsIn}

-- The call that answers so is a repair by this plan, whose lanes grow so. `input` are the bytes of the source before it, `input'` those that are
-- left after it, `lanes_of` tells an outlet's lanes, and `written` what a sink has.
pub record IsRepair {O K : Type 0}
    (growth : Growth) (plan : Plan) (answer : Finish) (input input' : Option (List ℕ))
    (lanes_of : O → Option Lanes) (lanes lanes' : O)
    (written : K → Option (List ℕ)) (out out' : K) : Type 0 where
  -- Every answer but a fault's or want of memory's is that of the trace's ending, and then the outputs are whole.
  pub whole : IsFault answer ⊎ Finishes plan answer input (lanes_of lanes) (lanes_of lanes') (written out) (written out')
  pub exactly : IfSome input (λ bytes. (records : List Record) (end : Ending)
      → IsTrace bytes plan.max records end → IsFault answer ⊎ (answer ≡ finish_of end))
  pub all_read : ReadsAll answer → IsAtEnd input'
  -- Whatever the answer, the input is read as far as it needs, and at most a byte past the limit.
  pub reads : IfSome input (λ bytes. IsReadFor plan.max answer bytes input')
  -- What is no trace makes nothing, whatever the answer.
  pub refused : IfSome input (λ bytes. (place : ℕ)
      → IsTrace bytes plan.max [] (NotTrace place) → (lanes' ≡ lanes) × (out' ≡ out))
  -- After a fault or want of memory the outputs are parts.
  pub part : IsFault answer → OutputsPart plan input (lanes_of lanes) (lanes_of lanes') written out out'
  -- The first fault ends the call: each lane has gained exactly what was shown up to there, but for the one that it broke.
  pub stops : IsFault answer → StopsIn growth plan answer input (lanes_of lanes) (lanes_of lanes')
  -- After a failed read each lane has exactly what the records show that were whole in what was read before it.
  pub at_read : answer ≡ finish.ReadFault → IfSome input (λ bytes. StandsAtRead plan bytes input' (lanes_of lanes) (lanes_of lanes'))
  -- After a read fault no report was begun.
  pub no_report : answer ≡ finish.ReadFault → out' ≡ out

-- All that a call owes that repairs a trace by this plan, whose lanes grow so, and that ends with this answer. `input` is the source
-- before it and `input'` after it, of which `left` tells the bytes that it has left, `input_faults` how many faults it has counted, and
-- `fixed_of` what no read changes. So it is with the outlet, of which `lanes_of` tells the lanes, and with the sink, of which `written`
-- tells what it has.
pub record Repairs {S F O K : Type 0}
    (growth : Growth) (plan : Plan) (answer : Finish)
    (left : S → Option (List ℕ)) (input_faults : S → ℕ) (fixed_of : S → F) (input input' : S)
    (lanes_of : O → Option Lanes) (lane_faults : O → ℕ) (lanes lanes' : O)
    (written : K → Option (List ℕ)) (out_faults : K → ℕ) (out out' : K) : Type 0 where
  -- Its answer, its lanes and its report follow from the input.
  pub repairs : IsRepair growth plan answer (left input) (left input') lanes_of lanes lanes' written out out'
  -- A fault of the outside is answered only where it was counted in this call, and with no other answer was one of it counted, but for
  -- this: where lanes grow batch by batch, a batch is read while another is written, so a call that breaks off may have counted faults of
  -- reading beside the one that it answers. No count falls.
  pub faults : RepairCounts growth answer ((input_faults input, input_faults input') ∷ [])
      ((out_faults out, out_faults out') ∷ (lane_faults lanes, lane_faults lanes') ∷ [])
  -- Only reads change the source.
  pub fixed : fixed_of input' ≡ fixed_of input
