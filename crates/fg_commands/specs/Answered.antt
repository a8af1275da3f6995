-- What a call of the program does: how its answer, what it reads, its lanes and what it writes follow from a behaviour and from
-- the input. This project's own. Threads are no part of it.
use Rattle.std.specs.Prelude.{◌≡◌, ◌⊎◌, ℕ, List, [], ◌∷◌, Option, IfSome}
use Rattle.std.specs.Io.KnownBytes.{IsAtEnd}
use Rattle.fg_io.specs.Faults.{CountsFault}
use Rattle.fg_io.specs.Outlet.{Lanes}
use Rattle.fg_results.specs.Counted.{CountsAhead}
use Rattle.fg_commands.specs.declared.ended.Why.{Why}
use Rattle.fg_commands.specs.declared.ended.Why.TheVariants as why
use Rattle.fg_commands.specs.Behaviour.{Behaviour}
use Rattle.fg_commands.specs.Ended.{IsFault}

-- A call that ends with this answer has done what a request of this behaviour asks for. `input` is the source before it and
-- `input'` after it, of which `left` tells the bytes that it has left and `input_faults` how many faults it has counted. So it is
-- with the outlet, of which `lanes_of` tells the lanes, and with the sink, of which `written` tells what it has.
pub record RequestAnswered {S O K : Type 0}
    (request : Behaviour) (answer : Why)
    (left : S → Option (List ℕ)) (input_faults : S → ℕ) (input input' : S)
    (lanes_of : O → Option Lanes) (lane_faults : O → ℕ) (lanes lanes' : O)
    (written : K → Option (List ℕ)) (out_faults : K → ℕ) (out out' : K) : Type 0 where
  -- The headline. With every answer but a fault's or want of memory's the lanes and the sink have gained exactly
  -- what is defined for the request over the input's bytes.
  pub answers : IsFault answer ⊎ request.gains answer (left input) (lanes_of lanes) (lanes_of lanes') (written out) (written out')
  -- And its last sentence. Where the answer is no fault, what comes back of a thinned encoding: of a trace that is one, on a
  -- repaired flow's port, of a drill's stream and of a sample's. No play of its flow is inconsistent, and the flow's lane gains
  -- the stream without the slots that no play shows: all of it, where what is sent peels. A capture that is written comes back as
  -- the trace of its records. And a survey of what is left of an encoding tells its losses and its layout.
  pub comes_back : request.comes_back answer (left input) (lanes_of lanes) (lanes_of lanes') (written out) (written out')
  -- The answer that a request has over the bytes is told, and no other.
  pub exactly : IfSome (left input) (λ bytes. (due : Why) → request.is_answer bytes due → IsFault answer ⊎ (answer ≡ due))
  pub complete : IfSome (left input) (λ bytes. (due : Why) → request.is_answer bytes due
      → ¬ CountsFault (input_faults input) (input_faults input')
      → ¬ CountsFault (out_faults out) (out_faults out')
      → ¬ CountsFault (lane_faults lanes) (lane_faults lanes')
      → (answer ≡ due) ⊎ (answer ≡ why.Memory))
  -- After a fault or want of memory the outputs have gained parts, and the lanes stand at a stage: the first fault ends the
  -- call. After a read fault a request that writes last has written nothing.
  pub part : IsFault answer → request.part (left input) (lanes_of lanes) (lanes_of lanes') written out out'
  pub stops : IsFault answer → request.stops answer (left input) (lanes_of lanes) (lanes_of lanes')
  -- After a failed read of a trace the lanes have what the records show that stand whole in what was read.
  pub at_read : answer ≡ why.ReadFault → request.at_read (left input) (left input') (lanes_of lanes) (lanes_of lanes')
  pub no_report : request.writes_last → answer ≡ why.ReadFault → out' ≡ out
  -- A fault of the outside is answered only where it was counted in this call. With every other answer no fault of writing was,
  -- and none of reading but where the request may have read on. No count falls.
  pub counts : CountsAhead (request.may_have_failed_to_read answer) (answer ≡ why.ReadFault) (answer ≡ why.WriteFault)
      ((input_faults input, input_faults input') ∷ [])
      ((out_faults out, out_faults out') ∷ (lane_faults lanes, lane_faults lanes') ∷ [])
  -- What a request has no business with is left alone, whatever the answer. An input that isn't what the request reads
  -- makes nothing. What it reads is read as far as the answer needs, and at most a byte past the limit.
  pub nothing_read : request.reads_nothing → input' ≡ input
  pub nothing_written : request.writes_nothing → out' ≡ out
  pub no_lane : request.makes_no_lane → lanes' ≡ lanes
  pub no_input : IfSome (left input) (λ bytes. request.is_no_input bytes → (lanes' ≡ lanes) × (out' ≡ out))
  pub reads : IfSome (left input) (λ bytes. request.reads answer bytes (left input'))
  pub all_read : request.reads_all answer → IsAtEnd (left input')
