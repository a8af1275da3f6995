-- What a call of the program does: how its answer, what it reads, its lanes and what it writes follow from its words and from the
-- input. This project's own. Threads are no part of it.
use Rattle.std.specs.Prelude.{◌≡◌, ◌⊎◌, ℕ, List, Option}
use Rattle.fg_io.specs.Outlet.{Lanes}
use Rattle.fg_cli.specs.declared.WordFault.{WordFault}
use Rattle.fg_commands.specs.declared.ended.Why.{Why}
use Rattle.fg_commands.specs.declared.ended.Why.TheVariants as why
use Rattle.fg_commands.specs.Answered.{RequestAnswered}
use Rattle.fg_run.specs.declared.request.Request.{Request}
use Rattle.fg_run.specs.declared.request.Request.TheVariants.{Refused}
use Rattle.fg_run.specs.Behaviours.{behaviour_of}
use Rattle.fg_run.specs.Request.{Asks}

-- A call that ends with this answer has done what the given words ask for.
pub record WordsAnswered {S O K : Type 0}
    (given : List (List ℕ)) (answer : Why)
    (left : S → Option (List ℕ)) (input_faults : S → ℕ) (input input' : S)
    (lanes_of : O → Option Lanes) (lane_faults : O → ℕ) (lanes lanes' : O)
    (written : K → Option (List ℕ)) (out_faults : K → ℕ) (out out' : K) : Type 0 where
  -- Whatever it is that they ask for.
  pub answered : (request : Request) → Asks given request
      → RequestAnswered (behaviour_of request) answer left input_faults input input' lanes_of lane_faults lanes lanes' written out_faults out out'
  -- Every answer but want of memory comes after the words were understood: they ask for something, and where they are
  -- told to break a rule they do.
  pub asked : (answer ≡ why.Memory) ⊎ ((request : Request) × Asks given request)
  pub words : (fault : WordFault) → answer ≡ why.Words fault → Asks given (Refused fault)
