-- `check` accepts what `prove` writes. This project's own.
use Rattle.std.specs.Prelude.{◌≡◌, ◌≤◌, ℕ, Some, Option, List, length}
use Rattle.fg_io.specs.Outlet.{Lanes}
use Rattle.fg_io.specs.Sink.{Gains}
use Rattle.fg_flows.specs.declared.Plan.{Plan}
use Rattle.fg_cli.specs.declared.Order.TheVariants.{Check, Prove}
use Rattle.fg_proof.specs.declared.case.Case.{Case}
use Rattle.fg_proof.specs.Text.{cases_text}
use Rattle.fg_check.specs.Accepted.{all_yes}
use Rattle.fg_commands.specs.declared.ended.Why.{Why}
use Rattle.fg_commands.specs.declared.ended.Why.TheVariants as why
use Rattle.fg_run.specs.declared.request.Request.TheVariants.{Ordered}
use Rattle.fg_run.specs.Behaviours.{behaviour_of}
use Rattle.fg_run.specs.Request.{Asks}

-- The answer of `check` over this text, under a limit on its bytes, is that it is done, and where it has gained what it owes for
-- that it has written a `yes` for each of these cases.
pub record ChecksAsDone (max : ℕ) (text : List ℕ) (cases : List Case) : Type 0 where
  pub answer : (behaviour_of (Ordered (Check max))).is_answer text why.Done
  pub only :
      (other : Why) (lanes lanes' : Option Lanes) (written written' : Option (List ℕ))
      → (behaviour_of (Ordered (Check max))).gains other (Some text) lanes lanes' written written'
      → (other ≡ why.Done) × Gains written (all_yes cases) written'

-- What `prove` wrote is the text of cases, and `check` accepts it wherever it is no longer than its limit.
pub record IsAcceptedText (written written' : Option (List ℕ)) : Type 0 where
  pub cases : List Case
  pub gained : Gains written (cases_text cases) written'
  pub accepted : (max : ℕ) → length (cases_text cases) ≤ max → ChecksAsDone max (cases_text cases) cases

-- That is so where the words ask for a proof and what `run` owes for that is gained.
abbrev pub ProofsAreAccepted : Type 0
ProofsAreAccepted =
    (words : List (List ℕ)) (plan : Plan) (answer : Why) (bytes : List ℕ)
    (lanes lanes' : Option Lanes) (written written' : Option (List ℕ))
    → Asks words (Ordered (Prove plan))
    → (behaviour_of (Ordered (Prove plan))).gains answer (Some bytes) lanes lanes' written written'
    → IsAcceptedText written written'
