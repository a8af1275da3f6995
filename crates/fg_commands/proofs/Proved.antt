-- Where nothing was proved, what is written is a part, as it was.
use Rattle.std.proofs.Common.{ℕ, List, Option, None, Some}
use Rattle.fg_io.specs.Laws.{NoneIsPart}
use Rattle.fg_flows.specs.declared.Plan.{Plan}
use Rattle.fg_proof.specs.Text.{cases_text}
use Rattle.fg_prove.specs.Proved.{ProvesPart}
use Rattle.fg_commands.specs.Filter.{filter}
use Rattle.fg_commands.specs.Proving.{proving}
use Rattle.fg_commands.proofs.Lawful.{Lawful}
use Rattle.fg_commands.proofs.Traces.{trace_lawful}

none_proved : NoneIsPart → (plan : Plan) (input written : Option (List ℕ)) → ProvesPart plan input written written
none_proved none plan None written = tt
none_proved none plan (Some bytes) written = λ records end cases trace are. none written (cases_text cases)

pub lawful : NoneIsPart → (plan : Plan) → Lawful (filter (proving plan))
lawful none plan = trace_lawful plan.max _ (ProvesPart plan) (none_proved none plan)
