-- What the program owes for each request: this project's own.
use Rattle.std.specs.Prelude.{◌≡◌, ⊤}
use Rattle.fg_cli.specs.declared.Order.TheVariants.{Repair, Encode, Drill, Inspect, Sample, FromCapture, ToCapture, Monitor, Prove, Check, ChooseMatrix, Survey, Pick}
use Rattle.fg_cli.specs.declared.WordFault.{WordFault}
use Rattle.fg_commands.specs.declared.ended.Why.TheVariants as why
use Rattle.fg_commands.specs.Answering.{answering}
use Rattle.fg_commands.specs.Behaviour.{Behaviour}
use Rattle.fg_commands.specs.Checking.{checking}
use Rattle.fg_commands.specs.Encoding.{encoding}
use Rattle.fg_commands.specs.Filter.{filter}
use Rattle.fg_commands.specs.FromCapture.{from_capture}
use Rattle.fg_commands.specs.Inspection.{inspection}
use Rattle.fg_commands.specs.Monitoring.{monitoring}
use Rattle.fg_commands.specs.Picking.{picking}
use Rattle.fg_commands.specs.Planning.{planning}
use Rattle.fg_commands.specs.Printer.{printer, silent, unread}
use Rattle.fg_commands.specs.Proving.{proving}
use Rattle.fg_commands.specs.Surveying.{surveying}
use Rattle.fg_commands.specs.ToCapture.{to_capture}
use Rattle.fg_run.specs.declared.request.Request.{Request}
use Rattle.fg_run.specs.declared.request.Request.TheVariants.{Asked, Ordered, Refused}
use Rattle.fg_run.specs.Drilling.{drilling}
use Rattle.fg_run.specs.Repairing.{repairing}
use Rattle.fg_run.specs.Sampling.{sampling}

-- Words that break a rule are refused: nothing is read, written or made.
abbrev pub refusal : WordFault → Behaviour
refusal fault = record (unread (why.Words fault) silent) {
  part = λ {K} input lanes lanes' written out out'. (lanes' ≡ lanes) × (out' ≡ out);
  writes_nothing = ⊤;
}

abbrev pub behaviour_of : Request → Behaviour
behaviour_of (Asked question) = printer (answering question)
behaviour_of (Refused fault) = refusal fault
behaviour_of (Ordered (Repair plan)) = repairing plan
behaviour_of (Ordered (Encode settings max)) = filter (encoding settings max)
behaviour_of (Ordered (Drill settings plan losses max)) = drilling settings plan losses max
behaviour_of (Ordered (Inspect table max)) = filter (inspection table max)
behaviour_of (Ordered (Sample seed datagrams loss plan)) = sampling seed datagrams loss plan
behaviour_of (Ordered (FromCapture max)) = filter (from_capture max)
behaviour_of (Ordered (ToCapture max)) = filter (to_capture max)
behaviour_of (Ordered (Monitor max)) = filter (monitoring max)
behaviour_of (Ordered (Prove plan)) = filter (proving plan)
behaviour_of (Ordered (Check max)) = filter (checking max)
behaviour_of (Ordered (ChooseMatrix burst most rows)) = printer (planning burst most rows)
behaviour_of (Ordered (Survey max json)) = filter (surveying json max)
behaviour_of (Ordered (Pick selection max)) = filter (picking selection max)
