-- Where nothing was picked, what is written is a part, as it was, and nothing need come back.
use Rattle.std.proofs.Common.{ℕ, List, Option, None, Some, IfSome, refl}
use Rattle.fg_io.specs.Laws.{NoneIsPart}
use Rattle.fg_flows.specs.declared.selection.Selection.{Selection}
use Rattle.fg_trace.specs.declared.step.Finish.{Finish}
use Rattle.fg_trace.specs.declared.step.Finish.TheVariants as finish
use Rattle.fg_pick.specs.Pick.{ComesBack, PicksPart, WritesTrace, written_of}
use Rattle.fg_commands.specs.declared.ended.Why.TheVariants as why
use Rattle.fg_commands.specs.Endings.{why_of_finish}
use Rattle.fg_commands.specs.Filter.{filter}
use Rattle.fg_commands.specs.Picking.{PickedComesBack, picking}
use Rattle.fg_commands.proofs.Filters.{filter_lawful}
use Rattle.fg_commands.proofs.Lawful.{Lawful}
use Rattle.fg_commands.proofs.Traces.{no_end, unread}

pub comes_back : (selection : Selection) (max : ℕ) (answer : Finish) (first before after : Option (List ℕ))
    → IfSome first (λ bytes. WritesTrace answer → ComesBack selection max bytes before after)
    → IfSome first (λ bytes. PickedComesBack selection max (why_of_finish answer) bytes before after)
comes_back selection max answer None before after h = tt
comes_back selection max answer (Some bytes) before after h = (answer, refl, h)

none_picked : NoneIsPart → (selection : Selection) (max : ℕ) (input written : Option (List ℕ)) → PicksPart selection max input written written
none_picked none selection max None written = tt
none_picked none selection max (Some bytes) written = λ records picked end trace is. none written (written_of end picked)

none_back : (selection : Selection) (max : ℕ) (input written : Option (List ℕ)) → IfSome input (λ bytes. PickedComesBack selection max why.Memory bytes written written)
none_back selection max None written = tt
none_back selection max (Some bytes) written = (finish.Memory, refl, λ no. absurd no)

pub lawful : NoneIsPart → (selection : Selection) (max : ℕ) → Lawful (filter (picking selection max))
lawful none selection max = filter_lawful (picking selection max) (none_picked none selection max) (none_back selection max) (unread max) no_end
