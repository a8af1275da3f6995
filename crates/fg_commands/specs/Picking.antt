-- What `pick` is for: this project's own.
use Rattle.std.specs.Prelude.{◌≡◌, ℕ, List, Option, IfSome}
use Rattle.fg_flows.specs.declared.selection.Selection.{Selection}
use Rattle.fg_trace.specs.declared.step.Finish.{Finish}
use Rattle.fg_pick.specs.Pick.{ComesBack, Picks, PicksPart, WritesTrace}
use Rattle.fg_commands.specs.declared.ended.Why.{Why}
use Rattle.fg_commands.specs.Endings.{why_of_finish}
use Rattle.fg_commands.specs.Filter.{Filter, also_back, of_trace}

-- What was written of the trace in these bytes, where it is a trace, is read back as the records that were picked.
abbrev pub PickedComesBack : Selection → ℕ → Why → List ℕ → Option (List ℕ) → Option (List ℕ) → Type 0
PickedComesBack selection max answer bytes written written' =
    (finish : Finish) × (answer ≡ why_of_finish finish) × (WritesTrace finish → ComesBack selection max bytes written written')

-- The records that are picked of the input's trace are written as a trace, which is read back, and the answer is that of the
-- input's ending.
abbrev pub picking : Selection → ℕ → Filter
picking selection max = also_back
    (λ answer input written written'. IfSome input (λ bytes. PickedComesBack selection max answer bytes written written'))
    (of_trace max (Picks selection max) (PicksPart selection max))
