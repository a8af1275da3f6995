use Rattle.std.proofs.Common.{◌≡◌, ◌++◌, drop, map}
use Rattle.fg_streams.specs.Steps.{told}
use Rattle.fg_survey.specs.Text.{streams_text}
use Rattle.fg_survey.proofs.parts.push_streams.Given as goal

abbrev pub invariant-loop-i : goal.invariant-loop-i
invariant-loop-i l =
    l.text.items ++ streams_text l.json l.start (drop l.i l.senders) (map told (drop l.i l.streams)) ≡ l.initial.text.items ++ streams_text l.json l.start l.senders (map told l.streams)
