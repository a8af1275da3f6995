use Rattle.std.proofs.Common.{◌≡◌, drop}
use Rattle.fg_survey.specs.Senders.{listed}
use Rattle.fg_survey.proofs.senders.find.Given as goal

abbrev pub invariant-loop-i : goal.invariant-loop-i
invariant-loop-i l = listed l.senders l.sender ≡ listed (drop l.i l.senders) l.sender
