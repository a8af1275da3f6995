use Rattle.std.proofs.Common.{None, refl}
use Rattle.fg_check.proofs.Walks.{underway}
use Rattle.fg_check.proofs.walk.Walk.new.Goals as goal

pub returns-clause-begins : goal.returns-clause-begins
returns-clause-begins c = λ first before.
    underway c.args.max (record { input = c.in_ok-new.field-0; max = c.args.max; number = 0; opened = None; lines = c.in_ok-new-2.field-0 }) first before c.requires
    c.in_ok-new.ensures refl refl refl c.in_ok-new-2.ensures.held c.in_ok-new-2.ensures.cases c.in_ok-new-2.ensures.unproved
