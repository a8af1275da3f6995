use Rattle.fg_crew.proofs.running.help.Given as goal

abbrev pub invariant-loop : goal.invariant-loop
invariant-loop g l = g.C.Chore.fits l.chore l.own
