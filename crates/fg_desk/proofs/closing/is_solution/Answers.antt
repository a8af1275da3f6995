use Rattle.fg_desk.proofs.closing.is_solution.Goals as goal

pub returns-then-sound-clause-yes : goal.returns-then-sound-clause-yes
returns-then-sound-clause-yes c = λ is. (c.if-sound.true, c.are_media.ensures.0 is)
