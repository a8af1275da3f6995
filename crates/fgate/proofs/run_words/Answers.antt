-- Where there are words, what `run` ensures of them is what is to be shown.
use Rattle.fgate.proofs.run_words.Goals as goal

pub returns-in-Ok-clause-answered : goal.returns-in-Ok-clause-answered
returns-in-Ok-clause-answered g c = rw c.in-Ok.is (rw c.deref.ensures.value at c.run.ensures.answered)
