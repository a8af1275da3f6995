use Rattle.fg_run.proofs.answer.answer.Goals as goal

pub returns-in-Ordered-clause-answered : goal.returns-in-Ordered-clause-answered
returns-in-Ordered-clause-answered g c = rw c.in-Ordered.is c.answer_order.ensures.answered

pub returns-in-Ordered-clause-words : goal.returns-in-Ordered-clause-words
returns-in-Ordered-clause-words g c = λ fault e. absurd (c.answer_order.ensures.words fault e)
