use Rattle.fg_peel.proofs.Played.{peelings_take_equations, peelings_take_words, peelings_outlive_plays, peelings_carry_over}
use Rattle.fg_peel.proofs.laws.peelings_stay.Goals as goal

pub returns-clause-equations : goal.returns-clause-equations
returns-clause-equations c = peelings_take_equations

pub returns-clause-words : goal.returns-clause-words
returns-clause-words c = peelings_take_words

pub returns-clause-play : goal.returns-clause-play
returns-clause-play c = peelings_outlive_plays

pub returns-clause-carried : goal.returns-clause-carried
returns-clause-carried c known more equations others stays steps = peelings_carry_over known more equations others stays steps
