use Rattle.fg_playout.proofs.SoundPeelings as proofs
use Rattle.fg_playout.proofs.laws.peelings_are_of_words.Goals as goal

pub returns-clause-admissible : goal.returns-clause-admissible
returns-clause-admissible c = proofs.desks_are_admissible

pub returns-clause-peelings : goal.returns-clause-peelings
returns-clause-peelings c = proofs.peelings_are_of_words

pub returns-clause-maximal : goal.returns-clause-maximal
returns-clause-maximal c = proofs.maximal_are_of_words

pub returns-clause-sound : goal.returns-clause-sound
returns-clause-sound c = proofs.sound_are_of_words
