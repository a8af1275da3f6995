use Rattle.fg_peel.proofs.Solutions.{sound_agree, maximal_sound, maximal_ends_at_solution, peelings_agree}
use Rattle.fg_peel.proofs.Maximal.{maximal_exists}
use Rattle.fg_peel.proofs.Verdicts.{sound_where_solvable}
use Rattle.fg_peel.proofs.laws.confluence.Goals as goal

pub returns-clause-agreed : goal.returns-clause-agreed
returns-clause-agreed c = sound_agree

pub returns-clause-reached : goal.returns-clause-reached
returns-clause-reached c known equations admissible words solution =
    let m = maximal_exists known equations in
    (m.0, m.1, maximal_sound known equations admissible words solution m.0 m.1)

pub returns-clause-same_end : goal.returns-clause-same_end
returns-clause-same_end c = maximal_ends_at_solution

pub returns-clause-solvable : goal.returns-clause-solvable
returns-clause-solvable c = sound_where_solvable

pub returns-clause-kept : goal.returns-clause-kept
returns-clause-kept c = peelings_agree
