use Rattle.std.proofs.Common.{refl}
use Rattle.fg_core.specs.Board.{job_sum}
use Rattle.fg_board.proofs.Bringing.{job_worked, job_checked}
use Rattle.fg_board.proofs.laws.jobs_follow.Goals as goal

pub returns-clause-worked : goal.returns-clause-worked
returns-clause-worked c taken later slot was on missing = job_worked taken was later on slot (job_sum taken.job) missing refl

pub returns-clause-checked : goal.returns-clause-checked
returns-clause-checked c taken later comes was on rooms complete says =
    job_checked taken was later on (record {
      commutes = c.xor_is_a_group.ensures.commutes;
      associates = c.xor_is_a_group.ensures.associates;
      has_zero = c.xor_is_a_group.ensures.has_zero;
      undoes_itself = c.xor_is_a_group.ensures.undoes_itself;
    }) comes complete says rooms.0 rooms.1
