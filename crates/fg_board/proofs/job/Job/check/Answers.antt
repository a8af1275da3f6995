use Rattle.std.proofs.Common.{◌≡◌, ℕ, Some, subst, rules}
use Rattle.std.specs.FinMap.{get}
use Rattle.fg_words.specs.declared.Word.{Word}
use Rattle.fg_words.specs.Word.{HasRoom}
use Rattle.fg_board.specs.Actors.{TakenJob, WasTold}
use Rattle.fg_board.proofs.Bringing.{job_checked}
use Rattle.fg_board.proofs.job.Job.check.Goals as goal

pub returns-clause-zero : goal.returns-clause-zero
returns-clause-zero c = search rules

pub returns-clause-checked : goal.returns-clause-checked
returns-clause-checked c = λ later goes_on. (
  c.args.self.now.job.equation,
  job_checked c.args.self.now (subst WasTold c.self.view_is c.self.invariant) later goes_on
      (record {
        commutes = c.xor_is_a_group.ensures.commutes;
        associates = c.xor_is_a_group.ensures.associates;
        has_zero = c.xor_is_a_group.ensures.has_zero;
        undoes_itself = c.xor_is_a_group.ensures.undoes_itself;
      })
      c.is_zero.result c.requires (returns-clause-zero c)
      (subst (λ (t : TakenJob). HasRoom t.job.equation.parity) c.self.view_is c.room.ensures.parity)
      (subst (λ (t : TakenJob). (slot : ℕ) (w : Word) → get t.job.inputs slot ≡ Some w → HasRoom w) c.self.view_is
      c.room.ensures.inputs),
)
