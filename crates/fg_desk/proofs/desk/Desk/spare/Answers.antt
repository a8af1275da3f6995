use Rattle.std.proofs.Common.{sym, subst}
use Rattle.fg_buffer.specs.LiveEquations.{LiveState}
use Rattle.fg_buffer.specs.PlayoutBuffer.{BufferState}
use Rattle.fg_desk.specs.Parts.{IsDesk}
use Rattle.fg_desk.proofs.desk.Desk.spare.Goals as goal

pub invariant_of-self : goal.invariant_of-self
invariant_of-self c = subst (λ (l : LiveState). IsDesk (record c.self.inside { lines = l })) (sym c.spare.ensures) c.self.invariant

pub invariant_of-self-in-None : goal.invariant_of-self-in-None
invariant_of-self-in-None c =
    subst (λ (l : LiveState). IsDesk (record c.self.inside { lines = l; buffer = c.spare-in-None.new.self })) (sym c.spare.ensures)
    (subst (λ (b : BufferState). IsDesk (record c.self.inside { buffer = b })) (sym c.spare-in-None.ensures) c.self.invariant)
