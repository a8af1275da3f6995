-- The first file leaves, and the others stay as they were.
use Rattle.std.proofs.Common.{arith, subst}
use Rattle.fg_io.specs.OpenFiles.{NoneComes}
use Rattle.fg_io.proofs.OpenFilesLemmas.{AreApart-removed, NoneComes-first}
use Rattle.fg_io.proofs.open_files.OpenFiles.take_oldest.Goals as goal

pub invariant_of-self : goal.invariant_of-self
invariant_of-self g c =
    AreApart-removed c.self.inside.files.items c.remove.new.self.items 0 (omega (arith, c.remove.ensures.len))
    c.remove.ensures.by_index.0 c.remove.ensures.by_index.1 (omega (arith, c.remove.ensures.len)) c.self.invariant

pub returns-clause-fewer : goal.returns-clause-fewer
returns-clause-fewer g c =
    subst (λ before. NoneComes before c.remove.new.self.items) c.self.view_is
    (NoneComes-first c.self.inside.files.items c.remove.new.self.items c.remove.ensures.by_index.1 (omega (arith, c.remove.ensures.len)))
