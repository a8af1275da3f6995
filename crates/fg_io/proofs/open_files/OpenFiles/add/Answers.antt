-- The port's file is the only one that it has.
use Rattle.std.proofs.Common.{◌≢◌, All, sym, subst}
use Rattle.std.specs.Result.{is_ok}
use Rattle.fg_io.proofs.OpenFilesLemmas.{AreApart-pushed}
use Rattle.fg_io.proofs.open_files.OpenFiles.add.Goals as goal

pub invariant_of-self : goal.invariant_of-self
invariant_of-self g c =
    AreApart-pushed (is_ok c.push.result) c.self.inside.files.items c.push.new.self.items c.args.port c.args.file c.push.ensures.items
    (subst (λ files. All (λ held. held.0 ≢ c.args.port) files) (sym c.self.view_is) c.requires.other) c.self.invariant
