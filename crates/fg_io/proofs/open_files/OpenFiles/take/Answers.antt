-- One file leaves, and the others stay as they were.
use Rattle.std.proofs.Common.{◌≡◌, ◌<◌, length, HoldsAt, ap, subst, ◌∙◌, arith}
use Rattle.fg_io.specs.OpenFiles.{TakesOut}
use Rattle.fg_io.proofs.OpenFilesLemmas.{AreApart-removed, gone-removed, TakesOut-removed}
use Rattle.fg_io.proofs.open_files.OpenFiles.take.Goals as goal

-- the place is one of the files', and its file is the port's
inside : (g : _) (c : goal.After-remove g) → c.in_ok-place.place < length c.self.inside.files.items
inside g c = subst (λ files. c.in_ok-place.place < length files) c.deref.ensures.value c.in_ok-place.ensures.found

its : (g : _) (c : goal.After-remove g) → HoldsAt (λ held. held.0 ≡ c.args.port) c.self.inside.files.items c.in_ok-place.place
its g c =
    subst (λ files. HoldsAt (λ held. held.0 ≡ c.args.port) files c.in_ok-place.place) c.deref.ensures.value c.in_ok-place.ensures.port

pub invariant_of-self : goal.invariant_of-self
invariant_of-self g c =
    AreApart-removed c.self.inside.files.items c.remove.new.self.items c.in_ok-place.place (inside g c)
    c.remove.ensures.by_index.0 c.remove.ensures.by_index.1 (omega (arith, c.remove.ensures.len)) c.self.invariant

pub returns-clause-taken : goal.returns-clause-taken
returns-clause-taken g c =
    subst (λ before. TakesOut before c.args.port c.remove.result.1 c.remove.new.self.items) c.self.view_is
    (TakesOut-removed c.self.inside.files.items c.remove.new.self.items c.in_ok-place.place c.args.port c.remove.result (inside g c)
    c.remove.ensures.value (ap (λ file. file.0) c.remove.ensures.value ∙ its g c c.remove.result) c.remove.ensures.items)

pub returns-clause-gone : goal.returns-clause-gone
returns-clause-gone g c =
    gone-removed c.self.inside.files.items c.remove.new.self.items c.in_ok-place.place c.args.port (inside g c) (its g c)
    c.remove.ensures.by_index.0 c.remove.ensures.by_index.1 (omega (arith, c.remove.ensures.len)) c.self.invariant
