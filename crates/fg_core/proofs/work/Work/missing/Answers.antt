use Rattle.std.proofs.Common.{◌≡◌, None, not, sym, ap, subst, ◌∙◌, arith, get_or}
use Rattle.std.proofs.lemmas.List.{get_or_default}
use Rattle.fg_core.proofs.Inputs.{none_of}
use Rattle.fg_peel.specs.declared.span.Missing.TheVariants.{One}
use Rattle.fg_peel.specs.Equation.{IsComplete}
use Rattle.fg_peel.specs.Slots.{IsMissing}
use Rattle.std.specs.FinMap.{get}
use Rattle.fg_core.specs.Board.{JobState}
use Rattle.fg_core.proofs.Inputs.{missing_one, missing_none}
use Rattle.fg_core.proofs.work.Work.missing.Goals as goal

pub returns-then-is_none-clause-some : goal.returns-then-is_none-clause-some
returns-then-is_none-clause-some c =
    let w = c.self.inside in
    let sound = c.self.invariant in
    let none : get_or w.shares.items c.loop-j.j None ≡ None =
    ap (λ k. get_or w.shares.items k None) (sym c.from.ensures)
    ∙ get_or_default w.shares.items c.from.result None c.index.result.now (omega (arith, c.from.ensures, c.loop-j-test.true, sound.count))
    ∙ sym c.index.ensures ∙ none_of c.index.result.now (c.is_none.ensures ∙ ap not c.if-is_none.true) in
    subst (λ (job : JobState). IsMissing (get job.inputs) job.equation (One c.slot.result)) c.self.view_is
    (rw c.slot.ensures (missing_one w.base w.shape.offset w.shape.na w.shares.items sound.read.some_offset sound.count w.parity c.loop-j.j c.loop-j-test.true sound.one none))

pub returns-clause-none : goal.returns-clause-none
returns-clause-none c =
    let w = c.self.inside in
    let sound = c.self.invariant in
    subst (λ (job : JobState). IsComplete (get job.inputs) job.equation) c.self.view_is
    (missing_none w.base w.shape.offset w.shape.na w.shares.items sound.read.some_offset sound.count w.parity
    (λ j below. c.loop-j.invariant j (omega (arith, below, c.loop-j-test.false))))
