use Rattle.std.proofs.Common.{◌∙◌, ℕ}
use Rattle.fg_peel.specs.declared.Line.{Line}
use Rattle.fg_peel.proofs.Lines.{fits_none, fits_more, fits_all}
use Rattle.fg_peel_tests.proofs.peeling.lines_fit.Goals as goal

pub loop-line-init : goal.loop-line-init
loop-line-init c = (
  tt,
  tt,
  fits_none c.args.start c.args.slots.now c.args.lines.now c.into_iter-line-iterator.result (c.into_iter-line-iterator.ensures.into_iter_gives ∙ c.iter-line-items.ensures.rest),
)

pub loop-line-preserved : goal.loop-line-preserved
loop-line-preserved c =
    let entry : ℕ × Line = (c.in-Some.field-0-0, c.in-Some.line.now) in (
      tt,
      tt,
      fits_more c.args.start c.args.slots.now c.args.lines.now c.loop-line.line-iterator entry c.next.new.self c.in-Some.ensures.steps (c.line_fits.ensures c.if-not-line_fits.false) c.loop-line.invariant.2,
    )

pub returns : goal.returns
returns c = λ _. fits_all c.args.start c.args.slots.now c.args.lines.now c.loop-line.line-iterator c.in-None.ensures.steps.0 c.loop-line.invariant.2
