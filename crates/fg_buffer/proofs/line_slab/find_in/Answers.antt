use Rattle.std.proofs.Common.{ℕ, ◌∙◌}
use Rattle.fg_peel.specs.Slots.{equation_of}
use Rattle.fg_peel.specs.Live.{HasSlots}
use Rattle.fg_peel.specs.declared.Line.{Line}
use Rattle.fg_buffer.proofs.LiveSearch.{search_begins, search_goes_on, search_ends}
use Rattle.fg_buffer.proofs.line_slab.find_in.Goals as goal
use Rattle.fg_buffer.proofs.line_slab.find_in.Goals.{else-line-base-via-then-line-base+then-line-shape+else-line-shape-2, else-line-base-via-then-line-base+else-line-shape, else-line-base-via-else-line-base}

pub loop-line-init : goal.loop-line-init
loop-line-init c = (
  tt,
  tt,
  search_begins (λ (line : Line). HasSlots c.args.base c.args.shape.offset c.args.shape.na (equation_of line)) c.args.lines.now c.into_iter-line-iterator.result
      (c.into_iter-line-iterator.ensures.into_iter_gives ∙ c.iter-line-items.ensures.rest),
)

pub loop-line-preserved : goal.loop-line-preserved
loop-line-preserved c =
    let unlike : HasSlots c.args.base c.args.shape.offset c.args.shape.na (equation_of c.in-Some.line.now) → ⊥ =
    λ same. elim c.else-line-base.branch [
      | else-line-base-via-then-line-base+then-line-shape+else-line-shape-2 w ↦ w.if-line-shape-2.false same.count_is
      | else-line-base-via-then-line-base+else-line-shape w ↦ w.if-line-shape.false same.offset_is
      | else-line-base-via-else-line-base w ↦ w.if-line-base.false same.base_is
    ] in
    let entry : ℕ × Line = (c.in-Some.field-0-0, c.in-Some.line.now) in (
      tt,
      tt,
      search_goes_on (λ (line : Line). HasSlots c.args.base c.args.shape.offset c.args.shape.na (equation_of line)) c.args.lines.now c.loop-line.line-iterator entry c.next.new.self c.in-Some.ensures.steps unlike
          c.loop-line.invariant.2,
    )

pub returns-clause-none : goal.returns-clause-none
returns-clause-none c = search_ends (λ (line : Line). HasSlots c.args.base c.args.shape.offset c.args.shape.na (equation_of line)) c.args.lines.now c.loop-line.line-iterator c.in-None.ensures.steps.0 c.loop-line.invariant.2
