use Rattle.std.proofs.Common.{ℕ, true≢false, sym, ◌∙◌}
use Rattle.fg_peel.specs.declared.Line.{Line}
use Rattle.fg_core.proofs.Opening.{best_at_first, line_here, best_passed, best_found, walk_ends}
use Rattle.fg_core.specs.Flow.{IsOpenLine, IsAtMost}
use Rattle.fg_core.proofs.open.least_open.Goals as goal
use Rattle.fg_core.proofs.open.least_open.Goals.{else-is_less-via-then-is_less+else-is_open, else-is_less-via-else-is_less}

pub loop-line-init : goal.loop-line-init
loop-line-init c = (
  tt,
  tt,
  best_at_first c.args.desk.now c.args.notes.now c.args.lines.now c.args.best c.requires.best c.into_iter-line-iterator.result
      (c.into_iter-line-iterator.ensures.into_iter_gives ∙ c.iter-line-items.ensures.rest),
)

pub is_open-requires-clause-within : goal.is_open-requires-clause-within
is_open-requires-clause-within c =
    let entry : ℕ × Line = (c.in-Some.field-0-0, c.in-Some.line.now) in
    c.requires.within c.in-Some.line.now
    (line_here c.args.desk.now c.args.notes.now c.args.lines.now c.args.best c.loop-line.least c.loop-line.line-iterator entry
    c.next.new.self c.in-Some.ensures.steps c.loop-line.invariant.2)

pub loop-line-preserved-then-is_open : goal.loop-line-preserved-then-is_open
loop-line-preserved-then-is_open c =
    let entry : ℕ × Line = (c.in-Some.field-0-0, c.in-Some.line.now) in
    let here = line_here c.args.desk.now c.args.notes.now c.args.lines.now c.args.best c.loop-line.least c.loop-line.line-iterator entry
    c.next.new.self c.in-Some.ensures.steps c.loop-line.invariant.2 in (
      tt,
      tt,
      best_found c.args.desk.now c.args.notes.now c.args.lines.now c.args.best c.loop-line.least c.loop-line.line-iterator entry
          c.next.new.self c.in-Some.ensures.steps c.loop-line.invariant.2 (c.is_less.ensures.less c.if-is_less.true)
          (c.requires.within c.in-Some.line.now here) (c.is_open.ensures.0 c.if-is_open.true) c.key_of.result c.key_of.ensures,
    )

pub loop-line-preserved : goal.loop-line-preserved
loop-line-preserved c =
    let entry : ℕ × Line = (c.in-Some.field-0-0, c.in-Some.line.now) in
    let passed : IsOpenLine c.args.desk.now c.args.notes.now c.in-Some.line.now → IsAtMost c.loop-line.least c.in-Some.line.now.serial =
    elim c.else-is_less.branch [
      | else-is_less-via-then-is_less+else-is_open w ↦ λ is_open. absurd (true≢false (sym (w.is_open.ensures.1 is_open) ∙ w.if-is_open.false))
      | else-is_less-via-else-is_less w ↦ λ _. c.is_less.ensures.not_less w.if-is_less.false
    ] in (
      tt,
      tt,
      best_passed c.args.desk.now c.args.notes.now c.args.lines.now c.args.best c.loop-line.least c.loop-line.line-iterator entry
          c.next.new.self c.in-Some.ensures.steps c.loop-line.invariant.2 passed,
    )

pub returns-clause-open : goal.returns-clause-open
returns-clause-open c = c.loop-line.invariant.2.opened

pub returns-clause-best : goal.returns-clause-best
returns-clause-best c = c.loop-line.invariant.2.lower

pub returns-clause-least : goal.returns-clause-least
returns-clause-least c =
    walk_ends c.args.lines.now (λ line. IsOpenLine c.args.desk.now c.args.notes.now line → IsAtMost c.loop-line.least line.serial)
    c.loop-line.line-iterator c.in-None.ensures.steps.0 c.loop-line.invariant.2.walks
