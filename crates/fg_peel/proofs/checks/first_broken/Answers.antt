use Rattle.std.proofs.Common.{ℕ, refl}
use Rattle.std.specs.List.{Contains}
use Rattle.fg_peel.specs.declared.Line.{Line}
use Rattle.fg_peel.specs.Slots.{lines_of, words_from}
use Rattle.fg_peel.proofs.Lines.{AreLive, live_first, live_rest}
use Rattle.fg_peel.proofs.Broken.{BrokenBut, broken_same, broken_more, broken_passed, broken_done}
use Rattle.fg_peel.proofs.checks.first_broken.Goals as goal
use Rattle.fg_peel.proofs.checks.first_broken.Goals.{In-Some, else-is_new_least-via-then-is_new_least+else-is_broken, else-is_new_least-via-else-is_new_least}

live : (g : _) (c : In-Some g) → Contains (lines_of c.args.lines.now) c.in-Some.line.now
live g c = live_first c.args.lines.now c.loop-line.line-iterator (c.in-Some.field-0-0, c.in-Some.line.now) c.next.new.self c.in-Some.ensures.steps c.loop-line.invariant.2

rest : (g : _) (c : In-Some g) → AreLive c.args.lines.now c.next.new.self
rest g c = live_rest c.args.lines.now c.loop-line.line-iterator (c.in-Some.field-0-0, c.in-Some.line.now) c.next.new.self c.in-Some.ensures.steps c.loop-line.invariant.2

pub is_broken-requires : goal.is_broken-requires
is_broken-requires g c = (c.requires.0 c.in-Some.line.now (live g (goal.at.is_broken-requires g c).In-Some), c.requires.1)

pub loop-line-preserved-then-is_broken : goal.loop-line-preserved-then-is_broken
loop-line-preserved-then-is_broken g c =
    let i = (goal.at.loop-line-preserved-then-is_broken g c).In-Some in
    let words = words_from c.args.span.now.start (g.E.EntryRow.slots c.args.span.now.entries.now) in
    let entry : ℕ × Line = (c.in-Some.field-0-0, c.in-Some.line.now) in (
      tt,
      tt,
      rest g i,
      (c.in-Some.line.now, live g i, refl, c.is_broken.ensures.complete c.if-is_broken.true, c.is_broken.ensures.broken c.if-is_broken.true),
      broken_more words c.args.lines.now c.loop-line.line-iterator c.next.new.self entry c.in-Some.ensures.steps c.loop-line.least
          (c.is_new_least.ensures.less c.if-is_new_least.true) c.loop-line.invariant.4,
    )

pub loop-line-preserved : goal.loop-line-preserved
loop-line-preserved g c =
    let i = (goal.at.loop-line-preserved g c).In-Some in
    let words = words_from c.args.span.now.start (g.E.EntryRow.slots c.args.span.now.entries.now) in
    let entry : ℕ × Line = (c.in-Some.field-0-0, c.in-Some.line.now) in
    let but : BrokenBut words c.args.lines.now c.loop-line.least c.next.new.self =
    elim c.else-is_new_least.branch [
      | else-is_new_least-via-then-is_new_least+else-is_broken w ↦
          broken_same words c.args.lines.now c.loop-line.line-iterator c.next.new.self entry c.in-Some.ensures.steps c.loop-line.least
          (w.is_broken.ensures.whole w.if-is_broken.false) c.loop-line.invariant.4
      | else-is_new_least-via-else-is_new_least w ↦
          broken_passed words c.args.lines.now c.loop-line.line-iterator c.next.new.self entry c.in-Some.ensures.steps c.loop-line.least
          (c.is_new_least.ensures.not_less w.if-is_new_least.false) c.loop-line.invariant.4
    ] in
    (tt, tt, rest g i, c.loop-line.invariant.3, but)

pub returns-clause-none : goal.returns-clause-none
returns-clause-none g c =
    broken_done (words_from c.args.span.now.start (g.E.EntryRow.slots c.args.span.now.entries.now)) c.args.lines.now c.loop-line.least c.loop-line.line-iterator c.in-None.ensures.steps.0 c.loop-line.invariant.4
