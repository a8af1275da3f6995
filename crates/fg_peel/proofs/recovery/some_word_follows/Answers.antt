use Rattle.std.proofs.Common.{ℕ}
use Rattle.fg_peel.specs.declared.Line.{Line}
use Rattle.fg_peel.specs.Slots.{equation_of, words_from}
use Rattle.fg_peel.proofs.Closed.{closed_unless_one, closed_more, closed_all}
use Rattle.fg_peel.proofs.Lines.{live_first, live_rest}
use Rattle.fg_peel.proofs.recovery.some_word_follows.Goals as goal

pub missing-requires : goal.missing-requires
missing-requires g c = (
  c.requires.0 c.in-Some.line.now
      (live_first c.args.lines.now c.loop-line.line-iterator (c.in-Some.field-0-0, c.in-Some.line.now) c.next.new.self c.in-Some.ensures.steps c.loop-line.invariant.2),
  c.requires.1,
)

pub loop-line-preserved : goal.loop-line-preserved
loop-line-preserved g c =
    let words = words_from c.args.span.now.start (g.E.EntryRow.slots c.args.span.now.entries.now) in
    let entry : ℕ × Line = (c.in-Some.field-0-0, c.in-Some.line.now) in (
      tt,
      tt,
      live_rest c.args.lines.now c.loop-line.line-iterator entry c.next.new.self c.in-Some.ensures.steps c.loop-line.invariant.2,
      closed_more words words c.args.lines.now c.loop-line.line-iterator entry c.next.new.self c.in-Some.ensures.steps
          (closed_unless_one words (equation_of c.in-Some.line.now) c.missing.result c.in_default.not-One c.missing.ensures)
          (λ line listed closed. closed) c.loop-line.invariant.3,
    )

pub returns : goal.returns
returns g c = λ _.
    closed_all (words_from c.args.span.now.start (g.E.EntryRow.slots c.args.span.now.entries.now)) c.args.lines.now c.loop-line.line-iterator
    c.in-None.ensures.steps.0 c.loop-line.invariant.3
