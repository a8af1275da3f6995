use Rattle.std.proofs.Common.{ℕ, ◌∙◌, arith}
use Rattle.fg_peel.specs.declared.Line.{Line}
use Rattle.fg_peel.specs.Slots.{equations_of, words_from}
use Rattle.fg_peel.proofs.Closed.{closed_more, closed_all}
use Rattle.fg_peel.proofs.Lines.{live_rest}
use Rattle.fg_peel.proofs.Says.{fit_others}
use Rattle.fg_peel.proofs.Steps.{IsPeeled-trans}
use Rattle.fg_peel.proofs.recovery.fill_all.Goals as goal

pub visit-requires-clause-lines : goal.visit-requires-clause-lines
visit-requires-clause-lines g c =
    fit_others c.args.start (g.E.EntryRow.slots c.args.entries.now) (g.E.EntryRow.slots c.loop-line.entries) c.args.lines.now
    c.loop-line.invariant.3.1.fills.count c.requires.lines

pub visit-requires-clause-limit : goal.visit-requires-clause-limit
visit-requires-clause-limit g c = omega (arith, c.requires.limit, c.loop-line.invariant.3.1.fills.count)

pub loop-line-preserved : goal.loop-line-preserved
loop-line-preserved g c =
    let entry : ℕ × Line = (c.in-Some.field-0-0, c.in-Some.line.now) in (
      tt,
      tt,
      live_rest c.args.lines.now c.loop-line.line-iterator entry c.next.new.self c.in-Some.ensures.steps c.loop-line.invariant.2,
      IsPeeled-trans c.args.start (equations_of c.args.lines.now) (g.E.EntryRow.slots c.args.entries.now) (g.E.EntryRow.slots c.loop-line.entries) (g.E.EntryRow.slots c.visit.new.entries)
          c.loop-line.invariant.3 c.visit.ensures.peeled,
      closed_more (words_from c.args.start (g.E.EntryRow.slots c.loop-line.entries)) (words_from c.args.start (g.E.EntryRow.slots c.visit.new.entries)) c.args.lines.now
          c.loop-line.line-iterator entry c.next.new.self c.in-Some.ensures.steps c.visit.ensures.closed c.visit.ensures.stay
          c.loop-line.invariant.4,
      λ is. (let both = c.both-media.ensures is in λ all. c.visit.ensures.media both.0 (c.loop-line.invariant.5 both.1 all)),
      c.visit.ensures.rest ∙ c.loop-line.invariant.6,
    )

pub returns-clause-closed : goal.returns-clause-closed
returns-clause-closed g c =
    closed_all (words_from c.args.start (g.E.EntryRow.slots c.loop-line.entries)) c.args.lines.now c.loop-line.line-iterator c.in-None.ensures.steps.0
    c.loop-line.invariant.4
