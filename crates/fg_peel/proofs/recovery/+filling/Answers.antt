use Rattle.std.proofs.Common.{ℕ, length, sym, ◌∙◌, arith}
use Rattle.std.proofs.lemmas.Bool.{false≢true}
use Rattle.fg_peel.specs.declared.Line.{Line}
use Rattle.fg_peel.specs.Peeling.{Step}
use Rattle.fg_peel.specs.Slots.{equation_of, equations_of, words_from}
use Rattle.fg_peel.proofs.Closed.{closed_at_more, closed_at_all, stay_closed_filled}
use Rattle.fg_peel.proofs.Entries.{fits_base}
use Rattle.fg_peel.proofs.Lines.{live_first, live_rest, live_equation}
use Rattle.fg_peel.proofs.Says.{fit_others}
use Rattle.fg_peel.proofs.Steps.{filled_by, IsPeeled-trans, IsPeeled-count}
use Rattle.fg_peel.proofs.recovery.+filling.Goals as goal

pub visit-missing-requires : goal.visit-missing-requires
visit-missing-requires g t c = (c.requires.lines c.args.line.now c.requires.live, c.requires.limit)

pub visit-fill-media-requires-clause-line : goal.visit-fill-media-requires-clause-line
visit-fill-media-requires-clause-line g t c = c.requires.lines c.args.line.now c.requires.live

pub visit-follow-requires : goal.visit-follow-requires
visit-follow-requires g t c κs within =
    let by = filled_by c.args.start (equations_of c.args.lines.now) c.args.line.now c.in-One.position (g.E.EntryRow.slots c.args.entries.now)
    (g.E.EntryRow.slots c.fill-media.new.entries) (c.requires.lines c.args.line.now c.requires.live)
    (live_equation c.args.lines.now c.args.line.now c.requires.live) c.in-One.ensures c.fill-media.ensures.fills in (
      omega (arith, by.counts),
      (
        within,
        (
          fit_others c.args.start (g.E.EntryRow.slots c.args.entries.now) (g.E.EntryRow.slots c.fill-media.new.entries) c.args.lines.now
              by.fills.count c.requires.lines,
          omega (arith, c.requires.limit, by.fills.count),
        ),
      ),
    )

pub visit-returns-in-One-clause-peeled : goal.visit-returns-in-One-clause-peeled
visit-returns-in-One-clause-peeled g t c =
    let by = filled_by c.args.start (equations_of c.args.lines.now) c.args.line.now c.in-One.position (g.E.EntryRow.slots c.args.entries.now)
    (g.E.EntryRow.slots c.fill-media.new.entries) (c.requires.lines c.args.line.now c.requires.live)
    (live_equation c.args.lines.now c.args.line.now c.requires.live) c.in-One.ensures c.fill-media.ensures.fills in
    IsPeeled-trans c.args.start (equations_of c.args.lines.now) (g.E.EntryRow.slots c.args.entries.now) (g.E.EntryRow.slots c.fill-media.new.entries) (g.E.EntryRow.slots c.follow.new.entries)
    (_, by) c.follow.ensures.peeled

pub visit-returns-in-One-clause-closed : goal.visit-returns-in-One-clause-closed
visit-returns-in-One-clause-closed g t c = c.follow.ensures.closed c.args.line.now c.requires.live c.in-One.ensures.0

pub visit-returns-in-One-clause-stay : goal.visit-returns-in-One-clause-stay
visit-returns-in-One-clause-stay g t c =
    let by = filled_by c.args.start (equations_of c.args.lines.now) c.args.line.now c.in-One.position (g.E.EntryRow.slots c.args.entries.now)
    (g.E.EntryRow.slots c.fill-media.new.entries) (c.requires.lines c.args.line.now c.requires.live)
    (live_equation c.args.lines.now c.args.line.now c.requires.live) c.in-One.ensures c.fill-media.ensures.fills in
    let step : Step = record { equation = equation_of c.args.line.now; position = c.in-One.position } in
    stay_closed_filled (words_from c.args.start (g.E.EntryRow.slots c.args.entries.now)) (words_from c.args.start (g.E.EntryRow.slots c.fill-media.new.entries))
    (words_from c.args.start (g.E.EntryRow.slots c.follow.new.entries)) c.args.lines.now step by.end c.follow.ensures.closed c.follow.ensures.stay

pub follow-contains-requires-clause-shape : goal.follow-contains-requires-clause-shape
follow-contains-requires-clause-shape g t c =
    (c.requires.lines c.in-Some.line.now (live_first c.args.lines.now c.loop-line.line-iterator
    (c.in-Some.field-0-0, c.in-Some.line.now) c.next.new.self c.in-Some.ensures.steps c.loop-line.invariant.2)).shape

pub follow-contains-requires-clause-base : goal.follow-contains-requires-clause-base
follow-contains-requires-clause-base g t c =
    fits_base c.args.start (length (g.E.EntryRow.slots c.args.entries.now)) c.in-Some.line.now
    (c.requires.lines c.in-Some.line.now (live_first c.args.lines.now c.loop-line.line-iterator
    (c.in-Some.field-0-0, c.in-Some.line.now) c.next.new.self c.in-Some.ensures.steps c.loop-line.invariant.2))
    c.requires.limit

pub follow-visit-requires : goal.follow-visit-requires
follow-visit-requires g t c κs within =
    let fewer = IsPeeled-count c.args.start (equations_of c.args.lines.now) (g.E.EntryRow.slots c.args.entries.now)
    (g.E.EntryRow.slots c.loop-line.entries) c.loop-line.invariant.3 in (
      omega (arith, fewer),
      (
        within,
        (
          fit_others c.args.start (g.E.EntryRow.slots c.args.entries.now) (g.E.EntryRow.slots c.loop-line.entries) c.args.lines.now
              c.loop-line.invariant.3.1.fills.count c.requires.lines,
          (
            omega (arith, c.requires.limit, c.loop-line.invariant.3.1.fills.count),
            live_first c.args.lines.now c.loop-line.line-iterator (c.in-Some.field-0-0, c.in-Some.line.now) c.next.new.self
                c.in-Some.ensures.steps c.loop-line.invariant.2,
          ),
        ),
      ),
    )

pub follow-loop-line-preserved-then-contains : goal.follow-loop-line-preserved-then-contains
follow-loop-line-preserved-then-contains g t c =
    let entry : ℕ × Line = (c.in-Some.field-0-0, c.in-Some.line.now) in (
      tt,
      tt,
      live_rest c.args.lines.now c.loop-line.line-iterator entry c.next.new.self c.in-Some.ensures.steps c.loop-line.invariant.2,
      IsPeeled-trans c.args.start (equations_of c.args.lines.now) (g.E.EntryRow.slots c.args.entries.now) (g.E.EntryRow.slots c.loop-line.entries) (g.E.EntryRow.slots c.visit.new.entries)
          c.loop-line.invariant.3 c.visit.ensures.peeled,
      λ line listed closed. c.visit.ensures.stay line listed (c.loop-line.invariant.4 line listed closed),
      closed_at_more (words_from c.args.start (g.E.EntryRow.slots c.loop-line.entries)) (words_from c.args.start (g.E.EntryRow.slots c.visit.new.entries)) c.args.lines.now
          c.args.filled c.loop-line.line-iterator entry c.next.new.self c.in-Some.ensures.steps (λ has. c.visit.ensures.closed)
          c.visit.ensures.stay c.loop-line.invariant.5,
      λ is. (let both = c.both-media.ensures is in λ all. c.visit.ensures.media both.0 (c.loop-line.invariant.6 both.1 all)),
      c.visit.ensures.rest ∙ c.loop-line.invariant.7,
    )

pub follow-loop-line-preserved : goal.follow-loop-line-preserved
follow-loop-line-preserved g t c =
    let entry : ℕ × Line = (c.in-Some.field-0-0, c.in-Some.line.now) in
    let words = words_from c.args.start (g.E.EntryRow.slots c.loop-line.entries) in (
      tt,
      tt,
      live_rest c.args.lines.now c.loop-line.line-iterator entry c.next.new.self c.in-Some.ensures.steps c.loop-line.invariant.2,
      c.loop-line.invariant.3,
      c.loop-line.invariant.4,
      closed_at_more words words c.args.lines.now c.args.filled c.loop-line.line-iterator entry c.next.new.self
          c.in-Some.ensures.steps (λ has. absurd (false≢true (sym c.if-contains.false ∙ c.contains.ensures.1 has)))
          (λ line listed closed. closed) c.loop-line.invariant.5,
      c.loop-line.invariant.6,
      c.loop-line.invariant.7,
    )

pub follow-returns-clause-closed : goal.follow-returns-clause-closed
follow-returns-clause-closed g t c =
    closed_at_all (words_from c.args.start (g.E.EntryRow.slots c.loop-line.entries)) c.args.lines.now c.args.filled c.loop-line.line-iterator
    c.in-None.ensures.steps.0 c.loop-line.invariant.5

pub visit-returns-in-One-clause-media : goal.visit-returns-in-One-clause-media
visit-returns-in-One-clause-media g t c = λ is all.
    (let both = c.both.ensures is in c.follow.ensures.media both.0 (c.fill-media.ensures.media both.1 all))
