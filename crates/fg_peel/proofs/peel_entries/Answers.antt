use Rattle.std.proofs.Common.{arith}
use Rattle.fg_peel.proofs.Ends.{ends_peeling, peeled_fills}
use Rattle.fg_peel.proofs.Says.{fit_others}
use Rattle.fg_peel.proofs.Whole.{recovered_told}
use Rattle.fg_peel.proofs.peel_entries.Goals as goal

pub verdict_on-requires-clause-lines : goal.verdict_on-requires-clause-lines
verdict_on-requires-clause-lines g c =
    let filled = peeled_fills c.args.start c.args.lines.now (g.E.EntryRow.slots c.args.entries.now) (g.E.EntryRow.slots c.fill_all-found_media.new.entries) c.fill_all-found_media.ensures.peeled in (
      fit_others c.args.start (g.E.EntryRow.slots c.args.entries.now) (g.E.EntryRow.slots c.fill_all-found_media.new.entries) c.args.lines.now
          filled.count c.requires.lines,
      omega (arith, c.requires.limit, filled.count),
    )

pub verdict_on-requires-clause-media : goal.verdict_on-requires-clause-media
verdict_on-requires-clause-media g c = λ media position word told.
    (let yes = c.both.ensures media in c.fill_all-found_media.ensures.media yes.0 (c.requires.media yes.1)) position word
    (recovered_told c.args.start (g.E.EntryRow.slots c.fill_all-found_media.new.entries) position word told)

pub returns-clause-peel : goal.returns-clause-peel
returns-clause-peel g c = record {
  fills = peeled_fills c.args.start c.args.lines.now (g.E.EntryRow.slots c.args.entries.now) (g.E.EntryRow.slots c.fill_all-found_media.new.entries) c.fill_all-found_media.ensures.peeled;
  peeling = ends_peeling c.args.start c.args.lines.now (g.E.EntryRow.slots c.args.entries.now) (g.E.EntryRow.slots c.fill_all-found_media.new.entries) c.fill_all-found_media.ensures.peeled c.fill_all-found_media.ensures.closed;
  verdict = c.verdict_on.ensures;
}
