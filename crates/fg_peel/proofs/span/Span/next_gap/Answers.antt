use Rattle.std.proofs.Common.{length, arith}
use Rattle.fg_peel.proofs.Entries.{fits_base, fits_slot}
use Rattle.fg_peel.proofs.span.Span.next_gap.Goals as goal

pub slot-position-requires-clause-base : goal.slot-position-requires-clause-base
slot-position-requires-clause-base g c = fits_base c.args.self.now.start (length (g.E.EntryRow.slots c.args.self.now.entries.now)) c.args.line.now c.requires.0 c.requires.1

pub word-requires : goal.word-requires
word-requires g c =
    let slot = fits_slot c.args.self.now.start (length (g.E.EntryRow.slots c.args.self.now.entries.now)) c.args.line.now c.loop-number.number c.requires.0 c.loop-number-test.true in
    record { first = omega (arith, c.slot-position.ensures, slot); last = omega (arith, c.slot-position.ensures, slot) }
