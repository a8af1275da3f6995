use Rattle.std.proofs.Common.{◌≡◌, length, None, sym, ◌∙◌, ap, not, arith}
use Rattle.fg_peel.specs.Slots.{equation_of, words_from}
use Rattle.fg_peel.proofs.Entries.{fits_base, fits_slot}
use Rattle.fg_peel.proofs.Misses.{misses_several_found, misses_one, misses_nothing}
use Rattle.fg_peel.proofs.span.Span.missing.Goals as goal
use Rattle.fg_peel.proofs.Options.{none_of_copied}

pub slot-position-requires-clause-base : goal.slot-position-requires-clause-base
slot-position-requires-clause-base g c = fits_base c.args.self.now.start (length (g.E.EntryRow.slots c.args.self.now.entries.now)) c.args.line.now c.requires.0 c.requires.1

pub word-requires : goal.word-requires
word-requires g c =
    let slot = fits_slot c.args.self.now.start (length (g.E.EntryRow.slots c.args.self.now.entries.now)) c.args.line.now c.loop-j.j c.requires.0 c.loop-j-test.true in
    record { first = omega (arith, c.slot-position.ensures, slot); last = omega (arith, c.slot-position.ensures, slot) }

pub returns-then-is_some : goal.returns-then-is_some
returns-then-is_some g c =
    let words = words_from c.args.self.now.start (g.E.EntryRow.slots c.args.self.now.entries.now) in
    let none : words c.slot-position.result ≡ None = none_of_copied (words c.slot-position.result) c.word.result c.word.ensures (c.is_none.ensures ∙ ap not c.if-is_none.true) in
    misses_several_found words (equation_of c.args.line.now) c.loop-j.j c.loop-j.found c.requires.0.shape.some_offset c.loop-j-test.true
    (rw c.slot-position.ensures at none) (sym c.is_some.ensures ∙ c.if-is_some.true) c.loop-j.invariant

pub returns-in-Some : goal.returns-in-Some
returns-in-Some g c =
    let words = words_from c.args.self.now.start (g.E.EntryRow.slots c.args.self.now.entries.now) in
    let all : c.loop-j.j ≡ c.args.line.now.shape.na = omega arith in
    misses_one words (equation_of c.args.line.now) c.in-Some.position (rw (all, c.in-Some.is) at c.loop-j.invariant)

pub returns-in-None : goal.returns-in-None
returns-in-None g c =
    let words = words_from c.args.self.now.start (g.E.EntryRow.slots c.args.self.now.entries.now) in
    let all : c.loop-j.j ≡ c.args.line.now.shape.na = omega arith in
    misses_nothing words (equation_of c.args.line.now) (rw (all, c.in-None.is) at c.loop-j.invariant)
