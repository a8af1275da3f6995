use Rattle.std.proofs.Common.{ℕ, length, get_or, refl, sym, subst}
use Rattle.fg_peel.specs.declared.span.Missing.TheVariants.{One}
use Rattle.fg_peel.specs.Equation.{slots}
use Rattle.fg_peel.specs.Look.{LacksTwo}
use Rattle.fg_peel.specs.Slots.{IsMissing, equation_of, words_from}
use Rattle.fg_peel.proofs.Entries.{fits_base}
use Rattle.fg_peel.proofs.Gaps.{none_lacks, two_lack, one_lacks, look_words, look_fills}
use Rattle.fg_peel.proofs.looks.look_at.Goals as goal
use Rattle.fg_peel.proofs.looks.look_at.Goals.{After-fill}

pub returns-in_default-clause-look : goal.returns-in_default-clause-look
returns-in_default-clause-look g c =
    let words = words_from c.args.start (g.E.EntryRow.slots c.args.entries.now) in
    (none_lacks words (equation_of c.args.line.now) c.in_default.ensures, c.comes_out.ensures, refl)

pub slot-position-requires-clause-base : goal.slot-position-requires-clause-base
slot-position-requires-clause-base g c =
    fits_base c.args.start (length (g.E.EntryRow.slots c.args.entries.now)) c.args.line.now c.requires.line c.requires.limit

pub slot-requires-clause-base : goal.slot-requires-clause-base
slot-requires-clause-base g c =
    fits_base c.args.start (length (g.E.EntryRow.slots c.args.entries.now)) c.args.line.now c.requires.line c.requires.limit

pub returns-in-Some-next_gap-clause-look : goal.returns-in-Some-next_gap-clause-look
returns-in-Some-next_gap-clause-look g c =
    let words = words_from c.args.start (g.E.EntryRow.slots c.args.entries.now) in
    let equation = equation_of c.args.line.now in
    let two = two_lack words equation c.in-Some.first c.in-Some-next_gap.second c.requires.line.shape.some_offset c.in-Some.ensures
    c.in-Some-next_gap.ensures in (
      subst (λ (q : ℕ). LacksTwo words equation q c.slot.result) (sym c.slot-position.ensures)
          (subst (λ (q : ℕ). LacksTwo words equation (get_or (slots equation) c.in-Some.first 0) q) (sym c.slot.ensures) two),
      refl,
    )

pub fill-requires-clause-missing : goal.fill-requires-clause-missing
fill-requires-clause-missing g c =
    let words = words_from c.args.start (g.E.EntryRow.slots c.args.entries.now) in
    let equation = equation_of c.args.line.now in
    subst (λ (q : ℕ). IsMissing words equation (One q)) (sym c.slot-position.ensures)
    (one_lacks words equation c.in-Some.first c.in-Some.ensures c.in-None.ensures)

missing :
    (g : _) (c : After-fill g)
    → IsMissing (words_from c.args.start (g.E.EntryRow.slots c.args.entries.now)) (equation_of c.args.line.now) (One c.slot-position.result)
missing g c =
    let words = words_from c.args.start (g.E.EntryRow.slots c.args.entries.now) in
    let equation = equation_of c.args.line.now in
    subst (λ (q : ℕ). IsMissing words equation (One q)) (sym c.slot-position.ensures)
    (one_lacks words equation c.in-Some.first c.in-Some.ensures c.in-None.ensures)

pub returns-in-None-clause-look : goal.returns-in-None-clause-look
returns-in-None-clause-look g c =
    let is = missing g (goal.at.returns-in-None-clause-look g c).After-fill in (
      is,
      look_words c.args.start c.args.line.now c.slot-position.result (g.E.EntryRow.slots c.args.entries.now)
          (g.E.EntryRow.slots c.fill.new.entries) c.requires.line is c.fill.ensures.fills,
      c.fill.ensures.told,
      c.fill.ensures.room,
    )

pub returns-in-None-clause-fills : goal.returns-in-None-clause-fills
returns-in-None-clause-fills g c =
    look_fills c.args.start c.args.line.now c.slot-position.result (g.E.EntryRow.slots c.args.entries.now)
    (g.E.EntryRow.slots c.fill.new.entries) c.requires.line (missing g (goal.at.returns-in-None-clause-fills g c).After-fill)
    c.fill.ensures.fills
