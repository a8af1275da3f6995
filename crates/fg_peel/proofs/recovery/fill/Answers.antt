use Rattle.fg_peel.proofs.FoundMedia.{filled_media, told_media, filled_room}
use Rattle.std.proofs.Common.{◌≡◌, ◌≢◌, ◌<◌, length, get_or, sym, ap, ◌∙◌, arith}
use Rattle.std.proofs.lemmas.List.{length-set}
use Rattle.std.proofs.lemmas.List.Elements.{Contains-get_or}
use Rattle.fg_shape.proofs.ShapeLemmas.{length-slots_of}
use Rattle.fg_peel.specs.Equation.{slots}
use Rattle.fg_peel.specs.Slots.{equation_of, words_from}
use Rattle.fg_peel.proofs.Entries.{fits_base, fits_slot, missing_is_empty}
use Rattle.fg_peel.proofs.Filling.{filling_first, filling_skips, filling_adds, filling_done}
use Rattle.fg_peel.proofs.recovery.fill.Goals as goal
use Rattle.fg_peel.proofs.recovery.fill.Goals.{then-other-position, else-other-position, After-slot-other}
use Rattle.fg_peel.proofs.Options.{value_of}

pub overflow_sub-target : goal.overflow_sub-target
overflow_sub-target g c = (c.requires.line.within c.args.position c.requires.missing.0).0

pub fill-requires-clause-within : goal.fill-requires-clause-within
fill-requires-clause-within g c = omega (arith, c.requires.line.within c.args.position c.requires.missing.0)

pub fill-requires-clause-empty : goal.fill-requires-clause-empty
fill-requires-clause-empty g c =
    missing_is_empty c.args.start (g.E.EntryRow.slots c.args.entries.now) c.args.position
    (c.requires.line.within c.args.position c.requires.missing.0).0 c.requires.missing.1

pub slot-other-requires-clause-base : goal.slot-other-requires-clause-base
slot-other-requires-clause-base g c = fits_base c.args.start (length (g.E.EntryRow.slots c.args.entries.now)) c.args.line.now c.requires.line c.requires.limit

pub overflow_sub-other : goal.overflow_sub-other
overflow_sub-other g c =
    omega (arith, c.slot-other.ensures, fits_slot c.args.start (length (g.E.EntryRow.slots c.args.entries.now)) c.args.line.now c.loop-j.j c.requires.line c.loop-j-test.true)

-- there are as many entries as at first
same_count : (g : _) (c : After-slot-other g) → length (g.E.EntryRow.slots c.loop-j.entries) ≡ length (g.E.EntryRow.slots c.args.entries.now)
same_count g c = ap length c.loop-j.invariant.0.entry ∙ length-set (g.E.EntryRow.slots c.args.entries.now) _ _

pub add-requires-clause-within : goal.add-requires-clause-within
add-requires-clause-within g c =
    omega (arith, same_count g (goal.at.add-requires-clause-within g c).After-slot-other, c.requires.line.within c.args.position c.requires.missing.0)

pub add-requires-clause-other : goal.add-requires-clause-other
add-requires-clause-other g c =
    omega (arith, same_count g (goal.at.add-requires-clause-other g c).After-slot-other, c.slot-other.ensures, fits_slot c.args.start (length (g.E.EntryRow.slots c.args.entries.now)) c.args.line.now c.loop-j.j c.requires.line c.loop-j-test.true)

pub add-requires-clause-apart : goal.add-requires-clause-apart
add-requires-clause-apart g c = λ same.
    c.if-other-position.true (omega (
      arith,
      same,
      c.slot-other.ensures,
      c.requires.line.within c.args.position c.requires.missing.0,
      fits_slot c.args.start (length (g.E.EntryRow.slots c.args.entries.now)) c.args.line.now c.loop-j.j c.requires.line c.loop-j-test.true,
    ))

pub loop-j-init : goal.loop-j-init
loop-j-init g c = (
  rw (c.fill.ensures.filled, c.word.ensures.word)
      (filling_first c.args.start (g.E.EntryRow.slots c.args.entries.now) c.args.position (slots (equation_of c.args.line.now)) c.args.line.now.parity (rw c.word.ensures.word at c.word.ensures.room)),
  c.fill.ensures.rest,
)

pub loop-j-preserved : goal.loop-j-preserved
loop-j-preserved g c =
    let xs = slots (equation_of c.args.line.now) in
    let j = c.loop-j.j in
    let words = words_from c.args.start (g.E.EntryRow.slots c.args.entries.now) in
    let within : j < length xs = omega (arith, length-slots_of c.args.line.now.base c.args.line.now.shape.offset c.args.line.now.shape.na) in
    let from = c.requires.line.within c.args.position c.requires.missing.0 in
    elim c.if-other-position.branch [
      | then-other-position w ↦
          let differs : get_or xs j 0 ≢ c.args.position = λ same. w.if-other-position.true (c.slot-other.ensures ∙ same) in
          let known = value_of (words (get_or xs j 0)) (c.requires.missing.2 (get_or xs j 0) (Contains-get_or xs j 0 within) differs) in
          rw w.entries-is (
            filling_adds c.args.start (g.E.EntryRow.slots c.args.entries.now) c.args.position xs c.args.line.now.parity j (g.E.EntryRow.slots c.loop-j.entries) (g.E.EntryRow.slots w.add.new.self) known.0 within (omega arith) from.0
                (fits_slot c.args.start (length (g.E.EntryRow.slots c.args.entries.now)) c.args.line.now j c.requires.line c.loop-j-test.true).0 differs known.1
                (rw c.slot-other.ensures at w.add.ensures.added) c.loop-j.invariant.0,
            w.add.ensures.rest ∙ c.loop-j.invariant.1,
          )
      | else-other-position w ↦
          rw w.entries-is (
            filling_skips c.args.start (g.E.EntryRow.slots c.args.entries.now) c.args.position xs c.args.line.now.parity j (g.E.EntryRow.slots c.loop-j.entries) within
                (sym c.slot-other.ensures ∙ w.if-other-position.false) c.loop-j.invariant.0,
            c.loop-j.invariant.1,
          )
    ]

pub returns-clause-fills : goal.returns-clause-fills
returns-clause-fills g c =
    let xs = slots (equation_of c.args.line.now) in
    filling_done c.args.start (g.E.EntryRow.slots c.args.entries.now) c.args.position xs c.args.line.now.parity c.loop-j.j (g.E.EntryRow.slots c.loop-j.entries)
    (omega (arith, length-slots_of c.args.line.now.base c.args.line.now.shape.offset c.args.line.now.shape.na)) c.loop-j.invariant.0

pub returns-clause-media : goal.returns-clause-media
returns-clause-media g c = λ media.
    let xs = slots (equation_of c.args.line.now) in
    let from = c.requires.line.within c.args.position c.requires.missing.0 in
    filled_media c.args.start (equation_of c.args.line.now) c.args.position (g.E.EntryRow.slots c.args.entries.now)
    (g.E.EntryRow.slots c.loop-j.entries) from.0 (omega (arith, from))
    (filling_done c.args.start (g.E.EntryRow.slots c.args.entries.now) c.args.position xs c.args.line.now.parity c.loop-j.j (g.E.EntryRow.slots c.loop-j.entries)
    (omega (arith, length-slots_of c.args.line.now.base c.args.line.now.shape.offset c.args.line.now.shape.na)) c.loop-j.invariant.0)
    (c.is_media_at.ensures.media.0 media)

pub is_media_at-requires : goal.is_media_at-requires
is_media_at-requires g c =
    let same : length (g.E.EntryRow.slots c.loop-j.entries) ≡ length (g.E.EntryRow.slots c.args.entries.now) =
    ap length c.loop-j.invariant.0.entry ∙ length-set (g.E.EntryRow.slots c.args.entries.now) _ _ in
    omega (arith, same, c.requires.line.within c.args.position c.requires.missing.0)

pub returns-clause-told : goal.returns-clause-told
returns-clause-told g c =
    let xs = slots (equation_of c.args.line.now) in
    let from = c.requires.line.within c.args.position c.requires.missing.0 in
    let told =
    told_media c.args.start (equation_of c.args.line.now) c.args.position (g.E.EntryRow.slots c.args.entries.now)
    (g.E.EntryRow.slots c.loop-j.entries) (omega (arith, from))
    (filling_done c.args.start (g.E.EntryRow.slots c.args.entries.now) c.args.position xs c.args.line.now.parity c.loop-j.j (g.E.EntryRow.slots c.loop-j.entries)
    (omega (arith, length-slots_of c.args.line.now.base c.args.line.now.shape.offset c.args.line.now.shape.na)) c.loop-j.invariant.0) in
    (λ yes. told.0 (c.is_media_at.ensures.media.0 yes), λ media. c.is_media_at.ensures.media.1 (told.1 media))

pub returns-clause-room : goal.returns-clause-room
returns-clause-room g c =
    let xs = slots (equation_of c.args.line.now) in
    let from = c.requires.line.within c.args.position c.requires.missing.0 in
    filled_room c.args.start (equation_of c.args.line.now) c.args.position (g.E.EntryRow.slots c.args.entries.now)
    (g.E.EntryRow.slots c.loop-j.entries) (omega (arith, from))
    (filling_done c.args.start (g.E.EntryRow.slots c.args.entries.now) c.args.position xs c.args.line.now.parity c.loop-j.j (g.E.EntryRow.slots c.loop-j.entries)
    (omega (arith, length-slots_of c.args.line.now.base c.args.line.now.shape.offset c.args.line.now.shape.na)) c.loop-j.invariant.0)
    c.is_media_at.ensures.room
