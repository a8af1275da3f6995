use Rattle.std.proofs.Common.{◌≢◌, ◌⊎◌, ℕ, Option, refl, true≢false, inl, inr, sym, ap, ◌∙◌, ⊎_elim, arith}
use Rattle.fg_words.specs.declared.Word.{Word}
use Rattle.fg_peel.specs.declared.span.Missing.{Missing}
use Rattle.fg_peel.specs.declared.span.Missing.TheVariants.{Nothing, One, Several}
use Rattle.fg_peel.specs.Equation.{Equation, IsComplete}
use Rattle.fg_peel.specs.Slots.{equation_of, IsMissing}
use Rattle.fg_buffer.specs.LiveEquations.{live_of}
use Rattle.fg_desk.specs.Contents.{known_in}
use Rattle.fg_core.specs.Flow.{is_vouched, is_handed_out}
use Rattle.fg_core.specs.declared.key.Key.{Key}
use Rattle.fg_core.proofs.Opening.{flag_is, opens, one_not_complete}
use Rattle.fg_core.proofs.open.is_open.Goals as goal

pub note_of-note-requires : goal.note_of-note-requires
note_of-note-requires c =
    let placed = (c.facts.ensures.facts.live c.args.line.now.serial (live_of c.args.line.now) c.requires.within.live_is).placed in
    let is = ap (λ (k : Key). k.place) c.key_of.ensures in
    omega (arith, placed, is)

pub returns-then-note : goal.returns-then-note
returns-then-note c = (
  λ is. absurd (true≢false (sym is)),
  λ is_open.
      sym is_open.free
      ∙ flag_is c.args.desk.now c.args.notes.now c.args.line.now c.facts.ensures.facts c.requires.within c.requires.bare c.note_of-note.result
      is_handed_out c.key_of.result c.key_of.ensures c.note_of-note.ensures.handed_out
      ∙ c.if-note.true,
)

-- What was vouched for is complete, and so isn't open.
pub returns-then-note-2 : goal.returns-then-note-2
returns-then-note-2 c =
    let desk = c.args.desk.now in
    let notes = c.args.notes.now in
    let line = c.args.line.now in
    let note = c.note_of-note.result in
    let facts = c.facts.ensures.facts in
    let vouched = flag_is desk notes line facts c.requires.within c.requires.bare note is_vouched c.key_of.result c.key_of.ensures
    c.note_of-note.ensures.vouched ∙ c.if-note-2.true in (
      λ is. absurd (true≢false (sym is)),
      λ is_open. ⊎_elim
          (λ one.
          absurd (one_not_complete (known_in desk) (equation_of line) one.0 one.1
          (c.requires.vouched line.serial (live_of line) c.requires.within.live_is vouched)))
          (λ all. absurd (true≢false (sym vouched ∙ all.1)))
          is_open.work,
    )

-- One slot without a word, or none.
some_work :
    (words : ℕ → Option Word) (equation : Equation) (which : Missing) → IsMissing words equation which → which ≢ Several
    → ((slot : ℕ) × IsMissing words equation (One slot)) ⊎ IsComplete words equation
some_work words equation Nothing is few = inr is
some_work words equation (One slot) is few = inl (slot, is)
some_work words equation Several is few = absurd (few refl)

pub returns-in_default : goal.returns-in_default
returns-in_default c =
    let desk = c.args.desk.now in
    let notes = c.args.notes.now in
    let line = c.args.line.now in
    let note = c.note_of-note.result in
    let facts = c.facts.ensures.facts in
    let flag = flag_is desk notes line facts c.requires.within c.requires.bare note in (
      λ shared. opens desk notes line facts c.requires.within c.requires.bare note
          (flag is_handed_out c.key_of.result c.key_of.ensures c.note_of-note.ensures.handed_out ∙ c.if-note.false)
          (c.are_shared.ensures.0 shared)
          (⊎_elim inl
          (λ all. inr (all, flag is_vouched c.key_of.result c.key_of.ensures c.note_of-note.ensures.vouched ∙ c.if-note-2.false))
          (some_work (known_in desk) (equation_of line) c.missing.result c.missing.ensures c.in_default.not-Several)),
      λ is_open. c.are_shared.ensures.1 (λ slot listed _. is_open.shared slot listed),
    )
