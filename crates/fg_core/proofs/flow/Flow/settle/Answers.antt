use Rattle.std.proofs.Common.{◌≡◌, ◌<◌, List, length, slice_set, refl, sym, ap, subst, ◌∙◌, true}
use Rattle.fg_desk.specs.Contents.{Contents}
use Rattle.fg_playout.specs.Facts.{Holds}
use Rattle.fg_core.specs.Board.{BoardState, IsHeld, with_vouched}
use Rattle.fg_peel.specs.Live.{live_limit}
use Rattle.fg_core.specs.Flow.{board_of, AreKept, note_at, says, is_handed_out}
use Rattle.fg_core.specs.declared.flow.Held.{Held}
use Rattle.fg_core.specs.declared.notes.Note.{Note}
use Rattle.fg_core.proofs.Calling.{told_of, key_within, still_kept}
use Rattle.fg_core.proofs.Holding.{desk_of, notes_of}
use Rattle.fg_core.proofs.flow.Flow.settle.Goals as goal
use Rattle.fg_core.proofs.flow.Flow.settle.Goals.{After-facts, After-put}

module _ (c : After-facts) where
  held : IsHeld (board_of c.self.inside.held.value.desk c.self.inside.held.value.notes) c.args.key
  held = subst (λ (b : BoardState). IsHeld b c.args.key) (sym c.self.view_is) (c.requires.0, c.requires.1)

  facts : Holds c.self.inside.held.value.desk.state
  facts = subst (λ (d : Contents). Holds d.state) (desk_of c.deref.ensures) c.facts.ensures.facts

  within : c.args.key.place < live_limit
  within = key_within c.self.inside.held.value.desk c.self.inside.held.value.notes facts c.args.key held

pub note_of-note-requires : goal.note_of-note-requires
note_of-note-requires c = within (goal.at.note_of-note-requires c).After-facts

pub put-requires : goal.put-requires
put-requires c = within (goal.at.put-requires c).After-facts

-- What the flow holds then.
settled :
    (c : After-put) → Holds c.self.inside.held.value.desk.state
    → IsHeld (board_of c.self.inside.held.value.desk c.self.inside.held.value.notes) c.args.key
    → AreKept c.deref_mut-2.result.now.desk c.put.new.self
    × (board_of c.deref_mut-2.result.now.desk c.put.new.self ≡ with_vouched c.args.self.now c.args.key.serial)
settled c facts held =
    let f = c.self.inside.held.value in
    let key = c.args.key in
    let value = c.deref_mut.ensures.value in
    let note : Note = record c.note_of-note.result { vouched = true } in
    let desk = desk_of c.deref_mut-2.ensures.value ∙ c.vouch.ensures ∙ desk_of value in
    let notes = notes_of c.deref_mut-2.ensures.value ∙ notes_of value in
    let put = c.put.ensures.put ∙ ap (λ (notes : List Note). slice_set notes key.place note) notes in
    let count = subst (λ (notes : List Note). length notes ≡ live_limit) notes c.put.ensures.count in
    let handed_out =
    c.note_of-note.ensures.handed_out
    ∙ ap (λ (notes : List Note). says is_handed_out key.epoch key.serial (note_at notes key.place)) (notes_of c.deref-2.ensures ∙ notes_of value) in (
      subst (λ (h : Held). AreKept h.desk h.notes) (sym (λ i. record { desk = desk i; notes = put i }))
          (still_kept f.desk f.notes facts count key held.0 held.1 note c.note_of-note.ensures.serial c.note_of-note.ensures.epoch c.self.invariant),
      (λ i. board_of (desk i) (put i))
          ∙ told_of f.desk f.notes facts count key held.0 held.1 note c.note_of-note.ensures.serial c.note_of-note.ensures.epoch handed_out refl
          ∙ ap (λ (b : BoardState). with_vouched b key.serial) c.self.view_is,
    )

pub invariant_of-self : goal.invariant_of-self
invariant_of-self c =
    let d = goal.at.invariant_of-self c in
    (settled d.After-put (facts d.After-facts) (held d.After-facts)).0

pub returns : goal.returns
returns c =
    let d = goal.at.returns c in
    (settled d.After-put (facts d.After-facts) (held d.After-facts)).1
