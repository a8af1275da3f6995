use Rattle.std.proofs.Common.{◌≡◌, List, length, slice_set, refl, sym, ap, subst, ◌∙◌}
use Rattle.fg_desk.specs.Contents.{Contents}
use Rattle.fg_playout.specs.Facts.{Holds}
use Rattle.fg_core.specs.Board.{BoardState, IsHeld}
use Rattle.fg_peel.specs.Live.{live_limit}
use Rattle.fg_core.specs.Flow.{board_of, with_handed, AreKept, note_at, says, is_vouched}
use Rattle.fg_core.specs.declared.flow.Held.{Held}
use Rattle.fg_core.specs.declared.notes.Note.{Note}
use Rattle.fg_core.proofs.Calling.{handed, key_within, still_kept}
use Rattle.fg_core.proofs.Holding.{desk_of, notes_of}
use Rattle.fg_core.proofs.flow.Flow.hand.Goals as goal

pub note_of-note-requires : goal.note_of-note-requires
note_of-note-requires c =
    let held : IsHeld (board_of c.self.inside.held.value.desk c.self.inside.held.value.notes) c.args.key = rw c.self.view_is c.requires in
    key_within c.self.inside.held.value.desk c.self.inside.held.value.notes (subst (λ (d : Contents). Holds d.state) (desk_of c.deref.ensures) c.facts.ensures.facts) c.args.key held

pub put-requires : goal.put-requires
put-requires c =
    let held : IsHeld (board_of c.self.inside.held.value.desk c.self.inside.held.value.notes) c.args.key = rw c.self.view_is c.requires in
    key_within c.self.inside.held.value.desk c.self.inside.held.value.notes (subst (λ (d : Contents). Holds d.state) (desk_of c.deref.ensures) c.facts.ensures.facts) c.args.key held

pub returns : goal.returns
returns c =
    let f = c.self.inside in
    let held : IsHeld (board_of f.held.value.desk f.held.value.notes) c.args.key = rw c.self.view_is c.requires in
    let facts = subst (λ (d : Contents). Holds d.state) (desk_of c.deref.ensures) c.facts.ensures.facts in
    let note : Note = record c.note_of-note.result { handed_out = c.args.out } in
    let value = c.deref_mut.ensures.value in
    let put = c.put.ensures.put ∙ ap (λ (notes : List Note). slice_set notes c.args.key.place note) (notes_of value) in
    let count = subst (λ (notes : List Note). length notes ≡ live_limit) (notes_of value) c.put.ensures.count in
    let vouched =
    c.note_of-note.ensures.vouched
    ∙ ap (λ (notes : List Note). says is_vouched c.args.key.epoch c.args.key.serial (note_at notes c.args.key.place))
    (notes_of c.deref-2.ensures) in
    (λ i. board_of (desk_of value i) (put i))
    ∙ handed f.held.value.desk f.held.value.notes facts count c.args.key held.0 held.1 note c.note_of-note.ensures.serial
    c.note_of-note.ensures.epoch c.args.out vouched refl
    ∙ ap (λ (b : BoardState). with_handed b c.args.key.serial c.args.out) c.self.view_is

pub invariant_of-self : goal.invariant_of-self
invariant_of-self c =
    let f = c.self.inside in
    let held : IsHeld (board_of f.held.value.desk f.held.value.notes) c.args.key = rw c.self.view_is c.requires in
    let facts = subst (λ (d : Contents). Holds d.state) (desk_of c.deref.ensures) c.facts.ensures.facts in
    let note : Note = record c.note_of-note.result { handed_out = c.args.out } in
    let value = c.deref_mut.ensures.value in
    let put = c.put.ensures.put ∙ ap (λ (notes : List Note). slice_set notes c.args.key.place note) (notes_of value) in
    let count = subst (λ (notes : List Note). length notes ≡ live_limit) (notes_of value) c.put.ensures.count in
    subst (λ (h : Held). AreKept h.desk h.notes) (sym (λ i. record { desk = desk_of value i; notes = put i }))
    (still_kept f.held.value.desk f.held.value.notes facts count c.args.key held.0 held.1 note c.note_of-note.ensures.serial
    c.note_of-note.ensures.epoch c.self.invariant)
