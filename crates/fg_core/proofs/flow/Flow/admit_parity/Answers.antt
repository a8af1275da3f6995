use Rattle.std.proofs.Common.{◌≡◌, List, sym, ap, subst, ◌∙◌, Option}
use Rattle.fg_desk.specs.Contents.{Contents, IsPlaceAfter}
use Rattle.fg_playout.specs.Admission.{Parity, AdmitsParity}
use Rattle.fg_core.specs.Board.{BoardState, AdmitsParityOn}
use Rattle.fg_playout.specs.declared.reply.Reply.{Reply}
use Rattle.fg_core.specs.declared.key.Key.{Key}
use Rattle.fg_core.specs.Flow.{board_of}
use Rattle.fg_core.specs.declared.notes.Note.{Note}
use Rattle.fg_core.proofs.Calling.{parity_on, key_of}
use Rattle.fg_core.proofs.Holding.{desk_of, notes_of}
use Rattle.fg_core.proofs.flow.Flow.admit_parity.Goals as goal
use Rattle.fg_core.proofs.flow.Flow.admit_parity.Goals.{in-Some, in-None}

pub returns : goal.returns
returns c =
    let f = c.self.inside in
    let old : Contents = f.held.value.desk in
    let new : Contents = c.admit_placed-reply.new.self in
    let e = c.admit_placed-reply.ensures in
    let value_is = c.deref_mut.ensures.value in
    let value = desk_of value_is in
    let parity : Parity = record { base = c.args.base; offset = c.args.shape.offset; count = c.args.shape.na; word = c.args.share } in
    let reply = c.admit_placed-reply.result.0 in
    let place = c.admit_placed-reply.result.1 in
    let serial_is : c.admitted-serial.result ≡ old.state.admitted =
    c.admitted-serial.ensures ∙ ap (λ (d : Contents). d.state.admitted) (desk_of c.deref-2.ensures) in
    let epoch_is : c.epoch-epoch.result ≡ new.epoch = c.epoch-epoch.ensures ∙ ap (λ (d : Contents). d.epoch) (desk_of c.deref-3.ensures) in
    let result_is : c.match-place.result ≡ (reply, key_of old.state.admitted new.epoch place) =
    elim c.match-place.branch [
      | in-Some w ↦ w.result-is ∙ (λ i. (reply, key_of (serial_is i) (epoch_is i) (sym w.in-Some.is i)))
      | in-None w ↦ w.result-is ∙ (λ i. (reply, key_of (serial_is i) (epoch_is i) (sym w.in-None.is i)))
    ] in
    let on : AdmitsParityOn (board_of old f.held.value.notes) parity reply (key_of old.state.admitted new.epoch place) (board_of new f.held.value.notes) =
    parity_on old new f.held.value.notes c.self.invariant parity reply place
    (subst (λ (d : Contents). AdmitsParity d.state parity reply new.state) value e.state)
    (subst (λ (d : Contents). new ≡ record d { state = new.state }) value e.rest)
    (subst (λ (d : Contents). IsPlaceAfter d.state reply place new.state) value e.place) in
    subst (λ (notes : List Note).
    AdmitsParityOn c.args.self.now parity c.match-place.result.0 c.match-place.result.1 (board_of new notes))
    (sym (notes_of value_is))
    (subst (λ (b : BoardState). AdmitsParityOn b parity c.match-place.result.0 c.match-place.result.1 (board_of new f.held.value.notes)) c.self.view_is
    (subst (λ (r : Reply × Option Key). AdmitsParityOn (board_of old f.held.value.notes) parity r.0 r.1 (board_of new f.held.value.notes)) (sym result_is) on))
