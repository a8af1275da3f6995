use Rattle.std.proofs.Common.{List, sym, subst}
use Rattle.fg_desk.specs.Contents.{Contents, IsAfterArrival}
use Rattle.fg_playout.specs.Admission.{AdmitsMedia}
use Rattle.fg_core.specs.Board.{BoardState, AdmitsMediaOn}
use Rattle.fg_core.specs.Flow.{board_of}
use Rattle.fg_core.specs.declared.notes.Note.{Note}
use Rattle.fg_core.proofs.Follows.{Follows, media_follows}
use Rattle.fg_core.proofs.Noting.{keeps_notes}
use Rattle.fg_core.proofs.Holding.{desk_of, notes_of}
use Rattle.fg_core.proofs.flow.Flow.admit_media.Goals as goal

pub returns : goal.returns
returns c =
    let f = c.self.inside in
    let old : Contents = f.held.value.desk in
    let new : Contents = c.admit_media.new.self in
    let value = desk_of c.deref_mut.ensures.value in
    let state = subst (λ (d : Contents). AdmitsMedia d.state c.args.seq c.args.ssrc c.args.share c.admit_media.result new.state) value c.admit_media.ensures.state in
    let rest = subst (λ (d : Contents). IsAfterArrival d c.args.seq c.args.ssrc c.args.share c.admit_media.result new) value c.admit_media.ensures.rest in
    let follows : Follows old new = media_follows old new c.self.invariant.bare c.args.seq c.args.ssrc c.args.share c.admit_media.result state rest in
    subst (λ (notes : List Note). AdmitsMediaOn c.args.self.now c.args.seq c.args.ssrc c.args.share c.admit_media.result (board_of new notes))
    (sym (notes_of c.deref_mut.ensures.value))
    (subst (λ (b : BoardState). AdmitsMediaOn b c.args.seq c.args.ssrc c.args.share c.admit_media.result (board_of new f.held.value.notes)) c.self.view_is
    (record { state = state; solved = rest; notes = keeps_notes f.held.value.notes old new c.self.invariant follows }))
