use Rattle.std.proofs.Common.{List, sym, subst}
use Rattle.fg_desk.specs.Contents.{Contents, ChangesInPlay}
use Rattle.fg_playout.specs.Play.{Play, IsPlay}
use Rattle.fg_core.specs.Board.{BoardState, PlaysOn}
use Rattle.fg_core.specs.Core.{play_of}
use Rattle.fg_core.specs.Flow.{board_of}
use Rattle.fg_core.specs.declared.notes.Note.{Note}
use Rattle.fg_core.proofs.Calling.{plays_on}
use Rattle.fg_core.proofs.Holding.{desk_of, notes_of}
use Rattle.fg_core.proofs.flow.Flow.play.Goals as goal

pub returns-clause-play : goal.returns-clause-play
returns-clause-play c =
    let f = c.self.inside in
    let old : Contents = f.held.value.desk in
    let new : Contents = c.play.new.self in
    let value = desk_of c.deref_mut.ensures.value in
    let play : Play = play_of c.play.result c.play.new.tray.shown in
    subst (λ (notes : List Note). PlaysOn c.args.self.now play (board_of new notes)) (sym (notes_of c.deref_mut.ensures.value))
    (subst (λ (b : BoardState). PlaysOn b play (board_of new f.held.value.notes)) c.self.view_is
    (plays_on old new f.held.value.notes c.self.invariant play
    (subst (λ (d : Contents). IsPlay d.state.playout.window d.state play new.state) value c.play.ensures.play)
    (subst (λ (d : Contents). ChangesInPlay c.play.result.verdict d new) value c.play.ensures.changes)))
