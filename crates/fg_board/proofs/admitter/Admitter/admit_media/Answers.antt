use Rattle.std.proofs.Common.{ap}
use Rattle.fg_words.specs.declared.Word.{Word}
use Rattle.fg_core.specs.Core.{Call, media}
use Rattle.fg_board.specs.OwnTurns.{standing}
use Rattle.fg_board.proofs.OneCall.{call_made}
use Rattle.fg_board.proofs.OwnDesk.{media_by_desk}
use Rattle.fg_board.proofs.admitter.Admitter.admit_media.Goals as goal

pub returns-clause-call : goal.returns-clause-call
returns-clause-call g c =
    let call : Word → Call = λ word. media c.args.seq c.args.ssrc word c.admit_media-reply.result in
    call_made (call c.args.share) (call c.of-word.result.value) c.args.self.now c.self.inside.seat c.enter-flow.new.self
    c.leave.new.self c.enter-flow.result c.admit_media-reply.new.self c.self.view_is (ap call c.of-word.ensures)
    c.enter-flow.ensures c.admit_media-reply.ensures c.leave.ensures

pub returns-clause-state : goal.returns-clause-state
returns-clause-state g c =
    media_by_desk c.args.seq c.args.ssrc c.args.share c.admit_media-reply.result c.args.self.now (standing c.leave.new.self)
    (returns-clause-call g c)
