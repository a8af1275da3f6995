use Rattle.std.proofs.Common.{ap}
use Rattle.fg_words.specs.declared.Word.{Word}
use Rattle.fg_playout.specs.Admission.{Parity}
use Rattle.fg_core.specs.Core.{Call, parity}
use Rattle.fg_board.specs.OwnTurns.{standing}
use Rattle.fg_board.proofs.OneCall.{call_made}
use Rattle.fg_board.proofs.OwnDesk.{parity_by_desk, key_is_given}
use Rattle.fg_board.proofs.admitter.Admitter.admit_parity.Goals as goal

pub returns-clause-call : goal.returns-clause-call
returns-clause-call g c =
    let call : Word → Call = λ word. parity
    (record { base = c.args.base; offset = c.args.shape.offset; count = c.args.shape.na; word = word })
    c.admit_parity-reply.result.0 c.admit_parity-reply.result.1 in
    call_made (call c.args.share) (call c.of-word.result.value) c.args.self.now c.self.inside.seat c.enter-flow.new.self
    c.leave.new.self c.enter-flow.result c.admit_parity-reply.new.self c.self.view_is (ap call c.of-word.ensures)
    c.enter-flow.ensures c.admit_parity-reply.ensures c.leave.ensures

pub returns-clause-state : goal.returns-clause-state
returns-clause-state g c =
    let given : Parity = record { base = c.args.base; offset = c.args.shape.offset; count = c.args.shape.na; word = c.args.share } in
    parity_by_desk given c.admit_parity-reply.result.0 c.admit_parity-reply.result.1 c.args.self.now (standing c.leave.new.self)
    (returns-clause-call g c)

pub returns-clause-key : goal.returns-clause-key
returns-clause-key g c =
    let given : Parity = record { base = c.args.base; offset = c.args.shape.offset; count = c.args.shape.na; word = c.args.share } in
    key_is_given given c.admit_parity-reply.result.0 c.admit_parity-reply.result.1 c.args.self.now (standing c.leave.new.self)
    (returns-clause-call g c)
