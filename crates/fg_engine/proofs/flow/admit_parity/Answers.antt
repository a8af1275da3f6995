use Rattle.std.proofs.Common.{sym}
use Rattle.std.proofs.lemmas.Result.{IfOk-at_ok, IfErr-at_err}
use Rattle.fg_words.specs.declared.Word.{Word}
use Rattle.fg_fechead.specs.declared.FecFault.{FecFault}
use Rattle.fg_fechead.specs.declared.Parity.{Parity as ParityRead}
use Rattle.fg_fechead.specs.declared.ParityHeader.{ParityHeader}
use Rattle.fg_fechead.specs.FecHeader.{parity_from}
use Rattle.fg_fechead.specs.ParityDatagram.{IsParityDatagram}
use Rattle.fg_engine.proofs.Reading.{refused_takes, parity_takes}
use Rattle.fg_engine.proofs.flow.admit_parity.Goals as goal

pub returns-in_default-clause-admits : goal.returns-in_default-clause-admits
returns-in_default-clause-admits g c =
    rw c.spare-spare.ensures (refused_takes (g.D.WindowState.state c.args.window.now) c.args.datagram.now
    (IfErr-at_err (λ (fault : FecFault). (parity : ParityRead) → ¬ IsParityDatagram c.args.datagram.now parity)
    c.in_default.is c.in_ok-parity.ensures.refused))

pub returns-clause-admits : goal.returns-clause-admits
returns-clause-admits g c =
    let read = IfOk-at_ok (λ (t : ParityHeader × Word). IsParityDatagram c.args.datagram.now (parity_from t.0 t.1)) c.in-Ok.is c.in_ok-parity.ensures.ok in
    rw (sym c.spare-spare.ensures) (parity_takes (g.D.WindowState.state c.spare-spare.new.self) c.args.datagram.now (parity_from c.in-Ok.parity c.in-Ok.share) c.admit_parity.result (g.D.WindowState.state c.admit_parity.new.self)
    read c.admit_parity.ensures)
