use Rattle.std.proofs.Common.{ap}
use Rattle.std.proofs.lemmas.Result.{IfOk-at_ok, IfErr-at_err}
use Rattle.fg_words.specs.declared.Word.{Word}
use Rattle.fg_fechead.specs.declared.FecFault.{FecFault}
use Rattle.fg_fechead.specs.declared.Parity.{Parity as ParityRead}
use Rattle.fg_fechead.specs.declared.ParityHeader.{ParityHeader}
use Rattle.fg_fechead.specs.FecHeader.{parity_from}
use Rattle.fg_fechead.specs.ParityDatagram.{IsParityDatagram}
use Rattle.fg_desk.specs.Contents.{Contents}
use Rattle.fg_prove.proofs.Admitting.{refused_takes, parity_takes}
use Rattle.fg_prove.proofs.prover.admit_parity.Goals as goal

pub returns-in_default-clause-admits : goal.returns-in_default-clause-admits
returns-in_default-clause-admits c =
    refused_takes c.args.desk.now.state c.spare-spare.new.self.state c.args.datagram.now (ap (λ (desk : Contents). desk.state) c.spare-spare.ensures)
    (IfErr-at_err (λ (fault : FecFault). (parity : ParityRead) → ¬ IsParityDatagram c.args.datagram.now parity)
    c.in_default.is c.in_ok-parity.ensures.refused)

pub returns-clause-admits : goal.returns-clause-admits
returns-clause-admits c =
    let read = IfOk-at_ok (λ (t : ParityHeader × Word). IsParityDatagram c.args.datagram.now (parity_from t.0 t.1)) c.in-Ok.is c.in_ok-parity.ensures.ok in
    parity_takes c.args.desk.now.state c.spare-spare.new.self.state c.args.datagram.now (parity_from c.in-Ok.parity c.in-Ok.share)
    c.admit_parity-reply.result c.admit_parity-reply.new.self.state (ap (λ (desk : Contents). desk.state) c.spare-spare.ensures) read c.admit_parity-reply.ensures.state
