use Rattle.fg_prove.proofs.Walking.{told_first}
use Rattle.fg_prove.proofs.walk.ProvingTelling.begin.Goals as goal

pub returns-clause-told : goal.returns-clause-told
returns-clause-told g c =
    let work = c.args.self.now in
    told_first work.plan.now work.prover.gaps.port work.prover.desk.state work.prover.gaps.text.held (g.K.Sink.written c.args._out.now) c.requires
