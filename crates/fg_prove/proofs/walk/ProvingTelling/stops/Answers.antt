use Rattle.fg_flows.specs.Plan.{playout_of}
use Rattle.fg_prove.proofs.Taking.{told_is_part}
use Rattle.fg_prove.proofs.Walking.{none_is_part, proved_none}
use Rattle.fg_prove.proofs.walk.ProvingTelling.stops.Goals as goal

pub returns-clause-nothing : goal.returns-clause-nothing
returns-clause-nothing c = λ new place written. proved_none c.args.self.now.plan.now written

pub returns-clause-none : goal.returns-clause-none
returns-clause-none c = λ new records written. none_is_part c.args.self.now.plan.now records written

pub returns-clause-told : goal.returns-clause-told
returns-clause-told c = λ records later before after h.
    let work = c.args.self.now in
    let laws = c.records_are_told.ensures in
    told_is_part laws.media laws.parity laws.mades laws.taken (playout_of work.plan.now) _ records work.prover.desk.state before work.prover.gaps.text.held after h.taken later
