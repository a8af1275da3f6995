use Rattle.std.proofs.Common.{ap}
use Rattle.fg_io.proofs.FaultLemmas.{on_err}
use Rattle.fg_desk.specs.Contents.{Contents}
use Rattle.fg_walk.proofs.Given.{walked_by}
use Rattle.fg_prove.specs.declared.walk.Proving.{Proving}
use Rattle.fg_prove.proofs.Walking.{ProvedWhole, proves, proves_nothing, proves_part}
use Rattle.fg_prove.proofs.walk.prove_trace.Goals as goal

pub returns-in_err-prover-clause-part : goal.returns-in_err-prover-clause-part
returns-in_err-prover-clause-part g c = on_err _ _ (proves_nothing c.args.plan.now _ (g.K.Sink.written c.args.out.now))

pub walk_trace-requires-clause-limit : goal.walk_trace-requires-clause-limit
walk_trace-requires-clause-limit g c = c.requires.fits.max.1

pub walk_trace-requires-clause-new : goal.walk_trace-requires-clause-new
walk_trace-requires-clause-new g c = record {
  fits = c.requires.fits;
  one = c.requires.one;
  flow_is = c.in_ok-prover.ensures.port;
  opens = ap (λ (desk : Contents). desk.state) c.in_ok-prover.ensures.desk;
  empty = c.in_ok-prover.ensures.held;
}

pub returns-clause-whole : goal.returns-clause-whole
returns-clause-whole g c =
    let plan = c.args.plan.now in
    let told = walked_by ProvedWhole (λ (work : Proving). work.plan.now) c.walk_trace.new.telling plan plan.max _ _ _ c.walk_trace.result c.walk_trace.ensures.given c.walk_trace.ensures.whole in
    proves plan _ _ _ c.walk_trace.result told

pub returns-clause-part : goal.returns-clause-part
returns-clause-part g c = proves_part c.args.plan.now _ _ _ c.walk_trace.result c.walk_trace.ensures.part
