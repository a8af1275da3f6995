use Rattle.std.proofs.Common.{◌+◌, ◌∙◌, length, ap}
use Rattle.std.proofs.lemmas.List.{length_push}
use Rattle.fg_flows.specs.Plan.{playout_of}
use Rattle.fg_engine.proofs.Windows.{empty_more}
use Rattle.fg_engine.proofs.alone.open_desks.Goals as goal

pub loop-preserved : goal.loop-preserved
loop-preserved c = record {
  count = c.loop.invariant.count;
  long = ap length c.in_ok-push.ensures.items ∙ length_push c.loop.desks.items c.in_ok-new.field-0 ∙ ap (λ n. n + 1) c.loop.invariant.long;
  each = empty_more (playout_of c.args.plan.now) c.loop.desks.items c.push.new.self.items c.in_ok-new.field-0 c.in_ok-push.ensures.items c.in_ok-new.ensures c.loop.invariant.each;
}
