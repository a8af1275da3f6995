use Rattle.std.proofs.Common.{[], arith}
use Rattle.fg_monitor_tests.proofs.tests.a_monitor_tells.Goals as goal

pub feed-requires-2-clause-few : goal.feed-requires-2-clause-few
feed-requires-2-clause-few g c = let seen = c.feed.ensures.seen ([]) c.in_ok-monitor.ensures in let fed = seen.fed in omega arith
