-- The limits of a desk's numbers after one more call, which may have admitted one more equation.
use Rattle.std.proofs.Common.{◌+◌, ◌<◌, ◌≤◌, ◌^◌, ℕ, arith}
use Rattle.fg_desk.specs.Inside.{IsLimited, AreLimited, Parts}

pub one_call_more :
    (parts : Parts) (admitted : ℕ) → AreLimited parts → admitted ≤ parts.admitted + 1 → parts.calls < 2 ^ 62
    → IsLimited parts.playout parts.buffer.reach parts.buffer.mark parts.top parts.runs admitted (parts.calls + 1) parts.epoch
one_call_more parts admitted limits few calls =
    let runs = limits.runs_limit in
    let were = limits.admitted_limit in
    let epoch = limits.epoch_limit in
    record {
      depth_limit = limits.depth_limit;
      reach_is = limits.reach_is;
      mark_limit = limits.mark_limit;
      top_limit = limits.top_limit;
      runs_limit = omega (arith, runs);
      admitted_limit = omega (arith, were, few);
      calls_limit = omega (arith, calls);
      epoch_limit = omega (arith, epoch);
    }
