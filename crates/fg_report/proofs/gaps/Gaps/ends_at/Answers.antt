use Rattle.std.proofs.Common.{arith, ◌∙◌, ap}
use Rattle.fg_report.specs.Gaps.{gaps_end}
use Rattle.fg_report.proofs.GapLemmas.{got_end, ends_test}
use Rattle.fg_report.proofs.gaps.Gaps.ends_at.Goals as goal

pub overflow_add-result : goal.overflow_add-result
overflow_add-result c =
    let got = got_end c.deref.result.now c.in-Some.last.now c.in-Some.ensures.value in
    let same = ap gaps_end c.deref.ensures.value in
    omega (arith, got.1, same, c.self.invariant.limit)

pub returns-in-Some : goal.returns-in-Some
returns-in-Some c =
    ends_test c.args.self.now c.deref.result.now c.in-Some.last.now c.args.position (c.deref.ensures.value ∙ c.self.view_is)
    (got_end c.deref.result.now c.in-Some.last.now c.in-Some.ensures.value)
