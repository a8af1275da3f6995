use Rattle.std.proofs.Common.{arith, ◌∙◌}
use Rattle.fg_report.proofs.GapLemmas.{last_grown, last_end, last_added}
use Rattle.fg_runs.proofs.runs.Runs.join.Goals as goal

pub overflow_add-index_mut : goal.overflow_add-index_mut
overflow_add-index_mut c =
    let ends = last_end c.args.self.now c.self.inside.runs.items c.len-last.result c.args.first c.index_mut.result.now
    c.self.view_is (c.len-last.ensures ∙ c.self.inside.runs.ok.0) c.index_mut.ensures.value (c.ends_at.ensures.0 c.if-ends_at.true) in
    omega (arith, ends)

pub returns-then-ends_at-clause-ok : goal.returns-then-ends_at-clause-ok
returns-then-ends_at-clause-ok c =
    last_grown c.args.self.now c.self.inside.runs.items c.len-last.result c.args.first c.args.length c.index_mut.result.now
    c.self.view_is (c.len-last.ensures ∙ c.self.inside.runs.ok.0) c.index_mut.ensures.value (c.ends_at.ensures.0 c.if-ends_at.true)

pub returns-clause-ok : goal.returns-clause-ok
returns-clause-ok c =
    last_added c.args.self.now c.self.inside.runs.items c.push.new.self.items c.args.first c.args.length c.ends_at.result
    c.self.view_is c.in_ok-push.ensures.items c.if-ends_at.false c.ends_at.ensures.1
