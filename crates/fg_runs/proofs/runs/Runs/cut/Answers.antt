use Rattle.std.proofs.Common.{◌≤◌, sym, subst, arith}
use Rattle.fg_report.specs.Gaps.{AreApart}
use Rattle.fg_runs.proofs.CutLemmas.{keeps_front, cut_wide}
use Rattle.fg_runs.proofs.runs.Runs.cut.Goals as goal

pub returns-then-first_of_run-end-clause-apart : goal.returns-then-first_of_run-end-clause-apart
returns-then-first_of_run-end-clause-apart c apart =
    (cut_wide c.args.end c.self.inside.runs.items c.loop-first.self-inside.runs.items c.pop.new.self.items c.push_reserved.new.self.items
    c.in-Some.first c.in-Some.length c.from-first_of_run.result c.from.result c.min-left.result c.from-first_of_run.ensures c.from.ensures
    c.in-Some.ensures.items c.push_reserved.ensures.items c.min-left.ensures c.if-first_of_run-end.true
    (c.loop-first.invariant (subst (λ r. AreApart r) (sym c.self.view_is) apart))).apart

pub returns-then-first_of_run-end-clause-below : goal.returns-then-first_of_run-end-clause-below
returns-then-first_of_run-end-clause-below c apart position = rw (← c.self.view_is)
    ((cut_wide c.args.end c.self.inside.runs.items c.loop-first.self-inside.runs.items c.pop.new.self.items c.push_reserved.new.self.items
    c.in-Some.first c.in-Some.length c.from-first_of_run.result c.from.result c.min-left.result c.from-first_of_run.ensures c.from.ensures
    c.in-Some.ensures.items c.push_reserved.ensures.items c.min-left.ensures c.if-first_of_run-end.true
    (c.loop-first.invariant (subst (λ r. AreApart r) (sym c.self.view_is) apart))).below position)

pub loop-first-preserved : goal.loop-first-preserved
loop-first-preserved c apart =
    let past : c.args.end ≤ c.in-Some.first = omega (arith, c.from-first_of_run.ensures) in
    keeps_front c.args.end c.self.inside.runs.items c.loop-first.self-inside.runs.items c.pop.new.self.items
    (c.in-Some.first, c.in-Some.length) c.in-Some.ensures.items past (c.loop-first.invariant apart)
