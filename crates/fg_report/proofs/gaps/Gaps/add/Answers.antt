use Rattle.std.proofs.Common.{arith, ◌∙◌, sym, subst}
use Rattle.fg_report.specs.Gaps.{AreKept}
use Rattle.fg_report.proofs.GapLemmas.{last_grown, last_end, kept_with, last_added}
use Rattle.fg_report.proofs.gaps.Gaps.add.Goals as goal

pub overflow_add-index_mut : goal.overflow_add-index_mut
overflow_add-index_mut c =
    let ends = last_end c.args.self.now c.self.inside.runs.items c.len-last.result c.args.first c.index_mut.result.now
    c.self.view_is (c.len-last.ensures ∙ c.self.inside.runs.ok.0) c.index_mut.ensures.value (c.ends_at.ensures.0 c.if-ends_at.true) in
    omega (arith, ends)

pub invariant_of-self : goal.invariant_of-self
invariant_of-self c =
    let grew = last_grown c.args.self.now c.self.inside.runs.items c.len-last.result c.args.first c.args.count c.index_mut.result.now
    c.self.view_is (c.len-last.ensures ∙ c.self.inside.runs.ok.0) c.index_mut.ensures.value (c.ends_at.ensures.0 c.if-ends_at.true) in
    subst (λ runs. AreKept runs) (sym grew)
    (kept_with c.args.self.now c.args.first c.args.count (subst (λ runs. AreKept runs) c.self.view_is c.self.invariant)
    c.requires.some c.requires.behind c.requires.limit)

pub returns-then-ends_at-clause-added : goal.returns-then-ends_at-clause-added
returns-then-ends_at-clause-added c =
    last_grown c.args.self.now c.self.inside.runs.items c.len-last.result c.args.first c.args.count c.index_mut.result.now
    c.self.view_is (c.len-last.ensures ∙ c.self.inside.runs.ok.0) c.index_mut.ensures.value (c.ends_at.ensures.0 c.if-ends_at.true)

pub invariant_of-self-2 : goal.invariant_of-self-2
invariant_of-self-2 c =
    let all = last_added c.args.self.now c.self.inside.runs.items c.push.new.self.items c.args.first c.args.count c.ends_at.result
    c.self.view_is c.in_ok-push.ensures.items c.if-ends_at.false c.ends_at.ensures.1 in
    subst (λ runs. AreKept runs) (sym all)
    (kept_with c.args.self.now c.args.first c.args.count (subst (λ runs. AreKept runs) c.self.view_is c.self.invariant)
    c.requires.some c.requires.behind c.requires.limit)

pub returns-clause-added : goal.returns-clause-added
returns-clause-added c =
    last_added c.args.self.now c.self.inside.runs.items c.push.new.self.items c.args.first c.args.count c.ends_at.result
    c.self.view_is c.in_ok-push.ensures.items c.if-ends_at.false c.ends_at.ensures.1
