use Rattle.std.proofs.Common.{refl, sym, ◌∙◌, arith}
use Rattle.std.proofs.lemmas.Bool.{false≢true}
use Rattle.fg_proof.specs.Judgement.{AreInOrder}
use Rattle.fg_proof.proofs.JudgingRuns.{order_rises, rises_more, rises_not, rises_all}
use Rattle.fg_proof.proofs.judging.are_in_order.Goals as goal

pub loop-i-init : goal.loop-i-init
loop-i-init c = order_rises c.args.runs.now

pub returns-then-not-may_follow : goal.returns-then-not-may_follow
returns-then-not-may_follow c = (
  λ false. absurd (false≢true false),
  λ order. sym c.if-not-may_follow.true
      ∙ c.may_follow.ensures.1 (rises_not (AreInOrder c.args.runs.now) c.args.runs.now c.loop-i.i c.loop-i.least c.item-first.result c.item-first.ensures c.loop-i.invariant order),
)

pub loop-i-preserved : goal.loop-i-preserved
loop-i-preserved c =
    let follows = c.may_follow.ensures.0 c.if-not-may_follow.false in
    rises_more (AreInOrder c.args.runs.now) c.args.runs.now c.loop-i.i c.loop-i.least c.item-first.result c.item-first.ensures
    follows.0 follows.1 follows.2 c.loop-i.invariant

pub returns : goal.returns
returns c = (
  λ _. rises_all (AreInOrder c.args.runs.now) c.args.runs.now c.loop-i.i c.loop-i.least (omega arith) c.loop-i.invariant,
  λ _. refl,
)
