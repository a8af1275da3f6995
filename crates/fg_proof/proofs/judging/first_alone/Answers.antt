use Rattle.std.proofs.Common.{sym, ◌∙◌, arith}
use Rattle.std.proofs.lemmas.Bool.{false≢true}
use Rattle.fg_proof.proofs.JudgingHoles.{alone_passed, alone_first, alone_none}
use Rattle.fg_proof.proofs.judging.first_alone.Goals as goal

pub loop-i-preserved : goal.loop-i-preserved
loop-i-preserved c =
    alone_passed c.args.case.now c.loop-i.i c.item-base.result c.item-base.ensures
    (λ one. false≢true (sym c.if-has_one_hole.false ∙ c.has_one_hole.ensures.1 one)) c.loop-i.invariant

pub returns-then-has_one_hole-clause-least : goal.returns-then-has_one_hole-clause-least
returns-then-has_one_hole-clause-least c =
    alone_first c.args.case.now c.loop-i.i c.item-base.result c.item-base.ensures (c.has_one_hole.ensures.0 c.if-has_one_hole.true) c.loop-i.invariant

pub returns-clause-none : goal.returns-clause-none
returns-clause-none c = alone_none c.args.case.now c.loop-i.i (omega arith) c.loop-i.invariant
