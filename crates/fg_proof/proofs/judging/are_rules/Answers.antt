use Rattle.std.proofs.Common.{refl, sym, subst, arith}
use Rattle.std.proofs.lemmas.List.Elements.{AllWithin-more, AllWithin-upto, All-from_all_within}
use Rattle.std.proofs.lemmas.Option.{get_or_from_slice_get}
use Rattle.fg_proof.specs.Judgement.{IsRule}
use Rattle.fg_proof.proofs.judging.are_rules.Goals as goal

pub loop-i-preserved : goal.loop-i-preserved
loop-i-preserved c =
    let here : IsRule c.item-base.result = record { shape = c.shape_ok.ensures.0 c.if-not-shape_ok.false; base = omega arith } in
    AllWithin-more IsRule c.args.lines.now 0 c.loop-i.i c.loop-i.invariant
    (λ d. subst IsRule (sym (get_or_from_slice_get c.args.lines.now c.loop-i.i c.item-base.result d c.item-base.ensures)) here)

pub returns : goal.returns
returns c = (
  λ _. All-from_all_within IsRule c.args.lines.now (AllWithin-upto IsRule c.args.lines.now 0 c.loop-i.i _ (omega arith) c.loop-i.invariant),
  λ _. refl,
)
