use Rattle.std.proofs.Common.{List, [], sym, subst, arith}
use Rattle.fg_survey.specs.declared.lanes.Lane.{Lane}
use Rattle.fg_survey.specs.Lanes.{AreLanes, ArePlaces}
use Rattle.fg_survey.proofs.LaneLemmas.{no_lanes, no_places}
use Rattle.fg_survey.proofs.lanes.Lanes.new.Goals as goal

pub returns : goal.returns
returns c = record {
  are = subst (λ (l : List Lane). AreLanes l []) (sym c.new.ensures.items) no_lanes;
  places = subst (λ (l : List Lane). ArePlaces c.in_ok-vec.field-0.items l) (sym c.new.ensures.items) (no_places c.in_ok-vec.field-0.items (omega (arith, c.in_ok-vec.field-0.ok.0, c.in_ok-vec.ensures.len)));
}
