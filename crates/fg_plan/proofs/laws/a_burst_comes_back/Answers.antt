-- The matrix is as wide as the burst that it was chosen for.
use Rattle.std.proofs.Common.{ℕ, Bool, List, length, arith}
use Rattle.fg_shape.specs.declared.encoding.Settings.{Settings}
use Rattle.fg_shape.specs.Playout.{Playout}
use Rattle.fg_drill.specs.Covered.{AreCovered, BurstsAreCovered}
use Rattle.fg_plan.specs.Laws.{IsAsPlanned}
use Rattle.fg_plan.proofs.laws.a_burst_comes_back.Goals as goal

planned_is_covered :
    BurstsAreCovered → (burst most : ℕ) (rows : Bool) (playout : Playout) (settings : Settings) (payloads : List (List ℕ))
    (lost : ℕ → Bool) (first size : ℕ) → IsAsPlanned burst most rows playout settings payloads lost first size
    → AreCovered settings.layout (length payloads) lost
planned_is_covered law burst most rows playout settings payloads lost first size planned =
    let wide = planned.chosen.0.wide in
    let within = planned.within in
    (law settings.layout (length payloads) lost first size planned.flat (omega (arith, within, wide)) planned.is_burst).0

pub returns : goal.returns
returns c = record {
  peels = λ burst most rows playout settings payloads lost first size planned.
      c.covered_losses_peel.ensures playout settings payloads lost planned.can
      (planned_is_covered c.bursts_are_covered.ensures burst most rows playout settings payloads lost first size planned) planned.waits;
  whole = λ burst most rows playout settings payloads lost first size result planned is.
      c.covered_losses_come_back.ensures playout settings payloads lost result planned.can
      (planned_is_covered c.bursts_are_covered.ensures burst most rows playout settings payloads lost first size planned) planned.waits
      is;
}
