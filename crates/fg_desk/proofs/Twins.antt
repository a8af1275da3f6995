-- Live lines with the slots of an equation.
use Rattle.std.proofs.Common.{◌≡◌, ℕ, sym, ap, ◌∙◌}
use Rattle.std.specs.Bool.{⊤}
use Rattle.std.specs.FinMap.{FinMap, get}
use Rattle.std.specs.Ordering.{nat_cmp}
use Rattle.fg_words.specs.declared.Word.{Word}
use Rattle.fg_peel.specs.declared.Line.{Line}
use Rattle.fg_peel.specs.Equation.{Equation}
use Rattle.fg_playout.specs.State.{State, Live}
use Rattle.fg_peel.specs.Slots.{equation_of}
use Rattle.fg_playout.specs.Admission.{HasSlots, HasTwin}
use Rattle.fg_buffer.specs.LiveEquations.{LiveState, IsLiveLine, live_of}
use Rattle.fg_desk.proofs.SettledEquations.{line_with}

module _ (desk : State) (lines : LiveState) (same : lines.live ≡ desk.equations) (equation : Equation) where
  stands : (serial : ℕ) → get lines.live serial ≡ get desk.equations serial
  stands serial = ap (λ (m : FinMap nat_cmp Live). get m serial) same

  pub twin_of :
      (P : Word → Type 0) (line : Line) → IsLiveLine lines line → HasSlots equation.base equation.offset equation.count (equation_of line)
      → P line.parity → HasTwin desk equation P
  twin_of P line live slots holds = (
    line.serial,
    live_of line,
    sym (stands line.serial) ∙ live,
    slots,
    holds,
  )

  pub no_twin :
      ((line : Line) → IsLiveLine lines line → ¬ HasSlots equation.base equation.offset equation.count (equation_of line))
      → ¬ HasTwin desk equation (λ _. ⊤)
  no_twin none twin =
      none (line_with twin.0 twin.1) (stands twin.0 ∙ twin.2) twin.3
