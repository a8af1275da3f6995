-- Which equations stay live and settled over a play.
use Rattle.std.proofs.Common.{◌≡◌, ◌+◌, ◌<◌, ◌≤◌, ◌&&◌, ℕ, ltb, leb, Option, None, IsSome, sym, ap, subst, ◌∙◌, arith, lt-ltb, le-leb}
use Rattle.std.proofs.lemmas.Bool.{and_from, cond-true}
use Rattle.std.specs.List.{Contains}
use Rattle.std.specs.FinMap.{FinMap, get}
use Rattle.std.specs.Ordering.{nat_cmp}
use Rattle.fg_words.specs.declared.Word.{Word}
use Rattle.fg_shape.specs.Shape.{IsShape}
use Rattle.fg_peel.specs.Equation.{Equation, IsComplete, slots}
use Rattle.fg_playout.specs.State.{Live, last_slot}
use Rattle.fg_playout.specs.Admission.{kept_count}
use Rattle.fg_buffer.specs.PlayoutBuffer.{BufferState, buffer_words, Advances}
use Rattle.fg_buffer.specs.LiveEquations.{LiveState, Retires, SettledAreBased}
use Rattle.fg_desk.specs.Storage.{AreInBuffer, EachSettled, Keeps}
use Rattle.fg_peel.proofs.SlotRange.{slot_is_near}

-- The words of a complete equation that reaches to the new mark are kept before it.
pub complete_is_based :
    (count : ℕ) (old new : BufferState) → Advances count old new → (equation : Equation) → IsShape equation.offset equation.count
    → IsComplete (buffer_words old) equation → new.mark ≤ last_slot equation
    → (slot : ℕ) → Contains (slots equation) slot → slot < new.mark → IsSome (get new.kept slot)
complete_is_based count old new advances equation shape complete reaches slot c below =
    let first = (slot_is_near equation slot shape c).first in
    let span = (slot_is_near equation slot shape c).span in
    let near : new.mark ≤ slot + kept_count = omega (arith, first, span, reaches) in
    let word : get new.kept slot ≡ buffer_words old slot =
    advances.kept slot
    ∙ cond-true (ltb slot new.mark && leb new.mark (slot + kept_count)) (buffer_words old slot) None
    (and_from (ltb slot new.mark) (leb new.mark (slot + kept_count)) (lt-ltb slot new.mark below) (le-leb new.mark (slot + kept_count) near)) in
    subst (λ (o : Option Word). IsSome o) (sym word) (complete slot c)

module _
    (count : ℕ) (buffer new : BufferState) (old between : LiveState) (within : AreInBuffer buffer old) (advances : Advances count buffer new)
    (same : between.live ≡ old.live) (complete : EachSettled between (IsComplete (buffer_words buffer))) where
  was_live : (serial : ℕ) → get between.live serial ≡ get old.live serial
  was_live serial = ap (λ (m : FinMap nat_cmp Live). get m serial) same

  pub settled_are_based : SettledAreBased new.mark new.kept between
  settled_are_based serial live settled is reaches =
      complete_is_based count buffer new advances live.equation (within serial live (sym (was_live serial) ∙ is)).shape
      (complete serial live is settled) reaches

  pub keeps : (left : LiveState) → Retires new.mark new.kept between left → Keeps (buffer_words buffer) new.mark new.kept old left
  keeps left retires = record {
    live = λ serial live. (
      λ is. (let r = (retires.live serial live).0 is in (sym (was_live serial) ∙ r.0, r.1)),
      λ r. (retires.live serial live).1 (was_live serial ∙ r.0, r.1),
    );
    settled = λ serial live is settled. complete serial live ((retires.live serial live).0 is).0 ((retires.settled serial).0 settled).0;
  }
