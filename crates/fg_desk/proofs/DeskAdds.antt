-- A desk after an equation is added is sound.
use Rattle.std.proofs.Common.{◌≡◌, ◌≢◌, ◌+◌, ◌<◌, ◌≤◌, ◌^◌, ℕ, Option, None, IsSome, sym, ◌∙◌, ⊎_elim, arith, subst}
use Rattle.std.proofs.lemmas.Bool.{cases_eq}
use Rattle.std.proofs.lemmas.Option.{same_Some}
use Rattle.std.specs.FinMap.{get, insert}
use Rattle.fg_words.specs.declared.Word.{Word}
use Rattle.fg_words.specs.Word.{HasRoom}
use Rattle.fg_shape.specs.Shape.{IsShape}
use Rattle.fg_peel.specs.Equation.{Equation}
use Rattle.fg_peel.specs.Laws.{PeelingsTakeEquations}
use Rattle.fg_peel.proofs.Options.{none_or_some, none_has_no_value}
use Rattle.fg_peel.proofs.Maps.{inserted, beside_inserted}
use Rattle.fg_playout.specs.declared.reply.Reply.TheVariants.{Admitted}
use Rattle.fg_playout.specs.State.{Live, known, live_equations}
use Rattle.fg_playout.specs.Admission.{IsEquationReply, IsLeastFree, live_limit, with_equation}
use Rattle.fg_playout.specs.Facts.{Holds}
use Rattle.fg_desk.specs.Inside.{AreLimited, Parts, AreSound, state_of}
use Rattle.fg_buffer.specs.PlayoutBuffer.{buffer_known, buffer_words}
use Rattle.fg_buffer.specs.LiveEquations.{LiveState, AreLive}
use Rattle.fg_playout.proofs.Added.{added}
use Rattle.fg_playout.proofs.AdmissionsAdd.{stays_listed}
use Rattle.fg_desk.proofs.DeskPlays.{ComeByPeeling, sound_from}
use Rattle.fg_desk.proofs.Limits.{one_call_more}
use Rattle.fg_playout.proofs.Parities.{IsNew, with_equation_holds}
use Rattle.fg_peel.proofs.Places.{free_place}

-- No equation has the number that the next one gets.
pub next_is_fresh : (parts : Parts) → AreSound parts → get parts.lines.live parts.admitted ≡ None
next_is_fresh parts sound = ⊎_elim
    (λ none. none)
    (λ some. let numbered = (sound.facts.live parts.admitted some.0 some.1).numbered in absurd (omega (arith, numbered)))
    (none_or_some (get parts.lines.live parts.admitted))

abbrev pub lines_with : Parts → ℕ → Equation → LiveState
lines_with parts place equation =
    record parts.lines { live = insert parts.lines.live parts.admitted (record { place = place; equation = equation }) }

abbrev pub with_line : Parts → LiveState → Parts
with_line parts lines = record parts { lines = lines; admitted = parts.admitted + 1; calls = parts.calls + 1 }

module _
    (parts : Parts) (sound : AreSound parts) (lines : AreLive parts.lines) (place : ℕ) (equation : Equation)
    (shape : IsShape equation.offset equation.count) (base_limit : equation.base ≤ 2 ^ 62)
    (replies : IsEquationReply (state_of parts) equation Admitted) (least : IsLeastFree parts.lines.live place)
    (opened : parts.top ≢ None) (from : parts.origin ≤ equation.base) (calls : parts.calls < 2 ^ 62) where
  is_new : IsNew (state_of parts) place equation
  is_new =
      let free = free_place parts.lines.live live_limit replies.2 in
      let first : place ≤ free.0 = least.1 free.0 free.2 in
      let below : free.0 < live_limit = free.1 in
      record {
        shape = shape;
        base_limit = base_limit;
        timely = replies.0;
        no_twin = replies.1;
        placed = omega (arith, first, below);
        free = least.0;
      }

  holds_with : Holds (with_equation (state_of parts) place equation)
  holds_with = with_equation_holds (state_of parts) place equation sound.facts is_new opened from

  limited : AreLimited (with_line parts (lines_with parts place equation))
  limited = one_call_more parts (parts.admitted + 1) sound.limits (omega arith) calls

  -- What came from a peeling still does.
  peeled_still :
      PeelingsTakeEquations → (words : ℕ → Option Word) → ComeByPeeling parts words
      → ComeByPeeling (with_line parts (lines_with parts place equation)) words
  peeled_still take words p = (
    p.0,
    take (known (state_of parts)) (live_equations (state_of parts))
        (live_equations (with_equation (state_of parts) place equation)) p.0
        (stays_listed (state_of parts) place equation sound.facts) p.1,
    p.2,
  )

  pub sound_with_line :
      PeelingsTakeEquations → HasRoom equation.parity → AreSound (with_line parts (lines_with parts place equation))
  sound_with_line take room =
      sound_from (with_line parts (lines_with parts place equation)) limited holds_with sound.cached
      (peeled_still take (buffer_known parts.buffer) sound.solved) (peeled_still take (buffer_words parts.buffer) sound.peeled)
      (λ serial live is settled. ⊎_elim
      (λ here.
      let some : IsSome (get parts.lines.live serial) = lines.settled serial settled in
      absurd (none_has_no_value (get parts.lines.live parts.admitted) (next_is_fresh parts sound)
      (subst (λ (n : ℕ). IsSome (get parts.lines.live n)) here some)))
      (λ beside.
      sound.settled serial live
      (sym (beside_inserted parts.lines.live parts.admitted (added place equation) serial beside) ∙ is) settled)
      (cases_eq serial parts.admitted))
      (λ serial live is. ⊎_elim
      (λ here.
      let same : added place equation ≡ live =
      same_Some (added place equation) live (sym (inserted parts.lines.live parts.admitted (added place equation) serial here) ∙ is) in
      subst (λ (l : Live). HasRoom l.equation.parity) same room)
      (λ beside.
      sound.rooms serial live
      (sym (beside_inserted parts.lines.live parts.admitted (added place equation) serial beside) ∙ is))
      (cases_eq serial parts.admitted))
      sound.beside
