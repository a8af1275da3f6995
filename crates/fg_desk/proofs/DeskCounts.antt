-- A call that changes nothing else.
use Rattle.std.proofs.Common.{◌≡◌, ◌≢◌, ◌+◌, ◌<◌, ◌^◌, ℕ, Option, Some, MatchOption, IsSomeAnd, refl, sym, subst, arith}
use Rattle.std.specs.FinMap.{get}
use Rattle.fg_words.specs.declared.Word.{Word}
use Rattle.fg_peel.specs.Equation.{Equation}
use Rattle.fg_peel.proofs.Maps.{inserted}
use Rattle.fg_peel.proofs.Options.{some_and_from}
use Rattle.fg_playout.specs.declared.reply.Reply.{Reply}
use Rattle.fg_playout.specs.declared.reply.Reply.TheVariants.{Admitted, NotStarted, BeforeStart}
use Rattle.fg_playout.specs.State.{State, Top, Live}
use Rattle.fg_playout.specs.Admission.{Parity, IsEquationReply, IsParityReply, equation_at, IsAfterMedia, IsAfterParity, base_on, counted, with_equation}
use Rattle.fg_desk.specs.Contents.{IsPlaceAfter}
use Rattle.fg_desk.specs.Inside.{Parts, AreSound, state_of}
use Rattle.fg_playout.proofs.Added.{added}
use Rattle.fg_desk.proofs.DeskPlays.{sound_from}
use Rattle.fg_desk.proofs.Limits.{one_call_more}
use Rattle.fg_playout.proofs.Opened.{counted_holds}
use Rattle.fg_playout.proofs.Parities.{base_is}

abbrev pub counted_parts : Parts → Parts
counted_parts parts = record parts { calls = parts.calls + 1 }

pub counted_sound : (parts : Parts) → AreSound parts → parts.calls < 2 ^ 62 → AreSound (counted_parts parts)
counted_sound parts sound calls =
    sound_from (counted_parts parts) (one_call_more parts parts.admitted sound.limits (omega arith) calls)
    (counted_holds (state_of parts) sound.facts) sound.cached sound.solved sound.peeled sound.settled sound.rooms sound.beside

pub counted_after_media :
    (old : State) (seq ssrc : ℕ) (word : Word) (reply : Reply) → reply ≢ Admitted
    → IsAfterMedia old seq ssrc word reply (counted old)
counted_after_media old seq ssrc word Admitted other = absurd (other refl)
counted_after_media old seq ssrc word reply other = refl

pub counted_after_parity : (old : State) (parity : Parity) (reply : Reply) → reply ≢ Admitted → IsAfterParity old parity reply (counted old)
counted_after_parity old parity Admitted other = absurd (other refl)
counted_after_parity old parity reply other = refl

-- The equation that is admitted has its place under the next serial number.
pub placed_after :
    (old new : State) (place : ℕ) (equation : Equation) → new ≡ with_equation old place equation
    → IsPlaceAfter old Admitted (Some place) new
placed_after old new place equation is = (
  refl,
  subst (λ (s : State). IsSomeAnd (get s.equations old.admitted) (λ live. live.place ≡ place)) (sym is)
      (some_and_from (get (with_equation old place equation).equations old.admitted) (λ (live : Live). live.place ≡ place)
      (added place equation) (inserted old.equations old.admitted (added place equation) old.admitted refl) refl),
)

-- The reply to a parity datagram where there is a run.
pub parity_reply_in_run :
    (old : State) (parity : Parity) (top : Top) (reply : Reply) → old.top ≡ Some top
    → MatchOption (base_on old parity.base) (reply ≡ BeforeStart)
    (λ position. IsEquationReply old (equation_at position parity) reply)
    → IsParityReply old parity reply
parity_reply_in_run old parity top reply is replies =
    subst (λ (t : Option Top).
    MatchOption t (reply ≡ NotStarted) (λ _.
    MatchOption (base_on old parity.base) (reply ≡ BeforeStart)
    (λ position. IsEquationReply old (equation_at position parity) reply)))
    (sym is) replies

-- And where its base has a position.
pub parity_reply_at :
    (old : State) (parity : Parity) (position : ℕ) (reply : Reply) → base_on old parity.base ≡ Some position
    → IsEquationReply old (equation_at position parity) reply → IsParityReply old parity reply
parity_reply_at old parity position reply on replies =
    let base = base_is old parity.base position on in
    parity_reply_in_run old parity base.0 reply base.1
    (subst (λ (o : Option ℕ). MatchOption o (reply ≡ BeforeStart) (λ p. IsEquationReply old (equation_at p parity) reply))
    (sym on) replies)
