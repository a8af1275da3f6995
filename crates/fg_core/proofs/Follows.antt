-- What each call of the admitter keeps of a desk, as far as notes and shares go.
use Rattle.std.proofs.Common.{◌≡◌, ◌<◌, ◌≤◌, ℕ, Some, sym, ap, ◌∙◌, ⊎_elim, arith}
use Rattle.std.specs.FinMap.{get}
use Rattle.fg_words.specs.declared.Word.{Word}
use Rattle.fg_peel.proofs.Options.{some_and}
use Rattle.fg_peel.proofs.Maps.{beside_inserted}
use Rattle.fg_playout.specs.declared.reply.Reply.{Reply}
use Rattle.fg_playout.specs.declared.reply.Reply.TheVariants.{Admitted}
use Rattle.fg_playout.specs.declared.reply.Outcome.{Outcome}
use Rattle.fg_playout.specs.declared.reply.Outcome.TheVariants.{Repaired, Inconsistent}
use Rattle.fg_playout.specs.State.{State, Live}
use Rattle.fg_playout.specs.Admission.{Parity, AdmitsMedia, AdmitsParity, IsAfterMedia, IsAfterParity, IsLeastFree, counted, position_on, base_on, with_equation, equation_at}
use Rattle.fg_playout.specs.Play.{Play, IsPlay}
use Rattle.fg_playout.specs.Held.{at_time}
use Rattle.fg_desk.specs.Contents.{Contents, GivesWay, IsAfterArrival, ChangesInPlay, epoch_after}
use Rattle.fg_core.proofs.Next.{AreBareKept, desk_told, told_changes}
use Rattle.fg_core.proofs.Played.{bare_is_kept}
use Rattle.fg_core.proofs.Received.{Leaves, media_leaves, contradicted_or_not, not_contradicted}

-- The numbers never fall, and no equation becomes live under a serial number that was given before.
pub record Follows (old new : Contents) : Type 0 where
  pub admitted : old.state.admitted ≤ new.state.admitted
  pub epoch : old.epoch ≤ new.epoch
  pub lives :
      (serial : ℕ) (live : Live) → serial < old.state.admitted → get new.state.equations serial ≡ Some live
      → get old.state.equations serial ≡ Some live
  pub bare : AreBareKept new

-- A call that is only counted leaves all, also where it tells a time.
counted_leaves : (old new : State) → new ≡ counted old → Leaves old new
counted_leaves old new is = record {
  mark_is = ap (λ (s : State). s.mark) is;
  kept_is = ap (λ (s : State). s.kept) is;
  admitted_is = ap (λ (s : State). s.admitted) is;
  still_live = λ serial live lives. sym (ap (λ (s : State). get s.equations serial) is) ∙ lives;
}

told_leaves : (old new : State) (time : ℕ) → new ≡ counted (at_time old time) → Leaves old new
told_leaves old new time is = record {
  mark_is = ap (λ (s : State). s.mark) is;
  kept_is = ap (λ (s : State). s.kept) is;
  admitted_is = ap (λ (s : State). s.admitted) is;
  still_live = λ serial live lives. sym (ap (λ (s : State). get s.equations serial) is) ∙ lives;
}

module _ (old new : Contents) (bare : AreBareKept old) where
  leaves_follow : Leaves old.state new.state → old.epoch ≤ new.epoch → new.bare ≡ old.bare → Follows old new
  leaves_follow leaves rises same = record {
    admitted = (let a = leaves.admitted_is in omega (arith, a));
    epoch = rises;
    lives = λ serial live _ is. leaves.still_live serial live is;
    bare = λ position is. rw (leaves.kept_is) (bare position (rw same at is));
  }

  pub counted_follows : new ≡ record old { state = new.state } → new.state ≡ counted old.state → Follows old new
  counted_follows rest is =
      let e = ap (λ (d : Contents). d.epoch) rest in
      leaves_follow (counted_leaves old.state new.state is) (omega (arith, e)) (ap (λ (d : Contents). d.bare) rest)

  pub told_follows :
      (time : ℕ) → new ≡ record old { state = new.state } → new.state ≡ counted (at_time old.state time) → Follows old new
  told_follows time rest is =
      let e = ap (λ (d : Contents). d.epoch) rest in
      leaves_follow (told_leaves old.state new.state time is) (omega (arith, e)) (ap (λ (d : Contents). d.bare) rest)

  gave_way :
      (position : ℕ) (word : Word) → GivesWay old position word new → (old.epoch ≤ new.epoch) × (new.bare ≡ old.bare)
  gave_way position word way = ⊎_elim
      (λ contradicted.
      let is = way.withdrawn contradicted in
      let e = ap (λ (d : Contents). d.epoch) is in
      (omega (arith, e), ap (λ (d : Contents). d.bare) is))
      (λ agrees.
      let is = way.agreed (not_contradicted old position word agrees) in
      let e = ap (λ (d : Contents). d.epoch) is in
      (omega (arith, e), ap (λ (d : Contents). d.bare) is))
      (contradicted_or_not old position word)

  pub media_follows :
      (seq ssrc : ℕ) (word : Word) (reply : Reply) → AdmitsMedia old.state seq ssrc word reply new.state
      → IsAfterArrival old seq ssrc word reply new → Follows old new
  media_follows seq ssrc word reply admits after = go reply admits.after after
    where
      go : (reply : Reply) → IsAfterMedia old.state seq ssrc word reply new.state
          → IsAfterArrival old seq ssrc word reply new → Follows old new
      go Admitted state rest =
          let r = some_and (position_on old.state seq ssrc) (λ position. GivesWay old position word new) rest in
          let way = gave_way r.0 word r.2 in
          leaves_follow (media_leaves old.state new.state seq ssrc word state) way.0 way.1
      go other state rest = counted_follows rest state

  pub parity_follows :
      (parity : Parity) (reply : Reply) → AdmitsParity old.state parity reply new.state
      → new ≡ record old { state = new.state } → Follows old new
  parity_follows parity reply admits rest = go reply admits.after
    where
      go : (reply : Reply) → IsAfterParity old.state parity reply new.state → Follows old new
      go Admitted state =
          let s = some_and (base_on old.state parity.base) (λ (position : ℕ).
          (place : ℕ) × IsLeastFree old.state.equations place
          × (new.state ≡ with_equation old.state place (equation_at position parity))) state in
          let e = ap (λ (d : Contents). d.epoch) rest in
          let a = ap (λ (s : State). s.admitted) s.2.2 in
          let live : Live = record { place = s.2.0; equation = equation_at s.0 parity } in
          record {
            admitted = omega (arith, a);
            epoch = omega (arith, e);
            lives = λ serial other below is.
                sym (beside_inserted old.state.equations old.state.admitted live serial (λ same. omega (arith, same, below)))
                ∙ sym (ap (λ (s : State). get s.equations serial) s.2.2) ∙ is;
            bare = λ position is.
                rw (ap (λ (s : State). s.kept) s.2.2) (bare position (rw (ap (λ (d : Contents). d.bare) rest) at is));
          }
      go other state = counted_follows rest state

  epoch_rises : (outcome : Outcome) → new.epoch ≡ epoch_after old.epoch outcome → old.epoch ≤ new.epoch
  epoch_rises Repaired is = omega (arith, is)
  epoch_rises Inconsistent is = omega (arith, is)

  pub play_follows :
      (count : ℕ) (play : Play) → IsPlay count old.state play new.state → ChangesInPlay play.outcome old new → Follows old new
  play_follows count play plays changes =
      let a = ap (λ (s : State). s.admitted) plays.rest in
      record {
        admitted = omega (arith, a);
        epoch = epoch_rises play.outcome changes.epoch;
        lives = λ serial live _ is. ((plays.equations serial live).0 is).0;
        bare = bare_is_kept old new play.outcome changes;
      }

-- A play that follows on the time that a desk was told.
pub held_follows :
    (old new : Contents) (bare : AreBareKept old) (time count : ℕ) (play : Play)
    → IsPlay count (at_time old.state time) play new.state → ChangesInPlay play.outcome old new → Follows old new
held_follows old new bare time count play plays changes =
    let follows = play_follows (desk_told old time) new bare count play plays (told_changes old new time play.outcome changes) in
    record { admitted = follows.admitted; epoch = follows.epoch; lives = follows.lives; bare = follows.bare }
