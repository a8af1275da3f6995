-- Admissions leave a desk orderly.
use Rattle.std.proofs.Common.{◌≡◌, ◌<◌, ◌≤◌, ℕ, IsSome, sym, subst, ◌∙◌, ⊎_elim}
use Rattle.std.proofs.lemmas.Bool.{cases_eq}
use Rattle.std.proofs.lemmas.Option.{same_Some}
use Rattle.std.specs.List.{Contains}
use Rattle.std.specs.FinMap.{get}
use Rattle.fg_words.specs.declared.Word.{Word}
use Rattle.fg_words.specs.Word.{IsMedia}
use Rattle.fg_peel.specs.Equation.{Equation, slots}
use Rattle.fg_peel.proofs.Options.{some_and}
use Rattle.fg_peel.proofs.Maps.{nothing_in_empty, inserted, beside_inserted}
use Rattle.fg_playout.specs.declared.reply.Reply.{Reply}
use Rattle.fg_playout.specs.declared.reply.Reply.TheVariants.{Admitted}
use Rattle.fg_playout.specs.State.{State, Live}
use Rattle.fg_playout.specs.Admission.{Parity, HaveSameSlots, HasTwin, IsLate, IsLeastFree, IsAfterMedia, IsAfterParity, IsParityReply, Sender, former, own, another, sender_of, begun, run_by, run_on, position_on, base_on, with_media, with_equation, equation_at, counted}
use Rattle.fg_playout.proofs.Added.{added_or_old, apart_with_added, flip_slots, no_twin_apart}
use Rattle.fg_playout.proofs.Orderly.{IsOrderly}
use Rattle.fg_playout.proofs.Parities.{is_admitted, based_unless_late}

pub orderly_counted : (old : State) → IsOrderly old → IsOrderly (counted old)
orderly_counted old orderly = record {
  kept = orderly.kept;
  media = orderly.media;
  some_offset = orderly.some_offset;
  based = orderly.based;
  apart = orderly.apart;
}

orderly_with_media : (old : State) (seq ssrc position : ℕ) (word : Word) → IsOrderly old → IsMedia word → IsOrderly (with_media old seq ssrc position word)
orderly_with_media old seq ssrc position word orderly media = record {
  kept = orderly.kept;
  media = λ p w is. ⊎_elim
      (λ here. subst IsMedia (same_Some word w (sym (inserted old.media position word p here) ∙ is)) media)
      (λ beside. orderly.media p w (sym (beside_inserted old.media position word p beside) ∙ is))
      (cases_eq p position);
  some_offset = orderly.some_offset;
  based = orderly.based;
  apart = orderly.apart;
}

orderly_begun : (old : State) → IsOrderly old → IsOrderly (begun old)
orderly_begun old orderly = record {
  kept = orderly.kept;
  media = orderly.media;
  some_offset = λ s l is. absurd (nothing_in_empty s l is);
  based = λ s l is. absurd (nothing_in_empty s l is);
  apart = λ s t one other is. absurd (nothing_in_empty s one is);
}

orderly_run : (old : State) (sender : Sender) → IsOrderly old → IsOrderly (run_by old sender)
orderly_run old former orderly = orderly
orderly_run old (own top) orderly = orderly
orderly_run old another orderly = orderly_begun old orderly

pub orderly_after_media :
    (old new : State) (seq ssrc : ℕ) (word : Word) (reply : Reply) → IsOrderly old → IsMedia word
    → IsAfterMedia old seq ssrc word reply new → IsOrderly new
orderly_after_media old new seq ssrc word Admitted orderly media after =
    let a = some_and (position_on old seq ssrc) (λ p. new ≡ with_media (run_on old ssrc) seq ssrc p word) after in
    subst IsOrderly (sym a.2)
    (orderly_with_media (run_on old ssrc) seq ssrc a.0 word (orderly_run old (sender_of old ssrc) orderly) media)
orderly_after_media old new seq ssrc word reply orderly media after = subst IsOrderly (sym after) (orderly_counted old orderly)

orderly_with_equation :
    (old : State) (place : ℕ) (equation : Equation) → IsOrderly old → ¬ IsLate old equation
    → ¬ HasTwin old equation (λ _. Unit {0}) → 1 ≤ equation.offset → IsOrderly (with_equation old place equation)
orderly_with_equation old place equation orderly not_late no_twin some_offset = record {
  kept = orderly.kept;
  media = orderly.media;
  some_offset = λ s l is. added_or_old old place equation (λ (v : Live). 1 ≤ v.equation.offset) s l is
      (λ here. some_offset) (orderly.some_offset s l);
  based = λ s l is. added_or_old old place equation
      (λ (v : Live). (slot : ℕ) → Contains (slots v.equation) slot → slot < old.mark → IsSome (get old.kept slot)) s l is
      (λ here. based_unless_late old equation not_late) (orderly.based s l);
  apart = apart_with_added old place equation (λ (one other : Live). ¬ HaveSameSlots one.equation other.equation)
      (no_twin_apart old equation no_twin)
      (λ s l is same. no_twin_apart old equation no_twin s l is (flip_slots equation l.equation same)) orderly.apart;
}

pub orderly_after_parity :
    (old new : State) (parity : Parity) (reply : Reply) → IsOrderly old → 1 ≤ parity.offset → IsParityReply old parity reply
    → IsAfterParity old parity reply new → IsOrderly new
orderly_after_parity old new parity Admitted orderly some_offset replies after =
    let a = some_and (base_on old parity.base)
    (λ position. (place : ℕ) × IsLeastFree old.equations place × (new ≡ with_equation old place (equation_at position parity))) after in
    let is = is_admitted old parity a.0 replies a.1 in
    subst IsOrderly (sym a.2.2)
    (orderly_with_equation old a.2.0 (equation_at a.0 parity) orderly is.replies.0.0 is.replies.1 some_offset)
orderly_after_parity old new parity reply orderly some_offset replies after = subst IsOrderly (sym after) (orderly_counted old orderly)
