-- Whose an SSRC is.
use Rattle.std.proofs.Common.{◌≡◌, ◌≢◌, ◌⊎◌, ◌==◌, ℕ, Option, Some, None, cond, inl, inr, refl, sym, ap, subst, ◌∙◌, ⊎_elim, eq-eqb, ne_eqb}
use Rattle.std.proofs.lemmas.Bool.{cases_eq, cond-true, cond-false}
use Rattle.std.proofs.lemmas.Option.{none-some, same_Some}
use Rattle.fg_peel.proofs.Options.{none_or_some, some_and, some_and_from}
use Rattle.fg_playout.specs.State.{State, Top}
use Rattle.fg_playout.specs.Admission.{Sender, former, own, another, is_number, sender_beside, sender_of, IsDue, IsFresh}
use Rattle.fg_playout.specs.Laws.{FreshIsDecided}

module _ (P : Sender → Type 0) (ssrc : ℕ) where
  beside :
      (top : Option Top) → ((t : Top) → top ≡ Some t → t.ssrc ≡ ssrc → P (own t))
      → (((t : Top) → top ≡ Some t → t.ssrc ≢ ssrc) → P another) → P (sender_beside top ssrc)
  beside None is_own is_another = is_another (λ t is. absurd (none-some t is))
  beside (Some top) is_own is_another = ⊎_elim
      (λ same. subst P (sym (cond-true (top.ssrc == ssrc) (own top) another (eq-eqb top.ssrc ssrc same))) (is_own top refl same))
      (λ differ. subst P (sym (cond-false (top.ssrc == ssrc) (own top) another (ne_eqb top.ssrc ssrc differ)))
      (is_another (λ t is same. differ (ap (λ (u : Top). u.ssrc) (same_Some top t is) ∙ same))))
      (cases_eq top.ssrc ssrc)

  by_sender_at :
      (previous : Option ℕ) (top : Option Top) → (previous ≡ Some ssrc → P former)
      → (previous ≢ Some ssrc → (t : Top) → top ≡ Some t → t.ssrc ≡ ssrc → P (own t))
      → (previous ≢ Some ssrc → ((t : Top) → top ≡ Some t → t.ssrc ≢ ssrc) → P another)
      → P (cond (is_number previous ssrc) former (sender_beside top ssrc))
  by_sender_at None top is_former is_own is_another =
      beside top (is_own (λ is. none-some ssrc is)) (is_another (λ is. none-some ssrc is))
  by_sender_at (Some other) top is_former is_own is_another = ⊎_elim
      (λ same. subst P (sym (cond-true (other == ssrc) former (sender_beside top ssrc) (eq-eqb other ssrc same))) (is_former (ap Some same)))
      (λ differ. subst P (sym (cond-false (other == ssrc) former (sender_beside top ssrc) (ne_eqb other ssrc differ)))
      (beside top (is_own (λ is. differ (same_Some other ssrc is))) (is_another (λ is. differ (same_Some other ssrc is)))))
      (cases_eq other ssrc)

  -- What holds by each sender holds by the SSRC's.
  pub by_sender :
      (desk : State) → (desk.previous ≡ Some ssrc → P former)
      → (desk.previous ≢ Some ssrc → (t : Top) → desk.top ≡ Some t → t.ssrc ≡ ssrc → P (own t))
      → (desk.previous ≢ Some ssrc → ((t : Top) → desk.top ≡ Some t → t.ssrc ≢ ssrc) → P another)
      → P (sender_of desk ssrc)
  by_sender desk = by_sender_at desk.previous desk.top

-- What a sender says of a desk.
abbrev pub SaysOf : State → ℕ → Sender → Type 0
SaysOf desk ssrc former = desk.previous ≡ Some ssrc
SaysOf desk ssrc (own top) = (desk.previous ≢ Some ssrc) × (desk.top ≡ Some top) × (top.ssrc ≡ ssrc)
SaysOf desk ssrc another = (desk.previous ≢ Some ssrc) × ((top : Top) → desk.top ≡ Some top → top.ssrc ≢ ssrc)

pub says_of : (desk : State) (ssrc : ℕ) → SaysOf desk ssrc (sender_of desk ssrc)
says_of desk ssrc = by_sender (SaysOf desk ssrc) ssrc desk
    (λ is. is) (λ differ top is same. (differ, is, same)) (λ differ others. (differ, others))

module _ (desk : State) (ssrc : ℕ) where
  pub fresh_top : IsFresh desk ssrc → (top : Top) × (desk.top ≡ Some top) × (top.ssrc ≢ ssrc)
  fresh_top fresh = some_and desk.top (λ top. top.ssrc ≢ ssrc) fresh.0

  pub not_own_if_fresh : IsFresh desk ssrc → (top : Top) → desk.top ≡ Some top → top.ssrc ≡ ssrc → ⊥
  not_own_if_fresh fresh top is same =
      let t = fresh_top fresh in
      t.2 (ap (λ (u : Top). u.ssrc) (same_Some t.0 top (sym t.1 ∙ is)) ∙ same)

  pub fresh_is_another : IsFresh desk ssrc → sender_of desk ssrc ≡ another
  fresh_is_another fresh = by_sender (λ sender. sender ≡ another) ssrc desk
      (λ is. absurd (fresh.1 is)) (λ differ top is same. absurd (not_own_if_fresh fresh top is same)) (λ differ others. refl)

  pub first_is_another : desk.top ≡ None → desk.previous ≡ None → sender_of desk ssrc ≡ another
  first_is_another none before = by_sender (λ sender. sender ≡ another) ssrc desk
      (λ is. absurd (none-some ssrc (sym before ∙ is)))
      (λ differ top is same. absurd (none-some top (sym none ∙ is)))
      (λ differ others. refl)

  -- Where neither is so, the datagram is of the run before or of the current one.
  pub goes_on :
      ¬ IsFresh desk ssrc → desk.top ≢ None
      → (sender_of desk ssrc ≡ former) ⊎ ((top : Top) × (desk.top ≡ Some top) × (top.ssrc ≡ ssrc) × (sender_of desk ssrc ≡ own top))
  goes_on stale opened = by_sender
      (λ sender. (sender ≡ former) ⊎ ((top : Top) × (desk.top ≡ Some top) × (top.ssrc ≡ ssrc) × (sender ≡ own top))) ssrc desk
      (λ is. inl refl)
      (λ differ top is same. inr (top, is, same, refl))
      (λ differ others. ⊎_elim
      (λ none. absurd (opened none))
      (λ some. absurd (stale (some_and_from desk.top (λ top. top.ssrc ≢ ssrc) some.0 some.1 (others some.0 some.1), differ)))
      (none_or_some desk.top))

  pub due_is_stale : (seq : ℕ) → IsDue desk seq ssrc → ¬ IsFresh desk ssrc
  due_is_stale seq due fresh = let t = some_and desk.top _ due in not_own_if_fresh fresh t.0 t.1 t.2.0

pub fresh_is_decided : FreshIsDecided
fresh_is_decided desk ssrc = by_sender (λ _. IsFresh desk ssrc ⊎ ((fresh : IsFresh desk ssrc) → ⊥)) ssrc desk
    (λ is. inr (λ fresh. fresh.1 is))
    (λ differ top is same. inr (λ fresh. not_own_if_fresh desk ssrc fresh top is same))
    (λ differ others. ⊎_elim
    (λ none. inr (λ fresh. (let t = fresh_top desk ssrc fresh in none-some t.0 (sym none ∙ t.1))))
    (λ some. inl (some_and_from desk.top (λ top. top.ssrc ≢ ssrc) some.0 some.1 (others some.0 some.1), differ))
    (none_or_some desk.top))

-- Where the top and the run before are the same, so is what is fresh.
pub same_fresh : (old new : State) (ssrc : ℕ) → new.top ≡ old.top → new.previous ≡ old.previous → IsFresh old ssrc → IsFresh new ssrc
same_fresh old new ssrc tops before fresh =
    let t = fresh_top old ssrc fresh in
    (some_and_from new.top (λ top. top.ssrc ≢ ssrc) t.0 (tops ∙ t.1) t.2, λ is. fresh.1 (sym before ∙ is))
