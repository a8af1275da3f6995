-- What an admission adds.
use Rattle.std.proofs.Common.{◌≡◌, ◌≢◌, ◌⊎◌, ◌≤◌, ◌==◌, ℕ, List, [], ◌∷◌, cond, Some, None, inl, inr, refl, sym, ap, subst, ◌∙◌, ⊎_elim, arith, eq-eqb, ne_eqb}
use Rattle.std.proofs.lemmas.Bool.{cases_lt, cases_eq, cond-true, cond-false}
use Rattle.std.specs.List.{Contains}
use Rattle.std.specs.FinMap.{get, empty}
use Rattle.fg_words.specs.declared.Word.{Word}
use Rattle.fg_unwrap.specs.Position.{position_of}
use Rattle.fg_peel.specs.Equation.{Equation}
use Rattle.fg_peel.proofs.Options.{none_or_some, some_and, some_and_from}
use Rattle.fg_peel.proofs.Maps.{inserted, beside_inserted, in_empty, nothing_in_empty}
use Rattle.fg_peel.proofs.Lists.{Contains-here}
use Rattle.fg_playout.specs.declared.reply.Reply.TheVariants.{Admitted}
use Rattle.fg_playout.specs.State.{State, Top, Live, Words, known, live_equations}
use Rattle.fg_playout.specs.Admission.{Sender, former, own, another, sender_of, IsFresh, IsReplyBy, IsTakenBy, IsLeastFree, position_by, base_on, begun, with_media, with_equation, equation_at}
use Rattle.fg_playout.specs.Facts.{Holds}
use Rattle.fg_playout.specs.Laws.{MediaAdds, ParityAdds}
use Rattle.fg_playout.proofs.Added.{added, at_added, beside_added, added_or_old}
use Rattle.fg_playout.proofs.Equations.{serial_of, live_at}
use Rattle.fg_playout.proofs.Orderly.{known_below, known_ahead}
use Rattle.fg_playout.proofs.Opened.{reply_at_position}
use Rattle.fg_playout.proofs.Senders.{SaysOf, says_of, fresh_is_another, not_own_if_fresh}
use Rattle.fg_playout.proofs.NothingLeft.{nothing_ahead_is_known}

pub known_with_media :
    (old : State) (seq ssrc position : ℕ) (word : Word) → old.mark ≤ position → (other : ℕ)
    → known (with_media old seq ssrc position word) other ≡ cond (other == position) (Some word) (known old other)
known_with_media old seq ssrc position word ahead other = ⊎_elim
    (λ here.
    known_ahead (with_media old seq ssrc position word) other (omega (arith, here, ahead))
    ∙ inserted old.media position word other here
    ∙ sym (cond-true (other == position) (Some word) (known old other) (eq-eqb other position here)))
    (λ beside.
    ⊎_elim
    (λ below. known_below (with_media old seq ssrc position word) other below ∙ sym (known_below old other below))
    (λ past.
    known_ahead (with_media old seq ssrc position word) other past
    ∙ beside_inserted old.media position word other beside ∙ sym (known_ahead old other past))
    (cases_lt other old.mark)
    ∙ sym (cond-false (other == position) (Some word) (known old other) (ne_eqb other position beside)))
    (cases_eq other position)

none_listed : (equations : List Equation) → ((equation : Equation) → Contains equations equation → ⊥) → equations ≡ []
none_listed [] none = refl
none_listed (equation ∷ equations) none = absurd (none equation (Contains-here equation equations))

none_live : (desk : State) → desk.equations ≡ empty → live_equations desk ≡ []
none_live desk is = none_listed (live_equations desk) (λ equation listed.
    let r = serial_of desk equation listed in
    nothing_in_empty r.0 r.1 (sym (ap (λ m. get m r.0) is) ∙ r.2))

abbrev Adds : State → State → ℕ → ℕ → Word → Sender → Type 0
Adds old new seq ssrc word sender =
    (position : ℕ) × (position_by old seq sender ≡ Some position) × (old.mark ≤ position) × (known old position ≡ None)
    × ((other : ℕ) → known new other ≡ cond (other == position) (Some word) (known old other))
    × (IsFresh old ssrc → live_equations new ≡ [])
    × ((IsFresh old ssrc → ⊥) → live_equations new ≡ live_equations old)

pub media_adds : MediaAdds
media_adds old new seq ssrc word holds flushed admits =
    go (sender_of old ssrc) (says_of old ssrc) (λ fresh. fresh_is_another old ssrc fresh) admits.reply_is admits.after
  where
    -- Nothing is known at the mark of a desk on which a run begins.
    none_at_the_mark : ((top : Top) → old.top ≡ Some top → top.ssrc ≢ ssrc) → old.previous ≢ Some ssrc → known old old.mark ≡ None
    none_at_the_mark others differ = ⊎_elim
        (λ none.
        let u = holds.unopened none in
        known_ahead old old.mark (omega arith) ∙ ap (λ (m : Words). get m old.mark) u.1 ∙ in_empty old.mark)
        (λ some. nothing_ahead_is_known old
        (flushed (some_and_from old.top (λ top. top.ssrc ≢ ssrc) some.0 some.1 (others some.0 some.1), differ)) old.mark (omega arith))
        (none_or_some old.top)

    go :
        (sender : Sender) → SaysOf old ssrc sender → (IsFresh old ssrc → sender ≡ another) → IsReplyBy old seq word Admitted sender
        → IsTakenBy old seq ssrc word new sender → Adds old new seq ssrc word sender
    go former says fresh is taken = absurd taken
    go (own top) says fresh is taken =
        let a = some_and (position_of top.position top.seq seq) (λ p. new ≡ with_media old seq ssrc p word) taken in
        let reply = reply_at_position old seq a.0 word Admitted top a.1 is in (
          a.0,
          a.1,
          reply.0,
          known_ahead old a.0 reply.0 ∙ reply.1,
          λ other. subst
              (λ (s : State). known s other ≡ cond (other == a.0) (Some word) (known old other))
              (sym a.2) (known_with_media old seq ssrc a.0 word reply.0 other),
          λ f. absurd (not_own_if_fresh old ssrc f top says.1 says.2),
          λ stale. ap live_equations a.2,
        )
    go another says fresh is taken = (
      old.mark,
      refl,
      omega arith,
      none_at_the_mark says.1 says.0,
      λ other. subst
          (λ (s : State). known s other ≡ cond (other == old.mark) (Some word) (known old other))
          (sym taken) (known_with_media (begun old) seq ssrc old.mark word (omega arith) other),
      λ f. none_live new (ap (λ (s : State). s.equations) taken),
      λ stale. none_live new (ap (λ (s : State). s.equations) taken) ∙ sym (⊎_elim
          (λ none. none_live old (holds.unopened none).3)
          (λ some. absurd (stale (some_and_from old.top (λ top. top.ssrc ≢ ssrc) some.0 some.1 (says.1 some.0 some.1), says.0)))
          (none_or_some old.top)),
    )

module _ (old : State) (place : ℕ) (equation : Equation) (holds : Holds old) where
  was_or_is_added :
      (e : Equation) → Contains (live_equations (with_equation old place equation)) e
      → Contains (live_equations old) e ⊎ (e ≡ equation)
  was_or_is_added e listed =
      let r = serial_of (with_equation old place equation) e listed in
      let either : Contains (live_equations old) r.1.equation ⊎ (r.1.equation ≡ equation) =
      added_or_old old place equation (λ (l : Live). Contains (live_equations old) l.equation ⊎ (l.equation ≡ equation)) r.0 r.1 r.2
      (λ here. inr refl) (λ was. inl (live_at old r.0 r.1 was)) in
      subst (λ (x : Equation). Contains (live_equations old) x ⊎ (x ≡ equation)) r.3 either

  pub stays_listed : (e : Equation) → Contains (live_equations old) e → Contains (live_equations (with_equation old place equation)) e
  stays_listed e listed =
      let r = serial_of old e listed in
      let numbered = (holds.live r.0 r.1 r.2).numbered in
      subst (λ (x : Equation). Contains (live_equations (with_equation old place equation)) x) r.3
      (live_at (with_equation old place equation) r.0 r.1
      (beside_added old place equation r.0 (λ same. omega (arith, same, numbered)) ∙ r.2))

  is_listed : Contains (live_equations (with_equation old place equation)) equation
  is_listed =
      live_at (with_equation old place equation) old.admitted (added place equation) (at_added old place equation old.admitted refl)

pub parity_adds : ParityAdds
parity_adds old new parity holds admits =
    let a = some_and (base_on old parity.base)
    (λ position. (place : ℕ) × IsLeastFree old.equations place × (new ≡ with_equation old place (equation_at position parity))) admits.after in
    let equation : Equation = equation_at a.0 parity in (
      a.0,
      a.1,
      λ e. (
        λ listed. was_or_is_added old a.2.0 equation holds e (subst (λ (s : State). Contains (live_equations s) e) a.2.2 listed),
        λ either. subst (λ (s : State). Contains (live_equations s) e) (sym a.2.2) (⊎_elim
            (λ was. stays_listed old a.2.0 equation holds e was)
            (λ same. subst (λ (x : Equation). Contains (live_equations (with_equation old a.2.0 equation)) x) (sym same)
            (is_listed old a.2.0 equation holds))
            either),
      ),
      ap known a.2.2,
    )
