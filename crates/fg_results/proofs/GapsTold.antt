-- The plain program for gaps gives them, and there is one list of them.
use Rattle.std.proofs.Common.{◌≡◌, ◌⊎◌, ◌↔◌, ◌+◌, ◌≤◌, ℕ, zero, suc, Bool, true, false, cond, Option, Some, None, is_some, List, [], ◌∷◌, refl, sym, ap, ◌∙◌, subst, inl, inr, ⊎_elim, arith}
use Rattle.std.specs.List.{slice_get}
use Rattle.fg_words.specs.declared.Word.{Word}
use Rattle.fg_playout.specs.Play.{Shown}
use Rattle.fg_report.specs.Gaps.{gaps_end, with_gap, AreApart, IsInGap}
use Rattle.fg_report.proofs.GapLemmas.{apart_with, gaps_end-with, holding}
use Rattle.fg_runs.specs.Laws.{OneListOfRuns}
use Rattle.fg_results.specs.Flow.{ShowsNone, all_shown, shows_word}
use Rattle.fg_results.specs.Gaps.{GapsAreTold, OneListOfGaps, gaps_from}

-- the position of these, which are shown from a first one on, shows no word
record NoneFrom (shown : List Shown) (first position : ℕ) : Type 0 where
  pub place : ℕ
  pub one : Shown
  pub is : slice_get shown place ≡ Some one
  pub none : one.word ≡ None
  pub at : position ≡ first + place

no_word : (o : Option Word) → is_some o ≡ false → o ≡ None
no_word None e = refl
no_word (Some word) e = absurd cc

word_there : (o : Option Word) → is_some o ≡ true → o ≡ None → ⊥
word_there None e n = absurd cc
word_there (Some word) e n = absurd cc

-- of the first one, or of those behind it
none_behind : (one : Shown) (shown : List Shown) (first position : ℕ) → NoneFrom shown (first + 1) position → NoneFrom (one ∷ shown) first position
none_behind one shown first position h = record { place = suc h.place; one = h.one; is = h.is; none = h.none; at = let at = h.at in omega (arith, at) }

none_here : (one : Shown) (shown : List Shown) (first position : ℕ) → one.word ≡ None → position ≡ first → NoneFrom (one ∷ shown) first position
none_here one shown first position none at = record { place = 0; one = one; is = refl; none = none; at = omega (arith, at) }

none_cases : (one : Shown) (shown : List Shown) (first position : ℕ) → NoneFrom (one ∷ shown) first position
    → ((one.word ≡ None) × (position ≡ first)) ⊎ NoneFrom shown (first + 1) position
none_cases one shown first position h = go h.place h.is h.at
  where
    go : (place : ℕ) → slice_get (one ∷ shown) place ≡ Some h.one → position ≡ first + place → ((one.word ≡ None) × (position ≡ first)) ⊎ NoneFrom shown (first + 1) position
    go zero is at = let same : one ≡ h.one = cc in inl (subst (λ (s : Shown). s.word ≡ None) (sym same) h.none, omega (arith, at))
    go (suc place) is at = inr (record { place = place; one = h.one; is = is; none = h.none; at = omega (arith, at) })

-- runs that have what they had, and the positions from a first one on that show no word
record AreSo (gaps told : List (ℕ × ℕ)) (shown : List Shown) (first : ℕ) : Type 0 where
  pub apart : AreApart told
  pub inside : (position : ℕ) → IsInGap told position ↔ (IsInGap gaps position ⊎ NoneFrom shown first position)

so_word : (gaps told : List (ℕ × ℕ)) (one : Shown) (shown : List Shown) (first : ℕ) → shows_word one ≡ true → AreSo gaps told shown (first + 1) → AreSo gaps told (one ∷ shown) first
so_word gaps told one shown first word so = record {
  apart = so.apart;
  inside = λ position. (
    λ inside. ⊎_elim (λ before. inl before) (λ behind. inr (none_behind one shown first position behind)) ((so.inside position).0 inside),
    λ both. (so.inside position).1 (⊎_elim (λ before. inl before)
        (λ none. ⊎_elim (λ here. absurd (word_there one.word word here.0)) (λ behind. inr behind) (none_cases one shown first position none)) both),
  );
}

so_none : (gaps told : List (ℕ × ℕ)) (one : Shown) (shown : List Shown) (first : ℕ) → shows_word one ≡ false → AreSo (with_gap gaps first 1) told shown (first + 1)
    → AreSo gaps told (one ∷ shown) first
so_none gaps told one shown first word so = record {
  apart = so.apart;
  inside = λ position. (
    λ inside. ⊎_elim
        (λ before. ⊎_elim (λ old. inl old) (λ here. inr (none_here one shown first position (no_word one.word word) (omega (arith, here.0, here.1))))
        ((holding gaps first 1 position).0 before))
        (λ behind. inr (none_behind one shown first position behind)) ((so.inside position).0 inside),
    λ both. (so.inside position).1 (⊎_elim (λ before. inl ((holding gaps first 1 position).1 (inl before)))
        (λ none. ⊎_elim (λ here. inl ((holding gaps first 1 position).1 (inr (omega (arith, here.1), omega (arith, here.1))))) (λ behind. inr behind)
        (none_cases one shown first position none)) both),
  );
}

told_next :
    (gaps : List (ℕ × ℕ)) (first : ℕ) (one : Shown) (shown : List Shown) (b : Bool) → shows_word one ≡ b → AreApart gaps → gaps_end gaps ≤ first
    → ((next : List (ℕ × ℕ)) → AreApart next → gaps_end next ≤ first + 1 → AreSo next (gaps_from next (first + 1) shown) shown (first + 1))
    → AreSo gaps (gaps_from (cond b gaps (with_gap gaps first 1)) (first + 1) shown) (one ∷ shown) first
told_next gaps first one shown true word apart end rest = so_word gaps _ one shown first word (rest gaps apart (omega (arith, end)))
told_next gaps first one shown false word apart end rest = so_none gaps _ one shown first word
    (rest (with_gap gaps first 1) (apart_with gaps first 1 apart (omega arith) end) (let e = gaps_end-with gaps first 1 in omega (arith, e)))

told_from : (gaps : List (ℕ × ℕ)) (first : ℕ) (shown : List Shown) → AreApart gaps → gaps_end gaps ≤ first → AreSo gaps (gaps_from gaps first shown) shown first
told_from gaps first [] apart end = record {
  apart = apart;
  inside = λ position. (λ inside. inl inside, λ both. ⊎_elim (λ before. before) (λ none. absurd (let is = none.is in cc)) both);
}
told_from gaps first (one ∷ shown) apart end =
    told_next gaps first one shown (shows_word one) refl apart end (λ next so within. told_from next (first + 1) shown so within)

pub gaps_are_told : GapsAreTold
gaps_are_told plays =
    let so = told_from [] 0 (all_shown plays) tt (omega arith) in record {
      apart = so.apart;
      inside = λ position. (
        λ inside. ⊎_elim (λ none. absurd none)
            (λ told. (let same : position ≡ told.place = (let at = told.at in omega (arith, at)) in
            record { shown = told.one; played = ap (λ n. slice_get (all_shown plays) n) same ∙ told.is; none = told.none }))
            ((so.inside position).0 inside),
        λ (none : ShowsNone plays position). (so.inside position).1 (inr (record { place = position; one = none.shown; is = none.played; none = none.none; at = omega arith })),
      );
    }

pub one_list_of_gaps : OneListOfRuns → OneListOfGaps
one_list_of_gaps law plays one other a b = law one other a.apart b.apart
    (λ position. (λ inside. (b.inside position).1 ((a.inside position).0 inside), λ inside. (a.inside position).1 ((b.inside position).0 inside)))
