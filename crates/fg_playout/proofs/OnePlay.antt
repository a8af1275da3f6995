-- A desk has one play of so many positions.
use Rattle.std.proofs.Common.{◌≡◌, ◌+◌, ◌-◌, ◌<◌, ◌&&◌, ℕ, min, cond, ltb, leb, List, length, Option, None, refl, sym, ap, subst, ◌∙◌}
use Rattle.std.proofs.lemmas.List.{same_lists, get_or_default}
use Rattle.std.specs.Ordering.{nat_cmp}
use Rattle.std.specs.Cmp.{nat_cmp_total}
use Rattle.std.specs.FinMap.{FinMap, get, same_map, nat_cmp-IsAntisymmetric}
use Rattle.fg_words.specs.declared.Word.{Word}
use Rattle.fg_peel.specs.Laws.{Uniqueness}
use Rattle.fg_peel.proofs.Options.{same_options}
use Rattle.fg_playout.specs.declared.reply.Outcome.{Outcome}
use Rattle.fg_playout.specs.declared.reply.Outcome.TheVariants.{Repaired, Inconsistent}
use Rattle.fg_playout.specs.State.{State, Live, Words, known, live_equations}
use Rattle.fg_playout.specs.Admission.{kept_count, counted}
use Rattle.fg_playout.specs.Play.{Play, Shown, Decides, Survives, IsPlay, IsFlushStep, shown_at, nothing_shown}
use Rattle.fg_playout.proofs.Orderly.{IsOrderly, admissible}
use Rattle.fg_playout.proofs.Peeled.{solution_to_peel}
use Rattle.fg_playout.proofs.Flushing.{one_highest}

-- The words decide the outcome, and there is one choice of them.
record AreSame (outcome outcome' : Outcome) (words words' : ℕ → Option Word) : Type 0 where
  outcomes : outcome ≡ outcome'
  word : words ≡ words'

one_decision :
    (unique : Uniqueness) (desk : State) (orderly : IsOrderly desk) (outcome outcome' : Outcome) (words words' : ℕ → Option Word)
    → Decides desk outcome words → Decides desk outcome' words' → AreSame outcome outcome' words words'
one_decision unique desk orderly Repaired Repaired words words' a b = record {
  outcomes = refl;
  word = unique (known desk) (live_equations desk) (admissible desk orderly) words words'
      (solution_to_peel desk orderly words a) (solution_to_peel desk orderly words' b);
}
one_decision unique desk orderly Repaired Inconsistent words words' a b = absurd (b.0 words a)
one_decision unique desk orderly Inconsistent Repaired words words' a b = absurd (a.0 words' b)
one_decision unique desk orderly Inconsistent Inconsistent words words' a b = record { outcomes = refl; word = a.1 ∙ sym b.1 }

abbrev moved : State → ℕ → Words → Words → FinMap nat_cmp ℕ → FinMap nat_cmp Live → State
moved old mark kept media times equations =
    record (counted old) { mark = mark; kept = kept; media = media; times = times; equations = equations }

moved_same :
    (old : State) (mark mark' : ℕ) (kept kept' media media' : Words) (times times' : FinMap nat_cmp ℕ)
    (equations equations' : FinMap nat_cmp Live)
    → mark ≡ mark' → kept ≡ kept' → media ≡ media' → times ≡ times' → equations ≡ equations'
    → moved old mark kept media times equations ≡ moved old mark' kept' media' times' equations'
moved_same old mark mark' kept kept' media media' times times' equations equations' m k d t q = λ i. moved old (m i) (k i) (d i) (t i) (q i)

play_same :
    (first first' : ℕ) (shown shown' : List Shown) (outcome outcome' : Outcome) → first ≡ first' → shown ≡ shown' → outcome ≡ outcome'
    → ◌≡◌ {A = Play} (record { first = first; shown = shown; outcome = outcome }) (record { first = first'; shown = shown'; outcome = outcome' })
play_same first first' shown shown' outcome outcome' f s o = λ i. record { first = f i; shown = s i; outcome = o i }

module _
    (unique : Uniqueness) (count : ℕ) (old : State) (orderly : IsOrderly old) (play play' : Play) (new new' : State)
    (a : IsPlay count old play new) (b : IsPlay count old play' new') where
  same_choice : AreSame play.outcome play'.outcome a.words b.words
  same_choice = one_decision unique old orderly play.outcome play'.outcome a.words b.words a.decides b.decides

  same_mark : new.mark ≡ new'.mark
  same_mark = a.mark ∙ sym b.mark

  same_kept : new.kept ≡ new'.kept
  same_kept = same_map nat_cmp_total nat_cmp-IsAntisymmetric new.kept new'.kept
      (λ p. a.kept p ∙ middle p ∙ sym (b.kept p))
    where
      middle :
          (p : ℕ) → cond (ltb p new.mark && leb new.mark (p + kept_count)) (cond (ltb p old.mark) (get old.kept p) (a.words p)) None
          ≡ cond (ltb p new'.mark && leb new'.mark (p + kept_count)) (cond (ltb p old.mark) (get old.kept p) (b.words p)) None
      middle p = λ i.
          cond (ltb p (same_mark i) && leb (same_mark i) (p + kept_count))
          (cond (ltb p old.mark) (get old.kept p) (same_choice.word i p)) None

  same_media : new.media ≡ new'.media
  same_media = same_map nat_cmp_total nat_cmp-IsAntisymmetric new.media new'.media
      (λ p. a.media p ∙ ap (λ (m : ℕ). cond (ltb p m) None (get old.media p)) same_mark ∙ sym (b.media p))

  same_times : new.times ≡ new'.times
  same_times = same_map nat_cmp_total nat_cmp-IsAntisymmetric new.times new'.times
      (λ p. a.times p ∙ ap (λ (m : ℕ). cond (ltb p m) None (get old.times p)) same_mark ∙ sym (b.times p))

  same_equations : new.equations ≡ new'.equations
  same_equations = same_map nat_cmp_total nat_cmp-IsAntisymmetric new.equations new'.equations
      (λ s. same_options (get new.equations s) (get new'.equations s)
      (λ l is.
      let left = (a.equations s l).0 is in
      (b.equations s l).1 (
        left.0,
        sym same_choice.outcomes ∙ left.1,
        subst (λ (k : Words). Survives new'.mark k l.equation) same_kept
            (subst (λ (m : ℕ). Survives m new.kept l.equation) same_mark left.2),
      ))
      (λ l is.
      let left = (b.equations s l).0 is in
      (a.equations s l).1 (
        left.0,
        same_choice.outcomes ∙ left.1,
        subst (λ (k : Words). Survives new.mark k l.equation) (sym same_kept)
            (subst (λ (m : ℕ). Survives m new'.kept l.equation) (sym same_mark) left.2),
      )))

  same_shown : play.shown ≡ play'.shown
  same_shown = same_lists play.shown play'.shown (a.length_is ∙ sym b.length_is) (λ k d within.
      let below : k < count = subst (λ (n : ℕ). k < n) a.length_is within in
      let within' : k < length play'.shown = subst (λ (n : ℕ). k < n) (a.length_is ∙ sym b.length_is) within in
      get_or_default play.shown k d nothing_shown within
      ∙ a.shows k below
      ∙ ap (λ (w : ℕ → Option Word). shown_at old w (old.mark + k)) same_choice.word
      ∙ sym (b.shows k below)
      ∙ get_or_default play'.shown k nothing_shown d within')

  pub one_play : play ≡ play'
  one_play = play_same play.first play'.first play.shown play'.shown play.outcome play'.outcome
      (a.first ∙ sym b.first) same_shown same_choice.outcomes

  pub one_state_after : new ≡ new'
  one_state_after =
      a.rest
      ∙ moved_same old new.mark new'.mark new.kept new'.kept new.media new'.media new.times new'.times
      new.equations new'.equations same_mark same_kept same_media same_times same_equations
      ∙ sym b.rest

-- And one flush step.
module _
    (unique : Uniqueness) (old : State) (orderly : IsOrderly old) (play play' : Play) (new new' : State)
    (a : IsFlushStep old play new) (b : IsFlushStep old play' new') where
  same_plays : IsPlay (min old.playout.window (a.highest + 1 - old.mark)) old play' new'
  same_plays =
      subst (λ (h : ℕ). IsPlay (min old.playout.window (h + 1 - old.mark)) old play' new')
      (one_highest old b.highest a.highest b.highest_is a.highest_is) b.plays

  pub one_flush_step : play ≡ play'
  one_flush_step = one_play unique (min old.playout.window (a.highest + 1 - old.mark)) old orderly play play' new new' a.plays same_plays

  pub one_state_after_step : new ≡ new'
  one_state_after_step = one_state_after unique (min old.playout.window (a.highest + 1 - old.mark)) old orderly play play' new new' a.plays same_plays
