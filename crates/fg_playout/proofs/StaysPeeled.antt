-- What a peeling found stays peeled over a repaired play.
use Rattle.std.proofs.Common.{◌≡◌, ◌+◌, ◌<◌, ◌≤◌, ℕ, cond, ltb, Option, Some, IsSome, sym, subst, ◌∙◌, ⊎_elim, arith, lt-ltb, le-ltb}
use Rattle.std.proofs.lemmas.Bool.{cases_lt, cond-true, cond-false}
use Rattle.std.proofs.lemmas.Option.{same_Some}
use Rattle.std.specs.List.{Contains}
use Rattle.std.specs.FinMap.{get}
use Rattle.fg_words.specs.declared.Word.{Word}
use Rattle.fg_peel.specs.Equation.{Equation, slots, Keeps}
use Rattle.fg_peel.specs.Peeling.{end_of}
use Rattle.fg_peel.specs.Laws.{PeelingsKeepWords, SolutionsKeepPeelings, PeelingsOutlivePlays, ReachesPast, IsPlayed}
use Rattle.fg_peel.proofs.Options.{value_of, has_value}
use Rattle.fg_playout.specs.declared.reply.Outcome.{Outcome}
use Rattle.fg_playout.specs.declared.reply.Outcome.TheVariants.{Repaired}
use Rattle.fg_playout.specs.State.{State, known, live_equations}
use Rattle.fg_playout.specs.Admission.{kept_count}
use Rattle.fg_playout.specs.Solution.{IsSolution}
use Rattle.fg_playout.specs.Play.{Play, Decides, IsPlay}
use Rattle.fg_playout.specs.Facts.{Holds}
use Rattle.fg_playout.specs.Laws.{SolvedStaysPeeled}
use Rattle.fg_playout.proofs.Equations.{serial_of, live_at}
use Rattle.fg_playout.proofs.Orderly.{orderly_from_holds, known_below, known_ahead, admissible}
use Rattle.fg_playout.proofs.Peeled.{solution_to_peel}
use Rattle.fg_playout.proofs.Plays.{mark_rises, kept_before, kept_shown, kept_is, received_is}
use Rattle.fg_peel.proofs.SlotRange.{slot_is_near}

module _
    (count : ℕ) (old new : State) (play : Play) (holds : Holds old) (plays : IsPlay count old play new)
    (repaired : play.outcome ≡ Repaired) (end : ℕ → Option Word) (keeps : Keeps (known old) end) (agrees : Keeps end plays.words) where
  -- What is kept at a position agrees with the end of the peeling there.
  kept_agrees : (q : ℕ) (one other : Word) → get new.kept q ≡ Some one → end q ≡ Some other → one ≡ other
  kept_agrees q one other is found = ⊎_elim
      (λ below.
      let before : end q ≡ Some one = keeps q one (known_below old q below ∙ kept_before count old play new plays q one below is) in
      same_Some one other (sym before ∙ found))
      (λ ahead. same_Some one other (sym (kept_shown count old play new plays q one ahead is) ∙ agrees q other found))
      (cases_lt q old.mark)

  -- The words before the mark of an equation that reaches past it are kept.
  kept_of_reaching :
      (equation : Equation) → Contains (live_equations old) equation → ReachesPast new.mark equation
      → (q : ℕ) → Contains (slots equation) q → q < new.mark → IsSome (end q) → IsSome (get new.kept q)
  kept_of_reaching equation listed reaching q c behind some =
      let r = serial_of old equation listed in
      let k = holds.live r.0 r.1 r.2 in
      let at : Contains (slots r.1.equation) q = subst (λ (e : Equation). Contains (slots e) q) (sym r.3) c in
      let far : Contains (slots r.1.equation) reaching.0 = subst (λ (e : Equation). Contains (slots e) reaching.0) (sym r.3) reaching.1 in
      let first = (slot_is_near r.1.equation q k.shape at).first in
      let last = (slot_is_near r.1.equation reaching.0 k.shape far).last in
      let span = (slot_is_near r.1.equation reaching.0 k.shape far).span in
      let ahead = reaching.2 in
      let near : new.mark ≤ q + kept_count = omega (arith, first, last, span, ahead) in
      let word : get new.kept q ≡ cond (ltb q old.mark) (get old.kept q) (plays.words q) = kept_is count old play new plays q behind near in
      ⊎_elim
      (λ below. subst (λ (o : Option Word). IsSome o)
      (sym (word ∙ cond-true (ltb q old.mark) (get old.kept q) (plays.words q) (lt-ltb q old.mark below))) (k.based q at below))
      (λ past.
      let v = value_of (end q) some in
      has_value (get new.kept q) v.0
      (word ∙ cond-false (ltb q old.mark) (get old.kept q) (plays.words q) (le-ltb q old.mark past) ∙ agrees q v.0 v.1))
      (cases_lt q old.mark)

  -- It is live if all its slots before the mark are known.
  stays_live :
      (equation : Equation) → Contains (live_equations old) equation → ReachesPast new.mark equation
      → ((q : ℕ) → Contains (slots equation) q → q < new.mark → IsSome (known new q)) → Contains (live_equations new) equation
  stays_live equation listed reaching based =
      let r = serial_of old equation listed in
      let k = holds.live r.0 r.1 r.2 in
      let far : Contains (slots r.1.equation) reaching.0 = subst (λ (e : Equation). Contains (slots e) reaching.0) (sym r.3) reaching.1 in
      let last = (slot_is_near r.1.equation reaching.0 k.shape far).last in
      let ahead = reaching.2 in
      subst (λ (e : Equation). Contains (live_equations new) e) r.3
      (live_at new r.0 r.1 ((plays.equations r.0 r.1).1 (
        r.2,
        repaired,
        record {
          reaches = omega (arith, last, ahead);
          based = λ q c behind. subst (λ (o : Option Word). IsSome o) (known_below new q behind)
              (based q (subst (λ (e : Equation). Contains (slots e) q) r.3 c) behind);
        },
      )))

  is_played : IsPlayed new.mark (known old) (known new) end (live_equations old) (live_equations new)
  is_played = record {
    ahead = λ q a.
        (let rises = mark_rises count old play new plays in
        known_ahead new q a ∙ received_is count old play new plays q a ∙ sym (known_ahead old q (omega (arith, a, rises))));
    behind = λ q one other below is found. kept_agrees q one other (sym (known_below new q below) ∙ is) found;
    remembered = λ equation listed reaching q c behind some. subst (λ (o : Option Word). IsSome o)
        (sym (known_below new q behind)) (kept_of_reaching equation listed reaching q c behind some);
    stays = stays_live;
  }

pub solved_stays_peeled : PeelingsKeepWords → SolutionsKeepPeelings → PeelingsOutlivePlays → SolvedStaysPeeled
solved_stays_peeled keeps kept outlive count old new play steps holds plays repaired peeling =
    let orderly = orderly_from_holds old holds in
    let solution : IsSolution old plays.words = subst (λ (o : Outcome). Decides old o plays.words) repaired plays.decides in
    let agrees : Keeps (end_of (known old) steps) plays.words =
    kept (known old) (live_equations old) (admissible old orderly) plays.words
    (solution_to_peel old orderly plays.words solution) steps peeling in
    outlive new.mark (known old) (known new) (live_equations old) (live_equations new) steps peeling
    (is_played count old new play holds plays repaired (end_of (known old) steps)
    (keeps (known old) (live_equations old) steps peeling) agrees)
