-- Once no line has to be looked at, all that follows was found.
use Rattle.std.proofs.Common.{◌≡◌, ◌≢◌, ◌⊎◌, ◌<◌, ◌≤◌, ℕ, Bool, true, false, Option, Some, None, IsSome, IsTrue, inl, inr, refl, sym, ap, subst, ◌∙◌, ⊎_elim, arith}
use Rattle.std.proofs.lemmas.Bool.{cases_eq}
use Rattle.std.specs.FinMap.{FinMap, get}
use Rattle.std.specs.FinSet as fset
use Rattle.std.specs.List.{Contains}
use Rattle.std.specs.Ordering.{nat_cmp}
use Rattle.fg_words.specs.declared.Word.{Word}
use Rattle.fg_peel.specs.Equation.{Equation, AreMedia, AreAdmissible, AllComeOut, IsComplete, IsSettled, slots}
use Rattle.fg_peel.specs.Laws.{MaximalPeelingsAreTested, SoundWhereSolvable}
use Rattle.fg_peel.specs.Look.{LacksTwo}
use Rattle.fg_peel.specs.Peeling.{Step, CanFollow, EndsPeeling}
use Rattle.fg_peel.specs.Solution.{IsSolution}
use Rattle.fg_peel.proofs.Options.{none_has_no_value, has_value, or_first, or_second}
use Rattle.fg_playout.specs.State.{Live}
use Rattle.fg_buffer.specs.PlayoutBuffer.{BufferState, IsBuffer, buffer_received, buffer_known, buffer_words}
use Rattle.fg_buffer.specs.LiveEquations.{LiveState}
use Rattle.fg_buffer.specs.Watches.{WatchState, IsQueued, first_of, second_of}
use Rattle.fg_desk.specs.Storage.{equations_in, AreInBuffer, IsRecovered}
use Rattle.fg_desk.specs.Watched.{IsWatched, EachWatched, NoneIsQueued, Finds}
use Rattle.fg_desk.proofs.DeskWords.{solved_beside, words_media}
use Rattle.fg_desk.proofs.SettledEquations.{serial_in}

-- What a line is that needn't be looked at: it comes out, it lacks two words, or it is complete and there is no solution.
abbrev IsDone : Bool → (ℕ → Option Word) → Equation → Type 0
IsDone sound words equation =
    IsSettled words equation ⊎ (((first : ℕ) × (second : ℕ) × LacksTwo words equation first second)
    ⊎ ((sound ≡ false) × IsComplete words equation))

-- No step can be added for it.
no_step : (sound : Bool) (words : ℕ → Option Word) (step : Step) → IsDone sound words step.equation
    → Contains (slots step.equation) step.position → words step.position ≡ None
    → ((other : ℕ) → Contains (slots step.equation) other → other ≢ step.position → IsSome (words other)) → ⊥
no_step sound words step done slot unknown others = ⊎_elim
    (λ settled. none_has_no_value (words step.position) unknown (settled.0 step.position slot))
    (λ rest. ⊎_elim
    (λ two. ⊎_elim
    (λ (here : two.0 ≡ step.position).
    none_has_no_value (words two.1) two.2.second_lacks
    (others two.1 two.2.second_slot
    (λ same. (let before = two.2.before in omega (arith, before, here, same)))))
    (λ differs. none_has_no_value (words two.0) two.2.first_lacks (others two.0 two.2.first_slot differs))
    (cases_eq two.0 step.position))
    (λ complete. none_has_no_value (words step.position) unknown (complete.1 step.position slot))
    rest)
    done

module _
    (old : BufferState) (lines : LiveState) (new : BufferState) (left : LiveState) (watches : WatchState) (sound : Bool)
    (finds : Finds old lines new left watches sound) (idle : NoneIsQueued watches) where
  is_done : (equation : Equation) → Contains (equations_in lines) equation → IsDone sound (buffer_words new) equation
  is_done equation c =
      let r = serial_in lines equation c in
      let was : get left.live r.0 ≡ Some r.1 = ap (λ (m : FinMap nat_cmp Live). get m r.0) finds.live ∙ r.2 in
      subst (λ (e : Equation). IsDone sound (buffer_words new) e) r.3 (go r.0 r.1 was (fset.contains left.settled r.0) refl)
    where
      go :
          (serial : ℕ) (live : Live) → get left.live serial ≡ Some live → (b : Bool) → fset.contains left.settled serial ≡ b
          → IsDone sound (buffer_words new) live.equation
      go serial live is true settled = inl (finds.settled serial live is settled)
      go serial live is false open_still =
          let w = finds.watched serial live is open_still in
          ⊎_elim
          (λ watched. ⊎_elim
          (λ queued. absurd (idle live.place queued))
          (λ lacks. inr (inl (first_of watches live.place, second_of watches live.place, lacks)))
          watched)
          (λ broken. inr (inr broken))
          w.1

  ends : EndsPeeling (equations_in lines) (buffer_words old) (buffer_words new)
  ends =
      let p = finds.peeled in (
        p.0,
        record {
          peeling = p.1;
          no_more = λ step can.
              (let now : CanFollow (buffer_words new) (equations_in lines) step =
              subst (λ (f : ℕ → Option Word). CanFollow f (equations_in lines) step) (sym p.2) can in
              no_step sound (buffer_words new) step (is_done step.equation now.listed) now.slot now.unknown now.others_known);
        },
        p.2,
      )

  come_out : IsTrue sound → AllComeOut (buffer_words new) (equations_in lines)
  come_out holds equation c complete = ⊎_elim
      (λ settled. settled.1)
      (λ rest. ⊎_elim
      (λ two. absurd (none_has_no_value (buffer_words new two.0) two.2.first_lacks (complete two.0 two.2.first_slot)))
      (λ broken. let e : false ≡ true = sym broken.0 ∙ holds in absurd (cc))
      rest)
      (is_done equation c)

  same_solved : (q : ℕ) → get new.solved q ≡ get old.solved q
  same_solved q = ap (λ (b : BufferState). get b.solved q) finds.rest

  -- What the laws say of an answer.
  module _
      (within : AreInBuffer old lines) (received : AreMedia (buffer_received old)) (cached : AreMedia (get old.cached))
      (facts : IsBuffer new) (tested : MaximalPeelingsAreTested) (solvable : SoundWhereSolvable) where
    media_then : IsTrue sound → AreMedia (get new.solved) → AreMedia (buffer_words new)
    media_then holds solved =
        finds.media holds
        (words_media old received (λ q word is. solved q word (same_solved q ∙ is)) cached)

    pub recovered_yes : IsTrue sound → AreMedia (get new.solved) → IsRecovered (equations_in lines) old new true
    recovered_yes holds solved =
        let media = media_then holds solved in
        let p = ends in
        let P : (ℕ → Option Word) → Type 0 = λ w. AreMedia w × AllComeOut w (equations_in lines) in
        let end = subst P p.2 (media, come_out holds) in
        record {
          rest = finds.rest;
          peeling = p;
          solved = λ _. (
            media,
            subst (λ (w : ℕ → Option Word). IsSolution (buffer_words old) (equations_in lines) w) (sym p.2)
                ((tested (buffer_words old) (equations_in lines) p.0 p.1).1 (λ q word _ is. end.0 q word is, end.1)),
          );
          solvable = λ _ _ _. refl;
        }

    admissible : AreMedia (buffer_words old) → AreAdmissible (buffer_words old) (equations_in lines)
    admissible media = record {
      known_media = media;
      some_offset = λ equation c.
          (let r = serial_in lines equation c in
          subst (λ (e : Equation). 1 ≤ e.offset) r.3 (within r.0 r.1 r.2).shape.some_offset);
    }

    -- A solved word is among the words from the first.
    solved_word : (q : ℕ) (word : Word) → get new.solved q ≡ Some word → buffer_words old q ≡ Some word
    solved_word q word is =
        let none : buffer_received new q ≡ None = solved_beside new facts q (has_value (get new.solved q) word is) in
        let before : buffer_received old q ≡ None = sym (ap (λ (b : BufferState). buffer_received b q) finds.rest) ∙ none in
        or_first (buffer_known old q) (get old.cached q) word
        (or_second (buffer_received old q) (get old.solved q) before ∙ sym (same_solved q) ∙ is)

    pub recovered_no : (sound ≡ false) ⊎ (AreMedia (get new.solved) → ⊥) → IsRecovered (equations_in lines) old new false
    recovered_no why =
        let p = ends in
        record {
          rest = finds.rest;
          peeling = p;
          solved = λ fails. (let e : false ≡ true = fails in absurd (cc));
          solvable = λ media solution is.
              (let max = p.1 in
              let all =
              (tested (buffer_words old) (equations_in lines) p.0 max).0
              ((solvable (buffer_words old) (equations_in lines) (admissible media) p.0 max).1 (solution, is)) in
              ⊎_elim
              (λ fails. ⊎_elim
              (λ found.
              absurd (found.4 (all.0 found.0 found.1 found.2 (sym (ap (λ (f : ℕ → Option Word). f found.0) p.2) ∙ found.3))))
              (λ broken.
              let P : (ℕ → Option Word) → Type 0 = λ w. AllComeOut w (equations_in lines) in
              absurd (broken.3 (subst P (sym p.2) all.1 broken.0 broken.1 broken.2)))
              (finds.broken fails))
              (λ not_media. absurd (not_media (λ q word at. media q word (solved_word q word at))))
              why);
        }

    pub recovered :
        (answer : Bool) → (IsTrue answer → IsTrue sound × AreMedia (get new.solved))
        → (answer ≡ false → (sound ≡ false) ⊎ (AreMedia (get new.solved) → ⊥))
        → IsRecovered (equations_in lines) old new answer
    recovered true holds fails = let all = holds refl in recovered_yes all.0 all.1
    recovered false holds fails = recovered_no (fails refl)

  -- The lines are watched in either case: where there is no solution, all are queued.
  pub watched_after :
      (answer : Bool) (then : WatchState) → (IsTrue answer → IsTrue sound) → (IsTrue answer → then ≡ watches)
      → (answer ≡ false → (place : ℕ) → place < 512 → IsQueued then place) → EachWatched then (buffer_words new) left
  watched_after true then holds same all serial live is open_still =
      let w = finds.watched serial live is open_still in (
        w.0,
        ⊎_elim
            (λ a. subst (λ (t : WatchState). IsWatched t (buffer_words new) live) (sym (same refl)) a)
            (λ broken. let e : false ≡ true = sym broken.0 ∙ holds refl in absurd (cc))
            w.1,
      )
  watched_after false then holds same all serial live is open_still =
      let w = finds.watched serial live is open_still in (w.0, inl (all refl live.place w.0))
