-- Each play has an outcome, and so has each call of a flush step.
use Rattle.std.proofs.Common.{◌≡◌, ◌⊎◌, ◌+◌, ◌-◌, ◌<◌, ◌≤◌, ℕ, cond, ltb, leb, min, List, map, Option, Some, None, IsSome, inl, inr, refl, ⊎_elim, arith}
use Rattle.std.proofs.lemmas.Bool.{cases_lt}
use Rattle.std.proofs.lemmas.List.FromFn.{length-map-range_with_len, get_or-map-range_with_len}
use Rattle.std.specs.List.{Contains, range_with_len}
use Rattle.std.specs.FinMap.{get}
use Rattle.fg_words.specs.declared.Word.{Word}
use Rattle.fg_peel.specs.Equation.{Equation, slots}
use Rattle.fg_playout.specs.declared.reply.Outcome.{Outcome}
use Rattle.fg_playout.specs.declared.reply.Outcome.TheVariants.{Repaired, Inconsistent}
use Rattle.fg_playout.specs.State.{State, Live, Words, last_slot}
use Rattle.fg_playout.specs.Admission.{kept_count, counted}
use Rattle.fg_playout.specs.Play.{Play, Shown, Decides, Survives, IsPlay, HasMore, IsFlushStep, shown_at, nothing_shown}
use Rattle.fg_playout.specs.Existence.{PeelingLaws, SolutionsAreDecided, PlayHasOutcome, FlushHasOutcome}
use Rattle.fg_playout.proofs.Decided.{IsDecided, decided_both, decided_if, decided_as, decided_all, decided_less, decided_most}
use Rattle.fg_playout.proofs.DecidedSolutions.{decided_some, highest_or_none, solution_or_none}
use Rattle.fg_playout.proofs.MadeMaps.{made_where, left_from, filtered}
use Rattle.fg_playout.proofs.Orderly.{IsOrderly, orderly_from_holds}

decided_survival : (mark : ℕ) (kept : Words) (equation : Equation) → IsDecided (Survives mark kept equation)
decided_survival mark kept equation =
    let Based : ℕ → Type 0 = λ slot. slot < mark → IsSome (get kept slot) in
    let AllBased : Type 0 = (slot : ℕ) → Contains (slots equation) slot → Based slot in
    decided_as ((mark ≤ last_slot equation) × AllBased) (Survives mark kept equation)
    (λ f. record { reaches = f.0; based = f.1 })
    (λ s. (s.reaches, s.based))
    (decided_both (mark ≤ last_slot equation) AllBased (decided_most mark (last_slot equation))
    (decided_all Based
    (λ slot. decided_if (slot < mark) (IsSome (get kept slot)) (decided_less slot mark) (decided_some (get kept slot)))
    (slots equation)))

decided_repaired : (outcome : Outcome) → IsDecided (outcome ≡ Repaired)
decided_repaired Repaired = inl refl
decided_repaired Inconsistent = inr (λ e. cc)

-- An outcome and its words.
pub record Decision (desk : State) : Type 0 where
  pub outcome : Outcome
  pub words : ℕ → Option Word
  pub decides : Decides desk outcome words

-- A play, and the desk after it.
pub record Outcomes (count : ℕ) (old : State) : Type 0 where
  pub play : Play
  pub new : State
  pub plays : IsPlay count old play new

module _ (count : ℕ) (old : State) (decision : Decision old) where
  abbrev after : ℕ
  after = old.mark + count

  abbrev shows : List Shown
  shows = map (λ i. shown_at old decision.words (old.mark + i)) (range_with_len 0 count)

  abbrev IsLeft : Words → Live → Type 0
  IsLeft kept live = (decision.outcome ≡ Repaired) × Survives after kept live.equation

  decided_left : (kept : Words) (live : Live) → IsDecided (IsLeft kept live)
  decided_left kept live = decided_both (decision.outcome ≡ Repaired) (Survives after kept live.equation)
      (decided_repaired decision.outcome) (decided_survival after kept live.equation)

  played : Outcomes count old
  played =
      let kept = made_where (λ p. cond (ltb p old.mark) (get old.kept p) (decision.words p)) (λ p. leb after (p + kept_count)) after in
      let media = left_from old.media after in
      let times = left_from old.times after in
      let equations = filtered (IsLeft kept.0) (decided_left kept.0) old.equations in
      record {
        play = record { first = old.mark; shown = shows; outcome = decision.outcome };
        new = record (counted old) {
          mark = after;
          kept = kept.0;
          media = media.0;
          times = times.0;
          equations = equations.0;
        };
        plays = record {
          words = decision.words;
          decides = decision.decides;
          first = refl;
          length_is = length-map-range_with_len (λ i. shown_at old decision.words (old.mark + i)) 0 count;
          shows = λ i below. get_or-map-range_with_len (λ i. shown_at old decision.words (old.mark + i)) 0 count i i nothing_shown below (omega arith);
          mark = refl;
          kept = kept.1;
          media = media.1;
          times = times.1;
          equations = λ serial live. (
            λ is. (let l = (equations.1 serial live).0 is in (l.0, l.1.0, l.1.1)),
            λ l. (equations.1 serial live).1 (l.0, (l.1, l.2)),
          );
          rest = refl;
        };
      }

module _ (laws : PeelingLaws) (desk : State) (orderly : IsOrderly desk) where
  decision : Decision desk
  decision = ⊎_elim
      (λ s. record { outcome = Repaired; words = s.0; decides = s.1 })
      (λ none. record { outcome = Inconsistent; words = get desk.media; decides = (none, refl) })
      (solution_or_none laws desk orderly)

  pub play_outcomes : (count : ℕ) → Outcomes count desk
  play_outcomes count = played count desk decision

  -- A flush step, where more is to be shown.
  pub record Steps : Type 0 where
    pub play : Play
    pub new : State
    pub step : IsFlushStep desk play new

  pub more_or_none : Steps ⊎ (HasMore desk → ⊥)
  more_or_none = ⊎_elim
      (λ h. ⊎_elim
      (λ below. inr (λ more.
      let least = more.2 in
      let most = h.1.greatest more.0 more.1 in
      omega (arith, below, least, most)))
      (λ more.
      let o = play_outcomes (min desk.playout.window (h.0 + 1 - desk.mark)) in
      inl (record { play = o.play; new = o.new; step = record { highest = h.0; highest_is = h.1; more = more; plays = o.plays } }))
      (cases_lt h.0 desk.mark))
      (λ none. inr (λ more. none more.0 more.1))
      (highest_or_none laws desk orderly)

pub solutions_are_decided : PeelingLaws → SolutionsAreDecided
solutions_are_decided laws desk holds = solution_or_none laws desk (orderly_from_holds desk holds)

pub play_has_outcome : PeelingLaws → PlayHasOutcome
play_has_outcome laws count old holds =
    let o = play_outcomes laws old (orderly_from_holds old holds) count in (o.play, o.new, o.plays)

pub flush_has_outcome : PeelingLaws → FlushHasOutcome
flush_has_outcome laws old holds = ⊎_elim
    (λ s. (Some s.play, s.new, s.step))
    (λ none. (None, counted old, (none, refl)))
    (more_or_none laws old (orderly_from_holds old holds))
