-- The positions of what plays show.
use Rattle.std.proofs.Common.{◌≡◌, ◌+◌, ◌-◌, ◌<◌, ◌≤◌, ◌++◌, ℕ, false, List, [], ◌∷◌, length, get_or, Option, Some, None, is_some, refl, sym, ap, ◌∙◌, ⊎_elim, arith}
use Rattle.std.proofs.lemmas.Bool.{cases_lt}
use Rattle.std.proofs.lemmas.Option.{none-some}
use Rattle.std.proofs.lemmas.List.{get_or_append_left, get_or-append_right}
use Rattle.std.proofs.lemmas.List.Elements.{All-head, All-tail, All-weaker}
use Rattle.std.specs.List.{All}
use Rattle.fg_words.specs.declared.Word.{Word}
use Rattle.fg_playout.specs.declared.reply.Outcome.TheVariants.{Repaired}
use Rattle.fg_playout.specs.Play.{Play, Shown, nothing_shown}
use Rattle.fg_playout.specs.Laws.{AreInSuccession, PlaysFollow}
use Rattle.fg_results.specs.Flow.{all_shown}
use Rattle.fg_drill.specs.TrueLaws.{TrueRunsAreRepaired, TrueRunsShowTheTruth, NothingElseIsShown}
use Rattle.fg_drill.proofs.TrueDesks.{IsTruePlay}
use Rattle.fg_drill.proofs.TrueRuns.{TrueRunsAreTrue}

-- What plays in succession show at a position is the truth of that position.
pub shown_is_true :
    (truth : ℕ → Option Word) (plays : List Play) (first : ℕ) → AreInSuccession first plays → All (IsTruePlay truth) plays
    → (k : ℕ) (word : Word) → (get_or (all_shown plays) k nothing_shown).word ≡ Some word → truth (first + k) ≡ Some word
shown_is_true truth [] first follow all k word shown = absurd (none-some word shown)
shown_is_true truth (play ∷ plays) first follow all k word shown =
    let is = All-head (IsTruePlay truth) play plays all in ⊎_elim
    (λ below.
    ap (λ (n : ℕ). truth (n + k)) (sym follow.0)
    ∙ is.shows k word below
    (ap (λ (s : Shown). s.word) (sym (get_or_append_left play.shown (all_shown plays) nothing_shown k below)) ∙ shown))
    (λ past.
    let same : first + k ≡ (first + length play.shown) + (k - length play.shown) = omega (arith, past) in
    ap truth same
    ∙ shown_is_true truth plays (first + length play.shown) follow.1 (All-tail (IsTruePlay truth) play plays all)
    (k - length play.shown) word
    (ap (λ (s : Shown). s.word)
    (sym (get_or-append_right play.shown (all_shown plays) (length play.shown) k nothing_shown refl past)) ∙ shown))
    (cases_lt k (length play.shown))

not_some : {X : Type 0} (o : Option X) → ((x : X) → o ≡ Some x → ⊥) → is_some o ≡ false
not_some None not = refl
not_some (Some x) not = absurd (not x refl)

pub nothing_else : TrueRunsShowTheTruth → NothingElseIsShown
nothing_else truly playout seq ssrc truth arrivals plays replies sent run slot none =
    not_some (get_or (all_shown plays) slot nothing_shown).word
    (λ word shown. none-some word (sym none ∙ truly playout seq ssrc truth arrivals plays replies sent run slot word shown))

-- A play of plays in succession shows its slots at their positions.
pub record ShowsAt (plays : List Play) (play : Play) (first slot : ℕ) : Type 0 where
  pub begins : first ≤ play.first
  pub same : get_or (all_shown plays) (slot - first) nothing_shown ≡ get_or play.shown (slot - play.first) nothing_shown

pub shows_at :
    (before after : List Play) (play : Play) (first slot : ℕ) → AreInSuccession first (before ++ play ∷ after)
    → play.first ≤ slot → slot < play.first + length play.shown → ShowsAt (before ++ play ∷ after) play first slot
shows_at [] after play first slot follow ahead near =
    let begins = follow.0 in
    record {
      begins = omega (arith, begins);
      same = get_or_append_left play.shown (all_shown after) nothing_shown (slot - first) (omega (arith, begins, ahead, near))
          ∙ ap (λ (n : ℕ). get_or play.shown (slot - n) nothing_shown) (sym begins);
    }
shows_at (other ∷ before) after play first slot follow ahead near =
    let rest = shows_at before after play (first + length other.shown) slot follow.1 ahead near in
    let begins = rest.begins in
    let same : slot - first - length other.shown ≡ slot - (first + length other.shown) = omega arith in
    record {
      begins = omega (arith, begins);
      same = get_or-append_right other.shown (all_shown (before ++ play ∷ after)) (length other.shown) (slot - first) nothing_shown
          refl (omega (arith, begins, ahead))
          ∙ ap (λ (n : ℕ). get_or (all_shown (before ++ play ∷ after)) n nothing_shown) same
          ∙ rest.same;
    }

-- What holds of all plays holds of one.
pub of_one : (P : Play → Type 0) (before after : List Play) (play : Play) → All P (before ++ play ∷ after) → P play
of_one P [] after play all = All-head P play after all
of_one P (other ∷ before) after play all = of_one P before after play (All-tail P other (before ++ play ∷ after) all)

pub runs_are_repaired : TrueRunsAreTrue → TrueRunsAreRepaired
runs_are_repaired all playout seq ssrc truth arrivals plays replies sent run =
    All-weaker (IsTruePlay truth) (λ (play : Play). play.outcome ≡ Repaired) (λ play is. is.repaired) plays
    (all playout seq ssrc truth arrivals plays replies sent run)

pub runs_show_the_truth : TrueRunsAreTrue → PlaysFollow → TrueRunsShowTheTruth
runs_show_the_truth all follow playout seq ssrc truth arrivals plays replies sent run slot word shown =
    let from_first : slot ≡ 0 + slot = omega arith in
    ap truth from_first
    ∙ shown_is_true truth plays 0 (follow playout arrivals plays replies run)
    (all playout seq ssrc truth arrivals plays replies sent run) slot word shown
