-- All plays of a run of true datagrams are true.
use Rattle.std.proofs.Common.{◌≡◌, ◌+◌, ◌-◌, ◌<◌, ◌^◌, ◌++◌, ℕ, min, List, [], ◌∷◌, length, Option, Some, None, refl, sym, subst, ◌∙◌, ⊎_elim, arith}
use Rattle.std.proofs.lemmas.Bool.{cases_eq}
use Rattle.std.proofs.lemmas.Option.{none-some}
use Rattle.std.proofs.lemmas.List.{append-nil, length_push}
use Rattle.std.proofs.lemmas.List.Elements.{All-nil, All-cons, All-append, All-push}
use Rattle.std.specs.List.{All}
use Rattle.std.specs.Ordering.{nat_cmp}
use Rattle.std.specs.FinMap.{get-empty}
use Rattle.fg_shape.specs.declared.kind.Kind.TheVariants as kind
use Rattle.fg_shape.specs.Playout.{Playout, PlayoutFits}
use Rattle.fg_words.specs.declared.Word.{Word}
use Rattle.fg_peel.specs.Equation.{AreMedia}
use Rattle.fg_peel.specs.Laws.{TruthIsSolvable, SolutionsAreTrue}
use Rattle.fg_playout.specs.declared.reply.Reply.{Reply}
use Rattle.fg_playout.specs.State.{State, Live, known, opening}
use Rattle.fg_playout.specs.Play.{Play}
use Rattle.fg_playout.specs.Run.{Arrival, carries, protects, refused, unlimited, TakesAll, IsFlush, IsRun}
use Rattle.fg_playout.specs.Facts.{Holds}
use Rattle.fg_playout.specs.Laws.{IsRead, LiveStandUnderSerials, SolutionsArePeelings, MediaAdds, ParityAdds, FactsAreKept, RunsStayWithin, TakingsJoin, HavePlayedFor, still_held, then_played}
use Rattle.fg_drill.specs.True.{IsTrueArrival, AreTrueArrivals, last_after, AreSentTrue}
use Rattle.fg_drill.specs.TrueLaws.{RunsAreLawful}
use Rattle.fg_playout.proofs.Orderly.{known_ahead}
use Rattle.fg_drill.proofs.TrueDesks.{IsTrueWindow, IsTruePlay, play_is_true, true_after_play}
use Rattle.fg_drill.proofs.TrueTakings.{LeavesTruth, is_taken_truly}

-- A true datagram is read.
pub is_read :
    (seq ssrc : ℕ) (truth : ℕ → Option Word) (slot : ℕ) (arrival : Arrival) → ssrc < 2 ^ 32 → AreMedia truth
    → IsTrueArrival seq ssrc truth slot arrival → IsRead arrival
is_read seq ssrc truth slot (carries time number source word) small media is =
    let number_is = is.0 in
    (omega (arith, number_is), subst (λ (s : ℕ). s < 2 ^ 32) (sym is.1) small, media slot word is.2)
is_read seq ssrc truth slot (protects time stream parity) small media is =
    let number_is = is.base_is in
    (omega (arith, number_is), is.shape)
is_read seq ssrc truth slot (refused time stream) small media is = absurd is

pub all_are_read :
    (seq ssrc : ℕ) (truth : ℕ → Option Word) (last : Option ℕ) (arrivals : List Arrival) → ssrc < 2 ^ 32 → AreMedia truth
    → AreTrueArrivals seq ssrc truth last arrivals → All IsRead arrivals
all_are_read seq ssrc truth last [] small media are = All-nil IsRead
all_are_read seq ssrc truth last (arrival ∷ arrivals) small media are =
    All-cons IsRead arrival arrivals (is_read seq ssrc truth are.0 arrival small media are.1)
    (all_are_read seq ssrc truth (last_after last are.0 arrival) arrivals small media are.3)

-- Nothing is there at first.
pub opening_is_true :
    (playout : Playout) (seq ssrc : ℕ) (truth : ℕ → Option Word) → LiveStandUnderSerials
    → LeavesTruth truth seq ssrc None (opening playout)
opening_is_true playout seq ssrc truth stand =
    let nothing : (position : ℕ) → known (opening playout) position ≡ None =
    λ position. known_ahead (opening playout) position (omega arith) ∙ get-empty {X = Word} nat_cmp position in
    record {
      window = record {
        known_true = λ p w is_known. absurd (none-some w (sym (nothing p) ∙ is_known));
        settled = λ e listed.
            let r = (stand (opening playout) e).0 listed in
            absurd (none-some r.1 (sym (get-empty {X = Live} nat_cmp r.0) ∙ r.2));
      };
      top = record { top = refl; previous = refl; origin = refl; mark = omega arith; unknown = λ p past ahead. nothing p };
    }

-- So far a refused datagram has played nothing, whatever the hold.
nothing_is_played : (desk : State) → HavePlayedFor desk (refused 0 kind.Media) [] desk
nothing_is_played desk = ⊎_elim
    (λ none. then_played [] [] desk (unlimited none refl refl) refl (refl, refl))
    (λ some. still_held some refl)
    (cases_eq desk.playout.hold 0)

-- The facts hold on a desk that datagrams leave.
pub taken_holds :
    RunsStayWithin → (playout : Playout) (arrivals : List Arrival) (plays : List Play) (replies : List (Option Reply))
    (taken : State) → PlayoutFits playout → All IsRead arrivals → length arrivals < 2 ^ 44
    → TakesAll (opening playout) arrivals plays replies taken → Holds taken
taken_holds within playout arrivals plays replies taken fits read few takes =
    (within playout (refused 0 kind.Media) arrivals plays [] replies taken taken
    fits.window.0 fits.window.1 fits.depth.0 fits.depth.1 read few takes (nothing_is_played taken)).0

module _
    (stand : LiveStandUnderSerials) (peelings : SolutionsArePeelings) (solvable : TruthIsSolvable) (found : SolutionsAreTrue)
    (media_adds : MediaAdds) (parity_adds : ParityAdds) (keeps : FactsAreKept) (within : RunsStayWithin)
    (join : TakingsJoin) (playout : Playout) (seq ssrc : ℕ) (truth : ℕ → Option Word) (arrivals : List Arrival)
    (sent : AreSentTrue playout seq ssrc truth arrivals) where
  -- What the datagrams so far leave.
  record AreTakenTruly (plays : List Play) (new : State) : Type 0 where
    made : All (IsTruePlay truth) plays
    holds : Holds new
    window_is : IsTrueWindow truth new

  all_are_taken_truly :
      (earlier later : List Arrival) (before plays : List Play) (first replies : List (Option Reply)) (taken new : State)
      (last : Option ℕ)
      → All IsRead earlier → length earlier + length later < 2 ^ 44
      → TakesAll (opening playout) earlier before first taken → LeavesTruth truth seq ssrc last taken
      → AreTrueArrivals seq ssrc truth last later → TakesAll taken later plays replies new → AreTakenTruly plays new
  all_are_taken_truly earlier [] before plays first replies taken new last read few so is are takes = record {
    made = subst (All (IsTruePlay truth)) (sym takes.0) (All-nil (IsTruePlay truth));
    holds = subst Holds (sym takes.2)
        (taken_holds within playout earlier before first taken sent.fits read (omega (arith, few)) so);
    window_is = subst (IsTrueWindow truth) (sym takes.2) is.window;
  }
  all_are_taken_truly earlier (arrival ∷ later) before plays first [] taken new last read few so is are takes = absurd takes
  all_are_taken_truly earlier (arrival ∷ later) before plays first (reply ∷ replies) taken new last read few so is are takes =
      let one = is_taken_truly stand peelings solvable found keeps media_adds parity_adds truth sent.media seq ssrc
      last are.0 taken arrival takes.0 reply takes.2
      (taken_holds within playout earlier before first taken sent.fits read (omega (arith, few)) so)
      is are.1 are.2 takes.4 in
      let long = length_push earlier arrival in
      let rest = all_are_taken_truly (earlier ++ arrival ∷ []) later (before ++ takes.0) takes.1 (first ++ reply ∷ []) replies
      takes.2 new (last_after last are.0 arrival)
      (All-push IsRead earlier arrival read (is_read seq ssrc truth are.0 arrival sent.source sent.media are.1))
      (omega (arith, few, long))
      (join (opening playout) taken takes.2 earlier (arrival ∷ []) before takes.0 first (reply ∷ []) so
      (takes.0, [], takes.2, sym (append-nil takes.0), takes.4, (refl, refl, refl)))
      one.leaves are.3 takes.5 in
      record {
        made = subst (All (IsTruePlay truth)) (sym takes.3)
            (All-append (IsTruePlay truth) takes.0 takes.1 one.made rest.made);
        holds = rest.holds;
        window_is = rest.window_is;
      }

  flush_is_true :
      (old : State) (plays : List Play) (new : State) → Holds old → IsTrueWindow truth old → IsFlush old plays new
      → All (IsTruePlay truth) plays
  flush_is_true old [] new holds is flush = All-nil (IsTruePlay truth)
  flush_is_true old (play ∷ plays) new holds is flush =
      let count = min old.playout.window (flush.1.highest + 1 - old.mark) in
      All-cons (IsTruePlay truth) play plays
      (play_is_true stand peelings solvable found truth sent.media count old play flush.0 holds is flush.1.plays)
      (flush_is_true flush.0 plays new (keeps.flush old flush.0 (Some play) holds flush.1)
      (true_after_play stand peelings solvable found truth sent.media count old play flush.0 holds is flush.1.plays) flush.2)

  run_is_true :
      (plays : List Play) (replies : List (Option Reply)) → IsRun playout arrivals plays replies
      → All (IsTruePlay truth) plays
  run_is_true plays replies run =
      let few = sent.few in
      let all = all_are_taken_truly [] arrivals [] run.taken [] replies (opening playout) run.filled None
      (All-nil IsRead) (omega (arith, few)) (refl, refl, refl) (opening_is_true playout seq ssrc truth stand)
      sent.arrive run.takes in
      subst (All (IsTruePlay truth)) (sym run.plays_are)
      (All-append (IsTruePlay truth) run.taken run.flushed all.made
      (flush_is_true run.filled run.flushed run.empty all.holds all.window_is run.flush))

-- All plays of runs of true datagrams are true.
abbrev pub TrueRunsAreTrue : Type 0
TrueRunsAreTrue =
    (playout : Playout) (seq ssrc : ℕ) (truth : ℕ → Option Word) (arrivals : List Arrival) (plays : List Play)
    (replies : List (Option Reply))
    → AreSentTrue playout seq ssrc truth arrivals → IsRun playout arrivals plays replies
    → All (IsTruePlay truth) plays

pub true_runs_are_true :
    RunsAreLawful → TrueRunsAreTrue
true_runs_are_true laws playout seq ssrc truth arrivals plays replies sent run =
    run_is_true laws.stand laws.peelings laws.solvable laws.found laws.media_adds laws.parity_adds laws.keeps laws.within laws.join
    playout seq ssrc truth arrivals sent plays replies run
