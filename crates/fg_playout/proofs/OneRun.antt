-- A flow has one run.
use Rattle.std.proofs.Common.{◌≡◌, ◌++◌, ◌≤◌, ℕ, List, [], ◌∷◌, Option, Some, None, IsSomeAnd, refl, sym, ap, subst, ◌∙◌, arith}
use Rattle.std.proofs.lemmas.List.Elements.{All-head, All-tail}
use Rattle.std.specs.List.{All}
use Rattle.fg_words.specs.declared.Word.{Word}
use Rattle.fg_words.specs.Word.{IsMedia}
use Rattle.fg_peel.specs.Laws.{Uniqueness}
use Rattle.fg_playout.specs.declared.reply.Reply.{Reply}
use Rattle.fg_playout.specs.declared.reply.Reply.TheVariants.{Admitted}
use Rattle.fg_playout.specs.State.{State, opening}
use Rattle.fg_playout.specs.Admission.{Parity, IsLeastFree, IsAfterMedia, IsAfterParity, AdmitsMedia, AdmitsParity, position_on, base_on, run_on, counted, with_media, with_equation, equation_at}
use Rattle.fg_playout.specs.Play.{Play}
use Rattle.fg_playout.specs.Held.{at_time}
use Rattle.fg_playout.specs.Run.{Arrival, carries, protects, refused, time_of, AreHeldPlays, ArePlaysHeld, unlimited, limited, ArePlaysDue, ArePlaysBefore, by_flush, by_due, TakesThen, Takes, TakesAll, IsFlush}
use Rattle.fg_playout.specs.Laws.{IsRead, OneRun}
use Rattle.fg_playout.proofs.Orderly.{IsOrderly, orderly_opening}
use Rattle.fg_playout.proofs.OrderlyAdmissions.{orderly_counted, orderly_after_media, orderly_after_parity}
use Rattle.fg_playout.proofs.Plays.{orderly_after_play}
use Rattle.fg_playout.proofs.Replies.{one_media_reply, one_parity_reply}
use Rattle.fg_playout.proofs.Held.{at_time_orderly, one_held_play, one_state_after_held}
use Rattle.fg_playout.proofs.OnePlay.{one_play, one_state_after, one_flush_step, one_state_after_step}

pub one_after_media :
    (old : State) (seq ssrc : ℕ) (word : Word) (reply : Reply) (new new' : State)
    → IsAfterMedia old seq ssrc word reply new → IsAfterMedia old seq ssrc word reply new' → new ≡ new'
one_after_media old seq ssrc word Admitted new new' a b = at (position_on old seq ssrc) a b
  where
    at :
        (o : Option ℕ) → IsSomeAnd o (λ p. new ≡ with_media (run_on old ssrc) seq ssrc p word)
        → IsSomeAnd o (λ p. new' ≡ with_media (run_on old ssrc) seq ssrc p word) → new ≡ new'
    at None a b = absurd a
    at (Some p) a b = a ∙ sym b
one_after_media old seq ssrc word reply new new' a b = a ∙ sym b

least_is_one : (old : State) (one other : ℕ) → IsLeastFree old.equations one → IsLeastFree old.equations other → one ≡ other
least_is_one old one other a b =
    let up = a.1 other b.0 in
    let down = b.1 one a.0 in
    omega (arith, up, down)

pub one_after_parity :
    (old : State) (parity : Parity) (reply : Reply) (new new' : State)
    → IsAfterParity old parity reply new → IsAfterParity old parity reply new' → new ≡ new'
one_after_parity old parity Admitted new new' a b = at (base_on old parity.base) a b
  where
    at :
        (o : Option ℕ)
        → IsSomeAnd o (λ position. (place : ℕ) × IsLeastFree old.equations place × (new ≡ with_equation old place (equation_at position parity)))
        → IsSomeAnd o (λ position. (place : ℕ) × IsLeastFree old.equations place × (new' ≡ with_equation old place (equation_at position parity)))
        → new ≡ new'
    at None a b = absurd a
    at (Some position) a b =
        a.2
        ∙ ap (λ (place : ℕ). with_equation old place (equation_at position parity)) (least_is_one old a.0 b.0 a.1 b.1)
        ∙ sym b.2
one_after_parity old parity reply new new' a b = a ∙ sym b

-- The two ends of plays and a reply, or of plays, are the same, and orderly.
pub record SameStep (plays plays' : List Play) (reply reply' : Option Reply) (new new' : State) : Type 0 where
  play : plays ≡ plays'
  answer : reply ≡ reply'
  pub state : new ≡ new'
  pub orderly : IsOrderly new

pub record SamePlays (plays plays' : List Play) (new new' : State) : Type 0 where
  pub play : plays ≡ plays'
  pub state : new ≡ new'
  pub orderly : IsOrderly new

same_cons : (play play' : Play) (plays plays' : List Play) → play ≡ play' → plays ≡ plays' → play ∷ plays ≡ play' ∷ plays'
same_cons play play' plays plays' p q = λ i. p i ∷ q i

module _ (unique : Uniqueness) where
  one_due :
      (old : State) (seq ssrc : ℕ) (plays plays' : List Play) (new new' : State) → IsOrderly old
      → ArePlaysDue old seq ssrc plays new → ArePlaysDue old seq ssrc plays' new' → SamePlays plays plays' new new'
  one_due old seq ssrc [] [] new new' orderly a b =
      record { play = refl; state = a.1 ∙ sym b.1; orderly = subst IsOrderly (sym a.1) orderly }
  one_due old seq ssrc [] (play' ∷ plays') new new' orderly a b = absurd (a.0 b.0)
  one_due old seq ssrc (play ∷ plays) [] new new' orderly a b = absurd (b.0 a.0)
  one_due old seq ssrc (play ∷ plays) (play' ∷ plays') new new' orderly a b =
      let next = a.1.0 in
      let state : next ≡ b.1.0 = one_state_after unique old.playout.window old orderly play play' next b.1.0 a.1.1 b.1.1 in
      let rest : SamePlays plays plays' new new' =
      one_due next seq ssrc plays plays' new new' (orderly_after_play old.playout.window old play next a.1.1 orderly) a.1.2
      (subst (λ (s : State). ArePlaysDue s seq ssrc plays' new') (sym state) b.1.2) in
      record {
        play = same_cons play play' plays plays' (one_play unique old.playout.window old orderly play play' next b.1.0 a.1.1 b.1.1) rest.play;
        state = rest.state;
        orderly = rest.orderly;
      }

  one_flush :
      (old : State) (plays plays' : List Play) (new new' : State) → IsOrderly old → IsFlush old plays new → IsFlush old plays' new'
      → SamePlays plays plays' new new'
  one_flush old [] [] new new' orderly a b =
      record { play = refl; state = a.1 ∙ sym b.1; orderly = subst IsOrderly (sym a.1) orderly }
  one_flush old [] (play' ∷ plays') new new' orderly a b = absurd (a.0 (b.1.highest, b.1.highest_is.inside, b.1.more))
  one_flush old (play ∷ plays) [] new new' orderly a b = absurd (b.0 (a.1.highest, a.1.highest_is.inside, a.1.more))
  one_flush old (play ∷ plays) (play' ∷ plays') new new' orderly a b =
      let state : a.0 ≡ b.0 = one_state_after_step unique old orderly play play' a.0 b.0 a.1 b.1 in
      let rest : SamePlays plays plays' new new' =
      one_flush a.0 plays plays' new new' (orderly_after_play _ old play a.0 a.1.plays orderly) a.2
      (subst (λ (s : State). IsFlush s plays' new') (sym state) b.2) in
      record {
        play = same_cons play play' plays plays' (one_flush_step unique old orderly play play' a.0 b.0 a.1 b.1) rest.play;
        state = rest.state;
        orderly = rest.orderly;
      }

  one_before :
      (old : State) (seq ssrc : ℕ) (plays plays' : List Play) (new new' : State) → IsOrderly old
      → ArePlaysBefore old seq ssrc plays new → ArePlaysBefore old seq ssrc plays' new' → SamePlays plays plays' new new'
  one_before old seq ssrc plays plays' new new' orderly (by_flush empty fresh a counts) (by_flush empty' fresh' b counts') =
      let same = one_flush old plays plays' empty empty' orderly a b in
      record {
        play = same.play;
        state = counts ∙ ap counted same.state ∙ sym counts';
        orderly = subst IsOrderly (sym counts) (orderly_counted empty same.orderly);
      }
  one_before old seq ssrc plays plays' new new' orderly (by_flush empty fresh a counts) (by_due stale b) = absurd (stale fresh)
  one_before old seq ssrc plays plays' new new' orderly (by_due stale a) (by_flush empty fresh b counts) = absurd (stale fresh)
  one_before old seq ssrc plays plays' new new' orderly (by_due stale a) (by_due stale' b) = one_due old seq ssrc plays plays' new new' orderly a b

  one_media :
      (old : State) (seq ssrc : ℕ) (word : Word) (reply reply' : Reply) (new new' : State) → IsOrderly old → IsMedia word
      → AdmitsMedia old seq ssrc word reply new → AdmitsMedia old seq ssrc word reply' new' → SameStep [] [] (Some reply) (Some reply') new new'
  one_media old seq ssrc word reply reply' new new' orderly media a b =
      let same : reply ≡ reply' = one_media_reply old seq ssrc word reply reply' a.reply_is b.reply_is in
      record {
        play = refl;
        answer = ap Some same;
        state = one_after_media old seq ssrc word reply new new' a.after
            (subst (λ (r : Reply). IsAfterMedia old seq ssrc word r new') (sym same) b.after);
        orderly = orderly_after_media old new seq ssrc word reply orderly media a.after;
      }

  one_parity :
      (old : State) (parity : Parity) (reply reply' : Reply) (new new' : State) → IsOrderly old → 1 ≤ parity.offset
      → AdmitsParity old parity reply new → AdmitsParity old parity reply' new' → SameStep [] [] (Some reply) (Some reply') new new'
  one_parity old parity reply reply' new new' orderly some_offset a b =
      let same : reply ≡ reply' = one_parity_reply old orderly parity reply reply' a.reply_is b.reply_is in
      record {
        play = refl;
        answer = ap Some same;
        state = one_after_parity old parity reply new new' a.after
            (subst (λ (r : Reply). IsAfterParity old parity r new') (sym same) b.after);
        orderly = orderly_after_parity old new parity reply orderly some_offset a.reply_is a.after;
      }

  one_steps_held :
      (old : State) (time : ℕ) (plays plays' : List Play) (new new' : State) → IsOrderly old
      → AreHeldPlays old time plays new → AreHeldPlays old time plays' new' → SamePlays plays plays' new new'
  one_steps_held old time [] [] new new' orderly a b = record {
    play = refl;
    state = a.1 ∙ sym b.1;
    orderly = subst IsOrderly (sym a.1) (orderly_counted (at_time old time) (at_time_orderly old time orderly));
  }
  one_steps_held old time [] (play' ∷ plays') new new' orderly a b = absurd (a.0 b.1.greatest b.1.greatest_is.inside)
  one_steps_held old time (play ∷ plays) [] new new' orderly a b = absurd (b.0 a.1.greatest a.1.greatest_is.inside)
  one_steps_held old time (play ∷ plays) (play' ∷ plays') new new' orderly a b =
      let at = at_time_orderly old time orderly in
      let state : a.0 ≡ b.0 = one_state_after_held unique (at_time old time) at play play' a.0 b.0 a.1 b.1 in
      let rest : SamePlays plays plays' new new' =
      one_steps_held a.0 time plays plays' new new' (orderly_after_play _ (at_time old time) play a.0 a.1.plays at) a.2
      (subst (λ (s : State). AreHeldPlays s time plays' new') (sym state) b.2) in
      record {
        play = same_cons play play' plays plays' (one_held_play unique (at_time old time) at play play' a.0 b.0 a.1 b.1) rest.play;
        state = rest.state;
        orderly = rest.orderly;
      }

  pub one_holding :
      (old : State) (arrival : Arrival) (plays plays' : List Play) (new new' : State) → IsOrderly old
      → ArePlaysHeld old (time_of arrival) plays new → ArePlaysHeld old (time_of arrival) plays' new' → SamePlays plays plays' new new'
  one_holding old arrival plays plays' new new' orderly (unlimited none no_plays same) (unlimited none' no_plays' same') =
      record { play = no_plays ∙ sym no_plays'; state = same ∙ sym same'; orderly = subst IsOrderly (sym same) orderly }
  one_holding old arrival plays plays' new new' orderly (unlimited none no_plays same) (limited some steps) = absurd (some none)
  one_holding old arrival plays plays' new new' orderly (limited some steps) (unlimited none no_plays same) = absurd (some none)
  one_holding old arrival plays plays' new new' orderly (limited some a) (limited some' b) =
      one_steps_held old (time_of arrival) plays plays' new new' orderly a b

  one_then :
      (old : State) (arrival : Arrival) (plays plays' : List Play) (reply reply' : Option Reply) (new new' : State) → IsOrderly old
      → IsRead arrival → TakesThen old arrival plays reply new → TakesThen old arrival plays' reply' new'
      → SameStep plays plays' reply reply' new new'
  one_then old (carries time seq ssrc word) plays plays' None reply' new new' orderly read a b = absurd a
  one_then old (carries time seq ssrc word) plays plays' (Some reply) None new new' orderly read a b = absurd b
  one_then old (carries time seq ssrc word) plays plays' (Some reply) (Some reply') new new' orderly read a b =
      let due = one_before old seq ssrc plays plays' a.0 b.0 orderly a.1 b.1 in
      let step = one_media a.0 seq ssrc word reply reply' new new' due.orderly read.2 a.2
      (subst (λ (s : State). AdmitsMedia s seq ssrc word reply' new') (sym due.state) b.2) in
      record { play = due.play; answer = step.answer; state = step.state; orderly = step.orderly }
  one_then old (protects time stream parity) plays plays' None reply' new new' orderly read a b = absurd a
  one_then old (protects time stream parity) plays plays' (Some reply) None new new' orderly read a b = absurd b
  one_then old (protects time stream parity) plays plays' (Some reply) (Some reply') new new' orderly read a b =
      let step = one_parity old parity reply reply' new new' orderly read.1.some_offset a.1 b.1 in
      record { play = a.0 ∙ sym b.0; answer = step.answer; state = step.state; orderly = step.orderly }
  one_then old (refused time stream) plays plays' None None new new' orderly read a b =
      record { play = a.0 ∙ sym b.0; answer = refl; state = a.1 ∙ sym b.1; orderly = subst IsOrderly (sym a.1) orderly }
  one_then old (refused time stream) plays plays' None (Some reply') new new' orderly read a b = absurd b
  one_then old (refused time stream) plays plays' (Some reply) reply' new new' orderly read a b = absurd a

  pub one_taking :
      (old : State) (arrival : Arrival) (plays plays' : List Play) (reply reply' : Option Reply) (new new' : State) → IsOrderly old
      → IsRead arrival → Takes old arrival plays reply new → Takes old arrival plays' reply' new'
      → SameStep plays plays' reply reply' new new'
  one_taking old arrival plays plays' reply reply' new new' orderly read a b =
      let held = one_holding old arrival a.held b.held a.ready b.ready orderly a.holds b.holds in
      let step : SameStep a.after b.after reply reply' new new' =
      one_then a.ready arrival a.after b.after reply reply' new new' held.orderly read a.takes
      (subst (λ (s : State). TakesThen s arrival b.after reply' new') (sym held.state) b.takes) in
      record {
        play = a.plays_are ∙ (λ i. held.play i ++ step.play i) ∙ sym b.plays_are;
        answer = step.answer;
        state = step.state;
        orderly = step.orderly;
      }

  pub record SameRun (plays plays' : List Play) (replies replies' : List (Option Reply)) (new new' : State) : Type 0 where
    pub play : plays ≡ plays'
    pub answers : replies ≡ replies'
    pub state : new ≡ new'
    pub orderly : IsOrderly new

  pub one_taking_all :
      (old : State) (arrivals : List Arrival) (plays plays' : List Play) (replies replies' : List (Option Reply)) (new new' : State)
      → IsOrderly old → All IsRead arrivals → TakesAll old arrivals plays replies new → TakesAll old arrivals plays' replies' new'
      → SameRun plays plays' replies replies' new new'
  one_taking_all old [] plays plays' replies replies' new new' orderly read a b = record {
    play = a.0 ∙ sym b.0;
    answers = a.1 ∙ sym b.1;
    state = a.2 ∙ sym b.2;
    orderly = subst IsOrderly (sym a.2) orderly;
  }
  one_taking_all old (arrival ∷ arrivals) plays plays' [] replies' new new' orderly read a b = absurd a
  one_taking_all old (arrival ∷ arrivals) plays plays' (reply ∷ replies) [] new new' orderly read a b = absurd b
  one_taking_all old (arrival ∷ arrivals) plays plays' (reply ∷ replies) (reply' ∷ replies') new new' orderly read a b =
      let step = one_taking old arrival a.0 b.0 reply reply' a.2 b.2 orderly (All-head IsRead arrival arrivals read) a.4 b.4 in
      let rest : SameRun a.1 b.1 replies replies' new new' =
      one_taking_all a.2 arrivals a.1 b.1 replies replies' new new' step.orderly (All-tail IsRead arrival arrivals read) a.5
      (subst (λ (s : State). TakesAll s arrivals b.1 replies' new') (sym step.state) b.5) in
      record {
        play = a.3 ∙ (λ i. step.play i ++ rest.play i) ∙ sym b.3;
        answers = λ i. step.answer i ∷ rest.answers i;
        state = rest.state;
        orderly = rest.orderly;
      }

  pub one_run : OneRun
  one_run playout arrivals plays plays' replies replies' read a b =
      let taken = one_taking_all (opening playout) arrivals a.taken b.taken replies replies' a.filled b.filled
      (orderly_opening playout) read a.takes b.takes in
      let flushed = one_flush a.filled a.flushed b.flushed a.empty b.empty taken.orderly a.flush
      (subst (λ (s : State). IsFlush s b.flushed b.empty) (sym taken.state) b.flush) in
      (a.plays_are ∙ (λ i. taken.play i ++ flushed.play i) ∙ sym b.plays_are, taken.answers, taken.state)
