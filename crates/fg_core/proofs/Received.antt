-- What a media datagram makes of what is known and solved.
use Rattle.std.proofs.Common.{◌≡◌, ◌≤◌, ◌≢◌, ◌+◌, ◌==◌, ◌⊎◌, ℕ, cond, filter, List, Option, Some, None, IsSome, is_none, inl, inr, sym, ap, subst, ◌∙◌, ⊎_elim, arith, eq-eqb, ne_eqb}
use Rattle.std.proofs.lemmas.Bool.{cases_eq, cond-true, cond-false}
use Rattle.std.proofs.lemmas.Option.{same_Some, none-some}
use Rattle.std.specs.FinMap.{get, remove, empty}
use Rattle.std.specs.Option.{option_or}
use Rattle.fg_words.specs.declared.Word.{Word}
use Rattle.fg_peel.specs.Equation.{Equation, Keeps, Agree}
use Rattle.fg_peel.specs.Peeling.{Step, IsPeeling, end_of}
use Rattle.fg_peel.specs.Laws.{PeelingsTakeWords}
use Rattle.fg_peel.proofs.Options.{none_or_some, has_value, none_has_no_value, some_and, some_and_from, or_first, or_twice, same_functions}
use Rattle.fg_peel.proofs.Maps.{in_empty, nothing_in_empty, removed, beside_removed}
use Rattle.fg_playout.specs.declared.reply.Reply.{Reply}
use Rattle.fg_playout.specs.declared.reply.Reply.TheVariants.{Admitted}
use Rattle.fg_playout.specs.State.{State, Live, Words, known, live_equations}
use Rattle.fg_playout.specs.Admission.{Sender, former, own, another, AdmitsMedia, IsMediaReply, IsTakenBy, IsAfterMedia, IsFresh, sender_of, position_by, position_on, with_media}
use Rattle.fg_playout.specs.Play.{HasMore}
use Rattle.fg_playout.specs.Facts.{Holds}
use Rattle.fg_playout.specs.Laws.{NothingIsPeeled}
use Rattle.fg_desk.specs.Contents.{Contents, AreSolved, GivesWay, IsContradicted, IsAfterArrival, known_in}
use Rattle.fg_core.specs.Below.{CallLaws}
use Rattle.fg_core.proofs.Known.{known_first, solved_second, nothing_solved}
use Rattle.fg_core.proofs.Next.{IsNext, AreBareKept, is_next_counted}
use Rattle.fg_core.proofs.SameWords.{same_or_other}

-- Another word was solved at the position, or none was but this one.
module _ (old : Contents) (position : ℕ) (word : Word) where
  pub contradicted_or_not :
      IsContradicted old position word ⊎ ((other : Word) → get old.solved position ≡ Some other → other ≡ word)
  contradicted_or_not = ⊎_elim
      (λ none. inr (λ other is. absurd (none-some other (sym none ∙ is))))
      (λ some. ⊎_elim
      (λ same. inr (λ other is. same_Some other some.0 (sym is ∙ some.1) ∙ same))
      (λ differs. inl (some_and_from (get old.solved position) (λ other. other ≢ word) some.0 some.1 differs))
      (same_or_other some.0 word))
      (none_or_some (get old.solved position))

  pub not_contradicted :
      ((other : Word) → get old.solved position ≡ Some other → other ≡ word) → ¬ IsContradicted old position word
  not_contradicted agrees contradicted =
      let r = some_and (get old.solved position) (λ other. other ≢ word) contradicted in r.2 (agrees r.0 r.1)

-- What a media datagram that is admitted leaves as it was. No equation comes, and where a run begins all leave.
pub record Leaves (old state : State) : Type 0 where
  pub mark_is : state.mark ≡ old.mark
  pub kept_is : state.kept ≡ old.kept
  pub admitted_is : state.admitted ≡ old.admitted
  pub still_live :
      (serial : ℕ) (live : Live) → get state.equations serial ≡ Some live → get old.equations serial ≡ Some live

module _ (old state : State) (seq ssrc : ℕ) (word : Word) where
  leaves_by : (sender : Sender) → IsTakenBy old seq ssrc word state sender → Leaves old state
  leaves_by former taken = absurd taken
  leaves_by (own top) taken =
      let is = (some_and (position_by old seq (own top)) (λ p. state ≡ with_media old seq ssrc p word) taken).2 in
      record {
        mark_is = ap (λ (s : State). s.mark) is;
        kept_is = ap (λ (s : State). s.kept) is;
        admitted_is = ap (λ (s : State). s.admitted) is;
        still_live = λ serial live lives. sym (ap (λ (s : State). get s.equations serial) is) ∙ lives;
      }
  leaves_by another taken = record {
    mark_is = ap (λ (s : State). s.mark) taken;
    kept_is = ap (λ (s : State). s.kept) taken;
    admitted_is = ap (λ (s : State). s.admitted) taken;
    still_live = λ serial live lives.
        absurd (nothing_in_empty serial live (sym (ap (λ (s : State). get s.equations serial) taken) ∙ lives));
  }

  pub media_leaves : IsAfterMedia old seq ssrc word Admitted state → Leaves old state
  media_leaves after = leaves_by (sender_of old ssrc) after

-- What one more received word changes in the state.
record Receives (old state : State) (position : ℕ) (word : Word) : Type 0 where
  leaves : Leaves old state
  was_none : known old position ≡ None
  known_is : (other : ℕ) → known state other ≡ cond (other == position) (Some word) (known old other)

module _ (old : State) (state : State) (position : ℕ) (word : Word) (receives : Receives old state position word) where
  known_here : (other : ℕ) → other ≡ position → known state other ≡ Some word
  known_here other here =
      receives.known_is other ∙ cond-true (other == position) (Some word) (known old other) (eq-eqb other position here)

  known_beside : (other : ℕ) → other ≢ position → known state other ≡ known old other
  known_beside other beside =
      receives.known_is other ∙ cond-false (other == position) (Some word) (known old other) (ne_eqb other position beside)

  none_here : (other : ℕ) → other ≡ position → known old other ≡ None
  none_here other here = ap (known old) here ∙ receives.was_none

module _
    (old : Contents) (state : State) (position : ℕ) (word : Word) (receives : Receives old.state state position word)
    (bare : AreBareKept old) where
  bare_after : (p : ℕ) → IsSome (get old.state.kept p) → IsSome (get state.kept p)
  bare_after p some = subst (λ (o : Option Word). IsSome o) (sym (ap (λ (m : Words). get m p) receives.leaves.kept_is)) some

  -- The desk afterwards, whatever is solved then, and whatever the epoch.
  abbrev after_it : Words → ℕ → Contents
  after_it others epoch = record old { state = state; solved = others; epoch = epoch }

  is_next_after :
      (others : Words) (epoch : ℕ) → old.epoch ≤ epoch → epoch ≤ old.epoch + 1
      → (epoch ≡ old.epoch → (q : ℕ) (other : Word) → known_in old q ≡ Some other → known_in (after_it others epoch) q ≡ Some other)
      → AreSolved (after_it others epoch) → IsNext old (after_it others epoch)
  is_next_after others epoch rises one_more words solved =
      let m = receives.leaves.mark_is in
      let a = receives.leaves.admitted_is in
      record {
        mark = omega (arith, m);
        admitted = omega (arith, a);
        epoch = rises;
        one_more = one_more;
        words = λ same q other _ is. words same q other is;
        lives = λ serial live _ is. receives.leaves.still_live serial live is;
        solved = solved;
        bare = λ p is. bare_after p (bare p is);
      }

  -- All that was solved is withdrawn.
  is_next_withdrawn : IsNext old (after_it empty (old.epoch + 1))
  is_next_withdrawn =
      is_next_after empty (old.epoch + 1) (omega arith) (omega arith) (λ same. absurd (omega (arith, same)))
      (nothing_solved (after_it empty (old.epoch + 1)) (λ q. in_empty q))

  -- The position is received and no more solved.
  module _
      (solved : AreSolved old)
      (agrees : (other : Word) → get old.solved position ≡ Some other → other ≡ word) where
    abbrev after : Contents
    after = record old { state = state; solved = remove old.solved position }

    -- A word that was known at the position is the received one.
    was_the_word : (q : ℕ) (other : Word) → q ≡ position → known_in old q ≡ Some other → other ≡ word
    was_the_word q other here is =
        agrees other (sym (ap (get old.solved) here) ∙ sym (solved_second old q (none_here old.state state position word receives q here)) ∙ is)

    keeps : Keeps (known old.state) (known state)
    keeps q other is = ⊎_elim
        (λ here. absurd (none-some other (sym (none_here old.state state position word receives q here) ∙ is)))
        (λ beside. known_beside old.state state position word receives q beside ∙ is)
        (cases_eq q position)

    agrees_with_end : Agree (known state) (known_in old)
    agrees_with_end q first second is is' = ⊎_elim
        (λ here.
        same_Some first word (sym is ∙ known_here old.state state position word receives q here)
        ∙ sym (was_the_word q second here is'))
        (λ beside.
        same_Some first second
        (sym (known_first old q first (sym (known_beside old.state state position word receives q beside) ∙ is)) ∙ is'))
        (cases_eq q position)

    -- What is known is what was known, and the received word.
    known_after : (q : ℕ) → known_in after q ≡ option_or (known state q) (known_in old q)
    known_after q = ⊎_elim
        (λ here.
        let is = known_here old.state state position word receives q here in
        or_first (known state q) (get (remove old.solved position) q) word is ∙ sym (or_first (known state q) (known_in old q) word is))
        (λ beside.
        let same = known_beside old.state state position word receives q beside in
        ap (option_or (known state q)) (beside_removed old.solved position q beside)
        ∙ ap (λ (o : Option Word). option_or o (get old.solved q)) same
        ∙ or_twice (known old.state q) (get old.solved q)
        ∙ sym (ap (λ (o : Option Word). option_or o (known_in old q)) same))
        (cases_eq q position)

    solved_after : PeelingsTakeWords → live_equations state ≡ live_equations old.state → AreSolved after
    solved_after take_words lives_are =
        let steps = solved.peeled.0 in
        let end : known_in old ≡ end_of (known old.state) steps = solved.peeled.2 in
        let rest : List Step = filter (λ (step : Step). is_none (known state step.position)) steps in
        let taken = take_words (known old.state) (known state) (live_equations old.state) steps solved.peeled.1 keeps
        (subst (λ (f : ℕ → Option Word). Agree (known state) f) end agrees_with_end) in
        record {
          peeled = (
            rest,
            subst (λ (es : List Equation). IsPeeling (known state) es rest) (sym lives_are) taken.0,
            same_functions (known_in after) (end_of (known state) rest)
                (λ q. known_after q ∙ ap (λ (f : ℕ → Option Word). option_or (known state q) (f q)) end ∙ sym (taken.1 q)),
          );
          beside = λ q some. ⊎_elim
              (λ here. absurd (none_has_no_value (get (remove old.solved position) q) (removed old.solved position q here) some))
              (λ beside.
              known_beside old.state state position word receives q beside
              ∙ solved.beside q (subst (λ (o : Option Word). IsSome o) (beside_removed old.solved position q beside) some))
              (cases_eq q position);
        }

    words_after : (q : ℕ) (other : Word) → known_in old q ≡ Some other → known_in after q ≡ Some other
    words_after q other is = ⊎_elim
        (λ here.
        known_first after q word (known_here old.state state position word receives q here)
        ∙ ap Some (sym (was_the_word q other here is)))
        (λ beside.
        let same = known_beside old.state state position word receives q beside in
        ap (option_or (known state q)) (beside_removed old.solved position q beside)
        ∙ ap (λ (o : Option Word). option_or o (get old.solved q)) same ∙ is)
        (cases_eq q position)

    is_next_agreed : AreSolved after → IsNext old after
    is_next_agreed solved' =
        is_next_after (remove old.solved position) old.epoch (omega arith) (omega arith) (λ _ q other is. words_after q other is)
        solved'

-- On a desk that is flushed nothing is solved, since no peeling of it has a step.
module _ (nothing_is_peeled : NothingIsPeeled) (old : Contents) (holds : Holds old.state) (flushed : ¬ HasMore old.state) where
  none_is_solved : AreSolved old → (q : ℕ) → get old.solved q ≡ None
  none_is_solved solved q = ⊎_elim
      (λ none. none)
      (λ some.
      let nothing = nothing_is_peeled old.state solved.peeled.0 holds flushed solved.peeled.1 in
      let same : known_in old ≡ known old.state = solved.peeled.2 ∙ ap (λ (steps : List Step). end_of (known old.state) steps) nothing in
      let none = solved.beside q (has_value (get old.solved q) some.0 some.1) in
      absurd (none-some some.0 (sym none ∙ sym (ap (λ (f : ℕ → Option Word). f q) same) ∙ solved_second old q none ∙ some.1)))
      (none_or_some (get old.solved q))

-- Nothing is solved after one word less either.
none_removed :
    (solved : Words) (position : ℕ) → ((q : ℕ) → get solved q ≡ None) → (q : ℕ) → get (remove solved position) q ≡ None
none_removed solved position none q = ⊎_elim
    (λ here. removed solved position q here)
    (λ beside. beside_removed solved position q beside ∙ none q)
    (cases_eq q position)

module _
    (laws : CallLaws) (old new : Contents) (seq ssrc : ℕ) (word : Word) (holds : Holds old.state)
    (flushed : IsFresh old.state ssrc → ¬ HasMore old.state) (solved : AreSolved old) (bare : AreBareKept old) where
  module _ (admits : AdmitsMedia old.state seq ssrc word Admitted new.state) where
    -- What is known after a word is admitted at a position.
    receives : (position : ℕ) → position_on old.state seq ssrc ≡ Some position → Receives old.state new.state position word
    receives position at =
        let adds = laws.media_adds old.state new.state seq ssrc word holds flushed admits in
        let same : adds.0 ≡ position = same_Some adds.0 position (sym adds.1 ∙ at) in
        record {
          leaves = media_leaves old.state new.state seq ssrc word admits.after;
          was_none = subst (λ (p : ℕ). known old.state p ≡ None) same adds.3;
          known_is = subst
              (λ (p : ℕ). (other : ℕ) → known new.state other ≡ cond (other == p) (Some word) (known old.state other)) same adds.4;
        }

    -- Where a run begins, nothing was solved. Else the equations stay, and what was solved is a peeling still.
    still_solved :
        (position : ℕ) → Receives old.state new.state position word
        → ((other : Word) → get old.solved position ≡ Some other → other ≡ word)
        → AreSolved (record old { state = new.state; solved = remove old.solved position })
    still_solved position r agrees = ⊎_elim
        (λ fresh.
        nothing_solved (record old { state = new.state; solved = remove old.solved position })
        (none_removed old.solved position (none_is_solved laws.nothing_is_peeled old holds (flushed fresh) solved)))
        (λ stale.
        let adds = laws.media_adds old.state new.state seq ssrc word holds flushed admits in
        solved_after old new.state position word r bare solved agrees laws.take_words (adds.6 stale))
        (laws.fresh_is_decided old.state ssrc)

    admitted_is_next : IsAfterArrival old seq ssrc word Admitted new → IsNext old new
    admitted_is_next after =
        let a = some_and (position_on old.state seq ssrc) (λ (p : ℕ). GivesWay old p word new) after in
        let r = receives a.0 a.1 in
        ⊎_elim
        (λ contradicted.
        subst (λ (d : Contents). IsNext old d) (sym (a.2.withdrawn contradicted)) (is_next_withdrawn old new.state a.0 word r bare))
        (λ agrees.
        subst (λ (d : Contents). IsNext old d) (sym (a.2.agreed (not_contradicted old a.0 word agrees)))
        (is_next_agreed old new.state a.0 word r bare solved agrees (still_solved a.0 r agrees)))
        (contradicted_or_not old a.0 word)

  pub media_is_next :
      (reply : Reply) → AdmitsMedia old.state seq ssrc word reply new.state → IsAfterArrival old seq ssrc word reply new
      → IsNext old new
  media_is_next reply admits after = go reply admits.reply_is admits.after after
    where
      go : (reply : Reply) → IsMediaReply old.state seq ssrc word reply → IsAfterMedia old.state seq ssrc word reply new.state
          → IsAfterArrival old seq ssrc word reply new → IsNext old new
      go Admitted is state_is after = admitted_is_next (record { reply_is = is; after = state_is }) after
      go other is state_is after = is_next_counted old new solved bare after state_is
