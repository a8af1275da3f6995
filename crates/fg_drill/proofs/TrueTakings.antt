-- True datagrams leave a true desk, and the plays before them are true.
use Rattle.std.proofs.Common.{◌≡◌, ◌≢◌, ◌+◌, ◌-◌, ◌<◌, ◌≤◌, ◌==◌, ℕ, min, cond, ltb, List, [], ◌∷◌, Option, Some, None, IsSomeAnd, MatchOption, refl, sym, ap, subst, ◌∙◌, ⊎_elim, arith, ne_eqb, eq-eqb, le-ltb, lt-ltb}
use Rattle.std.specs.Option.{option_map}
use Rattle.std.proofs.lemmas.Bool.{cases_lt, cases_eq, cond-true, cond-false}
use Rattle.std.proofs.lemmas.Option.{none-some, same_Some}
use Rattle.std.proofs.lemmas.List.Elements.{All-nil, All-cons, All-append}
use Rattle.std.specs.List.{All, Contains}
use Rattle.std.specs.FinMap.{get}
use Rattle.fg_words.specs.declared.Word.{Word}
use Rattle.fg_peel.specs.Equation.{Equation, AreMedia, IsSettled}
use Rattle.fg_peel.specs.Laws.{TruthIsSolvable, SolutionsAreTrue}
use Rattle.fg_playout.specs.declared.reply.Reply.{Reply}
use Rattle.fg_playout.specs.declared.reply.Reply.TheVariants.{Admitted, Duplicate, Conflict, Late, NotStarted, BeforeStart, Ahead, Crowded, Foreign}
use Rattle.fg_shape.specs.declared.kind.Kind.{Kind}
use Rattle.fg_playout.specs.State.{State, Top, known}
use Rattle.fg_playout.specs.Admission.{Parity, Sender, former, own, another, is_number, sender_beside, sender_of, IsDue, IsFresh, IsReplyAt, IsReplyBy, IsMediaReply, IsTakenBy, IsLeastFree, AdmitsMedia, AdmitsParity, position_by, position_on, not_before, base_on, farther, counted, with_media, with_equation, equation_at}
use Rattle.fg_playout.specs.Play.{Play, IsPlay}
use Rattle.fg_playout.specs.Held.{at_time, IsHeldPlay}
use Rattle.fg_playout.specs.Run.{Arrival, carries, protects, refused, time_of, AreHeldPlays, ArePlaysHeld, unlimited, limited, ArePlaysDue, ArePlaysBefore, by_flush, by_due, TakesThen, Takes}
use Rattle.fg_playout.specs.Facts.{Holds}
use Rattle.fg_playout.specs.Laws.{LiveStandUnderSerials, SolutionsArePeelings, MediaAdds, ParityAdds, FactsAreKept}
use Rattle.fg_drill.specs.True.{number_of, IsTrueParity, IsTrueArrival, ComesInTurn, last_after}
use Rattle.fg_drill.proofs.TrueNumbers.{position_is}
use Rattle.fg_peel.proofs.Options.{none_or_some, some_and}
use Rattle.fg_playout.proofs.Orderly.{known_ahead}
use Rattle.fg_playout.proofs.Held.{at_time_holds, held_is_received}
use Rattle.fg_drill.proofs.TrueDesks.{IsTrueWindow, IsTruePlay, play_is_true, received_before, true_after_play}

-- The slot after the last media datagram.
abbrev pub next_slot : Option ℕ → ℕ
next_slot None = 0
next_slot (Some slot) = slot + 1

abbrev pub top_at : ℕ → ℕ → ℕ → Top
top_at seq ssrc slot = record { position = slot; seq = number_of seq slot; ssrc = ssrc }

-- The desk's top is the last media datagram, its run is the only one and began at position 0, nothing past the top is known,
-- and the mark is within a limit.
pub record IsTrueTop (seq ssrc : ℕ) (last : Option ℕ) (limit : ℕ) (desk : State) : Type 0 where
  pub top : desk.top ≡ option_map (top_at seq ssrc) last
  pub previous : desk.previous ≡ None
  pub origin : desk.origin ≡ 0
  pub mark : desk.mark ≤ limit
  pub unknown : (position : ℕ) → next_slot last ≤ position → desk.mark ≤ position → known desk position ≡ None

-- A slot whose number is read as the slot.
abbrev pub InReach : Option ℕ → ℕ → Type 0
InReach None slot = slot ≡ 0
InReach (Some before) slot = (before ≤ slot + 32768) × (slot ≤ before + 32767)

pub media_reaches :
    (last : Option ℕ) (slot time number source : ℕ) (word : Word) → ComesInTurn last slot (carries time number source word)
    → InReach last slot
media_reaches None slot time number source word turn = turn
media_reaches (Some before) slot time number source word turn = (omega (arith, turn.0), omega (arith, turn.1))

pub media_is_next :
    (last : Option ℕ) (slot time number source : ℕ) (word : Word) → ComesInTurn last slot (carries time number source word)
    → next_slot last ≤ slot
media_is_next None slot time number source word turn = omega arith
media_is_next (Some before) slot time number source word turn = omega (arith, turn.0)

-- Whose a media datagram of the one sender is: before the first one another's, and then the run's own.
abbrev sender_at : ℕ → ℕ → Option ℕ → Sender
sender_at seq ssrc None = another
sender_at seq ssrc (Some slot) = own (top_at seq ssrc slot)

sender_beside_at :
    (seq ssrc : ℕ) (last : Option ℕ) → sender_beside (option_map (top_at seq ssrc) last) ssrc ≡ sender_at seq ssrc last
sender_beside_at seq ssrc None = refl
sender_beside_at seq ssrc (Some slot) = cond-true (ssrc == ssrc) (own (top_at seq ssrc slot)) another (eq-eqb ssrc ssrc refl)

none_is_other : (seq ssrc : ℕ) (last : Option ℕ) → IsSomeAnd (option_map (top_at seq ssrc) last) (λ top. top.ssrc ≢ ssrc) → ⊥
none_is_other seq ssrc None other = other
none_is_other seq ssrc (Some slot) other = other refl

position_by_sender :
    (desk : State) (seq ssrc slot : ℕ) (last : Option ℕ) → InReach last slot → desk.mark ≤ slot
    → position_by desk (number_of seq slot) (sender_at seq ssrc last) ≡ Some slot
position_by_sender desk seq ssrc slot None reach ahead = ap Some (omega (arith, reach, ahead))
position_by_sender desk seq ssrc slot (Some before) reach ahead = position_is seq before slot reach.0 reach.1

-- The desk with the top that the last media datagram gives.
abbrev topped : State → ℕ → ℕ → Option ℕ → State
topped desk seq ssrc last = record desk { top = option_map (top_at seq ssrc) last }

topped_due :
    (desk : State) (seq ssrc slot : ℕ) (last : Option ℕ) → InReach last slot
    → IsDue (topped desk seq ssrc last) (number_of seq slot) ssrc → desk.mark + desk.playout.depth ≤ slot
topped_due desk seq ssrc slot None reach due = absurd due
topped_due desk seq ssrc slot (Some before) reach due =
    subst (λ (o : Option ℕ). IsSomeAnd o (λ position. desk.mark + desk.playout.depth ≤ position))
    (position_is seq before slot reach.0 reach.1) due.1

topped_base :
    (desk : State) (seq ssrc slot : ℕ) (last : Option ℕ) (before : ℕ) → last ≡ Some before → InReach last slot
    → base_on (record (topped desk seq ssrc last) { origin = 0 }) (number_of seq slot) ≡ Some slot
topped_base desk seq ssrc slot None before is reach = absurd (none-some before is)
topped_base desk seq ssrc slot (Some other) before is reach =
    ap (λ (o : Option ℕ). not_before 0 o) (position_is seq other slot reach.0 reach.1)
    ∙ cond-false (ltb slot 0) None (Some slot) (le-ltb slot 0 (omega arith))

admitted_at :
    (desk : State) (slot : ℕ) (word : Word) (reply : Reply) → desk.mark ≤ slot → get desk.media slot ≡ None
    → IsReplyAt desk slot word reply → reply ≡ Admitted
admitted_at desk slot word Admitted ahead none is = refl
admitted_at desk slot word Duplicate ahead none is = absurd (none-some word (sym none ∙ is.1))
admitted_at desk slot word Conflict ahead none is =
    let other = some_and (get desk.media slot) (λ other. other ≢ word) is.1 in
    absurd (none-some other.0 (sym none ∙ other.1))
admitted_at desk slot word Late ahead none is = absurd (omega (arith, ahead, is))
admitted_at desk slot word NotStarted ahead none is = absurd is
admitted_at desk slot word BeforeStart ahead none is = absurd is
admitted_at desk slot word Ahead ahead none is = absurd is
admitted_at desk slot word Crowded ahead none is = absurd is
admitted_at desk slot word Foreign ahead none is = absurd is

reply_by_sender :
    (desk : State) (seq ssrc slot : ℕ) (word : Word) (reply : Reply) (last : Option ℕ) → InReach last slot → desk.mark ≤ slot
    → get desk.media slot ≡ None → IsReplyBy desk (number_of seq slot) word reply (sender_at seq ssrc last)
    → reply ≡ Admitted
reply_by_sender desk seq ssrc slot word reply None reach ahead none is = is
reply_by_sender desk seq ssrc slot word reply (Some before) reach ahead none is =
    admitted_at desk slot word reply ahead none
    (subst (λ (o : Option ℕ). MatchOption o (reply ≡ Late) (λ position. IsReplyAt desk position word reply))
    (position_is seq before slot reach.0 reach.1) is)

module _ (seq ssrc : ℕ) (last : Option ℕ) (limit : ℕ) (desk : State) (is : IsTrueTop seq ssrc last limit desk) where
  sender_is : sender_of desk ssrc ≡ sender_at seq ssrc last
  sender_is =
      ap (λ (o : Option ℕ). cond (is_number o ssrc) former (sender_beside desk.top ssrc)) is.previous
      ∙ ap (λ (t : Option Top). sender_beside t ssrc) is.top
      ∙ sender_beside_at seq ssrc last

  -- Its SSRC is never fresh.
  pub none_is_fresh : ¬ IsFresh desk ssrc
  none_is_fresh fresh =
      none_is_other seq ssrc last (subst (λ (t : Option Top). IsSomeAnd t (λ top. top.ssrc ≢ ssrc)) is.top fresh.0)

  -- So plays are made only where they are due.
  pub plays_are_due :
      (number : ℕ) (plays : List Play) (new : State) → ArePlaysBefore desk number ssrc plays new
      → ArePlaysDue desk number ssrc plays new
  plays_are_due number plays new (by_flush empty fresh flush counts) = absurd (none_is_fresh fresh)
  plays_are_due number plays new (by_due stale due) = due

  pub position_is_slot :
      (slot : ℕ) → InReach last slot → desk.mark ≤ slot → position_on desk (number_of seq slot) ssrc ≡ Some slot
  position_is_slot slot reach ahead =
      ap (position_by desk (number_of seq slot)) sender_is ∙ position_by_sender desk seq ssrc slot last reach ahead

  pub due_is_far : (slot : ℕ) → InReach last slot → IsDue desk (number_of seq slot) ssrc → desk.mark + desk.playout.depth ≤ slot
  due_is_far slot reach due =
      topped_due desk seq ssrc slot last reach
      (subst (λ (t : Option Top). IsDue (record desk { top = t }) (number_of seq slot) ssrc) is.top due)

  pub base_is_slot : (slot before : ℕ) → last ≡ Some before → InReach last slot → base_on desk (number_of seq slot) ≡ Some slot
  base_is_slot slot before some reach =
      ap (λ (t : Option Top). base_on (record desk { top = t }) (number_of seq slot)) is.top
      ∙ ap (λ (n : ℕ). base_on (record (topped desk seq ssrc last) { origin = n }) (number_of seq slot)) is.origin
      ∙ topped_base desk seq ssrc slot last before some reach

  pub media_is_admitted :
      (slot : ℕ) (word : Word) (reply : Reply) → InReach last slot → desk.mark ≤ slot → next_slot last ≤ slot
      → IsMediaReply desk (number_of seq slot) ssrc word reply → reply ≡ Admitted
  media_is_admitted slot word reply reach ahead next reply_is =
      reply_by_sender desk seq ssrc slot word reply last reach ahead
      (sym (known_ahead desk slot ahead) ∙ is.unknown slot next ahead)
      (subst (IsReplyBy desk (number_of seq slot) word reply) sender_is reply_is)

-- What a media datagram of the one sender leaves: it is the top, and there is no run but that which began at position 0.
pub record IsTopped (seq ssrc slot : ℕ) (old new : State) : Type 0 where
  pub top : new.top ≡ Some (top_at seq ssrc slot)
  pub previous : new.previous ≡ None
  pub origin : new.origin ≡ 0
  pub mark : new.mark ≡ old.mark

topped_by_sender :
    (old new : State) (seq ssrc slot : ℕ) (word : Word) (last : Option ℕ) → InReach last slot → old.mark ≤ slot
    → next_slot last ≤ slot → old.top ≡ option_map (top_at seq ssrc) last → old.previous ≡ None → old.origin ≡ 0
    → IsTakenBy old (number_of seq slot) ssrc word new (sender_at seq ssrc last) → IsTopped seq ssrc slot old new
topped_by_sender old new seq ssrc slot word None reach ahead next top previous origin taken =
    let at : old.mark ≡ slot = omega (arith, reach, ahead) in
    let top_from : ℕ → Option Top = λ position. Some (record { position = position; seq = number_of seq slot; ssrc = ssrc }) in
    record {
      top = ap (λ (s : State). s.top) taken ∙ ap top_from at;
      previous = ap (λ (s : State). s.previous) taken ∙ ap (option_map (λ (t : Top). t.ssrc)) top;
      origin = ap (λ (s : State). s.origin) taken ∙ at ∙ reach;
      mark = ap (λ (s : State). s.mark) taken;
    }
topped_by_sender old new seq ssrc slot word (Some before) reach ahead next top previous origin taken =
    let after : new ≡ with_media old (number_of seq slot) ssrc slot word =
    subst (λ (o : Option ℕ). IsSomeAnd o (λ p. new ≡ with_media old (number_of seq slot) ssrc p word))
    (position_is seq before slot reach.0 reach.1) taken in
    record {
      top = ap (λ (s : State). s.top) after
          ∙ ap (λ (t : Option Top). farther t (top_at seq ssrc slot)) top
          ∙ cond-true (ltb before slot) (Some (top_at seq ssrc slot)) (Some (top_at seq ssrc before))
          (lt-ltb before slot (omega (arith, next)));
      previous = ap (λ (s : State). s.previous) after ∙ previous;
      origin = ap (λ (s : State). s.origin) after ∙ origin;
      mark = ap (λ (s : State). s.mark) after;
    }

pub media_tops :
    (old new : State) (seq ssrc slot limit : ℕ) (last : Option ℕ) (word : Word) → IsTrueTop seq ssrc last limit old
    → InReach last slot → old.mark ≤ slot → next_slot last ≤ slot
    → AdmitsMedia old (number_of seq slot) ssrc word Admitted new → IsTopped seq ssrc slot old new
media_tops old new seq ssrc slot limit last word is reach ahead next admits =
    topped_by_sender old new seq ssrc slot word last reach ahead next is.top is.previous is.origin
    (subst (IsTakenBy old (number_of seq slot) ssrc word new) (sender_is seq ssrc last limit old is) admits.after)

module _ (truth : ℕ → Option Word) (seq ssrc : ℕ) where
  media_leaves_truth :
      (old new : State) (slot limit : ℕ) (last : Option ℕ) (word : Word) → MediaAdds → Holds old → IsTrueWindow truth old
      → IsTrueTop seq ssrc last limit old → position_on old (number_of seq slot) ssrc ≡ Some slot → truth slot ≡ Some word
      → AdmitsMedia old (number_of seq slot) ssrc word Admitted new → IsTrueWindow truth new
  media_leaves_truth old new slot limit last word adds holds is top at true_word admits =
      let stale = none_is_fresh seq ssrc last limit old top in
      let m = adds old new (number_of seq slot) ssrc word holds (λ fresh. absurd (stale fresh)) admits in
      let same : m.0 ≡ slot = same_Some m.0 slot (sym m.1 ∙ at) in
      record {
        known_true = λ p w is_known. ⊎_elim
            (λ here.
            let e : Some word ≡ Some w =
            sym (cond-true (p == m.0) (Some word) (known old p) (eq-eqb p m.0 here)) ∙ sym (m.4 p) ∙ is_known in
            ap truth (here ∙ same) ∙ true_word ∙ e)
            (λ beside. is.known_true p w
            (sym (cond-false (p == m.0) (Some word) (known old p) (ne_eqb p m.0 beside)) ∙ sym (m.4 p) ∙ is_known))
            (cases_eq p m.0);
        settled = λ e listed. is.settled e (subst (λ (es : List Equation). Contains es e) (m.6 stale) listed);
      }

  media_leaves_top :
      (old new : State) (slot limit : ℕ) (last : Option ℕ) (word : Word) → MediaAdds → Holds old
      → IsTrueTop seq ssrc last limit old → InReach last slot → old.mark ≤ slot → next_slot last ≤ slot
      → position_on old (number_of seq slot) ssrc ≡ Some slot
      → AdmitsMedia old (number_of seq slot) ssrc word Admitted new → IsTrueTop seq ssrc (Some slot) (slot + 1) new
  media_leaves_top old new slot limit last word adds holds top reach ahead next at admits =
      let stale = none_is_fresh seq ssrc last limit old top in
      let m = adds old new (number_of seq slot) ssrc word holds (λ fresh. absurd (stale fresh)) admits in
      let same : m.0 ≡ slot = same_Some m.0 slot (sym m.1 ∙ at) in
      let after = media_tops old new seq ssrc slot limit last word top reach ahead next admits in
      let mark : new.mark ≡ old.mark = after.mark in
      record {
        top = after.top;
        previous = after.previous;
        origin = after.origin;
        mark = omega (arith, mark, ahead);
        unknown = λ p past beyond.
            m.4 p
            ∙ cond-false (p == m.0) (Some word) (known old p) (ne_eqb p m.0 (λ here. omega (arith, here, same, past)))
            ∙ top.unknown p (omega (arith, next, past)) (omega (arith, mark, beyond));
      }

  -- A parity datagram comes after a media datagram.
  some_before :
      (slot time : ℕ) (last : Option ℕ) (stream : Kind) (parity : Parity) → ComesInTurn last slot (protects time stream parity)
      → (before : ℕ) × (last ≡ Some before)
  some_before slot time None stream parity turn = absurd turn
  some_before slot time (Some before) stream parity turn = (before, refl)

  pub parity_reaches :
      (slot time : ℕ) (last : Option ℕ) (stream : Kind) (parity : Parity) (is : IsTrueParity seq truth slot parity)
      → ComesInTurn last slot (protects time stream parity) → InReach last is.base
  parity_reaches slot time None stream parity is turn = absurd turn
  parity_reaches slot time (Some before) stream parity is turn =
      let ends = is.ends in
      let span = is.shape.span in
      (omega (arith, ends, span, turn.0), omega (arith, ends, span, turn.1))

  -- A parity datagram changes nothing of what is known, nor the top.
  parity_leaves_top :
      (old new : State) (limit : ℕ) (last : Option ℕ) → IsTrueTop seq ssrc last limit old → new.top ≡ old.top
      → new.previous ≡ old.previous → new.origin ≡ old.origin → new.mark ≡ old.mark → known new ≡ known old
      → IsTrueTop seq ssrc last limit new
  parity_leaves_top old new limit last top same_top same_previous same_origin same_mark same_known =
      let mark = top.mark in
      record {
        top = same_top ∙ top.top;
        previous = same_previous ∙ top.previous;
        origin = same_origin ∙ top.origin;
        mark = omega (arith, mark, same_mark);
        unknown = λ p past beyond.
            ap (λ (f : ℕ → Option Word). f p) same_known ∙ top.unknown p past (omega (arith, same_mark, beyond));
      }

  -- What is true of the desk after a datagram.
  pub record LeavesTruth (last : Option ℕ) (desk : State) : Type 0 where
    pub window : IsTrueWindow truth desk
    pub top : IsTrueTop seq ssrc last (next_slot last) desk

  -- A time that is told changes nothing of it, and nor does a call.
  told_leaves_truth : (old : State) (time : ℕ) (last : Option ℕ) → LeavesTruth last old → LeavesTruth last (at_time old time)
  told_leaves_truth old time last is = record {
    window = record { known_true = is.window.known_true; settled = is.window.settled };
    top = parity_leaves_top old (at_time old time) (next_slot last) last is.top refl refl refl refl refl;
  }

  counted_leaves_truth : (old new : State) (last : Option ℕ) → LeavesTruth last old → new ≡ counted old → LeavesTruth last new
  counted_leaves_truth old new last is same =
      subst (LeavesTruth last) (sym same)
      (record {
        window = record { known_true = is.window.known_true; settled = is.window.settled };
        top = parity_leaves_top old (counted old) (next_slot last) last is.top refl refl refl refl refl;
      })

  parity_leaves_truth :
      (old new : State) (slot time : ℕ) (last : Option ℕ) (stream : Kind) (parity : Parity) (reply : Reply) → ParityAdds
      → Holds old → LeavesTruth last old → IsTrueParity seq truth slot parity
      → ComesInTurn last slot (protects time stream parity) → AdmitsParity old parity reply new → LeavesTruth last new
  parity_leaves_truth old new slot time last stream parity Admitted adds holds is true_parity turn admits =
      let a = adds old new parity holds admits in
      let before = some_before slot time last stream parity turn in
      let at : base_on old parity.base ≡ Some true_parity.base =
      ap (base_on old) true_parity.base_is
      ∙ base_is_slot seq ssrc last (next_slot last) old is.top true_parity.base before.0 before.1
      (parity_reaches slot time last stream parity true_parity turn) in
      let same : a.0 ≡ true_parity.base = same_Some a.0 true_parity.base (sym a.1 ∙ at) in
      let after = some_and (base_on old parity.base)
      (λ position. (place : ℕ) × IsLeastFree old.equations place × (new ≡ with_equation old place (equation_at position parity)))
      admits.after in
      let desk = after.2.2 in
      record {
        window = record {
          known_true = λ p w is_known. is.window.known_true p w (sym (ap (λ (f : ℕ → Option Word). f p) a.3) ∙ is_known);
          settled = λ e listed. ⊎_elim
              (λ before. is.window.settled e before)
              (λ here. subst (IsSettled truth) (ap (λ (p : ℕ). equation_at p parity) (sym same) ∙ sym here) true_parity.settled)
              ((a.2 e).0 listed);
        };
        top = parity_leaves_top old new (next_slot last) last is.top (ap (λ (s : State). s.top) desk)
            (ap (λ (s : State). s.previous) desk) (ap (λ (s : State). s.origin) desk) (ap (λ (s : State). s.mark) desk) a.3;
      }
  parity_leaves_truth old new slot time last stream parity reply adds holds is true_parity turn admits =
      counted_leaves_truth old new last is admits.after

-- Where a play is due there is a top.
pub due_has_top : (desk : State) (number source : ℕ) → IsDue desk number source → desk.top ≢ None
due_has_top desk number source due none =
    subst (λ (t : Option Top). IsDue (record desk { top = t }) number source) none due

-- What is true after the plays that are due before the media datagram of a slot.
pub record ArePlayedTrue
    (seq ssrc : ℕ) (truth : ℕ → Option Word) (last : Option ℕ) (slot : ℕ) (plays : List Play) (desk : State) : Type 0 where
  pub made : All (IsTruePlay truth) plays
  pub holds : Holds desk
  pub window : IsTrueWindow truth desk
  pub top : IsTrueTop seq ssrc last slot desk

module _
    (stand : LiveStandUnderSerials) (peelings : SolutionsArePeelings) (solvable : TruthIsSolvable) (found : SolutionsAreTrue)
    (keeps : FactsAreKept) (media_adds : MediaAdds) (parity_adds : ParityAdds) (truth : ℕ → Option Word)
    (media : AreMedia truth) (seq ssrc : ℕ) where
  pub play_leaves_top :
      (last : Option ℕ) (slot : ℕ) (old : State) (play : Play) (new : State) → Holds old → IsTrueWindow truth old
      → IsTrueTop seq ssrc last slot old → InReach last slot → IsDue old (number_of seq slot) ssrc
      → IsPlay old.playout.window old play new → IsTrueTop seq ssrc last slot new
  play_leaves_top last slot old play new holds is top reach due plays =
      let far = due_is_far seq ssrc last slot old top slot reach due in
      let mark = plays.mark in
      let depth = holds.depth in
      record {
        top = ap (λ (s : State). s.top) plays.rest ∙ top.top;
        previous = ap (λ (s : State). s.previous) plays.rest ∙ top.previous;
        origin = ap (λ (s : State). s.origin) plays.rest ∙ top.origin;
        mark = omega (arith, far, mark, depth);
        unknown = λ p past beyond. ⊎_elim
            (λ none. none)
            (λ some. absurd (none-some some.0
            (sym (top.unknown p past (omega (arith, mark, beyond)))
            ∙ received_before stand peelings solvable found truth media old.playout.window old play new holds is plays p some.0 beyond some.1)))
            (none_or_some (known new p));
      }

  pub due_plays_are_true :
      (last : Option ℕ) (slot : ℕ) (old : State) (plays : List Play) (new : State)
      → Holds old → IsTrueWindow truth old → IsTrueTop seq ssrc last slot old
      → InReach last slot → ArePlaysDue old (number_of seq slot) ssrc plays new
      → ArePlayedTrue seq ssrc truth last slot plays new
  due_plays_are_true last slot old [] new holds is top reach due =
      subst (ArePlayedTrue seq ssrc truth last slot []) (sym due.1)
      (record { made = All-nil (IsTruePlay truth); holds = holds; window = is; top = top })
  due_plays_are_true last slot old (play ∷ plays) new holds is top reach due =
      let next = due.1.0 in
      let rest : ArePlayedTrue seq ssrc truth last slot plays new =
      due_plays_are_true last slot next plays new
      (keeps.play old.playout.window old next play holds (due_has_top old (number_of seq slot) ssrc due.0) due.1.1)
      (true_after_play stand peelings solvable found truth media old.playout.window old play next holds is due.1.1)
      (play_leaves_top last slot old play next holds is top reach due.0 due.1.1) reach due.1.2 in
      record {
        made = All-cons (IsTruePlay truth) play plays
            (play_is_true stand peelings solvable found truth media old.playout.window old play next holds is due.1.1) rest.made;
        holds = rest.holds;
        window = rest.window;
        top = rest.top;
      }

  -- What is true after the plays before a media datagram: these are those that are due.
  pub plays_before_are_true :
      (last : Option ℕ) (slot : ℕ) (old : State) (plays : List Play) (ready : State)
      → Holds old → LeavesTruth truth seq ssrc last old → InReach last slot
      → next_slot last ≤ slot → ArePlaysBefore old (number_of seq slot) ssrc plays ready
      → ArePlayedTrue seq ssrc truth last slot plays ready
  plays_before_are_true last slot old plays ready holds is reach next before =
      let mark = is.top.mark in
      due_plays_are_true last slot old plays ready holds is.window
      (record {
        top = is.top.top;
        previous = is.top.previous;
        origin = is.top.origin;
        mark = omega (arith, mark, next);
        unknown = is.top.unknown;
      })
      reach (plays_are_due seq ssrc last (next_slot last) old is.top (number_of seq slot) plays ready before)

  -- A held play leaves the mark at the slot after the last media datagram, or before it: what is held was received.
  held_play_leaves_top :
      (last : Option ℕ) (old : State) (play : Play) (new : State) → Holds old → LeavesTruth truth seq ssrc last old
      → IsHeldPlay old play new → IsTrueTop seq ssrc last (next_slot last) new
  held_play_leaves_top last old play new holds is held =
      let count : ℕ = min old.playout.window (held.greatest + 1 - old.mark) in
      let ahead : old.mark ≤ held.greatest = held.greatest_is.inside.1 in
      let mark : new.mark ≡ old.mark + min old.playout.window (held.greatest + 1 - old.mark) = held.plays.mark in
      let some = held_is_received old held.greatest holds held.greatest_is.inside in
      let near : held.greatest < next_slot last = ⊎_elim
      (λ near. near)
      (λ past. absurd (some (sym (known_ahead old held.greatest ahead) ∙ is.top.unknown held.greatest past ahead)))
      (cases_lt held.greatest (next_slot last)) in
      record {
        top = ap (λ (s : State). s.top) held.plays.rest ∙ is.top.top;
        previous = ap (λ (s : State). s.previous) held.plays.rest ∙ is.top.previous;
        origin = ap (λ (s : State). s.origin) held.plays.rest ∙ is.top.origin;
        mark = omega (arith, mark, ahead, near);
        unknown = λ p past beyond. ⊎_elim
            (λ none. none)
            (λ some. absurd (none-some some.0
            (sym (is.top.unknown p past (omega (arith, mark, beyond)))
            ∙ received_before stand peelings solvable found truth media count old play new holds is.window held.plays p some.0
            beyond some.1)))
            (none_or_some (known new p));
      }

  -- What is true after held plays.
  pub record AreHeldTrue (last : Option ℕ) (plays : List Play) (desk : State) : Type 0 where
    pub made : All (IsTruePlay truth) plays
    pub holds : Holds desk
    pub leaves : LeavesTruth truth seq ssrc last desk

  steps_held_are_true :
      (last : Option ℕ) (old : State) (time : ℕ) (plays : List Play) (new : State) → Holds old
      → LeavesTruth truth seq ssrc last old → AreHeldPlays old time plays new → AreHeldTrue last plays new
  steps_held_are_true last old time [] new holds is steps = record {
    made = All-nil (IsTruePlay truth);
    holds = keeps.held old new time None holds steps;
    leaves = counted_leaves_truth truth seq ssrc (at_time old time) new last
        (told_leaves_truth truth seq ssrc old time last is) steps.1;
  }
  steps_held_are_true last old time (play ∷ plays) new holds is steps =
      let next = steps.0 in
      let held = steps.1 in
      let count : ℕ = min old.playout.window (held.greatest + 1 - old.mark) in
      let told = at_time_holds old time holds in
      let at = told_leaves_truth truth seq ssrc old time last is in
      let rest = steps_held_are_true last next time plays new (keeps.held old next time (Some play) holds held)
      (record {
        window = true_after_play stand peelings solvable found truth media count (at_time old time) play next told at.window
            held.plays;
        top = held_play_leaves_top last (at_time old time) play next told at held;
      })
      steps.2 in
      record {
        made = All-cons (IsTruePlay truth) play plays
            (play_is_true stand peelings solvable found truth media count (at_time old time) play next told at.window held.plays)
            rest.made;
        holds = rest.holds;
        leaves = rest.leaves;
      }

  pub held_are_true :
      (last : Option ℕ) (old : State) (time : ℕ) (plays : List Play) (new : State) → Holds old
      → LeavesTruth truth seq ssrc last old → ArePlaysHeld old time plays new → AreHeldTrue last plays new
  held_are_true last old time plays new holds is (unlimited none no_plays same) =
      subst (AreHeldTrue last plays) (sym same)
      (record { made = subst (All (IsTruePlay truth)) (sym no_plays) (All-nil (IsTruePlay truth)); holds = holds; leaves = is })
  held_are_true last old time plays new holds is (limited some steps) = steps_held_are_true last old time plays new holds is steps

  -- What one datagram leaves.
  pub record TakesTruly (last : Option ℕ) (plays : List Play) (new : State) : Type 0 where
    pub made : All (IsTruePlay truth) plays
    pub leaves : LeavesTruth truth seq ssrc last new

  media_is_taken_truly :
      (last : Option ℕ) (slot time : ℕ) (old : State) (word : Word) (plays : List Play) (reply : Reply) (ready new : State)
      → Holds old → LeavesTruth truth seq ssrc last old → truth slot ≡ Some word
      → ComesInTurn last slot (carries time (number_of seq slot) ssrc word)
      → ArePlaysBefore old (number_of seq slot) ssrc plays ready
      → AdmitsMedia ready (number_of seq slot) ssrc word reply new → TakesTruly (Some slot) plays new
  media_is_taken_truly last slot time old word plays reply ready new holds is true_word turn played admits =
      let reach = media_reaches last slot time (number_of seq slot) ssrc word turn in
      let next = media_is_next last slot time (number_of seq slot) ssrc word turn in
      let d = plays_before_are_true last slot old plays ready holds is reach next played in
      let same : reply ≡ Admitted =
      media_is_admitted seq ssrc last slot ready d.top slot word reply reach d.top.mark next admits.reply_is in
      let admitted : AdmitsMedia ready (number_of seq slot) ssrc word Admitted new =
      subst (λ (r : Reply). AdmitsMedia ready (number_of seq slot) ssrc word r new) same admits in
      let at = position_is_slot seq ssrc last slot ready d.top slot reach d.top.mark in
      record {
        made = d.made;
        leaves = record {
          window = media_leaves_truth truth seq ssrc ready new slot slot last word media_adds d.holds d.window d.top at true_word
              admitted;
          top = media_leaves_top truth seq ssrc ready new slot slot last word media_adds d.holds d.top reach d.top.mark next at
              admitted;
        };
      }

  then_is_taken_truly :
      (last : Option ℕ) (slot : ℕ) (old : State) (arrival : Arrival) (plays : List Play) (reply : Option Reply) (new : State)
      → Holds old → LeavesTruth truth seq ssrc last old
      → IsTrueArrival seq ssrc truth slot arrival → ComesInTurn last slot arrival → TakesThen old arrival plays reply new
      → TakesTruly (last_after last slot arrival) plays new
  then_is_taken_truly last slot old (carries time number source word) plays None new holds is true_word turn takes = absurd takes
  then_is_taken_truly last slot old (carries time number source word) plays (Some reply) new holds is true_word turn takes =
      media_is_taken_truly last slot time old word plays reply takes.0 new holds is true_word.2 turn
      (subst (λ (s : ℕ). ArePlaysBefore old (number_of seq slot) s plays takes.0) true_word.1
      (subst (λ (n : ℕ). ArePlaysBefore old n source plays takes.0) true_word.0 takes.1))
      (subst (λ (s : ℕ). AdmitsMedia takes.0 (number_of seq slot) s word reply new) true_word.1
      (subst (λ (n : ℕ). AdmitsMedia takes.0 n source word reply new) true_word.0 takes.2))
  then_is_taken_truly last slot old (protects time stream parity) plays None new holds is true_parity turn takes = absurd takes
  then_is_taken_truly last slot old (protects time stream parity) plays (Some reply) new holds is true_parity turn takes = record {
    made = subst (All (IsTruePlay truth)) (sym takes.0) (All-nil (IsTruePlay truth));
    leaves = parity_leaves_truth truth seq ssrc old new slot time last stream parity reply parity_adds holds is true_parity
        turn takes.1;
  }
  then_is_taken_truly last slot old (refused time stream) plays reply new holds is true_arrival turn takes = absurd turn

  -- First come the held plays.
  pub is_taken_truly :
      (last : Option ℕ) (slot : ℕ) (old : State) (arrival : Arrival) (plays : List Play) (reply : Option Reply) (new : State)
      → Holds old → LeavesTruth truth seq ssrc last old
      → IsTrueArrival seq ssrc truth slot arrival → ComesInTurn last slot arrival → Takes old arrival plays reply new
      → TakesTruly (last_after last slot arrival) plays new
  is_taken_truly last slot old arrival plays reply new holds is true_arrival turn takes =
      let held = held_are_true last old (time_of arrival) takes.held takes.ready holds is takes.holds in
      let rest = then_is_taken_truly last slot takes.ready arrival takes.after reply new held.holds held.leaves true_arrival turn
      takes.takes in
      record {
        made = subst (All (IsTruePlay truth)) (sym takes.plays_are)
            (All-append (IsTruePlay truth) takes.held takes.after held.made rest.made);
        leaves = rest.leaves;
      }
