-- The facts hold at first, and media datagrams keep them.
use Rattle.std.proofs.Common.{◌≡◌, ◌≢◌, ◌+◌, ◌<◌, ◌≤◌, ℕ, Bool, true, false, cond, ltb, Option, Some, None, MatchOption, option_map, is_some, refl, sym, ap, subst, ◌∙◌, ⊎_elim, arith}
use Rattle.std.proofs.lemmas.Bool.{cases_lt, cases_eq}
use Rattle.std.proofs.lemmas.Option.{none-some, same_Some}
use Rattle.std.specs.Ordering.{nat_cmp}
use Rattle.std.specs.FinMap.{get, get-empty}
use Rattle.fg_words.specs.declared.Word.{Word}
use Rattle.fg_words.specs.Word.{IsMedia}
use Rattle.fg_unwrap.specs.Position.{position_of}
use Rattle.fg_peel.proofs.Options.{some_and, some_and_from}
use Rattle.fg_peel.proofs.Maps.{nothing_in_empty, inserted, beside_inserted}
use Rattle.fg_playout.specs.declared.reply.Reply.{Reply}
use Rattle.fg_playout.specs.declared.reply.Reply.TheVariants.{Admitted, Late}
use Rattle.fg_playout.specs.State.{State, Top, Live, current}
use Rattle.fg_playout.specs.Admission.{Sender, former, own, another, sender_of, IsDue, IsReplyAt, IsReplyBy, IsMediaReply, IsTakenBy, IsAfterMedia, begun, farther, with_media, counted, kept_count}
use Rattle.fg_playout.specs.Facts.{Holds, IsKept, IsReceived, IsLive, AreApart}
use Rattle.fg_playout.specs.Laws.{OpeningHolds, MediaKeeps}
use Rattle.fg_playout.proofs.Senders.{SaysOf, says_of}

pub opening_holds : OpeningHolds
opening_holds playout one most fits = record {
  window = (one, most);
  depth = fits;
  kept = λ p w is. absurd (nothing_in_empty p w is);
  media = λ p w is. absurd (nothing_in_empty p w is);
  timed = λ p. ap is_some (get-empty {X = ℕ} nat_cmp p) ∙ sym (ap is_some (get-empty {X = Word} nat_cmp p));
  clocked = λ p t is. absurd (nothing_in_empty p t is);
  live = λ s l is. absurd (nothing_in_empty s l is);
  apart = λ s t one other is. absurd (nothing_in_empty s one is);
  origin = omega arith;
  based = λ s l is. absurd (nothing_in_empty s l is);
  unopened = λ none. (refl, refl, refl, refl, refl, refl);
  opened = λ some. absurd (some refl);
  senders = λ top is. absurd (none-some top is);
}

pub counted_holds : (old : State) → Holds old → Holds (counted old)
counted_holds old holds = record {
  window = holds.window;
  depth = holds.depth;
  kept = holds.kept;
  media = λ p w is. (let k = holds.media p w is in record { media = k.media; ahead = k.ahead; near = k.near });
  timed = holds.timed;
  clocked = holds.clocked;
  live = holds.live;
  apart = holds.apart;
  origin = holds.origin;
  based = holds.based;
  unopened = holds.unopened;
  opened = holds.opened;
  senders = holds.senders;
}

pub farther_is_some : (top : Option Top) (new : Top) → farther top new ≢ None
farther_is_some None new none = none-some new (sym none)
farther_is_some (Some top) new none = go (ltb top.position new.position) none
  where
    go : (b : Bool) → cond b (Some new) (Some top) ≡ None → ⊥
    go true e = none-some new (sym e)
    go false e = none-some top (sym e)

-- The farther of two tops is one of them.
farther_either : (P : Top → Type 0) (top : Option Top) (new : Top) → P new → ((t : Top) → top ≡ Some t → P t) → (t : Top) → farther top new ≡ Some t → P t
farther_either P None new here others t is = subst P (same_Some new t is) here
farther_either P (Some top) new here others t is = go (ltb top.position new.position) is
  where
    go : (b : Bool) → cond b (Some new) (Some top) ≡ Some t → P t
    go true e = subst P (same_Some new t e) here
    go false e = subst P (same_Some top t e) (others top refl)

-- A run begins with the facts, but for those of a desk without a top.
record HoldsInRun (desk : State) (ssrc : ℕ) : Type 0 where
  window : (1 ≤ desk.playout.window) × (desk.playout.window ≤ kept_count)
  depth : desk.playout.window ≤ desk.playout.depth
  kept : (position : ℕ) (word : Word) → get desk.kept position ≡ Some word → IsKept desk position word
  media : (position : ℕ) (word : Word) → get desk.media position ≡ Some word → IsReceived desk position word
  timed : (position : ℕ) → is_some (get desk.times position) ≡ is_some (get desk.media position)
  clocked : (position time : ℕ) → get desk.times position ≡ Some time → time ≤ desk.clock
  live : (serial : ℕ) (live : Live) → get desk.equations serial ≡ Some live → IsLive desk serial live
  apart :
      (serial serial' : ℕ) (one other : Live) → get desk.equations serial ≡ Some one
      → get desk.equations serial' ≡ Some other → serial ≢ serial' → AreApart one other
  origin : desk.origin ≤ desk.mark
  based : (serial : ℕ) (live : Live) → get desk.equations serial ≡ Some live → desk.origin ≤ live.equation.base
  some_run : 1 ≤ desk.runs
  senders : desk.previous ≢ Some ssrc
  own_top : (top : Top) → desk.top ≡ Some top → top.ssrc ≡ ssrc

with_media_holds :
    (desk : State) (seq ssrc position : ℕ) (word : Word) → HoldsInRun desk ssrc → IsReceived desk position word
    → Holds (with_media desk seq ssrc position word)
with_media_holds desk seq ssrc position word holds received =
    let new : Top = record { position = position; seq = seq; ssrc = ssrc } in
    record {
      window = holds.window;
      depth = holds.depth;
      kept = holds.kept;
      media = λ p w is. (let k : IsReceived desk p w = ⊎_elim
          (λ here.
          let same : word ≡ w = same_Some word w (sym (inserted desk.media position word p here) ∙ is) in
          let at : IsReceived desk p word = subst (λ (q : ℕ). IsReceived desk q word) (sym here) received in
          subst (λ (v : Word). IsReceived desk p v) same at)
          (λ beside. holds.media p w (sym (beside_inserted desk.media position word p beside) ∙ is))
          (cases_eq p position) in
          record { media = k.media; ahead = k.ahead; near = k.near });
      timed = λ p. ⊎_elim
          (λ here. ap is_some (inserted desk.times position desk.clock p here) ∙ sym (ap is_some (inserted desk.media position word p here)))
          (λ beside.
          ap is_some (beside_inserted desk.times position desk.clock p beside)
          ∙ holds.timed p
          ∙ sym (ap is_some (beside_inserted desk.media position word p beside)))
          (cases_eq p position);
      clocked = λ p t is. ⊎_elim
          (λ here. (let same : desk.clock ≡ t = same_Some desk.clock t (sym (inserted desk.times position desk.clock p here) ∙ is) in omega (arith, same)))
          (λ beside. holds.clocked p t (sym (beside_inserted desk.times position desk.clock p beside) ∙ is))
          (cases_eq p position);
      live = holds.live;
      apart = holds.apart;
      origin = holds.origin;
      based = holds.based;
      unopened = λ none. absurd (farther_is_some desk.top new none);
      opened = λ some. holds.some_run;
      senders = farther_either (λ (t : Top). desk.previous ≢ Some t.ssrc) desk.top new holds.senders
          (λ t is before. holds.senders (before ∙ ap Some (holds.own_top t is)));
    }

holds_in_run : (old : State) (ssrc : ℕ) (top : Top) → Holds old → old.top ≡ Some top → top.ssrc ≡ ssrc → HoldsInRun old ssrc
holds_in_run old ssrc top holds is same = record {
  window = holds.window;
  depth = holds.depth;
  kept = holds.kept;
  media = holds.media;
  timed = holds.timed;
  clocked = holds.clocked;
  live = holds.live;
  apart = holds.apart;
  origin = holds.origin;
  based = holds.based;
  some_run = holds.opened (λ none. none-some top (sym none ∙ is));
  senders = λ before. holds.senders top is (before ∙ ap Some (sym same));
  own_top = λ t is'. ap (λ (u : Top). u.ssrc) (same_Some t top (sym is' ∙ is)) ∙ same;
}

current_is : (old : State) (ssrc : ℕ) → current old ≡ Some ssrc → (top : Top) × (old.top ≡ Some top) × (top.ssrc ≡ ssrc)
current_is old ssrc is = go old.top is
  where
    go : (o : Option Top) → option_map (λ (top : Top). top.ssrc) o ≡ Some ssrc → (top : Top) × (o ≡ Some top) × (top.ssrc ≡ ssrc)
    go None e = absurd (none-some ssrc e)
    go (Some top) e = (top, refl, same_Some top.ssrc ssrc e)

holds_begun :
    (old : State) (ssrc : ℕ) → Holds old → ((top : Top) → old.top ≡ Some top → top.ssrc ≢ ssrc) → HoldsInRun (begun old) ssrc
holds_begun old ssrc holds others = record {
  window = holds.window;
  depth = holds.depth;
  kept = λ p w is. (let k = holds.kept p w is in record { media = k.media; below = k.below; near = k.near });
  media = λ p w is. (let k = holds.media p w is in record { media = k.media; ahead = k.ahead; near = k.near });
  timed = holds.timed;
  clocked = holds.clocked;
  live = λ s l is. absurd (nothing_in_empty s l is);
  apart = λ s t one other is. absurd (nothing_in_empty s one is);
  origin = omega arith;
  based = λ s l is. absurd (nothing_in_empty s l is);
  some_run = omega arith;
  senders = λ before. (let t = current_is old ssrc before in others t.0 t.1 t.2);
  own_top = λ top is. absurd (none-some top is);
}

module _ (old : State) (seq ssrc : ℕ) where
  not_due_yet :
      (top : Top) (position : ℕ) → old.top ≡ Some top → top.ssrc ≡ ssrc → position_of top.position top.seq seq ≡ Some position
      → ¬ IsDue old seq ssrc → position < old.mark + old.playout.depth
  not_due_yet top position is same at not_due = ⊎_elim
      (λ near. near)
      (λ far. absurd (not_due (some_and_from old.top _ top is
      (same, some_and_from (position_of top.position top.seq seq) _ position at far))))
      (cases_lt position (old.mark + old.playout.depth))

-- The reply at a position that is told.
pub reply_at_position :
    (old : State) (seq position : ℕ) (word : Word) (reply : Reply) (top : Top)
    → position_of top.position top.seq seq ≡ Some position → IsReplyBy old seq word reply (own top) → IsReplyAt old position word reply
reply_at_position old seq position word reply top at replies =
    subst (λ (o : Option ℕ). MatchOption o (reply ≡ Late) (λ p. IsReplyAt old p word reply)) at replies

admitted_holds :
    (old new : State) (seq ssrc : ℕ) (word : Word) → Holds old → IsMedia word → ¬ IsDue old seq ssrc
    → IsMediaReply old seq ssrc word Admitted → IsAfterMedia old seq ssrc word Admitted new → Holds new
admitted_holds old new seq ssrc word holds media not_due replies after =
    go (sender_of old ssrc) (says_of old ssrc) replies after
  where
    go :
        (sender : Sender) → SaysOf old ssrc sender → IsReplyBy old seq word Admitted sender
        → IsTakenBy old seq ssrc word new sender → Holds new
    go former says is taken = absurd taken
    go (own top) says is taken =
        let a = some_and (position_of top.position top.seq seq) (λ p. new ≡ with_media old seq ssrc p word) taken in
        let received : IsReceived old a.0 word = record {
          media = media;
          ahead = (reply_at_position old seq a.0 word Admitted top a.1 is).0;
          near = not_due_yet old seq ssrc top a.0 says.1 says.2 a.1 not_due;
        } in
        subst Holds (sym a.2) (with_media_holds old seq ssrc a.0 word (holds_in_run old ssrc top holds says.1 says.2) received)
    go another says is taken =
        let one = holds.window.0 in
        let fits = holds.depth in
        subst Holds (sym taken) (with_media_holds (begun old) seq ssrc old.mark word (holds_begun old ssrc holds says.1)
        (record { media = media; ahead = omega arith; near = omega (arith, one, fits) }))

pub media_keeps : MediaKeeps
media_keeps old new seq ssrc word reply holds media not_due admits = go reply admits.reply_is admits.after
  where
    go : (reply : Reply) → IsMediaReply old seq ssrc word reply → IsAfterMedia old seq ssrc word reply new → Holds new
    go Admitted is after = admitted_holds old new seq ssrc word holds media not_due is after
    go other is after = subst Holds (sym after) (counted_holds old holds)
