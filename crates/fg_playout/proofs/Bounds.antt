-- How far a flow's run gets with so many datagrams.
use Rattle.std.proofs.Common.{◌≡◌, ◌+◌, ◌*◌, ◌^◌, ◌<◌, ◌≤◌, ℕ, Bool, true, false, cond, ltb, Option, Some, None, MatchOption, refl, sym, ap, subst, ◌∙◌, ⊎_elim, arith}
use Rattle.std.proofs.lemmas.Option.{none-some, same_Some, MatchOption-from_none}
use Rattle.std.specs.Bool.{⊤}
use Rattle.fg_words.specs.declared.Word.{Word}
use Rattle.fg_unwrap.specs.Position.{position_of}
use Rattle.fg_shape.specs.Playout.{Playout}
use Rattle.fg_peel.proofs.Options.{none_or_some, some_and}
use Rattle.fg_playout.specs.declared.reply.Reply.{Reply}
use Rattle.fg_playout.specs.declared.reply.Reply.TheVariants.{Admitted}
use Rattle.fg_playout.specs.State.{State, Top, opening}
use Rattle.fg_playout.specs.Room.{HasRoom}
use Rattle.fg_playout.specs.Admission.{Parity, IsDue, IsLeastFree, IsAfterMedia, IsAfterParity, Sender, former, own, another, sender_of, begun, run_by, run_on, position_by, position_on, base_on, farther, with_media, with_equation, equation_at, counted}
use Rattle.fg_playout.specs.Play.{Play, IsPlay}
use Rattle.fg_playout.proofs.Senders.{SaysOf, says_of}
use Rattle.fg_playout.proofs.Parities.{position_most}

-- A datagram lies at most 32,767 past the top, held plays move the mark at most 1,000 positions on and a flush 1,100, so `most`
-- of them bring the top this far. The mark has passed what was played before `due` of them. A play moves the mark, and held plays
-- and a flush end with one call more each, so the calls are no more than three a datagram and one a position played.
pub record Within (deep most due : ℕ) (desk : State) : Type 0 where
  pub window : 1 ≤ desk.playout.window
  pub fits : desk.playout.window ≤ desk.playout.depth
  pub depth_is : desk.playout.depth ≡ deep
  pub shallow : deep ≤ 1000
  pub top : (t : Top) → desk.top ≡ Some t → t.position ≤ 40000 * most
  pub mark : desk.mark ≤ 40000 * due
  pub calls : desk.calls ≤ most + due + due + desk.mark

pub within_opening : (playout : Playout) → 1 ≤ playout.window → playout.window ≤ playout.depth → playout.depth ≤ 1000
    → Within playout.depth 0 0 (opening playout)
within_opening playout some fits shallow = record {
  window = some;
  fits = fits;
  depth_is = refl;
  shallow = shallow;
  top = λ t is. absurd (none-some t is);
  mark = omega arith;
  calls = omega arith;
}

-- Between the held plays before a datagram, and after them.
pub record WithinHeld (deep most : ℕ) (desk : State) : Type 0 where
  pub window : 1 ≤ desk.playout.window
  pub fits : desk.playout.window ≤ desk.playout.depth
  pub depth_is : desk.playout.depth ≡ deep
  pub shallow : deep ≤ 1000
  pub top : (t : Top) → desk.top ≡ Some t → t.position ≤ 40000 * most
  pub mark : desk.mark ≤ 40000 * most + deep
  pub calls : desk.calls ≤ most + most + most + 1 + desk.mark

pub within_held : (deep most : ℕ) (desk : State) → Within deep most most desk → WithinHeld deep most desk
within_held deep most desk w = record {
  window = w.window;
  fits = w.fits;
  depth_is = w.depth_is;
  shallow = w.shallow;
  top = w.top;
  mark = (let m = w.mark in omega (arith, m));
  calls = (let c = w.calls in omega (arith, c));
}

pub within_next : (deep most : ℕ) (desk : State) → WithinHeld deep most desk → Within deep most (most + 1) desk
within_next deep most desk w = record {
  window = w.window;
  fits = w.fits;
  depth_is = w.depth_is;
  shallow = w.shallow;
  top = w.top;
  mark = (let m = w.mark in let s = w.shallow in omega (arith, m, s));
  calls = (let c = w.calls in omega (arith, c));
}

-- What a due position is at most.
pub due_at_most :
    (deep most : ℕ) (old : State) (seq ssrc : ℕ) → Within deep most (most + 1) old → IsDue old seq ssrc
    → old.mark + old.playout.depth ≤ 40000 * (most + 1)
due_at_most deep most old seq ssrc w due =
    let t = some_and old.top _ due in
    let p = some_and (position_of t.0.position t.0.seq seq) _ t.2.1 in
    let limit = w.top t.0 t.1 in
    let far = p.2 in
    let near = position_most t.0.position t.0.seq seq p.0 p.1 in
    omega (arith, limit, far, near)

pub within_play :
    (deep most : ℕ) (old : State) (seq ssrc : ℕ) (play : Play) (next : State) → Within deep most (most + 1) old → IsDue old seq ssrc
    → IsPlay old.playout.window old play next → Within deep most (most + 1) next
within_play deep most old seq ssrc play next w due plays =
    let some = w.window in
    let fits = w.fits in
    let calls = w.calls in
    let limit = due_at_most deep most old seq ssrc w due in
    let mark = plays.mark in
    let window : next.playout.window ≡ old.playout.window = ap (λ (s : State). s.playout.window) plays.rest in
    let depth : next.playout.depth ≡ old.playout.depth = ap (λ (s : State). s.playout.depth) plays.rest in
    let count : next.calls ≡ old.calls + 1 = ap (λ (s : State). s.calls) plays.rest in
    let top : next.top ≡ old.top = ap (λ (s : State). s.top) plays.rest in
    record {
      window = omega (arith, some, window);
      fits = omega (arith, fits, window, depth);
      depth_is = depth ∙ w.depth_is;
      shallow = w.shallow;
      top = λ t is. w.top t (sym top ∙ is);
      mark = omega (arith, mark, limit, fits);
      calls = omega (arith, count, calls, mark, some);
    }

-- The farther of two tops lies no farther than both may.
farther_limit :
    (top : Option Top) (new : Top) (limit : ℕ) → new.position ≤ limit → ((t : Top) → top ≡ Some t → t.position ≤ limit)
    → (t : Top) → farther top new ≡ Some t → t.position ≤ limit
farther_limit None new limit at most t is = subst (λ (s : Top). s.position ≤ limit) (same_Some new t is) at
farther_limit (Some top) new limit at most t is = go (ltb top.position new.position) is
  where
    go : (b : Bool) → cond b (Some new) (Some top) ≡ Some t → t.position ≤ limit
    go true e = subst (λ (s : Top). s.position ≤ limit) (same_Some new t e) at
    go false e = subst (λ (s : Top). s.position ≤ limit) (same_Some top t e) (most top refl)

within_counted : (deep most due : ℕ) (old : State) → Within deep most due old → Within deep (most + 1) due (counted old)
within_counted deep most due old w = record {
  window = w.window;
  fits = w.fits;
  depth_is = w.depth_is;
  shallow = w.shallow;
  top = λ t is. (let limit = w.top t is in omega (arith, limit));
  mark = w.mark;
  calls = (let calls = w.calls in omega (arith, calls));
}

-- The desk in a run, and where its next datagram may lie.
record IsWithinReach (deep most position : ℕ) (old : State) : Type 0 where
  within : Within deep most (most + 1) old
  at : position ≤ 40000 * (most + 1)

within_begun : (deep most : ℕ) (old : State) → Within deep most (most + 1) old → Within deep most (most + 1) (begun old)
within_begun deep most old w = record {
  window = w.window;
  fits = w.fits;
  depth_is = w.depth_is;
  shallow = w.shallow;
  top = λ t is. absurd (none-some t is);
  mark = w.mark;
  calls = w.calls;
}

within_run :
    (deep most : ℕ) (old : State) (seq ssrc : ℕ) (sender : Sender) (position : ℕ) → SaysOf old ssrc sender
    → position_by old seq sender ≡ Some position → Within deep most (most + 1) old
    → IsWithinReach deep most position (run_by old sender)
within_run deep most old seq ssrc former position says at w = absurd (none-some position at)
within_run deep most old seq ssrc (own top) position says at w =
    let limit = w.top top says.1 in
    let near = position_most top.position top.seq seq position at in
    record { within = w; at = omega (arith, limit, near) }
within_run deep most old seq ssrc another position says at w =
    let same : old.mark ≡ position = same_Some old.mark position at in
    let limit = w.mark in
    record { within = within_begun deep most old w; at = omega (arith, limit, same) }

pub within_media :
    (deep most : ℕ) (old new : State) (seq ssrc : ℕ) (word : Word) (reply : Reply) → Within deep most (most + 1) old
    → IsAfterMedia old seq ssrc word reply new → Within deep (most + 1) (most + 1) new
within_media deep most old new seq ssrc word Admitted w after =
    let a = some_and (position_on old seq ssrc) (λ p. new ≡ with_media (run_on old ssrc) seq ssrc p word) after in
    let run = run_on old ssrc in
    let r = within_run deep most old seq ssrc (sender_of old ssrc) a.0 (says_of old ssrc) a.1 w in
    let at = r.at in
    let calls = r.within.calls in
    subst (Within deep (most + 1) (most + 1)) (sym a.2) (record {
      window = r.within.window;
      fits = r.within.fits;
      depth_is = r.within.depth_is;
      shallow = r.within.shallow;
      top = farther_limit run.top (record { position = a.0; seq = seq; ssrc = ssrc }) (40000 * (most + 1)) at
          (λ t is. (let below = r.within.top t is in omega (arith, below)));
      mark = r.within.mark;
      calls = omega (arith, calls);
    })
within_media deep most old new seq ssrc word reply w after =
    subst (Within deep (most + 1) (most + 1)) (sym after) (within_counted deep most (most + 1) old w)

pub within_parity :
    (deep most due : ℕ) (old new : State) (parity : Parity) (reply : Reply) → Within deep most due old
    → IsAfterParity old parity reply new → Within deep (most + 1) due new
within_parity deep most due old new parity Admitted w after =
    let a = some_and (base_on old parity.base)
    (λ position. (place : ℕ) × IsLeastFree old.equations place × (new ≡ with_equation old place (equation_at position parity))) after in
    let calls = w.calls in
    subst (Within deep (most + 1) due) (sym a.2.2) (record {
      window = w.window;
      fits = w.fits;
      depth_is = w.depth_is;
      shallow = w.shallow;
      top = λ t is. (let limit = w.top t is in omega (arith, limit));
      mark = w.mark;
      calls = omega (arith, calls);
    })
within_parity deep most due old new parity reply w after =
    subst (Within deep (most + 1) due) (sym after) (within_counted deep most due old w)

-- Below the limits there is room.
pub room_below :
    (desk : State) → desk.mark < 2 ^ 61 → ((t : Top) → desk.top ≡ Some t → t.position < 2 ^ 61) → desk.calls < 2 ^ 62 → HasRoom desk
room_below desk mark top calls = record {
  mark = mark;
  top = ⊎_elim
      (λ none. MatchOption-from_none desk.top (λ (t : Top). t.position < 2 ^ 61) none)
      (λ some. subst (λ (o : Option Top). MatchOption o ⊤ (λ (t : Top). t.position < 2 ^ 61)) (sym some.1) (top some.0 some.1))
      (none_or_some desk.top);
  calls = calls;
}

pub room_within : (deep most : ℕ) (desk : State) → most < 2 ^ 44 → Within deep most (most + 1) desk → HasRoom desk
room_within deep most desk few w =
    let mark = w.mark in
    let calls = w.calls in
    room_below desk
    (omega (arith, mark, few))
    (λ t is. (let limit = w.top t is in omega (arith, limit, few)))
    (omega (arith, mark, calls, few))

pub counted_room_within : (deep most : ℕ) (desk : State) → most < 2 ^ 44 → Within deep most (most + 1) desk → HasRoom (counted desk)
counted_room_within deep most desk few w =
    let mark = w.mark in
    let calls = w.calls in
    room_below (counted desk)
    (omega (arith, mark, few))
    (λ t is. (let limit = w.top t is in omega (arith, limit, few)))
    (omega (arith, mark, calls, few))
