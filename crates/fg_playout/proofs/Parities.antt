-- Parity datagrams keep the facts.
use Rattle.std.proofs.Common.{◌≡◌, ◌≢◌, ◌+◌, ◌-◌, ◌%◌, ◌^◌, ◌<◌, ◌≤◌, ℕ, Option, Some, None, IsSome, MatchOption, inl, inr, leb, ltb, ltb-false, mod-lt, refl, sym, ap, subst, ◌∙◌, ⊎_elim, arith}
use Rattle.std.specs.Bool.{⊤}
use Rattle.std.proofs.lemmas.Bool.{cases_lt}
use Rattle.std.proofs.lemmas.Option.{none-some, same_Some}
use Rattle.std.specs.List.{Contains}
use Rattle.std.specs.FinMap.{get}
use Rattle.fg_shape.specs.Shape.{IsShape}
use Rattle.fg_unwrap.specs.Position.{position_of}
use Rattle.fg_peel.specs.Equation.{Equation, slots}
use Rattle.fg_peel.proofs.Options.{none_or_some, some_and, chosen, has_value, passed_over}
use Rattle.fg_playout.specs.declared.reply.Reply.{Reply}
use Rattle.fg_playout.specs.declared.reply.Reply.TheVariants.{Admitted, NotStarted, BeforeStart}
use Rattle.fg_playout.specs.State.{State, Top, Live, last_slot}
use Rattle.fg_playout.specs.Room.{HasRoom}
use Rattle.fg_playout.specs.Admission.{Parity, IsLate, IsAhead, IsTimely, HasTwin, IsFree, IsLeastFree, IsEquationReply, IsParityReply, IsAfterParity, base_on, not_before, equation_at, with_equation, live_limit, kept_count}
use Rattle.fg_playout.specs.Facts.{Holds, IsLive, AreApart}
use Rattle.fg_playout.specs.Laws.{ParityKeeps}
use Rattle.fg_playout.proofs.Added.{added, added_or_old, apart_with_added, flip_slots, no_twin_apart}
use Rattle.fg_playout.proofs.Opened.{counted_holds}
use Rattle.fg_peel.proofs.Places.{free_place}

-- A position is at most 32,767 past the top's.
pub position_most : (top top_seq seq position : ℕ) → position_of top top_seq seq ≡ Some position → position ≤ top + 32767
position_most top top_seq seq position is =
    let turn : ℕ = (seq + 65536 + 32768 - top_seq) % 65536 in
    let part : turn < 65536 = mod-lt (seq + 65536 + 32768 - top_seq) (omega arith) in
    let e = (chosen (leb 32768 (top + turn)) (Some (top + turn - 32768)) position is).1 in
    let same : top + turn - 32768 ≡ position = same_Some (top + turn - 32768) position e in
    omega (arith, part, same)

pub based_unless_late :
    (old : State) (equation : Equation) → ¬ IsLate old equation
    → (slot : ℕ) → Contains (slots equation) slot → slot < old.mark → IsSome (get old.kept slot)
based_unless_late old equation not_late slot c below = ⊎_elim
    (λ none. absurd (not_late (inr (slot, c, below, none))))
    (λ some. has_value (get old.kept slot) some.0 some.1)
    (none_or_some (get old.kept slot))

pub reaches_unless_late : (old : State) (equation : Equation) → ¬ IsLate old equation → old.mark ≤ last_slot equation
reaches_unless_late old equation not_late = ⊎_elim
    (λ below. absurd (not_late (inl below)))
    (λ reaches. reaches)
    (cases_lt (last_slot equation) old.mark)

near_unless_ahead :
    (old : State) (equation : Equation) → ¬ IsAhead old equation → last_slot equation < old.mark + old.playout.depth + kept_count
near_unless_ahead old equation not_ahead = ⊎_elim
    (λ near. near)
    (λ far. absurd (not_ahead far))
    (cases_lt (last_slot equation) (old.mark + old.playout.depth + kept_count))

-- What is said of an admitted equation.
pub record IsNew (old : State) (place : ℕ) (equation : Equation) : Type 0 where
  pub shape : IsShape equation.offset equation.count
  pub base_limit : equation.base ≤ 2 ^ 62
  pub timely : IsTimely old equation
  pub no_twin : ¬ HasTwin old equation (λ _. ⊤)
  pub placed : place < live_limit
  pub free : IsFree old.equations place

flip_apart : (one other : Live) → AreApart one other → AreApart other one
flip_apart one other apart = record {
  places = λ same. apart.places (sym same);
  slots = λ same. apart.slots (flip_slots other.equation one.equation same);
}

module _ (old : State) (place : ℕ) (equation : Equation) (holds : Holds old) (is_new : IsNew old place equation) where
  added_is_live : IsLive (with_equation old place equation) old.admitted (added place equation)
  added_is_live = record {
    shape = is_new.shape;
    base = is_new.base_limit;
    reaches = reaches_unless_late old equation is_new.timely.0;
    near = near_unless_ahead old equation is_new.timely.1;
    based = based_unless_late old equation is_new.timely.0;
    numbered = omega arith;
    placed = is_new.placed;
  }

  stays_live : (serial : ℕ) (live : Live) → IsLive old serial live → IsLive (with_equation old place equation) serial live
  stays_live serial live k =
      let numbered = k.numbered in
      record {
        shape = k.shape;
        base = k.base;
        reaches = k.reaches;
        near = k.near;
        based = k.based;
        numbered = omega (arith, numbered);
        placed = k.placed;
      }

  apart_from_added : (serial : ℕ) (live : Live) → get old.equations serial ≡ Some live → AreApart live (added place equation)
  apart_from_added serial live is = record {
    places = is_new.free serial live is;
    slots = no_twin_apart old equation is_new.no_twin serial live is;
  }

  pub with_equation_holds : old.top ≢ None → old.origin ≤ equation.base → Holds (with_equation old place equation)
  with_equation_holds opened from = record {
    window = holds.window;
    depth = holds.depth;
    kept = λ p w is. (let k = holds.kept p w is in record { media = k.media; below = k.below; near = k.near });
    media = λ p w is. (let k = holds.media p w is in record { media = k.media; ahead = k.ahead; near = k.near });
    timed = holds.timed;
    clocked = holds.clocked;
    live = λ s l is. added_or_old old place equation (IsLive (with_equation old place equation) s) s l is
        (λ here. subst (λ (n : ℕ). IsLive (with_equation old place equation) n (added place equation)) (sym here) added_is_live)
        (λ was. stays_live s l (holds.live s l was));
    apart = apart_with_added old place equation AreApart apart_from_added
        (λ s l is. flip_apart l (added place equation) (apart_from_added s l is)) holds.apart;
    origin = holds.origin;
    based = λ s l is. added_or_old old place equation (λ (v : Live). old.origin ≤ v.equation.base) s l is
        (λ here. from) (holds.based s l);
    unopened = λ none. absurd (opened none);
    opened = holds.opened;
    senders = holds.senders;
  }

-- What is not before a position is there, and at it or past it.
pub not_before_is :
    (origin : ℕ) (o : Option ℕ) (position : ℕ) → not_before origin o ≡ Some position → (o ≡ Some position) × (origin ≤ position)
not_before_is origin None position is = absurd (none-some position is)
not_before_is origin (Some other) position is =
    let c = passed_over (ltb other origin) (Some other) position is in
    let same : other ≡ position = same_Some other position c.1 in
    let past = ltb-false other origin c.0 in
    (ap Some same, omega (arith, same, past))

-- A base that has a position.
pub base_is :
    (old : State) (base position : ℕ) → base_on old base ≡ Some position
    → (top : Top) × (old.top ≡ Some top) × (position_of top.position top.seq base ≡ Some position) × (old.origin ≤ position)
base_is old base position on = go old.top on
  where
    go :
        (o : Option Top)
        → elim o as (λ _. Option ℕ) [
          | None ↦ None
          | Some top ↦ not_before old.origin (position_of top.position top.seq base)
        ] ≡ Some position
        → (top : Top) × (o ≡ Some top) × (position_of top.position top.seq base ≡ Some position) × (old.origin ≤ position)
    go None e = absurd (none-some position e)
    go (Some top) e =
        let r = not_before_is old.origin (position_of top.position top.seq base) position e in
        (top, refl, r.0, r.1)

-- What an admitted parity datagram says: there is a top, and its base has a position in the run, with the equation's reply.
pub record IsAdmitted (old : State) (parity : Parity) (position : ℕ) : Type 0 where
  pub top : Top
  pub top_is : old.top ≡ Some top
  pub at : position_of top.position top.seq parity.base ≡ Some position
  pub from : old.origin ≤ position
  pub replies : IsEquationReply old (equation_at position parity) Admitted

pub is_admitted :
    (old : State) (parity : Parity) (position : ℕ) → IsParityReply old parity Admitted → base_on old parity.base ≡ Some position
    → IsAdmitted old parity position
is_admitted old parity position replies on =
    let base = base_is old parity.base position on in
    let at_base : MatchOption (base_on old parity.base) (Admitted ≡ BeforeStart) (λ p. IsEquationReply old (equation_at p parity) Admitted) =
    subst (λ (t : Option Top).
    MatchOption t (Admitted ≡ NotStarted) (λ _.
    MatchOption (base_on old parity.base) (Admitted ≡ BeforeStart) (λ p. IsEquationReply old (equation_at p parity) Admitted)))
    base.1 replies in
    record {
      top = base.0;
      top_is = base.1;
      at = base.2;
      from = base.3;
      replies = subst (λ (o : Option ℕ).
          MatchOption o (Admitted ≡ BeforeStart) (λ p. IsEquationReply old (equation_at p parity) Admitted)) on at_base;
    }

top_limit : (old : State) (top : Top) → HasRoom old → old.top ≡ Some top → top.position < 2 ^ 61
top_limit old top room is = subst (λ (t : Option Top). MatchOption t ⊤ (λ top. top.position < 2 ^ 61)) is room.top

admitted_holds :
    (old new : State) (parity : Parity) → Holds old → HasRoom old → IsShape parity.offset parity.count
    → IsParityReply old parity Admitted → IsAfterParity old parity Admitted new → Holds new
admitted_holds old new parity holds room shape replies after =
    let a = some_and (base_on old parity.base)
    (λ position. (place : ℕ) × IsLeastFree old.equations place × (new ≡ with_equation old place (equation_at position parity))) after in
    let is = is_admitted old parity a.0 replies a.1 in
    let equation : Equation = equation_at a.0 parity in
    let most : a.0 ≤ is.top.position + 32767 = position_most is.top.position is.top.seq parity.base a.0 is.at in
    let limit : is.top.position < 2 ^ 61 = top_limit old is.top room is.top_is in
    let free = free_place old.equations live_limit is.replies.2 in
    let least : a.2.0 ≤ free.0 = a.2.1.1 free.0 free.2 in
    let below : free.0 < live_limit = free.1 in
    let is_new : IsNew old a.2.0 equation = record {
      shape = shape;
      base_limit = omega (arith, most, limit);
      timely = is.replies.0;
      no_twin = is.replies.1;
      placed = omega (arith, least, below);
      free = a.2.1.0;
    } in
    subst Holds (sym a.2.2) (with_equation_holds old a.2.0 equation holds is_new (λ none. none-some is.top (sym none ∙ is.top_is)) is.from)

pub parity_keeps : ParityKeeps
parity_keeps old new parity reply holds room shape admits = go reply admits.reply_is admits.after
  where
    go : (reply : Reply) → IsParityReply old parity reply → IsAfterParity old parity reply new → Holds new
    go Admitted is after = admitted_holds old new parity holds room shape is after
    go other is after = subst Holds (sym after) (counted_holds old holds)
