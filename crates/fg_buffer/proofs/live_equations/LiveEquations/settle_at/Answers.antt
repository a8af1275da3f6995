use Rattle.std.proofs.Common.{◌≡◌, ◌<◌, ℕ, set, ap, arith, ◌∙◌, subst}
use Rattle.slab.specs.Slab.{get}
use Rattle.fg_peel.specs.declared.Line.{Line}
use Rattle.fg_peel.specs.Live.{Live, live_limit}
use Rattle.fg_buffer.specs.LiveEquations.{LiveState, SettlesAt}
use Rattle.fg_buffer.specs.LiveInside.{Moves, AreKeyed, state_of}
use Rattle.fg_buffer.proofs.LiveViews.{place_of, one_value}
use Rattle.fg_buffer.proofs.LiveMoves.{moves_numbered}
use Rattle.fg_buffer.proofs.LiveKeys.{moved_keyed}
use Rattle.fg_buffer.proofs.LiveBounds.{nothing_moves}
use Rattle.fg_buffer.proofs.LiveCalls.{settles_sound, settles_at, to}
use Rattle.fg_buffer.proofs.live_equations.LiveEquations.settle_at.Goals as goal
use Rattle.fg_buffer.proofs.live_equations.LiveEquations.settle_at.Goals.{After-self-1}

place_is : (c : After-self-1) → c.remove-line.result.place ≡ c.args.place
place_is c =
    let found = c.in-Some.ensures.some in
    let same = one_value (get c.self.inside.open c.in-Some.key) c.remove-line.result found.0 c.remove-line.ensures.value found.1 in
    ap (λ (l : Line). l.place) same ∙ found.2

moves :
    (c : After-self-1)
    → Moves (λ line. line.place ≡ c.args.place → ⊥) (λ line. line.place ≡ c.args.place) c.self.inside.open
    c.self.inside.settled c.remove-line.new.self c.insert_reserved.new.self
moves c =
    let line = c.remove-line.result in
    let out = c.remove-line.ensures in
    let into = c.insert_reserved.ensures in
    subst
    (λ (p : ℕ). Moves (λ l. l.place ≡ p → ⊥) (λ l. l.place ≡ p) c.self.inside.open c.self.inside.settled
    c.remove-line.new.self c.insert_reserved.new.self)
    (place_is c)
    (moves_numbered place_of c.self.inside.open c.self.inside.settled c.remove-line.new.self c.insert_reserved.new.self
    c.in-Some.key c.insert_reserved.result line c.self.invariant.sound.numbers out.value out.updates out.len out.capacity
    into.was_vacant into.updates into.len into.capacity)

-- The place of the line that goes.
within : (c : After-self-1) → c.remove-line.result.place < live_limit
within c = (c.self.invariant.sound.open_within c.in-Some.key c.remove-line.result c.remove-line.ensures.value).place

pub invariant_of-self : goal.invariant_of-self
invariant_of-self c =
    let IsGone : Live → Type 0 = λ live. live.place ≡ c.args.place in
    record {
      sound = settles_sound c.self.inside.open c.self.inside.settled c.self.inside.places c.self.invariant.sound IsGone
          c.remove-line.new.self c.insert_reserved.new.self (moves c);
      keyed = subst
          (λ (p : ℕ). AreKeyed (set c.self.inside.keys.items p c.insert_reserved.result) c.remove-line.new.self c.insert_reserved.new.self)
          (place_is c)
          (moved_keyed c.self.inside.keys.items c.self.inside.open c.self.inside.settled c.self.invariant.keyed
          c.remove-line.new.self c.insert_reserved.new.self c.in-Some.key c.insert_reserved.result c.remove-line.result
          c.self.invariant.sound.numbers (within c) c.remove-line.ensures.value c.remove-line.ensures.updates
          c.insert_reserved.ensures.updates);
      between = λ line stands. c.self.invariant.between line
          (to c.self.inside.open c.self.inside.settled c.self.inside.places c.self.invariant.sound IsGone
          c.remove-line.new.self c.insert_reserved.new.self (moves c) line stands);
    }

pub returns-in-Some : goal.returns-in-Some
returns-in-Some c =
    subst
    (λ (s : LiveState). SettlesAt c.args.place s (state_of c.remove-line.new.self c.insert_reserved.new.self))
    c.self.view_is
    (settles_at c.self.inside.open c.self.inside.settled c.self.inside.places c.self.invariant.sound c.args.place
    c.remove-line.new.self c.insert_reserved.new.self (moves c))

pub returns-in_default : goal.returns-in_default
returns-in_default c =
    subst (λ (s : LiveState). SettlesAt c.args.place s s) c.self.view_is
    (settles_at c.self.inside.open c.self.inside.settled c.self.inside.places c.self.invariant.sound c.args.place
    c.self.inside.open c.self.inside.settled
    (nothing_moves (λ line. line.place ≡ c.args.place → ⊥) (λ line. line.place ≡ c.args.place) c.self.inside.open
    c.self.inside.settled c.in_default.ensures.none))

pub index_mut-requires : goal.index_mut-requires
index_mut-requires c =
    let found = c.in-Some.ensures.some in
    let within = (c.self.invariant.sound.open_within c.in-Some.key found.0 found.1).place in
    omega (arith, within, found.2, c.self.invariant.keyed.count)
