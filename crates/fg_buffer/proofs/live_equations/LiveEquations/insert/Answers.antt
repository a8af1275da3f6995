use Rattle.std.proofs.Common.{◌≡◌, ◌<◌, List, Bool, None, ap, sym, ◌∙◌, subst, ⊎_elim, arith}
use Rattle.std.specs.FinMap.{get, len, insert}
use Rattle.fg_peel.specs.declared.Line.{Line}
use Rattle.fg_peel.specs.Slots.{equation_of}
use Rattle.fg_peel.specs.Live.{last_slot, IsLeastFree}
use Rattle.fg_buffer.specs.LiveEquations.{LiveState, AreLive}
use Rattle.fg_buffer.specs.LiveInside.{state_of, IsWithin, AreSound}
use Rattle.fg_buffer.proofs.LiveViews.{count_live}
use Rattle.fg_buffer.proofs.LiveCalls.{are_live}
use Rattle.fg_peel.proofs.SlotRange.{last_is}
use Rattle.fg_buffer.proofs.LiveInserts.{first_free_within, least_free, insert_sound, insert_is, fresh_place, is_or_stood}
use Rattle.fg_buffer.proofs.LiveKeys.{inserted_keyed}
use Rattle.fg_buffer.proofs.live_equations.LiveEquations.insert.Goals as goal
use Rattle.fg_buffer.proofs.live_equations.LiveEquations.insert.Goals.{After-take-place, After-insert_reserved}

fewer : (c : After-take-place) → len (state_of c.self.inside.open c.self.inside.settled).live < 512
fewer c = omega (arith, c.requires.room, ap (λ (s : LiveState). len s.live) c.self.view_is)

fresh : (c : After-take-place) → get (state_of c.self.inside.open c.self.inside.settled).live c.args.serial ≡ None
fresh c = ap (λ (s : LiveState). get s.live c.args.serial) c.self.view_is ∙ c.requires.fresh

abbrev line_of : After-take-place → Line
line_of c = record {
  base = c.args.base;
  shape = c.args.shape;
  parity = c.args.parity;
  serial = c.args.serial;
  place = c.take-place.result;
}

is_within : (c : After-take-place) → IsWithin (line_of c)
is_within c = record {
  shape = c.requires.shape;
  base = c.requires.base;
  place = (let w = c.take-place.ensures.within in omega (arith, w, c.self.invariant.sound.count));
}

-- not all places are taken
pub take-place-requires : goal.take-place-requires
take-place-requires c all =
    let size = c.self.invariant.sound.count in
    let few : len (state_of c.self.inside.open c.self.inside.settled).live < 512 =
    omega (arith, c.requires.room, ap (λ (s : LiveState). len s.live) c.self.view_is) in
    let less : 512 < 512 =
    first_free_within c.self.inside.open c.self.inside.settled c.self.inside.places c.self.invariant.sound 512 few
    (λ place below. all place (omega (arith, below, size))) in
    omega (arith, less)

pub insert_reserved-requires : goal.insert_reserved-requires
insert_reserved-requires c =
    let d = (goal.at.insert_reserved-requires c).After-take-place in
    let n = count_live c.self.inside.open c.self.inside.settled c.self.invariant.sound.serials in
    let f = fewer d in
    omega (arith, n, f, c.self.invariant.sound.open_room)

pub invariant_of-self : goal.invariant_of-self
invariant_of-self c =
    let d = (goal.at.invariant_of-self c).After-take-place in
    let e = c.insert_reserved.ensures in
    let end = last_is (equation_of (line_of d)) c.last-end.result c.requires.shape c.last-end.ensures.slot c.last-end.ensures.greatest in
    let least = c.min-self-inside.ensures in
    let most = c.max-self-inside.ensures in
    record {
      sound = subst (λ (ps : List Bool). AreSound c.insert_reserved.new.self c.self.inside.settled ps) (sym c.take-place.ensures.taken)
          (insert_sound c.self.inside.open c.self.inside.settled c.self.inside.places c.self.invariant.sound
          c.insert_reserved.new.self c.insert_reserved.result (line_of d) e.was_vacant e.updates e.len e.capacity (is_within d) (fresh d)
          c.take-place.ensures.free (fewer d));
      keyed = inserted_keyed c.self.inside.keys.items c.self.inside.open c.self.inside.settled c.self.invariant.keyed
          c.insert_reserved.new.self c.insert_reserved.result (line_of d) (is_within d).place e.updates
          (fresh_place c.self.inside.open c.self.inside.settled c.self.inside.places c.self.invariant.sound
          c.insert_reserved.new.self c.insert_reserved.result (line_of d) e.was_vacant e.updates e.len e.capacity (is_within d) (fresh d)
          c.take-place.ensures.free (fewer d));
      between = λ line stands. ⊎_elim
          (λ new.
          let same = ap (λ (l : Line). last_slot (equation_of l)) new in
          (omega (arith, same, end, least), omega (arith, same, end, most)))
          (λ old.
          let was = c.self.invariant.between line old in
          (omega (arith, was.0, least), omega (arith, was.1, most)))
          (is_or_stood c.self.inside.open c.self.inside.settled c.self.inside.places c.self.invariant.sound
          c.insert_reserved.new.self c.insert_reserved.result (line_of d) e.was_vacant e.updates e.len e.capacity (is_within d) (fresh d)
          c.take-place.ensures.free (fewer d) line stands);
    }

pub returns-clause-facts : goal.returns-clause-facts
returns-clause-facts c =
    subst (λ (s : LiveState). AreLive s) c.self.view_is
    (are_live c.self.inside.open c.self.inside.settled c.self.inside.places c.self.invariant.sound)

pub returns-clause-added : goal.returns-clause-added
returns-clause-added c =
    let d = (goal.at.returns-clause-added c).After-take-place in
    let e = c.insert_reserved.ensures in
    let old = state_of c.self.inside.open c.self.inside.settled in
    let least : IsLeastFree old.live c.take-place.result =
    least_free c.self.inside.open c.self.inside.settled c.self.inside.places c.self.invariant.sound c.take-place.result
    c.take-place.ensures.free c.take-place.ensures.below in
    let is =
    insert_is c.self.inside.open c.self.inside.settled c.self.inside.places c.self.invariant.sound
    c.insert_reserved.new.self c.insert_reserved.result (line_of d) e.was_vacant e.updates e.len e.capacity (is_within d) (fresh d)
    c.take-place.ensures.free (fewer d) in (
      subst (λ (s : LiveState). IsLeastFree s.live c.take-place.result) c.self.view_is least,
      is
          ∙ ap
          (λ (s : LiveState). record s {
            live = insert s.live c.args.serial (record {
              place = c.take-place.result;
              equation = record {
                base = c.args.base;
                offset = c.args.shape.offset;
                count = c.args.shape.na;
                parity = c.args.parity;
              };
            });
          })
          c.self.view_is,
    )

pub returns-clause-within : goal.returns-clause-within
returns-clause-within c =
    let within = c.take-place.ensures.within in
    let count = c.self.invariant.sound.count in
    omega (arith, within, count)
