use Rattle.std.proofs.Common.{◌≡◌, ◌<◌, ℕ, length, get_or, Contains, IsSome, None, sym, ◌∙◌, ap, not, subst, arith}
use Rattle.std.proofs.lemmas.List.{get_or_default}
use Rattle.std.proofs.lemmas.List.Elements.{Contains-get_or}
use Rattle.std.specs.FinMap.{get}
use Rattle.fg_shape.specs.Shape.{slots_of}
use Rattle.fg_peel.proofs.Options.{none_of_copied}
use Rattle.fg_buffer.proofs.LiveBounds.{known_before}
use Rattle.fg_shape.proofs.ShapeLemmas.{length-slots_of, get_or-slots_of}
use Rattle.fg_buffer.proofs.retiring.lost_slot.Goals as goal

-- no slot lies before the first
pub returns-then-base-mark : goal.returns-then-base-mark
returns-then-base-mark c = record {
  some = tt;
  none =
      λ slot member below.
      (let shape = c.args.shape in
      let xs = slots_of c.args.base shape.offset shape.na in
      let same : get_or xs member.0 0 ≡ slot = get_or_default xs member.0 0 slot member.1 ∙ member.2 in
      let within : member.0 < shape.na = omega (arith, member.1, length-slots_of c.args.base shape.offset shape.na) in
      let at = get_or-slots_of c.args.base shape.offset shape.na member.0 0 within in
      absurd (omega (arith, same, at, below, c.mark-mark.ensures.value, c.if-base-mark.true)));
}

pub returns-then-is_none : goal.returns-then-is_none
returns-then-is_none c =
    let shape = c.args.shape in
    let buffer = c.args.buffer.now in
    let p = c.slot-position.result in
    let xs = slots_of c.args.base shape.offset shape.na in
    let within : c.loop-j.j < length xs = omega (arith, length-slots_of c.args.base shape.offset shape.na) in
    let below : p < buffer.mark = omega (arith, c.mark-mark.ensures.value, c.if-position-mark.true) in
    let known = none_of_copied _ c.word.result c.word.ensures (c.is_none.ensures ∙ ap not c.if-is_none.true) in
    let none : get buffer.kept p ≡ None = sym (known_before buffer c.mark-mark.ensures.facts p below) ∙ known in
    let member : Contains xs p =
    subst (λ (q : ℕ). Contains xs q) (sym c.slot-position.ensures) (Contains-get_or xs c.loop-j.j 0 within) in
    record { some = record { listed = member; played = below; lost = none }; none = tt }

pub returns : goal.returns
returns c =
    let shape = c.args.shape in
    let buffer = c.args.buffer.now in
    let xs = slots_of c.args.base shape.offset shape.na in
    record {
      some = tt;
      none =
          λ slot member below.
          (let same : get_or xs member.0 0 ≡ slot = get_or_default xs member.0 0 slot member.1 ∙ member.2 in
          let less : member.0 < c.loop-j.j =
          omega (arith, member.1, length-slots_of c.args.base shape.offset shape.na, c.loop-j-test.false) in
          let below' : get_or xs member.0 0 < buffer.mark = omega (arith, same, below) in
          subst (λ (p : ℕ). IsSome (get buffer.kept p)) same (c.loop-j.invariant member.0 less below'));
    }
