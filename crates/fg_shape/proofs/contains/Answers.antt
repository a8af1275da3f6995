use Rattle.std.proofs.Common.{◌≡◌, ◌-◌, ◌%◌, ◌≤◌, ap, ◌∙◌, arith}
use Rattle.std.proofs.lemmas.Bool.{eqb-true, eq-eqb}
use Rattle.std.proofs.lemmas.List.Elements.{All-contains}
use Rattle.fg_shape.specs.Shape.{slots_of}
use Rattle.fg_shape.proofs.ShapeLemmas.{slot_from_division, division_from_slot}
use Rattle.fg_shape.proofs.contains.Goals as goal
use Rattle.fg_shape.proofs.contains.Goals.{then-slot-base-via-then-slot-base, then-slot-base-via-else-slot-base+then-slot-last}

pub returns-then-slot-base : goal.returns-then-slot-base
returns-then-slot-base c = (
  λ wrong. absurd (cc),
  λ p. elim c.then-slot-base.branch [
    | then-slot-base-via-then-slot-base w ↦
        absurd (omega (arith, w.if-slot-base.true, (division_from_slot c.args.base c.args.shape.offset c.args.shape.na c.args.slot c.requires.shape.some_offset p).0))
    | then-slot-base-via-else-slot-base+then-slot-last w ↦
        absurd (omega (
          arith,
          w.if-slot-last.true,
          All-contains (λ s. s ≤ w.last.result) (slots_of c.args.base c.args.shape.offset c.args.shape.na) c.args.slot w.last.ensures.greatest p,
        ))
  ],
)

pub returns : goal.returns
returns c =
    let slots = slots_of c.args.base c.args.shape.offset c.args.shape.na in (
      λ whole.
          (let rest : (c.args.slot - c.args.base) % c.args.shape.offset ≡ 0 = rw c.from.ensures at (eqb-true _ _ whole) in
          slot_from_division c.args.base c.args.shape.offset c.args.shape.na c.args.slot c.last.result c.if-slot-base.false c.if-slot-last.false
          c.last.ensures.slot c.requires.shape.some_offset rest),
      λ p. eq-eqb _ _ (ap (λ o. (c.args.slot - c.args.base) % o) c.from.ensures
          ∙ (division_from_slot c.args.base c.args.shape.offset c.args.shape.na c.args.slot c.requires.shape.some_offset p).1),
    )
