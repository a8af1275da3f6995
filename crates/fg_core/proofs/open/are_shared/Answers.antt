use Rattle.std.proofs.Common.{◌≡◌, false, refl, subst, sym, get_or, arith, IsSome}
use Rattle.std.specs.FinSet.{contains}
use Rattle.fg_peel.specs.Equation.{slots}
use Rattle.fg_peel.specs.Slots.{equation_of}
use Rattle.fg_desk.specs.Contents.{known_in}
use Rattle.fg_core.proofs.Opening.{not_alone, shared_below, slot_there}
use Rattle.fg_core.proofs.open.are_shared.Goals as goal

pub returns-then-is_alone : goal.returns-then-is_alone
returns-then-is_alone c = (
  λ is. absurd (cc),
  λ shared. (
      let alone = c.is_alone.ensures.alone c.if-is_alone.true in
      let slot = get_or (slots (equation_of c.args.line.now)) c.loop-j.j 0 in
      let is = c.slot.ensures in
      absurd (not_alone c.args.desk.now c.slot.result alone.0 alone.1
      (subst (λ s. contains c.args.desk.now.bare s ≡ false) (sym is)
      (shared slot (slot_there c.args.line.now c.loop-j.j c.loop-j-test.true) (subst (λ s. IsSome (known_in c.args.desk.now s)) is alone.0))))
      ),
)

pub returns : goal.returns
returns c = (
  λ _. shared_below c.args.desk.now c.args.line.now (λ k below. c.loop-j.invariant k (omega (arith, below, c.loop-j-test.false))),
  λ _. refl,
)
