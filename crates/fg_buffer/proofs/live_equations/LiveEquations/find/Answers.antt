use Rattle.std.proofs.Common.{◌≡◌, ◌+◌, ◌-◌, ◌*◌, sym, subst, ◌∙◌, arith}
use Rattle.fg_peel.specs.Equation.{Equation}
use Rattle.fg_peel.specs.Slots.{equation_of}
use Rattle.fg_peel.specs.Live.{last_slot, HasSlots}
use Rattle.fg_buffer.specs.LiveEquations.{LiveState, IsLiveLine}
use Rattle.fg_peel.specs.declared.Line.{Line}
use Rattle.fg_buffer.specs.LiveInside.{Holds}
use Rattle.fg_buffer.proofs.LiveCalls.{told_settled, told_none, found_first, found_none, stands_live}
use Rattle.fg_peel.proofs.SlotRange.{last_is}
use Rattle.fg_buffer.proofs.live_equations.LiveEquations.find.Goals as goal

pub returns-in-Some-clause-some : goal.returns-in-Some-clause-some
returns-in-Some-clause-some c =
    let IsSought : Line → Type 0 = (λ (line : Line). HasSlots c.args.base c.args.shape.offset c.args.shape.na (equation_of line)) in
    let line = c.in-Some.line.now in
    subst (λ (s : LiveState). IsLiveLine s line × IsSought line) c.self.view_is
    (found_first c.self.inside.open c.self.inside.settled c.self.inside.places c.self.invariant.sound IsSought line c.in-Some.ensures.some)

pub returns-in-None-clause-some : goal.returns-in-None-clause-some
returns-in-None-clause-some c =
    let IsSought : Line → Type 0 = (λ (line : Line). HasSlots c.args.base c.args.shape.offset c.args.shape.na (equation_of line)) in
    told_settled c.self.inside.open c.self.inside.settled c.self.inside.places c.args.self.now c.self.view_is
    c.self.invariant.sound IsSought c.find_in-in-None.result c.find_in-in-None.ensures.some

pub returns-in-None-clause-none : goal.returns-in-None-clause-none
returns-in-None-clause-none c =
    let IsSought : Line → Type 0 = (λ (line : Line). HasSlots c.args.base c.args.shape.offset c.args.shape.na (equation_of line)) in
    told_none ((line : Line) → Holds c.self.inside.settled line → IsSought line → ⊥)
    ((line : Line) → IsLiveLine c.args.self.now line → IsSought line → ⊥) c.find_in-in-None.result
    (λ none.
    subst (λ (s : LiveState). (line : Line) → IsLiveLine s line → IsSought line → ⊥) c.self.view_is
    (found_none c.self.inside.open c.self.inside.settled c.self.inside.places c.self.invariant.sound IsSought c.in-None.ensures.none none))
    c.find_in-in-None.ensures.none

-- no line that ends before this one is it
pub returns-then-last-self-clause-none : goal.returns-then-last-self-clause-none
returns-then-last-self-clause-none c line is same =
    let equation : Equation = record { base = c.args.base; offset = c.args.shape.offset; count = c.args.shape.na; parity = line.parity } in
    let at : last_slot (equation_of line) ≡ last_slot equation = λ i. same.base_is i + (same.count_is i - 1) * same.offset_is i in
    let end : c.last.result ≡ last_slot equation = last_is equation c.last.result c.requires.shape c.last.ensures.slot c.last.ensures.greatest in
    let both : last_slot (equation_of line) ≡ c.last.result = at ∙ sym end in
    let stands = stands_live c.self.inside.open c.self.inside.settled c.self.inside.places c.self.invariant.sound line
    (subst (λ (s : LiveState). IsLiveLine s line) (sym c.self.view_is) is) in
    let below = (c.self.invariant.between line stands).1 in
    omega (arith, both, below, c.if-last-self.true)
