use Rattle.std.proofs.Common.{◌≡◌, ap, sym, subst, ◌∙◌, ◌*◌, ◌^◌, ◌%◌, bit_or, arith}
use Rattle.std.proofs.lemmas.Nat.{or_lt}
use Rattle.std.proofs.lemmas.Nat.Bits.{shr_and_one}
use Rattle.std.specs.List.{Contains}
use Rattle.fg_words.specs.declared.Word.{Word}
use Rattle.fg_core.specs.Board.{equation_with}
use Rattle.fg_peel.specs.Equation.{slots}
use Rattle.fg_tally.specs.Folding.{FoldingState, with_folded, slots_in}
use Rattle.fg_tally.proofs.Numbers.{folded_before, folded_now, one_bit_below}
use Rattle.fg_tally.proofs.folding.Folding.fold.Goals as goal

pub number_of-number-requires-clause-slot : goal.number_of-number-requires-clause-slot
number_of-number-requires-clause-slot c =
    subst (λ (state : FoldingState). Contains (slots state.equation) c.args.slot) (sym c.self.view_is) c.requires

pub overflow_shr-self-inside : goal.overflow_shr-self-inside
overflow_shr-self-inside c = omega (arith, c.number_of-number.ensures.number, c.self.invariant.0.slot_limit)

pub returns-then-self-number-eq1 : goal.returns-then-self-number-eq1
returns-then-self-number-eq1 c =
    let w = c.self.inside in
    let n = c.number_of-number in
    subst (λ (state : FoldingState). state ≡ with_folded state c.args.slot c.args.word.now) c.self.view_is
    (folded_before w.key w.base w.shape.offset w.shape.na w.parity.value w.folded w.remainder c.args.slot n.result
    c.args.word.now n.ensures.number n.ensures.slot
    (sym (shr_and_one w.folded n.result) ∙ c.if-self-number-eq1.true))

pub overflow_shl-self : goal.overflow_shl-self
overflow_shl-self c = omega (arith, c.number_of-number.ensures.number, c.self.invariant.0.slot_limit)

pub invariant_of-self : goal.invariant_of-self
invariant_of-self c =
    let w = c.self.inside in
    let n = c.number_of-number in (
      c.self.invariant.0,
      c.self.invariant.1,
      or_lt w.shape.na w.folded (1 * 2 ^ n.result % 2 ^ 32) c.self.invariant.2
          (one_bit_below n.result w.shape.na n.ensures.number (omega (arith, c.self.invariant.0.slot_limit))),
    )

pub returns : goal.returns
returns c =
    let w = c.self.inside in
    let n = c.number_of-number in
    let added : Word → FoldingState = λ (rest : Word). record {
      key = w.key;
      equation = equation_with w.base w.shape w.parity.value;
      folded = slots_in (bit_or w.folded (1 * 2 ^ n.result % 2 ^ 32)) w.base w.shape.offset w.shape.na;
      remainder = rest;
    } in
    ap added c.xor_in.ensures
    ∙ folded_now w.key w.base w.shape.offset w.shape.na w.parity.value w.folded w.remainder c.args.slot n.result
    c.args.word.now n.ensures.number n.ensures.slot c.self.invariant.0.some_offset
    (omega (arith, n.ensures.number, c.self.invariant.0.slot_limit))
    (λ e. c.if-self-number-eq1.false (shr_and_one w.folded n.result ∙ e))
    ∙ ap (λ (state : FoldingState). with_folded state c.args.slot c.args.word.now) c.self.view_is
