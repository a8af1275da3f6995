use Rattle.std.proofs.Common.{◌≡◌, ◌≢◌, ◌<◌, ◌≤◌, ◌+◌, ◌*◌, ℕ, length, take, subst, sym, arith}
use Rattle.std.proofs.lemmas.List.{take_all}
use Rattle.std.specs.Str.Parse.{AllDigits, digits_value}
use Rattle.std.proofs.lemmas.Bool.{iff_false}
use Rattle.fg_check.proofs.Numbers.{few_digits, number_digit, number_is_plain, number_is_short, number_read, one_more_digit}
use Rattle.fg_check.proofs.reading.read_number.Goals as goal
use Rattle.fg_check.proofs.reading.read_number.Goals.{then-text-gt-DIGITS-via-then-text-gt-DIGITS, then-text-gt-DIGITS-via-else-text-gt-DIGITS+then-not-is_plain}

pub returns-then-text-gt-DIGITS : goal.returns-then-text-gt-DIGITS
returns-then-text-gt-DIGITS c = λ number h.
    elim c.then-text-gt-DIGITS.branch [
      | then-text-gt-DIGITS-via-then-text-gt-DIGITS w ↦ let short = number_is_short c.args.text.now number h in let long = w.if-text-gt-DIGITS.true in absurd (omega arith)
      | then-text-gt-DIGITS-via-else-text-gt-DIGITS+then-not-is_plain w ↦ iff_false w.is_plain.ensures w.if-not-is_plain.true (number_is_plain c.args.text.now number h)
    ]

pub returns-then-not-is_ascii_digit : goal.returns-then-not-is_ascii_digit
returns-then-not-is_ascii_digit c = λ number h.
    let digit = number_digit c.args.text.now number c.loop-byte.byte-index h c.loop-byte-test.true in
    let out = c.if-not-is_ascii_digit.ensures.cases in
    absurd (omega (arith, out, digit.0, digit.1))

pub overflow_mul-number : goal.overflow_mul-number
overflow_mul-number c =
    let few = few_digits c.args.text.now c.loop-byte.byte-index c.loop-byte.number (omega arith) (omega arith) c.loop-byte.invariant.digits c.loop-byte.invariant.value in
    omega (arith, few)

pub overflow_add-number : goal.overflow_add-number
overflow_add-number c =
    let few = few_digits c.args.text.now c.loop-byte.byte-index c.loop-byte.number (omega arith) (omega arith) c.loop-byte.invariant.digits c.loop-byte.invariant.value in
    let byte = c.type_inv.text c.loop-byte.byte-index in
    let from = c.from.ensures in
    omega (arith, few, byte, from)

pub loop-byte-preserved : goal.loop-byte-preserved
loop-byte-preserved c =
    let digit = c.if-not-is_ascii_digit.ensures.cases in
    let from = c.from.ensures in
    let more = one_more_digit c.args.text.now c.loop-byte.byte-index c.loop-byte.number c.from.result c.loop-byte-test.true digit (omega (arith, from, digit.0)) c.loop-byte.invariant.digits c.loop-byte.invariant.value in
    record { digits = more.0; value = more.1 }

pub returns : goal.returns
returns c =
    let text = c.args.text.now in
    let over = c.loop-byte-test.false in
    let all = take_all c.loop-byte.byte-index text over in
    number_read text c.loop-byte.number (omega arith) (c.is_plain.ensures.0 c.if-not-is_plain.false)
    (subst (λ t. AllDigits 10 t) all c.loop-byte.invariant.digits)
    (subst (λ t. c.loop-byte.number ≡ digits_value 10 t) all c.loop-byte.invariant.value)
