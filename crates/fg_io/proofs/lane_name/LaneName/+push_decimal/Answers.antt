-- The digits before the last, and then the last, are the number in decimal.
use Rattle.std.proofs.Common.{◌≡◌, ℕ, ◌+◌, ◌/◌, ◌%◌, ◌<◌, ◌≤◌, ◌^◌, List, [], ◌∷◌, ◌++◌, length, sym, ap, ◌∙◌, append_assoc, length-append, arith}
use Rattle.std.specs.Fmt.{decimal}
use Rattle.std.proofs.lemmas.Fmt.{decimal_digit, decimal_step}
use Rattle.fg_io.proofs.lane_name.LaneName.+push_decimal.Goals as goal
use Rattle.fg_io.proofs.lane_name.LaneName.+push_decimal.Goals.{then-number-ge10, else-number-ge10}

-- a number of one digit
one_digit : (start middle : List ℕ) (n : ℕ) → n < 10 → middle ≡ start → middle ++ (48 + n % 10) ∷ [] ≡ start ++ decimal n
one_digit start middle n small same =
    let itself : n % 10 ≡ n = omega arith in
    ap (λ bytes. bytes ++ (48 + n % 10) ∷ []) same
    ∙ ap (λ digit. start ++ (48 + digit) ∷ []) itself ∙ ap (λ digits. start ++ digits) (sym (decimal_digit n small))

-- a number of more digits
more_digits : (start middle : List ℕ) (n : ℕ) → 10 ≤ n → n < 2 ^ 64 → middle ≡ start ++ decimal (n / 10)
    → middle ++ (48 + n % 10) ∷ [] ≡ start ++ decimal n
more_digits start middle n large fits same =
    ap (λ bytes. bytes ++ (48 + n % 10) ∷ []) same ∙ append_assoc start (decimal (n / 10)) ((48 + n % 10) ∷ [])
    ∙ ap (λ digits. start ++ digits) (sym (decimal_step n large fits))

pub push_decimal-requires : goal.push_decimal-requires
push_decimal-requires t c =
    let step = decimal_step c.args.number c.if-number-ge10.true (omega arith) in
    (omega arith, omega (arith, ap length step, length-append (decimal (c.args.number / 10)) ((48 + c.args.number % 10) ∷ [])))

pub push-requires-clause-room : goal.push-requires-clause-room
push-requires-clause-room t c =
    let whole : c.if-number-ge10.self ++ (48 + c.args.number % 10) ∷ [] ≡ c.args.self.now ++ decimal c.args.number = elim c.if-number-ge10.branch [
      | then-number-ge10 w ↦ more_digits c.args.self.now _ c.args.number w.if-number-ge10.true (omega arith) (w.self-is ∙ w.push_decimal.ensures)
      | else-number-ge10 w ↦ one_digit c.args.self.now _ c.args.number (omega (arith, w.if-number-ge10.false)) w.self-is
    ] in
    omega (arith, ap length whole, length-append c.if-number-ge10.self ((48 + c.args.number % 10) ∷ []), length-append c.args.self.now (decimal c.args.number))

pub returns : goal.returns
returns t c =
    c.push.ensures ∙ elim c.if-number-ge10.branch [
      | then-number-ge10 w ↦ more_digits c.args.self.now _ c.args.number w.if-number-ge10.true (omega arith) (w.self-is ∙ w.push_decimal.ensures)
      | else-number-ge10 w ↦ one_digit c.args.self.now _ c.args.number (omega (arith, w.if-number-ge10.false)) w.self-is
    ]
