-- There is exactly one position, and the function gives it.
use Rattle.std.proofs.Common.{◌≡◌, ℕ, ◌+◌, ◌-◌, ◌*◌, ◌/◌, ◌%◌, ◌<◌, ◌≤◌, ◌↔◌, ℤ, pos, ◌+ℤ◌, ◌-ℤ◌, Option, Some, None, IfSome, IsNone, refl, sym, subst, ⊎_elim, arith}
use Rattle.std.proofs.lemmas.Bool.{cases_lt}
use Rattle.std.proofs.lemmas.Int.{ints}
use Rattle.fg_unwrap.specs.Position.{IsPosition, IsBelowZero, position_of}

-- Every sequence number has a position.
pub has_position : (top top_seq seq : ℕ) → (position : ℤ) × IsPosition top top_seq seq position
has_position top top_seq seq =
    let whole : ℕ = seq + 32768 + 65535 * top_seq in
    let position : ℤ = pos (top + whole % 65536) -ℤ pos 32768 in
    let turns : ℤ = pos top_seq -ℤ pos (whole / 65536) in
    (position, record { least = omega (arith, ints); most = omega (arith, ints); congruent = (turns, omega (arith, ints)) })

-- And only one.
pub one_position : (top top_seq seq : ℕ) (position position' : ℤ) → IsPosition top top_seq seq position → IsPosition top top_seq seq position' → position ≡ position'
one_position top top_seq seq position position' is is' =
    let turns : ℤ = is.congruent.0 in
    let turns' : ℤ = is'.congruent.0 in
    let at = is.congruent.1 in
    let at' = is'.congruent.1 in
    omega (arith, ints)

-- 32,768 past the position.
abbrev raised : ℕ → ℕ → ℕ → ℕ
raised top top_seq seq = top + (seq + 65536 + 32768 - top_seq) % 65536

is_position : (top top_seq seq : ℕ) (position : ℤ) → top_seq < 65536 → (position +ℤ pos 32768) ≡ pos (raised top top_seq seq) → IsPosition top top_seq seq position
is_position top top_seq seq position fits lies =
    let turns : ℤ = pos 1 -ℤ pos ((seq + 65536 + 32768 - top_seq) / 65536) in
    record { least = omega (arith, ints); most = omega (arith, ints); congruent = (turns, omega (arith, ints)) }

position_of-past : (top top_seq seq : ℕ) → 32768 ≤ raised top top_seq seq → position_of top top_seq seq ≡ Some (raised top top_seq seq - 32768)
position_of-past top top_seq seq le = grind arith

position_of-before : (top top_seq seq : ℕ) → raised top top_seq seq < 32768 → position_of top top_seq seq ≡ None
position_of-before top top_seq seq lt = grind arith

-- The function gives the position.
pub position_of-some : (top top_seq seq position : ℕ) → top_seq < 65536 → (position_of top top_seq seq ≡ Some position) ↔ IsPosition top top_seq seq (pos position)
position_of-some top top_seq seq position fits = ⊎_elim
    (λ (before : raised top top_seq seq < 32768).
    let none = position_of-before top top_seq seq before in
    let below : ℤ = pos (raised top top_seq seq) -ℤ pos 32768 in (
      (λ some. cc),
      (λ is. absurd (let same : pos position ≡ below = one_position top top_seq seq _ _ is (is_position top top_seq seq below fits (omega (arith, ints))) in omega (arith, ints))),
    ))
    (λ (past : 32768 ≤ raised top top_seq seq).
    let some = position_of-past top top_seq seq past in
    let at : ℕ = raised top top_seq seq - 32768 in
    let there : IsPosition top top_seq seq (pos at) = is_position top top_seq seq (pos at) fits (omega (arith, ints)) in (
      (λ given. let same : at ≡ position = cc in subst (λ (p : ℕ). IsPosition top top_seq seq (pos p)) same there),
      (λ is. let same : pos at ≡ pos position = one_position top top_seq seq _ _ there is in cc),
    ))
    (cases_lt (raised top top_seq seq) 32768)

-- And none exactly where that is below 0.
pub position_of-none : (top top_seq seq : ℕ) → top_seq < 65536 → (position_of top top_seq seq ≡ None) ↔ IsBelowZero top top_seq seq
position_of-none top top_seq seq fits = ⊎_elim
    (λ (before : raised top top_seq seq < 32768).
    let below : ℤ = pos (raised top top_seq seq) -ℤ pos 32768 in (
      (λ _. (below, omega (arith, ints), is_position top top_seq seq below fits (omega (arith, ints)))),
      (λ _. position_of-before top top_seq seq before),
    ))
    (λ (past : 32768 ≤ raised top top_seq seq).
    let some = position_of-past top top_seq seq past in
    let at : ℕ = raised top top_seq seq - 32768 in
    let there : IsPosition top top_seq seq (pos at) = is_position top top_seq seq (pos at) fits (omega (arith, ints)) in (
      (λ none. cc),
      (λ b. absurd (let same : pos at ≡ b.0 = one_position top top_seq seq _ _ there b.2 in omega (arith, ints))),
    ))
    (cases_lt (raised top top_seq seq) 32768)

-- What the function gives tells the position, or that it is below 0.
pub told_position : (top top_seq seq : ℕ) (given : Option ℕ) → top_seq < 65536 → given ≡ position_of top top_seq seq →
    IfSome given (λ position. IsPosition top top_seq seq (pos position)) × (IsNone given ↔ IsBelowZero top top_seq seq)
told_position top top_seq seq None fits is =
    let none = position_of-none top top_seq seq fits in
    (tt, ((λ _. none.0 (sym is)), (λ _. refl)))
told_position top top_seq seq (Some position) fits is =
    let none = position_of-none top top_seq seq fits in
    ((position_of-some top top_seq seq position fits).0 (sym is), ((λ n. cc), (λ below. let other = none.1 below in cc)))
