-- The queue, and what has waited.
use Rattle.std.proofs.Common.{◌≡◌, ℕ, zero, suc, ◌+◌, ◌-◌, ◌<◌, ◌≤◌, Option, Some, None, refl, sym, ap, subst, ◌∙◌, ⊎_elim, arith}
use Rattle.std.proofs.lemmas.Bool.{cases_lt}
use Rattle.std.specs.Option.{IsSomeAnd}
use Rattle.std.specs.FinMap.{get}
use Rattle.fg_hold.specs.HasWaited.{Times, HasWaited}
use Rattle.fg_hold.specs.Waiting.{WaitingState, Remembers, IsQueued, since, high}

-- An option whose value has a property has a value.
value_with : (o : Option ℕ) (P : ℕ → Type 0) → IsSomeAnd o P → (value : ℕ) × (o ≡ Some value) × P value
value_with None P h = absurd h
value_with (Some value) P h = (value, refl, h)

-- A word that has waited has a time.
pub waited_since : (hold clock : ℕ) (times : Times) (position : ℕ) → HasWaited hold clock times position →
    (time : ℕ) × (get times position ≡ Some time) × (time + hold ≤ clock)
waited_since hold clock times position h = value_with (get times position) (λ time. time + hold ≤ clock) h

-- And the other way round.
pub has_waited : (hold clock : ℕ) (times : Times) (position time : ℕ) → get times position ≡ Some time → time + hold ≤ clock →
    HasWaited hold clock times position
has_waited hold clock times position time is le =
    subst (λ (o : Option ℕ). IsSomeAnd o (λ time. time + hold ≤ clock)) (sym is) le

-- It still has later, and where other words come and go.
pub still_waited : (hold clock clock' : ℕ) (times times' : Times) (position : ℕ) → clock ≤ clock' →
    get times' position ≡ get times position → HasWaited hold clock times position → HasWaited hold clock' times' position
still_waited hold clock clock' times times' position le same h =
    let s = waited_since hold clock times position h in
    has_waited hold clock' times' position s.0 (same ∙ s.1) (let e = s.2 in omega arith)

-- The highs in the queue lie at least as far apart as their numbers.
pub spread : (w : WaitingState) (mark : ℕ) (times : Times) → Remembers w mark times → (k number : ℕ) → number ≡ w.first + k →
    IsQueued w number → high w w.first + k ≤ high w number
spread w mark times p zero number is queued =
    let same : number ≡ w.first = omega arith in
    let there : high w number ≡ high w w.first = ap (λ (n : ℕ). high w n) same in
    omega arith
spread w mark times p (suc k) number is queued =
    let before : IsQueued w (number - 1) = (omega arith, omega arith) in
    let far : high w w.first + k ≤ high w (number - 1) = spread w mark times p k (number - 1) (omega arith) before in
    let up : high w (number - 1) < high w number = p.rising (number - 1) number before queued (omega arith) in
    omega arith

-- None has waited longer than the oldest.
pub oldest_first : (w : WaitingState) (mark : ℕ) (times : Times) → Remembers w mark times → (number : ℕ) → IsQueued w number →
    since w (high w w.first) ≤ since w (high w number)
oldest_first w mark times p number queued = ⊎_elim
    (λ (past : w.first < number).
    let below = queued.1 in
    p.later w.first number (omega arith, omega arith) queued past)
    (λ (up_to : number ≤ w.first).
    let from = queued.0 in
    let same : number ≡ w.first = omega arith in
    let there : since w (high w number) ≡ since w (high w w.first) = ap (λ (n : ℕ). since w (high w n)) same in
    omega arith)
    (cases_lt w.first number)
