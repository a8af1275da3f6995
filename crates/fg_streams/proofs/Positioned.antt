-- Each position is received or lost.
use Rattle.std.proofs.Common.{◌≡◌, ⊎_elim, ℕ, suc, zero, ◌+◌, ◌-◌, ◌%◌, ◌<◌, ◌≤◌, Bool, true, false, ◌&&◌, cond, leb, ltb, Option, Some, None, List, [], ◌∷◌, ◌++◌, length, get_or, replicate, set, refl, sym, ap, ◌∙◌, arith}
use Rattle.std.specs.Option.{is_none, is_some, option_or}
use Rattle.std.specs.List.{count_by}
use Rattle.std.proofs.lemmas.Bool.{cases_lt, leb-true}
use Rattle.std.proofs.lemmas.List.Sums.{sum_by-cons}
use Rattle.fg_unwrap.specs.Position.{position_of}
use Rattle.fg_streams.specs.declared.fates.Fate.{Fate}
use Rattle.fg_streams.specs.declared.span.Span.{Span}
use Rattle.fg_streams.specs.Arrival.{Arrival, in_time, position_in, raised, span_of, time_at, time_if_at}
use Rattle.fg_streams.specs.Bursts.{times_in, times_of}
use Rattle.fg_streams.specs.Fates.{counts_of, expected_in, fate_after, fate_at, fate_in, fates_of, is_received}
use Rattle.fg_streams.specs.Laws.{CountsPositions}
use Rattle.fg_streams.specs.Steps.{fate_by, received_at, times_after}
use Rattle.fg_streams.proofs.Positions.{all_times, fate_ahead, fate_behind, fate_here, fate_level, fate_then, how_many, or_none, same_times, times_ahead, times_here, times_then}
use Rattle.fg_streams.proofs.Received.{first_times}

abbrev came : List (Option ℕ) → ℕ
came times = count_by is_some times

one : Option ℕ → ℕ
one t = cond (is_some t) 1 0

came_cons : (t : Option ℕ) (times : List (Option ℕ)) → came (t ∷ times) ≡ cond (is_some t) 1 0 + came times
came_cons t times = sum_by-cons (λ (o : Option ℕ). cond (is_some o) 1 0) t times

came_append : (xs ys : List (Option ℕ)) → came (xs ++ ys) ≡ came xs + came ys
came_append [] ys = omega arith
came_append (x ∷ xs) ys =
    let both = came_cons x (xs ++ ys) in
    let own = came_cons x xs in
    let rest = came_append xs ys in
    omega (arith, both, own, rest)

came_none : (n : ℕ) → came (replicate n None) ≡ 0
came_none zero = refl
came_none (suc n) = let both = came_cons None (replicate n None) in let rest = came_none n in omega (arith, both, rest)

came_one : (t : ℕ) → came (Some t ∷ []) ≡ 1
came_one t = refl

came_set : (times : List (Option ℕ)) (i t : ℕ) → i < length times → get_or times i None ≡ None → came (set times i (Some t)) ≡ 1 + came times
came_set [] i t inside free = absurd (omega (arith, inside))
came_set (x ∷ times) zero t inside free =
    let after = came_cons (Some t) times in
    let before = came_cons x times in
    let none : cond (is_some x) 1 0 ≡ 0 = ap (λ (o : Option ℕ). cond {A = ℕ} (is_some o) 1 0) free in
    omega (arith, after, before, none)
came_set (x ∷ times) (suc i) t inside free =
    let after = came_cons x (set times i (Some t)) in
    let before = came_cons x times in
    let rest = came_set times i t (omega (arith, inside)) free in
    omega (arith, after, before, rest)

all_or_none : (times : List (Option ℕ)) → came times + count_by is_none times ≡ length times
all_or_none [] = refl
all_or_none (None ∷ times) =
    let here = came_cons None times in
    let not_here = sum_by-cons (λ (o : Option ℕ). cond (is_none o) 1 0) None times in
    let rest = all_or_none times in
    omega (arith, here, not_here, rest)
all_or_none (Some t ∷ times) =
    let here = came_cons (Some t) times in
    let not_here = sum_by-cons (λ (o : Option ℕ). cond (is_none o) 1 0) (Some t) times in
    let rest = all_or_none times in
    omega (arith, here, not_here, rest)

-- A datagram that comes in time

abbrev counted : Fate → ℕ
counted fate = cond (is_received fate) 1 0

step_at : (s : Span) (p t : ℕ) (times : List (Option ℕ)) (o : Option ℕ) → p ≤ s.top → p - s.first < length times → get_or times (p - s.first) None ≡ o
    → came (received_at (p - s.first) t times o) ≡ counted (fate_at s p o) + came times
step_at s p t times (Some u) within inside is = omega arith
step_at s p t times None within inside is =
    let more = came_set times (p - s.first) t inside is in
    ⊎_elim
    (λ (below : p < s.top). let one = ap counted (fate_behind s p below) in omega (arith, more, one))
    (λ (level : s.top ≤ p). let one = ap counted (fate_level s p level) in omega (arith, more, one))
    (cases_lt p s.top)

step : (s : Span) (p t : ℕ) (times : List (Option ℕ)) → (p ≤ s.top → p - s.first < length times) → came (times_after s p t times) ≡ counted (fate_by s p times) + came times
step s p t times inside = ⊎_elim
    (λ (above : s.top < p).
    let lost : List (Option ℕ) = replicate (p - s.top - 1) None in
    let all = ap came (times_ahead s p times t above) in
    let parts = came_append (times ++ lost) (Some t ∷ []) in
    let front = came_append times lost in
    let none = came_none (p - s.top - 1) in
    let last = came_one t in
    let fate = ap counted (fate_ahead s p times above) in
    omega (arith, all, parts, front, none, last, fate))
    (λ (within : p ≤ s.top).
    let o = get_or times (p - s.first) None in
    let all = ap came (times_here s p times t o within refl) in
    let fate = ap counted (fate_here s p times o within refl) in
    let here = step_at s p t times o within (inside within) refl in
    omega (arith, all, fate, here))
    (cases_lt s.top p)

-- Its position is no less than the first

chosen : (b : Bool) (p q : ℕ) → Some p ≡ cond b (Some q) None → (b ≡ true) × (p ≡ q)
chosen true p q h = (refl, cc)
chosen false p q h = absurd cc

first_part : (a b : Bool) → (a && b) ≡ true → a ≡ true
first_part true b h = refl
first_part false b h = absurd cc

from_first : (s : Span) (o : Option ℕ) (p : ℕ) → Some p ≡ in_time s o → s.first ≤ p
from_first s None p h = absurd cc
from_first s (Some q) p h =
    let c = chosen (leb s.first q && ltb s.top (q + 1024)) p q h in
    let least = leb-true s.first q (first_part (leb s.first q) (ltb s.top (q + 1024)) c.0) in
    omega (arith, least, c.1)

-- All of them

by_position : (before : List Arrival) (a : Arrival) (s : Span) (o : Option ℕ) → Some s ≡ span_of before → o ≡ position_in (Some s) a.seq
    → came (times_of (a ∷ before)) ≡ counted (fate_after before a) + came (times_of before)
by_position before a s None known late =
    let unplaced : position_in (span_of before) a.seq ≡ None = ap (λ (t : Option Span). position_in t a.seq) (sym known) ∙ sym late in
    let same : Some s ≡ span_of (a ∷ before) = ap (λ (t : Option ℕ). Some (raised (Some s) a.seq t)) late ∙ ap (λ (t : Option Span). Some (raised t a.seq (position_in t a.seq))) known in
    let stays = same_times a before s s refl refl (λ q. ap (λ (t : Option ℕ). option_or (time_at before q) (time_if_at t a.time q)) unplaced ∙ or_none (time_at before q)) in
    let times = ap came (all_times (a ∷ before) s same ∙ stays ∙ sym (all_times before s known)) in
    let fate = ap counted (ap (λ (t : Option ℕ). fate_in before (span_of before) t) unplaced) in
    omega (arith, times, fate)
by_position before a s (Some p) known place =
    let from = from_first s (position_of s.top (s.top % 65536) a.seq) p place in
    let was = all_times before s known in
    let long = how_many before s in
    let times = ap came (times_then before a s p known place from) in
    let fate = ap counted (fate_then before a s p known place from) in
    let more = step s p a.time (times_in before (Some s)) (λ within. omega (arith, long, within, from)) in
    let same = ap came was in
    omega (arith, times, fate, more, same)

received_all : (h : List Arrival) → (counts_of (fates_of h)).received ≡ came (times_of h)
received_all [] = refl
received_all (a ∷ []) =
    let now = ap came (first_times a) in
    let own = sum_by-cons (λ (f : Fate). cond (is_received f) 1 0) (fate_after [] a) (fates_of []) in
    omega (arith, now, own)
received_all (a ∷ b ∷ h) =
    let before = b ∷ h in
    let s = raised (span_of h) b.seq (position_in (span_of h) b.seq) in
    let rest = received_all (b ∷ h) in
    let own = sum_by-cons (λ (f : Fate). cond (is_received f) 1 0) (fate_after before a) (fates_of before) in
    let more = by_position before a s (position_in (Some s) a.seq) refl refl in
    omega (arith, rest, own, more)

expected_all : (h : List Arrival) (o : Option Span) → expected_in o ≡ length (times_in h o)
expected_all h None = refl
expected_all h (Some s) = sym (how_many h s)

pub counts_positions : CountsPositions
counts_positions h =
    let expected = expected_all h (span_of h) in
    let received = received_all h in
    let both = all_or_none (times_of h) in
    (expected, received, omega (arith, expected, received, both))
