-- Lemmas on runs that are in order.
use Rattle.std.proofs.Common.{◌≡◌, ◌↔◌, ◌+◌, ◌-◌, ◌<◌, ◌≤◌, ℕ, zero, suc, List, [], ◌∷◌, Some, Option, IfSome, IsTrue, leb, ltb, length, drop, slice_get, refl, sym, ap, subst, inl, inr, arith, drop-cons, add-one}
use Rattle.std.specs.Bool.{⊤}
use Rattle.std.specs.List.{AllByRecursion}
use Rattle.std.proofs.lemmas.Bool.{leb-true, le-leb, ltb-true, lt-ltb}
use Rattle.std.proofs.lemmas.List.Elements.{All-from_recursion, recursion_from_All}
use Rattle.std.proofs.lemmas.Option.{none-some, same_Some, slice_get_within, get_or_from_slice_get}
use Rattle.fg_shape.specs.Shape.{position_limit}
use Rattle.fg_runs.specs.Runs.{run_end, AreApart, InRuns}
use Rattle.fg_proof.specs.Judgement.{AreInOrder}

-- The run ends before the next one, if there is one, begins.
abbrev EndsBefore : ℕ × ℕ → List (ℕ × ℕ) → Type 0
EndsBefore run [] = ⊤
EndsBefore run (next ∷ more) = run_end run < next.0

-- What is left from a run on: it, and then the rest.
pub drop_at : {X : Type 0} (xs : List X) (i : ℕ) (x : X) → slice_get xs i ≡ Some x → drop i xs ≡ x ∷ drop (i + 1) xs
drop_at xs i x is = rw (add-one, drop-cons xs i x (slice_get_within xs i x is)) (ap (λ y. y ∷ drop (suc i) xs) (get_or_from_slice_get xs i x x is))

-- Runs rise with gaps between them, none is empty, none goes past the greatest position, and none begins before a least one.
abbrev pub RiseFrom : ℕ → List (ℕ × ℕ) → Type 0
RiseFrom least [] = ⊤
RiseFrom least (run ∷ more) =
    (least ≤ run.0) × (0 < run.1) × (run_end run ≤ position_limit + 1) × RiseFrom (run_end run + 1) more

abbrev BeginFrom : ℕ → List (ℕ × ℕ) → Type 0
BeginFrom least [] = ⊤
BeginFrom least (run ∷ more) = least ≤ run.0

ends_before : (run : ℕ × ℕ) (more : List (ℕ × ℕ)) → RiseFrom (run_end run + 1) more → EndsBefore run more
ends_before run [] rise = tt
ends_before run (next ∷ more) rise = omega (arith, rise.0)

begin_behind : (run : ℕ × ℕ) (more : List (ℕ × ℕ)) → EndsBefore run more → BeginFrom (run_end run + 1) more
begin_behind run [] before = tt
begin_behind run (next ∷ more) before = omega (arith, before)

apart_from_rise : (least : ℕ) (runs : List (ℕ × ℕ)) → RiseFrom least runs → AreApart runs
apart_from_rise least [] rise = tt
apart_from_rise least (run ∷ more) rise =
    (rise.1, ends_before run more rise.3, apart_from_rise (run_end run + 1) more rise.3)

abbrev IsWithin : ℕ × ℕ → Type 0
IsWithin run = run_end run ≤ position_limit + 1

within_from_rise : (least : ℕ) (runs : List (ℕ × ℕ)) → RiseFrom least runs → AllByRecursion IsWithin runs
within_from_rise least [] rise = tt
within_from_rise least (run ∷ more) rise = (rise.2, within_from_rise (run_end run + 1) more rise.3)

rise_from : (least : ℕ) (runs : List (ℕ × ℕ)) → BeginFrom least runs → AreApart runs → AllByRecursion IsWithin runs → RiseFrom least runs
rise_from least [] begin apart within = tt
rise_from least (run ∷ more) begin apart within =
    (begin, apart.0, within.0, rise_from (run_end run + 1) more (begin_behind run more apart.1) apart.2 within.1)

begin_at_zero : (runs : List (ℕ × ℕ)) → BeginFrom 0 runs
begin_at_zero [] = tt
begin_at_zero (run ∷ more) = omega arith

pub order_rises : (runs : List (ℕ × ℕ)) → AreInOrder runs ↔ RiseFrom 0 runs
order_rises runs = (
  λ order. rise_from 0 runs (begin_at_zero runs) order.apart (recursion_from_All IsWithin runs order.within),
  λ rise. record { apart = apart_from_rise 0 runs rise; within = All-from_recursion IsWithin runs (within_from_rise 0 runs rise) },
)

-- What is left of a loop over runs is what is left behind the run that it looks at.
pub rises_more :
    (P : Type 0) (runs : List (ℕ × ℕ)) (i least : ℕ) (run : ℕ × ℕ) → slice_get runs i ≡ Some run → least ≤ run.0 → 0 < run.1
    → run_end run ≤ position_limit + 1 → (P ↔ RiseFrom least (drop i runs)) → P ↔ RiseFrom (run_end run + 1) (drop (i + 1) runs)
rises_more P runs i least run is above some within same =
    let at = subst (λ (rs : List (ℕ × ℕ)). P ↔ RiseFrom least rs) (drop_at runs i run is) same in
    (λ p. (at.0 p).3, λ rest. at.1 (above, some, within, rest))

pub rises_not :
    (P : Type 0) (runs : List (ℕ × ℕ)) (i least : ℕ) (run : ℕ × ℕ) → slice_get runs i ≡ Some run
    → (P ↔ RiseFrom least (drop i runs)) → P → (least ≤ run.0) × (0 < run.1) × (run_end run ≤ position_limit + 1)
rises_not P runs i least run is same p =
    let at = subst (λ (rs : List (ℕ × ℕ)). P ↔ RiseFrom least rs) (drop_at runs i run is) same in
    let rise = at.0 p in (rise.0, rise.1, rise.2)

pub drop_past : {X : Type 0} (xs : List X) (i : ℕ) → length xs ≤ i → drop i xs ≡ []
drop_past [] zero past = refl
drop_past [] (suc i) past = refl
drop_past (x ∷ xs) zero past = absurd (omega (arith, past))
drop_past (x ∷ xs) (suc i) past = drop_past xs i (omega (arith, past))

pub rises_all :
    (P : Type 0) (runs : List (ℕ × ℕ)) (i least : ℕ) → length runs ≤ i → (P ↔ RiseFrom least (drop i runs)) → P
rises_all P runs i least past same =
    let at = subst (λ (rs : List (ℕ × ℕ)). P ↔ RiseFrom least rs) (drop_past runs i past) same in at.1 tt

-- A run that stands in such a list isn't empty, and within the limit.
pub some_at : (runs : List (ℕ × ℕ)) (i : ℕ) (run : ℕ × ℕ) → AreApart runs → slice_get runs i ≡ Some run → 0 < run.1
some_at [] i run apart is = absurd (none-some run is)
some_at (first ∷ more) zero run apart is = subst (λ (r : ℕ × ℕ). 0 < r.1) (same_Some first run is) apart.0
some_at (first ∷ more) (suc i) run apart is = some_at more i run apart.2 is

pub run_at : (runs : List (ℕ × ℕ)) (i : ℕ) (run : ℕ × ℕ) → AreInOrder runs → slice_get runs i ≡ Some run → (0 < run.1) × (run_end run ≤ position_limit + 1)
run_at runs i run order is =
    (some_at runs i run order.apart is, subst IsWithin (get_or_from_slice_get runs i run run is) (order.within i run (slice_get_within runs i run is)))

-- A position of a run is in the runs.
pub in_run_at : (runs : List (ℕ × ℕ)) (i : ℕ) (run : ℕ × ℕ) (position : ℕ) → slice_get runs i ≡ Some run → run.0 ≤ position → position < run_end run → InRuns runs position
in_run_at [] i run position is from to = absurd (none-some run is)
in_run_at (first ∷ more) zero run position is from to =
    let P : ℕ × ℕ → Type 0 = λ r. (r.0 ≤ position) × (position < run_end r) in
    inl (subst P (sym (same_Some first run is)) (from, to))
in_run_at (first ∷ more) (suc i) run position is from to = inr (in_run_at more i run position is from to)

-- The runs behind one begin behind its end.
pub later : (run : ℕ × ℕ) (more : List (ℕ × ℕ)) → EndsBefore run more → AreApart more
    → (position : ℕ) → InRuns more position → run_end run < position
later run [] before apart position inside = elim inside [ ]
later run (next ∷ more) before apart position inside =
    elim inside [
      | inl here ↦ omega (arith, before, here.0)
      | inr there ↦ let after = later next more apart.1 apart.2 position there in omega (arith, before, after)
    ]

-- A position that isn't before a run's end, and in the runs, is in those behind it.
pub behind_run : (runs : List (ℕ × ℕ)) (i : ℕ) (run : ℕ × ℕ) (position : ℕ) → AreApart runs → slice_get runs i ≡ Some run
    → run_end run ≤ position → InRuns runs position → InRuns (drop (i + 1) runs) position
behind_run runs i run position apart is past inside = rw add-one (behind runs i apart is inside)
  where
    behind : (runs : List (ℕ × ℕ)) (i : ℕ) → AreApart runs → slice_get runs i ≡ Some run → InRuns runs position → InRuns (drop (suc i) runs) position
    behind [] i apart is inside = absurd (none-some run is)
    behind (first ∷ more) zero apart is inside =
        elim inside [
          | inl here ↦
              let P : ℕ × ℕ → Type 0 = λ r. run_end r ≤ position in
              let past' : run_end first ≤ position = subst P (sym (same_Some first run is)) past in absurd (omega (arith, past', here.1))
          | inr there ↦ there
        ]
    behind (first ∷ more) (suc i) apart is inside =
        elim inside [
          | inl here ↦
              let some = some_at more i run apart.2 is in
              let after = later first more apart.1 apart.2 run.0 (in_run_at more i run run.0 is (omega arith) (omega (arith, some))) in
              absurd (omega (arith, past, here.1, after))
          | inr there ↦ behind more i apart.2 is there
        ]

-- A position in the runs from one on is not before it.
pub from_run : (runs : List (ℕ × ℕ)) (i : ℕ) (run : ℕ × ℕ) (position : ℕ) → AreApart runs → slice_get runs i ≡ Some run
    → InRuns (drop i runs) position → run.0 ≤ position
from_run [] i run position apart is inside = absurd (none-some run is)
from_run (first ∷ more) zero run position apart is inside =
    let P : ℕ × ℕ → Type 0 = λ r. r.0 ≤ position in
    subst P (same_Some first run is)
    (elim inside [
      | inl here ↦ here.0
      | inr there ↦ let after = later first more apart.1 apart.2 position there in omega (arith, after)
    ])
from_run (first ∷ more) (suc i) run position apart is inside = from_run more i run position apart.2 is inside

-- There are no positions in what is left past the last run.
pub past_runs : (runs : List (ℕ × ℕ)) (i position : ℕ) → length runs ≤ i → InRuns (drop i runs) position → ⊥
past_runs runs i position past inside =
    let none : InRuns [] position = subst (λ (rs : List (ℕ × ℕ)). InRuns rs position) (drop_past runs i past) inside in
    elim none [ ]

-- A position before the end of a run, where no run before that one goes past it, is in the runs exactly if it isn't before that run.
pub reached : (runs : List (ℕ × ℕ)) (i : ℕ) (run : ℕ × ℕ) (position : ℕ) → AreApart runs → slice_get runs i ≡ Some run
    → ((other : ℕ) → position ≤ other → InRuns runs other → InRuns (drop i runs) other)
    → IfSome (slice_get runs i) (λ run. position < run_end run)
    → IsTrue (leb run.0 position) ↔ InRuns runs position
reached runs i run position apart is passed reaches =
    let past : position < run_end run = subst (λ (o : Option (ℕ × ℕ)). IfSome o (λ run. position < run_end run)) is reaches in (
      λ true. in_run_at runs i run position is (leb-true run.0 position true) past,
      λ inside. le-leb run.0 position (from_run runs i run position apart is (passed position (omega arith) inside)),
    )

-- There is a position from a mark on, and before the end of a window, in the runs, exactly if the first run that reaches past the mark
-- begins before that end.
pub claimed : (runs : List (ℕ × ℕ)) (i : ℕ) (run : ℕ × ℕ) (mark count gap window : ℕ) → AreApart runs → slice_get runs i ≡ Some run
    → ((other : ℕ) → mark ≤ other → InRuns runs other → InRuns (drop i runs) other)
    → IfSome (slice_get runs i) (λ run. mark < run_end run) → gap ≡ run.0 - mark → window ≡ count
    → IsTrue (ltb gap window) ↔ ((position : ℕ) × (mark ≤ position) × (position < mark + count) × InRuns runs position)
claimed runs i run mark count gap window apart is passed reaches gap_is window_is =
    let past : mark < run_end run = subst (λ (o : Option (ℕ × ℕ)). IfSome o (λ run. mark < run_end run)) is reaches in
    let some = some_at runs i run apart is in (
      λ true.
          let near = ltb-true gap window true in
          (mark + (run.0 - mark), omega arith, omega (arith, near), in_run_at runs i run _ is (omega arith) (omega (arith, past, some))),
      λ p.
          let from = from_run runs i run p.0 apart is (passed p.0 p.1 p.3) in
          lt-ltb gap window (omega (arith, from, p.1, p.2)),
    )
