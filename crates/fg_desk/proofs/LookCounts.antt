-- Each look leaves fewer lines open, or fewer places queued.
use Rattle.std.proofs.Common.{◌≡◌, ◌⊎◌, ◌+◌, ◌*◌, ◌<◌, ◌≤◌, ◌∷◌, [], ℕ, Bool, true, false, List, length, get_or, set, cond, not, Some, inl, inr, refl, sym, ap, subst, ◌∙◌, ⊎_elim, arith}
use Rattle.std.specs.Prelude.{count_by}
use Rattle.std.proofs.lemmas.List.{length-set}
use Rattle.std.proofs.lemmas.List.Sums.{sum_by-cons, sum_by-set, count_by-le-length}
use Rattle.std.specs.FinMap.{FinMap, get, entries}
use Rattle.std.specs.FinSet as fset
use Rattle.std.specs.List.{Contains}
use Rattle.std.specs.Ordering.{nat_cmp}
use Rattle.fg_peel.specs.declared.looks.Look.{Look}
use Rattle.fg_peel.specs.declared.looks.Look.TheVariants.{Several, Found, Complete}
use Rattle.fg_peel.proofs.Lists.{Contains-nil, Contains-cases}
use Rattle.fg_peel.proofs.Maps.{entry_of_get}
use Rattle.fg_playout.specs.State.{Live}
use Rattle.fg_buffer.specs.PlayoutBuffer.{BufferState}
use Rattle.fg_buffer.specs.LiveEquations.{LiveState, SettlesAt}
use Rattle.fg_buffer.specs.Watches.{WatchState, TakesOut}
use Rattle.fg_desk.specs.Watched.{Follows, IsVisit, IsPassed}
use Rattle.fg_desk.proofs.WatchedLines.{open_before}

abbrev pub queue_count : WatchState → ℕ
queue_count watches = count_by (λ (queued : Bool). queued) watches.queued

-- The test of an entry of the live equations: it is open.
abbrev is_open : fset.FinSet nat_cmp → ℕ × Live → Bool
is_open settled entry = not (fset.contains settled entry.0)

abbrev pub open_count : LiveState → ℕ
open_count lines = count_by (is_open lines.settled) (entries lines.live)

-- What falls with each look.
abbrev pub left_to_look : LiveState → WatchState → ℕ
left_to_look lines watches = open_count lines * 513 + queue_count watches

-- Where fewer pass a test.
ones : (one other : Bool) → (one ≡ true → other ≡ true) → cond one 1 0 ≤ cond other 1 0
ones true true h = omega arith
ones true false h = let e : false ≡ true = h refl in absurd (cc)
ones false true h = omega arith
ones false false h = omega arith

module _ {X : Type 0} (P Q : X → Bool) (fewer : (x : X) → Q x ≡ true → P x ≡ true) where
  count_less : (xs : List X) → count_by Q xs ≤ count_by P xs
  count_less [] = omega arith
  count_less (x ∷ xs) =
      let one = sum_by-cons (λ y. cond (Q y) 1 0) x xs in
      let two = sum_by-cons (λ y. cond (P y) 1 0) x xs in
      let here = ones (Q x) (P x) (fewer x) in
      let rest = count_less xs in
      omega (arith, one, two, here, rest)

  count_fewer : (xs : List X) (x : X) → Contains xs x → P x ≡ true → Q x ≡ false → count_by Q xs + 1 ≤ count_by P xs
  count_fewer [] x c holds fails = absurd (Contains-nil x c)
  count_fewer (y ∷ xs) x c holds fails =
      let one = sum_by-cons (λ z. cond (Q z) 1 0) y xs in
      let two = sum_by-cons (λ z. cond (P z) 1 0) y xs in
      ⊎_elim
      (λ (same : x ≡ y).
      let p : ◌≡◌ {A = ℕ} (cond (P y) 1 0) 1 = ap (λ (b : Bool). cond b 1 0) (ap P (sym same) ∙ holds) in
      let q : ◌≡◌ {A = ℕ} (cond (Q y) 1 0) 0 = ap (λ (b : Bool). cond b 1 0) (ap Q (sym same) ∙ fails) in
      let rest = count_less xs in
      omega (arith, one, two, p, q, rest))
      (λ later.
      let here = ones (Q y) (P y) (fewer y) in
      let rest = count_fewer xs x later holds fails in
      omega (arith, one, two, here, rest))
      (Contains-cases y xs x c)

not_true : (b : Bool) → not b ≡ true → b ≡ false
not_true true is = absurd (cc)
not_true false is = refl

-- A line that is settled is no more open.
open_fewer :
    (place : ℕ) (old new : LiveState) → SettlesAt place old new → (serial : ℕ) (live : Live) → get old.live serial ≡ Some live
    → fset.contains old.settled serial ≡ false → live.place ≡ place → open_count new + 1 ≤ open_count old
open_fewer place old new settles serial live is open_still same =
    subst (λ (m : FinMap nat_cmp Live). count_by (is_open new.settled) (entries m) + 1 ≤ open_count old) (sym settles.live)
    (count_fewer (is_open old.settled) (is_open new.settled)
    (λ entry holds. ap not (open_before place old new settles entry.0 (not_true (fset.contains new.settled entry.0) holds)))
    (entries old.live) (serial, live) (entry_of_get old.live serial live is) (ap not open_still)
    (ap not ((settles.settled serial).1 (inr (live, is, same)))))

queue_fewer : (place : ℕ) (old new : WatchState) → TakesOut place old new → queue_count new + 1 ≡ queue_count old
queue_fewer place old new out =
    let size = out.count in
    let less = out.within in
    let within : place < length old.queued = omega (arith, size, less) in
    let changed = sum_by-set (λ (b : Bool). cond b 1 0) old.queued place false false within in
    let was : ◌≡◌ {A = ℕ} (cond (get_or old.queued place false) 1 0) 1 = ap (λ (b : Bool). cond b 1 0) out.was in
    let is : queue_count new ≡ count_by (λ (b : Bool). b) (set old.queued place false) =
    ap (λ (bs : List Bool). count_by (λ (b : Bool). b) bs) out.taken in
    omega (arith, changed, was, is)

module _
    (buffer new : BufferState) (now left : LiveState) (watches taken then : WatchState) (place : ℕ) (answer : Bool)
    (out : TakesOut place watches taken) where
  few_queued : then.queued ≡ taken.queued ⊎ (length then.queued ≡ 512) → queue_count then ≤ 512
  few_queued at =
      let size : length then.queued ≡ 512 = ⊎_elim
      (λ same. ap length same ∙ ap length out.taken ∙ length-set watches.queued place false ∙ out.count) (λ is. is) at in
      let most = count_by-le-length (λ (b : Bool). b) then.queued in
      omega (arith, size, most)

  taken_size : length taken.queued ≡ 512
  taken_size = ap length out.taken ∙ length-set watches.queued place false ∙ out.count

  -- The same lines are open, and one place less is queued.
  by_queue : left ≡ now → then.queued ≡ taken.queued → left_to_look left then < left_to_look now watches
  by_queue lines queue =
      let a : open_count left ≡ open_count now = ap open_count lines in
      let b : queue_count then ≡ queue_count taken = ap (λ (bs : List Bool). count_by (λ (b : Bool). b) bs) queue in
      let c = queue_fewer place watches taken out in
      omega (arith, a, b, c)

  by_lines : open_count left + 1 ≤ open_count now → queue_count then ≤ 512 → left_to_look left then < left_to_look now watches
  by_lines fewer few = omega (arith, fewer, few)

  pub fewer_left :
      IsPassed place buffer now taken new left then answer ⊎ IsVisit place buffer now taken new left then answer
      → left_to_look left then < left_to_look now watches
  fewer_left either = ⊎_elim
      (λ passed. by_queue passed.lines_are (ap (λ (w : WatchState). w.queued) passed.watches_are))
      (λ visit. go visit visit.look visit.follows)
      either
    where
      fewer :
          (visit : IsVisit place buffer now taken new left then answer) → SettlesAt place now left
          → open_count left + 1 ≤ open_count now
      fewer visit settles = open_fewer place now left settles visit.serial visit.live visit.is visit.open_still visit.placed

      go :
          (visit : IsVisit place buffer now taken new left then answer) (look : Look) → Follows look place now taken left then answer
          → left_to_look left then < left_to_look now watches
      go visit (Several first second) follows = by_queue follows.0 follows.1.queued
      go visit (Found position media) follows =
          by_lines (fewer visit follows.0)
          (few_queued (inr (follows.1.2.count (ap length follows.1.1.queued ∙ taken_size))))
      go visit (Complete true) follows = by_lines (fewer visit follows.0) (few_queued (inl follows.1.queued))
      go visit (Complete false) follows = by_queue follows.0 follows.1.queued
