-- Lemmas, which the states of the tests give as the laws of a guarded state. No contract reads them.
use Rattle.std.proofs.Common.{ℕ, ◌≤◌, List, [], ◌∷◌, ◌++◌, ◌∙◌, sym, ap, arith, length-append, append_assoc}
use Rattle.std.specs.Prelude.{Option, Some, None}
use mathlib.Core.List.{IsPrefix}
use Rattle.fg_turn.specs.Entries.{Entry}
use Rattle.fg_crew_tests.specs.Examples.{Raises, Counts, Reached, Takes, IsLeft, WasSeen}

pub counts_entry : (calls : List Entry) (entry : Entry) (a b a' b' : ℕ) → Counts calls a b
    → Raises (Some entry) a b a' b' → Counts (calls ++ entry ∷ []) a' b'
counts_entry calls entry a b a' b' is step =
    let n = length-append calls (entry ∷ []) in let e = is.0 in let le = is.1 in
    let s = step.0 in let t = step.1 in (omega arith, omega arith)

pub counts_step : (calls : List Entry) (a b a' b' : ℕ) → Counts calls a b → Raises None a b a' b'
    → Counts calls a' b'
counts_step calls a b a' b' is step =
    let e = is.0 in let s = step.0 in let t = step.1 in (omega arith, omega arith)

rises : (entry : Option Entry) (calls : List Entry) (a b a' b' : ℕ) → Counts calls a b
    → Raises entry a b a' b' → b ≤ b'
rises (Some entry) calls a b a' b' is step = let t = step.1 in omega arith
rises None calls a b a' b' is step = let t = step.1 in let le = is.1 in omega arith

pub reached_rises : (told : List Entry) (b b' : ℕ) → b ≤ b' → Reached told b → Reached told b'
reached_rises [] b b' le r = tt
reached_rises (t ∷ ts) b b' le r = let l = r.0 in (omega arith, reached_rises ts b b' le r.1)

pub reached_stays : (told : List Entry) (entry : Option Entry) (calls : List Entry) (a b a' b' : ℕ)
    → Counts calls a b → Raises entry a b a' b' → Reached told b → Reached told b'
reached_stays told entry calls a b a' b' is step r =
    reached_rises told b b' (rises entry calls a b a' b' is step) r

pub reached_both : (first second : List Entry) (b : ℕ) → Reached first b → Reached second b
    → Reached (first ++ second) b
reached_both [] second b r q = q
reached_both (t ∷ ts) second b r q = (r.0, reached_both ts second b r.1 q)

shrinks : (entry : Option Entry) (old new : List ℕ) → Takes entry old new → IsPrefix new old
shrinks (Some entry) old new step = (entry, sym step)
shrinks None old new step = step

shorter : (xs ys zs : List ℕ) → IsPrefix xs ys → IsPrefix ys zs → IsPrefix xs zs
shorter xs ys zs p q = (p.0 ++ q.0, sym (append_assoc xs p.0 q.0) ∙ (ap (λ w. w ++ q.0) p.1 ∙ q.1))

pub left_entry : (calls : List Entry) (entry : Entry) (old new : List ℕ) → IsLeft calls old
    → Takes (Some entry) old new → IsLeft (calls ++ entry ∷ []) new
left_entry [] entry old new is step = absurd is
left_entry (opening ∷ taken) entry old new is step =
    shorter new old opening (shrinks (Some entry) old new step) is

pub left_step : (calls : List Entry) (old new : List ℕ) → IsLeft calls old → Takes None old new
    → IsLeft calls new
left_step [] old new is step = absurd is
left_step (opening ∷ taken) old new is step = shorter new old opening step is

pub seen_stays : (told : List Entry) (entry : Option Entry) (old new : List ℕ)
    → Takes entry old new → WasSeen told old → WasSeen told new
seen_stays [] entry old new step r = tt
seen_stays (t ∷ ts) entry old new step r =
    (shorter new old t (shrinks entry old new step) r.0, seen_stays ts entry old new step r.1)

pub seen_both : (first second : List Entry) (items : List ℕ) → WasSeen first items
    → WasSeen second items → WasSeen (first ++ second) items
seen_both [] second items r q = q
seen_both (t ∷ ts) second items r q = (r.0, seen_both ts second items r.1 q)

-- what was told last
pub seen_last : (told : List Entry) (last : Entry) (items : List ℕ)
    → WasSeen (told ++ last ∷ []) items → IsPrefix items last
seen_last [] last items r = r.0
seen_last (t ∷ ts) last items r = seen_last ts last items r.1
