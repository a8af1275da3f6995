use Rattle.std.proofs.Common.{◌≡◌, ◌≤◌, ℕ, ◌-◌, ◌+◌, Option, None, Some, List, length, get_or, sym, ap, ◌∙◌, subst, arith}
use Rattle.fg_streams.specs.Steps.{Keeps}
use Rattle.fg_streams.proofs.Timing.{kept}
use Rattle.fg_streams.proofs.Positions.{fate_here, times_here}
use Rattle.fg_streams.proofs.receiving.receive_behind.Goals as goal

-- the slot, from the end and from the first position
slot : (all : List (Option ℕ)) (first top place : ℕ) → place ≤ top → first ≤ place → length all ≡ top - first + 1 → length all - 1 - (top - place) ≡ place - first
slot all first top place behind within long = omega (arith, behind, within, long)

got_at : (all : List (Option ℕ)) (first top place : ℕ) (o r : Option ℕ) → place ≤ top → first ≤ place → length all ≡ top - first + 1 → r ≡ get_or all (length all - 1 - (top - place)) None → r ≡ o → get_or all (place - first) None ≡ o
got_at all first top place o r behind within long got is = ap (λ i. get_or all i None) (sym (slot all first top place behind within long)) ∙ sym got ∙ is

pub get-requires : goal.get-requires
get-requires c =
    let known = c.requires.known in
    let s = c.args.span in
    kept c.args.times.now.gaps c.args.times.now.recent known.0 (s.top - c.args.place) (omega (arith, c.requires.in_time)) (omega (arith, c.requires.behind, c.requires.within, known.2)) known.1

pub returns-in-Some-clause-fate : goal.returns-in-Some-clause-fate
returns-in-Some-clause-fate c = λ all h long.
    let s = c.args.span in
    sym (fate_here s c.args.place all (Some c.in-Some.field-0) c.requires.behind (got_at all s.first s.top c.args.place _ _ c.requires.behind c.requires.within long (c.get.ensures all h) c.in-Some.is))

pub returns-in-Some-clause-times : goal.returns-in-Some-clause-times
returns-in-Some-clause-times c = λ all h long.
    let s = c.args.span in
    subst (λ (t : List (Option ℕ)). Keeps c.args.times.now t)
    (sym (times_here s c.args.place all c.args.time (Some c.in-Some.field-0) c.requires.behind (got_at all s.first s.top c.args.place _ _ c.requires.behind c.requires.within long (c.get.ensures all h) c.in-Some.is))) h
