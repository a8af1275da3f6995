-- The case of a desk, cut to a smaller window.
use Rattle.std.proofs.Common.{◌≡◌, ◌⊎◌, ◌↔◌, ◌+◌, ◌-◌, ◌*◌, ◌<◌, ◌≤◌, ℕ, List, length, max, Some, inl, inr, sym, ap, subst, ◌∙◌, ⊎_elim, arith, below_more}
use Rattle.std.proofs.lemmas.Bool.{cases_lt}
use Rattle.std.proofs.lemmas.Option.{get_or_from_slice_get, slice_get-get_or, slice_get_within, same_Some}
use Rattle.std.specs.List.{Contains, slice_get}
use Rattle.fg_shape.specs.declared.Shape.{Shape}
use Rattle.fg_peel.proofs.Lists.{Contains-map, Contains-from_map}
use Rattle.fg_playout.specs.State.{State, live_equations}
use Rattle.fg_runs.specs.Runs.{InRuns, AreApart, AreRunsOf}
use Rattle.fg_closure.specs.Holes.{IsHole, rule_of, rules_of}

-- The position behind the last slot of a line.
abbrev pub rule_end : ℕ × Shape → ℕ
rule_end rule = rule.0 + (rule.1.na - 1) * rule.1.offset + 1

-- Up to where a window is looked at, as far as the first lines tell.
pub record IsEnd (mark count : ℕ) (lines : List (ℕ × Shape)) (i end : ℕ) : Type 0 where
  pub window : mark + count ≤ end
  pub above : (k : ℕ) (rule : ℕ × Shape) → k < i → slice_get lines k ≡ Some rule → rule_end rule ≤ end
  pub told : (end ≡ mark + count) ⊎ ((k : ℕ) × (rule : ℕ × Shape) × (slice_get lines k ≡ Some rule) × (end ≡ rule_end rule))

pub end_begins : (mark count end wide long : ℕ) (lines : List (ℕ × Shape)) → wide ≡ mark → long ≡ count → end ≡ wide + long
    → IsEnd mark count lines 0 end
end_begins mark count end wide long lines same same' is = record {
  window = omega (arith, same, same', is);
  above = λ k rule below at. absurd (omega (arith, below));
  told = inl (omega (arith, same, same', is));
}

pub end_on : (mark count i end more last : ℕ) (lines : List (ℕ × Shape)) (rule : ℕ × Shape) → slice_get lines i ≡ Some rule → last ≡ rule_end rule
    → more ≡ max end last → IsEnd mark count lines i end → IsEnd mark count lines (i + 1) more
end_on mark count i end more last lines rule here last_is is before =
    let window = before.window in record {
      window = omega (arith, is, window);
      above = λ k other below at.
          below_more (λ (n : ℕ). (r : ℕ × Shape) → slice_get lines n ≡ Some r → rule_end r ≤ more) i
          (λ n less r at'. let low = before.above n r less at' in omega (arith, is, low))
          (λ r at'. let same = ap rule_end (same_Some rule r (sym here ∙ at')) in omega (arith, is, last_is, same))
          k below other at;
      told = ⊎_elim
          (λ grows. inr (i, rule, here, omega (arith, is, grows, last_is)))
          (λ stays. (let e : more ≡ end = omega (arith, is, stays) in ⊎_elim
          (λ w. inl (e ∙ w))
          (λ line. inr (line.0, line.1, line.2, e ∙ line.3))
          before.told))
          (cases_lt end last);
    }

-- An element of a list stands at its number.
got_of : {X : Type 0} (xs : List X) (x : X) → Contains xs x → (k : ℕ) × (k < length xs) × (slice_get xs k ≡ Some x)
got_of xs x c = (c.0, c.1, slice_get-get_or xs c.0 x c.1 ∙ ap (λ y. Some y) c.2)

listed_of : {X : Type 0} (xs : List X) (k : ℕ) (x : X) → slice_get xs k ≡ Some x → Contains xs x
listed_of xs k x is = (k, slice_get_within xs k x is, get_or_from_slice_get xs k x x is)

-- A hole of the smaller window is one of the greater that lies below the end.
pub hole_cut : (desk : State) (old count i end : ℕ) (lines : List (ℕ × Shape)) → lines ≡ rules_of desk → count ≤ old → length lines ≤ i
    → IsEnd desk.mark count lines i end → (position : ℕ) → (IsHole desk old position × (position < end)) ↔ IsHole desk count position
hole_cut desk old count i end lines same fewer all is position = (
  λ hole. (
      let below = hole.1 in
      record {
        looked_at = record {
          ahead = hole.0.looked_at.ahead;
          near = ⊎_elim
              (λ window. inl (omega (arith, below, window)))
              (λ line. inr (
              let c : Contains (rules_of desk) line.1 = subst (λ (l : List (ℕ × Shape)). Contains l line.1) same (listed_of lines line.0 line.1 line.2) in
              let from = Contains-from_map rule_of (live_equations desk) line.1 c in
              let ends : rule_end (rule_of from.0) ≡ rule_end line.1 = ap rule_end from.2 in
              let e = line.3 in
              (from.0, from.1, omega (arith, below, ends, e))
              ))
              is.told;
        };
        underivable = hole.0.underivable;
      }
      ),
  λ hole. (
    record {
      looked_at = record {
        ahead = hole.looked_at.ahead;
        near = ⊎_elim (λ window. inl (omega (arith, window, fewer))) (λ equation. inr equation) hole.looked_at.near;
      };
      underivable = hole.underivable;
    },
    ⊎_elim
        (λ inside. (let window = is.window in omega (arith, inside, window)))
        (λ equation. (
        let c : Contains lines (rule_of equation.0) = subst (λ (l : List (ℕ × Shape)). Contains l (rule_of equation.0)) (sym same)
        (Contains-map rule_of (live_equations desk) equation.0 equation.1) in
        let got = got_of lines (rule_of equation.0) c in
        let low = is.above got.0 (rule_of equation.0) (omega (arith, got.1, all)) got.2 in
        let upto = equation.2 in
        omega (arith, low, upto)
        ))
        hole.looked_at.near,
  ),
)

-- The holes of the smaller window are the runs that are left.
pub holes_cut : (desk : State) (old count i end : ℕ) (lines : List (ℕ × Shape)) (before after : List (ℕ × ℕ)) → lines ≡ rules_of desk → count ≤ old
    → length lines ≤ i → IsEnd desk.mark count lines i end → AreRunsOf (IsHole desk old) before → (AreApart before → AreApart after)
    → (AreApart before → (position : ℕ) → InRuns after position ↔ (InRuns before position × (position < end))) → AreRunsOf (IsHole desk count) after
holes_cut desk old count i end lines before after same fewer all is runs apart below = record {
  apart = apart runs.apart;
  inside = λ position.
      let cut = hole_cut desk old count i end lines same fewer all is position in
      let here = below runs.apart position in (
        λ inside. (let both = here.0 inside in cut.0 ((runs.inside position).0 both.0, both.1)),
        λ hole. (let both = cut.1 hole in here.1 ((runs.inside position).1 both.0, both.1)),
      );
}
