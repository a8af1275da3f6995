-- The case of a desk tells all that it had, and is judged `Yes`.
use Rattle.std.proofs.Common.{◌≡◌, ◌+◌, ◌-◌, ◌<◌, ◌≤◌, ℕ, List, Option, IsSome, IsSomeAnd, get_or, inl, inr, sym, subst, ⊎_elim, arith}
use Rattle.std.specs.List.{Contains}
use Rattle.std.specs.FinMap.{get}
use Rattle.std.proofs.lemmas.Bool.{cases_lt, cases_Bool, both_ways}
use Rattle.std.proofs.lemmas.List.Elements.{All-contains, Contains-get_or}
use Rattle.std.proofs.lemmas.Option.{slice_get-get_or, slice_get_cases}
use Rattle.fg_shape.specs.declared.Shape.{Shape}
use Rattle.fg_shape.specs.Shape.{position_limit}
use Rattle.fg_shape.proofs.ShapeLemmas.{all_below_last}
use Rattle.fg_peel.specs.Equation.{Equation, slots}
use Rattle.fg_peel.specs.Laws.{ClosureHasTest}
use Rattle.fg_peel.proofs.Lists.{Contains-map, Contains-from_map}
use Rattle.fg_peel.proofs.Options.{value_of}
use Rattle.fg_playout.specs.State.{State, Live, known, live_equations, last_slot}
use Rattle.fg_playout.specs.Solution.{InClosure, given, derived}
use Rattle.fg_playout.specs.Facts.{Holds, IsLive}
use Rattle.fg_playout.specs.Room.{HasRoom}
use Rattle.fg_playout.specs.Laws.{ClosureIsPeelings}
use Rattle.fg_playout.proofs.Equations.{serial_of}
use Rattle.fg_playout.proofs.Orderly.{known_ahead, known_base, orderly_from_holds}
use Rattle.fg_runs.specs.Runs.{AreRunsOf, InRuns}
use Rattle.fg_closure.specs.Holes.{IsLookedAt, IsHole, HasMissing, rule_of}
use Rattle.fg_proof.specs.declared.case.Case.{Case}
use Rattle.fg_proof.specs.Case.{IsCase}
use Rattle.fg_proof.specs.Judgement.{AreInOrder, IsRule, IsInOrder, HasOneHole, IsAlone}
use Rattle.fg_proof.specs.Laws.{CasesTellAll, TrueCasesAreProved}
use Rattle.fg_proof.proofs.JudgingRuns.{in_run_at, some_at}

pub cases_tell_all : CasesTellAll
cases_tell_all port count desk case is = record {
  known_are = λ position some. (is.known_are.inside position).1 some;
  lines_are = λ equation listed.
      subst (λ (rules : List (ℕ × Shape)). Contains rules (rule_of equation)) (sym is.lines_are) (Contains-map rule_of (live_equations desk) equation listed);
}

-- The runs of a set within the limit are in order.
pub runs_in_order : (P : ℕ → Type 0) (runs : List (ℕ × ℕ)) → AreRunsOf P runs → ((position : ℕ) → P position → position ≤ position_limit) → AreInOrder runs
runs_in_order P runs are limit = record {
  apart = are.apart;
  within = λ k d below.
      let run = get_or runs k d in
      let is = slice_get-get_or runs k d below in
      let some = some_at runs k run are.apart is in
      let last = in_run_at runs k run (run.0 + run.1 - 1) is (omega (arith, some)) (omega (arith, some)) in
      let near = limit (run.0 + run.1 - 1) ((are.inside (run.0 + run.1 - 1)).0 last) in
      omega (arith, some, near);
}

module _ (desk : State) (holds : Holds desk) (room : HasRoom desk) (deep : desk.playout.depth ≤ 1000) where
  pub live_of : (equation : Equation) → Contains (live_equations desk) equation → (serial : ℕ) × (live : Live) × IsLive desk serial live × (live.equation ≡ equation)
  live_of equation listed = let r = serial_of desk equation listed in (r.0, r.1, holds.live r.0 r.1 r.2, r.3)

  pub known_limit : (position : ℕ) → IsSome (known desk position) → position ≤ position_limit
  known_limit position some = ⊎_elim
      (λ below. omega (arith, below, room.mark))
      (λ ahead.
      let v = value_of (get desk.media position) (subst IsSome (known_ahead desk position ahead) some) in
      let near = (holds.media position v.0 v.1).near in
      omega (arith, near, room.mark, deep))
      (cases_lt position desk.mark)

  pub hole_limit : (count position : ℕ) → count ≤ 100 → IsHole desk count position → position ≤ position_limit
  hole_limit count position few hole = ⊎_elim
      (λ near. omega (arith, near, few, room.mark))
      (λ at.
      let live = live_of at.0 at.1 in
      let near = subst (λ (e : Equation). last_slot e < desk.mark + desk.playout.depth + 100) live.3 live.2.near in
      omega (arith, near, at.2, room.mark, deep))
      hole.looked_at.near

  pub rule_is : (equation : Equation) → Contains (live_equations desk) equation → IsRule (rule_of equation)
  rule_is equation listed =
      let live = live_of equation listed in
      subst (λ (e : Equation). IsRule (rule_of e)) live.3 (record { shape = live.2.shape; base = live.2.base })

  module _ (port count : ℕ) (case : Case) (few : count ≤ 100) (is : IsCase port desk count case) where
    pub equation_at : (rule : ℕ × Shape) → Contains case.lines rule → (equation : Equation) × Contains (live_equations desk) equation × (rule_of equation ≡ rule)
    equation_at rule at =
        Contains-from_map rule_of (live_equations desk) rule (subst (λ (rules : List (ℕ × Shape)). Contains rules rule) is.lines_are at)

    in_order : HasMissing desk count → IsInOrder case
    in_order missing = record {
      known = runs_in_order (λ position. IsSome (known desk position)) case.known is.known_are known_limit;
      holes = runs_in_order (IsHole desk count) case.holes is.holes_are (λ position hole. hole_limit count position few hole);
      lines = λ k d below.
          let e = equation_at (get_or case.lines k d) (Contains-get_or case.lines k d below) in
          subst IsRule e.2 (rule_is e.0 e.1);
      claims = (
        missing.0,
        omega (arith, missing.1, is.mark_is),
        omega (arith, missing.2, is.mark_is, is.count_is),
        (is.holes_are.inside missing.0).1 (record {
          looked_at = record { ahead = missing.1; near = inl missing.2 };
          underivable = missing.3;
        }),
      );
    }

    not_both : (position : ℕ) → InRuns case.known position → ¬ InRuns case.holes position
    not_both position known hole =
        ((is.holes_are.inside position).0 hole).underivable (given ((is.known_are.inside position).0 known))

    module _ (same : ClosureIsPeelings) (tested : ClosureHasTest) where
      -- A slot that is looked at, and no hole, is in the closure.
      follows : (position : ℕ) → IsLookedAt desk count position → ¬ InRuns case.holes position → InClosure desk position
      follows position looked_at no_hole =
          let test = tested (known desk) (live_equations desk) in
          ⊎_elim
          (λ yes. (same desk holds position).1 ((test.1 position).0 yes))
          (λ no. absurd (no_hole ((is.holes_are.inside position).1 (record {
            looked_at = looked_at;
            underivable = λ in_closure. both_ways (test.0 position) no ((test.1 position).1 ((same desk holds position).0 in_closure));
          }))))
          (cases_Bool (test.0 position))

      -- So no equation has one hole alone: its other slots would be in the closure, and with them the hole.
      none_alone : (equation : Equation) → Contains (live_equations desk) equation → ¬ HasOneHole case.holes (rule_of equation)
      none_alone equation listed alone =
          let hole = (is.holes_are.inside alone.slot).0 alone.hole in
          let shape = (rule_is equation listed).shape in
          hole.underivable (derived equation listed alone.of_rule hole.looked_at.ahead (λ other inside differs. ⊎_elim
          (λ below. given (known_base desk (orderly_from_holds desk holds) equation listed other inside below))
          (λ ahead. follows other (record {
            ahead = ahead;
            near = inr (
              equation,
              listed,
              All-contains (λ s. s ≤ last_slot equation) (slots equation) other
                  (all_below_last equation.base equation.offset equation.count shape.some_slot) inside,
            );
          }) (alone.others other inside differs))
          (cases_lt other desk.mark)))

      not_alone : (number : ℕ) → ¬ IsAlone case number
      not_alone number alone =
          elim (slice_get_cases case.lines number).1 [
            | inl at ↦
                let one = subst (λ (o : Option (ℕ × Shape)). IsSomeAnd o (HasOneHole case.holes)) at.2 alone in
                let e = equation_at at.0 (number, at.1, at.3) in
                none_alone e.0 e.1 (subst (HasOneHole case.holes) (sym e.2) one)
            | inr past ↦ subst (λ (o : Option (ℕ × Shape)). IsSomeAnd o (HasOneHole case.holes)) past.1 alone
          ]

pub true_cases : ClosureIsPeelings → ClosureHasTest → TrueCasesAreProved
true_cases same tested port count desk case holds room deep few is missing = (
  in_order desk holds room deep port count case few is missing,
  λ position both. not_both desk holds room deep port count case few is position both.0 both.1,
  not_alone desk holds room deep port count case few is same tested,
)
