-- The runs of flagged positions.
use Rattle.std.proofs.Common.{◌≡◌, ◌↔◌, ◌+◌, ◌-◌, ◌≤◌, ℕ, Bool, true, false, List, [], get_or, inl, inr, refl, sym, ap, subst, ◌∙◌, ⊎_elim, arith}
use mathlib.Core.Bool.{beq}
use Rattle.std.proofs.lemmas.Bool.{cases_eq}
use Rattle.fg_report.specs.Gaps.{gaps_end, with_gap, AreApart, IsInGap}
use Rattle.fg_report.proofs.GapLemmas.{apart_with, holding, gaps_end-with}
use Rattle.fg_runs.specs.Runs.{AreRunsOf}
use Rattle.fg_closure.specs.Flags.{IsTold}

-- a test of two flags
pub same_flags : (a b : Bool) → beq a b ≡ true → a ≡ b
same_flags true true e = refl
same_flags true false e = cc
same_flags false true e = cc
same_flags false false e = refl

pub other_flags : (a b : Bool) → beq a b ≡ false → a ≡ b → ⊥
other_flags true true e same = cc
other_flags true false e same = cc
other_flags false true e same = cc
other_flags false false e same = cc

-- The runs are those of the flags before this one.
pub record IsRunning (first start count : ℕ) (flags : List Bool) (wanted : Bool) (runs : List (ℕ × ℕ)) : Type 0 where
  pub apart : AreApart runs
  pub end : gaps_end runs ≤ first + count
  pub inside : (position : ℕ) → IsInGap runs position ↔ IsTold first start count flags wanted position

pub runs_begin : (first start : ℕ) (flags : List Bool) (wanted : Bool) → IsRunning first start start flags wanted []
runs_begin first start flags wanted = record {
  apart = tt;
  end = omega arith;
  inside = λ position. (λ inside. absurd inside, λ told. absurd (let from = told.from in let upto = told.upto in omega arith));
}

-- the next flag isn't as wanted
pub runs_past : (first start count : ℕ) (flags : List Bool) (wanted : Bool) (runs : List (ℕ × ℕ)) → (get_or flags count false ≡ wanted → ⊥)
    → IsRunning first start count flags wanted runs → IsRunning first start (count + 1) flags wanted runs
runs_past first start count flags wanted runs other running =
    let end = running.end in record {
      apart = running.apart;
      end = omega arith;
      inside = λ position. (
        λ inside. (
            let told = (running.inside position).0 inside in let upto = told.upto in
            record { from = told.from; upto = omega arith; flag = told.flag }
            ),
        λ told. (
            let from = told.from in let upto = told.upto in
            ⊎_elim
            (λ same. absurd (other (ap (λ n. get_or flags n false) (sym same) ∙ told.flag)))
            (λ differ. (running.inside position).1 (record { from = told.from; upto = omega (arith, differ); flag = told.flag }))
            (cases_eq (position - first) count)
            ),
      );
    }

-- it is
pub runs_on : (first start count : ℕ) (flags : List Bool) (wanted : Bool) (runs : List (ℕ × ℕ)) → start ≤ count → get_or flags count false ≡ wanted
    → IsRunning first start count flags wanted runs → IsRunning first start (count + 1) flags wanted (with_gap runs (first + count) 1)
runs_on first start count flags wanted runs after is running =
    let held = holding runs (first + count) 1 in record {
      apart = apart_with runs (first + count) 1 running.apart (omega arith) running.end;
      end = omega (arith, gaps_end-with runs (first + count) 1);
      inside = λ position. (
        λ inside. ⊎_elim
            (λ before. (
            let told = (running.inside position).0 before in let upto = told.upto in
            record { from = told.from; upto = omega arith; flag = told.flag }
            ))
            (λ here. (
            let from = here.0 in let upto = here.1 in
            let at : position - first ≡ count = omega arith in
            record { from = omega arith; upto = omega arith; flag = ap (λ n. get_or flags n false) at ∙ is }
            ))
            ((held position).0 inside),
        λ told. (
            let from = told.from in let upto = told.upto in
            (held position).1 (⊎_elim
            (λ same. inr (omega (arith, same), omega (arith, same)))
            (λ differ. inl ((running.inside position).1 (record { from = told.from; upto = omega (arith, differ); flag = told.flag })))
            (cases_eq (position - first) count))
            ),
      );
    }

-- all flags were looked at
pub runs_end : (first start end count : ℕ) (flags : List Bool) (wanted : Bool) (runs : List (ℕ × ℕ)) → count ≡ end
    → IsRunning first start count flags wanted runs → AreRunsOf (IsTold first start end flags wanted) runs
runs_end first start end count flags wanted runs all running =
    subst (λ n. AreRunsOf (IsTold first start n flags wanted) runs) all (record { apart = running.apart; inside = running.inside })

-- runs of the same positions
pub runs_same : (P Q : ℕ → Type 0) (runs : List (ℕ × ℕ)) → ((position : ℕ) → P position ↔ Q position) → AreRunsOf P runs → AreRunsOf Q runs
runs_same P Q runs same are = record {
  apart = are.apart;
  inside = λ position. (λ inside. (same position).0 ((are.inside position).0 inside), λ q. (are.inside position).1 ((same position).1 q));
}
