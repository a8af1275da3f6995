use Rattle.std.proofs.Common.{◌≡◌, ◌∙◌, ◌++◌, ℕ, List, Option, None, IfNone, IfSome, subst, sym, append_assoc, rules}
use Rattle.std.specs.List.{Contains}
use Rattle.fg_check.specs.declared.walk.Passed.{Passed}
use Rattle.fg_check.specs.Steps.{HasPassed, IsBehind}
use Rattle.fg_check.proofs.Cuts.{lacks_append}
use Rattle.fg_check.proofs.Walks.{behind_more, passed_more}
use Rattle.fg_check.proofs.walk.pass_line.Goals as goal

pub returns-in_err-passed-clause-behind : goal.returns-in_err-passed-clause-behind
returns-in_err-passed-clause-behind g c = λ first front h.
    let so_far = c.loop-passed.invariant.more in
    let rest = g.S.Source.left c.pass_piece.new.from in
    let more = c.pass_piece.ensures.behind first (front ++ so_far.0) (so_far.2 first front h) in
    (so_far.0 ++ more.0, behind_more first rest front so_far.0 more.0 c.pass_piece.new.input more.1)

pub returns-in-Some-clause-passed : goal.returns-in-Some-clause-passed
returns-in-Some-clause-passed g c = λ first front line lacks h.
    let so_far = c.loop-passed.invariant.more in
    let rest = g.S.Source.left c.pass_piece.new.from in
    let P : Passed → Type 0 = λ (how : Passed). (first : Option (List ℕ)) (front : List ℕ) (line : List ℕ) → ¬ Contains line 10
    → IsBehind first (front ++ line) c.loop-passed.input (g.S.Source.left c.loop-passed.from) → HasPassed first front line how c.pass_piece.new.input rest in
    let passed : P c.in-Some.passed = subst (λ (o : Option Passed). IfSome o P) c.in-Some.is c.in_ok-passed.ensures.passed in
    let at : IsBehind first (front ++ (line ++ so_far.0)) c.loop-passed.input (g.S.Source.left c.loop-passed.from) =
    behind_more first (g.S.Source.left c.loop-passed.from) front line so_far.0 c.loop-passed.input (so_far.2 first (front ++ line) h) in
    passed_more first rest front line so_far.0 c.in-Some.passed c.pass_piece.new.input (passed first front (line ++ so_far.0) (lacks_append 10 line so_far.0 lacks so_far.1) at)

pub returns-in-Some-clause-behind : goal.returns-in-Some-clause-behind
returns-in-Some-clause-behind g c = λ first front h.
    let so_far = c.loop-passed.invariant.more in
    let rest = g.S.Source.left c.pass_piece.new.from in
    let more = c.pass_piece.ensures.behind first (front ++ so_far.0) (so_far.2 first front h) in
    (so_far.0 ++ more.0, behind_more first rest front so_far.0 more.0 c.pass_piece.new.input more.1)

pub loop-passed-preserved : goal.loop-passed-preserved
loop-passed-preserved g c =
    let so_far = c.loop-passed.invariant.more in
    let rest = g.S.Source.left c.pass_piece.new.from in
    let More : Type 0 = (more : List ℕ) × (¬ Contains more 10)
    × ((first : Option (List ℕ)) (front : List ℕ) → IsBehind first front c.loop-passed.input (g.S.Source.left c.loop-passed.from) → IsBehind first (front ++ more) c.pass_piece.new.input rest) in
    let more : More = subst (λ (o : Option Passed). IfNone o More) c.in_default.is c.in_ok-passed.ensures.more in
    record {
      more = (
        so_far.0 ++ more.0,
        lacks_append 10 so_far.0 more.0 so_far.1 more.1,
        λ first front h. behind_more first rest front so_far.0 more.0 c.pass_piece.new.input (more.2 first (front ++ so_far.0) (so_far.2 first front h)),
      );
      buffer = c.pass_piece.ensures.buffer;
      max = c.pass_piece.ensures.max ∙ c.loop-passed.invariant.max;
      reads = search rules;
      fixed = c.pass_piece.ensures.fixed ∙ c.loop-passed.invariant.fixed;
    }
