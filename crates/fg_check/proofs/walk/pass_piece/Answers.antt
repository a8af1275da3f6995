use Rattle.std.proofs.Common.{◌≡◌, ◌+◌, ◌++◌, ℕ, List, [], Option, ap, refl, subst, sym, take, arith}
use Rattle.std.specs.List.{Contains}
use Rattle.fg_io.specs.declared.input_buffer.Ahead.{Ahead}
use Rattle.fg_io.specs.InputBuffer.{InputState, IsAhead}
use Rattle.fg_check.specs.declared.walk.Passed.TheVariants as passed
use Rattle.fg_check.specs.Line.{IsFirstPlace}
use Rattle.fg_check.specs.Steps.{HasPassed, IsBehind, stepped}
use Rattle.fg_check.proofs.Walking.{behind_step}
use Rattle.fg_check.proofs.Walks.{at_limit, behind_fill, behind_held, behind_none, passed_here, passed_line, passed_none, passed_some}
use Rattle.fg_check.proofs.walk.pass_piece.Goals as goal

pub returns-in_err-fill-clause-behind : goal.returns-in_err-fill-clause-behind
returns-in_err-fill-clause-behind g c = λ first front h.
    let left = g.S.Source.left c.args.from.now in
    let rest = g.S.Source.left c.fill.new.from in
    let more = behind_fill c.args.input.now c.fill.new.self first left rest front c.fill.ensures.same c.fill.ensures.takes (λ over. let k = c.fill.ensures.stays over in ap g.S.Source.left k.1) c.fill.ensures.at_end h in
    ([], behind_none first rest front c.fill.new.self more)

pub returns-in-Whole-clause-passed : goal.returns-in-Whole-clause-passed
returns-in-Whole-clause-passed g c =
    let left = g.S.Source.left c.args.from.now in
    let rest = g.S.Source.left c.fill.new.from in
    passed_some c.fill.new.self c.pass_held.new.input c.pass_held.result c.pass_held.ensures.passed _
    (λ (count : ℕ) (at : IsFirstPlace 10 c.fill.new.self.held count) (step : c.pass_held.new.input ≡ stepped c.fill.new.self (count + 1)).
    λ (first : Option (List ℕ)) (front : List ℕ) (line : List ℕ) (lacks : ¬ Contains line 10) (h : IsBehind first (front ++ line) c.args.input.now left).
    passed_line first rest front line c.fill.new.self c.pass_held.new.input count lacks at step
    (behind_fill c.args.input.now c.fill.new.self first left rest (front ++ line) c.fill.ensures.same c.fill.ensures.takes (λ over. let k = c.fill.ensures.stays over in ap g.S.Source.left k.1) c.fill.ensures.at_end h))

pub returns-in-Whole-clause-more : goal.returns-in-Whole-clause-more
returns-in-Whole-clause-more g c =
    let left = g.S.Source.left c.args.from.now in
    let rest = g.S.Source.left c.fill.new.from in
    passed_none c.fill.new.self c.pass_held.new.input c.pass_held.result c.pass_held.ensures.more _
    (λ count few lacks step. (
      take count c.fill.new.self.held,
      lacks,
      λ first front h.
          subst (λ (t : InputState). IsBehind first (front ++ take count c.fill.new.self.held) t rest) (sym step)
          (behind_step first rest front c.fill.new.self count few
          (behind_fill c.args.input.now c.fill.new.self first left rest front c.fill.ensures.same c.fill.ensures.takes (λ over. let k = c.fill.ensures.stays over in ap g.S.Source.left k.1) c.fill.ensures.at_end h)),
    ))

pub returns-in-Whole-clause-behind : goal.returns-in-Whole-clause-behind
returns-in-Whole-clause-behind g c = λ first front h.
    let left = g.S.Source.left c.args.from.now in
    let rest = g.S.Source.left c.fill.new.from in
    behind_held first rest front c.fill.new.self c.pass_held.new.input c.pass_held.result c.pass_held.ensures.passed c.pass_held.ensures.more
    (behind_fill c.args.input.now c.fill.new.self first left rest front c.fill.ensures.same c.fill.ensures.takes (λ over. let k = c.fill.ensures.stays over in ap g.S.Source.left k.1) c.fill.ensures.at_end h)

pub returns-in-EndsHere-clause-passed : goal.returns-in-EndsHere-clause-passed
returns-in-EndsHere-clause-passed g c = λ first front line lacks h.
    let left = g.S.Source.left c.args.from.now in
    let rest = g.S.Source.left c.fill.new.from in
    let here = subst (λ (a : Ahead). IsAhead a c.fill.new.self 1) c.in-EndsHere.is c.in_ok-fill.ensures.tells in
    let more = behind_fill c.args.input.now c.fill.new.self first left rest (front ++ line) c.fill.ensures.same c.fill.ensures.takes (λ over. let k = c.fill.ensures.stays over in ap g.S.Source.left k.1) c.fill.ensures.at_end h in
    passed_here first rest front line passed.Rest c.fill.new.self lacks (more, here.0, here.1)

pub returns-in-PastLimit-clause-passed : goal.returns-in-PastLimit-clause-passed
returns-in-PastLimit-clause-passed g c = λ first front line lacks h.
    let left = g.S.Source.left c.args.from.now in
    let rest = g.S.Source.left c.fill.new.from in
    let here = subst (λ (a : Ahead). IsAhead a c.fill.new.self 1) c.in-PastLimit.is c.in_ok-fill.ensures.tells in
    let more = behind_fill c.args.input.now c.fill.new.self first left rest (front ++ line) c.fill.ensures.same c.fill.ensures.takes (λ over. let k = c.fill.ensures.stays over in ap g.S.Source.left k.1) c.fill.ensures.at_end h in
    let there = at_limit c.args.input.now c.fill.new.self c.fill.ensures.same c.requires.buffer here in
    passed_here first rest front line passed.Limit c.fill.new.self lacks (more, there.0, there.1)

pub returns-in-PastLimit-clause-behind : goal.returns-in-PastLimit-clause-behind
returns-in-PastLimit-clause-behind g c = λ first front h.
    let left = g.S.Source.left c.args.from.now in
    let rest = g.S.Source.left c.fill.new.from in
    let more = behind_fill c.args.input.now c.fill.new.self first left rest front c.fill.ensures.same c.fill.ensures.takes (λ over. let k = c.fill.ensures.stays over in ap g.S.Source.left k.1) c.fill.ensures.at_end h in
    ([], behind_none first rest front c.fill.new.self more)
