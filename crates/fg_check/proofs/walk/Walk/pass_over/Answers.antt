use Rattle.std.proofs.Common.{◌≡◌, ◌+◌, ◌++◌, ◌∙◌, ◌⊎◌, ⊎_elim, ℕ, List, Option, take, ap, subst, sym, rules, arith}
use Rattle.std.specs.List.{Contains}
use Rattle.fg_io.specs.InputBuffer.{InputState}
use Rattle.fg_io.proofs.FaultLemmas.{on_err}
use Rattle.fg_check.specs.declared.walk.Passed.{Passed}
use Rattle.fg_check.specs.declared.walk.Passed.TheVariants as passed
use Rattle.fg_check.specs.declared.walk.Checked.TheVariants as told
use Rattle.fg_check.specs.Split.{ended}
use Rattle.fg_check.specs.Steps.{Breaks, HasPassed, HasWalked, IsBehind, IsBuffer, IsUnderway, stepped}
use Rattle.fg_check.proofs.Cuts.{lacks_nil}
use Rattle.fg_check.proofs.Walking.{behind_step, buffer_step}
use Rattle.fg_check.proofs.Walks.{over_fault, over_limit, over_line, over_rest}
use Rattle.fg_check.proofs.walk.Walk.pass_over.Goals as goal

pub pass_line-requires-clause-buffer : goal.pass_line-requires-clause-buffer
pass_line-requires-clause-buffer g c =
    let h = c.requires.underway in
    let long = c.requires.long in
    subst IsBuffer (sym c.step.ensures) (buffer_step c.args.self.now.input 46 long.0 (omega (arith, long.1)) h.3.buffer)

pub returns-in_err-pass_line-clause-part : goal.returns-in_err-pass_line-clause-part
returns-in_err-pass_line-clause-part g c =
    let walk = c.args.self.now in
    let left = g.S.Source.left c.args.input.now in
    let rest = g.S.Source.left c.pass_line.new.from in
    let P : Type 0 = (first : Option (List ℕ)) (before : Option (List ℕ)) (after : Option (List ℕ)) → IsUnderway first left walk before after → Breaks walk.max first rest before after in
    let part : P = λ first before after h.
    over_fault walk c.pass_line.new.input first left rest before after h
    (λ front behind. c.pass_line.ensures.behind first front (subst (λ (t : InputState). IsBehind first front t left) (sym c.step.ensures) behind))
    c.pass_line.ensures.buffer (c.pass_line.ensures.max ∙ ap (λ (t : InputState). t.max) c.step.ensures) c.requires.long.0 in
    on_err _ P part

pub returns-in-Line : goal.returns-in-Line
returns-in-Line g c =
    let walk = c.args.self.now in
    let left = g.S.Source.left c.args.input.now in
    let rest = g.S.Source.left c.pass_line.new.from in
    let new = c.pass_line.new.input in
    let max = c.pass_line.ensures.max ∙ ap (λ (t : InputState). t.max) c.step.ensures in
    let buffer = c.pass_line.ensures.buffer in
    record {
      ends = λ first before after h.
          let behind : IsBehind first (ended h.lines ++ take 46 walk.input.held) c.step.new.self left =
          subst (λ (t : InputState). IsBehind first (ended h.lines ++ take 46 walk.input.held) t left) (sym c.step.ensures)
          (behind_step first left (ended h.lines) walk.input 46 c.requires.long.0 h.behind) in
          let how = c.in_ok-pass_line.ensures.passed first (ended h.lines) (take 46 walk.input.held) c.requires.long.2 behind in
          ⊎_elim
          (λ (line : c.in_ok-pass_line.field-0 ≡ passed.Line).
          over_line walk new first left rest before after h (subst (λ (p : Passed). HasPassed first (ended h.lines) (take 46 walk.input.held) p new rest) line how) buffer max c.requires.long.0)
          (λ (end : c.in_ok-pass_line.field-0 ≡ passed.Rest).
          over_rest walk new first left rest before after h (subst (λ (p : Passed). HasPassed first (ended h.lines) (take 46 walk.input.held) p new rest) end how) buffer max c.requires.long.0)
          c.in-Line.is;
      part = tt;
      max = search rules;
      within = buffer.within;
      faults = search rules;
      fixed = c.pass_line.ensures.fixed;
    }

pub returns-in-Limit-clause-ends : goal.returns-in-Limit-clause-ends
returns-in-Limit-clause-ends g c = λ first before after h.
    let walk = c.args.self.now in
    let left = g.S.Source.left c.args.input.now in
    let rest = g.S.Source.left c.pass_line.new.from in
    let new = c.pass_line.new.input in
    let max = c.pass_line.ensures.max ∙ ap (λ (t : InputState). t.max) c.step.ensures in
    let behind : IsBehind first (ended h.lines ++ take 46 walk.input.held) c.step.new.self left =
    subst (λ (t : InputState). IsBehind first (ended h.lines ++ take 46 walk.input.held) t left) (sym c.step.ensures)
    (behind_step first left (ended h.lines) walk.input 46 c.requires.long.0 h.behind) in
    let how = c.in_ok-pass_line.ensures.passed first (ended h.lines) (take 46 walk.input.held) c.requires.long.2 behind in
    over_limit c.place-place.result walk new first left rest before after h (subst (λ (p : Passed). HasPassed first (ended h.lines) (take 46 walk.input.held) p new rest) c.in-Limit.is how)
    c.pass_line.ensures.buffer max c.place-place.ensures.value
