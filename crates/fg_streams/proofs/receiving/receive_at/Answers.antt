use Rattle.std.proofs.Common.{◌<◌, ℕ, ◌-◌, Option, None, List, ◌++◌, replicate, sym, subst, arith, length-append}
use Rattle.std.proofs.lemmas.List.{length-replicate}
use Rattle.fg_streams.specs.Steps.{Keeps}
use Rattle.fg_streams.proofs.Positions.{fate_ahead, times_ahead}
use Rattle.fg_streams.proofs.receiving.receive_at.Goals as goal

pub push-requires : goal.push-requires
push-requires c =
    let none : Option ℕ = None in
    let known = c.requires.known in
    let n = c.args.place - c.args.span.top - 1 in
    let all = length-append known.0 (replicate n none) in
    let lost = length-replicate n none in
    (known.0 ++ replicate n none, c.in_ok-skip.ensures known.0 known.1, omega (arith, all, lost, known.2, c.requires.low, c.requires.near))

pub returns-clause-fate : goal.returns-clause-fate
returns-clause-fate c = λ all h long.
    let above : c.args.span.top < c.args.place = omega (arith, c.if-place-span.false) in
    sym (fate_ahead c.args.span c.args.place all above)

pub returns-clause-times : goal.returns-clause-times
returns-clause-times c = λ all h long.
    let none : Option ℕ = None in
    let s = c.args.span in
    let above : s.top < c.args.place = omega (arith, c.if-place-span.false) in
    let n = c.args.place - s.top - 1 in
    subst (λ (t : List (Option ℕ)). Keeps c.push.new.self t) (sym (times_ahead s c.args.place all c.args.time above))
    (c.in_ok-push.ensures (all ++ replicate n none) (c.in_ok-skip.ensures all h))
