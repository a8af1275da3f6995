use Rattle.std.proofs.Common.{ℕ, Option, None, List, ◌++◌, replicate, subst, arith, length-append}
use Rattle.std.proofs.lemmas.List.{length-replicate}
use Rattle.fg_streams.specs.Steps.{AreTimes}
use Rattle.fg_streams.proofs.Timing.{one_lost}
use Rattle.fg_streams.proofs.times.Times.push_lost.Goals as goal

pub push-requires : goal.push-requires
push-requires c =
    let none : Option ℕ = None in
    let few = c.requires.few in
    let n = c.loop.counter in
    let all = length-append few.0 (replicate n none) in
    let lost = length-replicate n none in
    (few.0 ++ replicate n none, c.loop.invariant.kept few.0 few.1, omega (arith, all, lost, few.2, c.loop-test.true, c.requires.count))

pub loop-preserved : goal.loop-preserved
loop-preserved c = record {
  kept = λ times h.
      let none : Option ℕ = None in
      let n = c.loop.counter in
      subst (λ (t : List (Option ℕ)). AreTimes c.push.new.self.gaps c.push.new.self.recent t) (one_lost times n) (c.in_ok-push.ensures (times ++ replicate n none) (c.loop.invariant.kept times h));
}
