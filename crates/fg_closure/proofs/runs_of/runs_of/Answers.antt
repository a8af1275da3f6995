use Rattle.std.proofs.Common.{◌≡◌, ◌+◌, sym, subst, ◌∙◌, arith}
use Rattle.fg_closure.proofs.Running.{IsRunning, runs_begin, runs_past, runs_on, runs_end, same_flags, other_flags}
use Rattle.fg_closure.proofs.runs_of.runs_of.Goals as goal
use Rattle.fg_closure.proofs.runs_of.runs_of.Goals.{then-flags-k+in_ok-join, else-flags-k}

pub loop-k-init : goal.loop-k-init
loop-k-init c = subst (λ runs. IsRunning c.args.first c.args.start c.args.start c.args.flags.now c.args.wanted runs) (sym c.new-runs.ensures)
    (runs_begin c.args.first c.args.start c.args.flags.now c.args.wanted)

pub loop-k-preserved : goal.loop-k-preserved
loop-k-preserved c = elim c.if-flags-k.branch [
  | then-flags-k+in_ok-join w ↦ subst (λ runs. IsRunning c.args.first c.args.start (c.loop-k.k + 1) c.args.flags.now c.args.wanted runs)
      (sym (w.runs-is ∙ w.in_ok-join.ensures.ok))
      (runs_on c.args.first c.args.start c.loop-k.k c.args.flags.now c.args.wanted c.loop-k.runs c.loop-k.auto.k (same_flags _ _ w.if-flags-k.true)
      c.loop-k.invariant)
  | else-flags-k w ↦ subst (λ runs. IsRunning c.args.first c.args.start (c.loop-k.k + 1) c.args.flags.now c.args.wanted runs) (sym w.runs-is)
      (runs_past c.args.first c.args.start c.loop-k.k c.args.flags.now c.args.wanted c.loop-k.runs (other_flags _ _ w.if-flags-k.false) c.loop-k.invariant)
]

pub returns : goal.returns
returns c =
    let below = c.loop-k.auto.k-end c.requires.order in
    let all : c.loop-k.k ≡ c.args.end = omega arith in
    runs_end c.args.first c.args.start c.args.end c.loop-k.k c.args.flags.now c.args.wanted c.loop-k.runs all c.loop-k.invariant
