use Rattle.std.proofs.Common.{arith}
use Rattle.fg_proof.proofs.JudgingRuns.{behind_run, from_run, in_run_at, run_at}
use Rattle.fg_proof.proofs.judging.first_shared.Goals as goal

pub overflow_add-hole : goal.overflow_add-hole
overflow_add-hole c =
    let at = run_at c.args.case.now.holes _ c.item-hole.result c.requires.holes c.item-hole.ensures in omega (arith, at)

pub loop-i-preserved-then-known-length : goal.loop-i-preserved-then-known-length
loop-i-preserved-then-known-length c = λ position known hole.
    let left = c.loop-i.invariant position known hole in
    let from = from_run c.args.case.now.holes _ c.item-hole.result position c.requires.holes.apart c.item-hole.ensures left.1 in
    (behind_run c.args.case.now.known _ c.item-known.result position c.requires.known.apart c.item-known.ensures (omega (arith, from)) known, left.1)

pub loop-i-preserved : goal.loop-i-preserved
loop-i-preserved c = λ position known hole.
    let left = c.loop-i.invariant position known hole in
    let from = from_run c.args.case.now.known _ c.item-known.result position c.requires.known.apart c.item-known.ensures left.0 in
    (left.0, behind_run c.args.case.now.holes _ c.item-hole.result position c.requires.holes.apart c.item-hole.ensures (omega (arith, from)) hole)

pub returns-else-hole-width-clause-least : goal.returns-else-hole-width-clause-least
returns-else-hole-width-clause-least c =
    let known = run_at c.args.case.now.known _ c.item-known.result c.requires.known c.item-known.ensures in
    let hole = run_at c.args.case.now.holes _ c.item-hole.result c.requires.holes c.item-hole.ensures in (
      (
        in_run_at c.args.case.now.known _ c.item-known.result c.max.result c.item-known.ensures (omega arith) (omega (arith, known)),
        in_run_at c.args.case.now.holes _ c.item-hole.result c.max.result c.item-hole.ensures (omega arith) (omega (arith, hole)),
      ),
      λ m both.
          let left = c.loop-i.invariant m both.0 both.1 in
          let from_known = from_run c.args.case.now.known _ c.item-known.result m c.requires.known.apart c.item-known.ensures left.0 in
          let from_hole = from_run c.args.case.now.holes _ c.item-hole.result m c.requires.holes.apart c.item-hole.ensures left.1 in
          omega (arith, from_known, from_hole),
    )
