use Rattle.std.proofs.Common.{◌⊎◌, Bool, List, inl, sym, subst, arith}
use Rattle.fg_closure.proofs.Readings.{AreBeside, one_beside}
use Rattle.fg_closure.proofs.reading.read_found.Goals as goal
use Rattle.fg_closure.proofs.reading.read_found.Goals.{then-has_found, else-has_found}

pub loop-k-init : goal.loop-k-init
loop-k-init c = record { kept = λ position flagged. flagged; follow = λ position flagged. inl flagged }

pub loop-k-preserved : goal.loop-k-preserved
loop-k-preserved c =
    let beside = λ (flags : List Bool). AreBeside c.args.desk.now.state c.args.first c.args.flags.now flags in
    elim c.if-has_found.branch [
      | then-has_found w ↦ subst beside (sym w.flags-is)
          (one_beside c.args.desk.now.state c.args.first c.loop-k.k c.args.flags.now c.loop-k.flags
          (omega (arith, c.loop-k-test.true, c.requires.within, c.loop-k.auto.flags)) (c.has_found.ensures.closure w.if-has_found.true)
          c.loop-k.invariant)
      | else-has_found w ↦ subst beside (sym w.flags-is) c.loop-k.invariant
    ]
