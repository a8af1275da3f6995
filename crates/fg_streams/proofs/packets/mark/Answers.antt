use Rattle.std.proofs.Common.{◌≡◌, ℕ, ◌*◌, List, drop, ap, ◌∙◌, arith}
use Rattle.std.proofs.lemmas.List.{take_rest}
use Rattle.fg_ts.specs.Fields.{pid_of}
use Rattle.fg_streams.proofs.Marking.{mark_more}
use Rattle.fg_streams.proofs.packets.mark.Goals as goal

pub loop-number-preserved : goal.loop-number-preserved
loop-number-preserved c = λ p below.
    let payload = c.args.payload.now in
    let n = c.loop-number.number in
    let is : c.pid-pid.result ≡ pid_of (drop (188 * n) payload) = c.pid-pid.ensures.value ∙ ap (λ (t : List ℕ). pid_of t) (take_rest payload (188 * n)) in
    mark_more c.loop-number.marks c.args.marks.now payload n c.pid-pid.result p (omega (arith, c.pid-pid.ensures.bounded, c.loop-number.auto.marks, c.requires)) is (c.loop-number.invariant p below)
