-- What is cut of a stream within the limit is what may be encoded, and what is asked for may be lost.
use Rattle.std.proofs.Common.{◌≤◌, ◌^◌, ℕ, List, length, Option, arith, ◌∙◌}
use Rattle.fg_io.specs.Outlet.{Lanes}
use Rattle.fg_shape.specs.declared.encoding.Losses.{Losses}
use Rattle.fg_shape.specs.declared.encoding.Settings.{Settings}
use Rattle.fg_shape.specs.Losses.{MayLose}
use Rattle.fg_shape.specs.Settings.{CanEncode}
use Rattle.fg_flows.specs.declared.Plan.{Plan}
use Rattle.fg_flows.specs.Plan.{PlanFits, playout_of}
use Rattle.fg_encode.specs.Laws.{CutsArePayloads}
use Rattle.fg_thin.specs.Few.{LossesAreFew}
use Rattle.fg_thin.specs.Thinned.{is_lost}
use Rattle.fg_drill.specs.ComesBack.{CanComeBack}
use Rattle.fg_drill.specs.Drill.{Answer, StreamComesBack}
use Rattle.fg_drill.proofs.laws.covered.covered_drills_come_back.Goals as goal

can_come_back :
    LossesAreFew → CutsArePayloads → (settings : Settings) (plan : Plan) (losses : Losses) (max : ℕ) (answer : Answer)
    (bytes : List ℕ) (lanes lanes' : Option Lanes) → CanEncode settings → PlanFits plan → MayLose losses → max ≤ 2 ^ 40
    → (back : StreamComesBack settings plan losses max answer bytes lanes lanes')
    → CanComeBack (playout_of plan) settings back.payloads (is_lost losses)
can_come_back few cuts settings plan losses max answer bytes lanes lanes' can fits may limit back =
    let cut = cuts settings.packets max bytes back.payloads can.packets.0 back.cut.first in
    record {
      can = can;
      whole = cut.0;
      few = few settings.layout losses (length back.payloads) may;
      limit = omega (arith, cut.1, limit);
      fits = fits.playout;
    }

pub returns : goal.returns
returns c = λ settings plan losses max answer bytes lanes lanes' can fits may limit back covered waits.
    let all = back.peels
    (c.covered_losses_peel.ensures (playout_of plan) settings back.payloads (is_lost losses)
    (can_come_back c.losses_are_few.ensures c.cuts_are_payloads.ensures settings plan losses max answer bytes lanes lanes' can fits
    may limit back)
    covered waits) in
    (all, λ done. all ∙ back.whole done)
