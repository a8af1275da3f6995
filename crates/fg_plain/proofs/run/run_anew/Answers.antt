use Rattle.std.proofs.Common.{◌≡◌, map, IfOk, ap, subst}
use Rattle.fg_shape.specs.Playout.{Playout}
use Rattle.fg_playout.specs.Run.{IsRun}
use Rattle.fg_desk.specs.Contents.{Contents}
use Rattle.fg_plain.specs.Datagrams.{arrival_of, play_of}
use Rattle.fg_plain.proofs.run.run_anew.Goals as goal

pub returns : goal.returns
returns c =
    let run = c.run_over.new.run in
    subst (λ (p : Playout). IfOk c.run_over.result (λ _.
    (is : IsRun p (map arrival_of c.args.datagrams.now) (map play_of run.plays.items) run.replies.items) × (run.runs ≡ is.filled.runs)))
    (ap (λ (desk : Contents). desk.state.playout) c.in_ok-desk.ensures) c.run_over.ensures
