use Rattle.fg_playout.proofs.Opened.{opening_holds, media_keeps}
use Rattle.fg_playout.proofs.Parities.{parity_keeps}
use Rattle.fg_playout.proofs.PlayKeeps.{play_keeps, flush_step_keeps}
use Rattle.fg_playout.proofs.Held.{held_step_keeps}
use Rattle.fg_playout.proofs.laws.facts_are_kept.Goals as goal

pub returns : goal.returns
returns c =
    search (opening_holds, media_keeps, parity_keeps, play_keeps, flush_step_keeps, held_step_keeps)
