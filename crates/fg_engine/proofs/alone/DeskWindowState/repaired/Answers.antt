use Rattle.std.proofs.Common.{◌+◌, ℕ, ap, sym, ◌∙◌}
use Rattle.fg_playout.specs.Play.{Shown}
use Rattle.fg_engine.proofs.Windows.{kept_at}
use Rattle.fg_engine.proofs.alone.DeskWindowState.repaired.Goals as goal

pub returns : goal.returns
returns c =
    let place = ap (λ (n : ℕ). c.args.played.first + n) (sym c.from.ensures) in
    c.repaired.ensures
    ∙ sym (ap (λ (shown : Shown). shown.repaired) (kept_at c.args.self.now c.args.played.first c.args.played.count c.args.i _ c.requires.within place))
