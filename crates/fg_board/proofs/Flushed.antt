-- Where a flush step finds nothing left, nothing is left after it.
use Rattle.std.proofs.Common.{◌≡◌, false, true≢false, Option, Some, None, is_some, option_map, sym, subst}
use Rattle.fg_desk.specs.declared.desk.Played.{Played}
use Rattle.fg_playout.specs.State.{State}
use Rattle.fg_playout.specs.Play.{Play, HasMore, Flushes}
use Rattle.fg_playout.proofs.Joining.{no_more_counted}

pub nothing_left :
    (result : Option Played) (shows : Played → Play) (old new : State) → is_some result ≡ false
    → Flushes old (option_map shows result) new → ¬ HasMore new
nothing_left None shows old new none flushes =
    subst (λ (s : State). ¬ HasMore s) (sym flushes.1) (no_more_counted old flushes.0)
nothing_left (Some played) shows old new none flushes = absurd (true≢false none)
