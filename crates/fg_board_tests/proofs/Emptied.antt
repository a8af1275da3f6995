-- Where a flush step shows no play, nothing is left after it.
use Rattle.std.proofs.Common.{◌≡◌, false, true≢false, Option, Some, None, is_some, option_map, sym, subst}
use Rattle.fg_desk.specs.declared.desk.Played.{Played}
use Rattle.fg_playout.specs.State.{State}
use Rattle.fg_playout.specs.Play.{Play, HasMore, Flushes}
use Rattle.fg_playout.proofs.Joining.{no_more_counted}

pub left_empty :
    (shows : Played → Play) (before after : State) (shown : Option Played) → Flushes before (option_map shows shown) after
    → is_some shown ≡ false → ¬ HasMore after
left_empty shows before after None flushed none = subst (λ (s : State). ¬ HasMore s) (sym flushed.1) (no_more_counted before flushed.0)
left_empty shows before after (Some played) flushed none = absurd (true≢false none)
