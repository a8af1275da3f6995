use Rattle.std.proofs.Common.{Option, List, [], sym, subst, rules}
use Rattle.fg_monitor.specs.declared.continuity.Last.{Last}
use Rattle.fg_monitor.specs.Kept.{HasSeen}
use Rattle.fg_monitor.proofs.Kept.{unfed}
use Rattle.fg_monitor.proofs.continuity.Monitor.new.Goals as goal

pub returns : goal.returns
returns c =
    let items = c.in_ok-vec.ensures.items_if_clones_equal (search rules) in
    subst (λ (l : List (Option Last)). HasSeen (record { fed = 0; lasts = l }) []) (sym items) (unfed 8192)
