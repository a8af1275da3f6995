use Rattle.std.proofs.Common.{ℕ, ◌<◌, get_or}
use Rattle.fg_peel.specs.declared.Slot.TheVariants.{Empty}
use Rattle.fg_peel.specs.Recovery.{RecoversMedia}
use Rattle.fg_peel.proofs.checks.first_not_media.Given as goal

abbrev pub invariant-loop-i : goal.invariant-loop-i
invariant-loop-i g l = (k : ℕ) → k < l.i → RecoversMedia (get_or (g.E.EntryRow.slots l.span.entries.now) k Empty)
