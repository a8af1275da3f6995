use Rattle.std.proofs.Common.{ℕ, ◌-◌, Option, Some, List, set, length, sym, subst, ap, ◌∙◌}
use Rattle.fg_streams.specs.Steps.{AreTimes}
use Rattle.fg_streams.proofs.Timing.{put}
use Rattle.fg_streams.proofs.times.Times.set.Goals as goal

pub returns : goal.returns
returns c = λ times h.
    let recent = c.args.self.now.recent in
    let after = c.set.ensures ∙ ap (λ n. set recent (n - 1 - c.args.behind) (Some c.args.time)) c.len.ensures in
    subst (λ (r : List (Option ℕ)). AreTimes c.args.self.now.gaps r (set times (length times - 1 - c.args.behind) (Some c.args.time))) (sym after)
    (put c.args.self.now.gaps recent times c.args.behind (Some c.args.time) c.requires h)
