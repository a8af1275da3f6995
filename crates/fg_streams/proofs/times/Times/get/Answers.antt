use Rattle.std.proofs.Common.{◌-◌, None, get_or, ap, ◌∙◌}
use Rattle.fg_streams.proofs.Timing.{got}
use Rattle.fg_streams.proofs.times.Times.get.Goals as goal

pub returns : goal.returns
returns c = λ times h.
    let recent = c.args.self.now.recent in
    c.at.ensures ∙ ap (λ n. get_or recent (n - 1 - c.args.behind) None) c.len.ensures ∙ got c.args.self.now.gaps recent times c.args.behind c.requires h
