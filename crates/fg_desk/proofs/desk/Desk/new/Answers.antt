use Rattle.std.proofs.Common.{ap, ◌∙◌}
use Rattle.fg_desk.specs.Contents.{opened}
use Rattle.fg_desk.proofs.desk.Desk.new.Goals as goal

pub returns : goal.returns
returns c =
    c.joined.ensures
    ∙ ap (λ hold. opened (record { window = c.args.window; depth = c.args.depth; hold = hold })) c.in_ok-waiting.ensures.hold
