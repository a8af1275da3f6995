use Rattle.std.proofs.Common.{◌<◌, length, sym, ◌∙◌, arith}
use Rattle.fg_cli.proofs.Lists.{first_value}
use Rattle.fg_cli.proofs.settings.first.Goals as goal

pub returns-then-is_of-clause-value : goal.returns-then-is_of-clause-value
returns-then-is_of-clause-value c =
    let below : c.loop-setting.setting-index < length c.args.settings.now = omega arith in
    sym (first_value c.args.key c.args.settings.now c.loop-setting.setting-index _ below c.loop-setting.invariant (sym c.is_of.ensures ∙ c.if-is_of.true))
