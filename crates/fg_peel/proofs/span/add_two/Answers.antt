use Rattle.std.proofs.Common.{◌∙◌, ap}
use Rattle.std.specs.Option.{option_copied}
use Rattle.fg_peel.proofs.Adding.{added_both}
use Rattle.fg_peel.proofs.span.add_two.Goals as goal

pub returns-in-Some-Some : goal.returns-in-Some-Some
returns-in-Some-Some c =
    c.xor_in_two.ensures
    ∙ added_both c.args.sum.now (option_copied c.args.one) (option_copied c.args.other) c.in-Some-Some.one.now c.in-Some-Some.other.now
    (ap option_copied c.in-Some-Some.is-0) (ap option_copied c.in-Some-Some.is-1)
