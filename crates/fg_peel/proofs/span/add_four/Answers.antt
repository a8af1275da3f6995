use Rattle.std.proofs.Common.{◌∙◌, ap}
use Rattle.std.specs.Option.{option_copied}
use Rattle.fg_peel.proofs.Adding.{added_all}
use Rattle.fg_peel.proofs.span.add_four.Goals as goal

pub returns-in-Some-Some-Some-Some : goal.returns-in-Some-Some-Some-Some
returns-in-Some-Some-Some-Some c =
    let words = c.in-Some-Some-Some-Some in
    c.xor_in_four.ensures
    ∙ added_all c.args.sum.now (option_copied c.args.first) (option_copied c.args.second) (option_copied c.args.third)
    (option_copied c.args.fourth) words.first.now words.second.now words.third.now words.fourth.now
    (ap option_copied words.is-0) (ap option_copied words.is-1) (ap option_copied words.is-2) (ap option_copied words.is-3)
