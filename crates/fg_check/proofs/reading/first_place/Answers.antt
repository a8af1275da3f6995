use Rattle.std.proofs.Common.{◌≤◌, length, take, subst}
use Rattle.std.specs.List.{Contains}
use Rattle.std.proofs.lemmas.List.{take_all}
use Rattle.fg_check.proofs.Cuts.{lacks_more, lacks_nil}
use Rattle.fg_check.proofs.reading.first_place.Goals as goal

pub loop-place-init : goal.loop-place-init
loop-place-init c = lacks_nil c.args.byte

pub loop-place-preserved : goal.loop-place-preserved
loop-place-preserved c = lacks_more c.args.text.now c.loop-place.place c.args.byte c.loop-place-test.true c.loop-place.invariant c.if-other-byte.false

pub returns : goal.returns
returns c =
    subst (λ t. ¬ Contains t c.args.byte) (take_all c.loop-place.place c.args.text.now c.loop-place-test.false) c.loop-place.invariant
