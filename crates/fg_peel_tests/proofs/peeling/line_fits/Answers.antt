use Rattle.std.proofs.Common.{◌-◌, ◌≤◌, arith}
use Rattle.std.proofs.lemmas.Bool.{ltb-true}
use Rattle.fg_peel.proofs.Slots.{fits_by_last}
use Rattle.fg_peel_tests.proofs.peeling.line_fits.Goals as goal

pub returns : goal.returns
returns c less =
    let first : c.args.start ≤ c.args.line.now.base = omega arith in
    fits_by_last c.args.start c.args.count c.args.line.now c.last.result (c.shape_ok.ensures.0 c.if-not-shape_ok.false) first
    c.last.ensures.greatest (ltb-true (c.last.result - c.args.start) c.args.count less)
