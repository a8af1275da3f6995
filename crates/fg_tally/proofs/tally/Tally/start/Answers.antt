use Rattle.std.proofs.Common.{refl, subst}
use Rattle.fg_tally.specs.Tally.{TallyState, Starts}
use Rattle.fg_tally.proofs.tally.Tally.start.Goals as goal

pub returns : goal.returns
returns g c =
    let t = c.self.inside in
    let new : TallyState = record { board = t.board.now; pass = c.begin.new.pass; held = c.begin.new.folding } in
    subst (λ (old : TallyState). Starts old c.args.key c.begin.result new) c.self.view_is
    (record { board = refl; turn = c.begin.ensures.turn; begins = c.begin.ensures.begins })
