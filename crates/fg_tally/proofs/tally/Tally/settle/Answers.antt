use Rattle.std.proofs.Common.{refl, subst, inr}
use Rattle.fg_tally.specs.Tally.{TallyState, SettlesBy}
use Rattle.fg_tally.proofs.tally.Tally.settle.Goals as goal

pub returns-else-not-is_of : goal.returns-else-not-is_of
returns-else-not-is_of g c =
    let t = c.self.inside in
    let new : TallyState = record { board = t.board.now; pass = c.bring.new.pass; held = t.folding } in
    inr (subst (λ (old : TallyState). SettlesBy old c.args.key c.bring.result new) c.self.view_is (record {
      state = c.in-Some.folding;
      state_is = c.in-Some.is;
      key_is = c.is_of.ensures.0 c.if-not-is_of.false;
      after_is = refl;
      settles = c.bring.ensures.settles;
    }))
