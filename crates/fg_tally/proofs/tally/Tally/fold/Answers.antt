use Rattle.std.proofs.Common.{refl, subst, inr}
use Rattle.std.specs.Prelude.{Some}
use Rattle.fg_tally.specs.Tally.{TallyState, FoldsBy}
use Rattle.fg_tally.proofs.tally.Tally.fold.Goals as goal

pub returns-else-not-is_of : goal.returns-else-not-is_of
returns-else-not-is_of g c =
    let t = c.self.inside in
    let new : TallyState = record { board = t.board.now; pass = c.fold_known.new.pass; held = Some c.fold_known.new.folding } in
    inr (subst (λ (old : TallyState). FoldsBy old c.args.key c.args.slot c.fold_known.result new) c.self.view_is (record {
      state = c.in-Some.folding;
      state_is = c.in-Some.is;
      key_is = c.is_of.ensures.0 c.if-not-is_of.false;
      looked = c.fold_known.ensures.folds.0;
      turn = c.fold_known.ensures.folds.1;
      after = c.fold_known.new.folding;
      after_is = refl;
      folds = c.fold_known.ensures.folds.2;
    }))
