use Rattle.std.proofs.Common.{List, Option, sym, ap, subst, ◌∙◌, ◌+◌}
use Rattle.fg_words.specs.declared.Word.{Word}
use Rattle.fg_desk.specs.Contents.{shared_at}
use Rattle.fg_core.specs.Flow.{AreSharesAt}
use Rattle.fg_core.proofs.Opening.{one_more_share}
use Rattle.fg_core.proofs.open.shares_of.Goals as goal

pub loop-j-preserved : goal.loop-j-preserved
loop-j-preserved c =
    subst (λ (shares : List (Option Word)). AreSharesAt c.args.desk.now c.args.line.now (c.loop-j.j + 1) shares) (sym c.in_ok-push.ensures.items)
    (one_more_share c.args.desk.now c.args.line.now c.loop-j.j c.loop-j.shares.items c.in_ok-share.share
    (c.in_ok-share.ensures.0 ∙ ap (shared_at c.args.desk.now) c.slot.ensures) c.in_ok-share.ensures.1 c.loop-j.invariant)
