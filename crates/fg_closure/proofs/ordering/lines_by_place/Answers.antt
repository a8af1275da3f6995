use Rattle.std.proofs.Common.{◌++◌, ◌∷◌, [], Some, None, sym, ap, ◌∙◌}
use Rattle.std.proofs.lemmas.List.{append-nil}
use Rattle.fg_closure.proofs.InOrder.{lines_more}
use Rattle.fg_closure.proofs.ordering.lines_by_place.Goals as goal
use Rattle.fg_closure.proofs.ordering.lines_by_place.Goals.{in-Some+in_ok-push, in_default}

pub loop-place-preserved : goal.loop-place-preserved
loop-place-preserved c = elim c.match-place.branch [
  | in-Some+in_ok-push w ↦ ap (λ v. v.items) w.lines-is ∙ w.in_ok-push.ensures.items ∙ ap (λ l. l ++ w.in-Some.line ∷ []) c.loop-place.invariant
      ∙ sym (lines_more c.args.table.now c.loop-place.place-index (Some w.in-Some.line) c.loop-place-test.true w.in-Some.is)
  | in_default w ↦ ap (λ v. v.items) w.lines-is ∙ c.loop-place.invariant
      ∙ sym (lines_more c.args.table.now c.loop-place.place-index None c.loop-place-test.true w.in_default.is ∙ append-nil _)
]
