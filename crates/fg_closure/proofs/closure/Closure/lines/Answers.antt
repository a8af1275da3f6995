use Rattle.std.proofs.Common.{◌≡◌, ◌∙◌, ap, map, rules}
use Rattle.std.proofs.lemmas.Result.{IfOk-weaker}
use Rattle.std.proofs.lemmas.List.Sorted.{IsNonDecreasingBy-from_sort, answers_always}
use Rattle.fg_playout.specs.State.{State}
use Rattle.fg_closure.specs.Flags.{rule_at}
use Rattle.fg_closure.specs.Found.{IsFoundOf}
use Rattle.fg_closure.specs.Holes.{rules_of}
use Rattle.fg_closure.specs.declared.search.LineSlots.{LineSlots}
use Rattle.fg_closure.proofs.InOrder.{sorted_lines, lines_in}
use Rattle.fg_closure.proofs.closure.Closure.lines.Goals as goal

pub returns : goal.returns
returns c =
    let serial = λ (line : LineSlots). line.serial in
    IfOk-weaker c.rules_from.result _
    (λ rules. (desk : State) → IsFoundOf desk c.args.self.now → rules ≡ rules_of desk)
    (λ told are desk is. are ∙ ap (map rule_at) c.deref-2.ensures.value
    ∙ sorted_lines desk c.args.self.now is c.in_ok-lines.lines.items c.sort_unstable_by_key.new.self.items
    (c.in_ok-lines.ensures ∙ ap lines_in c.deref.ensures.value) c.sort_unstable_by_key.ensures.permutation
    (IsNonDecreasingBy-from_sort serial c.sort_unstable_by_key.new.self.items (c.sort_unstable_by_key.ensures.sorted serial (answers_always _ _ _ (λ f a r g h. search rules)))))
    c.rules_from.ensures
