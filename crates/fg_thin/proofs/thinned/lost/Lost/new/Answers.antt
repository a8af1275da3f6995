use Rattle.std.proofs.Common.{ℕ, ◌==◌, ◌%◌, ◌&&◌, ◌||◌, nat_lt, sym, ap, ◌∙◌}
use Rattle.std.specs.List.{list_any}
use Rattle.std.proofs.lemmas.List.Sorted.{IsNonDecreasingBy-from_sort, list_any-IsPermutation}
use Rattle.fg_thin.proofs.thinned.lost.Lost.new.Goals as goal

pub invariant_of-result : goal.invariant_of-result
invariant_of-result c = IsNonDecreasingBy-from_sort (λ (x : ℕ). x) c.sort_unstable.new.self.items c.sort_unstable.ensures.sorted

pub returns : goal.returns
returns c = λ number.
    let every = c.args.losses.now.every in
    ap (λ b. b || (nat_lt 0 every && (nat_lt 0 number && number % every == 0)))
    (sym (list_any-IsPermutation (λ drop. drop == number) c.in_ok-drops.drops.items c.sort_unstable.new.self.items c.sort_unstable.ensures.permutation)
    ∙ ap (list_any (λ drop. drop == number)) c.in_ok-drops.ensures)
