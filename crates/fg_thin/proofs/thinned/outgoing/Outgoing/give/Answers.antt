use Rattle.std.proofs.Common.{◌≡◌, ℕ, ◌+◌, ◌-◌, ◌≤◌, List, take, drop, sym, ap, ◌∙◌, arith}
use Rattle.std.proofs.lemmas.List.{drop-take, drop-drop, length-take}
use Rattle.fg_thin.proofs.thinned.outgoing.Outgoing.give.Goals as goal

-- the bytes after those that were given
rest_of : (bytes : List ℕ) (front end count : ℕ) → front + count ≤ end
    → take (end - (front + count)) (drop (front + count) bytes) ≡ drop count (take (end - front) (drop front bytes))
rest_of bytes front end count within =
    let all : end - front ≡ count + (end - (front + count)) = omega arith in
    ap (take (end - (front + count))) (sym (drop-drop count front bytes))
    ∙ sym (drop-take count (end - (front + count)) (drop front bytes))
    ∙ ap (λ n. drop count (take n (drop front bytes))) (sym all)

pub returns-clause-left : goal.returns-clause-left
returns-clause-left c =
    rest_of c.self.inside.bytes.items c.self.inside.front c.self.inside.end c.min-count.result
    (omega (arith, c.self.invariant.0, c.min-count.ensures, length-take (c.self.inside.end - c.self.inside.front) (drop c.self.inside.front c.deref.result.now)))
    ∙ ap (drop c.min-count.result) c.self.view_is
