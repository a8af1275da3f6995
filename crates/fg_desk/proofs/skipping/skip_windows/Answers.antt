use Rattle.std.proofs.Common.{◌≡◌, ◌≢◌, ◌+◌, ◌*◌, ◌≤◌, ap, arith, subst, ℕ}
use Rattle.fg_buffer.specs.PlayoutBuffer.{Advances}
use Rattle.fg_desk.specs.Holding.{Moves}
use Rattle.fg_desk.proofs.skipping.skip_windows.Goals as goal

pub returns-then-count-gt0-clause-some : goal.returns-then-count-gt0-clause-some
returns-then-count-gt0-clause-some c more =
    let w = c.args.window in
    let count = c.min-count.result in
    let e = c.empty_windows.result in
    let some : e ≢ 0 = λ none. more (omega (arith, none, c.min-count.ensures)) in
    let fewer : count * w ≤ e * w = grind (arith, c.min-count.ensures) in
    let near = c.empty_windows.ensures.near some in
    let limit = c.empty_windows.ensures.limit some in
    let mark = c.skip.ensures.mark in
    let first = c.mark-first.ensures.value in
    let same : count * c.from.result ≡ count * w = ap (λ (n : ℕ). count * n) c.from.ensures in
    let at : c.mark-first.result + count * c.from.result ≡ c.skip.new.self.mark = omega (arith, mark, first) in record {
      facts = c.mark-first.ensures.facts;
      equations = c.empty_windows.ensures.equations some;
      empty = λ p from below. c.empty_windows.ensures.empty p from (omega (arith, below, mark, fewer, same));
      advances = subst (λ (n : ℕ). Advances n c.args.buffer.now c.skip.new.self) same c.skip.ensures;
      moves = subst (λ (m : ℕ). Moves c.args.waiting.now m c.move_on.new.waiting) at c.move_on.ensures;
      near = omega (arith, near, mark, fewer, same);
      limit = omega (arith, limit, mark, fewer, same);
      few = omega (arith, c.min-count.ensures);
    }
