use Rattle.std.proofs.Common.{◌+◌, sym, subst, arith}
use Rattle.std.specs.FinMap.{insert}
use Rattle.fg_hold.specs.Inside.{state_of}
use Rattle.fg_hold.specs.Waiting.{WaitingState, Waits}
use Rattle.fg_hold.proofs.Puts.{put_high, put_below}
use Rattle.fg_hold.proofs.Waiting.put.Goals as goal

pub returns-then-position-self-clause-waits : goal.returns-then-position-self-clause-waits
returns-then-position-self-clause-waits c mark times h at near none =
    let w : WaitingState = state_of c.self.inside in
    let position = c.args.position in
    let came = c.set.new.self in
    let highs = c.set-then-position-self.new.self in
    let new = record w { came = came; highs = highs; next = w.next + 1; high_end = position + 1 } in
    let was : Waits w mark times = subst (λ (s : WaitingState). Waits s mark times) (sym c.self.view_is) h in
    subst (λ (s : WaitingState). Waits new mark (insert times position s.clock)) c.self.view_is
    (put_high w mark position times was at near none came c.set.ensures.here c.set.ensures.others highs
    c.self.invariant.order (omega arith) c.set-then-position-self.ensures.here c.set-then-position-self.ensures.others)

pub returns-else-position-self-clause-waits : goal.returns-else-position-self-clause-waits
returns-else-position-self-clause-waits c mark times h at near none =
    let w : WaitingState = state_of c.self.inside in
    let position = c.args.position in
    let came = c.set.new.self in
    let was : Waits w mark times = subst (λ (s : WaitingState). Waits s mark times) (sym c.self.view_is) h in
    subst (λ (s : WaitingState). Waits (record w { came = came }) mark (insert times position s.clock)) c.self.view_is
    (put_below w mark position times was at near none came c.set.ensures.here c.set.ensures.others (omega arith))
