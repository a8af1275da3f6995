use Rattle.std.proofs.Common.{◌≡◌, ◌+◌, ◌-◌, ◌<◌, ℕ, List, Option, None, IfNone, subst, sym, arith}
use Rattle.fg_io.proofs.FaultLemmas.{on_err}
use Rattle.fg_check.specs.declared.walk.Checked.{Checked}
use Rattle.fg_check.specs.Steps.{Breaks, IsUnderway}
use Rattle.fg_check.proofs.Walks.{nearer}
use Rattle.fg_check.proofs.walk.Walk.walk_all.Goals as goal

pub returns-in_err-checked-clause-part : goal.returns-in_err-checked-clause-part
returns-in_err-checked-clause-part g c =
    let now = g.S.Source.left c.walk_on.new.input in
    let after = g.K.Sink.written c.walk_on.new.out in
    let P : Type 0 = (first : Option (List ℕ)) (before : Option (List ℕ))
    → IsUnderway first (g.S.Source.left c.args.input.now) c.args.self.now before (g.K.Sink.written c.args.out.now) → Breaks c.args.self.now.max first now before after in
    let part : P = λ first before h.
    subst (λ n. Breaks n first now before after) c.loop-checked.invariant.max (c.in_err-checked.ensures.part first before (c.loop-checked.invariant.told first before h)) in
    on_err _ P part

pub loop-checked-smaller : goal.loop-checked-smaller
loop-checked-smaller g c =
    let first = c.requires.0 in
    let before = c.requires.1 in
    let left = g.S.Source.left c.loop-checked.input in
    let at = g.K.Sink.written c.loop-checked.out in
    let now = g.S.Source.left c.walk_on.new.input in
    let after = g.K.Sink.written c.walk_on.new.out in
    let h = c.loop-checked.invariant.told first before c.requires.2 in
    let More : Type 0 = (first : Option (List ℕ)) (before : Option (List ℕ)) → IsUnderway first left c.loop-checked.self before at → IsUnderway first now c.walk_on.new.self before after in
    let more : More = subst (λ (o : Option Checked). IfNone o More) c.in_default.is c.in_ok-checked.ensures.more in
    let place : c.loop-checked.self.input.place < c.walk_on.new.self.input.place =
    subst (λ (o : Option Checked). IfNone o (c.loop-checked.self.input.place < c.walk_on.new.self.input.place)) c.in_default.is c.in_ok-checked.ensures.place in
    nearer c.loop-checked.self c.walk_on.new.self first left now before at after h (more first before h) c.walk_on.ensures.max place
