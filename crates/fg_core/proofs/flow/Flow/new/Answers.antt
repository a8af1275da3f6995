use Rattle.std.proofs.Common.{sym, subst, ◌∙◌, ap}
use Rattle.fg_shape.specs.Playout.{Playout}
use Rattle.fg_core.specs.Flow.{board_of, AreKept}
use Rattle.fg_core.specs.declared.flow.Held.{Held}
use Rattle.fg_core.proofs.Calling.{opened_is, opened_kept}
use Rattle.fg_core.proofs.flow.Flow.new.Goals as goal

pub invariant_of-result : goal.invariant_of-result
invariant_of-result c =
    let playout : Playout = record { window = c.args.window; depth = c.args.depth; hold = c.args.hold } in
    subst (λ (h : Held). AreKept h.desk h.notes)
    (sym (c.in_ok-new.ensures.ok ∙ (λ i. record { desk = c.in_ok-held.ensures.desk i; notes = c.in_ok-held.ensures.notes i })))
    (opened_kept playout)

pub returns : goal.returns
returns c =
    let playout : Playout = record { window = c.args.window; depth = c.args.depth; hold = c.args.hold } in
    ap (λ (h : Held). board_of h.desk h.notes)
    (c.in_ok-new.ensures.ok ∙ (λ i. record { desk = c.in_ok-held.ensures.desk i; notes = c.in_ok-held.held.notes }))
    ∙ opened_is playout c.in_ok-held.held.notes
