use Rattle.std.proofs.Common.{◌∙◌, ◌/◌, sym, ap, get_or, List, ℕ, subst}
use Rattle.fg_io.specs.declared.input_buffer.Ahead.{Ahead}
use Rattle.fg_io.specs.InputBuffer.{IsAhead}
use Rattle.fg_encode.proofs.StreamViews.{too_long_here}
use Rattle.fg_monitor.proofs.Endings.{packet_here, unsynced_here}
use Rattle.fg_monitor.proofs.walk.ending_here.Goals as goal

pub returns-in-Whole : goal.returns-in-Whole
returns-in-Whole c =
    let input = c.args.input.now in
    packet_here input (subst (λ (a : Ahead). IsAhead a input 188) c.in-Whole.is c.requires.ahead)
    (sym (ap (λ (l : List ℕ). get_or l 0 0) c.held.ensures.value) ∙ c.if-held-eq-SYNC_BYTE.true)

pub returns-in-Whole-2 : goal.returns-in-Whole-2
returns-in-Whole-2 c =
    let input = c.args.input.now in
    unsynced_here input (c.place.result / 188) (subst (λ (a : Ahead). IsAhead a input 188) c.in-Whole.is c.requires.ahead)
    (λ synced. c.if-held-eq-SYNC_BYTE.false (ap (λ (l : List ℕ). get_or l 0 0) c.held.ensures.value ∙ synced)) (ap (λ n. n / 188) c.place.ensures.value)

pub returns-in-PastLimit : goal.returns-in-PastLimit
returns-in-PastLimit c =
    let input = c.args.input.now in
    too_long_here input 1 c.place-in-PastLimit.result (subst (λ (a : Ahead). IsAhead a input 188) c.in-PastLimit.is c.requires.ahead) c.place-in-PastLimit.ensures.value
