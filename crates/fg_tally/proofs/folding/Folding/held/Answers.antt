use Rattle.std.proofs.Common.{refl, subst}
use Rattle.fg_tally.specs.Folding.{FoldingState, Shows}
use Rattle.fg_tally.specs.declared.answers.Held.{Held}
use Rattle.fg_tally.proofs.Numbers.{shows_bits}
use Rattle.fg_tally.proofs.folding.Folding.held.Goals as goal

pub returns : goal.returns
returns c =
    let w = c.self.inside in
    let held : Held = record { key = w.key; base = w.base; shape = w.shape; folded = w.folded } in
    subst (λ (state : FoldingState). Shows state held) c.self.view_is
    (shows_bits w.key w.base w.shape.offset w.shape.na w.parity.value w.folded w.remainder c.self.invariant.0.some_offset
    c.self.invariant.2 held refl refl refl refl refl)
