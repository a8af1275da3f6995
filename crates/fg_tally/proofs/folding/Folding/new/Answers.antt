use Rattle.std.proofs.Common.{ap, ◌∙◌}
use Rattle.std.specs.Ordering.{nat_cmp}
use Rattle.std.specs.FinSet.{FinSet}
use Rattle.fg_words.specs.declared.Word.{Word}
use Rattle.fg_core.specs.Board.{equation_with}
use Rattle.fg_tally.specs.Folding.{FoldingState, slots_in}
use Rattle.fg_tally.proofs.Numbers.{none_set}
use Rattle.fg_tally.proofs.folding.Folding.new.Goals as goal

pub returns : goal.returns
returns c =
    let a = c.args in
    let made : FinSet nat_cmp → Word → FoldingState = λ (s : FinSet nat_cmp) (w : Word).
    record { key = a.key; equation = equation_with a.base a.shape w; folded = s; remainder = a.parity } in
    ap (made (slots_in 0 a.base a.shape.offset a.shape.na)) c.of.ensures
    ∙ ap (λ (s : FinSet nat_cmp). made s a.parity) (none_set a.base a.shape.offset a.shape.na)
