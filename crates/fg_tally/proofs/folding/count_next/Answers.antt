use Rattle.std.proofs.Common.{◌<◌, ◌++◌, ◌∷◌, [], ℕ, List, sym, ap, subst, ◌∙◌, arith, length}
use Rattle.std.proofs.lemmas.Nat.Bits.{shr_and_one}
use Rattle.fg_tally.specs.Counting.{Counts, missing_among}
use Rattle.fg_tally.proofs.Filtering.{more_with_set, more_with_clear, few_missing}
use Rattle.fg_tally.proofs.folding.count_next.Goals as goal

pub returns-then-folded-j-eq1 : goal.returns-then-folded-j-eq1
returns-then-folded-j-eq1 c =
    let a = c.args in
    subst (λ (xs : List ℕ). Counts xs a.missing)
    (sym (more_with_set a.folded a.base a.shape.offset a.shape.na a.j c.requires.number
    (sym (shr_and_one a.folded a.j) ∙ c.if-folded-j-eq1.true)))
    c.requires.before

pub returns : goal.returns
returns c =
    let a = c.args in
    let before = missing_among a.folded a.base a.shape.offset a.shape.na a.j in
    let short : length before < 255 = omega (arith, few_missing a.folded a.base a.shape.offset a.shape.na a.j, c.requires.number, c.requires.shape.slot_limit) in
    let slot_is = c.slot.ensures ∙ c.each_slot_has_its_number.ensures a.base a.shape.offset a.shape.na a.j c.requires.number in
    subst (λ (xs : List ℕ). Counts xs c.with.result)
    (ap (λ (s : ℕ). before ++ s ∷ []) slot_is
    ∙ sym (more_with_clear a.folded a.base a.shape.offset a.shape.na a.j c.requires.shape.some_offset
    (λ e. c.if-folded-j-eq1.false (shr_and_one a.folded a.j ∙ e))))
    (c.with.ensures before short c.requires.before)
