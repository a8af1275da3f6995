-- Where no line misses just one word, a peeling is at its end.
use Rattle.std.proofs.Common.{ℕ, List, Option, subst}
use Rattle.slab.specs.Slab.{Slab}
use Rattle.fg_words.specs.declared.Word.{Word}
use Rattle.fg_peel.specs.declared.Line.{Line}
use Rattle.fg_peel.specs.declared.Slot.{Slot}
use Rattle.fg_peel.specs.declared.span.Missing.TheVariants.{One}
use Rattle.fg_peel.specs.Equation.{Equation}
use Rattle.fg_peel.specs.Peeling.{Step, CanFollow, end_of, EndsPeeling}
use Rattle.fg_peel.specs.Slots.{equations_of, OnlyFills, IsMissing, words_from}
use Rattle.fg_peel.specs.Recovery.{AllClosed, IsPeeled}
use Rattle.fg_peel.proofs.Lines.{line_of_equation}

missing-step : (words : ℕ → Option Word) (equations : List Equation) (step : Step) → CanFollow words equations step → IsMissing words step.equation (One step.position)
missing-step words equations step can = (can.slot, can.unknown, can.others_known)

no_step : (words : ℕ → Option Word) (lines : Slab Line) → AllClosed words lines → (step : Step) → CanFollow words (equations_of lines) step → ⊥
no_step words lines closed step can =
    let line = line_of_equation lines step.equation can.listed in
    let P : Equation → Type 0 = λ equation. IsMissing words equation (One step.position) in
    closed line.0 line.1 step.position (subst P line.2 (missing-step words (equations_of lines) step can))

pub ends_peeling :
    (start : ℕ) (lines : Slab Line) (old new : List Slot) → IsPeeled start (equations_of lines) old new
    → AllClosed (words_from start new) lines
    → EndsPeeling (equations_of lines) (words_from start old) (words_from start new)
ends_peeling start lines old new peeled closed =
    let still : AllClosed (end_of (words_from start old) peeled.0) lines =
    (let P : (ℕ → Option Word) → Type 0 = λ words. AllClosed words lines in subst P peeled.1.end closed) in (
      peeled.0,
      record { peeling = peeled.1.peeling; no_more = no_step (end_of (words_from start old) peeled.0) lines still },
      peeled.1.end,
    )

pub peeled_fills : (start : ℕ) (lines : Slab Line) (old new : List Slot) → IsPeeled start (equations_of lines) old new → OnlyFills old new
peeled_fills start lines old new peeled = peeled.1.fills
