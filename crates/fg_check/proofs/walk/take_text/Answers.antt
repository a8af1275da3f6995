use Rattle.std.proofs.Common.{ℕ, List, Result, Ok, Err, IfOk, Option, sym, subst}
use Rattle.fg_proof.specs.declared.case.Case.{Case}
use Rattle.fg_proof.specs.Text.{Line}
use Rattle.fg_check.specs.Line.{IsLine}
use Rattle.fg_check.specs.Steps.{TakesText}
use Rattle.fg_check.proofs.Grammar.{unfit}
use Rattle.fg_check.proofs.walk.take_text.Goals as goal

pub returns-in-Some : goal.returns-in-Some
returns-in-Some c =
    let line = c.in-Some.ensures in
    subst (λ (t : List ℕ). IfOk c.take_line.result (λ taken. TakesText c.args.opened.now t taken c.take_line.new.opened)) (sym line.is) c.take_line.ensures

pub returns-in-None : goal.returns-in-None
returns-in-None c = λ lines cases h.
    unfit lines cases c.args.opened.now c.args.text.now h (λ (line : Line) (is : IsLine c.args.text.now line). absurd (c.in-None.ensures line is))
