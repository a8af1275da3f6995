use Rattle.std.proofs.Common.{◌∙◌, sym}
use Rattle.std.proofs.lemmas.Bool.{both_ways}
use Rattle.std.proofs.lemmas.Bool.Decides.{Decides-eqb}
use Rattle.std.proofs.lemmas.Slice.Eq.{slice_eq-Decides}
use Rattle.fg_check.proofs.Spelling.{end_begins, end_read}
use Rattle.fg_check.proofs.reading.read_end.Goals as goal

pub returns-then-eq : goal.returns-then-eq
returns-then-eq c =
    end_read c.args.text.now ((slice_eq-Decides Decides-eqb c.args.text.now c.as_slice.result.now c.eq.result c.eq.ensures).0 c.if-eq.true ∙ c.as_slice.ensures)

pub returns-else-eq : goal.returns-else-eq
returns-else-eq c = λ h.
    both_ways c.eq.result c.if-eq.false
    ((slice_eq-Decides Decides-eqb c.args.text.now c.as_slice.result.now c.eq.result c.eq.ensures).1 (end_begins c.args.text.now h ∙ sym c.as_slice.ensures))
