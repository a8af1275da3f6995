use Rattle.std.proofs.Common.{refl}
use Rattle.fg_proof.proofs.case.Case.found.Goals as goal

pub returns : goal.returns
returns c desk is = record {
  port_is = refl;
  mark_is = c.mark.ensures desk is;
  count_is = refl;
  known_are = c.in_ok-known.ensures desk is;
  lines_are = c.in_ok-lines.ensures desk is;
  holes_are = c.in_ok-holes.ensures desk is;
}
