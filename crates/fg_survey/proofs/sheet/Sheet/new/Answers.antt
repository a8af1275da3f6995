use Rattle.std.proofs.Common.{[]}
use Rattle.fg_survey.proofs.sheet.Sheet.new.Goals as goal

pub returns : goal.returns
returns c = record {
  heard = [];
  read = tt;
  sizes = tt;
  totals = c.at.ensures;
  rows = c.in_ok-no_rows.ensures;
  streams = c.new.ensures;
  lanes = c.in_ok-new.ensures;
}
