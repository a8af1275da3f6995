use Rattle.std.proofs.Common.{codes}
use Rattle.std.specs.Fmt.{decimal}
use Rattle.fg_report.specs.Text.{tail_text}
use Rattle.fg_report.proofs.SentLemmas.{regrouped}
use Rattle.fg_report.proofs.lines.push_tail.Goals as goal

pub returns-in-Cut : goal.returns-in-Cut
unfolding tail_text
returns-in-Cut c = rw c.in-Cut.is (regrouped c.push_place.result c.args.text.now.items c.push_place.new.text.items (codes "cut at byte ") (decimal c.in-Cut.place) (codes "\n") c.push_place.ensures)
