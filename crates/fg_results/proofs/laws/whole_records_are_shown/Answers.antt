use Rattle.fg_results.proofs.AtRead.{whole_shown}
use Rattle.fg_results.proofs.laws.whole_records_are_shown.Goals as goal

pub returns : goal.returns
returns c = whole_shown c.whole_records_are_answered.ensures.one
