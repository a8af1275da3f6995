use Rattle.fg_check.proofs.Telling.{one_list, one_text}
use Rattle.fg_check.proofs.laws.one_text.Goals as goal

pub returns-clause-answers : goal.returns-clause-answers
returns-clause-answers c = one_list

pub returns-clause-text : goal.returns-clause-text
returns-clause-text c = one_text
