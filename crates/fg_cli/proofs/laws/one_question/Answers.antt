use Rattle.fg_cli.proofs.Questions.{no_reading, one_question}
use Rattle.fg_cli.proofs.laws.one_question.Goals as goal

pub returns-clause-question : goal.returns-clause-question
returns-clause-question c = one_question

pub returns-clause-no_reading : goal.returns-clause-no_reading
returns-clause-no_reading c = no_reading
