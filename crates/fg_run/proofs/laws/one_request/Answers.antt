use Rattle.fg_run.proofs.Requests.{one_request}
use Rattle.fg_run.proofs.laws.one_request.Goals as goal

pub returns : goal.returns
returns c =
    let questions = c.one_question.ensures in
    let laws = c.one_reading.ensures in
    one_request questions.question questions.no_reading laws.reading laws.no_fault laws.fault
