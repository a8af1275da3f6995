use Rattle.fg_core.proofs.Codes.{calls_read_back, told_reads_back}
use Rattle.fg_core.proofs.laws.codes_are_read_back.Goals as goal

pub returns-clause-calls : goal.returns-clause-calls
returns-clause-calls c = calls_read_back

pub returns-clause-told : goal.returns-clause-told
returns-clause-told c = told_reads_back
