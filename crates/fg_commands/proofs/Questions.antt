-- Where nothing is written, it is a part of the answer.
use Rattle.fg_io.specs.Laws.{NoneIsPart}
use Rattle.fg_cli.specs.Help.{answer_text}
use Rattle.fg_cli.specs.declared.help.Question.{Question}
use Rattle.fg_commands.specs.Answering.{answering}
use Rattle.fg_commands.specs.Printer.{printer}
use Rattle.fg_commands.proofs.Filters.{printer_lawful}
use Rattle.fg_commands.proofs.Lawful.{Lawful}

pub lawful : NoneIsPart → (question : Question) → Lawful (printer (answering question))
lawful none question = printer_lawful (answering question) (λ written. none written (answer_text question))
