-- What a question beside the grammar is answered with: this project's own.
use Rattle.fg_io.specs.Sink.{Gains, GainsPart}
use Rattle.fg_cli.specs.Help.{answer_text}
use Rattle.fg_cli.specs.declared.help.Question.{Question}
use Rattle.fg_commands.specs.Printer.{Printer}

-- Its text is written; after a fault a prefix of it.
abbrev pub answering : Question → Printer
answering question = record {
  gains = λ written written'. Gains written (answer_text question) written';
  part = λ written written'. GainsPart written (answer_text question) written';
}
