-- The help of the program, from the table of the words, and its version. All of it is this project's own.
use Rattle.std.specs.Prelude.{◌≡◌, ℕ, List, [], ◌∷◌, ◌++◌, Option, Some, None, codes, drop, length, min, nat_eq, if◌then◌else◌}
use Rattle.std.specs.Fmt.{decimal}
use Rattle.std.specs.List.{flat_map}
use Rattle.fg_cli.specs.declared.help.Question.{Question}
use Rattle.fg_cli.specs.declared.help.Question.TheVariants as question
use Rattle.fg_cli.specs.declared.grammar.Command.{Command}
use Rattle.fg_cli.specs.declared.grammar.Key.{Key}
use Rattle.fg_cli.specs.declared.grammar.Absent.{Absent}
use Rattle.fg_cli.specs.declared.grammar.Absent.TheVariants.{Needed, Default, Nothing}
use Rattle.fg_cli.specs.Grammar.{Range, Number, Either, TableRow, about, command_about, command_text, commands, keys_of, told_after, value_text}

-- Lines of text.
abbrev pub lines_text : List (List ℕ) → List ℕ
lines_text lines = flat_map (λ line. line ++ codes "\n") lines

-- The values that a name takes.
abbrev pub range_text : Range → List ℕ
range_text (Number least greatest) = decimal least ++ codes ".." ++ decimal greatest
range_text (Either first second) = first ++ codes "|" ++ second

-- How often it may stand, where a number above one is set for it.
abbrev pub times_text : Option ℕ → List ℕ
times_text None = []
times_text (Some most) = if nat_eq most 1 then [] else codes ", up to " ++ decimal most ++ codes " times"

-- What holds where it isn't there.
abbrev pub absent_text : Range → Absent → List ℕ
absent_text range (Needed name) = codes "needed"
absent_text range (Default n) = codes "default " ++ value_text range n
absent_text range Nothing = codes "default none"

-- A text with blanks behind it, up to column 26, and one at least.
unfoldable pub blanks : List ℕ
blanks = codes "                          "

abbrev pub padded : List ℕ → List ℕ
padded text = text ++ drop (min (length text) 25) blanks

-- How a name and its values are spelled, in a column of their own.
unfoldable pub spelling : List ℕ → Range → List ℕ
spelling name range = padded (codes "  " ++ name ++ codes "=" ++ range_text range)

-- A line of the table: how its name is spelled, what it means, and what holds where it isn't there.
unfoldable pub row_line : TableRow → List ℕ → List ℕ
row_line row meaning =
    spelling row.name row.range ++ meaning ++ times_text row.most ++ codes "; " ++ absent_text row.range row.absent
    ++ codes "\n"

-- The line of a name that stands after a command.
abbrev pub key_line : Command → Key → List ℕ
key_line command key = row_line (told_after command key) (about key)

-- The line of a command.
unfoldable pub command_line : Command → List ℕ
command_line command =
    codes "fgate " ++ command_text command ++ codes ": " ++ command_about command ++ codes "\n"

-- A command with its names, in the order of the table.
unfoldable pub command_help : Command → List ℕ
command_help command = command_line command ++ flat_map (key_line command) (keys_of command)

-- Its part of the help, behind a blank line.
unfoldable pub command_part : Command → List ℕ
command_part command = codes "\n" ++ command_help command

unfoldable pub intro : List ℕ
intro =
    lines_text
    (codes "fgate: repairs MPEG transport streams in RTP by SMPTE ST 2022-1 parity"
    ∷ codes ""
    ∷ codes "usage: fgate COMMAND NAME=VALUE .."
    ∷ codes "       fgate COMMAND --help"
    ∷ codes "       fgate --help"
    ∷ codes "       fgate --version"
    ∷ codes ""
    ∷ codes "repair, inspect, tocap, prove, survey and pick read a trace from standard input,"
    ∷ codes "encode, drill and monitor a stream, fromcap a capture, and check the text of"
    ∷ codes "prove; sample and plan read nothing. repair, drill and sample write each flow to"
    ∷ codes "the file PORT.ts of this folder, and the report to standard output. encode,"
    ∷ codes "fromcap and pick write a trace there, tocap a capture, and the others lines."
    ∷ [])

-- The lines that name the first rule that the words break.
unfoldable pub rules : List ℕ
rules =
    lines_text
    (codes ""
    ∷ codes "standard error, with words counted from 0, which is the command:"
    ∷ codes "  words: no command       there is no word"
    ∷ codes "  words: bad word I       word I is none that may stand there"
    ∷ codes "  words: missing NAME     NAME must be there"
    ∷ codes "  words: depth below window at word I"
    ∷ codes "  words: layout 1         columns are not 1..20"
    ∷ codes "  words: layout 2         rows are not 4..20"
    ∷ codes "  words: layout 3         columns times rows is more than 100"
    ∷ codes "  words: layout 4         fec=both, and fewer than 4 columns"
    ∷ codes "  words: flows 1          there is no flow"
    ∷ codes "  words: flows 2          there are more than 64 flows"
    ∷ codes "  words: flows 3 at I     flow I, counted from 0, is not 1..65531"
    ∷ codes "  words: flows 4 at I     flow I shares P, P+2 or P+4 with an earlier flow"
    ∷ [])

unfoldable pub outro : List ℕ
outro =
    lines_text
    (codes ""
    ∷ codes "status:"
    ∷ codes "  0  all was done"
    ∷ codes "  1  the words are faulty, and nothing was read"
    ∷ codes "  2  reading failed"
    ∷ codes "  3  writing failed, or a lane is the input, the output or another lane"
    ∷ codes "  4  the input is no trace, or ends inside a record"
    ∷ codes "  5  the input is longer than its max, where the command has one"
    ∷ codes "  6  there was no memory"
    ∷ codes "  7  the stream is not of whole transport packets"
    ∷ codes "  8  the input is no capture, or a record does not fit one"
    ∷ codes "  10 a case proves no gap"
    ∷ codes "  11 the text is not of cases"
    ∷ codes ""
    ∷ codes "example: fgate repair flow=5000 flow=6000 < night.trace"
    ∷ [])

-- The whole help: each command of the table, between what holds of all.
abbrev pub help : List ℕ
help = intro ++ flat_map command_part commands ++ rules ++ outro

abbrev pub version : List ℕ
version = codes "fgate 0.1.0\n"

-- The words of a question, and its answer.
abbrev pub question_words : Question → List (List ℕ)
question_words question.Help = codes "--help" ∷ []
question_words (question.HelpOn command) = command_text command ∷ codes "--help" ∷ []
question_words question.Version = codes "--version" ∷ []

abbrev pub answer_text : Question → List ℕ
answer_text question.Help = help
answer_text (question.HelpOn command) = command_help command
answer_text question.Version = version

-- The words are this question, with no further word.
abbrev pub IsQuestion : List (List ℕ) → Question → Type 0
IsQuestion words question = words ≡ question_words question
