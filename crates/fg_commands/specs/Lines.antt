-- A line of the error sink in its parts. No public contract cites what stands here.
use Rattle.std.specs.Prelude.{ℕ, List, [], ◌++◌}
use Rattle.std.specs.Fmt.{decimal}
use Rattle.fg_commands.specs.declared.fault_line.Line.{Line}
use Rattle.fg_commands.specs.declared.fault_line.Told.{Told}
use Rattle.fg_commands.specs.declared.fault_line.Told.TheVariants as told

-- What a line tells, as text.
abbrev pub told_text : Told → List ℕ
told_text told.Nothing = []
told_text (told.Number n) = decimal n
told_text (told.Text text) = text.now

abbrev pub line_text : Line → List ℕ
line_text line = line.words.now ++ told_text line.told ++ line.end.now
