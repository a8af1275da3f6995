-- The text of an inspection: one line for each record of a trace. This project's own.
use Rattle.std.specs.Prelude.{◌≡◌, ℕ, ◌+◌, List, [], ◌∷◌, ◌++◌, codes, length}
use Rattle.std.specs.Fmt.{decimal}
use Rattle.std.specs.List.{AllZip}
use Rattle.fg_rtp.specs.declared.media.MediaFault.{MediaFault}
use Rattle.fg_rtp.specs.declared.media.MediaFault.TheVariants as media
use Rattle.fg_fechead.specs.declared.FecFault.{FecFault}
use Rattle.fg_fechead.specs.declared.FecFault.TheVariants as fec
use Rattle.fg_shape.specs.declared.kind.Kind.{Kind}
use Rattle.fg_shape.specs.declared.kind.Kind.TheVariants as kind
use Rattle.fg_trace.specs.Trace.{Record}
use Rattle.fg_inspect.specs.declared.reading.Reading.{Reading}
use Rattle.fg_inspect.specs.declared.reading.Reading.TheVariants.{Media, NoMedia, Parity, NoParity, Other}
use Rattle.fg_inspect.specs.Reading.{IsReading}

-- The number of each fault of a media datagram, in the order in which faults are named.
abbrev pub media_fault_number : MediaFault → ℕ
media_fault_number media.Short = 1
media_fault_number media.Version = 2
media_fault_number media.Flags = 3
media_fault_number media.PayloadType = 4
media_fault_number media.Size = 5
media_fault_number media.NoSync = 6

-- And of a parity datagram.
abbrev pub fec_fault_number : FecFault → ℕ
fec_fault_number fec.Short = 1
fec_fault_number fec.Version = 2
fec_fault_number fec.NoExtension = 3
fec_fault_number fec.OtherFec = 4
fec_fault_number fec.Shape = 5
fec_fault_number fec.Size = 6

-- The word for what a port carries.
abbrev pub kind_word : Kind → List ℕ
kind_word kind.Media = codes "media"
kind_word kind.Column = codes "column"
kind_word kind.Row = codes "row"

-- What a line tells of a datagram.
unfoldable pub reading_text : Reading → List ℕ
reading_text (Media seq len) = codes "media seq " ++ decimal seq ++ codes " len " ++ decimal len
reading_text (NoMedia fault) = codes "media bad " ++ decimal (media_fault_number fault)
reading_text (Parity by base offset na) =
    kind_word by ++ codes " base " ++ decimal base ++ codes " offset " ++ decimal offset ++ codes " na " ++ decimal na
reading_text (NoParity by fault) = kind_word by ++ codes " bad " ++ decimal (fec_fault_number fault)
reading_text Other = codes "other"

-- The line of the record with this number: its number, its time in microseconds, its port, how many bytes its datagram
-- has, and what the datagram is read as.
unfoldable pub line : ℕ → ℕ → ℕ → ℕ → Reading → List ℕ
line number time port size reading =
    decimal number ++ codes " " ++ decimal time ++ codes " " ++ decimal port ++ codes " " ++ decimal size ++ codes " "
    ++ reading_text reading ++ codes "\n"

abbrev pub line_of : ℕ → Record → Reading → List ℕ
line_of number r reading = line number r.time r.port (length r.datagram) reading

-- The lines of records, numbered from a first number on.
abbrev pub lines_from : ℕ → List Record → List Reading → List ℕ
lines_from number (r ∷ records) (reading ∷ readings) = line_of number r reading ++ lines_from (number + 1) records readings
lines_from number _ _ = []

-- The records of a trace have this text, where these are the flows: each record is read, and its line is told. The first
-- record has the number 0.
pub record IsText (flows : List ℕ) (records : List Record) (text : List ℕ) : Type 0 where
  pub readings : List Reading
  pub read : AllZip (λ r reading. IsReading flows r.port r.datagram reading) records readings
  pub lines : text ≡ lines_from 0 records readings
