-- The matrix that a sender's parity shows: a column's parity comes on the second port above the media's, a row's on the fourth
-- (SMPTE ST 2022-1). Only what comes after the first media datagram on the port counts. This project's own.
use Rattle.std.specs.Prelude.{ℕ, zero, suc, ◌+◌, ◌-◌, ◌/◌, ◌%◌, ◌==◌, ◌&&◌, Bool, max, nat_lt, if◌then◌else◌, count_by, Option, None, Some, List, [], ◌∷◌, ◌++◌, length}
use Rattle.std.specs.Option.{option_or}
use Rattle.std.specs.List.{list_any}
use Rattle.fg_streams.specs.declared.span.Span.{Span}
use Rattle.fg_streams.specs.Arrival.{span_of}
use Rattle.fg_survey.specs.declared.reading.Reading.{Reading}
use Rattle.fg_survey.specs.declared.reading.Reading.TheVariants.{Media, Parity, Other}
use Rattle.fg_survey.specs.declared.senders.Sender.{Sender}
use Rattle.fg_survey.specs.declared.tally.Matrix.{Matrix}
use Rattle.fg_survey.specs.Heard.{Heard, on_port}
use Rattle.fg_survey.specs.Senders.{arrivals_of, listed, sender_of, senders_of}

-- The sender of the latest media datagram; none where there is none.
abbrev pub last_sender : List Heard → Option Sender
last_sender [] = None
last_sender (x ∷ before) = option_or (sender_of x) (last_sender before)

-- What a parity datagram says, and how far the stream's top was ahead of its base.
pub record Protection : Type 0 where
  pub offset : ℕ
  pub number : ℕ
  pub ahead : ℕ

-- A difference of 16 bits where it is above 0, else 0.
abbrev pub rise_of : ℕ → ℕ
rise_of by = if nat_lt by 32768 then by else 0

-- How far a top's number is ahead of a base.
abbrev pub ahead_of : ℕ → Option Span → ℕ
ahead_of base None = 0
ahead_of base (Some span) = rise_of ((span.top % 65536 + 65536 - base) % 65536)

-- By the stream of this sender, where it is one that is told.
abbrev pub ahead_by : List Heard → ℕ → Sender → ℕ
ahead_by before base sender =
    (if listed (senders_of before) sender then ahead_of base (span_of (arrivals_of sender before)) else 0)

abbrev pub protection_by : ℕ → List Heard → Option Sender → ℕ → Reading → List Protection
protection_by port before None from reading = []
protection_by port before (Some sender) from (Parity base offset number) =
    (if from == port
    then (record { offset = offset; number = number; ahead = ahead_by before base sender }) ∷ []
    else [])
protection_by port before (Some sender) from (Media seq ts ssrc) = []
protection_by port before (Some sender) from Other = []

-- The parity datagrams on a port that came after the first media datagram on another. The stream is that of the last media
-- datagram before.
abbrev pub protections : ℕ → ℕ → List Heard → List Protection
protections media port [] = []
protections media port (x ∷ before) =
    protection_by port before (last_sender (on_port media before)) x.port x.reading ++ protections media port before

abbrev pub has_shape : ℕ → ℕ → Protection → Bool
has_shape offset number p = p.offset == offset && p.number == number

abbrev pub has_number : ℕ → Protection → Bool
has_number number p = p.number == number

abbrev pub most_ahead : List Protection → ℕ
most_ahead [] = 0
most_ahead (p ∷ ps) = max p.ahead (most_ahead ps)

-- How many have the shape at this place: the shapes of 20 offsets and 20 numbers, each offset's behind those of the one before.
abbrev pub shape_count : List Protection → ℕ → ℕ
shape_count ps place = count_by (has_shape (place / 20 + 1) (place % 20 + 1)) ps

abbrev pub number_count : List Protection → ℕ → ℕ
number_count ps place = count_by (has_number (place + 1)) ps

abbrev pub straight_count : List Protection → ℕ → ℕ
straight_count ps place = count_by (has_shape 1 (place + 1)) ps

-- Of so many places that at which the count is greatest, and of several the least.
unfoldable pub commonest : (ℕ → ℕ) → ℕ → ℕ
commonest count zero = 0
commonest count (suc n) = if nat_lt (count (commonest count n)) (count n) then n else commonest count n

abbrev pub matrix_by : List Protection → List Protection → ℕ → ℕ → Matrix
matrix_by columns rows width height = record {
  columns = width;
  rows = height;
  same = count_by (has_shape width height) columns + count_by (has_shape 1 width) rows;
  other = length columns + length rows - (count_by (has_shape width height) columns + count_by (has_shape 1 width) rows);
  lag = max (most_ahead columns) (most_ahead rows);
}

-- The commonest shape of the column's parity, or without any the commonest number of the row's.
abbrev pub matrix_of : List Protection → List Protection → Matrix
matrix_of [] rows = matrix_by [] rows (commonest (number_count rows) 20 + 1) 0
matrix_of (p ∷ ps) rows =
    matrix_by (p ∷ ps) rows (commonest (shape_count (p ∷ ps)) 400 / 20 + 1) (commonest (shape_count (p ∷ ps)) 400 % 20 + 1)

-- Where a column's parity and a row's come.
abbrev pub columns_on : ℕ → List Heard → List Protection
columns_on port heard = protections port (port + 2) heard

abbrev pub rows_on : ℕ → List Heard → List Protection
rows_on port heard = protections port (port + 4) heard

abbrev pub has_stream : List Sender → ℕ → Bool
has_stream senders port = list_any (λ s. s.port == port) senders
