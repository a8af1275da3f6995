-- The media datagrams of one sender as they arrived, and their extended sequence numbers (RFC 3550, section 5.1 and appendix
-- A.1). That a datagram counts as late from 1,024 positions behind the greatest on is this project's own.
--
-- A list of arrivals has the latest first: behind each stands all that came before it.
use Rattle.std.specs.Prelude.{ℕ, ◌+◌, ◌%◌, ◌==◌, ◌&&◌, max, nat_le, nat_lt, if◌then◌else◌, Option, None, Some, List, [], ◌∷◌}
use Rattle.std.specs.Option.{option_or}
use Rattle.fg_unwrap.specs.Position.{position_of}
use Rattle.fg_streams.specs.declared.span.Span.{Span}

-- Its time in microseconds, its sequence number, its timestamp and its payload.
pub record Arrival : Type 0 where
  pub time : ℕ
  pub seq : ℕ
  pub ts : ℕ
  pub payload : List ℕ

-- A datagram is late that comes below the first position, or so far behind the top.
abbrev pub late_by : ℕ
late_by = 1024

-- The position, unless the datagram is late there.
abbrev pub in_time : Span → Option ℕ → Option ℕ
in_time span None = None
in_time span (Some position) =
    (if nat_le span.first position && nat_lt span.top (position + late_by) then Some position else None)

-- The position of the datagram with this number, unless it is late. The first has its number as position, and each other the
-- position that is the top plus the signed difference of 16 bits from the top's number to its own.
abbrev pub position_in : Option Span → ℕ → Option ℕ
position_in None seq = Some seq
position_in (Some span) seq = in_time span (position_of span.top (span.top % 65536) seq)

abbrev pub raised : Option Span → ℕ → Option ℕ → Span
raised None seq position = record { first = seq; top = seq }
raised (Some span) seq None = span
raised (Some span) seq (Some position) = record { first = span.first; top = max span.top position }

-- The first position and the top of these arrivals, of which there may be none.
abbrev pub span_of : List Arrival → Option Span
span_of [] = None
span_of (a ∷ before) = Some (raised (span_of before) a.seq (position_in (span_of before) a.seq))

-- The position of one that comes after these, unless it is late.
abbrev pub position_after : List Arrival → Arrival → Option ℕ
position_after before a = position_in (span_of before) a.seq

abbrev pub time_if_at : Option ℕ → ℕ → ℕ → Option ℕ
time_if_at None time position = None
time_if_at (Some own) time position = (if own == position then Some time else None)

-- When the datagram of this position was received: the time of the first that came there and wasn't late. A position has none
-- until then.
abbrev pub time_at : List Arrival → ℕ → Option ℕ
time_at [] position = None
time_at (a ∷ before) position =
    option_or (time_at before position) (time_if_at (position_after before a) a.time position)
