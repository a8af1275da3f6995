-- What shows that the definitions of a stream are right.
use Rattle.std.specs.Prelude.{◌≡◌, ◌-◌, count_by, is_none, is_some, List, length}
use Rattle.fg_streams.specs.Arrival.{Arrival, span_of}
use Rattle.fg_streams.specs.Bursts.{times_of}
use Rattle.fg_streams.specs.Fates.{counts_of, expected_in, fates_of}

-- The expected positions are those from the first to the top, as many are received as have a datagram that came in time, and the
-- others are lost.
abbrev pub CountsPositions : Type 0
CountsPositions = (arrivals : List Arrival) →
    (expected_in (span_of arrivals) ≡ length (times_of arrivals))
    × ((counts_of (fates_of arrivals)).received ≡ count_by is_some (times_of arrivals))
    × (expected_in (span_of arrivals) - (counts_of (fates_of arrivals)).received ≡ count_by is_none (times_of arrivals))
