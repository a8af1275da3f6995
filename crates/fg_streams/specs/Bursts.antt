-- The bursts of losses of a stream: the maximal runs of positions between the first and the top at which no datagram was
-- received. This project's own.
use Rattle.std.specs.Prelude.{ℕ, zero, suc, ◌+◌, ◌-◌, ◌==◌, ◌&&◌, ◌||◌, Bool, nat_le, nat_lt, if◌then◌else◌, count_by, Option, None, Some, List, [], ◌∷◌, ◌++◌, length, map, reverse, take}
use Rattle.std.specs.List.{range_with_len}
use Rattle.fg_streams.specs.declared.bursts.Burst.{Burst}
use Rattle.fg_streams.specs.declared.bursts.Lengths.{Lengths}
use Rattle.fg_streams.specs.declared.span.Span.{Span}
use Rattle.fg_streams.specs.Arrival.{Arrival, span_of, time_at}

-- The times at which the datagrams of the positions from the first to the top were received, in the order of the positions.
abbrev pub times_in : List Arrival → Option Span → List (Option ℕ)
times_in arrivals None = []
times_in arrivals (Some span) =
    map (λ slot. time_at arrivals (span.first + slot)) (range_with_len 0 (span.top - span.first + 1))

abbrev pub times_of : List Arrival → List (Option ℕ)
times_of arrivals = times_in arrivals (span_of arrivals)

-- How many positions at the front are lost.
abbrev pub lost_at_front : List (Option ℕ) → ℕ
lost_at_front [] = 0
lost_at_front (None ∷ times) = 1 + lost_at_front times
lost_at_front (Some time ∷ times) = 0

-- So many lost positions from this one on, behind one that was received at this time.
abbrev pub burst_of : ℕ → ℕ → ℕ → List Burst
burst_of slot at zero = []
burst_of slot at (suc lost) = (record { slot = slot; length = suc lost; at = at }) ∷ []

-- A burst is what is lost right behind a position that was received. Positions are counted from this number on.
abbrev pub bursts_from : ℕ → List (Option ℕ) → List Burst
bursts_from slot [] = []
bursts_from slot (None ∷ times) = bursts_from (slot + 1) times
bursts_from slot (Some time ∷ times) = burst_of (slot + 1) time (lost_at_front times) ++ bursts_from (slot + 1) times

-- In the order of their positions, which are counted from the stream's first.
abbrev pub bursts_of : List (Option ℕ) → List Burst
bursts_of times = bursts_from 0 times

-- A burst is from this to that long.
abbrev pub lasts : ℕ → ℕ → Burst → Bool
lasts least most burst = nat_le least burst.length && nat_le burst.length most

-- How many there are, and how many of each length.
abbrev pub lengths_of : List Burst → Lengths
lengths_of bursts = record {
  runs = length bursts;
  one = count_by (lasts 1 1) bursts;
  two = count_by (lasts 2 2) bursts;
  four = count_by (lasts 3 4) bursts;
  eight = count_by (lasts 5 8) bursts;
  sixteen = count_by (lasts 9 16) bursts;
  thirty_two = count_by (lasts 17 32) bursts;
  more = count_by (λ burst. nat_lt 32 burst.length) bursts;
}

-- A burst goes before another: it is longer, or as long and earlier.
abbrev pub goes_before : Burst → Burst → Bool
goes_before one other =
    nat_lt other.length one.length || (one.length == other.length && nat_lt one.slot other.slot)

abbrev pub placed : Burst → List Burst → List Burst
placed burst [] = burst ∷ []
placed burst (other ∷ others) = (if goes_before burst other then burst ∷ other ∷ others else other ∷ placed burst others)

-- The bursts in that order.
abbrev pub ranked : List Burst → List Burst
ranked [] = []
ranked (burst ∷ bursts) = placed burst (ranked bursts)

-- The ten longest.
abbrev pub longest_of : List Burst → List Burst
longest_of bursts = take 10 (ranked (reverse bursts))
