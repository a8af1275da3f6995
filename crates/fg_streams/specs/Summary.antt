-- What a stream comes to.
use Rattle.std.specs.Prelude.{ℕ, Option, List}
use Rattle.fg_streams.specs.declared.bursts.Burst.{Burst}
use Rattle.fg_streams.specs.declared.bursts.Lengths.{Lengths}
use Rattle.fg_streams.specs.declared.fates.Counts.{Counts}
use Rattle.fg_streams.specs.declared.pace.Pace.{Pace}
use Rattle.fg_streams.specs.declared.span.Span.{Span}
use Rattle.fg_streams.specs.Arrival.{Arrival, span_of}
use Rattle.fg_streams.specs.Bursts.{bursts_of, lengths_of, longest_of, times_of}
use Rattle.fg_streams.specs.Fates.{counts_of, fates_of}
use Rattle.fg_streams.specs.Pace.{pace_of}
use Rattle.fg_streams.specs.Packets.{pids_of}

-- The first position and the top, how many positions there are from the one to the other, what became of the datagrams, the
-- bursts of losses by their lengths and the longest of them, the pace, and how many PIDs the packets have.
pub record Summary : Type 0 where
  pub span : Option Span
  pub counts : Counts
  pub lengths : Lengths
  pub longest : List Burst
  pub pace : Pace
  pub pids : ℕ

abbrev pub summary_of : List Arrival → Summary
summary_of arrivals = record {
  span = span_of arrivals;
  counts = counts_of (fates_of arrivals);
  lengths = lengths_of (bursts_of (times_of arrivals));
  longest = longest_of (bursts_of (times_of arrivals));
  pace = pace_of arrivals;
  pids = pids_of arrivals;
}
