-- What is kept of a stream.
use Rattle.std.specs.Prelude.{◌≡◌, ℕ, ◌+◌, ◌-◌, ◌*◌, ◌<◌, ◌≤◌, ◌^◌, Bool, false, count_by, nat_lt, if◌then◌else◌, Option, None, Some, IfSome, List, [], ◌∷◌, ◌++◌, get_or, length, replicate, set}
use Rattle.fg_streams.specs.declared.bursts.Lengths.{Lengths}
use Rattle.fg_streams.specs.declared.fates.Counts.{Counts}
use Rattle.fg_streams.specs.declared.fates.Fate.{Fate}
use Rattle.fg_streams.specs.declared.fates.Fate.TheVariants.{Ahead}
use Rattle.fg_streams.specs.declared.gaps.Gaps.{Gaps}
use Rattle.fg_streams.specs.declared.pace.Pace.{Pace}
use Rattle.fg_streams.specs.declared.span.Span.{Span}
use Rattle.fg_streams.specs.declared.times.Times.{Times}
use Rattle.fg_streams.specs.Arrival.{Arrival, span_of}
use Rattle.fg_streams.specs.Bursts.{bursts_of, lengths_of, longest_of, times_of}
use Rattle.fg_streams.specs.Fates.{counts_of, fate_after, fate_at, fates_of}
use Rattle.fg_streams.specs.Pace.{pace_of}
use Rattle.fg_streams.specs.Packets.{has_pid, pid_limit}
use Rattle.fg_streams.specs.Summary.{Summary}

-- Each count can rise.

pub record CountsHaveRoom (counts : Counts) : Type 0 where
  pub received : counts.received < 2 ^ 60
  pub duplicate : counts.duplicate < 2 ^ 60
  pub late : counts.late < 2 ^ 60
  pub reordered : counts.reordered < 2 ^ 60
  pub jumps : counts.jumps < 2 ^ 60

abbrev pub LengthsHaveRoom : Lengths → Type 0
LengthsHaveRoom lengths =
    (lengths.runs < 2 ^ 60) × (lengths.one < 2 ^ 60) × (lengths.two < 2 ^ 60) × (lengths.four < 2 ^ 60) × (lengths.eight < 2 ^ 60)
    × (lengths.sixteen < 2 ^ 60) × (lengths.thirty_two < 2 ^ 60) × (lengths.more < 2 ^ 60)

-- The jitter is far from its type's end.
pub record PaceHasRoom (pace : Pace) : Type 0 where
  pub jitter : pace.jitter ≤ 2 ^ 36
  pub transit : IfSome pace.last (λ last. last.transit < 2 ^ 32)

-- The times end with one that was received at this time; or there is none.
abbrev pub EndsWith : List (Option ℕ) → Option ℕ → Type 0
EndsWith times None = times ≡ []
EndsWith times (Some time) = (before : List (Option ℕ)) × (times ≡ before ++ Some time ∷ [])

-- This is kept of the positions with these times.
pub record IsClosed (gaps : Gaps) (times : List (Option ℕ)) : Type 0 where
  pub front : List (Option ℕ)
  pub split : times ≡ front ++ replicate gaps.lost None
  pub slots : gaps.slots ≡ length times
  pub ends : EndsWith front gaps.at
  pub lengths : gaps.lengths ≡ lengths_of (bursts_of front)
  pub longest : gaps.longest.items ≡ longest_of (bursts_of front)

-- All bursts of these times are told.
pub record HasEnded (gaps : Gaps) (times : List (Option ℕ)) : Type 0 where
  pub lengths : gaps.lengths ≡ lengths_of (bursts_of times)
  pub longest : gaps.longest.items ≡ longest_of (bursts_of times)

-- The last of these times are kept, and what is kept of those before.
pub record AreTimes (gaps : Gaps) (recent all : List (Option ℕ)) : Type 0 where
  pub old : List (Option ℕ)
  pub split : all ≡ old ++ recent
  pub closed : IsClosed gaps old
  pub few : length recent ≤ 1024
  pub enough : (length recent < 1024) → old ≡ []

-- So of what a stream keeps.
abbrev pub Keeps : Times → List (Option ℕ) → Type 0
Keeps times all = AreTimes times.gaps times.recent all

-- The times once a datagram of this position has come at that time.
abbrev pub received_at : ℕ → ℕ → List (Option ℕ) → Option ℕ → List (Option ℕ)
received_at slot time times None = set times slot (Some time)
received_at slot time times (Some other) = times

abbrev pub times_after : Span → ℕ → ℕ → List (Option ℕ) → List (Option ℕ)
times_after span place time times =
    (if nat_lt span.top place then (times ++ replicate (place - span.top - 1) None) ++ Some time ∷ []
    else received_at (place - span.first) time times (get_or times (place - span.first) None))

-- Its fate.
abbrev pub fate_by : Span → ℕ → List (Option ℕ) → Fate
fate_by span place times =
    (if nat_lt span.top place then Ahead (place - span.top)
    else fate_at span place (get_or times (place - span.first) None))

-- So it stands once a datagram has come after these.
pub record HasReceived (before : List Arrival) (a : Arrival) (span : Option Span) (times : Times) (fate : Fate) : Type 0 where
  pub span_is : span ≡ span_of (a ∷ before)
  pub keeps : Keeps times (times_of (a ∷ before))
  pub fate_is : fate ≡ fate_after before a

-- There is a mark for each PID, set where the test passes.
pub record AreMarks (marks : List Bool) (test : ℕ → Bool) : Type 0 where
  pub all : length marks ≡ pid_limit
  pub each : (pid : ℕ) → pid < pid_limit → get_or marks pid false ≡ test pid

-- What contracts see of a stream.
pub record StreamState : Type 0 where
  pub span : Option Span
  pub counts : Counts
  pub times : Times
  pub pace : Pace
  pub marks : List Bool

-- There is a mark for each PID, and the top is far from its type's end.
pub record StreamHolds (span : Option Span) (marks : List Bool) : Type 0 where
  pub all : length marks ≡ 8192
  pub low : IfSome span (λ s. s.top < 2 ^ 60)

-- It has taken these datagrams.
pub record IsStreamOf (stream : StreamState) (arrivals : List Arrival) : Type 0 where
  pub span : stream.span ≡ span_of arrivals
  pub low : IfSome stream.span (λ span. span.top < 65536 * (length arrivals + 1))
  pub counts : stream.counts ≡ counts_of (fates_of arrivals)
  pub times : Keeps stream.times (times_of arrivals)
  pub pace : stream.pace ≡ pace_of arrivals
  pub room : PaceHasRoom stream.pace
  pub marks : AreMarks stream.marks (has_pid arrivals)

-- What it tells.
abbrev pub told : StreamState → Summary
told stream = record {
  span = stream.span;
  counts = stream.counts;
  lengths = stream.times.gaps.lengths;
  longest = stream.times.gaps.longest.items;
  pace = stream.pace;
  pids = count_by (λ mark. mark) stream.marks;
}
