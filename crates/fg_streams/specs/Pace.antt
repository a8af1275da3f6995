-- The pace of a stream: the jitter of RFC 3550 (section 6.4.1 and appendix A.8) in units of 1/90,000 of a second, and the longest
-- silence. All datagrams count, late ones too. The list has the latest first.
use Rattle.std.specs.Prelude.{ℕ, ◌+◌, ◌-◌, ◌*◌, ◌/◌, ◌%◌, ◌^◌, max, min, nat_lt, if◌then◌else◌, Option, None, Some, List, [], ◌∷◌}
use Rattle.fg_streams.specs.declared.pace.Pace.{Pace}
use Rattle.fg_streams.specs.declared.pace.Sent.{Sent}
use Rattle.fg_streams.specs.declared.pace.Silence.{Silence}
use Rattle.fg_streams.specs.Arrival.{Arrival}

-- The transit: the time of arrival in the timestamp's units less the timestamp, modulo 2^32.
abbrev pub transit_of : ℕ → ℕ → ℕ
transit_of time ts = (time * 9 / 100 + 2 ^ 32 - ts) % 2 ^ 32

-- How far apart two transits are, modulo 2^32.
abbrev pub difference : ℕ → ℕ → ℕ
difference transit before = min ((transit + 2 ^ 32 - before) % 2 ^ 32) (2 ^ 32 - (transit + 2 ^ 32 - before) % 2 ^ 32)

-- Of a datagram and the one before it; 0 of the first.
abbrev pub difference_of : Arrival → List Arrival → ℕ
difference_of a [] = 0
difference_of a (b ∷ before) = difference (transit_of a.time a.ts) (transit_of b.time b.ts)

-- Sixteen times the jitter, after a difference. The half of 16 rounds it.
abbrev pub smoothed : ℕ → ℕ → ℕ
smoothed jitter by = jitter + by - (jitter + 8) / 16

abbrev pub jitter_of : List Arrival → ℕ
jitter_of [] = 0
jitter_of (a ∷ before) = smoothed (jitter_of before) (difference_of a before)

-- The greatest that it was.
abbrev pub most_jitter_of : List Arrival → ℕ
most_jitter_of [] = 0
most_jitter_of (a ∷ before) = max (most_jitter_of before) (jitter_of (a ∷ before))

-- From one datagram's time to the next one's, where that is later.
abbrev pub silence_before : Arrival → List Arrival → Silence
silence_before a [] = record { length = 0; since = 0 }
silence_before a (b ∷ before) = record { length = a.time - b.time; since = b.time }

abbrev pub longer : Silence → Silence → Silence
longer one other = (if nat_lt one.length other.length then other else one)

-- The longest, and of several the first; 0 and 0 where no time rises.
abbrev pub silence_of : List Arrival → Silence
silence_of [] = record { length = 0; since = 0 }
silence_of (a ∷ before) = longer (silence_of before) (silence_before a before)

-- What is kept of the latest.
abbrev pub last_of : List Arrival → Option Sent
last_of [] = None
last_of (a ∷ before) = Some (record { time = a.time; transit = transit_of a.time a.ts })

abbrev pub pace_of : List Arrival → Pace
pace_of arrivals = record {
  last = last_of arrivals;
  jitter = jitter_of arrivals;
  most = most_jitter_of arrivals;
  silence = silence_of arrivals;
}

-- The jitter in microseconds, each step rounded down.
abbrev pub microseconds : ℕ → ℕ
microseconds jitter = jitter / 16 * 100 / 9
