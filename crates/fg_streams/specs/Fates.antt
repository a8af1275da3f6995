-- What became of each datagram of a stream, and how many had each fate. Expected and lost follow RFC 3550 (appendix A.3), but for
-- jumps: positions count on behind one, where RFC 3550 begins anew. Reordered follows RFC 4737, over the datagrams received.
use Rattle.std.specs.Prelude.{ℕ, ◌+◌, ◌-◌, max, nat_lt, if◌then◌else◌, Bool, true, false, count_by, Option, None, Some, List, [], ◌∷◌}
use Rattle.fg_streams.specs.declared.fates.Fate.{Fate}
use Rattle.fg_streams.specs.declared.fates.Fate.TheVariants.{Late, Duplicate, Behind, Ahead}
use Rattle.fg_streams.specs.declared.fates.Counts.{Counts}
use Rattle.fg_streams.specs.declared.span.Span.{Span}
use Rattle.fg_streams.specs.Arrival.{Arrival, position_after, span_of, time_at}

-- A datagram at a position where one was received is a duplicate. Any other is received: so far behind the top, or so far
-- ahead of it.
abbrev pub fate_at : Span → ℕ → Option ℕ → Fate
fate_at span position (Some time) = Duplicate
fate_at span position None =
    (if nat_lt position span.top then Behind (span.top - position) else Ahead (position - span.top))

abbrev pub fate_in : List Arrival → Option Span → Option ℕ → Fate
fate_in before span None = Late
fate_in before None (Some position) = Ahead 0
fate_in before (Some span) (Some position) = fate_at span position (time_at before position)

-- The fate of one that comes after these.
abbrev pub fate_after : List Arrival → Arrival → Fate
fate_after before a = fate_in before (span_of before) (position_after before a)

-- The fate of each, the latest's first.
abbrev pub fates_of : List Arrival → List Fate
fates_of [] = []
fates_of (a ∷ before) = fate_after before a ∷ fates_of before

abbrev pub is_late : Fate → Bool
is_late Late = true
is_late _ = false

abbrev pub is_duplicate : Fate → Bool
is_duplicate Duplicate = true
is_duplicate _ = false

abbrev pub is_received : Fate → Bool
is_received (Behind by) = true
is_received (Ahead by) = true
is_received _ = false

-- Received behind the top.
abbrev pub is_reordered : Fate → Bool
is_reordered (Behind by) = true
is_reordered _ = false

-- The top rises by more than 1,024.
abbrev pub is_jump : Fate → Bool
is_jump (Ahead by) = nat_lt 1024 by
is_jump _ = false

abbrev pub depth_of : Fate → ℕ
depth_of (Behind by) = by
depth_of _ = 0

-- How far behind the top the deepest of the reordered was.
abbrev pub deepest_of : List Fate → ℕ
deepest_of [] = 0
deepest_of (fate ∷ fates) = max (depth_of fate) (deepest_of fates)

-- How many had each fate.
abbrev pub counts_of : List Fate → Counts
counts_of fates = record {
  received = count_by is_received fates;
  duplicate = count_by is_duplicate fates;
  late = count_by is_late fates;
  reordered = count_by is_reordered fates;
  deepest = deepest_of fates;
  jumps = count_by is_jump fates;
}

-- The positions from the first to the top.
abbrev pub expected_in : Option Span → ℕ
expected_in None = 0
expected_in (Some span) = span.top - span.first + 1

-- The first position.
abbrev pub first_in : Option Span → ℕ
first_in None = 0
first_in (Some span) = span.first
