-- What a trace holds in all. This project's own.
use Rattle.std.specs.Prelude.{ℕ, ◌+◌, max, min, nat_lt, if◌then◌else◌, List, [], ◌∷◌, length, sum_by}
use Rattle.fg_survey.specs.declared.totals.Totals.{Totals}
use Rattle.fg_survey.specs.Heard.{Heard}

-- The first one's time, and the latest one's; 0 of none.
abbrev pub first_time : List Heard → ℕ
first_time [] = 0
first_time (x ∷ []) = x.time
first_time (x ∷ y ∷ before) = first_time (y ∷ before)

abbrev pub last_time : List Heard → ℕ
last_time [] = 0
last_time (x ∷ before) = x.time

abbrev pub least_time : List Heard → ℕ
least_time [] = 0
least_time (x ∷ []) = x.time
least_time (x ∷ y ∷ before) = min x.time (least_time (y ∷ before))

abbrev pub greatest_time : List Heard → ℕ
greatest_time [] = 0
greatest_time (x ∷ before) = max x.time (greatest_time before)

-- How many have a time below that of one before.
abbrev pub backward : List Heard → ℕ
backward [] = 0
backward (x ∷ before) = (if nat_lt x.time (greatest_time before) then 1 else 0) + backward before

abbrev pub size : Heard → ℕ
size x = length x.datagram

abbrev pub totals_of : List Heard → Totals
totals_of heard = record {
  records = length heard;
  bytes = sum_by size heard;
  first = first_time heard;
  least = least_time heard;
  greatest = greatest_time heard;
  backward = backward heard;
}
