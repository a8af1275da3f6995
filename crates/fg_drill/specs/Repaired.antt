-- What a repair of a thinned encoding gives. This project's own.
use Rattle.std.specs.Prelude.{◌+◌, ◌<◌, ◌≤◌, ℕ, Bool, List, [], length, slice_index_or, Option, if◌then◌else◌}
use Rattle.std.specs.List.{AllZip, Contains, flat_map, range_with_len}
use Rattle.fg_shape.specs.Playout.{Playout}
use Rattle.fg_trace.specs.Trace.{Record}
use Rattle.fg_playout.specs.declared.reply.Reply.{Reply}
use Rattle.fg_playout.specs.Solution.{InClosure}
use Rattle.fg_playout.specs.Play.{Play, nothing_shown}
use Rattle.fg_playout.specs.Run.{Arrival, IsRun}
use Rattle.fg_playout.specs.PlayedOn.{PlayOn, played_on}
use Rattle.fg_encode.specs.Encoding.{payload_at}
use Rattle.fg_results.specs.Flow.{Arrives, records_of, all_shown, shows_word}

-- Some play shows a word at the slot. The slots of an encoding are the positions of its flow.
abbrev pub is_shown : List Play → ℕ → Bool
is_shown plays slot = shows_word (slice_index_or (all_shown plays) slot nothing_shown)

-- The stream of these payloads without the slots that no play shows.
abbrev pub stream_shown : List (List ℕ) → List Play → List ℕ
stream_shown payloads plays =
    flat_map (λ slot. if is_shown plays slot then payload_at payloads slot else []) (range_with_len 0 (length payloads))

-- The play closes the slot.
abbrev pub Closes : Play → ℕ → Type 0
Closes play slot = (play.first ≤ slot) × (slot < play.first + length play.shown)

-- One of these plays closes the slot, and the slot is in the closure of the desk on which that play is made.
abbrev pub IsPeeled : List PlayOn → ℕ → Type 0
IsPeeled plays slot = (made : PlayOn) × Contains plays made × Closes made.play slot × InClosure made.desk slot

-- Arrivals of so many slots peel: each slot is peeled by the plays of their run, whether they are held plays, due ones or those of
-- a flush.
pub record ArrivalsPeel (playout : Playout) (arrivals : List Arrival) (count : ℕ) : Type 0 where
  pub plays : List Play
  pub replies : List (Option Reply)
  pub run : IsRun playout arrivals plays replies
  pub peels : (slot : ℕ) → slot < count → IsPeeled (played_on playout arrivals plays replies run) slot

-- The records of a flow do, as they are read.
abbrev pub Peels : Playout → ℕ → List Record → ℕ → Type 0
Peels playout flow records count =
    (arrivals : List Arrival) × AllZip (Arrives flow) (records_of flow records) arrivals
    × ArrivalsPeel playout arrivals count
