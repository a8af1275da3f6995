-- How far a monitoring has come. No public contract cites what stands here.
use Rattle.std.specs.Prelude.{◌≡◌, ◌⊎◌, ◌+◌, ◌%◌, ◌≤◌, ◌^◌, ℕ, ⊤, Option, None, Some, IfSome, MatchOption, IsTrue, List, count_by}
use Rattle.std.specs.Option.{is_some}
use Rattle.std.specs.List.{flat_map}
use Rattle.std.specs.Io.KnownBytes.{IsAtEnd}
use Rattle.fg_io.specs.Texts.{ReadTexts}
use Rattle.fg_io.specs.InputBuffer.{InputState}
use Rattle.fg_io.specs.Sent.{Sent}
use Rattle.fg_ts.specs.Fields.{AnnouncesBreak, HasPayload, counter_of, pid_of}
use Rattle.fg_ts.specs.Packets.{packet_length}
use Rattle.fg_encode.specs.EncodeSteps.{IsReadTo}
use Rattle.fg_encode.specs.Stream.{IsCut, LeavesNothing, StreamEnding}
use Rattle.fg_encode.specs.StreamReader.{EndsHere, StreamState, StandsAfter}
use Rattle.fg_encode.specs.StreamSteps.{Accepts, reader_at}
use Rattle.fg_monitor.specs.declared.continuity.Break.{Break}
use Rattle.fg_monitor.specs.declared.continuity.Last.{Last}
use Rattle.fg_monitor.specs.declared.lines.Lines.{Lines}
use Rattle.fg_monitor.specs.declared.walk.Monitoring.{Monitoring}
use Rattle.fg_monitor.specs.Kept.{HasSeen}
use Rattle.fg_monitor.specs.Monitored.{Monitors, MonitorsPart}
use Rattle.fg_monitor.specs.Text.{AreToldOf, line_if}

-- By what is kept of the last packet of its PID, the packet is a repeat.
pub record Repeats (last : Last) (packet : List ℕ) : Type 0 where
  pub payload : HasPayload packet
  pub payload_before : IsTrue last.payload
  pub same : counter_of packet ≡ last.counter
  pub unannounced : ¬ AnnouncesBreak packet

-- And a first repeat.
pub record RepeatsFirst (last : Last) (packet : List ℕ) : Type 0 where
  pub payload_before : IsTrue last.payload
  pub same : counter_of packet ≡ last.counter
  pub single : ¬ IsTrue last.repeat

-- And its counter goes on.
abbrev pub GoesOnFrom : Last → List ℕ → Type 0
GoesOnFrom last packet =
    (HasPayload packet → (counter_of packet ≡ (last.counter + 1) % 16) ⊎ RepeatsFirst last packet)
    × ((¬ HasPayload packet) → counter_of packet ≡ last.counter)

-- This is to be told of the packet with this number, where that is kept of the last packet of its PID.
abbrev pub IsBreakOf : ℕ → Option Last → List ℕ → Option Break → Type 0
IsBreakOf number None packet None = ⊤
IsBreakOf number None packet (Some told) = ⊥
IsBreakOf number (Some last) packet None = AnnouncesBreak packet ⊎ GoesOnFrom last packet
IsBreakOf number (Some last) packet (Some told) =
    (¬ (AnnouncesBreak packet ⊎ GoesOnFrom last packet))
    × (told ≡ (let b : Break = record { packet = number; pid = pid_of packet; counter = counter_of packet; before = last.counter } in b))

-- What the definitions of streams see of a buffer from which packets are taken one by one.
abbrev pub reader_of : InputState → StreamState
reader_of input = reader_at input 1 None

-- So the stream ends here, before another packet; none where that is whole.
abbrev pub IsEndingHere : Option StreamEnding → InputState → Type 0
IsEndingHere ending input = MatchOption ending (Accepts (reader_of input)) (λ end. EndsHere end 1 input.max input.place input.held input.ended)

-- What there is to tell of these packets is told: the sink has gained a front of it since then, and the rest is held.
pub record HasTold
    (packets : List (List ℕ)) (lines : Lines) (before after : Option (List ℕ)) : Type 0 where
  pub told : List (Option Break)
  pub are : AreToldOf packets told
  pub count : lines.faults ≡ count_by is_some told
  pub sent : Sent before (flat_map line_if told) lines.held after

-- A buffer from which packets are taken: it holds little, and stands within the limit.
pub record IsBuffer (input : InputState) : Type 0 where
  pub longest : input.longest ≡ packet_length
  pub small : input.piece ≤ 2 ^ 16
  pub limit : input.max ≤ 2 ^ 40
  pub within : input.place ≤ input.max

-- The packets that were taken from the stream were fed and told.
pub record IsUnderway (monitoring : Monitoring) (input : InputState) (first now before after : Option (List ℕ)) : Type 0 where
  pub packets : List (List ℕ)
  pub stands : StandsAfter (reader_of input) first now packets
  pub buffer : IsBuffer input
  pub seen : HasSeen monitoring.monitor packets
  pub told : HasTold packets monitoring.lines before after

-- None was taken yet.
abbrev pub IsNew : Monitoring → InputState → Option (List ℕ) → Option (List ℕ) → Type 0
IsNew monitoring input first now = (written : Option (List ℕ)) → IsUnderway monitoring input first now written written

-- All packets of the stream were, and this is its ending, for which it was read.
pub record HasWalked
    (monitoring : Monitoring) (input : InputState) (ending : StreamEnding) (first now before after : Option (List ℕ)) : Type 0 where
  pub packets : List (List ℕ)
  pub of_input : IfSome first (λ bytes. IsCut 1 input.max bytes packets ending)
  pub read : IsReadTo input.max (Some ending) first now
  pub at_end : LeavesNothing ending → IsAtEnd now
  pub seen : HasSeen monitoring.monitor packets
  pub told : HasTold packets monitoring.lines before after

-- The text of the whole stream is written, and it was read for its ending.
pub record HasMonitored (max : ℕ) (ending : StreamEnding) (first now before after : Option (List ℕ)) : Type 0 where
  pub monitors : Monitors max ending first before after
  pub read : IsReadTo max (Some ending) first now
  pub at_end : LeavesNothing ending → IsAtEnd now

-- What a fault leaves: the stream was read no further than a byte past the limit, and the sink has gained a prefix of the
-- text.
abbrev pub Breaks : ℕ → ReadTexts
Breaks max first now before after = MonitorsPart max first before after × IsReadTo max None first now
