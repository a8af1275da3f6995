-- What a monitor keeps of the packets that it was fed: this project's own.
use Rattle.std.specs.Prelude.{◌≡◌, ◌≢◌, ◌<◌, ◌↔◌, ℕ, Option, None, Some, IsTrue, List, length, slice_index_or}
use Rattle.fg_ts.specs.Fields.{HasPayload, counter_of, null_pid, pid_of}
use Rattle.fg_monitor.specs.declared.continuity.Last.{Last}
use Rattle.fg_monitor.specs.Continuity.{IsLastBefore, IsRepeat, packet_at}

-- How many packets were fed, and what is kept of the last packet of each PID, at the PID's place.
pub record MonitorState : Type 0 where
  pub fed : ℕ
  pub lasts : List (Option Last)

-- This is kept of packet number i.
pub record Describes (packets : List (List ℕ)) (i : ℕ) (last : Last) : Type 0 where
  pub counter : last.counter ≡ counter_of (packet_at packets i)
  pub payload : IsTrue last.payload ↔ HasPayload (packet_at packets i)
  pub repeat : IsTrue last.repeat ↔ IsRepeat packets i

-- This is kept of the last of all packets with this PID: nothing where there is none.
abbrev pub IsKept : List (List ℕ) → ℕ → Option Last → Type 0
IsKept packets pid None = (i : ℕ) → i < length packets → pid_of (packet_at packets i) ≢ pid
IsKept packets pid (Some last) = (i : ℕ) × IsLastBefore packets pid (length packets) i × Describes packets i last

-- The monitor was fed these packets, in this order.
pub record HasSeen (monitor : MonitorState) (packets : List (List ℕ)) : Type 0 where
  pub fed : monitor.fed ≡ length packets
  pub lasts : (pid : ℕ) → pid < null_pid → IsKept packets pid (slice_index_or monitor.lasts pid None)
