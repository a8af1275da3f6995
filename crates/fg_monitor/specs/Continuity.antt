-- Where a transport stream isn't continuous: the continuity counters of ISO/IEC 13818-1, of whole packets in a list. That a
-- packet which has the counter of the last again counts as repeated, whatever else it holds, is this project's own.
use Rattle.std.specs.Prelude.{◌≡◌, ◌≢◌, ◌⊎◌, ◌+◌, ◌%◌, ◌<◌, ℕ, Option, None, Some, List, [], slice_index_or}
use Rattle.fg_ts.specs.Fields.{AnnouncesBreak, HasPayload, counter_of, null_pid, pid_of}
use Rattle.fg_monitor.specs.declared.continuity.Break.{Break}

-- Packet number i, counted from 0.
abbrev pub packet_at : List (List ℕ) → ℕ → List ℕ
packet_at packets i = slice_index_or packets i []

-- Packet number `last` is the last with this PID before packet number i.
pub record IsLastBefore (packets : List (List ℕ)) (pid i last : ℕ) : Type 0 where
  pub earlier : last < i
  pub of_pid : pid_of (packet_at packets last) ≡ pid
  pub none_between : (k : ℕ) → last < k → k < i → pid_of (packet_at packets k) ≢ pid

-- Packet number `before` is the last with the PID of packet number i before that.
abbrev pub Follows : List (List ℕ) → ℕ → ℕ → Type 0
Follows packets i before = IsLastBefore packets (pid_of (packet_at packets i)) i before

-- Packet number i is a repeat: it and the last of its PID have payload and the same counter, and it announces no break.
pub record IsRepeat (packets : List (List ℕ)) (i : ℕ) : Type 0 where
  pub before : ℕ
  pub follows : Follows packets i before
  pub payload : HasPayload (packet_at packets i)
  pub payload_before : HasPayload (packet_at packets before)
  pub same : counter_of (packet_at packets i) ≡ counter_of (packet_at packets before)
  pub unannounced : ¬ AnnouncesBreak (packet_at packets i)

-- Packet number i repeats packet number `before`, which is no repeat itself. A packet may be repeated once.
pub record IsFirstRepeat (packets : List (List ℕ)) (i before : ℕ) : Type 0 where
  pub payload_before : HasPayload (packet_at packets before)
  pub same : counter_of (packet_at packets i) ≡ counter_of (packet_at packets before)
  pub single : ¬ IsRepeat packets before

-- The counter of packet number i goes on from that of packet number `before`: where the packet has payload it rises by one,
-- modulo 16, unless the packet is a first repeat; else it stays.
abbrev pub GoesOn : List (List ℕ) → ℕ → ℕ → Type 0
GoesOn packets i before =
    (HasPayload (packet_at packets i)
    → (counter_of (packet_at packets i) ≡ (counter_of (packet_at packets before) + 1) % 16) ⊎ IsFirstRepeat packets i before)
    × ((¬ HasPayload (packet_at packets i)) → counter_of (packet_at packets i) ≡ counter_of (packet_at packets before))

-- Packet number i is a fault, and packet number `before` is the last of its PID: its counter neither goes on from that one's
-- nor does it announce a break. The first packet of a PID is none, and neither is a null packet.
pub record IsFault (packets : List (List ℕ)) (i before : ℕ) : Type 0 where
  pub counted : pid_of (packet_at packets i) ≢ null_pid
  pub follows : Follows packets i before
  pub unannounced : ¬ AnnouncesBreak (packet_at packets i)
  pub breaks : ¬ GoesOn packets i before

-- This tells that packet number i is a fault: the packet's number, its PID, its counter and that of the last of its PID.
pub record TellsFault (packets : List (List ℕ)) (i : ℕ) (told : Break) : Type 0 where
  pub last : ℕ
  pub fault : IsFault packets i last
  pub packet : told.packet ≡ i
  pub pid : told.pid ≡ pid_of (packet_at packets i)
  pub counter : told.counter ≡ counter_of (packet_at packets i)
  pub before : told.before ≡ counter_of (packet_at packets last)

-- What there is to tell of packet number i: its fault, or nothing where it is none.
abbrev pub IsToldOf : List (List ℕ) → ℕ → Option Break → Type 0
IsToldOf packets i None = (last : ℕ) → ¬ IsFault packets i last
IsToldOf packets i (Some told) = TellsFault packets i told
