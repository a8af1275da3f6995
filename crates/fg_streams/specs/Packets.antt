-- The PIDs of a stream's packets (ISO/IEC 13818-1).
use Rattle.std.specs.Prelude.{ℕ, zero, suc, ◌*◌, ◌/◌, ◌==◌, ◌||◌, Bool, false, count_by, List, [], ◌∷◌, drop, length}
use Rattle.std.specs.List.{range_with_len}
use Rattle.fg_ts.specs.Fields.{pid_of}
use Rattle.fg_ts.specs.Packets.{packet_length}
use Rattle.fg_streams.specs.Arrival.{Arrival}

-- One of the payload's first packets, of which so many are looked at, has this PID.
abbrev pub carries : List ℕ → ℕ → ℕ → Bool
carries payload pid zero = false
carries payload pid (suc count) = (pid_of (drop (packet_length * count) payload) == pid) || carries payload pid count

-- One of all packets has it.
abbrev pub has_pid : List Arrival → ℕ → Bool
has_pid [] pid = false
has_pid (a ∷ before) pid = carries a.payload pid (length a.payload / packet_length) || has_pid before pid

-- There are so many PIDs.
unfoldable pub pid_limit : ℕ
pid_limit = 8192

-- How many different ones the packets have.
abbrev pub pids_of : List Arrival → ℕ
pids_of arrivals = count_by (has_pid arrivals) (range_with_len 0 pid_limit)
