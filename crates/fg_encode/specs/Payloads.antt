-- The payloads that are encoded: whole transport packets (ISO/IEC 13818-1, SMPTE ST 2022-2).
use Rattle.std.specs.Prelude.{◌≡◌, ◌+◌, ◌*◌, ◌<◌, ◌≤◌, ℕ, List, length}
use Rattle.std.specs.List.{sum_by}
use Rattle.fg_ts.specs.Packets.{ArePackets, packet_length}
use Rattle.fg_encode.specs.Encoding.{payload_at}

-- How many bytes all payloads have together.
abbrev pub total_length : List (List ℕ) → ℕ
total_length payloads = sum_by (λ payload. length payload) payloads

-- Each payload is 1 to `packets` whole packets, and all but the last are that many.
pub record ArePayloads (packets : ℕ) (payloads : List (List ℕ)) : Type 0 where
  pub whole :
      (slot : ℕ) → slot < length payloads
      → (count : ℕ) × (1 ≤ count) × (count ≤ packets) × ArePackets (payload_at payloads slot) count
  pub full :
      (slot : ℕ) → slot + 1 < length payloads → length (payload_at payloads slot) ≡ packet_length * packets
