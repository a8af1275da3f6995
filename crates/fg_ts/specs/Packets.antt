-- Transport streams (ISO/IEC 13818-1): packets of 188 bytes, one after another, each of which begins with the sync
-- byte 0x47.
use Rattle.std.specs.Prelude.{◌≡◌, ◌*◌, ◌<◌, ℕ, List, length, slice_index}
use Rattle.fg_ts.specs.declared.TsFault.{TsFault}
use Rattle.fg_ts.specs.declared.TsFault.TheVariants.{Ragged, NoSync}

-- The length of a packet in bytes.
abbrev pub packet_length : ℕ
packet_length = 188

-- The first byte of each packet.
abbrev pub sync_byte : ℕ
sync_byte = 0x47

-- The bytes are so many packets' long.
abbrev pub HasLength : List ℕ → ℕ → Type 0
HasLength bytes count = length bytes ≡ packet_length * count

-- The packet of this number, counted from 0, begins with the sync byte.
abbrev pub IsSynced : List ℕ → ℕ → Type 0
IsSynced bytes number = slice_index bytes (packet_length * number) ≡ sync_byte

-- The bytes are so many whole packets.
pub record ArePackets (bytes : List ℕ) (count : ℕ) : Type 0 where
  pub whole : HasLength bytes count
  pub synced : (number : ℕ) → number < count → IsSynced bytes number

-- The packet of this number is the first that doesn't begin with the sync byte.
pub record IsFirstUnsynced (bytes : List ℕ) (number : ℕ) : Type 0 where
  pub within : packet_length * number < length bytes
  pub unsynced : ¬ IsSynced bytes number
  pub first : (other : ℕ) → other < number → IsSynced bytes other

-- The fault's rule is the first that the bytes break, and the fault says where.
abbrev pub FirstFault : TsFault → List ℕ → Type 0
FirstFault (Ragged long) bytes = (long ≡ length bytes) × ((count : ℕ) → ¬ HasLength bytes count)
FirstFault (NoSync number) bytes = ((count : ℕ) × HasLength bytes count) × IsFirstUnsynced bytes number
