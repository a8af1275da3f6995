-- Fields of a transport packet (ISO/IEC 13818-1).
--
--     byte 0       sync byte, 0x47
--     bytes 1-2    three flags (3 bits), PID (13), the highest bit first
--     byte 3       scrambling control (2), adaptation_field_control (2), continuity counter (4)
--
-- and of an adaptation field, where there is one:
--
--     byte 4       adaptation_field_length: how many bytes of the field follow
--     byte 5       discontinuity_indicator (the top bit), seven further flags
use Rattle.std.specs.Prelude.{◌≡◌, ◌≢◌, ℕ, ◌+◌, ◌*◌, ◌/◌, ◌%◌, List, slice_index}

abbrev pub pid_of : List ℕ → ℕ
pid_of packet = 256 * (slice_index packet 1 % 32) + slice_index packet 2

abbrev pub counter_of : List ℕ → ℕ
counter_of packet = slice_index packet 3 % 16

-- The PID of a null packet.
abbrev pub null_pid : ℕ
null_pid = 0x1fff

-- What follows the first four bytes: 1 is a payload, 2 an adaptation field, 3 an adaptation field and then a payload.
abbrev pub adaptation_field_control : List ℕ → ℕ
adaptation_field_control packet = slice_index packet 3 / 16 % 4

-- The packet has a payload.
abbrev pub HasPayload : List ℕ → Type 0
HasPayload packet = adaptation_field_control packet % 2 ≡ 1

-- The packet has an adaptation field with flags, and discontinuity_indicator is set there: its continuity counter needn't go
-- on from the last.
pub record AnnouncesBreak (packet : List ℕ) : Type 0 where
  pub field : adaptation_field_control packet / 2 ≡ 1
  pub flags : slice_index packet 4 ≢ 0
  pub indicator : slice_index packet 5 / 128 ≡ 1
