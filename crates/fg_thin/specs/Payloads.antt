-- The payloads of a stream, as a function of its bytes: the longest front of them that are acceptable. It is the list that the
-- stream is cut into. Packets are those of ISO/IEC 13818-1; the limit is this project's own.
use Rattle.std.specs.Prelude.{◌+◌, ◌*◌, ◌/◌, ◌%◌, ◌==◌, ◌&&◌, ℕ, Bool, List, length, map, nat_lt, not, slice_index}
use Rattle.std.specs.List.{list_all, range_with_len, take_while}
use Rattle.fg_encode.specs.Stream.{payload_of}

-- The bytes are whole packets: a multiple of 188, and each packet begins with the sync byte.
abbrev pub are_packets : List ℕ → Bool
are_packets bytes =
    length bytes % 188 == 0
    && list_all (λ number. slice_index bytes (188 * number) == 0x47) (range_with_len 0 (length bytes / 188))

-- The stream has more bytes than it may, and this payload isn't whole within the first `max`.
abbrev pub is_past_limit : ℕ → ℕ → List ℕ → ℕ → Bool
is_past_limit packets max bytes i =
    nat_lt max (length bytes) && nat_lt max (188 * packets * i + length (payload_of packets bytes i))

-- The stream has this payload, within the limit, and it is whole packets.
abbrev pub is_acceptable : ℕ → ℕ → List ℕ → ℕ → Bool
is_acceptable packets max bytes i =
    nat_lt (188 * packets * i) (length bytes)
    && (not (is_past_limit packets max bytes i) && are_packets (payload_of packets bytes i))

unfoldable pub payloads_of : ℕ → ℕ → List ℕ → List (List ℕ)
payloads_of packets max bytes =
    map (payload_of packets bytes) (take_while (is_acceptable packets max bytes) (range_with_len 0 (length bytes)))
