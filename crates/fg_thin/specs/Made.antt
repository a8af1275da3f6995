-- The stream of a seed: this project's own. Its packets are those of ISO/IEC 13818-1, and its draws are the words of PCG32
-- (O'Neill, "PCG: a family of simple fast space-efficient statistically good algorithms for random number generation").
use Rattle.std.specs.Prelude.{◌≡◌, ℕ, ◌+◌, ◌*◌, ◌%◌, ◌≤◌, None, List, ◌∷◌, length, map}
use Rattle.std.specs.Int.{w32, to_le_bytes}
use Rattle.std.specs.List.{flat_map, range_with_len}
use Rattle.rand_core.specs.Steps.{word_bytes}
use Rattle.rand_pcg.specs.Lcg.{Lcg, advance, increment_of, started}
use Rattle.rand_pcg.specs.Pcg.{multiplier_64, pcg32}
use Rattle.fg_ts.specs.Packets.{ArePackets}
use Rattle.fg_encode.specs.Stream.{payload_of, IsCut}

-- The generator of a seed that draws from this one of PCG32's streams.
abbrev pub generator_of : ℕ → ℕ → Lcg
generator_of seed stream = started 64 multiplier_64 seed (increment_of 64 stream)

-- The packet with this number: the sync byte, the PID 256, a payload and a counter that goes with the number; then the
-- generator's next 46 draws, each as four bytes, the lowest first.
abbrev pub made_packet : Lcg → ℕ → List ℕ
made_packet generator number =
    0x47 ∷ 0x01 ∷ 0x00 ∷ (0x10 + number % 16) ∷ (word_bytes (to_le_bytes w32) pcg32 46 generator).0

-- So many packets, of which the first has this number: each takes the draws behind those of the packets before it.
abbrev pub made_packets : Lcg → ℕ → ℕ → List ℕ
made_packets generator first count =
    flat_map (λ i. made_packet (advance 64 multiplier_64 (46 * i) generator) (first + i)) (range_with_len 0 count)

-- Seven packets for each datagram, drawn from stream 54 of the seed.
abbrev pub made_stream : ℕ → ℕ → List ℕ
made_stream seed datagrams = made_packets (generator_of seed 54) 0 (7 * datagrams)

-- It is whole packets, and within a limit that it doesn't reach past it is cut into one payload for each datagram.
abbrev pub MadeIsPackets : Type 0
MadeIsPackets = (seed datagrams : ℕ) → ArePackets (made_stream seed datagrams) (7 * datagrams)

abbrev pub MadeIsCut : Type 0
MadeIsCut =
    (seed datagrams max : ℕ) → length (made_stream seed datagrams) ≤ max
    → let payloads = map (payload_of 7 (made_stream seed datagrams)) (range_with_len 0 datagrams) in
    (length payloads ≡ datagrams) × IsCut 7 max (made_stream seed datagrams) payloads None
