-- Words, their XOR and their sum: what SMPTE ST 2022-1 (from Pro-MPEG Code of Practice 3) recovers of a media datagram.
use Rattle.std.specs.Prelude.{◌≡◌, ◌-◌, ◌<◌, ◌≤◌, ◌*◌, ℕ, List, [], ◌∷◌, ◌++◌, length, replicate, bit_xor, slice_index}
use Rattle.std.specs.Simd.Lanes.{zip2}
use Rattle.fg_ts.specs.Packets.{packet_length, sync_byte}
use Rattle.fg_words.specs.declared.Word.{Word}

-- The RTP payload type of an MPEG transport stream (RFC 3551).
abbrev pub transport_type : ℕ
transport_type = 33

-- The most transport packets of a media datagram (SMPTE ST 2022-2).
abbrev pub packets_limit : ℕ
packets_limit = 7

-- The bytes that a word has room for: as many packets as a media datagram carries.
abbrev pub payload_limit : ℕ
payload_limit = packets_limit * packet_length

-- The word that is zero throughout.
abbrev pub zero_word : Word
zero_word = record { pt = 0; ts = 0; len = 0; bytes = replicate payload_limit 0 }

-- A word with these fields and this payload, which is padded with zeros to seven transport packets.
abbrev pub padded_word : ℕ → ℕ → ℕ → List ℕ → Word
padded_word pt ts len payload = record {
  pt = pt;
  ts = ts;
  len = len;
  bytes = payload ++ replicate (payload_limit - length payload) 0;
}

-- The XOR of two words: field by field, and byte by byte.
abbrev pub word_xor : Word → Word → Word
word_xor a b = record {
  pt = bit_xor a.pt b.pt;
  ts = bit_xor a.ts b.ts;
  len = bit_xor a.len b.len;
  bytes = zip2 bit_xor a.bytes b.bytes;
}

-- The sum of a list of words is their XOR, and of no words the zero word.
abbrev pub word_sum : List Word → Word
word_sum [] = zero_word
word_sum (w ∷ ws) = word_xor w (word_sum ws)

-- Every word of the code has room for seven transport packets.
abbrev pub HasRoom : Word → Type 0
HasRoom w = length w.bytes ≡ payload_limit

-- A media word carries 1 to 7 transport packets (RFC 3551, payload type 33; RFC 2250; SMPTE ST 2022-2). Each
-- begins with the sync byte 0x47 (ISO/IEC 13818-1), and zeros follow the last.
pub record IsMedia (w : Word) : Type 0 where
  pub transport : w.pt ≡ transport_type
  pub packets : (k : ℕ) × (1 ≤ k) × (k ≤ packets_limit) × (w.len ≡ packet_length * k)
  pub room : length w.bytes ≡ payload_limit
  pub synced : (i : ℕ) → packet_length * i < w.len → slice_index w.bytes (packet_length * i) ≡ sync_byte
  pub padded : (i : ℕ) → w.len ≤ i → slice_index w.bytes i ≡ 0

-- The word of a payload of transport packets.
abbrev pub transport_word : ℕ → List ℕ → Word
transport_word ts payload = padded_word transport_type ts (length payload) payload
