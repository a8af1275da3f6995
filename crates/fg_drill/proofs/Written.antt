-- What an encoding writes is a datagram: its words are media words, and its parities can be written.
use Rattle.std.proofs.Common.{◌≡◌, ℕ, zero, suc, ◌+◌, ◌-◌, ◌*◌, ◌<◌, ◌≤◌, ◌%◌, ◌/◌, ◌^◌, Bool, bit_xor, List, [], ◌∷◌, length, map, get_or, replicate, refl, sym, ap, subst, ⊎_elim, ◌∙◌, arith, lit<, length-append}
use Rattle.std.specs.Int.{to_be_bytes, w32}
use Rattle.std.proofs.lemmas.Bool.{cases_lt}
use Rattle.std.proofs.lemmas.Nat.{xor_lt, mod_below}
use Rattle.std.proofs.lemmas.List.{get_or_append_left, get_or-append_right, get_or_past, length-replicate}
use Rattle.std.proofs.lemmas.Simd.{length-zip2}
use Rattle.fg_words.specs.Word.{word_sum, HasRoom, IsMedia}
use Rattle.fg_shape.specs.declared.Shape.{Shape}
use Rattle.fg_shape.specs.declared.encoding.Settings.{Settings}
use Rattle.fg_shape.specs.Shape.{slots_of, IsShape}
use Rattle.fg_fechead.specs.ParityDatagram.{CanBeWritten}
use Rattle.fg_encode.specs.Encoding.{longest, parity_at, payload_at, bits_before, word_at}
use Rattle.fg_encode.specs.Payloads.{ArePayloads}
use Rattle.fg_encode.proofs.ZeroLemmas.{zero_at, zeros_everywhere}

-- The lowest four bytes of a number are those of its rest.
pub low_bytes : (n : ℕ) → to_be_bytes w32 (n % 2 ^ 32) ≡ to_be_bytes w32 n
low_bytes n =
    let first : n % 2 ^ 32 / 16777216 % 256 ≡ n / 16777216 % 256 = omega arith in
    let second : n % 2 ^ 32 / 65536 % 256 ≡ n / 65536 % 256 = omega arith in
    let third : n % 2 ^ 32 / 256 % 256 ≡ n / 256 % 256 = omega arith in
    let fourth : n % 2 ^ 32 % 256 ≡ n % 256 = omega arith in
    λ i. first i ∷ second i ∷ third i ∷ fourth i ∷ []

module _ (settings : Settings) (payloads : List (List ℕ)) where
  -- One word

  word_is_padded : (slot i : ℕ) → length (payload_at payloads slot) ≤ i → get_or (word_at settings payloads slot).bytes i 0 ≡ 0
  word_is_padded slot i past =
      let payload : List ℕ = payload_at payloads slot in
      get_or-append_right payload (replicate (1316 - length payload) 0) (length payload) i 0 refl past
      ∙ zeros_everywhere (1316 - length payload) (i - length payload)

  word_has_room : (slot : ℕ) → length (payload_at payloads slot) ≤ 1316 → HasRoom (word_at settings payloads slot)
  word_has_room slot most =
      let payload : List ℕ = payload_at payloads slot in
      length-append payload (replicate (1316 - length payload) 0) ∙ omega (arith, length-replicate {A = ℕ} (1316 - length payload) 0)

  pub time_is_small : (slot : ℕ) → (word_at settings payloads slot).ts < 2 ^ 32
  time_is_small slot = mod_below (settings.stamp + bits_before payloads slot * 90000 / settings.rate) (2 ^ 32) (lit< tt)

  module _ (most : settings.packets ≤ 7) (are : ArePayloads settings.packets payloads) where
    pub word_is_media : (slot : ℕ) → slot < length payloads → IsMedia (word_at settings payloads slot)
    word_is_media slot below =
        let payload : List ℕ = payload_at payloads slot in
        let whole = are.whole slot below in
        let long : length payload ≡ 188 * whole.0 = whole.3.whole in
        record {
          transport = refl;
          packets = (whole.0, whole.1, omega arith, long);
          room = word_has_room slot (omega arith);
          synced = λ i inside. get_or_append_left payload (replicate (1316 - length payload) 0) 0 (188 * i) inside ∙ whole.3.synced i (omega arith);
          padded = λ i past. word_is_padded slot i past;
        }

    -- A payload is a packet long or longer, and seven or shorter.
    pub some_packet : (slot : ℕ) → slot < length payloads → 188 ≤ length (payload_at payloads slot)
    some_packet slot below = let whole = are.whole slot below in omega (arith, whole.3.whole)

    pub seven_packets : (slot : ℕ) → length (payload_at payloads slot) ≤ 1316
    seven_packets slot = ⊎_elim
        (λ (inside : slot < length payloads). let whole = are.whole slot inside in omega (arith, whole.3.whole))
        (λ (past : length payloads ≤ slot). let none = ap (λ (p : List ℕ). length p) (get_or_past payloads slot [] past) in omega (arith, none))
        (cases_lt slot (length payloads))

    -- Sums of words

    sum_pt : (slots : List ℕ) → (word_sum (map (word_at settings payloads) slots)).pt < 2 ^ 7
    sum_pt [] = lit< tt
    sum_pt (slot ∷ slots) = xor_lt 7 33 (word_sum (map (word_at settings payloads) slots)).pt (lit< tt) (sum_pt slots)

    pub sum_len : (slots : List ℕ) → (word_sum (map (word_at settings payloads) slots)).len < 2 ^ 16
    sum_len [] = lit< tt
    sum_len (slot ∷ slots) =
        let long = seven_packets slot in
        xor_lt 16 (length (payload_at payloads slot)) (word_sum (map (word_at settings payloads) slots)).len (omega arith) (sum_len slots)

    pub sum_ts : (slots : List ℕ) → (word_sum (map (word_at settings payloads) slots)).ts < 2 ^ 32
    sum_ts [] = lit< tt
    sum_ts (slot ∷ slots) =
        xor_lt 32 (word_at settings payloads slot).ts (word_sum (map (word_at settings payloads) slots)).ts (time_is_small slot) (sum_ts slots)

    pub sum_room : (slots : List ℕ) → HasRoom (word_sum (map (word_at settings payloads) slots))
    sum_room [] = length-replicate {A = ℕ} 1316 0
    sum_room (slot ∷ slots) =
        let one = word_has_room slot (seven_packets slot) in
        length-zip2 bit_xor (word_at settings payloads slot).bytes (word_sum (map (word_at settings payloads) slots)).bytes (one ∙ sym (sum_room slots)) ∙ one

    sum_is_padded : (slots : List ℕ) (i : ℕ) → longest payloads slots ≤ i → get_or (word_sum (map (word_at settings payloads) slots)).bytes i 0 ≡ 0
    sum_is_padded [] i past = zeros_everywhere 1316 i
    sum_is_padded (slot ∷ slots) i past =
        zero_at (word_at settings payloads slot).bytes (word_sum (map (word_at settings payloads) slots)).bytes i
        (word_is_padded slot i (omega arith)) (sum_is_padded slots i (omega arith))

    longest_at_most : (slots : List ℕ) → longest payloads slots ≤ 1316
    longest_at_most [] = omega arith
    longest_at_most (slot ∷ slots) = let rest = longest_at_most slots in let long = seven_packets slot in omega arith

    longest_at_least : (base offset na : ℕ) → 1 ≤ na → base < length payloads → 1 ≤ longest payloads (slots_of base offset na)
    longest_at_least base offset zero some below = absurd (omega arith)
    longest_at_least base offset (suc n) some below =
        let start : base + 0 * offset ≡ base = omega arith in
        let here : 188 ≤ length (payload_at payloads (base + 0 * offset)) = subst (λ (s : ℕ). 188 ≤ length (payload_at payloads s)) (sym start) (some_packet base below) in
        omega arith

    -- The parity of a whole equation can be written with as many bytes as its longest payload has.
    pub parity_can_be_written :
        (base : ℕ) (shape : Shape) (row : Bool) → IsShape shape.offset shape.na → base < length payloads
        → CanBeWritten (parity_at settings payloads base shape row) (longest payloads (slots_of base shape.offset shape.na))
    parity_can_be_written base shape row read below =
        let slots : List ℕ = slots_of base shape.offset shape.na in
        record {
          shape = read;
          pt_size = sum_pt slots;
          some_payload = longest_at_least base shape.offset shape.na read.some_slot below;
          payload_limit = longest_at_most slots;
          padded = λ i past. sum_is_padded slots i past;
        }
