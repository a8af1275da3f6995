-- Bytes that keep every rule are a parity datagram, and a parity datagram keeps them.
use Rattle.std.proofs.Common.{◌≡◌, ℕ, ◌+◌, ◌-◌, ◌/◌, ◌%◌, ◌^◌, ◌<◌, ◌≤◌, Bool, true, false, eqb, List, [], ◌∷◌, ◌++◌, length, replicate, take, drop, get_or, refl, sym, ap, subst, ⊎_elim, ◌∙◌, arith, lit<, length-append, append_assoc}
use Rattle.std.specs.Int.{to_be_bytes, w16, w32}
use Rattle.std.specs.List.{slice_range}
use Rattle.std.proofs.lemmas.Bool.{cases_lt}
use Rattle.std.proofs.lemmas.Nat.{be_bytes_2, be_bytes_4, from_be_bytes-to_be_bytes_2, from_be_bytes-to_be_bytes_4}
use Rattle.std.proofs.lemmas.List.{get_or_append_left, get_or-append_right, get_or-take, get_or-drop, get_or-replicate, get_or_past, length-take, length-drop, length-replicate, take_at, drop_at, drop-drop, take-append-drop, ext_get_or}
use Rattle.fg_words.specs.declared.Word.{Word}
use Rattle.fg_words.proofs.WordLemmas.{word-ext}
use Rattle.fg_words.specs.Word.{HasRoom}
use Rattle.fg_shape.specs.Shape.{IsShape}
use Rattle.fg_rtp.specs.Header.{plain_header}
use Rattle.fg_fechead.specs.declared.Parity.{Parity}
use Rattle.fg_fechead.specs.FecHeader.{row_bit, header_of, parity_in, IsExtended, IsPlainXor, HasShape}
use Rattle.fg_fechead.specs.ParityDatagram.{IsParityDatagram, CanBeWritten, parity_bytes, HasHeaders, IsVersionTwo, HasPayload, header_in}

-- Parities with equal fields are equal.
pub parity-ext : (p q : Parity) → p.base ≡ q.base → p.shape.offset ≡ q.shape.offset → p.shape.na ≡ q.shape.na → p.row ≡ q.row → p.word ≡ q.word → p ≡ q
parity-ext p q b o n r w =
    ap (λ (x : ℕ). (let y : Parity = record { base = x; shape = record { offset = p.shape.offset; na = p.shape.na }; row = p.row; word = p.word } in y)) b
    ∙ ap (λ (x : ℕ). (let y : Parity = record { base = q.base; shape = record { offset = x; na = p.shape.na }; row = p.row; word = p.word } in y)) o
    ∙ ap (λ (x : ℕ). (let y : Parity = record { base = q.base; shape = record { offset = q.shape.offset; na = x }; row = p.row; word = p.word } in y)) n
    ∙ ap (λ (x : Bool). (let y : Parity = record { base = q.base; shape = record { offset = q.shape.offset; na = q.shape.na }; row = x; word = p.word } in y)) r
    ∙ ap (λ (x : Word). (let y : Parity = record { base = q.base; shape = record { offset = q.shape.offset; na = q.shape.na }; row = q.row; word = x } in y)) w

zeros_everywhere : (n i : ℕ) → get_or (replicate {A = ℕ} n 0) i 0 ≡ 0
zeros_everywhere n i = ⊎_elim
    (λ (inside : i < n). get_or-replicate n i 0 0 inside)
    (λ (past : n ≤ i). get_or_past (replicate n 0) i 0 (omega (arith, length-replicate {A = ℕ} n 0)))
    (cases_lt i n)

-- The word's bytes, from a payload that is their front.
padded_front : (bytes payload : List ℕ) (size : ℕ) → length bytes ≡ 1316 → size ≤ 1316 → payload ≡ take size bytes → ((i : ℕ) → size ≤ i → get_or bytes i 0 ≡ 0) →
    payload ++ replicate (1316 - length payload) 0 ≡ bytes
padded_front bytes payload size room most is padded =
    let long : length payload ≡ size = omega (arith, ap length is, length-take size bytes) in
    let tail : List ℕ = replicate (1316 - length payload) 0 in
    let tail_long : length tail ≡ 1316 - length payload = length-replicate {A = ℕ} (1316 - length payload) 0 in
    ext_get_or 0 (payload ++ tail) bytes (length-append payload tail ∙ omega arith) (λ i lt. ⊎_elim
    (λ (inside : i < size).
    get_or_append_left payload tail 0 i (omega arith) ∙ ap (λ (l : List ℕ). get_or l i 0) is ∙ get_or-take size bytes i 0 inside)
    (λ (past : size ≤ i).
    get_or-append_right payload tail size i 0 long past ∙ zeros_everywhere (1316 - length payload) (i - size) ∙ sym (padded i past))
    (cases_lt i size))

row_bit-back : (b : Bool) → eqb (row_bit b / 64 % 2) 1 ≡ b
row_bit-back true = refl
row_bit-back false = refl

row_bit-plain : (b : Bool) → (row_bit b / 128 ≡ 0) × (row_bit b / 8 % 8 ≡ 0) × (row_bit b % 8 ≡ 0)
row_bit-plain true = (refl, refl, refl)
row_bit-plain false = (refl, refl, refl)

-- A header is as long as any.
length-header_of : (p : Parity) (mask : List ℕ) (ext_bits : ℕ) → length mask ≡ 3 → length (header_of p mask ext_bits) ≡ 16
length-header_of p (m0 ∷ m1 ∷ m2 ∷ []) ext_bits long = refl
length-header_of p mask ext_bits long = absurd (omega arith)

-- What a header says is the parity that it was made of.
parity_in-header_of : (p : Parity) (mask payload : List ℕ) (ext_bits : ℕ) → length mask ≡ 3 → p.base < 2 ^ 16 → p.word.len < 2 ^ 16 → p.word.pt < 2 ^ 7 → p.word.ts < 2 ^ 32 →
    payload ++ replicate (1316 - length payload) 0 ≡ p.word.bytes → parity_in (header_of p mask ext_bits) payload ≡ p
parity_in-header_of p (m0 ∷ m1 ∷ m2 ∷ []) payload ext_bits long base len pt ts contents =
    let q : Parity = parity_in (header_of p (m0 ∷ m1 ∷ m2 ∷ []) ext_bits) payload in
    parity-ext q p (from_be_bytes-to_be_bytes_2 p.base base) refl refl (row_bit-back p.row)
    (word-ext q.word p.word (omega arith) (from_be_bytes-to_be_bytes_4 p.word.ts ts) (from_be_bytes-to_be_bytes_2 p.word.len len) contents)
parity_in-header_of p mask payload ext_bits long base len pt ts contents = absurd (omega arith)

header_of-rules : (p : Parity) (mask : List ℕ) (ext_bits : ℕ) → length mask ≡ 3 → p.word.pt < 2 ^ 7 → IsShape p.shape.offset p.shape.na →
    IsExtended (header_of p mask ext_bits) × IsPlainXor (header_of p mask ext_bits) × HasShape (header_of p mask ext_bits)
header_of-rules p (m0 ∷ m1 ∷ m2 ∷ []) ext_bits long pt shape = (omega arith, row_bit-plain p.row, shape)
header_of-rules p mask ext_bits long pt shape = absurd (omega arith)

-- What is written for a parity is a parity datagram of it.
pub written_datagram : (seq ts : ℕ) (p : Parity) (size : ℕ) → CanBeWritten p size → p.base < 2 ^ 16 → p.word.len < 2 ^ 16 → p.word.ts < 2 ^ 32 → HasRoom p.word →
    IsParityDatagram (parity_bytes seq ts p size) p
written_datagram seq ts p size can base len ts_fits room =
    record {
      rtp = plain_header 96 seq ts 0;
      mask = 0 ∷ 0 ∷ 0 ∷ [];
      ext_bits = 0;
      size = size;
      rtp_size = refl;
      rtp_version = refl;
      mask_size = refl;
      some_payload = can.some_payload;
      payload_limit = can.payload_limit;
      base_size = base;
      len_size = len;
      pt_size = can.pt_size;
      ts_size = ts_fits;
      shape = can.shape;
      room = room;
      padded = can.padded;
      spelled = refl;
    }

-- Where the header and the payload of a parity datagram are, and what rules it keeps.
pub datagram_parts : (bytes : List ℕ) (p : Parity) (d : IsParityDatagram bytes p) →
    (header_in bytes ≡ header_of p d.mask d.ext_bits) × (drop 28 bytes ≡ take d.size p.word.bytes) × (length bytes ≡ 28 + d.size) × (get_or bytes 0 0 ≡ get_or d.rtp 0 0)
datagram_parts bytes p d =
    let header : List ℕ = header_of p d.mask d.ext_bits in
    let payload : List ℕ = take d.size p.word.bytes in
    let long : length header ≡ 16 = length-header_of p d.mask d.ext_bits d.mask_size in
    let whole : bytes ≡ d.rtp ++ (header ++ payload) = d.spelled ∙ append_assoc d.rtp header payload in
    let rest : drop 12 bytes ≡ header ++ payload = ap (λ (l : List ℕ). drop 12 l) whole ∙ drop_at d.rtp (header ++ payload) 12 d.rtp_size in (
      ap (λ (l : List ℕ). take 16 l) rest ∙ take_at header payload 16 long,
      sym (drop-drop 16 12 bytes) ∙ ap (λ (l : List ℕ). drop 16 l) rest ∙ drop_at header payload 16 long,
      ap length whole ∙ length-append d.rtp (header ++ payload) ∙ omega (arith, length-append header payload, length-take d.size p.word.bytes, d.room, d.payload_limit, d.rtp_size),
      ap (λ (l : List ℕ). get_or l 0 0) whole ∙ get_or_append_left d.rtp (header ++ payload) 0 0 (omega (arith, d.rtp_size)),
    )

pub datagram_keeps_rules : (bytes : List ℕ) (p : Parity) → IsParityDatagram bytes p →
    HasHeaders bytes × IsVersionTwo bytes × IsExtended (header_in bytes) × IsPlainXor (header_in bytes) × HasShape (header_in bytes) × HasPayload bytes
datagram_keeps_rules bytes p d =
    let parts = datagram_parts bytes p d in
    let rules = header_of-rules p d.mask d.ext_bits d.mask_size d.pt_size d.shape in
    let is : header_of p d.mask d.ext_bits ≡ header_in bytes = sym parts.0 in (
      omega (arith, parts.2),
      ap (λ (b : ℕ). b / 64) parts.3 ∙ d.rtp_version,
      subst (λ (h : List ℕ). IsExtended h) is rules.0,
      subst (λ (h : List ℕ). IsPlainXor h) is rules.1,
      subst (λ (h : List ℕ). HasShape h) is rules.2,
      (omega (arith, parts.2, d.some_payload), omega (arith, parts.2, d.payload_limit)),
    )

-- The parity of a parity datagram is the one that its header and its payload say.
pub datagram_says_parity : (bytes : List ℕ) (p : Parity) → IsParityDatagram bytes p → parity_in (header_in bytes) (drop 28 bytes) ≡ p
datagram_says_parity bytes p d =
    let parts = datagram_parts bytes p d in
    let payload : List ℕ = take d.size p.word.bytes in
    ap (λ (h : List ℕ). parity_in h (drop 28 bytes)) parts.0
    ∙ ap (λ (l : List ℕ). parity_in (header_of p d.mask d.ext_bits) l) parts.1
    ∙ parity_in-header_of p d.mask payload d.ext_bits d.mask_size d.base_size d.len_size d.pt_size d.ts_size
    (padded_front p.word.bytes payload d.size d.room d.payload_limit refl d.padded)

-- Bytes are a parity datagram of at most one parity.
pub datagram_one_way : (bytes : List ℕ) (p p' : Parity) → IsParityDatagram bytes p → IsParityDatagram bytes p' → p ≡ p'
datagram_one_way bytes p p' d d' = sym (datagram_says_parity bytes p d) ∙ datagram_says_parity bytes p' d'

-- Parts of bytes are bytes.
drop_fits : (l : List ℕ) (n : ℕ) → ((i : ℕ) → get_or l i 0 < 256) → (i : ℕ) → get_or (drop n l) i 0 < 256
drop_fits l n fits i = let at : get_or (drop n l) i 0 ≡ get_or l (n + i) 0 = get_or-drop n l i 0 in omega (arith, fits (n + i))

take_fits : (l : List ℕ) (n : ℕ) → ((i : ℕ) → get_or l i 0 < 256) → (i : ℕ) → get_or (take n l) i 0 < 256
take_fits l n fits i = ⊎_elim
    (λ (inside : i < n). let at : get_or (take n l) i 0 ≡ get_or l i 0 = get_or-take n l i 0 inside in omega (arith, fits i))
    (λ (past : n ≤ i). let at : get_or (take n l) i 0 ≡ 0 = get_or_past (take n l) i 0 (omega (arith, length-take n l)) in omega arith)
    (cases_lt i n)

range_fits : (l : List ℕ) (a b : ℕ) → ((i : ℕ) → get_or l i 0 < 256) → (i : ℕ) → get_or (slice_range l a b) i 0 < 256
range_fits l a b fits = take_fits (drop a l) (b - a) (drop_fits l a fits)

row_bit-of : (b : ℕ) → b / 128 ≡ 0 → b / 8 % 8 ≡ 0 → b % 8 ≡ 0 → row_bit (eqb (b / 64 % 2) 1) ≡ b
row_bit-of b x type index = ⊎_elim
    (λ (low : b < 64). let zero_bit : b ≡ 0 = omega arith in subst (λ (n : ℕ). row_bit (eqb (n / 64 % 2) 1) ≡ n) (sym zero_bit) refl)
    (λ (high : 64 ≤ b). let one_bit : b ≡ 64 = omega arith in subst (λ (n : ℕ). row_bit (eqb (n / 64 % 2) 1) ≡ n) (sym one_bit) refl)
    (cases_lt b 64)

-- A header that keeps its rules is the header of the parity that it says.
header_of-parity_in : (header payload : List ℕ) → ((i : ℕ) → get_or header i 0 < 256) → length header ≡ 16 → IsExtended header → IsPlainXor header →
    header_of (parity_in header payload) (slice_range header 5 8) (get_or header 15 0) ≡ header
header_of-parity_in (b0 ∷ b1 ∷ b2 ∷ b3 ∷ b4 ∷ b5 ∷ b6 ∷ b7 ∷ b8 ∷ b9 ∷ b10 ∷ b11 ∷ b12 ∷ b13 ∷ b14 ∷ b15 ∷ []) payload fits long extended plain =
    let header : List ℕ = b0 ∷ b1 ∷ b2 ∷ b3 ∷ b4 ∷ b5 ∷ b6 ∷ b7 ∷ b8 ∷ b9 ∷ b10 ∷ b11 ∷ b12 ∷ b13 ∷ b14 ∷ b15 ∷ [] in
    let p : Parity = parity_in header payload in
    let at_base : List ℕ = b0 ∷ b1 ∷ [] in
    let at_len : List ℕ = b2 ∷ b3 ∷ [] in
    let at_ts : List ℕ = b8 ∷ b9 ∷ b10 ∷ b11 ∷ [] in
    let base : to_be_bytes w16 p.base ≡ at_base = be_bytes_2 at_base p.base refl (range_fits header 0 2 fits) refl in
    let len : to_be_bytes w16 p.word.len ≡ at_len = be_bytes_2 at_len p.word.len refl (range_fits header 2 4 fits) refl in
    let ts : to_be_bytes w32 p.word.ts ≡ at_ts = be_bytes_4 at_ts p.word.ts refl (range_fits header 8 12 fits) refl in
    let f4 : b4 < 256 = fits 4 in
    let pt : 128 + b4 % 128 ≡ b4 = omega arith in
    let row : row_bit p.row ≡ b12 = row_bit-of b12 plain.0 plain.1 plain.2 in
    let spells : List ℕ → List ℕ → ℕ → List ℕ → ℕ → List ℕ = λ b l t s r. b ++ l ++ t ∷ b5 ∷ b6 ∷ b7 ∷ [] ++ s ++ r ∷ b13 ∷ b14 ∷ b15 ∷ [] in
    ap (λ (l : List ℕ). spells l (to_be_bytes w16 p.word.len) (128 + b4 % 128) (to_be_bytes w32 p.word.ts) (row_bit p.row)) base
    ∙ ap (λ (l : List ℕ). spells at_base l (128 + b4 % 128) (to_be_bytes w32 p.word.ts) (row_bit p.row)) len
    ∙ ap (λ (b : ℕ). spells at_base at_len b (to_be_bytes w32 p.word.ts) (row_bit p.row)) pt
    ∙ ap (λ (l : List ℕ). spells at_base at_len b4 l (row_bit p.row)) ts
    ∙ ap (λ (b : ℕ). spells at_base at_len b4 at_ts b) row
header_of-parity_in header payload fits long extended plain = absurd (omega arith)

-- Bytes that keep every rule are a parity datagram, of the parity that their header and payload say.
pub datagram_of_rules : (bytes : List ℕ) → ((i : ℕ) → get_or bytes i 0 < 256) → HasHeaders bytes → IsVersionTwo bytes → IsExtended (header_in bytes) → IsPlainXor (header_in bytes) → HasShape (header_in bytes) → HasPayload bytes →
    IsParityDatagram bytes (parity_in (header_in bytes) (drop 28 bytes))
datagram_of_rules bytes fits headers two extended plain shape sized =
    let header : List ℕ = header_in bytes in
    let payload : List ℕ = drop 28 bytes in
    let tail : List ℕ = replicate (1316 - length payload) 0 in
    let size : ℕ = length payload in
    let rtp : List ℕ = take 12 bytes in
    let some : 28 + 1 ≤ length bytes = sized.0 in
    let most : length bytes ≤ 28 + 1316 = sized.1 in
    let size_is : size ≡ length bytes - 28 = length-drop 28 bytes in
    let header_fits : (i : ℕ) → get_or header i 0 < 256 = range_fits bytes 12 28 fits in
    let header_long : length header ≡ 16 = omega (arith, length-take 16 (drop 12 bytes), length-drop 12 bytes) in
    let base0 = range_fits header 0 2 header_fits 0 in
    let base1 = range_fits header 0 2 header_fits 1 in
    let len0 = range_fits header 2 4 header_fits 0 in
    let len1 = range_fits header 2 4 header_fits 1 in
    let ts0 = range_fits header 8 12 header_fits 0 in
    let ts1 = range_fits header 8 12 header_fits 1 in
    let ts2 = range_fits header 8 12 header_fits 2 in
    let ts3 = range_fits header 8 12 header_fits 3 in
    let back = header_of-parity_in header payload header_fits header_long extended plain in
    let split : drop 12 bytes ≡ header ++ payload = sym (take-append-drop 16 (drop 12 bytes)) ∙ ap (λ (l : List ℕ). header ++ l) (drop-drop 16 12 bytes) in
    record {
      rtp = rtp;
      mask = slice_range header 5 8;
      ext_bits = get_or header 15 0;
      size = size;
      rtp_size = omega (arith, length-take 12 bytes);
      rtp_version = ap (λ (b : ℕ). b / 64) (get_or-take 12 bytes 0 0 (lit< tt)) ∙ two;
      mask_size = omega (arith, length-take 3 (drop 5 header), length-drop 5 header);
      some_payload = omega arith;
      payload_limit = omega arith;
      base_size = omega arith;
      len_size = omega arith;
      pt_size = omega arith;
      ts_size = omega arith;
      shape = shape;
      room = length-append payload tail ∙ omega (arith, length-replicate {A = ℕ} (1316 - length payload) 0);
      padded = λ i past. get_or-append_right payload tail size i 0 refl past ∙ zeros_everywhere (1316 - length payload) (i - size);
      spelled =
          sym (take-append-drop 12 bytes) ∙ ap (λ (l : List ℕ). rtp ++ l) split ∙ sym (append_assoc rtp header payload)
          ∙ ap (λ (l : List ℕ). rtp ++ l ++ payload) (sym back)
          ∙ ap (λ (l : List ℕ). rtp ++ header_of (parity_in header payload) (slice_range header 5 8) (get_or header 15 0) ++ l) (sym (take_at payload tail size refl));
    }
