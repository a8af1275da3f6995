-- Bytes are a parity datagram, or they are none.
use Rattle.std.proofs.Common.{◌≡◌, ◌-◌, ◌*◌, ◌^◌, ◌<◌, ◌≤◌, ℕ, List, [], ◌∷◌, ◌++◌, length, take, drop, get_or, inl, inr, refl, sym, ap, subst, ◌∙◌, ⊎_elim, arith, append_assoc}
use Rattle.std.specs.List.{slice_range}
use Rattle.std.proofs.lemmas.Bool.{cases_eq}
use Rattle.std.proofs.lemmas.List.{length-drop, take_at}
use Rattle.fg_words.specs.Word.{HasRoom}
use Rattle.fg_words.proofs.DecisionLemmas.{IsDecided, decided_both, decided_as, decided_less, decided_most, decided_numbers, decided_zeros}
use Rattle.fg_shape.specs.Shape.{IsShape}
use Rattle.fg_rtp.specs.Header.{version}
use Rattle.fg_fechead.specs.declared.Parity.{Parity}
use Rattle.fg_fechead.specs.FecHeader.{header_of, parity_in}
use Rattle.fg_fechead.specs.ParityDatagram.{IsParityDatagram, header_in}
use Rattle.fg_fechead.specs.Laws.{ParityIsDecided}
use Rattle.fg_fechead.proofs.DatagramLemmas.{datagram_parts, datagram_says_parity}

decided_shape : (offset na : ℕ) → IsDecided (IsShape offset na)
decided_shape offset na =
    let Span : Type 0 = (na - 1) * offset ≤ 99 in
    let Most : Type 0 = (na ≤ 20) × Span in
    let Some : Type 0 = (1 ≤ na) × Most in
    let Near : Type 0 = (offset ≤ 20) × Some in
    decided_as ((1 ≤ offset) × Near) (IsShape offset na)
    (λ f. record { some_offset = f.0; offset_limit = f.1.0; some_slot = f.1.1.0; slot_limit = f.1.1.1.0; span = f.1.1.1.1 })
    (λ s. (s.some_offset, (s.offset_limit, (s.some_slot, (s.slot_limit, s.span)))))
    (decided_both (1 ≤ offset) Near (decided_most 1 offset)
    (decided_both (offset ≤ 20) Some (decided_most offset 20)
    (decided_both (1 ≤ na) Most (decided_most 1 na)
    (decided_both (na ≤ 20) Span (decided_most na 20) (decided_most ((na - 1) * offset) 99)))))

-- What a datagram keeps of its sizes, of its parity's numbers, and of its bytes.
module _ (bytes : List ℕ) (parity : Parity) (rtp mask : List ℕ) (ext_bits size : ℕ) where
  record HasSizes : Type 0 where
    rtp_size : length rtp ≡ 12
    rtp_version : version rtp ≡ 2
    mask_size : length mask ≡ 3
    some_payload : 1 ≤ size
    payload_limit : size ≤ 1316

  record HasNumbers : Type 0 where
    base_size : parity.base < 2 ^ 16
    len_size : parity.word.len < 2 ^ 16
    pt_size : parity.word.pt < 2 ^ 7
    ts_size : parity.word.ts < 2 ^ 32
    shape : IsShape parity.shape.offset parity.shape.na

  record HasBytes : Type 0 where
    room : HasRoom parity.word
    padded : (i : ℕ) → size ≤ i → get_or parity.word.bytes i 0 ≡ 0
    spelled : bytes ≡ rtp ++ header_of parity mask ext_bits ++ take size parity.word.bytes

  abbrev IsSpelled : Type 0
  IsSpelled = HasSizes × (HasNumbers × HasBytes)

  decided_sizes : IsDecided HasSizes
  decided_sizes =
      let Limit : Type 0 = size ≤ 1316 in
      let Payload : Type 0 = (1 ≤ size) × Limit in
      let Mask : Type 0 = (length mask ≡ 3) × Payload in
      let Version : Type 0 = (version rtp ≡ 2) × Mask in
      decided_as ((length rtp ≡ 12) × Version) HasSizes
      (λ f. record { rtp_size = f.0; rtp_version = f.1.0; mask_size = f.1.1.0; some_payload = f.1.1.1.0; payload_limit = f.1.1.1.1 })
      (λ s. (s.rtp_size, (s.rtp_version, (s.mask_size, (s.some_payload, s.payload_limit)))))
      (decided_both (length rtp ≡ 12) Version (cases_eq (length rtp) 12)
      (decided_both (version rtp ≡ 2) Mask (cases_eq (version rtp) 2)
      (decided_both (length mask ≡ 3) Payload (cases_eq (length mask) 3)
      (decided_both (1 ≤ size) Limit (decided_most 1 size) (decided_most size 1316)))))

  decided_fields : IsDecided HasNumbers
  decided_fields =
      let Shape : Type 0 = IsShape parity.shape.offset parity.shape.na in
      let Time : Type 0 = (parity.word.ts < 2 ^ 32) × Shape in
      let Kind : Type 0 = (parity.word.pt < 2 ^ 7) × Time in
      let Length : Type 0 = (parity.word.len < 2 ^ 16) × Kind in
      decided_as ((parity.base < 2 ^ 16) × Length) HasNumbers
      (λ f. record { base_size = f.0; len_size = f.1.0; pt_size = f.1.1.0; ts_size = f.1.1.1.0; shape = f.1.1.1.1 })
      (λ n. (n.base_size, (n.len_size, (n.pt_size, (n.ts_size, n.shape)))))
      (decided_both (parity.base < 2 ^ 16) Length (decided_less parity.base (2 ^ 16))
      (decided_both (parity.word.len < 2 ^ 16) Kind (decided_less parity.word.len (2 ^ 16))
      (decided_both (parity.word.pt < 2 ^ 7) Time (decided_less parity.word.pt (2 ^ 7))
      (decided_both (parity.word.ts < 2 ^ 32) Shape (decided_less parity.word.ts (2 ^ 32))
      (decided_shape parity.shape.offset parity.shape.na)))))

  decided_bytes : IsDecided HasBytes
  decided_bytes =
      let Spelled : Type 0 = bytes ≡ rtp ++ header_of parity mask ext_bits ++ take size parity.word.bytes in
      let Padded : Type 0 = (i : ℕ) → size ≤ i → get_or parity.word.bytes i 0 ≡ 0 in
      let Rest : Type 0 = Padded × Spelled in
      decided_as (HasRoom parity.word × Rest) HasBytes
      (λ f. record { room = f.0; padded = f.1.0; spelled = f.1.1 })
      (λ b. (b.room, (b.padded, b.spelled)))
      (decided_both (HasRoom parity.word) Rest (cases_eq (length parity.word.bytes) 1316)
      (decided_both Padded Spelled (decided_zeros parity.word.bytes size)
      (decided_numbers bytes (rtp ++ header_of parity mask ext_bits ++ take size parity.word.bytes))))

  decided_spelled : IsDecided IsSpelled
  decided_spelled = decided_both HasSizes (HasNumbers × HasBytes) decided_sizes
      (decided_both HasNumbers HasBytes decided_fields decided_bytes)

  datagram_from_spelled : IsSpelled → IsParityDatagram bytes parity
  datagram_from_spelled s =
      let sizes = s.0 in
      let numbers = s.1.0 in
      let parts = s.1.1 in
      record {
        rtp = rtp;
        mask = mask;
        ext_bits = ext_bits;
        size = size;
        rtp_size = sizes.rtp_size;
        rtp_version = sizes.rtp_version;
        mask_size = sizes.mask_size;
        some_payload = sizes.some_payload;
        payload_limit = sizes.payload_limit;
        base_size = numbers.base_size;
        len_size = numbers.len_size;
        pt_size = numbers.pt_size;
        ts_size = numbers.ts_size;
        shape = numbers.shape;
        room = parts.room;
        padded = parts.padded;
        spelled = parts.spelled;
      }

spelled_from_datagram :
    (bytes : List ℕ) (parity : Parity) (d : IsParityDatagram bytes parity) → IsSpelled bytes parity d.rtp d.mask d.ext_bits d.size
spelled_from_datagram bytes parity d = (
  record {
    rtp_size = d.rtp_size;
    rtp_version = d.rtp_version;
    mask_size = d.mask_size;
    some_payload = d.some_payload;
    payload_limit = d.payload_limit;
  },
  (
    record { base_size = d.base_size; len_size = d.len_size; pt_size = d.pt_size; ts_size = d.ts_size; shape = d.shape },
    record { room = d.room; padded = d.padded; spelled = d.spelled },
  ),
)

-- Where a header has its mask and its ext bits.
mask_in : (p : Parity) (mask : List ℕ) (ext_bits : ℕ) → length mask ≡ 3 → slice_range (header_of p mask ext_bits) 5 8 ≡ mask
mask_in p (m0 ∷ m1 ∷ m2 ∷ []) ext_bits long = refl
mask_in p mask ext_bits long = absurd (omega arith)

ext_bits_in : (p : Parity) (mask : List ℕ) (ext_bits : ℕ) → length mask ≡ 3 → get_or (header_of p mask ext_bits) 15 0 ≡ ext_bits
ext_bits_in p (m0 ∷ m1 ∷ m2 ∷ []) ext_bits long = refl
ext_bits_in p mask ext_bits long = absurd (omega arith)

module _ (bytes : List ℕ) where
  abbrev told : Parity
  told = parity_in (header_in bytes) (drop 28 bytes)

  -- The parts of a datagram are found in its bytes.
  abbrev IsRead : Type 0
  IsRead = IsSpelled bytes told (take 12 bytes) (slice_range (header_in bytes) 5 8) (get_or (header_in bytes) 15 0) (length (drop 28 bytes))

  read_from_told : IsParityDatagram bytes told → IsRead
  read_from_told d =
      let parts = datagram_parts bytes told d in
      let header : List ℕ = header_of told d.mask d.ext_bits in
      let payload : List ℕ = take d.size told.word.bytes in
      let rtp : d.rtp ≡ take 12 bytes =
      sym (ap (λ (l : List ℕ). take 12 l) (d.spelled ∙ append_assoc d.rtp header payload) ∙ take_at d.rtp (header ++ payload) 12 d.rtp_size) in
      let mask : d.mask ≡ slice_range (header_in bytes) 5 8 =
      sym (ap (λ (l : List ℕ). slice_range l 5 8) parts.0 ∙ mask_in told d.mask d.ext_bits d.mask_size) in
      let ext_bits : d.ext_bits ≡ get_or (header_in bytes) 15 0 =
      sym (ap (λ (l : List ℕ). get_or l 15 0) parts.0 ∙ ext_bits_in told d.mask d.ext_bits d.mask_size) in
      let size : d.size ≡ length (drop 28 bytes) = omega (arith, length-drop 28 bytes, parts.2) in
      subst (λ (n : ℕ). IsSpelled bytes told (take 12 bytes) (slice_range (header_in bytes) 5 8) (get_or (header_in bytes) 15 0) n) size
      (subst (λ (n : ℕ). IsSpelled bytes told (take 12 bytes) (slice_range (header_in bytes) 5 8) n d.size) ext_bits
      (subst (λ (l : List ℕ). IsSpelled bytes told (take 12 bytes) l d.ext_bits d.size) mask
      (subst (λ (l : List ℕ). IsSpelled bytes told l d.mask d.ext_bits d.size) rtp
      (spelled_from_datagram bytes told d))))

  decided_read : IsDecided IsRead
  decided_read = decided_spelled bytes told (take 12 bytes) (slice_range (header_in bytes) 5 8) (get_or (header_in bytes) 15 0) (length (drop 28 bytes))

  datagram_from_read : IsRead → IsParityDatagram bytes told
  datagram_from_read =
      datagram_from_spelled bytes told (take 12 bytes) (slice_range (header_in bytes) 5 8) (get_or (header_in bytes) 15 0) (length (drop 28 bytes))

pub parity_is_decided : ParityIsDecided
parity_is_decided bytes = ⊎_elim
    (λ read. inl (told bytes, datagram_from_read bytes read))
    (λ none. inr (λ parity d.
    none (read_from_told bytes (subst (λ (p : Parity). IsParityDatagram bytes p) (sym (datagram_says_parity bytes parity d)) d))))
    (decided_read bytes)
