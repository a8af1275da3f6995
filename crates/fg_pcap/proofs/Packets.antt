-- Records and their spelling.
use Rattle.std.proofs.Common.{◌≡◌, ℕ, ◌+◌, ◌<◌, ◌^◌, List, [], ◌∷◌, ◌++◌, length, sym, ap, ◌∙◌, refl, arith, append_assoc, length-append}
use Rattle.std.specs.Int.{from_be_bytes, from_le_bytes, w32}
use Rattle.std.specs.List.{AllByRecursion}
use Rattle.std.proofs.lemmas.Grind.{flat_map-append}
use Rattle.std.proofs.lemmas.Nat.{from_be_bytes-to_be_bytes_4, from_le_bytes-to_le_bytes_4}
use Rattle.fg_trace.proofs.Records.{same_front}
use Rattle.fg_pcap.specs.declared.file_header.ByteOrder.{ByteOrder}
use Rattle.fg_pcap.specs.declared.file_header.ByteOrder.TheVariants.{HighestFirst, LowestFirst}
use Rattle.fg_pcap.specs.Capture.{Packet, Fits, four_bytes, header_spelling, packet_spelling, spelling_of}
use Rattle.fg_pcap.specs.PacketHeader.{IsPacketHeader}

pub four_length : (order : ByteOrder) (n : ℕ) → length (four_bytes order n) ≡ 4
four_length HighestFirst n = refl
four_length LowestFirst n = refl

-- a number that four bytes spell
pub four_same : (order : ByteOrder) (m n : ℕ) → m < 2 ^ 32 → n < 2 ^ 32 → four_bytes order m ≡ four_bytes order n → m ≡ n
four_same HighestFirst m n small below e = sym (from_be_bytes-to_be_bytes_4 m small) ∙ ap (from_be_bytes w32) e ∙ from_be_bytes-to_be_bytes_4 n below
four_same LowestFirst m n small below e = sym (from_le_bytes-to_le_bytes_4 m small) ∙ ap (from_le_bytes w32) e ∙ from_le_bytes-to_le_bytes_4 n below

pub four_front : (order : ByteOrder) (m n : ℕ) (xs ys : List ℕ) → four_bytes order m ++ xs ≡ four_bytes order n ++ ys → (four_bytes order m ≡ four_bytes order n) × (xs ≡ ys)
four_front order m n xs ys e = same_front (four_bytes order m) (four_bytes order n) xs ys (four_length order m ∙ sym (four_length order n)) e

-- a header's fields one after another
pub header_fields : (order : ByteOrder) (s f k o : ℕ) (rest : List ℕ) → header_spelling order s f k o ++ rest ≡ four_bytes order s ++ (four_bytes order f ++ (four_bytes order k ++ (four_bytes order o ++ rest)))
header_fields order s f k o rest = simp append_assoc

pub header_length : (order : ByteOrder) (s f k o : ℕ) (rest : List ℕ) → length (header_spelling order s f k o ++ rest) ≡ 16 + length rest
header_length order s f k o rest = omega (
  arith,
  ap length (header_fields order s f k o rest),
  length-append (four_bytes order s) (four_bytes order f ++ (four_bytes order k ++ (four_bytes order o ++ rest))),
  length-append (four_bytes order f) (four_bytes order k ++ (four_bytes order o ++ rest)),
  length-append (four_bytes order k) (four_bytes order o ++ rest),
  length-append (four_bytes order o) rest,
  four_length order s,
  four_length order f,
  four_length order k,
  four_length order o,
)

-- a header and what follows
pub header_same : (order : ByteOrder) (s f k o s' f' k' o' : ℕ) (xs ys : List ℕ) → k < 2 ^ 32 → k' < 2 ^ 32 → header_spelling order s f k o ++ xs ≡ header_spelling order s' f' k' o' ++ ys
    → (four_bytes order s ≡ four_bytes order s') × (four_bytes order f ≡ four_bytes order f') × (k ≡ k') × (four_bytes order o ≡ four_bytes order o') × (xs ≡ ys)
header_same order s f k o s' f' k' o' xs ys fk fk' e =
    let whole = sym (header_fields order s f k o xs) ∙ e ∙ header_fields order s' f' k' o' ys in
    let one = four_front order s s' _ _ whole in
    let two = four_front order f f' _ _ one.1 in
    let three = four_front order k k' _ _ two.1 in
    let four = four_front order o o' _ _ three.1 in
    (one.0, two.0, four_same order k k' fk fk' three.0, four.0, four.1)

-- a record and what follows, as its header and its bytes
pub packet_by_header : (order : ByteOrder) (p : Packet) (rest : List ℕ) → packet_spelling order p ++ rest ≡ header_spelling order p.seconds p.fraction (length p.bytes) p.original ++ (p.bytes ++ rest)
packet_by_header order p rest = append_assoc (header_spelling order p.seconds p.fraction (length p.bytes) p.original) p.bytes rest

pub length_packet : (order : ByteOrder) (p : Packet) → length (packet_spelling order p) ≡ 16 + length p.bytes
length_packet order p = header_length order p.seconds p.fraction (length p.bytes) p.original p.bytes

-- a record, by its fields
abbrev packet : ℕ → ℕ → ℕ → List ℕ → Packet
packet s f o b = record { seconds = s; fraction = f; original = o; bytes = b }

same_fields : (p q : Packet) → p.seconds ≡ q.seconds → p.fraction ≡ q.fraction → p.original ≡ q.original → p.bytes ≡ q.bytes → p ≡ q
same_fields p q s f o b =
    ap (λ x. packet x p.fraction p.original p.bytes) s ∙ ap (λ x. packet q.seconds x p.original p.bytes) f ∙ ap (λ x. packet q.seconds q.fraction x p.bytes) o
    ∙ ap (λ x. packet q.seconds q.fraction q.original x) b

-- at most one record stands at the front
pub one_packet : (order : ByteOrder) (p q : Packet) (xs ys : List ℕ) → Fits p → Fits q → packet_spelling order p ++ xs ≡ packet_spelling order q ++ ys → (p ≡ q) × (xs ≡ ys)
one_packet order p q xs ys h k e =
    let parts = header_same order p.seconds p.fraction (length p.bytes) p.original q.seconds q.fraction (length q.bytes) q.original (p.bytes ++ xs) (q.bytes ++ ys) (omega (arith, h.kept)) (omega (arith, k.kept))
    (sym (packet_by_header order p xs) ∙ e ∙ packet_by_header order q ys) in
    let last = same_front p.bytes q.bytes xs ys parts.2 parts.4 in (
      same_fields p q (four_same order p.seconds q.seconds h.seconds k.seconds parts.0) (four_same order p.fraction q.fraction h.fraction k.fraction parts.1) (four_same order p.original q.original h.original k.original parts.3) last.0,
      last.1,
    )

-- a header that was read says how many bytes the record keeps that stands there
pub header_of_packet : (order : ByteOrder) (bytes : List ℕ) (s f k o : ℕ) (p : Packet) (after : List ℕ) → IsPacketHeader order bytes s f k o → Fits p → bytes ≡ packet_spelling order p ++ after → k ≡ length p.bytes
header_of_packet order bytes s f k o p after h fit e =
    (header_same order s f k o p.seconds p.fraction (length p.bytes) p.original h.rest (p.bytes ++ after) h.kept_fits (omega (arith, fit.kept)) (sym h.spelled ∙ e ∙ packet_by_header order p after)).2

-- a header stays when more comes behind it
pub header_longer : (order : ByteOrder) (held given : List ℕ) (s f k o : ℕ) → IsPacketHeader order held s f k o → IsPacketHeader order (held ++ given) s f k o
header_longer order held given s f k o h = record {
  rest = h.rest ++ given;
  spelled = ap (λ t. t ++ given) h.spelled ∙ append_assoc (header_spelling order s f k o) h.rest given;
  seconds_fit = h.seconds_fit;
  fraction_fits = h.fraction_fits;
  kept_fits = h.kept_fits;
  original_fits = h.original_fits;
}

-- one record more
pub spelled_more : (order : ByteOrder) (ps : List Packet) (p : Packet) (tail : List Packet) → spelling_of order (ps ++ p ∷ tail) ≡ spelling_of order ps ++ (packet_spelling order p ++ spelling_of order tail)
spelled_more order ps p tail = flat_map-append (packet_spelling order) ps (p ∷ tail)

pub all_fit_more : (ps : List Packet) (p : Packet) → AllByRecursion Fits ps → Fits p → AllByRecursion Fits (ps ++ p ∷ [])
all_fit_more [] p h k = (k, tt)
all_fit_more (q ∷ ps) p h k = (h.0, all_fit_more ps p h.1 k)
