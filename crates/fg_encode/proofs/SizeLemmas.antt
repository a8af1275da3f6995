-- How large the records of an encoding are, and their trace.
use Rattle.std.proofs.Common.{◌≡◌, ⊎_elim, ℕ, zero, suc, ◌+◌, ◌-◌, ◌*◌, ◌/◌, ◌%◌, ◌<◌, ◌≤◌, ◌^◌, Bool, true, false, List, [], ◌∷◌, ◌++◌, length, map, take, sym, ap, ◌∙◌, arith, add-one, append-nil, length-append}
use Rattle.std.specs.List.{flat_map, range_with_len, AllByRecursion}
use Rattle.std.proofs.Math.Nat.{div-le_self, mul-suc, mul-le-mul_right}
use Rattle.std.proofs.lemmas.Bool.{cases_lt}
use Rattle.std.proofs.lemmas.List.{get_or_past, length-take, take_all}
use Rattle.std.proofs.lemmas.List.Concat.{flat_map-append}
use Rattle.std.proofs.lemmas.List.Sums.{sum_by-take-le, sum_by_more}
use Rattle.fg_shape.specs.declared.kind.Kind.{Kind}
use Rattle.fg_shape.specs.declared.kind.Kind.TheVariants.{Media, Column, Row}
use Rattle.fg_shape.specs.Kind.{port_of}
use Rattle.fg_shape.specs.declared.Shape.{Shape}
use Rattle.fg_shape.specs.declared.layouts.Layout.{Layout}
use Rattle.fg_shape.specs.declared.encoding.Settings.{Settings}
use Rattle.fg_shape.specs.Layout.{ColumnEnds, RowEnds}
use Rattle.fg_shape.specs.Shape.{slots_of}
use Rattle.fg_rtp.specs.Header.{plain_header}
use Rattle.fg_fechead.specs.declared.Parity.{Parity}
use Rattle.fg_fechead.specs.FecHeader.{header_of}
use Rattle.fg_fechead.specs.ParityDatagram.{parity_bytes}
use Rattle.fg_trace.specs.Trace.{magic, spelling, trace_of, Fits, Record}
use Rattle.fg_encode.specs.Ends.{columns_before, columns_ending, rows_before, rows_ending}
use Rattle.fg_shape.specs.Settings.{CanEncode}
use Rattle.fg_encode.specs.Encoding.{bits_before, column_record, column_shape, encoding, longest, media_record, parity_at, parity_record, payload_at, records_at, row_record, row_shape, sequence_of, timestamp_of, word_at}
use Rattle.fg_encode.specs.Payloads.{total_length, ArePayloads}
use Rattle.fg_encode.specs.Laws.{ColumnsAreTheLayouts, RowsAreTheLayouts}
use Rattle.fg_encode.proofs.ListLemmas.{flat_more}

-- Sums.
at_most : (made long size : ℕ) → made ≤ 28 + long → long ≤ size → made ≤ 28 + size
at_most made long size h k = omega arith

small : (size long : ℕ) → size ≤ 12 + long → long ≤ 1316 → size < 2 ^ 16
small size long h k = omega arith

smaller : (size : ℕ) → size ≤ 28 + 1316 → size < 2 ^ 16
smaller size h = omega arith

four_sum : (m c r : ℕ) → 12 + m + (c + r) ≡ 12 + m + c + r
four_sum m c r = omega arith

spelled_at_most : (front : List ℕ) (long size : ℕ) → length front ≡ 12 + long → long ≤ 28 + size → length (front ++ []) ≤ 40 + size
spelled_at_most front long size h k = omega (arith, ap (λ (l : List ℕ). length l) (append-nil front), h, k)

slot_sum : (all media columns rows long size : ℕ) → all ≡ 12 + media + columns + rows → media ≤ 12 + long → columns ≤ 40 + size → rows ≤ 40 + size → all ≤ 104 + long + 2 * size
slot_sum all media columns rows long size h m c r = omega arith

next_slot : (all before here sum next long size k : ℕ) → all ≡ before + here → before ≤ 104 * k + sum + 2 * (size * k) → here ≤ 104 + long + 2 * size → next ≡ sum + long → all ≤ 104 * suc k + next + 2 * (size * suc k)
next_slot all before here sum next long size k split most few more =
    let product : size * suc k ≡ size * k + size = mul-suc size k in
    omega (arith, split, most, few, more, product)

all_sum : (all taken total front last size n m : ℕ) → all ≤ 104 * n + taken + 2 * (size * n) → taken ≡ total → total ≡ front + last → front ≡ size * m → suc m ≡ n → 188 ≤ last → 188 ≤ size → size ≤ 1316 → total ≤ 2 ^ 40 → all ≤ 2 ^ 42 - 8
all_sum all taken total front last size n m long whole sum full follows least few most limit =
    let product : size * n ≡ size * m + size = ap (λ k. size * k) (sym follows) ∙ mul-suc size m in
    let slots : 188 * m ≤ size * m = mul-le-mul_right m few in
    omega (arith, long, whole, sum, full, follows, least, most, limit, product, slots)

no_sum : (all taken total size n : ℕ) → all ≤ 104 * n + taken + 2 * (size * n) → taken ≡ total → n ≤ 0 → total ≤ 2 ^ 40 → all ≤ 2 ^ 42 - 8
no_sum all taken total size n long whole none limit =
    let zero_slots : n ≡ 0 = omega arith in
    let product : size * n ≡ size * 0 = ap (λ k. size * k) zero_slots in
    omega (arith, long, whole, zero_slots, limit, product)

with_magic : (bytes : List ℕ) → length bytes ≤ 2 ^ 42 - 8 → length (magic ++ bytes) ≤ 2 ^ 42
with_magic bytes few = omega (arith, length-append magic bytes, few)

-- One payload more of the first.
one_more_payload : (payloads : List (List ℕ)) (k : ℕ) → k < length payloads → total_length (take (suc k) payloads) ≡ total_length (take k payloads) + length (payload_at payloads k)
one_more_payload payloads k there =
    ap (λ n. total_length (take n payloads)) (sym (add-one k)) ∙ sum_by_more {X = List ℕ} (λ payload. length payload) payloads k [] there

-- No payload has more than the packets of a whole one.
no_longer : (packets : ℕ) (payloads : List (List ℕ)) → ArePayloads packets payloads → (slot : ℕ) → length (payload_at payloads slot) ≤ 188 * packets
no_longer packets payloads are slot = ⊎_elim
    (λ (there : slot < length payloads). let p = are.whole slot there in omega (arith, p.2, p.3.whole))
    (λ (past : length payloads ≤ slot). omega (arith, ap (λ (p : List ℕ). length p) (get_or_past payloads slot [] past)))
    (cases_lt slot (length payloads))

longest_at_most : (payloads : List (List ℕ)) (size : ℕ) (slots : List ℕ) → ((slot : ℕ) → length (payload_at payloads slot) ≤ size) → longest payloads slots ≤ size
longest_at_most payloads size [] most = omega arith
longest_at_most payloads size (slot ∷ slots) most =
    let head = most slot in
    let rest = longest_at_most payloads size slots most in
    omega arith

-- Datagrams.
plain_length : (pt seq ts ssrc : ℕ) → length (plain_header pt seq ts ssrc) ≡ 12
plain_length pt seq ts ssrc = omega arith

header_length : (parity : Parity) → length (header_of parity (0 ∷ 0 ∷ 0 ∷ []) 0) ≡ 16
header_length parity = omega arith

media_length : (settings : Settings) (payloads : List (List ℕ)) (slot : ℕ) → length (media_record settings payloads slot).datagram ≤ 12 + length (payload_at payloads slot)
media_length settings payloads slot =
    let word = word_at settings payloads slot in
    let header = plain_header 33 (sequence_of settings slot) word.ts settings.ssrc in
    omega (arith, length-append header (take word.len word.bytes), plain_length 33 (sequence_of settings slot) word.ts settings.ssrc, length-take word.len word.bytes)

parity_length : (seq ts : ℕ) (parity : Parity) (size : ℕ) → length (parity_bytes seq ts parity size) ≤ 28 + size
parity_length seq ts parity size =
    let fec = header_of parity (0 ∷ 0 ∷ 0 ∷ []) 0 in
    let front = take size parity.word.bytes in
    omega (arith, length-append (plain_header 96 seq ts 0) (fec ++ front), length-append fec front, plain_length 96 seq ts 0, header_length parity, length-take size parity.word.bytes)

parity_record_length : (settings : Settings) (payloads : List (List ℕ)) (slot : ℕ) (kind : Kind) (number : ℕ) (shape : Shape) (row : Bool) (base size : ℕ) → ((s : ℕ) → length (payload_at payloads s) ≤ size)
    → length (parity_record settings payloads slot kind number shape row base).datagram ≤ 28 + size
parity_record_length settings payloads slot kind number shape row base size most =
    let long = longest payloads (slots_of base shape.offset shape.na) in
    let short = longest_at_most payloads size (slots_of base shape.offset shape.na) most in
    let made = parity_length (number % 2 ^ 16) (timestamp_of settings (bits_before payloads slot)) (parity_at settings payloads base shape row) long in
    at_most (length (parity_record settings payloads slot kind number shape row base).datagram) long size made short

-- What the fields of a record say.
time_fits : (bits rate : ℕ) → bits ≤ 2 ^ 43 → bits * 1000000 / rate < 2 ^ 64
time_fits bits rate few = omega (arith, div-le_self (bits * 1000000) rate)

bits_at_most : (payloads : List (List ℕ)) (slot : ℕ) → total_length payloads ≤ 2 ^ 40 → bits_before payloads slot ≤ 2 ^ 43
bits_at_most payloads slot limit = omega (arith, limit, sum_by-take-le {X = List ℕ} (λ payload. length payload) payloads slot)

media_fits : (settings : Settings) (payloads : List (List ℕ)) (slot : ℕ) → CanEncode settings → total_length payloads ≤ 2 ^ 40 → ((s : ℕ) → length (payload_at payloads s) ≤ 1316) → Fits (media_record settings payloads slot)
media_fits settings payloads slot can limit most = record {
  time = time_fits (bits_before payloads slot) settings.rate (bits_at_most payloads slot limit);
  port = omega (arith, can.port);
  size = small (length (media_record settings payloads slot).datagram) (length (payload_at payloads slot)) (media_length settings payloads slot) (most slot);
}

port_fits : (flow : ℕ) (kind : Kind) → flow ≤ 65531 → port_of flow kind < 2 ^ 16
port_fits flow Media few = omega (arith, few)
port_fits flow Column few = omega (arith, few)
port_fits flow Row few = omega (arith, few)

parity_fits : (settings : Settings) (payloads : List (List ℕ)) (slot : ℕ) (kind : Kind) (number : ℕ) (shape : Shape) (row : Bool) (base : ℕ) → CanEncode settings → total_length payloads ≤ 2 ^ 40 → ((s : ℕ) → length (payload_at payloads s) ≤ 1316)
    → Fits (parity_record settings payloads slot kind number shape row base)
parity_fits settings payloads slot kind number shape row base can limit most = record {
  time = time_fits (bits_before payloads slot) settings.rate (bits_at_most payloads slot limit);
  port = port_fits settings.port kind can.port;
  size = smaller (length (parity_record settings payloads slot kind number shape row base).datagram) (parity_record_length settings payloads slot kind number shape row base 1316 most);
}

all_append : (P : Record → Type 0) (xs ys : List Record) → AllByRecursion P xs → AllByRecursion P ys → AllByRecursion P (xs ++ ys)
all_append P [] ys hx hy = hy
all_append P (x ∷ xs) ys hx hy = (hx.0, all_append P xs ys hx.1 hy)

all_map : (P : Record → Type 0) (f : ℕ → Record) (xs : List ℕ) → ((x : ℕ) → P (f x)) → AllByRecursion P (map f xs)
all_map P f [] each = tt
all_map P f (x ∷ xs) each = (each x, all_map P f xs each)

all_flat : (P : Record → Type 0) (f : ℕ → List Record) (xs : List ℕ) → ((x : ℕ) → AllByRecursion P (f x)) → AllByRecursion P (flat_map f xs)
all_flat P f [] each = tt
all_flat P f (x ∷ xs) each = all_append P (f x) (flat_map f xs) (each x) (all_flat P f xs each)

pub records_fit : (settings : Settings) (payloads : List (List ℕ)) → CanEncode settings → ArePayloads settings.packets payloads → total_length payloads ≤ 2 ^ 40 → AllByRecursion Fits (encoding settings payloads)
records_fit settings payloads can are limit =
    let layout = settings.layout in
    let most : (s : ℕ) → length (payload_at payloads s) ≤ 1316 = λ s. omega (arith, no_longer settings.packets payloads are s, can.packets) in
    all_flat Fits (records_at settings payloads) (range_with_len 0 (length payloads))
    (λ slot. (
      media_fits settings payloads slot can limit most,
      all_append Fits (map (column_record settings payloads slot) (columns_ending layout slot)) (map (row_record settings payloads slot) (rows_ending layout slot))
          (all_map Fits (column_record settings payloads slot) (columns_ending layout slot) (λ base. parity_fits settings payloads slot Column (columns_before layout slot) (column_shape layout) false base can limit most))
          (all_map Fits (row_record settings payloads slot) (rows_ending layout slot) (λ base. parity_fits settings payloads slot Row (rows_before layout slot) (row_shape layout) true base can limit most)),
    ))

-- At most one column ends at a slot, and one row.
one_column : ColumnsAreTheLayouts → (layout : Layout) (slot : ℕ) → length (columns_ending layout slot) ≤ 1
one_column law layout slot = ⊎_elim
    (λ (more : 1 < length (columns_ending layout slot)).
    let none : (base : ℕ) → ¬ ColumnEnds layout slot base = λ base e. omega (arith, more, ap (λ (l : List ℕ). length l) ((law layout slot).0 base e)) in
    absurd (omega (arith, more, ap (λ (l : List ℕ). length l) ((law layout slot).1 none))))
    (λ (few : length (columns_ending layout slot) ≤ 1). few)
    (cases_lt 1 (length (columns_ending layout slot)))

one_row : RowsAreTheLayouts → (layout : Layout) (slot : ℕ) → length (rows_ending layout slot) ≤ 1
one_row law layout slot = ⊎_elim
    (λ (more : 1 < length (rows_ending layout slot)).
    let none : (base : ℕ) → ¬ RowEnds layout slot base = λ base e. omega (arith, more, ap (λ (l : List ℕ). length l) ((law layout slot).0 base e)) in
    absurd (omega (arith, more, ap (λ (l : List ℕ). length l) ((law layout slot).1 none))))
    (λ (few : length (rows_ending layout slot) ≤ 1). few)
    (cases_lt 1 (length (rows_ending layout slot)))

-- Spellings.
spelling_length : (r : Record) → length (spelling r) ≡ 12 + length r.datagram
spelling_length r = omega arith

one_spelled : (f : ℕ → Record) (xs : List ℕ) (size : ℕ) → length xs ≤ 1 → ((x : ℕ) → length (f x).datagram ≤ 28 + size) → length (flat_map spelling (map f xs)) ≤ 40 + size
one_spelled f [] size few most = omega arith
one_spelled f (x ∷ []) size few most = spelled_at_most (spelling (f x)) (length (f x).datagram) size (spelling_length (f x)) (most x)
one_spelled f (x ∷ y ∷ xs) size few most = absurd (omega arith)

three_spelled : (m : Record) (cs rs : List Record) → length (flat_map spelling (m ∷ cs ++ rs)) ≡ 12 + length m.datagram + length (flat_map spelling cs) + length (flat_map spelling rs)
three_spelled m cs rs =
    length-append (spelling m) (flat_map spelling (cs ++ rs))
    ∙ ap (λ n. n + length (flat_map spelling (cs ++ rs))) (spelling_length m)
    ∙ ap (λ (l : List ℕ). 12 + length m.datagram + length l) (flat_map-append spelling cs rs)
    ∙ ap (λ n. 12 + length m.datagram + n) (length-append (flat_map spelling cs) (flat_map spelling rs))
    ∙ four_sum (length m.datagram) (length (flat_map spelling cs)) (length (flat_map spelling rs))

slot_length : ColumnsAreTheLayouts → RowsAreTheLayouts → (settings : Settings) (payloads : List (List ℕ)) (size slot : ℕ) → ((s : ℕ) → length (payload_at payloads s) ≤ size)
    → length (flat_map spelling (records_at settings payloads slot)) ≤ 104 + length (payload_at payloads slot) + 2 * size
slot_length columns_law rows_law settings payloads size slot most =
    let layout = settings.layout in
    let columns : List Record = map (column_record settings payloads slot) (columns_ending layout slot) in
    let rows : List Record = map (row_record settings payloads slot) (rows_ending layout slot) in
    slot_sum (length (flat_map spelling (records_at settings payloads slot))) (length (media_record settings payloads slot).datagram) (length (flat_map spelling columns)) (length (flat_map spelling rows)) (length (payload_at payloads slot)) size
    (three_spelled (media_record settings payloads slot) columns rows)
    (media_length settings payloads slot)
    (one_spelled (column_record settings payloads slot) (columns_ending layout slot) size (one_column columns_law layout slot) (λ base. parity_record_length settings payloads slot Column (columns_before layout slot) (column_shape layout) false base size most))
    (one_spelled (row_record settings payloads slot) (rows_ending layout slot) size (one_row rows_law layout slot) (λ base. parity_record_length settings payloads slot Row (rows_before layout slot) (row_shape layout) true base size most))

-- What is sent for the first slots.
first_slots : ColumnsAreTheLayouts → RowsAreTheLayouts → (settings : Settings) (payloads : List (List ℕ)) (size k : ℕ) → ((s : ℕ) → length (payload_at payloads s) ≤ size) → k ≤ length payloads
    → length (flat_map spelling (flat_map (records_at settings payloads) (range_with_len 0 k))) ≤ 104 * k + total_length (take k payloads) + 2 * (size * k)
first_slots columns_law rows_law settings payloads size zero most within = omega arith
first_slots columns_law rows_law settings payloads size (suc k) most within =
    let records = records_at settings payloads in
    let before : List Record = flat_map records (range_with_len 0 k) in
    let split : length (flat_map spelling (flat_map records (range_with_len 0 (suc k)))) ≡ length (flat_map spelling before) + length (flat_map spelling (records k)) =
    ap (λ (l : List Record). length (flat_map spelling l)) (flat_more records k)
    ∙ ap (λ (l : List ℕ). length l) (flat_map-append spelling before (records k))
    ∙ length-append (flat_map spelling before) (flat_map spelling (records k)) in
    next_slot (length (flat_map spelling (flat_map records (range_with_len 0 (suc k))))) (length (flat_map spelling before)) (length (flat_map spelling (records k)))
    (total_length (take k payloads)) (total_length (take (suc k) payloads)) (length (payload_at payloads k)) size k
    split (first_slots columns_law rows_law settings payloads size k most (omega arith)) (slot_length columns_law rows_law settings payloads size k most) (one_more_payload payloads k (omega arith))

-- All payloads but the last are full.
full_before : (size : ℕ) (payloads : List (List ℕ)) (k : ℕ) → ((slot : ℕ) → slot + 1 < length payloads → length (payload_at payloads slot) ≡ size) → k + 1 ≤ length payloads → total_length (take k payloads) ≡ size * k
full_before size payloads zero full within = omega arith
full_before size payloads (suc k) full within =
    one_more_payload payloads k (omega arith)
    ∙ ap (λ n. n + length (payload_at payloads k)) (full_before size payloads k full (omega arith))
    ∙ ap (λ n. size * k + n) (full k (omega arith))
    ∙ sym (mul-suc size k)

all_slots : ColumnsAreTheLayouts → RowsAreTheLayouts → (settings : Settings) (payloads : List (List ℕ)) → CanEncode settings → ArePayloads settings.packets payloads → total_length payloads ≤ 2 ^ 40
    → length (flat_map spelling (encoding settings payloads)) ≤ 2 ^ 42 - 8
all_slots columns_law rows_law settings payloads can are limit =
    let size : ℕ = 188 * settings.packets in
    let n = length payloads in
    let whole : total_length (take n payloads) ≡ total_length payloads = ap (λ (l : List (List ℕ)). total_length l) (take_all n payloads (omega arith)) in
    let long = first_slots columns_law rows_law settings payloads size n (no_longer settings.packets payloads are) (omega arith) in
    ⊎_elim
    (λ (some : 0 < n).
    let m : ℕ = n - 1 in
    let last = are.whole m (omega arith) in
    let least : 188 ≤ length (payload_at payloads m) = omega (arith, last.1, last.3.whole) in
    let few : 188 ≤ size = omega (arith, can.packets) in
    let follows : suc m ≡ n = omega arith in
    let sum : total_length payloads ≡ total_length (take m payloads) + length (payload_at payloads m) =
    sym whole ∙ ap (λ k. total_length (take k payloads)) (sym follows) ∙ one_more_payload payloads m (omega arith) in
    all_sum (length (flat_map spelling (encoding settings payloads))) (total_length (take n payloads)) (total_length payloads) (total_length (take m payloads)) (length (payload_at payloads m)) size n m
    long whole sum (full_before size payloads m are.full (omega arith)) follows least few (omega (arith, can.packets)) limit)
    (λ (none : n ≤ 0).
    no_sum (length (flat_map spelling (encoding settings payloads))) (total_length (take n payloads)) (total_length payloads) size n long whole none limit)
    (cases_lt 0 n)

pub traces_are_short : ColumnsAreTheLayouts → RowsAreTheLayouts → (settings : Settings) (payloads : List (List ℕ)) → CanEncode settings → ArePayloads settings.packets payloads → total_length payloads ≤ 2 ^ 40 → length (trace_of (encoding settings payloads)) ≤ 2 ^ 42
traces_are_short columns_law rows_law settings payloads can are limit =
    with_magic (flat_map spelling (encoding settings payloads)) (all_slots columns_law rows_law settings payloads can are limit)
