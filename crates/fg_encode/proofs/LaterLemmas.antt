-- What comes later changes nothing that was sent before.
use Rattle.std.proofs.Common.{◌≡◌, ℕ, ◌+◌, ◌-◌, ◌*◌, ◌<◌, ◌≤◌, ◌%◌, ◌^◌, eqb, Bool, true, false, if◌then◌else◌, List, [], ◌∷◌, ◌++◌, length, map, sym, ap, ⊎_elim, ◌∙◌, arith, length-append}
use Rattle.std.specs.List.{filter, flat_map, range_with_len, sum_by}
use Rattle.std.proofs.lemmas.Bool.{eqb-true}
use Rattle.std.proofs.lemmas.List.{take-append-le, get_or_append_left}
use Rattle.std.proofs.Math.Nat.{mul-le-mul_right}
use Rattle.fg_words.specs.declared.Word.{Word}
use Rattle.fg_words.specs.Word.{transport_word, word_sum}
use Rattle.fg_shape.specs.declared.kind.Kind.{Kind}
use Rattle.fg_shape.specs.declared.kind.Kind.TheVariants.{Column, Row}
use Rattle.fg_shape.specs.Kind.{port_of}
use Rattle.fg_shape.specs.declared.Shape.{Shape}
use Rattle.fg_shape.specs.declared.encoding.Settings.{Settings}
use Rattle.fg_shape.specs.Shape.{slots_of}
use Rattle.fg_rtp.specs.MediaDatagram.{media_bytes}
use Rattle.fg_fechead.specs.declared.Parity.{Parity}
use Rattle.fg_fechead.specs.ParityDatagram.{parity_bytes}
use Rattle.fg_trace.specs.Trace.{Record}
use Rattle.fg_encode.specs.Ends.{column_bases, columns_before, columns_ending, row_bases, rows_before, rows_ending}
use Rattle.fg_encode.specs.Encoding.{bits_before, column_record, column_shape, encoding, longest, media_record, parity_at, parity_record, payload_at, records_at, row_record, row_shape, sequence_of, time_of, timestamp_of, word_at}
use Rattle.fg_encode.proofs.ListLemmas.{bool_cases, flat_more_at, flat_range_same, map_filter_same}
use Rattle.fg_encode.proofs.SlotLemmas.{longest_same, slots_same}

pub bits_later : (payloads more : List (List ℕ)) (slot : ℕ) → slot ≤ length payloads → bits_before (payloads ++ more) slot ≡ bits_before payloads slot
bits_later payloads more slot within =
    ap (λ (l : List (List ℕ)). 8 * sum_by (λ payload. length payload) l) (take-append-le slot payloads more within)

pub payload_later : (payloads more : List (List ℕ)) (slot : ℕ) → slot < length payloads → payload_at (payloads ++ more) slot ≡ payload_at payloads slot
payload_later payloads more slot within = get_or_append_left payloads more [] slot within

pub word_later : (settings : Settings) (payloads more : List (List ℕ)) (slot : ℕ) → slot < length payloads → word_at settings (payloads ++ more) slot ≡ word_at settings payloads slot
word_later settings payloads more slot within =
    ap (λ (b : ℕ). transport_word (timestamp_of settings b) (payload_at (payloads ++ more) slot)) (bits_later payloads more slot (omega arith))
    ∙ ap (λ (p : List ℕ). transport_word (timestamp_of settings (bits_before payloads slot)) p) (payload_later payloads more slot within)

-- An equation whose slots are all there.
pub parity_later : (settings : Settings) (payloads more : List (List ℕ)) (base : ℕ) (shape : Shape) (row : Bool) → ((j : ℕ) → j < shape.na → base + j * shape.offset < length payloads) →
    parity_at settings (payloads ++ more) base shape row ≡ parity_at settings payloads base shape row
parity_later settings payloads more base shape row within =
    ap (λ (l : List Word). (let p : Parity = record { base = sequence_of settings base; shape = shape; row = row; word = word_sum l } in p))
    (slots_same (word_at settings (payloads ++ more)) (word_at settings payloads) base shape.offset shape.na (λ j jn. word_later settings payloads more (base + j * shape.offset) (within j jn)))

parity_record_later : (settings : Settings) (payloads more : List (List ℕ)) (slot : ℕ) (kind : Kind) (number : ℕ) (shape : Shape) (row : Bool) (base : ℕ) → slot < length payloads → ((j : ℕ) → j < shape.na → base + j * shape.offset < length payloads) →
    parity_record settings (payloads ++ more) slot kind number shape row base ≡ parity_record settings payloads slot kind number shape row base
parity_record_later settings payloads more slot kind number shape row base within all =
    let made : ℕ → Parity → ℕ → Record = λ b p n. record { time = time_of settings b; port = port_of settings.port kind; datagram = parity_bytes (number % 2 ^ 16) (timestamp_of settings b) p n } in
    ap (λ (b : ℕ). made b (parity_at settings (payloads ++ more) base shape row) (longest (payloads ++ more) (slots_of base shape.offset shape.na))) (bits_later payloads more slot (omega arith))
    ∙ ap (λ (p : Parity). made (bits_before payloads slot) p (longest (payloads ++ more) (slots_of base shape.offset shape.na))) (parity_later settings payloads more base shape row all)
    ∙ ap (λ (n : ℕ). made (bits_before payloads slot) (parity_at settings payloads base shape row) n)
    (longest_same (payloads ++ more) payloads base shape.offset shape.na (λ j jn. payload_later payloads more (base + j * shape.offset) (all j jn)))

columns_later : (settings : Settings) (payloads more : List (List ℕ)) (slot : ℕ) → slot < length payloads →
    map (column_record settings (payloads ++ more) slot) (columns_ending settings.layout slot) ≡ map (column_record settings payloads slot) (columns_ending settings.layout slot)
columns_later settings payloads more slot within =
    let layout = settings.layout in
    map_filter_same (column_record settings (payloads ++ more) slot) (column_record settings payloads slot) (λ base. eqb (base + (layout.d - 1) * layout.l) slot) (column_bases layout (slot + 1))
    (λ base passes.
    let end = eqb-true (base + (layout.d - 1) * layout.l) slot passes in
    parity_record_later settings payloads more slot Column (columns_before layout slot) (column_shape layout) false base within
    (λ j jd. let near : j ≤ layout.d - 1 = omega arith in omega (arith, mul-le-mul_right layout.l near)))

rows_later : (settings : Settings) (payloads more : List (List ℕ)) (slot : ℕ) → slot < length payloads →
    map (row_record settings (payloads ++ more) slot) (rows_ending settings.layout slot) ≡ map (row_record settings payloads slot) (rows_ending settings.layout slot)
rows_later settings payloads more slot within =
    let layout = settings.layout in
    let q : ℕ → Bool = λ base. eqb (base + (layout.l - 1)) slot in
    let ends : List ℕ = filter q (row_bases layout (slot + 1)) in
    let f = row_record settings (payloads ++ more) slot in
    let g = row_record settings payloads slot in
    let sent : map f ends ≡ map g ends = map_filter_same f g q (row_bases layout (slot + 1)) (λ base passes.
    let end = eqb-true (base + (layout.l - 1)) slot passes in
    parity_record_later settings payloads more slot Row (rows_before layout slot) (row_shape layout) true base within (λ j jd. omega arith)) in
    ⊎_elim
    (λ (on : layout.rows ≡ true).
    ap (λ (b : Bool). map f (if b then ends else [])) on ∙ sent ∙ ap (λ (b : Bool). map g (if b then ends else [])) (sym on))
    (λ (off : layout.rows ≡ false).
    ap (λ (b : Bool). map f (if b then ends else [])) off ∙ ap (λ (b : Bool). map g (if b then ends else [])) (sym off))
    (bool_cases layout.rows)

media_later : (settings : Settings) (payloads more : List (List ℕ)) (slot : ℕ) → slot < length payloads → media_record settings (payloads ++ more) slot ≡ media_record settings payloads slot
media_later settings payloads more slot within =
    let made : ℕ → Word → Record = λ b w. record { time = time_of settings b; port = settings.port; datagram = media_bytes (sequence_of settings slot) settings.ssrc w } in
    ap (λ (b : ℕ). made b (word_at settings (payloads ++ more) slot)) (bits_later payloads more slot (omega arith))
    ∙ ap (λ (w : Word). made (bits_before payloads slot) w) (word_later settings payloads more slot within)

pub records_later : (settings : Settings) (payloads more : List (List ℕ)) (slot : ℕ) → slot < length payloads → records_at settings (payloads ++ more) slot ≡ records_at settings payloads slot
records_later settings payloads more slot within =
    let layout = settings.layout in
    ap (λ (m : Record). m ∷ map (column_record settings (payloads ++ more) slot) (columns_ending layout slot) ++ map (row_record settings (payloads ++ more) slot) (rows_ending layout slot)) (media_later settings payloads more slot within)
    ∙ ap (λ (l : List Record). media_record settings payloads slot ∷ l ++ map (row_record settings (payloads ++ more) slot) (rows_ending layout slot)) (columns_later settings payloads more slot within)
    ∙ ap (λ (l : List Record). media_record settings payloads slot ∷ map (column_record settings payloads slot) (columns_ending layout slot) ++ l) (rows_later settings payloads more slot within)

pub one_more_adds : (settings : Settings) (payloads : List (List ℕ)) (payload : List ℕ) →
    encoding settings (payloads ++ payload ∷ []) ≡ encoding settings payloads ++ records_at settings (payloads ++ payload ∷ []) (length payloads)
one_more_adds settings payloads payload =
    let all : List (List ℕ) = payloads ++ payload ∷ [] in
    let long : length all ≡ length payloads + 1 = length-append payloads (payload ∷ []) in
    ap (λ (n : ℕ). flat_map (records_at settings all) (range_with_len 0 n)) long
    ∙ flat_more_at (records_at settings all) (length payloads)
    ∙ ap (λ (l : List Record). l ++ records_at settings all (length payloads))
    (flat_range_same (records_at settings all) (records_at settings payloads) 0 (length payloads) (λ j low high. records_later settings payloads (payload ∷ []) j (omega arith)))
