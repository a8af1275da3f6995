-- What an encoder sends for a payload, and where it stands after it.
use Rattle.std.proofs.Common.{◌≡◌, ℕ, ◌+◌, ◌-◌, ◌*◌, ◌<◌, ◌≤◌, ◌%◌, ◌^◌, true, false, IsTrue, List, [], ◌∷◌, ◌++◌, length, map, get_or, sym, ap, subst, ⊎_elim, ◌∙◌, arith, length-append}
use Rattle.std.specs.List.{flat_map, range_with_len}
use Rattle.std.proofs.lemmas.Bool.{cases_lt}
use Rattle.std.proofs.Math.Nat.{mul-le-mul_right}
use Rattle.fg_words.specs.declared.Word.{Word}
use Rattle.fg_words.specs.Word.{transport_word, HasRoom}
use Rattle.fg_shape.specs.declared.kind.Kind.TheVariants.{Column, Row}
use Rattle.fg_shape.specs.Kind.{port_of}
use Rattle.fg_shape.specs.Layout.{ColumnEnds, RowEnds}
use Rattle.fg_shape.specs.Shape.{slots_of}
use Rattle.fg_rtp.specs.MediaDatagram.{media_bytes}
use Rattle.fg_fechead.specs.declared.Parity.{Parity}
use Rattle.fg_fechead.specs.ParityDatagram.{parity_bytes, CanBeWritten}
use Rattle.fg_trace.specs.Trace.{Record}
use Rattle.fg_encode.specs.Ends.{columns_before, columns_ending, rows_before, rows_ending}
use Rattle.fg_encode.specs.Encoder.{ColumnsAreUnderWay, EncoderState, RowIsUnderWay, StandsAfter}
use Rattle.fg_encode.specs.Encoding.{bits_before, column_record, column_shape, longest, media_record, parity_at, payload_at, records_at, row_record, row_shape, sequence_of, time_of, timestamp_of, word_at}
use Rattle.fg_encode.proofs.LaterLemmas.{payload_later}
use Rattle.fg_encode.proofs.ListLemmas.{flat_more_at}
use Rattle.fg_encode.proofs.EndLemmas.{columns_same, rows_same}
use Rattle.fg_encode.proofs.PushLemmas.{bits_of_whole, column_is_whole, column_shape_is_read, columns_later, last_payload, longest_is_whole, payloads_at_most, row_is_whole, row_later, row_shape_is_read, sum_can_be_written, word_has_room}
use Rattle.fg_shape.proofs.LayoutLemmas.{column_last, row_last}

-- The payloads with one more.
abbrev pub with : List (List ℕ) → List ℕ → List (List ℕ)
with payloads payload = payloads ++ payload ∷ []

-- All words have room.
pub words_have_room : (e : EncoderState) (payloads : List (List ℕ)) (payload : List ℕ) → StandsAfter e payloads → length payload ≤ 188 * e.settings.packets → (s : ℕ) → HasRoom (word_at e.settings (with payloads payload) s)
words_have_room e payloads payload stands most s =
    word_has_room e.settings (with payloads payload) s
    (omega (arith, payloads_at_most (188 * e.settings.packets) payloads payload stands.whole most s, stands.fits.packets))

-- The word that was made is the slot's.
pub word_is : (e : EncoderState) (payloads : List (List ℕ)) (payload : List ℕ) (ts slot : ℕ) → StandsAfter e payloads → slot ≡ length payloads
    → ts ≡ timestamp_of e.settings (8 * (188 * e.settings.packets * e.taken)) → word_at e.settings (with payloads payload) slot ≡ transport_word ts payload
word_is e payloads payload ts slot stands here stamped =
    let bits = bits_of_whole (188 * e.settings.packets) payloads payload stands.whole in
    ap (λ (s : ℕ). word_at e.settings (with payloads payload) s) here
    ∙ ap (λ (b : ℕ). transport_word (timestamp_of e.settings b) (payload_at (with payloads payload) (length payloads))) bits
    ∙ ap (λ (n : ℕ). transport_word (timestamp_of e.settings (8 * (188 * e.settings.packets * n))) (payload_at (with payloads payload) (length payloads))) (sym stands.taken)
    ∙ ap (λ (t : ℕ). transport_word t (payload_at (with payloads payload) (length payloads))) (sym stamped)
    ∙ ap (λ (p : List ℕ). transport_word ts p) (last_payload payloads payload)

pub columns_after : (e : EncoderState) (payloads : List (List ℕ)) (payload : List ℕ) (ts slot : ℕ) (word : Word) (columns : List Parity) → StandsAfter e payloads → length payload ≤ 188 * e.settings.packets → slot ≡ length payloads
    → ts ≡ timestamp_of e.settings (8 * (188 * e.settings.packets * e.taken)) → word ≡ transport_word ts payload
    → ((words : ℕ → Word) → words slot ≡ word → ((s : ℕ) → HasRoom (words s)) → ColumnsAreUnderWay e.settings words slot e.columns → ColumnsAreUnderWay e.settings words (slot + 1) columns)
    → ColumnsAreUnderWay e.settings (word_at e.settings (with payloads payload)) (length payloads + 1) columns
columns_after e payloads payload ts slot word columns stands most here stamped made step =
    subst (λ (n : ℕ). ColumnsAreUnderWay e.settings (word_at e.settings (with payloads payload)) (n + 1) columns) here
    (step (word_at e.settings (with payloads payload)) (word_is e payloads payload ts slot stands here stamped ∙ sym made) (words_have_room e payloads payload stands most)
    (subst (λ (n : ℕ). ColumnsAreUnderWay e.settings (word_at e.settings (with payloads payload)) n e.columns) (sym here) (columns_later e.settings payloads (payload ∷ []) e.columns stands.columns)))

pub row_after : (e : EncoderState) (payloads : List (List ℕ)) (payload : List ℕ) (ts slot : ℕ) (word : Word) (row : Parity) → StandsAfter e payloads → length payload ≤ 188 * e.settings.packets → slot ≡ length payloads
    → ts ≡ timestamp_of e.settings (8 * (188 * e.settings.packets * e.taken)) → word ≡ transport_word ts payload
    → (IsTrue e.settings.layout.rows → (words : ℕ → Word) → words slot ≡ word → ((s : ℕ) → HasRoom (words s)) → RowIsUnderWay e.settings words slot e.row → RowIsUnderWay e.settings words (slot + 1) row)
    → IsTrue e.settings.layout.rows → RowIsUnderWay e.settings (word_at e.settings (with payloads payload)) (length payloads + 1) row
row_after e payloads payload ts slot word row stands most here stamped made step sent =
    subst (λ (n : ℕ). RowIsUnderWay e.settings (word_at e.settings (with payloads payload)) (n + 1) row) here
    (step sent (word_at e.settings (with payloads payload)) (word_is e payloads payload ts slot stands here stamped ∙ sym made) (words_have_room e payloads payload stands most)
    (subst (λ (n : ℕ). RowIsUnderWay e.settings (word_at e.settings (with payloads payload)) n e.row) (sym here) (row_later e.settings payloads (payload ∷ []) e.row (stands.row sent))))

-- The parity of a column that ends can be written, and that of a row.
pub column_can : (e : EncoderState) (payloads : List (List ℕ)) (payload : List ℕ) (slot base : ℕ) (columns : List Parity) (d : Parity) → StandsAfter e payloads → length payload ≤ 188 * e.settings.packets → slot ≡ length payloads
    → ColumnsAreUnderWay e.settings (word_at e.settings (with payloads payload)) (length payloads + 1) columns → ColumnEnds e.settings.layout slot base
    → CanBeWritten (get_or columns (slot % e.settings.layout.l) d) (188 * e.settings.packets)
column_can e payloads payload slot base columns d stands most here under ends =
    let all = with payloads payload in
    let size = 188 * e.settings.packets in
    let there = subst (λ (n : ℕ). ColumnsAreUnderWay e.settings (word_at e.settings all) (n + 1) columns) (sym here) under in
    let whole = column_is_whole e.settings (word_at e.settings all) slot base columns d ends there in
    let packets = stands.fits.packets in
    subst (λ (p : Parity). CanBeWritten p size) (sym whole)
    (sum_can_be_written e.settings all size base (column_shape e.settings.layout) false (slots_of base e.settings.layout.l e.settings.layout.d) (column_shape_is_read e.settings.layout) (omega (arith, packets)) (omega (arith, packets))
    (payloads_at_most size payloads payload stands.whole most))

pub row_can : (e : EncoderState) (payloads : List (List ℕ)) (payload : List ℕ) (slot base : ℕ) (row : Parity) → StandsAfter e payloads → length payload ≤ 188 * e.settings.packets → slot ≡ length payloads
    → (IsTrue e.settings.layout.rows → RowIsUnderWay e.settings (word_at e.settings (with payloads payload)) (length payloads + 1) row) → RowEnds e.settings.layout slot base
    → CanBeWritten row (188 * e.settings.packets)
row_can e payloads payload slot base row stands most here under ends =
    let all = with payloads payload in
    let size = 188 * e.settings.packets in
    let there = subst (λ (n : ℕ). RowIsUnderWay e.settings (word_at e.settings all) (n + 1) row) (sym here) (under ends.sent) in
    let whole = row_is_whole e.settings (word_at e.settings all) slot base row ends there in
    let packets = stands.fits.packets in
    subst (λ (p : Parity). CanBeWritten p size) (sym whole)
    (sum_can_be_written e.settings all size base (row_shape e.settings.layout) true (slots_of base 1 e.settings.layout.l) (row_shape_is_read e.settings.layout) (omega (arith, packets)) (omega (arith, packets))
    (payloads_at_most size payloads payload stands.whole most))

-- Records of equal parts.
abbrev sent_record : ℕ → ℕ → ℕ → ℕ → Parity → ℕ → Record
sent_record port time number ts parity size = record { time = time; port = port; datagram = parity_bytes number ts parity size }

same_record : (port t u m n a b : ℕ) (p q : Parity) (x y : ℕ) → t ≡ u → m ≡ n → a ≡ b → p ≡ q → x ≡ y → sent_record port t m a p x ≡ sent_record port u n b q y
same_record port t u m n a b p q x y tu mn ab pq xy =
    ap (λ (z : ℕ). sent_record port z m a p x) tu ∙ ap (λ (z : ℕ). sent_record port u z a p x) mn ∙ ap (λ (z : ℕ). sent_record port u n z p x) ab
    ∙ ap (λ (z : Parity). sent_record port u n b z x) pq ∙ ap (λ (z : ℕ). sent_record port u n b q z) xy

-- What is sent for the columns and for the rows.
columns_sent_are : (e : EncoderState) (payloads : List (List ℕ)) (payload : List ℕ) (time ts : ℕ) (columns : List Parity) (d : Parity) → StandsAfter e payloads → length payload ≤ 188 * e.settings.packets
    → time ≡ time_of e.settings (bits_before (with payloads payload) (length payloads)) → ts ≡ timestamp_of e.settings (bits_before (with payloads payload) (length payloads))
    → ColumnsAreUnderWay e.settings (word_at e.settings (with payloads payload)) (length payloads + 1) columns
    → map (λ base. sent_record (port_of e.settings.port Column) time e.columns_sent ts (get_or columns (length payloads % e.settings.layout.l) d) (188 * e.settings.packets)) (columns_ending e.settings.layout (length payloads))
    ≡ map (column_record e.settings (with payloads payload) (length payloads)) (columns_ending e.settings.layout (length payloads))
columns_sent_are e payloads payload time ts columns d stands most timed stamped under =
    let n = length payloads in
    let all = with payloads payload in
    let layout = e.settings.layout in
    columns_same (λ base. sent_record (port_of e.settings.port Column) time e.columns_sent ts (get_or columns (n % layout.l) d) (188 * e.settings.packets)) (column_record e.settings all n) layout n
    (λ base ends.
    let end = column_last layout n base ends in
    let accepted = layout.accepted in
    let tall : 1 * layout.l ≤ (layout.d - 1) * layout.l = mul-le-mul_right layout.l (let some : 1 ≤ layout.d - 1 = omega (arith, accepted.height) in some) in
    let early : base < n = omega (arith, end, tall, accepted.columns) in
    same_record (port_of e.settings.port Column) time (time_of e.settings (bits_before all n)) e.columns_sent (columns_before layout n % 2 ^ 16) ts (timestamp_of e.settings (bits_before all n))
    (get_or columns (n % layout.l) d) (parity_at e.settings all base (column_shape layout) false) (188 * e.settings.packets) (longest all (slots_of base layout.l layout.d))
    timed stands.columns_sent stamped (column_is_whole e.settings (word_at e.settings all) n base columns d ends under)
    (sym (longest_is_whole (188 * e.settings.packets) base layout.l layout.d payloads payload stands.whole most (omega (arith, accepted.height)) early)))

rows_sent_are : (e : EncoderState) (payloads : List (List ℕ)) (payload : List ℕ) (time ts : ℕ) (row : Parity) → StandsAfter e payloads → length payload ≤ 188 * e.settings.packets
    → time ≡ time_of e.settings (bits_before (with payloads payload) (length payloads)) → ts ≡ timestamp_of e.settings (bits_before (with payloads payload) (length payloads))
    → (IsTrue e.settings.layout.rows → RowIsUnderWay e.settings (word_at e.settings (with payloads payload)) (length payloads + 1) row)
    → map (λ (base : ℕ). sent_record (port_of e.settings.port Row) time e.rows_sent ts row (188 * e.settings.packets)) (rows_ending e.settings.layout (length payloads))
    ≡ map (row_record e.settings (with payloads payload) (length payloads)) (rows_ending e.settings.layout (length payloads))
rows_sent_are e payloads payload time ts row stands most timed stamped under =
    let n = length payloads in
    let all = with payloads payload in
    let layout = e.settings.layout in
    rows_same (λ base. sent_record (port_of e.settings.port Row) time e.rows_sent ts row (188 * e.settings.packets)) (row_record e.settings all n) layout n
    (λ base ends.
    let end = row_last layout n base ends in
    let accepted = layout.accepted in
    let wide : 4 ≤ layout.l = accepted.rows_need_four ends.sent in
    let early : base < n = omega arith in
    same_record (port_of e.settings.port Row) time (time_of e.settings (bits_before all n)) e.rows_sent (rows_before layout n % 2 ^ 16) ts (timestamp_of e.settings (bits_before all n))
    row (parity_at e.settings all base (row_shape layout) true) (188 * e.settings.packets) (longest all (slots_of base 1 layout.l))
    timed stands.rows_sent stamped (row_is_whole e.settings (word_at e.settings all) n base row ends (under ends.sent))
    (sym (longest_is_whole (188 * e.settings.packets) base 1 layout.l payloads payload stands.whole most (omega arith) early)))

-- The batch of a payload.
pub batch_is : (e : EncoderState) (payloads : List (List ℕ)) (payload : List ℕ) (slot time ts seq : ℕ) (word : Word) (columns : List Parity) (row d : Parity) (one two three : List Record)
    → StandsAfter e payloads → length payload ≤ 188 * e.settings.packets → slot ≡ length payloads
    → time ≡ time_of e.settings (8 * (188 * e.settings.packets * e.taken)) → ts ≡ timestamp_of e.settings (8 * (188 * e.settings.packets * e.taken)) → seq ≡ sequence_of e.settings slot
    → word ≡ transport_word ts payload
    → one ≡ (record { time = time; port = e.settings.port; datagram = media_bytes seq e.settings.ssrc word }) ∷ []
    → two ≡ one ++ map (λ base. sent_record (port_of e.settings.port Column) time e.columns_sent ts (get_or columns (slot % e.settings.layout.l) d) (188 * e.settings.packets)) (columns_ending e.settings.layout slot)
    → three ≡ two ++ map (λ (base : ℕ). sent_record (port_of e.settings.port Row) time e.rows_sent ts row (188 * e.settings.packets)) (rows_ending e.settings.layout slot)
    → ColumnsAreUnderWay e.settings (word_at e.settings (with payloads payload)) (length payloads + 1) columns
    → (IsTrue e.settings.layout.rows → RowIsUnderWay e.settings (word_at e.settings (with payloads payload)) (length payloads + 1) row)
    → three ≡ records_at e.settings (with payloads payload) (length payloads)
batch_is e payloads payload slot time ts seq word columns row d one two three stands most here timed stamped numbered made first second third under rowed =
    let n = length payloads in
    let all = with payloads payload in
    let layout = e.settings.layout in
    let before : 8 * (188 * e.settings.packets * e.taken) ≡ bits_before all n =
    ap (λ (k : ℕ). 8 * (188 * e.settings.packets * k)) stands.taken ∙ sym (bits_of_whole (188 * e.settings.packets) payloads payload stands.whole) in
    let clocked : time ≡ time_of e.settings (bits_before all n) = timed ∙ ap (λ (b : ℕ). time_of e.settings b) before in
    let stamp : ts ≡ timestamp_of e.settings (bits_before all n) = stamped ∙ ap (λ (b : ℕ). timestamp_of e.settings b) before in
    let number : seq ≡ sequence_of e.settings n = numbered ∙ ap (λ (s : ℕ). sequence_of e.settings s) here in
    let worded : word ≡ word_at e.settings all n = made ∙ sym (word_is e payloads payload ts slot stands here stamped) ∙ ap (λ (s : ℕ). word_at e.settings all s) here in
    let media : ℕ → ℕ → Word → Record = λ t s w. record { time = t; port = e.settings.port; datagram = media_bytes s e.settings.ssrc w } in
    let head : media time seq word ≡ media_record e.settings all n =
    ap (λ (t : ℕ). media t seq word) clocked ∙ ap (λ (s : ℕ). media (time_of e.settings (bits_before all n)) s word) number
    ∙ ap (λ (w : Word). media (time_of e.settings (bits_before all n)) (sequence_of e.settings n) w) worded in
    let down : ℕ → List Record = λ s. map (λ base. sent_record (port_of e.settings.port Column) time e.columns_sent ts (get_or columns (s % layout.l) d) (188 * e.settings.packets)) (columns_ending layout s) in
    let across : ℕ → List Record = λ s. map (λ (base : ℕ). sent_record (port_of e.settings.port Row) time e.rows_sent ts row (188 * e.settings.packets)) (rows_ending layout s) in
    third
    ∙ ap (λ (l : List Record). l ++ across slot) second
    ∙ ap (λ (l : List Record). (l ++ down slot) ++ across slot) first
    ∙ ap (λ (r : Record). ((r ∷ []) ++ down slot) ++ across slot) head
    ∙ ap (λ (s : ℕ). ((media_record e.settings all n ∷ []) ++ down s) ++ across s) here
    ∙ ap (λ (l : List Record). ((media_record e.settings all n ∷ []) ++ l) ++ across n) (columns_sent_are e payloads payload time ts columns d stands most clocked stamp under)
    ∙ ap (λ (l : List Record). ((media_record e.settings all n ∷ []) ++ map (column_record e.settings all n) (columns_ending layout n)) ++ l) (rows_sent_are e payloads payload time ts row stands most clocked stamp rowed)

-- The count of a stream goes on.
count_more : (f : ℕ → List ℕ) (n slot old new : ℕ) → slot ≡ n → old ≡ length (flat_map f (range_with_len 0 n)) % 2 ^ 16 → new ≡ (old + length (f slot)) % 2 ^ 16 → new ≡ length (flat_map f (range_with_len 0 (n + 1))) % 2 ^ 16
count_more f n slot old new here before now =
    let more = ap (λ (l : List ℕ). length l) (flat_more_at f n) ∙ length-append (flat_map f (range_with_len 0 n)) (f n) in
    let last = ap (λ (s : ℕ). length (f s)) here in
    omega (arith, more, last, before, now)

-- Where the encoder stands after a whole payload.
pub stands_after : (e new : EncoderState) (payloads : List (List ℕ)) (payload : List ℕ) (slot : ℕ) → StandsAfter e payloads → length payload ≡ 188 * e.settings.packets → slot ≡ length payloads
    → new.taken ≡ e.taken + 1 → length new.columns ≡ e.settings.layout.l
    → new.columns_sent ≡ (e.columns_sent + length (columns_ending e.settings.layout slot)) % 2 ^ 16 → new.rows_sent ≡ (e.rows_sent + length (rows_ending e.settings.layout slot)) % 2 ^ 16
    → ColumnsAreUnderWay e.settings (word_at e.settings (with payloads payload)) (length payloads + 1) new.columns
    → (IsTrue e.settings.layout.rows → RowIsUnderWay e.settings (word_at e.settings (with payloads payload)) (length payloads + 1) new.row)
    → StandsAfter (record new { settings = e.settings }) (with payloads payload)
stands_after e new payloads payload slot stands whole here taken width columns rows under rowed =
    let n = length payloads in
    let all = with payloads payload in
    let layout = e.settings.layout in
    let long : length all ≡ n + 1 = length-append payloads (payload ∷ []) in
    record {
      fits = stands.fits;
      taken = taken ∙ ap (λ (k : ℕ). k + 1) stands.taken ∙ sym long;
      whole = λ s below. ⊎_elim
          (λ (early : s < n). ap (λ (p : List ℕ). length p) (payload_later payloads (payload ∷ []) s early) ∙ stands.whole s early)
          (λ (late : n ≤ s). let at : n ≡ s = omega arith in ap (λ (k : ℕ). length (payload_at all k)) (sym at) ∙ ap (λ (p : List ℕ). length p) (last_payload payloads payload) ∙ whole)
          (cases_lt s n);
      width = width;
      columns = subst (λ (k : ℕ). ColumnsAreUnderWay e.settings (word_at e.settings all) k new.columns) (sym long) under;
      row = λ sent. subst (λ (k : ℕ). RowIsUnderWay e.settings (word_at e.settings all) k new.row) (sym long) (rowed sent);
      columns_sent = subst (λ (k : ℕ). new.columns_sent ≡ columns_before layout k % 2 ^ 16) (sym long) (count_more (columns_ending layout) n slot e.columns_sent new.columns_sent here stands.columns_sent columns);
      rows_sent = subst (λ (k : ℕ). new.rows_sent ≡ rows_before layout k % 2 ^ 16) (sym long) (count_more (rows_ending layout) n slot e.rows_sent new.rows_sent here stands.rows_sent rows);
    }
