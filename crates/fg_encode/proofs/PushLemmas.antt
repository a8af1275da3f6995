-- A payload more for an encoder.
use Rattle.std.proofs.Common.{◌≡◌, ℕ, suc, ◌+◌, ◌-◌, ◌*◌, ◌<◌, ◌≤◌, ◌%◌, ◌^◌, Bool, true, false, List, [], ◌∷◌, ◌++◌, length, map, get_or, replicate, refl, sym, ap, ⊎_elim, ◌∙◌, arith, lit<, length-append}
use Rattle.std.specs.List.{sum_by}
use Rattle.std.proofs.lemmas.Bool.{cases_lt}
use Rattle.std.proofs.lemmas.Nat.{mod-mul-add, xor_lt}
use Rattle.std.proofs.lemmas.List.{get_or-append_right, get_or_past, length-replicate, take_all}
use Rattle.std.proofs.lemmas.List.Sums.{sum_by-cons}
use Rattle.std.proofs.Math.Nat.{mul-le-mul_right}
use Rattle.fg_words.specs.declared.Word.{Word}
use Rattle.fg_words.specs.Word.{word_sum, HasRoom}
use Rattle.fg_shape.specs.declared.Shape.{Shape}
use Rattle.fg_shape.specs.declared.layouts.Layout.{Layout}
use Rattle.fg_shape.specs.declared.encoding.Settings.{Settings}
use Rattle.fg_shape.specs.Layout.{column_base, first_row, ColumnEnds, RowEnds}
use Rattle.fg_shape.specs.Shape.{slots_of, IsShape}
use Rattle.fg_fechead.specs.declared.Parity.{Parity}
use Rattle.fg_fechead.specs.ParityDatagram.{CanBeWritten}
use Rattle.fg_encode.specs.Encoder.{ColumnsAreUnderWay, RowIsUnderWay}
use Rattle.fg_encode.specs.Encoding.{bits_before, column_shape, longest, parity_over, payload_at, row_shape, sequence_of, word_at}
use Rattle.fg_encode.proofs.LaterLemmas.{bits_later, payload_later, word_later}
use Rattle.fg_encode.proofs.SlotLemmas.{longest_first, slots_same}
use Rattle.fg_shape.proofs.LayoutLemmas.{column_last, row_last}
use Rattle.fg_encode.proofs.ZeroLemmas.{zero_at, zeros_everywhere}

-- Payloads of one size.
sum_of_whole : (size : ℕ) (payloads : List (List ℕ)) → ((slot : ℕ) → slot < length payloads → length (payload_at payloads slot) ≡ size) → sum_by (λ payload. length payload) payloads ≡ size * length payloads
sum_of_whole size [] whole = omega arith
sum_of_whole size (p ∷ ps) whole =
    let first = whole 0 (omega arith) in
    let rest = sum_of_whole size ps (λ slot below. whole (suc slot) (omega arith)) in
    omega (arith, sum_by-cons {X = List ℕ} (λ payload. length payload) p ps, first, rest)

pub bits_of_whole : (size : ℕ) (payloads : List (List ℕ)) (payload : List ℕ) → ((slot : ℕ) → slot < length payloads → length (payload_at payloads slot) ≡ size)
    → bits_before (payloads ++ payload ∷ []) (length payloads) ≡ 8 * (size * length payloads)
bits_of_whole size payloads payload whole =
    bits_later payloads (payload ∷ []) (length payloads) (omega arith)
    ∙ ap (λ (l : List (List ℕ)). 8 * sum_by (λ p. length p) l) (take_all (length payloads) payloads (omega arith))
    ∙ ap (λ (n : ℕ). 8 * n) (sum_of_whole size payloads whole)

pub last_payload : (payloads : List (List ℕ)) (payload : List ℕ) → payload_at (payloads ++ payload ∷ []) (length payloads) ≡ payload
last_payload payloads payload =
    let none : length payloads - length payloads ≡ 0 = omega arith in
    get_or-append_right payloads (payload ∷ []) (length payloads) (length payloads) [] refl (omega arith)
    ∙ ap (λ (n : ℕ). get_or (payload ∷ []) n []) none

-- None of the payloads is longer than the size.
pub payloads_at_most : (size : ℕ) (payloads : List (List ℕ)) (payload : List ℕ) → ((slot : ℕ) → slot < length payloads → length (payload_at payloads slot) ≡ size) → length payload ≤ size
    → (slot : ℕ) → length (payload_at (payloads ++ payload ∷ []) slot) ≤ size
payloads_at_most size payloads payload whole most slot = ⊎_elim
    (λ (early : slot < length payloads).
    let here = ap (λ (p : List ℕ). length p) (payload_later payloads (payload ∷ []) slot early) in
    omega (arith, here, whole slot early))
    (λ (late : length payloads ≤ slot). ⊎_elim
    (λ (at : slot < length payloads + 1).
    let same : length payloads ≡ slot = omega arith in
    let here = ap (λ (p : List ℕ). length p) (ap (λ (s : ℕ). payload_at (payloads ++ payload ∷ []) s) (sym same) ∙ last_payload payloads payload) in
    omega (arith, here))
    (λ (past : length payloads + 1 ≤ slot).
    let here = ap (λ (p : List ℕ). length p) (get_or_past (payloads ++ payload ∷ []) slot [] (omega (arith, length-append payloads (payload ∷ [])))) in
    omega (arith, here))
    (cases_lt slot (length payloads + 1)))
    (cases_lt slot (length payloads))

-- A word of a short payload has room, and zeros behind it.
pub word_has_room : (settings : Settings) (payloads : List (List ℕ)) (slot : ℕ) → length (payload_at payloads slot) ≤ 1316 → HasRoom (word_at settings payloads slot)
word_has_room settings payloads slot most =
    let payload = payload_at payloads slot in
    length-append payload (replicate (1316 - length payload) 0) ∙ omega (arith, length-replicate {A = ℕ} (1316 - length payload) 0)

word_is_padded : (settings : Settings) (payloads : List (List ℕ)) (slot size i : ℕ) → length (payload_at payloads slot) ≤ size → size ≤ i → get_or (word_at settings payloads slot).bytes i 0 ≡ 0
word_is_padded settings payloads slot size i most past =
    let payload = payload_at payloads slot in
    get_or-append_right payload (replicate (1316 - length payload) 0) (length payload) i 0 refl (omega arith) ∙ zeros_everywhere (1316 - length payload) (i - length payload)

sum_pt : (words : ℕ → Word) (slots : List ℕ) → ((s : ℕ) → (words s).pt < 2 ^ 7) → (word_sum (map words slots)).pt < 2 ^ 7
sum_pt words [] small = lit< tt
sum_pt words (s ∷ slots) small = xor_lt 7 (words s).pt (word_sum (map words slots)).pt (small s) (sum_pt words slots small)

sum_is_padded : (words : ℕ → Word) (slots : List ℕ) (i : ℕ) → ((s : ℕ) → get_or (words s).bytes i 0 ≡ 0) → get_or (word_sum (map words slots)).bytes i 0 ≡ 0
sum_is_padded words [] i zeros = zeros_everywhere 1316 i
sum_is_padded words (s ∷ slots) i zeros = zero_at (words s).bytes (word_sum (map words slots)).bytes i (zeros s) (sum_is_padded words slots i zeros)

-- The sum of such words can be written.
pub sum_can_be_written : (settings : Settings) (payloads : List (List ℕ)) (size base : ℕ) (shape : Shape) (row : Bool) (slots : List ℕ) → IsShape shape.offset shape.na → 1 ≤ size → size ≤ 1316
    → ((slot : ℕ) → length (payload_at payloads slot) ≤ size) → CanBeWritten (parity_over settings (word_at settings payloads) base shape row slots) size
sum_can_be_written settings payloads size base shape row slots read some limit most =
    record {
      shape = read;
      pt_size = sum_pt (word_at settings payloads) slots (λ s. lit< tt);
      some_payload = some;
      payload_limit = limit;
      padded = λ i past. sum_is_padded (word_at settings payloads) slots i (λ s. word_is_padded settings payloads s size i (most s) past);
    }

pub column_shape_is_read : (layout : Layout) → IsShape layout.l layout.d
column_shape_is_read layout =
    let all = layout.accepted in
    let rows : (layout.d - 1) + 1 ≡ layout.d = omega (arith, all.height) in
    let product : ((layout.d - 1) + 1) * layout.l ≡ layout.d * layout.l = ap (λ (n : ℕ). n * layout.l) rows in
    record {
      some_offset = all.columns.0;
      offset_limit = all.columns.1;
      some_slot = omega (arith, all.height);
      slot_limit = all.height.1;
      span = omega (arith, product, all.product, all.columns);
    }

pub row_shape_is_read : (layout : Layout) → IsShape 1 layout.l
row_shape_is_read layout =
    let all = layout.accepted in
    record { some_offset = omega arith; offset_limit = omega arith; some_slot = all.columns.0; slot_limit = all.columns.1; span = omega (arith, all.columns) }

-- What is under way doesn't depend on later payloads.
pub columns_later : (settings : Settings) (payloads more : List (List ℕ)) (columns : List Parity) → ColumnsAreUnderWay settings (word_at settings payloads) (length payloads) columns
    → ColumnsAreUnderWay settings (word_at settings (payloads ++ more)) (length payloads) columns
columns_later settings payloads more columns before m c k d cl kd below reach =
    let layout = settings.layout in
    let base = column_base layout m c in
    before m c k d cl kd below reach
    ∙ ap (λ (ws : List Word). (let p : Parity = record { base = sequence_of settings base; shape = column_shape layout; row = false; word = word_sum ws } in p))
    (sym (slots_same (word_at settings (payloads ++ more)) (word_at settings payloads) base layout.l (k + 1)
    (λ j jk. let near : j ≤ k = omega arith in word_later settings payloads more (base + j * layout.l) (omega (arith, mul-le-mul_right layout.l near)))))

pub row_later : (settings : Settings) (payloads more : List (List ℕ)) (row : Parity) → RowIsUnderWay settings (word_at settings payloads) (length payloads) row
    → RowIsUnderWay settings (word_at settings (payloads ++ more)) (length payloads) row
row_later settings payloads more row before q k kl reach =
    let layout = settings.layout in
    let base = q * layout.l in
    before q k kl reach
    ∙ ap (λ (ws : List Word). (let p : Parity = record { base = sequence_of settings base; shape = row_shape layout; row = true; word = word_sum ws } in p))
    (sym (slots_same (word_at settings (payloads ++ more)) (word_at settings payloads) base 1 (k + 1)
    (λ j jk. word_later settings payloads more (base + j * 1) (omega arith))))

-- A column that ends is whole, and so is a row.
pub column_is_whole : (settings : Settings) (words : ℕ → Word) (n base : ℕ) (columns : List Parity) (d : Parity) → ColumnEnds settings.layout n base → ColumnsAreUnderWay settings words (n + 1) columns
    → get_or columns (n % settings.layout.l) d ≡ parity_over settings words base (column_shape settings.layout) false (slots_of base settings.layout.l settings.layout.d)
column_is_whole settings words n base columns d e under =
    let layout = settings.layout in
    let l = layout.l in
    let m = e.matrix in
    let c = e.column in
    let all = layout.accepted in
    let k : ℕ = layout.d - 1 in
    let first = e.first in
    let end = column_last layout n base e in
    let there : column_base layout m c + k * l ≡ n = omega (arith, end, first) in
    let whole : k + 1 ≡ layout.d = omega (arith, all.height) in
    let split : n ≡ (m * layout.d + first_row layout c + k) * l + c = omega (arith, there) in
    let place : n % l ≡ c = ap (λ (x : ℕ). x % l) split ∙ mod-mul-add (m * layout.d + first_row layout c + k) l c e.is_column in
    ap (λ (x : ℕ). get_or columns x d) place
    ∙ under m c k d e.is_column (omega arith) (omega arith) (omega (arith, all.columns))
    ∙ ap (λ (x : ℕ). parity_over settings words x (column_shape layout) false (slots_of x l (k + 1))) (sym first)
    ∙ ap (λ (x : ℕ). parity_over settings words base (column_shape layout) false (slots_of base l x)) whole

pub row_is_whole : (settings : Settings) (words : ℕ → Word) (n base : ℕ) (row : Parity) → RowEnds settings.layout n base → RowIsUnderWay settings words (n + 1) row
    → row ≡ parity_over settings words base (row_shape settings.layout) true (slots_of base 1 settings.layout.l)
row_is_whole settings words n base row e under =
    let layout = settings.layout in
    let l = layout.l in
    let all = layout.accepted in
    let q : ℕ = e.matrix * layout.d + e.row in
    let k : ℕ = l - 1 in
    let first : base ≡ q * l = omega (arith, e.first) in
    let end = row_last layout n base e in
    let whole : k + 1 ≡ l = omega (arith, all.columns) in
    under q k (omega (arith, all.columns)) (omega (arith, end, first))
    ∙ ap (λ (x : ℕ). parity_over settings words x (row_shape layout) true (slots_of x 1 (k + 1))) (sym first)
    ∙ ap (λ (x : ℕ). parity_over settings words base (row_shape layout) true (slots_of base 1 x)) whole

-- The longest payload of an equation that begins before the last payload.
pub longest_is_whole : (size base offset na : ℕ) (payloads : List (List ℕ)) (payload : List ℕ) → ((slot : ℕ) → slot < length payloads → length (payload_at payloads slot) ≡ size) → length payload ≤ size
    → 1 ≤ na → base < length payloads → longest (payloads ++ payload ∷ []) (slots_of base offset na) ≡ size
longest_is_whole size base offset na payloads payload whole most some early =
    longest_first (payloads ++ payload ∷ []) size base offset na some (payloads_at_most size payloads payload whole most)
    (ap (λ (p : List ℕ). length p) (payload_later payloads (payload ∷ []) base early) ∙ whole base early)
