-- A word more for the parities under way.
use Rattle.std.proofs.Common.{◌≡◌, ◌≢◌, ℕ, zero, suc, ◌+◌, ◌-◌, ◌*◌, ◌/◌, ◌<◌, ◌≤◌, ◌%◌, Bool, true, false, List, length, map, get_or, set, refl, sym, ap, ⊎_elim, ◌∙◌, arith}
use Rattle.std.proofs.Math.Nat.{mul-le-mul_right}
use Rattle.std.proofs.lemmas.Bool.{cases_lt}
use Rattle.std.proofs.lemmas.List.{get_or-set_other}
use Rattle.std.proofs.lemmas.Grind.{get_or-set_at}
use Rattle.std.proofs.lemmas.Nat.{div-add-mod', mod-mul-add, same_from_place}
use Rattle.fg_words.specs.declared.Word.{Word}
use Rattle.fg_words.specs.Word.{word_sum, word_xor, HasRoom}
use Rattle.fg_words.specs.Laws.{SumAppends, XorHasZero}
use Rattle.fg_shape.specs.declared.Shape.{Shape}
use Rattle.fg_shape.specs.declared.layouts.Layout.{Layout}
use Rattle.fg_shape.specs.declared.encoding.Settings.{Settings}
use Rattle.fg_shape.specs.Layout.{column_base, first_row}
use Rattle.fg_shape.specs.Shape.{slots_of}
use Rattle.fg_fechead.specs.declared.Parity.{Parity}
use Rattle.fg_encode.specs.Encoder.{ColumnsAreUnderWay, RowIsUnderWay}
use Rattle.fg_encode.specs.Encoding.{column_shape, parity_over, row_shape, sequence_of}
use Rattle.fg_encode.specs.Lines.{added}
use Rattle.fg_encode.proofs.ListLemmas.{bool_cases}
use Rattle.fg_encode.proofs.SlotLemmas.{sum_more}

-- Two numbers with the same rest are not less than a whole apart.
apart : (a b l r : ℕ) → a * l + r < b * l + r → b * l + r < a * l + r + l → ⊥
apart a b l r less near = ⊎_elim
    (λ (lt : a < b). let next : a + 1 ≤ b = omega arith in omega (arith, mul-le-mul_right l next))
    (λ (le : b ≤ a). omega (arith, mul-le-mul_right l le))
    (cases_lt a b)

-- A column's later slots begin no column.
begins_once : (layout : Layout) (m c k n d : ℕ) → c < layout.l → d < layout.l → k + 1 < layout.d → column_base layout m c + (k + 1) * layout.l ≡ column_base layout n d → ⊥
begins_once layout m c k n d cl dl within same =
    let l = layout.l in
    let split : (m * layout.d + first_row layout c + k + 1) * l + c ≡ (n * layout.d + first_row layout d) * l + d = omega arith in
    let place = same_from_place (m * layout.d + first_row layout c + k + 1) c (n * layout.d + first_row layout d) d l cl dl split in
    let row : first_row layout d ≡ first_row layout c = ap (λ x. first_row layout x) (sym place.1) in
    let rows : m * layout.d + (k + 1) ≡ n * layout.d + 0 = omega (arith, place.0, row) in
    let wrong = same_from_place m (k + 1) n 0 layout.d within (omega arith) rows in
    omega (arith, wrong.1)

-- The parity of one slot more.
went_on : SumAppends → XorHasZero → (settings : Settings) (words : ℕ → Word) (base n offset k : ℕ) (shape : Shape) (row : Bool) (old : Parity) (begins : Bool) → ((s : ℕ) → HasRoom (words s)) → base + k * offset ≡ n
    → (k ≡ 0 → begins ≡ true) → (0 < k → (begins ≡ false) × (old ≡ parity_over settings words base shape row (slots_of base offset k)))
    → added old begins (record { base = sequence_of settings n; shape = shape; row = row; word = words n }) ≡ parity_over settings words base shape row (slots_of base offset (k + 1))
went_on appends has_zero settings words base n offset zero shape row old begins room there starts goes =
    let here : n ≡ base = omega arith in
    let fresh : Parity = record { base = sequence_of settings n; shape = shape; row = row; word = words n } in
    let made : ℕ → Word → Parity = λ b w. record { base = sequence_of settings b; shape = shape; row = row; word = w } in
    let sum : words n ≡ word_sum (map words (slots_of base offset 1)) =
    ap (λ (s : ℕ). words s) (sym there) ∙ sym (has_zero (words (base + 0 * offset)) (room (base + 0 * offset))) in
    ap (λ (b : Bool). added old b fresh) (starts refl)
    ∙ ap (λ (b : ℕ). made b (words n)) here ∙ ap (λ (w : Word). made base w) sum
went_on appends has_zero settings words base n offset (suc j) shape row old begins room there starts goes =
    let k : ℕ = suc j in
    let both = goes (omega arith) in
    let fresh : Parity = record { base = sequence_of settings n; shape = shape; row = row; word = words n } in
    let made : Word → Parity = λ w. record { base = sequence_of settings base; shape = shape; row = row; word = w } in
    ap (λ (b : Bool). added old b fresh) both.0
    ∙ ap (λ (p : Parity). added p false fresh) both.1
    ∙ ap (λ (s : ℕ). made (word_xor (word_sum (map words (slots_of base offset k))) (words s))) (sym there)
    ∙ ap made (sym (sum_more appends has_zero words base offset k room))

pub column_step : SumAppends → XorHasZero → (settings : Settings) (words : ℕ → Word) (n : ℕ) (old : List Parity) (first : Parity) (begins : Bool) (place : ℕ) (next : Parity) (seq : ℕ) (word : Word)
    → place ≡ n % settings.layout.l → seq ≡ sequence_of settings n → word ≡ words n
    → next ≡ added (get_or old place first) begins (record { base = seq; shape = column_shape settings.layout; row = false; word = word })
    → length old ≡ settings.layout.l
    → (begins ≡ true → (m c : ℕ) × (c < settings.layout.l) × (n ≡ column_base settings.layout m c))
    → (((m c : ℕ) × (c < settings.layout.l) × (n ≡ column_base settings.layout m c)) → begins ≡ true)
    → ((s : ℕ) → HasRoom (words s)) → ColumnsAreUnderWay settings words n old
    → ColumnsAreUnderWay settings words (n + 1) (set old place next)
column_step appends has_zero settings words n old first begins place next seq word at numbered given now width begun begin room before m c k d cl kd below reach =
    let layout = settings.layout in
    let l = layout.l in
    let base = column_base layout m c in
    let q = m * layout.d + first_row layout c + k in
    let last : base + k * l ≡ q * l + c = omega arith in
    let fresh : Parity = record { base = sequence_of settings n; shape = column_shape layout; row = false; word = words n } in
    let whole = div-add-mod' n l in
    ⊎_elim
    (λ (early : base + k * l < n).
    let other : c ≢ place = λ same. apart q (n / l) l c (omega arith) (omega arith) in
    get_or-set_other old place c next d other ∙ before m c k d cl kd early (omega arith))
    (λ (late : n ≤ base + k * l).
    let there : base + k * l ≡ n = omega arith in
    let rest : place ≡ c = at ∙ ap (λ (x : ℕ). x % l) (sym there ∙ last) ∙ mod-mul-add q l c cl in
    get_or-set_at old place c next d (sym rest) (omega arith)
    ∙ now
    ∙ ap (λ (x : ℕ). added (get_or old place first) begins (let p : Parity = record { base = x; shape = column_shape layout; row = false; word = word } in p)) numbered
    ∙ ap (λ (w : Word). added (get_or old place first) begins (let p : Parity = record { base = sequence_of settings n; shape = column_shape layout; row = false; word = w } in p)) given
    ∙ went_on appends has_zero settings words base n l k (column_shape layout) false (get_or old place first) begins room there
    (λ start. begin (m, c, cl, (let here : n ≡ base = omega (arith, ap (λ (x : ℕ). x * l) start) in here)))
    (λ some.
    let j : ℕ = k - 1 in
    let follows : j + 1 ≡ k = omega arith in
    let step : (j + 1) * l ≡ k * l = ap (λ (x : ℕ). x * l) follows in
    let not_begun : begins ≡ false = ⊎_elim
    (λ (t : begins ≡ true). let b = begun t in absurd (begins_once layout m c j b.0 b.1 cl b.2 (omega arith) (let same : base + (j + 1) * l ≡ column_base layout b.0 b.1 = omega (arith, step, there, b.3) in same)))
    (λ (e : begins ≡ false). e) (bool_cases begins) in (
      not_begun,
      ap (λ (x : ℕ). get_or old x first) rest
          ∙ before m c j first cl (omega arith) (omega (arith, step, there)) (omega (arith, step, there))
          ∙ ap (λ (x : ℕ). parity_over settings words base (column_shape layout) false (slots_of base l x)) follows,
    )))
    (cases_lt (base + k * l) n)

pub row_step : SumAppends → XorHasZero → (settings : Settings) (words : ℕ → Word) (n : ℕ) (old : Parity) (begins : Bool) (next : Parity) (seq : ℕ) (word : Word)
    → seq ≡ sequence_of settings n → word ≡ words n
    → next ≡ added old begins (record { base = seq; shape = row_shape settings.layout; row = true; word = word })
    → (begins ≡ true → n % settings.layout.l ≡ 0) → (n % settings.layout.l ≡ 0 → begins ≡ true)
    → ((s : ℕ) → HasRoom (words s)) → RowIsUnderWay settings words n old
    → RowIsUnderWay settings words (n + 1) next
row_step appends has_zero settings words n old begins next seq word numbered given now begun begin room before q k kl reach =
    let layout = settings.layout in
    let l = layout.l in
    let base = q * l in
    let there : base + k * 1 ≡ n = omega arith in
    let rest : n % l ≡ k = ap (λ (x : ℕ). x % l) (let split : n ≡ q * l + k = omega arith in split) ∙ mod-mul-add q l k kl in
    now
    ∙ ap (λ (x : ℕ). added old begins (let p : Parity = record { base = x; shape = row_shape layout; row = true; word = word } in p)) numbered
    ∙ ap (λ (w : Word). added old begins (let p : Parity = record { base = sequence_of settings n; shape = row_shape layout; row = true; word = w } in p)) given
    ∙ went_on appends has_zero settings words base n 1 k (row_shape layout) true old begins room there
    (λ start. begin (rest ∙ start))
    (λ some.
    let j : ℕ = k - 1 in
    let follows : j + 1 ≡ k = omega arith in
    let not_begun : begins ≡ false = ⊎_elim
    (λ (t : begins ≡ true). let b = begun t in absurd (omega arith)) (λ (e : begins ≡ false). e) (bool_cases begins) in (
      not_begun,
      before q j (omega arith) (omega arith)
          ∙ ap (λ (x : ℕ). parity_over settings words base (row_shape layout) true (slots_of base 1 x)) follows,
    ))
