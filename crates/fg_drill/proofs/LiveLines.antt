-- How many equations of a layout can be live at once: fewer than there are places. Those that are live end at a slot of a stretch of
-- little more than the depth, and of columns and rows only so many do.
use Rattle.std.proofs.Common.{◌≡◌, ◌≢◌, ◌⊎◌, ◌+◌, ◌-◌, ◌*◌, ◌/◌, ◌%◌, ◌<◌, ◌≤◌, ◌&&◌, ℕ, Bool, true, false, cond, T, List, [], ◌∷◌, length, Ordering, Equal, Greater, Some, inl, inr, refl, sym, ap, subst, ◌∙◌, ⊎_elim, arith}
use Rattle.std.proofs.lemmas.Cmp.{by_ranked}
use Rattle.std.proofs.lemmas.Bool.{cases_eq, cases_lt}
use Rattle.std.proofs.lemmas.Nat.{div-add-mod', mod_below, mul-add-lt, same_from_place}
use Rattle.std.proofs.Math.Nat.{mul-le-mul_left, mul-le-mul_right}
use Rattle.std.specs.Bool.{⊤}
use Rattle.std.specs.List.{Contains}
use Rattle.std.specs.Ordering.{nat_cmp, is_lt}
use Rattle.std.specs.Cmp.{ranks}
use Rattle.std.specs.FinMap.{get, entries, len, len-entries, entries_sorted}
use Rattle.std.specs.FinMap.Entries.{is_sorted, below_all}
use Rattle.fg_shape.specs.declared.layouts.Layout.{Layout}
use Rattle.fg_shape.specs.Layout.{column_base, first_row, row_base}
use Rattle.fg_shape.specs.Shape.{slots_of}
use Rattle.fg_shape.proofs.ShapeLemmas.{length-slots_of, slot_of_number}
use Rattle.fg_peel.specs.Equation.{Equation}
use Rattle.fg_peel.specs.Live.{Live, HasSlots, last_slot, live_limit}
use Rattle.fg_peel.proofs.Lists.{Contains-here, Contains-there, Contains-cases, Contains-nil}
use Rattle.fg_peel.proofs.Maps.{get_of_entry}
use Rattle.fg_playout.specs.State.{State}
use Rattle.fg_playout.specs.Admission.{HaveSameSlots}
use Rattle.fg_playout.specs.Facts.{Holds}

-- Each of a list has a number of its own

contains_or_not : (xs : List ℕ) (x : ℕ) → Contains xs x ⊎ (Contains xs x → ⊥)
contains_or_not [] x = inr (Contains-nil x)
contains_or_not (y ∷ xs) x = ⊎_elim
    (λ here. inl (subst (λ (z : ℕ). Contains (y ∷ xs) z) (sym here) (Contains-here y xs)))
    (λ beside. ⊎_elim
    (λ there. inl (Contains-there y xs x there))
    (λ not. inr (λ c. ⊎_elim beside not (Contains-cases y xs x c)))
    (contains_or_not xs x))
    (cases_eq x y)

-- A list without one element: it is shorter, and has the others.
record Without (x : ℕ) (xs : List ℕ) : Type 0 where
  rest : List ℕ
  shorter : length rest + 1 ≡ length xs
  others : (y : ℕ) → Contains xs y → y ≢ x → Contains rest y

without : (x : ℕ) (xs : List ℕ) → Contains xs x → Without x xs
without x [] c = absurd (Contains-nil x c)
without x (y ∷ xs) c = ⊎_elim
    (λ here. record {
      rest = xs;
      shorter = omega arith;
      others = λ z d n. ⊎_elim (λ first. absurd (n (first ∙ sym here))) (λ later. later) (Contains-cases y xs z d);
    })
    (λ there. (let w = without x xs there in
    record {
      rest = y ∷ w.rest;
      shorter = omega (arith, w.shorter);
      others = λ z d n. ⊎_elim
          (λ first. subst (λ (v : ℕ). Contains (y ∷ w.rest) v) (sym first) (Contains-here y w.rest))
          (λ later. Contains-there y w.rest z (w.others z later n))
          (Contains-cases y xs z d);
    }))
    (Contains-cases y xs x c)

-- No two of a list have one number.
abbrev HaveTheirOwn : {X : Type 0} → (X → ℕ → Type 0) → List X → Type 0
HaveTheirOwn R [] = ⊤
HaveTheirOwn {X} R (x ∷ xs) =
    ((y : X) → Contains xs y → (number : ℕ) → R x number → R y number → ⊥) × HaveTheirOwn R xs

-- So they are no more than the numbers.
no_more :
    {X : Type 0} (R : X → ℕ → Type 0) (xs : List X) (numbers : List ℕ) → HaveTheirOwn R xs
    → ((x : X) → Contains xs x → (number : ℕ) × Contains numbers number × R x number) → length xs ≤ length numbers
no_more R [] numbers own has = omega arith
no_more R (x ∷ xs) numbers own has =
    let first = has x (Contains-here x xs) in
    let w = without first.0 numbers first.1 in
    let shorter = w.shorter in
    let rest = no_more R xs w.rest own.1 (λ y c.
    let other = has y (Contains-there x xs y c) in (
      other.0,
      w.others other.0 other.1 (λ same. own.0 y c first.0 first.2 (subst (R y) same other.2)),
      other.2,
    )) in
    omega (arith, rest, shorter)

-- The entries of a map of numbers have keys of their own

both_true : (a b : Bool) → T (a && b) → T a × T b
both_true true b h = (tt, h)
both_true false b h = absurd h

less : (x y : ℕ) → T (is_lt (nat_cmp x y)) → x < y
less x y h =
    let other : (o : Ordering) → nat_cmp x y ≡ o → T (is_lt o) = λ o is. subst (λ (r : Ordering). T (is_lt r)) is h in
    by_ranked (x < y) (x ≡ y) (y < x) (nat_cmp x y) (ranks x y) (λ is low. low) (λ is same. absurd (other Equal is)) (λ is high. absurd (other Greater is))

below_each :
    {X : Type 0} (key : ℕ) (es : List (ℕ × X)) → T (below_all nat_cmp key es) → (e : ℕ × X) → Contains es e → key < e.0
below_each key [] below e c = absurd (Contains-nil e c)
below_each {X} key (first ∷ es) below e c =
    let both = both_true (is_lt (nat_cmp key first.0)) (below_all nat_cmp key es) below in
    ⊎_elim
    (λ here. subst (λ (x : ℕ × X). key < x.0) (sym here) (less key first.0 both.0))
    (λ there. below_each key es both.1 e there)
    (Contains-cases first es e c)

entries_own :
    {X : Type 0} (R : ℕ × X → ℕ → Type 0) (es : List (ℕ × X)) → T (is_sorted nat_cmp es)
    → ((one other : ℕ × X) (number : ℕ) → Contains es one → Contains es other → one.0 ≢ other.0 → R one number → R other number → ⊥)
    → HaveTheirOwn R es
entries_own R [] sorted apart = tt
entries_own R (e ∷ es) sorted apart =
    let both = both_true (below_all nat_cmp e.0 es) (is_sorted nat_cmp es) sorted in (
      λ y c number.
          (let below = below_each e.0 es both.0 y c in
          let differ : e.0 ≢ y.0 = omega (arith, below) in
          apart e y number (Contains-here e es) (Contains-there e es y c) differ),
      entries_own R es both.1 (λ one other number c d.
          apart one other number (Contains-there e es one c) (Contains-there e es other d)),
    )

-- Numbers

-- Where so many times the first is no more, the second is no more than the third.
pub few_times : (p a b : ℕ) → 0 < p → a * p < (b + 1) * p → a ≤ b
few_times p a b some less = ⊎_elim
    (λ (more : b < a). let much = mul-le-mul_right p more in absurd (omega (arith, much, less)))
    (λ (few : a ≤ b). few)
    (cases_lt b a)

columns_few :
    (l d x c : ℕ) → 4 ≤ d → c < l → x * (l * d) ≤ 998 + 2 * l + l * d → 4 * (x * l + c + 1) ≤ 998 + 10 * l
columns_few l d x c rows within much = ⊎_elim
    (λ (small : x * l + c + 1 < 2 * l). omega (arith, small))
    (λ (large : 2 * l ≤ x * l + c + 1).
    let y : ℕ = x * l + c + 1 - 2 * l in
    let is : y + 2 * l ≡ x * l + c + 1 = omega (arith, large) in
    let all : (y + 2 * l) * d ≡ (x * l + c + 1) * d = ap (λ n. n * d) is in
    let row : c + 1 ≤ l = omega (arith, within) in
    let side : (c + 1) * d ≤ l * d = mul-le-mul_right d row in
    let four : y * 4 ≤ y * d = mul-le-mul_left y rows in
    omega (arith, all, side, four, is, much))
    (cases_lt (x * l + c + 1) (2 * l))

-- A line that ends `reach` past the first slot of its matrix, where matrices have `p` slots each and those that can be live lie
-- within a stretch.
matrices_low :
    (p m reach mark q rest last : ℕ) → 0 < p → reach < 2 * p → q * p + rest ≡ mark + 2 * p - reach → last ≡ m * p + reach
    → mark ≤ last → q ≤ m + 2
matrices_low p m reach mark q rest last some short left at reaches = few_times p q (m + 2) some (omega (arith, left, at, reaches, short, some))

matrices_high :
    (p m reach mark top q rest last much : ℕ) → reach < 2 * p → q * p + rest ≡ mark + 2 * p - reach → rest < p
    → last ≡ m * p + reach → q ≤ m + 2 → last ≤ top → top ≤ mark + 1 + much → (m + 2 - q) * p ≤ much + p
matrices_high p m reach mark top q rest last much short left small at low within near =
    let x : ℕ = m + 2 - q in
    let steps : x + q ≡ m + 2 = omega (arith, low) in
    let product : (x + q) * p ≡ (m + 2) * p = ap (λ n. n * p) steps in
    omega (arith, product, at, within, near, left, small, short)

module _ (layout : Layout) where
  -- An equation is that of a column of the layout,
  pub record IsColumnOf (equation : Equation) : Type 0 where
    pub matrix : ℕ
    pub column : ℕ
    pub within : column < layout.l
    pub slots : HasSlots (column_base layout matrix column) layout.l layout.d equation

  -- or that of a row, and rows are sent.
  pub record IsRowOf (equation : Equation) : Type 0 where
    pub sent : layout.rows ≡ true
    pub matrix : ℕ
    pub row : ℕ
    pub within : row < layout.d
    pub slots : HasSlots (row_base layout matrix row) 1 layout.l equation

  abbrev pub IsLine : Equation → Type 0
  IsLine equation = IsColumnOf equation ⊎ IsRowOf equation

  same_slots :
      (base offset count : ℕ) (one other : Equation) → HasSlots base offset count one → HasSlots base offset count other
      → HaveSameSlots one other
  same_slots base offset count one other is is' = record {
    base_is = is.base_is ∙ sym is'.base_is;
    offset_is = is.offset_is ∙ sym is'.offset_is;
    count_is = is.count_is ∙ sym is'.count_is;
  }

  ends_at : (base offset count : ℕ) (equation : Equation) → HasSlots base offset count equation → last_slot equation ≡ base + (count - 1) * offset
  ends_at base offset count equation is =
      ap (λ (b : ℕ). b + (equation.count - 1) * equation.offset) is.base_is
      ∙ ap (λ (n : ℕ). base + (n - 1) * equation.offset) is.count_is
      ∙ ap (λ (o : ℕ). base + (count - 1) * o) is.offset_is

  row_or_first : (staggered : Bool) (c d : ℕ) → 0 < d → cond staggered (c % d) 0 < d
  row_or_first true c d some = mod_below c d some
  row_or_first false c d some = some

  first_row-below : (c : ℕ) → first_row layout c < layout.d
  first_row-below c = row_or_first layout.staggered c layout.d (omega (arith, layout.accepted.height))

  module _ (mark top : ℕ) (near : top ≤ mark + 999 + 2 * layout.l) (columns rows : ℕ) where
    -- How far past its matrix's first slot a column ends.
    abbrev reach_of : ℕ → ℕ
    reach_of c = c + first_row layout c * layout.l + (layout.d - 1) * layout.l

    -- The first matrix, two counted before it, whose column can be live.
    abbrev first_of : ℕ → ℕ
    first_of c = (mark + 2 * (layout.l * layout.d) - reach_of c) / (layout.l * layout.d)

    record HasColumnNumber (equation : Equation) (number : ℕ) : Type 0 where
      is : IsColumnOf equation
      reaches : first_of is.column ≤ is.matrix + 2
      number_is : number ≡ (is.matrix + 2 - first_of is.column) * layout.l + is.column
      below : number < columns

    record HasRowNumber (equation : Equation) (number : ℕ) : Type 0 where
      is : IsRowOf equation
      reaches : mark / layout.l ≤ is.matrix * layout.d + is.row
      number_is : number ≡ columns + (is.matrix * layout.d + is.row - mark / layout.l)

    abbrev HasNumber : Equation → ℕ → Type 0
    HasNumber equation number = HasColumnNumber equation number ⊎ HasRowNumber equation number

    -- Two equations of one number have the same slots.

    same_columns :
        (one other : Equation) (number : ℕ) → HasColumnNumber one number → HasColumnNumber other number → HaveSameSlots one other
    same_columns one other number a b =
        let place = same_from_place (a.is.matrix + 2 - first_of a.is.column) a.is.column
        (b.is.matrix + 2 - first_of b.is.column) b.is.column layout.l a.is.within b.is.within
        (sym a.number_is ∙ b.number_is) in
        let first : first_of a.is.column ≡ first_of b.is.column = ap first_of place.1 in
        let matrix : a.is.matrix ≡ b.is.matrix = omega (arith, place.0, first, a.reaches, b.reaches) in
        let base : column_base layout b.is.matrix b.is.column ≡ column_base layout a.is.matrix a.is.column =
        ap (λ (m : ℕ). column_base layout m b.is.column) (sym matrix)
        ∙ ap (λ (c : ℕ). column_base layout a.is.matrix c) (sym place.1) in
        same_slots (column_base layout a.is.matrix a.is.column) layout.l layout.d one other a.is.slots
        (subst (λ (base : ℕ). HasSlots base layout.l layout.d other) base b.is.slots)

    same_rows : (one other : Equation) (number : ℕ) → HasRowNumber one number → HasRowNumber other number → HaveSameSlots one other
    same_rows one other number a b =
        let places : a.is.matrix * layout.d + a.is.row ≡ b.is.matrix * layout.d + b.is.row =
        omega (arith, a.number_is, b.number_is, a.reaches, b.reaches) in
        let place = same_from_place a.is.matrix a.is.row b.is.matrix b.is.row layout.d a.is.within b.is.within places in
        let base : row_base layout b.is.matrix b.is.row ≡ row_base layout a.is.matrix a.is.row =
        ap (λ (m : ℕ). row_base layout m b.is.row) (sym place.0)
        ∙ ap (λ (r : ℕ). row_base layout a.is.matrix r) (sym place.1) in
        same_slots (row_base layout a.is.matrix a.is.row) 1 layout.l one other a.is.slots
        (subst (λ (base : ℕ). HasSlots base 1 layout.l other) base b.is.slots)

    same_numbers : (one other : Equation) (number : ℕ) → HasNumber one number → HasNumber other number → HaveSameSlots one other
    same_numbers one other number (inl a) (inl b) = same_columns one other number a b
    same_numbers one other number (inl a) (inr b) =
        let below = a.below in let is = b.number_is in absurd (omega (arith, below, is))
    same_numbers one other number (inr a) (inl b) =
        let below = b.below in let is = a.number_is in absurd (omega (arith, below, is))
    same_numbers one other number (inr a) (inr b) = same_rows one other number a b

    -- Each live equation has a number.
    module _
        (few_columns : (number : ℕ) → 4 * (number + 1) ≤ 998 + 10 * layout.l → number < columns)
        (few_rows : (number : ℕ) → layout.rows ≡ true → number * layout.l ≤ 999 + 2 * layout.l → number < rows) where
      column_number :
          (equation : Equation) → IsColumnOf equation → mark ≤ last_slot equation → last_slot equation ≤ top
          → (number : ℕ) × (number < columns + rows) × HasNumber equation number
      column_number equation is reaches within =
          let l : ℕ = layout.l in
          let d : ℕ = layout.d in
          let p : ℕ = l * d in
          let c : ℕ = is.column in
          let f : ℕ = first_row layout c in
          let q : ℕ = first_of c in
          let some_columns = layout.accepted.columns.0 in
          let some_rows = layout.accepted.height.0 in
          let four : l * 4 ≤ l * d = mul-le-mul_left l some_rows in
          let some : 0 < p = omega (arith, four, some_columns) in
          let left = div-add-mod' (mark + 2 * p - reach_of c) p in
          let rest : (mark + 2 * p - reach_of c) % p < p = mod_below (mark + 2 * p - reach_of c) p some in
          let place : f * l + c < l * d = mul-add-lt f l c d (first_row-below c) is.within in
          let end = ends_at (column_base layout is.matrix c) l d equation is.slots in
          let fewer : (d - 1) * l ≤ d * l = mul-le-mul_right l (omega arith) in
          let reach : reach_of c < 2 * p = omega (arith, place, fewer) in
          let at : last_slot equation ≡ is.matrix * p + reach_of c = omega (arith, end) in
          let low : q ≤ is.matrix + 2 = matrices_low p is.matrix (reach_of c) mark q ((mark + 2 * p - reach_of c) % p)
          (last_slot equation) some reach left at reaches in
          let x : ℕ = is.matrix + 2 - q in
          let high : x * p ≤ 998 + 2 * l + p = matrices_high p is.matrix (reach_of c) mark top q
          ((mark + 2 * p - reach_of c) % p) (last_slot equation) (998 + 2 * l) reach left rest at low within
          (omega (arith, near)) in
          let below = few_columns (x * l + c) (columns_few l d x c some_rows is.within high) in (
            x * l + c,
            omega (arith, below),
            inl (record { is = is; reaches = low; number_is = refl; below = below }),
          )

      row_number :
          (equation : Equation) → IsRowOf equation → mark ≤ last_slot equation → last_slot equation ≤ top
          → (number : ℕ) × (number < columns + rows) × HasNumber equation number
      row_number equation is reaches within =
          let l : ℕ = layout.l in
          let k : ℕ = is.matrix * layout.d + is.row in
          let q : ℕ = mark / l in
          let some : 0 < l = omega (arith, layout.accepted.columns) in
          let left = div-add-mod' mark l in
          let rest : mark % l < l = mod_below mark l some in
          let end = ends_at (row_base layout is.matrix is.row) 1 l equation is.slots in
          let at : last_slot equation + 1 ≡ k * l + l = omega (arith, end, some) in
          let low : q ≤ k = few_times l q k some (omega (arith, at, reaches, left)) in
          let y : ℕ = k - q in
          let steps : y + q ≡ k = omega (arith, low) in
          let product : (y + q) * l ≡ k * l = ap (λ n. n * l) steps in
          let below = few_rows y is.sent (omega (arith, product, at, within, near, left, rest)) in (
            columns + y,
            omega (arith, below),
            inr (record { is = is; reaches = low; number_is = refl }),
          )

      line_number :
          (equation : Equation) → IsLine equation → mark ≤ last_slot equation → last_slot equation ≤ top
          → (number : ℕ) × (number < columns + rows) × HasNumber equation number
      line_number equation (inl is) reaches within = column_number equation is reaches within
      line_number equation (inr is) reaches within = row_number equation is reaches within

      entries_few :
          (desk : State) → Holds desk → desk.mark ≡ mark
          → ((serial : ℕ) (live : Live) → get desk.equations serial ≡ Some live → IsLine live.equation × (last_slot live.equation ≤ top))
          → len desk.equations ≤ columns + rows
      entries_few desk holds same lines =
          let es : List (ℕ × Live) = entries desk.equations in
          let numbers : List ℕ = slots_of 0 1 (columns + rows) in
          let own = entries_own (λ (e : ℕ × Live) (number : ℕ). HasNumber e.1.equation number) es (entries_sorted desk.equations)
          (λ one other number c d differ has has'.
          (holds.apart one.0 other.0 one.1 other.1 (get_of_entry desk.equations one c) (get_of_entry desk.equations other d)
          differ).slots (same_numbers one.1.equation other.1.equation number has has')) in
          let few = no_more (λ (e : ℕ × Live) (number : ℕ). HasNumber e.1.equation number) es numbers own
          (λ e c.
          let is = get_of_entry desk.equations e c in
          let line = lines e.0 e.1 is in
          let reaches = (holds.live e.0 e.1 is).reaches in
          let n = line_number e.1.equation line.0 (omega (arith, reaches, same)) line.1 in
          let at : 0 + n.0 * 1 ≡ n.0 = omega arith in (
            n.0,
            subst (λ (k : ℕ). Contains numbers k) at (slot_of_number 0 1 (columns + rows) n.0 n.1),
            n.2,
          )) in
          omega (arith, few, len-entries desk.equations, length-slots_of 0 1 (columns + rows))

  -- There is always room for one more equation, where the live ones are of the layout and none ends past this slot.
  pub never_crowded :
      (desk : State) (top : ℕ) → Holds desk → top ≤ desk.mark + 999 + 2 * layout.l
      → ((serial : ℕ) (live : Live) → get desk.equations serial ≡ Some live → IsLine live.equation × (last_slot live.equation ≤ top))
      → len desk.equations < live_limit
  never_crowded desk top holds near lines =
      let most = layout.accepted.columns.1 in
      ⊎_elim
      (λ (four : layout.l ≡ 4).
      let few = entries_few desk.mark top near 259 252
      (λ number few. omega (arith, few, four))
      (λ number sent few.
      let product : number * layout.l ≡ number * 4 = ap (λ (l : ℕ). number * l) four in
      omega (arith, few, four, product))
      desk holds refl lines in
      omega (arith, few))
      (λ (other : layout.l ≢ 4).
      let few = entries_few desk.mark top near 299 208
      (λ number few. omega (arith, few, most))
      (λ number sent few.
      let wide : 4 ≤ layout.l = layout.accepted.rows_need_four sent in
      let five : 5 ≤ layout.l = omega (arith, wide, other) in
      let product : number * 5 ≤ number * layout.l = mul-le-mul_left number five in
      omega (arith, few, product, most))
      desk holds refl lines in
      omega (arith, few))
      (cases_eq layout.l 4)
