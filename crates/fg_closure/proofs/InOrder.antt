-- The lines of a desk in the order of admission.
use Rattle.std.proofs.Common.{◌≡◌, ◌≢◌, ◌⊎◌, ◌+◌, ◌<◌, ◌≤◌, ◌&&◌, ℕ, zero, suc, Bool, true, false, T, List, [], ◌∷◌, ◌++◌, map, take, length, get_or, add-one, Option, Some, None, Ordering, Equal, Greater, inl, inr, refl, sym, ap, subst, ◌∙◌, ⊎_elim, arith, swap}
use Rattle.std.proofs.lemmas.Cmp.{by_ranked}
use Rattle.std.proofs.lemmas.Bool.{cases_eq}
use Rattle.std.proofs.lemmas.Option.{none-some, same_Some}
use Rattle.std.proofs.lemmas.List.Edits.{swapped_from_swap, length-swap}
use Rattle.std.proofs.lemmas.List.Elements.{Contains-get_or, filter_map-append}
use Rattle.std.proofs.lemmas.List.Sorted.{IsPermutation-keeps, IsPermutation-sym, Contains-permutation}
use Rattle.std.proofs.Math.Seq.{take-suc}
use Rattle.std.specs.List.{Contains, filter_map}
use Rattle.std.specs.List.Sorted.{IsPermutation, IsNonDecreasingBy}
use Rattle.std.specs.Ordering.{nat_cmp, is_lt}
use Rattle.std.specs.Cmp.{ranks}
use Rattle.std.specs.FinMap.{get, entries, entries_sorted}
use Rattle.std.specs.FinMap.Entries.{is_sorted, below_all}
use Rattle.fg_shape.specs.declared.Shape.{Shape}
use Rattle.fg_peel.proofs.Lists.{Contains-here, Contains-there, Contains-cases, Contains-nil, Contains-map, Contains-from_map}
use Rattle.fg_peel.proofs.Maps.{get_of_entry, entry_of_get}
use Rattle.fg_playout.specs.State.{State, Live}
use Rattle.fg_closure.specs.declared.search.LineSlots.{LineSlots}
use Rattle.fg_closure.specs.declared.closure.Closure.{Closure}
use Rattle.fg_closure.specs.Flags.{IsLineAt, rule_at}
use Rattle.fg_closure.specs.Found.{IsFoundOf}
use Rattle.fg_closure.specs.Holes.{rule_of, rules_of}

-- The serial numbers rise.
abbrev pub Rises : List LineSlots → Type 0
Rises [] = Unit {0}
Rises (x ∷ xs) = ((y : LineSlots) → Contains xs y → x.serial < y.serial) × Rises xs

-- Such lists of the same lines are the same.
pub same_rising : (xs ys : List LineSlots) → Rises xs → Rises ys → ((x : LineSlots) → Contains xs x → Contains ys x)
    → ((x : LineSlots) → Contains ys x → Contains xs x) → xs ≡ ys
same_rising [] [] rise rise' to from = refl
same_rising [] (y ∷ ys) rise rise' to from = absurd (Contains-nil y (from y (Contains-here y ys)))
same_rising (x ∷ xs) [] rise rise' to from = absurd (Contains-nil x (to x (Contains-here x xs)))
same_rising (x ∷ xs) (y ∷ ys) rise rise' to from =
    let head : x ≡ y = ⊎_elim
    (λ same. same)
    (λ later. ⊎_elim
    (λ same. sym same)
    (λ later'. absurd (let above = rise'.0 x later in let below = rise.0 y later' in omega arith))
    (Contains-cases x xs y (from y (Contains-here y ys))))
    (Contains-cases y ys x (to x (Contains-here x xs))) in
    let serials : x.serial ≡ y.serial = ap (λ (l : LineSlots). l.serial) head in
    let tail : xs ≡ ys = same_rising xs ys rise.1 rise'.1
    (λ z c. ⊎_elim
    (λ same. absurd (let above = rise.0 z c in let serial = ap (λ (l : LineSlots). l.serial) same in omega (arith, above, serial, serials)))
    (λ there. there)
    (Contains-cases y ys z (to z (Contains-there x xs z c))))
    (λ z c. ⊎_elim
    (λ same. absurd (let above = rise'.0 z c in let serial = ap (λ (l : LineSlots). l.serial) same in omega (arith, above, serial, serials)))
    (λ there. there)
    (Contains-cases x xs z (from z (Contains-there y ys z c)))) in
    cc

-- No two lines of a list have one serial number.
abbrev pub IsDistinct : List LineSlots → Type 0
IsDistinct xs =
    (i j : ℕ) (d : LineSlots) → i < length xs → j < length xs → (get_or xs i d).serial ≡ (get_or xs j d).serial → i ≡ j

-- If so, and if they don't fall, they rise.
pub rises : (xs : List LineSlots) → IsNonDecreasingBy (λ line. line.serial) xs → IsDistinct xs → Rises xs
rises [] up distinct = tt
rises (x ∷ xs) up distinct = (
  λ y c. (
      let at : (get_or xs c.0 y).serial ≡ y.serial = ap (λ (l : LineSlots). l.serial) c.2 in
      let order : x.serial ≤ (get_or xs c.0 y).serial = up 0 (suc c.0) y (omega arith) (omega (arith, c.1)) in
      let differ : x.serial ≢ (get_or xs c.0 y).serial =
      λ same. (let zero_is : 0 ≡ suc c.0 = distinct 0 (suc c.0) y (omega arith) (omega (arith, c.1)) same in omega arith) in
      omega (arith, at, order, differ)
      ),
  rises xs (λ i j d first second. up (suc i) (suc j) d (omega (arith, first)) (omega (arith, second)))
      (λ i j d first second same. (let sucs : suc i ≡ suc j = distinct (suc i) (suc j) d (omega (arith, first)) (omega (arith, second)) same in omega arith)),
)

-- Where an element comes to by a swap.
record IsMoved (i j a n : ℕ) : Type 0 where
  is : ((a ≡ i) × (n ≡ j)) ⊎ (((a ≡ j) × (n ≡ i)) ⊎ ((a ≢ i) × (a ≢ j) × (n ≡ a)))

moved_apart : (i j a b n m : ℕ) → IsMoved i j a n → IsMoved i j b m → n ≡ m → a ≡ b
moved_apart i j a b n m one other same = ⊎_elim
    (λ p. ⊎_elim (λ q. omega (arith, p.0, q.0)) (λ q. ⊎_elim (λ r. omega (arith, p.0, p.1, r.0, r.1, same)) (λ r. absurd (r.1 (omega (arith, p.1, r.2, same)))) q) other.is)
    (λ p. ⊎_elim
    (λ s. ⊎_elim (λ q. omega (arith, s.0, s.1, q.0, q.1, same)) (λ q. ⊎_elim (λ r. omega (arith, s.0, r.0)) (λ r. absurd (r.0 (omega (arith, s.1, r.2, same)))) q) other.is)
    (λ s. ⊎_elim (λ q. absurd (s.1 (omega (arith, s.2, q.1, same)))) (λ q. ⊎_elim (λ r. absurd (s.0 (omega (arith, s.2, r.1, same)))) (λ r. omega (arith, s.2, r.2, same)) q) other.is)
    p)
    one.is

moved_from : (xs : List LineSlots) (i j a : ℕ) (d : LineSlots) → i < length xs → j < length xs → a < length xs
    → (n : ℕ) × (n < length xs) × (get_or (swap xs i j) a d ≡ get_or xs n d) × IsMoved i j a n
moved_from xs i j a d first second within =
    let swapped = swapped_from_swap xs (swap xs i j) i j d first second refl in
    ⊎_elim
    (λ same. (j, second, ap (λ k. get_or (swap xs i j) k d) same ∙ swapped.0, record { is = inl (same, refl) }))
    (λ other. ⊎_elim
    (λ same. (i, first, ap (λ k. get_or (swap xs i j) k d) same ∙ swapped.1, record { is = inr (inl (same, refl)) }))
    (λ third. (a, within, swapped.2 a other third, record { is = inr (inr (other, third, refl)) }))
    (cases_eq a j))
    (cases_eq a i)

distinct_swap : (xs : List LineSlots) (i j : ℕ) → i < length xs → j < length xs → IsDistinct xs → IsDistinct (swap xs i j)
distinct_swap xs i j first second distinct a b d within within' same =
    let long = length-swap xs i j in
    let one = moved_from xs i j a d first second (omega (arith, within, long)) in
    let other = moved_from xs i j b d first second (omega (arith, within', long)) in
    let serials : (get_or xs one.0 d).serial ≡ (get_or xs other.0 d).serial =
    sym (ap (λ (l : LineSlots). l.serial) one.2) ∙ same ∙ ap (λ (l : LineSlots). l.serial) other.2 in
    moved_apart i j a b one.0 other.0 one.3 other.3 (distinct one.0 other.0 d one.1 other.1 serials)

pub distinct_moved : (xs ys : List LineSlots) → IsPermutation xs ys → IsDistinct xs → IsDistinct ys
distinct_moved xs ys moves distinct =
    IsPermutation-keeps xs IsDistinct distinct (λ l i j first second. distinct_swap l i j first second) ys moves

-- The lines of a table.
abbrev pub lines_in : List (Option LineSlots) → List LineSlots
lines_in table = filter_map (λ line. line) table

pub placed_of : (table : List (Option LineSlots)) (line : LineSlots) → Contains (lines_in table) line → (place : ℕ) × (get_or table place None ≡ Some line)
placed_of [] line c = absurd (Contains-nil line c)
placed_of (None ∷ table) line c = let rest = placed_of table line c in (suc rest.0, rest.1)
placed_of (Some first ∷ table) line c = ⊎_elim
    (λ here. (0, ap (λ (l : LineSlots). Some l) (sym here)))
    (λ there. let rest = placed_of table line there in (suc rest.0, rest.1))
    (Contains-cases first (lines_in table) line c)

pub listed_of : (table : List (Option LineSlots)) (line : LineSlots) (place : ℕ) → get_or table place None ≡ Some line → Contains (lines_in table) line
listed_of [] line place is = absurd (none-some line is)
listed_of (None ∷ table) line zero is = absurd (none-some line is)
listed_of (None ∷ table) line (suc place) is = listed_of table line place is
listed_of (Some first ∷ table) line zero is =
    subst (λ (l : LineSlots). Contains (first ∷ lines_in table) l) (same_Some first line is) (Contains-here first (lines_in table))
listed_of (Some first ∷ table) line (suc place) is = Contains-there first (lines_in table) line (listed_of table line place is)

-- No two places of it have lines of one serial number.
abbrev pub IsApart : List (Option LineSlots) → Type 0
IsApart table =
    (p q : ℕ) (one other : LineSlots) → get_or table p None ≡ Some one → get_or table q None ≡ Some other → one.serial ≡ other.serial → p ≡ q

apart_rest : (first : Option LineSlots) (table : List (Option LineSlots)) → IsApart (first ∷ table) → IsApart table
apart_rest first table apart p q one other is is' same = let sucs : suc p ≡ suc q = apart (suc p) (suc q) one other is is' same in omega arith

beside : (line : LineSlots) (table : List (Option LineSlots)) (k : ℕ) (d : LineSlots) → IsApart (Some line ∷ table) → k < length (lines_in table)
    → line.serial ≢ (get_or (lines_in table) k d).serial
beside line table k d apart within same =
    let at = placed_of table (get_or (lines_in table) k d) (Contains-get_or (lines_in table) k d within) in
    let zero_is : 0 ≡ suc at.0 = apart 0 (suc at.0) line (get_or (lines_in table) k d) refl at.1 same in
    omega arith

distinct_more : (line : LineSlots) (table : List (Option LineSlots)) → IsApart (Some line ∷ table) → IsDistinct (lines_in table)
    → IsDistinct (line ∷ lines_in table)
distinct_more line table apart rest zero zero d first second same = refl
distinct_more line table apart rest zero (suc j) d first second same = absurd (beside line table j d apart (omega (arith, second)) same)
distinct_more line table apart rest (suc i) zero d first second same = absurd (beside line table i d apart (omega (arith, first)) (sym same))
distinct_more line table apart rest (suc i) (suc j) d first second same = ap suc (rest i j d (omega (arith, first)) (omega (arith, second)) same)

pub distinct_lines : (table : List (Option LineSlots)) → IsApart table → IsDistinct (lines_in table)
distinct_lines [] apart = λ i j d first second same. absurd (omega (arith, first))
distinct_lines (None ∷ table) apart = distinct_lines table (apart_rest None table apart)
distinct_lines (Some line ∷ table) apart = distinct_more line table apart (distinct_lines table (apart_rest (Some line) table apart))

-- One more place of a table.
pub lines_more : (table : List (Option LineSlots)) (i : ℕ) (read : Option LineSlots) → i < length table → get_or table i None ≡ read
    → lines_in (take (i + 1) table) ≡ lines_in (take i table) ++ lines_in (read ∷ [])
lines_more table i read within is =
    ap (λ n. lines_in (take n table)) (add-one i) ∙ ap lines_in (take-suc table i None within)
    ∙ filter_map-append (λ line. line) (take i table) (get_or table i None ∷ [])
    ∙ ap (λ (r : Option LineSlots). lines_in (take i table) ++ lines_in (r ∷ [])) is

-- The line of an entry of a desk's equations.
abbrev pub line_of : ℕ × Live → LineSlots
line_of entry = record {
  serial = entry.0;
  base = entry.1.equation.base;
  shape = record { offset = entry.1.equation.offset; na = entry.1.equation.count };
}

both_true : (a b : Bool) → T (a && b) → T a × T b
both_true true b h = (tt, h)
both_true false b h = absurd h

less : (x y : ℕ) → T (is_lt (nat_cmp x y)) → x < y
less x y h =
    let other : (o : Ordering) → nat_cmp x y ≡ o → T (is_lt o) = λ o is. subst (λ (r : Ordering). T (is_lt r)) is h in
    by_ranked (x < y) (x ≡ y) (y < x) (nat_cmp x y) (ranks x y) (λ is low. low) (λ is same. absurd (other Equal is)) (λ is high. absurd (other Greater is))

below_each : (x : ℕ) (es : List (ℕ × Live)) → T (below_all nat_cmp x es) → (e : ℕ × Live) → Contains es e → x < e.0
below_each x [] below e c = absurd (Contains-nil e c)
below_each x (first ∷ es) below e c =
    let both = both_true (is_lt (nat_cmp x first.0)) (below_all nat_cmp x es) below in
    ⊎_elim
    (λ here. (let low = less x first.0 both.0 in let same = ap (λ (p : ℕ × Live). p.0) here in omega arith))
    (λ there. below_each x es both.1 e there)
    (Contains-cases first es e c)

entries_rise : (es : List (ℕ × Live)) → T (is_sorted nat_cmp es) → Rises (map line_of es)
entries_rise [] sorted = tt
entries_rise (first ∷ es) sorted =
    let both = both_true (below_all nat_cmp first.0 es) (is_sorted nat_cmp es) sorted in (
      λ y c. (
          let from = Contains-from_map line_of es y c in
          let low = below_each first.0 es both.0 from.0 from.1 in
          let same : from.0.0 ≡ y.serial = ap (λ (l : LineSlots). l.serial) from.2 in
          omega (arith, low, same)
          ),
      entries_rise es both.1,
    )

rules_are : (es : List (ℕ × Live)) → map rule_at (map line_of es) ≡ map rule_of (map (λ (entry : ℕ × Live). entry.1.equation) es)
rules_are [] = refl
rules_are (first ∷ es) = ap (λ (rest : List (ℕ × Shape)). rule_of first.1.equation ∷ rest) (rules_are es)

module _ (desk : State) (closure : Closure) (is : IsFoundOf desk closure) where
  table_apart : IsApart closure.lines.items
  table_apart p q one other is_one is_other same =
      let at = (is.lines p one).0 is_one in
      let at' = (is.lines q other).0 is_other in
      let live : at.live ≡ at'.live =
      same_Some at.live at'.live (sym at.listed ∙ ap (λ s. get desk.equations s) same ∙ at'.listed) in
      sym at.placed ∙ ap (λ (l : Live). l.place) live ∙ at'.placed

  entry_line : (line : LineSlots) → Contains (lines_in closure.lines.items) line → Contains (map line_of (entries desk.equations)) line
  entry_line line c =
      let placed = placed_of closure.lines.items line c in
      let at = (is.lines placed.0 line).0 placed.1 in
      let base : at.live.equation.base ≡ line.base = sym at.base_is in
      let offset : at.live.equation.offset ≡ line.shape.offset = sym at.offset_is in
      let count : at.live.equation.count ≡ line.shape.na = sym at.count_is in
      let same : line_of (line.serial, at.live) ≡ line =
      λ i. record { serial = line.serial; base = base i; shape = record { offset = offset i; na = count i } } in
      subst (λ (l : LineSlots). Contains (map line_of (entries desk.equations)) l) same
      (Contains-map line_of (entries desk.equations) (line.serial, at.live) (entry_of_get desk.equations line.serial at.live at.listed))

  line_entry : (line : LineSlots) → Contains (map line_of (entries desk.equations)) line → Contains (lines_in closure.lines.items) line
  line_entry line c =
      let from = Contains-from_map line_of (entries desk.equations) line c in
      let at : IsLineAt desk from.0.1.place (line_of from.0) = record {
        live = from.0.1;
        listed = get_of_entry desk.equations from.0 from.1;
        placed = refl;
        base_is = refl;
        offset_is = refl;
        count_is = refl;
      } in
      subst (λ (l : LineSlots). Contains (lines_in closure.lines.items) l) from.2
      (listed_of closure.lines.items (line_of from.0) from.0.1.place ((is.lines from.0.1.place (line_of from.0)).1 at))

  -- Its lines, sorted, are those of the desk's equations in the order of admission.
  pub sorted_lines : (lines sorted : List LineSlots) → lines ≡ lines_in closure.lines.items → IsPermutation lines sorted
      → IsNonDecreasingBy (λ line. line.serial) sorted → map rule_at sorted ≡ rules_of desk
  sorted_lines lines sorted all moves up =
      let distinct : IsDistinct lines = subst IsDistinct (sym all) (distinct_lines closure.lines.items table_apart) in
      let rising = rises sorted up (distinct_moved lines sorted moves distinct) in
      let same : sorted ≡ map line_of (entries desk.equations) = same_rising sorted (map line_of (entries desk.equations)) rising
      (entries_rise (entries desk.equations) (entries_sorted desk.equations))
      (λ line c. entry_line line (subst (λ (xs : List LineSlots). Contains xs line) all (Contains-permutation sorted lines line (IsPermutation-sym lines sorted moves) c)))
      (λ line c. Contains-permutation lines sorted line moves (subst (λ (xs : List LineSlots). Contains xs line) (sym all) (line_entry line c))) in
      ap (λ (xs : List LineSlots). map rule_at xs) same ∙ rules_are (entries desk.equations)
