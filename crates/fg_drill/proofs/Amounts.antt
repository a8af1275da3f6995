-- How many datagrams arrive.
use Rattle.std.proofs.Common.{◌≡◌, ℕ, zero, suc, ◌+◌, ◌-◌, ◌*◌, ◌<◌, ◌≤◌, ◌==◌, Bool, true, false, cond, List, [], ◌∷◌, length, map, refl, sym, ap, ◌∙◌, arith, length-append}
use Rattle.std.specs.List.{All, AllZip, filter, flat_map, range_with_len, sum_by}
use Rattle.std.proofs.lemmas.Bool.{eqb-true}
use Rattle.std.proofs.lemmas.List.{length-map}
use Rattle.std.proofs.lemmas.List.Elements.{All-nil, All-cons, All-head, All-append, All-filter, filter_passes}
use Rattle.std.proofs.lemmas.List.Sums.{sum_by-cons, length-filter, count_by-le-length}
use Rattle.std.proofs.lemmas.Slice.Zip.{AllZip-long}
use Rattle.fg_shape.specs.declared.layouts.Layout.{Layout}
use Rattle.fg_shape.specs.declared.encoding.Settings.{Settings}
use Rattle.fg_shape.specs.Layout.{column_base, row_base, ColumnEnds, RowEnds}
use Rattle.fg_shape.specs.Laws.{NumbersItsSlots}
use Rattle.fg_trace.specs.Trace.{Record}
use Rattle.fg_playout.specs.Run.{Arrival}
use Rattle.fg_encode.specs.Ends.{column_bases, columns_ending, row_bases, rows_ending}
use Rattle.fg_encode.specs.Encoding.{column_record, encoding, payload_at, records_at, row_record}
use Rattle.fg_encode.specs.Laws.{ColumnsAreTheLayouts, RowsAreTheLayouts}
use Rattle.fg_results.specs.Flow.{Arrives, is_of, records_of}
use Rattle.fg_thin.specs.Thinned.{thinned, without}

-- Lists made over a range

pub each_made : (P : ℕ → Type 0) (f : ℕ → ℕ) (a n : ℕ) → ((j : ℕ) → j < a + n → P (f j)) → All P (map f (range_with_len a n))
each_made P f a zero each = All-nil P
each_made P f a (suc n) each =
    All-cons P (f a) (map f (range_with_len (a + 1) n)) (each a (omega arith))
    (each_made P f (a + 1) n (λ j below. each j (omega arith)))

pub each_joined : (P : ℕ → Type 0) (h : ℕ → List ℕ) (xs : List ℕ) → ((x : ℕ) → All P (h x)) → All P (flat_map h xs)
each_joined P h [] each = All-nil P
each_joined P h (x ∷ xs) each = All-append P (h x) (flat_map h xs) (each x) (each_joined P h xs each)

-- One column at most ends at a slot, and one row.

module _ (numbers : NumbersItsSlots) (layout : Layout) where
  -- Where a column begins.
  record IsColumn (base : ℕ) : Type 0 where
    pub matrix : ℕ
    pub column : ℕ
    pub within : column < layout.l
    pub is : base ≡ column_base layout matrix column

  one_column :
      ColumnsAreTheLayouts → (slot : ℕ) (bases : List ℕ) → bases ≡ columns_ending layout slot → All IsColumn bases
      → All (λ base. ((base + (layout.d - 1) * layout.l) == slot) ≡ true) bases → length bases ≤ 1
  one_column law slot [] same columns passes = omega arith
  one_column law slot (base ∷ bases) same columns passes =
      let here = All-head IsColumn base bases columns in
      let last : base + (layout.d - 1) * layout.l ≡ slot =
      eqb-true (base + (layout.d - 1) * layout.l) slot (All-head (λ base. ((base + (layout.d - 1) * layout.l) == slot) ≡ true) base bases passes) in
      let ends : ColumnEnds layout slot base = record {
        matrix = here.matrix;
        column = here.column;
        is_column = here.within;
        first = here.is;
        last = numbers base layout.l layout.d (layout.d - 1) (omega (arith, layout.accepted.height)) ∙ last;
      } in
      let one = ap (λ (xs : List ℕ). length xs) (same ∙ (law layout slot).0 base ends) in
      omega (arith, one)

  few_columns : ColumnsAreTheLayouts → (slot : ℕ) → length (columns_ending layout slot) ≤ 1
  few_columns law slot =
      one_column law slot (columns_ending layout slot) refl
      (All-filter (λ base. (base + (layout.d - 1) * layout.l) == slot) IsColumn (column_bases layout (slot + 1))
      (each_joined IsColumn (λ m. map (column_base layout m) (range_with_len 0 layout.l)) (range_with_len 0 (slot + 1))
      (λ m. each_made IsColumn (column_base layout m) 0 layout.l (λ c below. record { matrix = m; column = c; within = omega arith; is = refl }))))
      (filter_passes (λ base. (base + (layout.d - 1) * layout.l) == slot) (column_bases layout (slot + 1)))

  -- And where a row does.
  record IsRow (base : ℕ) : Type 0 where
    pub matrix : ℕ
    pub row : ℕ
    pub within : row < layout.d
    pub is : base ≡ row_base layout matrix row

  one_row :
      RowsAreTheLayouts → (slot : ℕ) (bases : List ℕ) → layout.rows ≡ true → bases ≡ rows_ending layout slot → All IsRow bases
      → All (λ base. ((base + (layout.l - 1)) == slot) ≡ true) bases → length bases ≤ 1
  one_row law slot [] sent same rows passes = omega arith
  one_row law slot (base ∷ bases) sent same rows passes =
      let here = All-head IsRow base bases rows in
      let last : base + (layout.l - 1) ≡ slot =
      eqb-true (base + (layout.l - 1)) slot (All-head (λ base. ((base + (layout.l - 1)) == slot) ≡ true) base bases passes) in
      let step : base + (layout.l - 1) * 1 ≡ slot = omega arith in
      let ends : RowEnds layout slot base = record {
        sent = sent;
        matrix = here.matrix;
        row = here.row;
        is_row = here.within;
        first = here.is;
        last = numbers base 1 layout.l (layout.l - 1) (omega (arith, layout.accepted.columns)) ∙ step;
      } in
      let one = ap (λ (xs : List ℕ). length xs) (same ∙ (law layout slot).0 base ends) in
      omega (arith, one)

  few_rows_sent : RowsAreTheLayouts → (slot : ℕ) (sent : Bool) → layout.rows ≡ sent
      → length (cond sent (filter (λ base. (base + (layout.l - 1)) == slot) (row_bases layout (slot + 1))) []) ≤ 1
  few_rows_sent law slot true sent =
      one_row law slot (filter (λ base. (base + (layout.l - 1)) == slot) (row_bases layout (slot + 1))) sent
      (ap (λ (b : Bool). cond b (filter (λ base. (base + (layout.l - 1)) == slot) (row_bases layout (slot + 1))) []) (sym sent))
      (All-filter (λ base. (base + (layout.l - 1)) == slot) IsRow (row_bases layout (slot + 1))
      (each_joined IsRow (λ m. map (row_base layout m) (range_with_len 0 layout.d)) (range_with_len 0 (slot + 1))
      (λ m. each_made IsRow (row_base layout m) 0 layout.d (λ r below. record { matrix = m; row = r; within = omega arith; is = refl }))))
      (filter_passes (λ base. (base + (layout.l - 1)) == slot) (row_bases layout (slot + 1)))
  few_rows_sent law slot false sent = omega arith

  few_rows : RowsAreTheLayouts → (slot : ℕ) → length (rows_ending layout slot) ≤ 1
  few_rows law slot = few_rows_sent law slot layout.rows refl

-- Records

fewer : (b : Bool) (r : Record) (kept : List Record) → length (cond b kept (r ∷ kept)) ≤ length kept + 1
fewer true r kept = omega arith
fewer false r kept = omega arith

without_fewer : (lost : ℕ → Bool) (number : ℕ) (records : List Record) → length (without lost number records) ≤ length records
without_fewer lost number [] = omega arith
without_fewer lost number (r ∷ records) =
    let rest = without_fewer lost (number + 1) records in
    let here = fewer (lost number) r (without lost (number + 1) records) in
    omega arith

module _ (numbers : NumbersItsSlots) (columns_law : ColumnsAreTheLayouts) (rows_law : RowsAreTheLayouts) (settings : Settings) (payloads : List (List ℕ)) where
  three_at_most : (slot : ℕ) → length (records_at settings payloads slot) ≤ 3
  three_at_most slot =
      let columns : List ℕ = columns_ending settings.layout slot in
      let rows : List ℕ = rows_ending settings.layout slot in
      let few = few_columns numbers settings.layout columns_law slot in
      let few' = few_rows numbers settings.layout rows_law slot in
      let both = length-append (map (column_record settings payloads slot) columns) (map (row_record settings payloads slot) rows) in
      let long = length-map columns (column_record settings payloads slot) in
      let long' = length-map rows (row_record settings payloads slot) in
      omega arith

  three_each : (slot n : ℕ) → length (flat_map (records_at settings payloads) (range_with_len slot n)) ≤ 3 * n
  three_each slot zero = omega arith
  three_each slot (suc n) =
      let rest = three_each (slot + 1) n in
      let here = three_at_most slot in
      let both = length-append (records_at settings payloads slot) (flat_map (records_at settings payloads) (range_with_len (slot + 1) n)) in
      omega arith

  pub few_arrive :
      (lost : ℕ → Bool) (arrivals : List Arrival)
      → AllZip (Arrives settings.port) (records_of settings.port (thinned settings lost payloads)) arrivals
      → length arrivals ≤ 3 * length payloads
  few_arrive lost arrivals arrive =
      let records : List Record = thinned settings lost payloads in
      let same = AllZip-long (Arrives settings.port) (records_of settings.port records) arrivals arrive in
      let kept = length-filter (is_of settings.port) records in
      let fewer = count_by-le-length (is_of settings.port) records in
      let sent = without_fewer lost 0 (encoding settings payloads) in
      let all = three_each 0 (length payloads) in
      omega arith

-- Bytes

pub packets_count : (payloads : List (List ℕ)) → ((slot : ℕ) → slot < length payloads → 188 ≤ length (payload_at payloads slot))
    → 188 * length payloads ≤ sum_by (λ payload. length payload) payloads
packets_count [] each = omega arith
packets_count (p ∷ payloads) each =
    let first = each 0 (omega arith) in
    let rest = packets_count payloads (λ slot below. each (suc slot) (omega arith)) in
    omega (arith, sum_by-cons {X = List ℕ} (λ payload. length payload) p payloads)
