-- All records of an encoding arrive, and none of its media datagrams is missing.
use Rattle.std.proofs.Common.{◌≡◌, ℕ, zero, suc, ◌+◌, ◌-◌, ◌*◌, ◌<◌, ◌≤◌, ◌==◌, Bool, true, false, cond, List, [], ◌∷◌, ◌++◌, length, map, refl, sym, ap, subst, ◌∙◌, arith, append_assoc}
use Rattle.std.specs.List.{All, AllZip, filter, flat_map, range_with_len}
use Rattle.std.proofs.lemmas.Bool.{eqb-true}
use Rattle.std.proofs.lemmas.List.Elements.{All-head, All-tail, All-weaker, filter_passes}
use Rattle.fg_shape.specs.declared.encoding.Settings.{Settings}
use Rattle.fg_shape.specs.Laws.{LayoutsAreRead}
use Rattle.fg_rtp.specs.Laws.{WrittenIsRead as MediaWrittenIsRead}
use Rattle.fg_fechead.specs.Laws.{WrittenIsRead as ParityWrittenIsRead}
use Rattle.fg_trace.specs.Trace.{Record}
use Rattle.fg_playout.specs.Run.{Arrival}
use Rattle.fg_encode.specs.Ends.{column_bases, columns_ending, row_bases, rows_ending}
use Rattle.fg_encode.specs.Encoding.{column_record, encoding, records_at, row_record}
use Rattle.fg_encode.specs.Payloads.{ArePayloads}
use Rattle.fg_results.specs.Flow.{Arrives, records_of}
use Rattle.fg_results.proofs.ArrivalLemmas.{is_of_its_flow}
use Rattle.fg_thin.specs.Thinned.{without}
use Rattle.fg_drill.specs.Sent.{source_sent}
use Rattle.fg_drill.specs.True.{AreInFull}
use Rattle.fg_drill.proofs.Reading.{column_arrival, column_can_arrive, media_arrival, media_can_arrive, row_arrival, row_can_arrive}

-- Nothing is left out

pub all_kept : (lost : ℕ → Bool) (number : ℕ) (records : List Record) → ((n : ℕ) → lost n ≡ false) → without lost number records ≡ records
all_kept lost number [] none = refl
all_kept lost number (r ∷ records) none =
    ap (λ (b : Bool). cond b (without lost (number + 1) records) (r ∷ without lost (number + 1) records)) (none number)
    ∙ ap (λ (rs : List Record). r ∷ rs) (all_kept lost (number + 1) records none)

-- Records of the flow

-- Records that arrive for the flow are all of the flow.
pub all_are_of :
    (flow : ℕ) (records : List Record) (arrivals : List Arrival) → AllZip (Arrives flow) records arrivals
    → records_of flow records ≡ records
all_are_of flow [] arrivals zip = refl
all_are_of flow (r ∷ records) [] zip = absurd zip
all_are_of flow (r ∷ records) (a ∷ arrivals) zip =
    ap (λ (b : Bool). cond b (r ∷ records_of flow records) (records_of flow records)) (is_of_its_flow flow zip.0.0 r zip.0.1)
    ∙ ap (λ (rs : List Record). r ∷ rs) (all_are_of flow records arrivals zip.1)

-- Lists place by place

pub zip_append :
    {A B : Type 0} (R : A → B → Type 0) (xs xs' : List A) (ys ys' : List B) → AllZip R xs ys → AllZip R xs' ys'
    → AllZip R (xs ++ xs') (ys ++ ys')
zip_append R [] xs' [] ys' one other = other
zip_append R [] xs' (y ∷ ys) ys' one other = absurd one
zip_append R (x ∷ xs) xs' [] ys' one other = absurd one
zip_append R (x ∷ xs) xs' (y ∷ ys) ys' one other = (one.0, zip_append R xs xs' ys ys' one.1 other)

zip_map :
    {A B : Type 0} (R : A → B → Type 0) (f : ℕ → A) (g : ℕ → B) (xs : List ℕ) → All (λ x. R (f x) (g x)) xs
    → AllZip R (map f xs) (map g xs)
zip_map R f g [] all = tt
zip_map R f g (x ∷ xs) all =
    (All-head (λ (x : ℕ). R (f x) (g x)) x xs all, zip_map R f g xs (All-tail (λ (x : ℕ). R (f x) (g x)) x xs all))

module _ (settings : Settings) (payloads : List (List ℕ)) (most : settings.packets ≤ 7) (are : ArePayloads settings.packets payloads) where
  -- What is sent for a slot arrives as this.
  abbrev arrivals_at : ℕ → List Arrival
  arrivals_at slot =
      media_arrival settings payloads most are slot
      ∷ map (column_arrival settings payloads most are slot) (columns_ending settings.layout slot)
      ++ map (row_arrival settings payloads most are slot) (rows_ending settings.layout slot)

  abbrev pub all_arrivals : List Arrival
  all_arrivals = flat_map arrivals_at (range_with_len 0 (length payloads))

  module _ (media_law : MediaWrittenIsRead) (law : ParityWrittenIsRead) (shapes : LayoutsAreRead) where
    pub columns_arrive :
        (slot : ℕ) → slot < length payloads
        → AllZip (Arrives settings.port) (map (column_record settings payloads slot) (columns_ending settings.layout slot))
        (map (column_arrival settings payloads most are slot) (columns_ending settings.layout slot))
    columns_arrive slot below =
        let R : ℕ → Type 0 = λ base. Arrives settings.port (column_record settings payloads slot base)
        (column_arrival settings payloads most are slot base) in
        zip_map (Arrives settings.port) (column_record settings payloads slot) (column_arrival settings payloads most are slot)
        (columns_ending settings.layout slot)
        (All-weaker (λ base. ((base + (settings.layout.d - 1) * settings.layout.l) == slot) ≡ true) R
        (λ base passes.
        let ends : base + (settings.layout.d - 1) * settings.layout.l ≡ slot = eqb-true (base + (settings.layout.d - 1) * settings.layout.l) slot passes in
        column_can_arrive settings payloads most are law slot base (shapes settings.layout).0 (omega arith))
        (columns_ending settings.layout slot)
        (filter_passes (λ base. (base + (settings.layout.d - 1) * settings.layout.l) == slot) (column_bases settings.layout (slot + 1))))

    pub some_rows_arrive :
        (slot : ℕ) (sent : Bool) → slot < length payloads
        → let bases : List ℕ = cond sent (filter (λ base. (base + (settings.layout.l - 1)) == slot) (row_bases settings.layout (slot + 1))) [] in
        AllZip (Arrives settings.port) (map (row_record settings payloads slot) bases)
        (map (row_arrival settings payloads most are slot) bases)
    some_rows_arrive slot true below =
        let R : ℕ → Type 0 = λ base. Arrives settings.port (row_record settings payloads slot base)
        (row_arrival settings payloads most are slot base) in
        let bases : List ℕ = filter (λ base. (base + (settings.layout.l - 1)) == slot) (row_bases settings.layout (slot + 1)) in
        zip_map (Arrives settings.port) (row_record settings payloads slot) (row_arrival settings payloads most are slot) bases
        (All-weaker (λ base. ((base + (settings.layout.l - 1)) == slot) ≡ true) R
        (λ base passes.
        let ends : base + (settings.layout.l - 1) ≡ slot = eqb-true (base + (settings.layout.l - 1)) slot passes in
        row_can_arrive settings payloads most are law slot base (shapes settings.layout).1 (omega arith))
        bases
        (filter_passes (λ base. (base + (settings.layout.l - 1)) == slot) (row_bases settings.layout (slot + 1))))
    some_rows_arrive slot false below = tt

    slot_arrives : (slot : ℕ) → slot < length payloads → AllZip (Arrives settings.port) (records_at settings payloads slot) (arrivals_at slot)
    slot_arrives slot below = (
      media_can_arrive settings payloads most are media_law slot below,
      zip_append (Arrives settings.port)
          (map (column_record settings payloads slot) (columns_ending settings.layout slot))
          (map (row_record settings payloads slot) (rows_ending settings.layout slot))
          (map (column_arrival settings payloads most are slot) (columns_ending settings.layout slot))
          (map (row_arrival settings payloads most are slot) (rows_ending settings.layout slot))
          (columns_arrive slot below) (some_rows_arrive slot settings.layout.rows below),
    )

    slots_arrive :
        (slot n : ℕ) → slot + n ≤ length payloads
        → AllZip (Arrives settings.port) (flat_map (records_at settings payloads) (range_with_len slot n)) (flat_map arrivals_at (range_with_len slot n))
    slots_arrive slot zero within = tt
    slots_arrive slot (suc n) within =
        zip_append (Arrives settings.port) (records_at settings payloads slot)
        (flat_map (records_at settings payloads) (range_with_len (slot + 1) n)) (arrivals_at slot)
        (flat_map arrivals_at (range_with_len (slot + 1) n))
        (slot_arrives slot (omega arith)) (slots_arrive (slot + 1) n (omega arith))

    pub all_arrive : AllZip (Arrives settings.port) (records_of settings.port (encoding settings payloads)) all_arrivals
    all_arrive =
        let zip = slots_arrive 0 (length payloads) (omega arith) in
        subst (λ (rs : List Record). AllZip (Arrives settings.port) rs all_arrivals)
        (sym (all_are_of settings.port (encoding settings payloads) all_arrivals zip)) zip

  -- Parities are passed over.
  columns_passed :
      (slot count next : ℕ) (bases : List ℕ) (rest : List Arrival) → AreInFull settings.seq (source_sent settings) count next rest
      → AreInFull settings.seq (source_sent settings) count next
      (map (column_arrival settings payloads most are slot) bases ++ rest)
  columns_passed slot count next [] rest full = full
  columns_passed slot count next (base ∷ bases) rest full = columns_passed slot count next bases rest full

  rows_passed :
      (slot count next : ℕ) (bases : List ℕ) (rest : List Arrival) → AreInFull settings.seq (source_sent settings) count next rest
      → AreInFull settings.seq (source_sent settings) count next (map (row_arrival settings payloads most are slot) bases ++ rest)
  rows_passed slot count next [] rest full = full
  rows_passed slot count next (base ∷ bases) rest full = rows_passed slot count next bases rest full

  slots_in_full :
      (slot n count : ℕ) → slot + n ≡ count → AreInFull settings.seq (source_sent settings) count slot (flat_map arrivals_at (range_with_len slot n))
  slots_in_full slot zero count same = omega (arith, same)
  slots_in_full slot (suc n) count same =
      let columns : List ℕ = columns_ending settings.layout slot in
      let rows : List ℕ = rows_ending settings.layout slot in
      let rest : List Arrival = flat_map arrivals_at (range_with_len (slot + 1) n) in (
        refl,
        refl,
        subst (λ (more : List Arrival). AreInFull settings.seq (source_sent settings) count (slot + 1) more)
            (sym (append_assoc (map (column_arrival settings payloads most are slot) columns)
            (map (row_arrival settings payloads most are slot) rows) rest))
            (columns_passed slot count (slot + 1) columns (map (row_arrival settings payloads most are slot) rows ++ rest)
            (rows_passed slot count (slot + 1) rows rest (slots_in_full (slot + 1) n count (omega (arith, same))))),
      )

  pub all_in_full : AreInFull settings.seq (source_sent settings) (length payloads) 0 all_arrivals
  all_in_full = slots_in_full 0 (length payloads) (length payloads) (omega arith)
