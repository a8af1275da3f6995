-- What arrives of an encoding that lost media records alone: all parity, and the other media datagrams.
use Rattle.std.proofs.Common.{◌≡◌, ℕ, zero, suc, ◌+◌, ◌-◌, ◌<◌, ◌≤◌, Bool, true, false, cond, List, [], ◌∷◌, ◌++◌, length, map, sym, ap, subst, ◌∙◌, ⊎_elim, arith, add-zero, length-append}
use Rattle.std.proofs.lemmas.List.{length-map}
use Rattle.std.specs.List.{AllZip, flat_map, range_with_len}
use Rattle.std.proofs.lemmas.Bool.{cases_lt}
use Rattle.fg_shape.specs.declared.layouts.Layout.{Layout}
use Rattle.fg_shape.specs.declared.encoding.Settings.{Settings}
use Rattle.fg_shape.specs.Laws.{LayoutsAreRead}
use Rattle.fg_rtp.specs.Laws.{WrittenIsRead as MediaWrittenIsRead}
use Rattle.fg_fechead.specs.Laws.{WrittenIsRead as ParityWrittenIsRead}
use Rattle.fg_trace.specs.Trace.{Record}
use Rattle.fg_playout.specs.Run.{Arrival}
use Rattle.fg_encode.specs.Ends.{columns_ending, rows_ending}
use Rattle.fg_encode.specs.Encoding.{column_record, media_record, records_at, row_record}
use Rattle.fg_encode.specs.Payloads.{ArePayloads}
use Rattle.fg_encode.proofs.ListLemmas.{bool_cases}
use Rattle.fg_results.specs.Flow.{Arrives, records_of}
use Rattle.fg_thin.specs.Thinned.{media_number, thinned, without}
use Rattle.fg_drill.specs.Covered.{is_gone}
use Rattle.fg_drill.proofs.AllSent.{all_are_of, columns_arrive, some_rows_arrive, zip_append}
use Rattle.fg_drill.proofs.Reading.{column_arrival, media_arrival, media_can_arrive, row_arrival}
use Rattle.fg_drill.proofs.Turns.{next_number}

-- Numbers of media records

-- They grow with the slots.
pub later_number : (layout : Layout) (slot n : ℕ) → media_number layout slot + n ≤ media_number layout (slot + n)
later_number layout slot zero = ap_le (add-zero slot)
  where
    ap_le : {other : ℕ} → other ≡ slot → media_number layout slot + zero ≤ media_number layout other
    ap_le same = omega (arith, ap (media_number layout) same)
later_number layout slot (suc n) =
    let rest = later_number layout slot n in
    let step = next_number layout (slot + n) in
    let at : slot + suc n ≡ slot + n + 1 = omega arith in
    let same = ap (media_number layout) at in
    omega (arith, rest, step, same)

-- So no number between those of a slot and the next one is that of a media record.
between_numbers :
    (layout : Layout) (slot number other : ℕ) → media_number layout slot < number
    → number < media_number layout slot + 1 + length (columns_ending layout slot) + length (rows_ending layout slot)
    → number ≡ media_number layout other → ⊥
between_numbers layout slot number other past before is = ⊎_elim
    (λ (early : other < slot + 1).
    let later = later_number layout other (slot - other) in
    let at : other + (slot - other) ≡ slot = omega (arith, early) in
    let same = ap (media_number layout) at in
    absurd (omega (arith, later, same, past, is)))
    (λ (late : slot + 1 ≤ other).
    let later = later_number layout (slot + 1) (other - (slot + 1)) in
    let at : slot + 1 + (other - (slot + 1)) ≡ other = omega (arith, late) in
    let same = ap (media_number layout) at in
    let step = next_number layout slot in
    absurd (omega (arith, later, same, step, before, is)))
    (cases_lt other (slot + 1))

-- Records none of which is lost are all left.
pub none_left_out :
    (lost : ℕ → Bool) (number : ℕ) (records rest : List Record)
    → ((n : ℕ) → number ≤ n → n < number + length records → lost n ≡ false)
    → without lost number (records ++ rest) ≡ records ++ without lost (number + length records) rest
none_left_out lost number [] rest none = ap (λ (n : ℕ). without lost n rest) (sym (add-zero number))
none_left_out lost number (r ∷ records) rest none =
    let here = none number (omega arith) (omega arith) in
    let step : (number + 1) + length records ≡ number + suc (length records) = omega arith in
    ap (λ (b : Bool). cond b (without lost (number + 1) (records ++ rest)) (r ∷ without lost (number + 1) (records ++ rest))) here
    ∙ ap (λ (rs : List Record). r ∷ rs)
    (none_left_out lost (number + 1) records rest (λ n low high. none n (omega (arith, low)) (omega (arith, high)))
    ∙ ap (λ (n : ℕ). records ++ without lost n rest) step)

module _ (settings : Settings) (payloads : List (List ℕ)) where
  -- The records of parity that are sent for a slot, and how many they are.
  abbrev pub parity_records : ℕ → List Record
  parity_records slot =
      map (column_record settings payloads slot) (columns_ending settings.layout slot)
      ++ map (row_record settings payloads slot) (rows_ending settings.layout slot)

  pub parity_count :
      (slot : ℕ) → length (parity_records slot) ≡ length (columns_ending settings.layout slot) + length (rows_ending settings.layout slot)
  parity_count slot =
      let columns : List ℕ = columns_ending settings.layout slot in
      let rows : List ℕ = rows_ending settings.layout slot in
      omega (
        arith,
        length-append (map (column_record settings payloads slot) columns) (map (row_record settings payloads slot) rows),
        length-map columns (column_record settings payloads slot),
        length-map rows (row_record settings payloads slot),
      )

module _
    (settings : Settings) (payloads : List (List ℕ)) (lost : ℕ → Bool) (most : settings.packets ≤ 7)
    (are : ArePayloads settings.packets payloads) where
  -- What is left of what is sent for a slot arrives as this: the parity, and the media datagram where it isn't lost.
  abbrev parity_arrivals : ℕ → List Arrival
  parity_arrivals slot =
      map (column_arrival settings payloads most are slot) (columns_ending settings.layout slot)
      ++ map (row_arrival settings payloads most are slot) (rows_ending settings.layout slot)

  abbrev pub left_at : ℕ → List Arrival
  left_at slot =
      cond (is_gone settings.layout lost slot) (parity_arrivals slot)
      (media_arrival settings payloads most are slot ∷ parity_arrivals slot)

  abbrev pub all_left : List Arrival
  all_left = flat_map left_at (range_with_len 0 (length payloads))

  module _ (alone : (number : ℕ) → lost number ≡ true → (slot : ℕ) × (number ≡ media_number settings.layout slot)) where
    -- What is left of the records of a slot, and what comes after them.
    left_of_parity :
        (slot : ℕ) (rest : List Record)
        → without lost (media_number settings.layout slot + 1) (parity_records settings payloads slot ++ rest)
        ≡ parity_records settings payloads slot ++ without lost (media_number settings.layout (slot + 1)) rest
    left_of_parity slot rest =
        let number : ℕ = media_number settings.layout slot in
        let size = parity_count settings payloads slot in
        let next = next_number settings.layout slot in
        let at : number + 1 + length (parity_records settings payloads slot) ≡ media_number settings.layout (slot + 1) = omega (arith, size, next) in
        none_left_out lost (number + 1) (parity_records settings payloads slot) rest
        (λ n low high. ⊎_elim
        (λ (gone : lost n ≡ true).
        let media = alone n gone in
        absurd (between_numbers settings.layout slot n media.0 (omega (arith, low)) (omega (arith, high, size)) media.1))
        (λ (kept : lost n ≡ false). kept)
        (bool_cases (lost n)))
        ∙ ap (λ (n : ℕ). parity_records settings payloads slot ++ without lost n rest) at

    module _ (media_law : MediaWrittenIsRead) (law : ParityWrittenIsRead) (shapes : LayoutsAreRead) where
      parity_arrives : (slot : ℕ) → slot < length payloads → AllZip (Arrives settings.port) (parity_records settings payloads slot) (parity_arrivals slot)
      parity_arrives slot below =
          zip_append (Arrives settings.port)
          (map (column_record settings payloads slot) (columns_ending settings.layout slot))
          (map (row_record settings payloads slot) (rows_ending settings.layout slot))
          (map (column_arrival settings payloads most are slot) (columns_ending settings.layout slot))
          (map (row_arrival settings payloads most are slot) (rows_ending settings.layout slot))
          (columns_arrive settings payloads most are media_law law shapes slot below)
          (some_rows_arrive settings payloads most are media_law law shapes slot settings.layout.rows below)

      slot_arrives :
          (slot : ℕ) (b : Bool) (rest : List Record) (more : List Arrival) → slot < length payloads
          → AllZip (Arrives settings.port) rest more
          → AllZip (Arrives settings.port)
          (cond b (parity_records settings payloads slot ++ rest) (media_record settings payloads slot ∷ (parity_records settings payloads slot ++ rest)))
          (cond b (parity_arrivals slot) (media_arrival settings payloads most are slot ∷ parity_arrivals slot) ++ more)
      slot_arrives slot true rest more below zip =
          zip_append (Arrives settings.port) (parity_records settings payloads slot) rest (parity_arrivals slot) more (parity_arrives slot below) zip
      slot_arrives slot false rest more below zip = (
        media_can_arrive settings payloads most are media_law slot below,
        zip_append (Arrives settings.port) (parity_records settings payloads slot) rest (parity_arrivals slot) more (parity_arrives slot below) zip,
      )

      slots_arrive :
          (n slot : ℕ) → slot + n ≤ length payloads
          → AllZip (Arrives settings.port)
          (without lost (media_number settings.layout slot) (flat_map (records_at settings payloads) (range_with_len slot n)))
          (flat_map left_at (range_with_len slot n))
      slots_arrive zero slot within = tt
      slots_arrive (suc n) slot within =
          let number : ℕ = media_number settings.layout slot in
          let rest : List Record = flat_map (records_at settings payloads) (range_with_len (slot + 1) n) in
          let media : Record = media_record settings payloads slot in
          subst (λ (rs : List Record). AllZip (Arrives settings.port) (cond (lost number) rs (media ∷ rs))
          (flat_map left_at (range_with_len slot (suc n)))) (sym (left_of_parity slot rest))
          (slot_arrives slot (lost number) (without lost (media_number settings.layout (slot + 1)) rest)
          (flat_map left_at (range_with_len (slot + 1) n)) (omega (arith, within)) (slots_arrive n (slot + 1) (omega (arith, within))))

      pub left_arrive : AllZip (Arrives settings.port) (records_of settings.port (thinned settings lost payloads)) all_left
      left_arrive =
          let zip = slots_arrive (length payloads) 0 (omega arith) in
          subst (λ (rs : List Record). AllZip (Arrives settings.port) rs all_left)
          (sym (all_are_of settings.port (thinned settings lost payloads) all_left zip)) zip
