-- The records of a thinned encoding arrive in their turn.
use Rattle.std.proofs.Common.{◌≡◌, ℕ, zero, suc, ◌+◌, ◌-◌, ◌*◌, ◌<◌, ◌≤◌, ◌==◌, Bool, true, false, cond, List, [], ◌∷◌, ◌++◌, length, map, Option, Some, None, MatchOption, refl, sym, ap, subst, ⊎_elim, ◌∙◌, arith, add-zero, length-append}
use Rattle.std.specs.List.{All, AllZip, filter, flat_map, range_with_len}
use Rattle.std.proofs.lemmas.Bool.{cases_lt, eqb-true}
use Rattle.std.proofs.lemmas.List.{append_assoc}
use Rattle.std.proofs.lemmas.List.Elements.{All-nil, All-head, All-tail, All-weaker, filter_passes}
use Rattle.fg_shape.specs.declared.layouts.Layout.{Layout}
use Rattle.fg_shape.specs.declared.encoding.Settings.{Settings}
use Rattle.fg_shape.specs.Laws.{LayoutsAreRead}
use Rattle.fg_rtp.specs.Laws.{WrittenIsRead as MediaWrittenIsRead}
use Rattle.fg_fechead.specs.Laws.{WrittenIsRead as ParityWrittenIsRead}
use Rattle.fg_trace.specs.Trace.{Record}
use Rattle.fg_shape.specs.declared.kind.Kind.{Kind}
use Rattle.fg_shape.specs.declared.kind.Kind.TheVariants as kind
use Rattle.fg_playout.specs.Admission.{Parity}
use Rattle.fg_playout.specs.Run.{Arrival, protects}
use Rattle.fg_encode.specs.Ends.{column_bases, columns_before, columns_ending, row_bases, rows_before, rows_ending}
use Rattle.fg_encode.specs.Encoding.{column_record, column_shape, media_record, parity_at, records_at, row_record, row_shape}
use Rattle.fg_encode.specs.Payloads.{ArePayloads}
use Rattle.fg_encode.proofs.ListLemmas.{flat_more_at}
use Rattle.fg_results.specs.Flow.{Arrives, is_of, parity_of, records_of}
use Rattle.fg_results.proofs.ArrivalLemmas.{is_of_its_flow}
use Rattle.fg_drill.specs.Sent.{source_sent, words_sent}
use Rattle.fg_thin.specs.Thinned.{AreFew, media_number, without}
use Rattle.fg_drill.specs.True.{AreTrueArrivals, ComesInTurn, IsTrueArrival, IsTrueParity, last_after}
use Rattle.fg_drill.proofs.Reading.{column_arrives, media_arrival, media_arrives, row_arrives}
use Rattle.fg_drill.proofs.Truth.{parity_is_true, word_sent}

-- Numbers of records

count_more : (g : ℕ → List ℕ) (n : ℕ) → length (flat_map g (range_with_len 0 (n + 1))) ≡ length (flat_map g (range_with_len 0 n)) + length (g n)
count_more g n = ap (λ (l : List ℕ). length l) (flat_more_at g n) ∙ length-append (flat_map g (range_with_len 0 n)) (g n)

pub next_number :
    (layout : Layout) (slot : ℕ)
    → media_number layout (slot + 1) ≡ media_number layout slot + 1 + length (columns_ending layout slot) + length (rows_ending layout slot)
next_number layout slot =
    let columns : columns_before layout (slot + 1) ≡ columns_before layout slot + length (columns_ending layout slot) = count_more (columns_ending layout) slot in
    let rows : rows_before layout (slot + 1) ≡ rows_before layout slot + length (rows_ending layout slot) = count_more (rows_ending layout) slot in
    omega arith

module _ (settings : Settings) (payloads : List (List ℕ)) (lost : ℕ → Bool) where
  -- What is left of these records, which are counted from this number, goes on as true arrivals.
  abbrev GoesOn : ℕ → Option ℕ → List Record → Type 0
  GoesOn number last records =
      (arrivals : List Arrival)
      → AllZip (Arrives settings.port) (records_of settings.port (without lost number records)) arrivals
      → AreTrueArrivals settings.seq (source_sent settings) (words_sent settings payloads) last arrivals

  -- The media record of this slot was the last that isn't left out before a slot, or none was so far.
  abbrev StandsBefore : ℕ → Option ℕ → Type 0
  StandsBefore slot last =
      MatchOption last (slot ≡ 0) (λ before. (before < slot)
      × ((j : ℕ) → before < j → j < slot → lost (media_number settings.layout j) ≡ true))

  -- An arrival is true and comes in its turn, and the rest goes on.
  abbrev Comes : Option ℕ → ℕ → List Arrival → Arrival → Type 0
  Comes last slot more a =
      IsTrueArrival settings.seq (source_sent settings) (words_sent settings payloads) slot a × ComesInTurn last slot a
      × AreTrueArrivals settings.seq (source_sent settings) (words_sent settings payloads) (last_after last slot a) more

  nothing_more : (last : Option ℕ) → GoesOn 0 last []
  nothing_more last [] zip = tt
  nothing_more last (a ∷ more) zip = absurd zip

  -- One record more is left out, or arrives.
  first_arrives :
      (r : Record) (kept : List Record) (slot : ℕ) (last : Option ℕ) (arrivals : List Arrival)
      → ((a : Arrival) (more : List Arrival) → Arrives settings.port r a → AllZip (Arrives settings.port) kept more → Comes last slot more a)
      → AllZip (Arrives settings.port) (r ∷ kept) arrivals → AreTrueArrivals settings.seq (source_sent settings) (words_sent settings payloads) last arrivals
  first_arrives r kept slot last [] comes zip = absurd zip
  first_arrives r kept slot last (a ∷ more) comes zip =
      let both = comes a more zip.0 zip.1 in
      (slot, both.0, both.1, both.2)

  record_more :
      (b : Bool) (r : Record) (kept : List Record) (slot : ℕ) (last : Option ℕ) (arrivals : List Arrival)
      → is_of settings.port r ≡ true
      → (b ≡ true → AllZip (Arrives settings.port) (records_of settings.port kept) arrivals
      → AreTrueArrivals settings.seq (source_sent settings) (words_sent settings payloads) last arrivals)
      → (b ≡ false → (a : Arrival) (more : List Arrival) → Arrives settings.port r a
      → AllZip (Arrives settings.port) (records_of settings.port kept) more → Comes last slot more a)
      → AllZip (Arrives settings.port) (records_of settings.port (cond b kept (r ∷ kept))) arrivals
      → AreTrueArrivals settings.seq (source_sent settings) (words_sent settings payloads) last arrivals
  record_more true r kept slot last arrivals on left comes zip = left refl zip
  record_more false r kept slot last arrivals on left comes zip =
      first_arrives r (records_of settings.port kept) slot last arrivals (comes refl)
      (subst (λ (p : Bool). AllZip (Arrives settings.port) (cond p (r ∷ records_of settings.port kept) (records_of settings.port kept)) arrivals) on zip)

  -- Records of parity

  abbrev ArrivesTrue : (ℕ → Record) → ℕ → ℕ → Type 0
  ArrivesTrue record_of slot base =
      (a : Arrival) → Arrives settings.port (record_of base) a
      → (time : ℕ) × (by : Kind) × (parity : Parity) × (a ≡ protects time by parity)
      × IsTrueParity settings.seq (words_sent settings payloads) slot parity

  parities_more :
      (record_of : ℕ → Record) (bases : List ℕ) (rest : List Record) (number slot before : ℕ)
      → ((base : ℕ) → is_of settings.port (record_of base) ≡ true) → before ≤ slot → slot ≤ before + 32000
      → All (ArrivesTrue record_of slot) bases
      → GoesOn (number + length bases) (Some before) rest → GoesOn number (Some before) (map record_of bases ++ rest)
  parities_more record_of [] rest number slot before on low high each goes =
      subst (λ (n : ℕ). GoesOn n (Some before) rest) (add-zero number) goes
  parities_more record_of (base ∷ bases) rest number slot before on low high each goes =
      let step : number + suc (length bases) ≡ (number + 1) + length bases = omega arith in
      let after : GoesOn (number + 1) (Some before) (map record_of bases ++ rest) =
      parities_more record_of bases rest (number + 1) slot before on low high
      (All-tail (ArrivesTrue record_of slot) base bases each) (subst (λ (n : ℕ). GoesOn n (Some before) rest) step goes) in
      λ arrivals zip.
      record_more (lost number) (record_of base) (without lost (number + 1) (map record_of bases ++ rest)) slot (Some before) arrivals (on base)
      (λ gone more. after arrivals more)
      (λ kept a more arrives more'.
      let true = All-head (ArrivesTrue record_of slot) base bases each a arrives in
      subst (Comes (Some before) slot more) (sym true.3) (true.4, (low, high), after more more'))
      zip

  module _ (most : settings.packets ≤ 7) (are : ArePayloads settings.packets payloads) (law : ParityWrittenIsRead) (shapes : LayoutsAreRead) where
    columns_true : (slot : ℕ) → slot < length payloads → All (ArrivesTrue (column_record settings payloads slot) slot) (columns_ending settings.layout slot)
    columns_true slot below =
        All-weaker (λ base. ((base + (settings.layout.d - 1) * settings.layout.l) == slot) ≡ true) (ArrivesTrue (column_record settings payloads slot) slot)
        (λ base passes a arrives.
        let ends : base + (settings.layout.d - 1) * settings.layout.l ≡ slot = eqb-true (base + (settings.layout.d - 1) * settings.layout.l) slot passes in
        let read = (shapes settings.layout).0 in (
          (column_record settings payloads slot base).time,
          kind.Column,
          parity_of (parity_at settings payloads base (column_shape settings.layout) false),
          column_arrives settings payloads most are law slot base read (omega arith) a arrives,
          parity_is_true settings payloads base (column_shape settings.layout) false slot read ends below,
        ))
        (columns_ending settings.layout slot)
        (filter_passes (λ base. (base + (settings.layout.d - 1) * settings.layout.l) == slot) (column_bases settings.layout (slot + 1)))

    some_rows_true : (slot : ℕ) (sent : Bool) → slot < length payloads
        → All (ArrivesTrue (row_record settings payloads slot) slot) (cond sent (filter (λ base. (base + (settings.layout.l - 1)) == slot) (row_bases settings.layout (slot + 1))) [])
    some_rows_true slot true below =
        All-weaker (λ base. ((base + (settings.layout.l - 1)) == slot) ≡ true) (ArrivesTrue (row_record settings payloads slot) slot)
        (λ base passes a arrives.
        let ends : base + (settings.layout.l - 1) ≡ slot = eqb-true (base + (settings.layout.l - 1)) slot passes in
        let read = (shapes settings.layout).1 in (
          (row_record settings payloads slot base).time,
          kind.Row,
          parity_of (parity_at settings payloads base (row_shape settings.layout) true),
          row_arrives settings payloads most are law slot base read (omega arith) a arrives,
          parity_is_true settings payloads base (row_shape settings.layout) true slot read (omega arith) below,
        ))
        (filter (λ base. (base + (settings.layout.l - 1)) == slot) (row_bases settings.layout (slot + 1)))
        (filter_passes (λ base. (base + (settings.layout.l - 1)) == slot) (row_bases settings.layout (slot + 1)))
    some_rows_true slot false below = All-nil (ArrivesTrue (row_record settings payloads slot) slot)

    rows_true : (slot : ℕ) → slot < length payloads → All (ArrivesTrue (row_record settings payloads slot) slot) (rows_ending settings.layout slot)
    rows_true slot below = some_rows_true slot settings.layout.rows below

    -- After the media record of a slot comes its parity, and then the rest.
    after_media :
        (slot number before : ℕ) (rest : List Record) → slot < length payloads → before ≤ slot → slot ≤ before + 32000
        → GoesOn (number + length (columns_ending settings.layout slot) + length (rows_ending settings.layout slot)) (Some before) rest
        → GoesOn number (Some before) (map (column_record settings payloads slot) (columns_ending settings.layout slot)
        ++ (map (row_record settings payloads slot) (rows_ending settings.layout slot) ++ rest))
    after_media slot number before rest below low high goes =
        let columns : List ℕ = columns_ending settings.layout slot in
        let rows : List ℕ = rows_ending settings.layout slot in
        parities_more (column_record settings payloads slot) columns (map (row_record settings payloads slot) rows ++ rest) number slot before
        (λ base. is_of_its_flow settings.port kind.Column (column_record settings payloads slot base) refl) low high (columns_true slot below)
        (parities_more (row_record settings payloads slot) rows rest (number + length columns) slot before
        (λ base. is_of_its_flow settings.port kind.Row (row_record settings payloads slot base) refl) low high (rows_true slot below) goes)

    module _ (few : AreFew settings.layout (length payloads) lost) (media_law : MediaWrittenIsRead) where
      gap :
          (before next : ℕ) → next ≤ length payloads → ((j : ℕ) → before < j → j < next → lost (media_number settings.layout j) ≡ true)
          → next ≤ before + 32001
      gap before next within missing = ⊎_elim
          (λ (near : next < before + 32002). omega arith)
          (λ (far : before + 32002 ≤ next).
          let some = few.succession (before + 1) (omega arith) in
          let bound = some.1 in
          let kept = some.2 in
          let gone = missing (before + 1 + some.0) (omega arith) (omega arith) in
          absurd (cc))
          (cases_lt next (before + 32002))

      turn :
          (slot : ℕ) (last : Option ℕ) → slot < length payloads → StandsBefore slot last
          → ComesInTurn last slot (media_arrival settings payloads most are slot)
      turn slot None below stands = stands
      turn slot (Some before) below stands = (stands.0, gap before slot (omega arith) stands.1)

      -- The media record of a slot is left out.
      missing_more :
          (slot j before : ℕ) → lost (media_number settings.layout slot) ≡ true
          → ((j : ℕ) → before < j → j < slot → lost (media_number settings.layout j) ≡ true) → before < j → j < slot + 1
          → lost (media_number settings.layout j) ≡ true
      missing_more slot j before gone missing low high = ⊎_elim
          (λ (early : j < slot). missing j low early)
          (λ (late : slot ≤ j).
          let same : slot ≡ j = omega arith in
          subst (λ (s : ℕ). lost (media_number settings.layout s) ≡ true) same gone)
          (cases_lt j slot)

      left_out :
          (slot : ℕ) (last : Option ℕ) (rest : List Record) → slot < length payloads → StandsBefore slot last
          → lost (media_number settings.layout slot) ≡ true
          → ((next : Option ℕ) → StandsBefore (slot + 1) next
          → GoesOn (media_number settings.layout slot + 1 + length (columns_ending settings.layout slot) + length (rows_ending settings.layout slot)) next rest)
          → GoesOn (media_number settings.layout slot + 1) last (map (column_record settings payloads slot) (columns_ending settings.layout slot)
          ++ (map (row_record settings payloads slot) (rows_ending settings.layout slot) ++ rest))
      left_out slot None rest below stands gone goes =
          let first = few.first in
          let here : lost 0 ≡ true = subst (λ (s : ℕ). lost (media_number settings.layout s) ≡ true) stands gone in
          absurd (cc)
      left_out slot (Some before) rest below stands gone goes =
          let missing : (j : ℕ) → before < j → j < slot + 1 → lost (media_number settings.layout j) ≡ true = λ j low high. missing_more slot j before gone stands.1 low high in
          let near = gap before (slot + 1) (omega arith) missing in
          after_media slot (media_number settings.layout slot + 1) before rest below (omega arith) (omega arith)
          (goes (Some before) (omega arith, missing))

      slot_more :
          (slot : ℕ) (last : Option ℕ) (rest : List Record) → slot < length payloads → StandsBefore slot last
          → ((next : Option ℕ) → StandsBefore (slot + 1) next
          → GoesOn (media_number settings.layout slot + 1 + length (columns_ending settings.layout slot) + length (rows_ending settings.layout slot)) next rest)
          → GoesOn (media_number settings.layout slot) last (records_at settings payloads slot ++ rest)
      slot_more slot last rest below stands goes =
          let number : ℕ = media_number settings.layout slot in
          let columns : List Record = map (column_record settings payloads slot) (columns_ending settings.layout slot) in
          let rows : List Record = map (row_record settings payloads slot) (rows_ending settings.layout slot) in
          let media : Record = media_record settings payloads slot in
          subst (λ (tail : List Record). GoesOn number last (media ∷ tail)) (sym (append_assoc columns rows rest))
          (λ arrivals zip.
          record_more (lost number) media (without lost (number + 1) (columns ++ (rows ++ rest))) slot last arrivals
          (is_of_its_flow settings.port kind.Media media refl)
          (λ gone more. left_out slot last rest below stands gone goes arrivals more)
          (λ kept a more arrives more'.
          let is = media_arrives settings payloads most are media_law slot below a arrives in
          subst (Comes last slot more) (sym is) (
            (refl, refl, word_sent settings payloads slot below),
            turn slot last below stands,
            after_media slot (number + 1) slot rest below (omega arith) (omega arith)
                (goes (Some slot) (omega arith, (λ j low high. absurd (omega arith)))) more more',
          ))
          zip)

      onward :
          (n slot : ℕ) (last : Option ℕ) → slot + n ≡ length payloads → StandsBefore slot last
          → GoesOn (media_number settings.layout slot) last (flat_map (records_at settings payloads) (range_with_len slot n))
      onward zero slot last whole stands = λ arrivals zip. nothing_more last arrivals zip
      onward (suc n) slot last whole stands =
          slot_more slot last (flat_map (records_at settings payloads) (range_with_len (slot + 1) n)) (omega arith) stands
          (λ next stands'. subst (λ (number : ℕ). GoesOn number next (flat_map (records_at settings payloads) (range_with_len (slot + 1) n)))
          (next_number settings.layout slot) (onward n (slot + 1) next (omega arith) stands'))

      pub arrive_true : GoesOn 0 None (flat_map (records_at settings payloads) (range_with_len 0 (length payloads)))
      arrive_true = onward (length payloads) 0 None (omega arith) refl
