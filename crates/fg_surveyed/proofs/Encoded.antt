-- What is heard of an encoding of which records were left out, slot after slot.
use Rattle.std.proofs.Common.{◌≡◌, ℕ, zero, suc, ◌+◌, ◌-◌, ◌*◌, ◌<◌, ◌≤◌, Bool, true, false, cond, eqb, List, [], ◌∷◌, ◌++◌, length, map, reverse, get_or, refl, sym, ap, ◌∙◌, subst, arith, append_assoc, length-append}
use Rattle.std.specs.List.{AllByRecursion, AllZip, filter, flat_map, range_with_len}
use Rattle.std.proofs.lemmas.Bool.{eqb-true, ne_eqb}
use Rattle.std.proofs.lemmas.List.{length-map, reverse-append}
use Rattle.fg_shape.specs.declared.encoding.Settings.{Settings}
use Rattle.fg_shape.specs.declared.layouts.Layout.{Layout}
use Rattle.fg_shape.specs.declared.kind.Kind.TheVariants as kind
use Rattle.fg_shape.specs.Laws.{LayoutsAreRead}
use Rattle.fg_rtp.specs.MediaDatagram.{IsMediaDatagram}
use Rattle.fg_rtp.specs.Laws.{WrittenIsRead as MediaWrittenIsRead}
use Rattle.fg_fechead.specs.declared.Parity.{Parity as ParityRead}
use Rattle.fg_fechead.specs.Laws.{WrittenIsRead as ParityWrittenIsRead}
use Rattle.fg_fechead.specs.ParityDatagram.{IsParityDatagram}
use Rattle.fg_trace.specs.Trace.{Record}
use Rattle.fg_playout.specs.Admission.{Parity as Admitted}
use Rattle.fg_survey.specs.declared.reading.Reading.TheVariants.{Media, Parity}
use Rattle.fg_survey.specs.Heard.{Heard, IsHeard}
use Rattle.fg_survey.specs.Reading.{IsParity, NoMedia}
use Rattle.fg_encode.specs.Encoding.{column_record, media_record, records_at, row_record, sequence_of, word_at}
use Rattle.fg_encode.specs.Ends.{column_bases, columns_ending, row_bases, rows_ending}
use Rattle.fg_encode.specs.Payloads.{ArePayloads}
use Rattle.fg_encode.proofs.ListLemmas.{flat_more}
use Rattle.fg_thin.specs.Thinned.{media_number, thinned, without}
use Rattle.fg_thin.proofs.WithoutLemmas.{without-append}
use Rattle.fg_results.specs.Flow.{IsReadAsParity, parity_of}
use Rattle.fg_drill.specs.Covered.{is_gone}
use Rattle.fg_drill.specs.Sent.{source_sent}
use Rattle.fg_drill.proofs.AllSent.{zip_append}
use Rattle.fg_drill.proofs.CoveredSent.{parity_count, parity_records}
use Rattle.fg_drill.proofs.Reading.{column_arrival, column_can_arrive, media_arrival, media_can_arrive, on_column, on_media, on_row, row_arrival, row_can_arrive}
use Rattle.fg_drill.proofs.Turns.{next_number}
use Rattle.fg_surveyed.specs.Told.{encoder}
use Rattle.fg_surveyed.proofs.Sides.{IsMediaOf, IsSide}

-- Lists place by place

zip_map : {A B : Type 0} (R : A → B → Type 0) (f : ℕ → A) (g : ℕ → B) (P : ℕ → Type 0) → ((x : ℕ) → P x → R (f x) (g x)) → (xs : List ℕ) → AllByRecursion P xs
    → AllZip R (map f xs) (map g xs)
zip_map R f g P each [] all = tt
zip_map R f g P each (x ∷ xs) all = (each x all.0, zip_map R f g P each xs all.1)

zip_cond : (b : Bool) (x : Heard) (r : Record) (xs : List Heard) (rs : List Record) → IsHeard x r → AllZip IsHeard xs rs
    → AllZip IsHeard (cond b xs (x ∷ xs)) (cond b rs (r ∷ rs))
zip_cond true x r xs rs is all = all
zip_cond false x r xs rs is all = (is, all)

-- What is read as parity, and is no media datagram, is heard as that parity.
parity_reading :
    (bytes : List ℕ) (parity : Admitted) → NoMedia bytes
    → (read : ParityRead) × IsParityDatagram bytes read × (parity ≡ parity_of read)
    → IsParity bytes parity.base parity.offset parity.count
parity_reading bytes parity none is = record {
  no_media = none;
  parity = is.0;
  datagram = is.1;
  base_is = ap (λ (p : Admitted). p.base) is.2;
  offset_is = ap (λ (p : Admitted). p.offset) is.2;
  number_is = ap (λ (p : Admitted). p.count) is.2;
}

-- Without those that are lost, of which the first has this number.
abbrev pub left_of : (ℕ → Bool) → ℕ → List Heard → List Heard
left_of lost n [] = []
left_of lost n (x ∷ xs) = cond (lost n) (left_of lost (n + 1) xs) (x ∷ left_of lost (n + 1) xs)

zip_left : (lost : ℕ → Bool) (n : ℕ) (xs : List Heard) (rs : List Record) → AllZip IsHeard xs rs → AllZip IsHeard (left_of lost n xs) (without lost n rs)
zip_left lost n [] [] all = tt
zip_left lost n [] (r ∷ rs) all = absurd all
zip_left lost n (x ∷ xs) [] all = absurd all
zip_left lost n (x ∷ xs) (r ∷ rs) all =
    zip_cond (lost n) x r (left_of lost (n + 1) xs) (without lost (n + 1) rs) all.0 (zip_left lost (n + 1) xs rs all.1)

zip_reverse : (xs : List Heard) (rs : List Record) → AllZip IsHeard xs rs → AllZip IsHeard (reverse xs) (reverse rs)
zip_reverse [] [] all = tt
zip_reverse [] (r ∷ rs) all = absurd all
zip_reverse (x ∷ xs) [] all = absurd all
zip_reverse (x ∷ xs) (r ∷ rs) all =
    let both : AllZip IsHeard (reverse xs ++ x ∷ []) (reverse rs ++ r ∷ []) =
    zip_append IsHeard (reverse xs) (x ∷ []) (reverse rs) (r ∷ []) (zip_reverse xs rs all.1) (all.0, tt) in
    subst (λ (ys : List Heard). AllZip IsHeard ys (reverse (r ∷ rs))) (sym (reverse-append (x ∷ []) xs))
    (subst (λ (qs : List Record). AllZip IsHeard (reverse xs ++ x ∷ []) qs) (sym (reverse-append (r ∷ []) rs)) both)

all_append : (P : Heard → Type 0) (xs ys : List Heard) → AllByRecursion P xs → AllByRecursion P ys → AllByRecursion P (xs ++ ys)
all_append P [] ys all more = more
all_append P (x ∷ xs) ys all more = (all.0, all_append P xs ys all.1 more)

all_reverse : (P : Heard → Type 0) (xs : List Heard) → AllByRecursion P xs → AllByRecursion P (reverse xs)
all_reverse P [] all = tt
all_reverse P (x ∷ xs) all =
    subst (λ (ys : List Heard). AllByRecursion P ys) (sym (reverse-append (x ∷ []) xs)) (all_append P (reverse xs) (x ∷ []) (all_reverse P xs all.1) (all.0, tt))

all_cond : (P : Heard → Type 0) (b : Bool) (x : Heard) (xs : List Heard) → P x → AllByRecursion P xs → AllByRecursion P (cond b xs (x ∷ xs))
all_cond P true x xs here all = all
all_cond P false x xs here all = (here, all)

all_left : (P : Heard → Type 0) (lost : ℕ → Bool) (n : ℕ) (xs : List Heard) → AllByRecursion P xs → AllByRecursion P (left_of lost n xs)
all_left P lost n [] all = tt
all_left P lost n (x ∷ xs) all = all_cond P (lost n) x (left_of lost (n + 1) xs) all.0 (all_left P lost (n + 1) xs all.1)

passing_by : (p : ℕ → Bool) (x : ℕ) (rest : List ℕ) (b : Bool) → p x ≡ b → AllByRecursion (λ x. p x ≡ true) rest → AllByRecursion (λ x. p x ≡ true) (cond b (x ∷ rest) rest)
passing_by p x rest true is all = (is, all)
passing_by p x rest false is all = all

passing : (p : ℕ → Bool) (xs : List ℕ) → AllByRecursion (λ x. p x ≡ true) (filter p xs)
passing p [] = tt
passing p (x ∷ xs) = passing_by p x (filter p xs) (p x) refl (passing p xs)

-- Parity is no media datagram: its payload type is another.
no_media : (bytes rest : List ℕ) → bytes ≡ 0x80 ∷ 96 ∷ rest → NoMedia bytes
no_media bytes rest spelled seq ssrc word is =
    let marker = is.marker_bit in
    let same = ap (λ (l : List ℕ). get_or l 1 0) (sym spelled ∙ is.spelled) in
    absurd (omega (arith, same, marker))

module _ (settings : Settings) (payloads : List (List ℕ)) where
  abbrev layout : Layout
  layout = settings.layout

  -- What is heard of each record.
  abbrev pub media_heard : ℕ → Heard
  media_heard slot = record {
    time = (media_record settings payloads slot).time;
    port = (media_record settings payloads slot).port;
    datagram = (media_record settings payloads slot).datagram;
    reading = Media (sequence_of settings slot) (word_at settings payloads slot).ts (source_sent settings);
  }

  abbrev pub column_heard : ℕ → ℕ → Heard
  column_heard slot base = record {
    time = (column_record settings payloads slot base).time;
    port = (column_record settings payloads slot base).port;
    datagram = (column_record settings payloads slot base).datagram;
    reading = Parity (sequence_of settings base) settings.layout.l settings.layout.d;
  }

  abbrev pub row_heard : ℕ → ℕ → Heard
  row_heard slot base = record {
    time = (row_record settings payloads slot base).time;
    port = (row_record settings payloads slot base).port;
    datagram = (row_record settings payloads slot base).datagram;
    reading = Parity (sequence_of settings base) 1 settings.layout.l;
  }

  abbrev pub sides : ℕ → List Heard
  sides slot = map (column_heard slot) (columns_ending settings.layout slot) ++ map (row_heard slot) (rows_ending settings.layout slot)

  pub media_is : (slot : ℕ) → IsMediaOf (encoder settings) (sequence_of settings slot) (media_heard slot)
  media_is slot = record { ts = (word_at settings payloads slot).ts; reading = refl; port = refl }

  pub column_is : (slot base : ℕ) → IsSide settings.port settings.layout.l settings.layout.d (column_heard slot base)
  column_is slot base = record {
    base = sequence_of settings base;
    offset = settings.layout.l;
    number = settings.layout.d;
    reading = refl;
    apart = ne_eqb (settings.port + 2) settings.port (λ same. absurd (omega (arith, same)));
    column = λ there. (refl, refl);
    row = λ there. absurd (omega (arith, there));
  }

  row_is : (slot base : ℕ) → IsSide settings.port settings.layout.l settings.layout.d (row_heard slot base)
  row_is slot base = record {
    base = sequence_of settings base;
    offset = 1;
    number = settings.layout.l;
    reading = refl;
    apart = ne_eqb (settings.port + 4) settings.port (λ same. absurd (omega (arith, same)));
    column = λ there. absurd (omega (arith, there));
    row = λ there. (refl, refl);
  }

  all_map : (P : Heard → Type 0) (f : ℕ → Heard) → ((x : ℕ) → P (f x)) → (xs : List ℕ) → AllByRecursion P (map f xs)
  all_map P f each [] = tt
  all_map P f each (x ∷ xs) = (each x, all_map P f each xs)

  all_sides : (slot : ℕ) → AllByRecursion (IsSide settings.port settings.layout.l settings.layout.d) (sides slot)
  all_sides slot =
      let P = IsSide settings.port settings.layout.l settings.layout.d in
      all_append P (map (column_heard slot) (columns_ending settings.layout slot)) (map (row_heard slot) (rows_ending settings.layout slot))
      (all_map P (column_heard slot) (column_is slot) (columns_ending settings.layout slot)) (all_map P (row_heard slot) (row_is slot) (rows_ending settings.layout slot))

  module _ (lost : ℕ → Bool) where
    -- The parity that is left of a slot, the latest first, and all that is heard of so many slots.
    abbrev pub sides_left : ℕ → List Heard
    sides_left slot = reverse (left_of lost (media_number settings.layout slot + 1) (sides slot))

    abbrev pub heard_of : ℕ → List Heard
    heard_of zero = []
    heard_of (suc n) = sides_left n ++ cond (is_gone settings.layout lost n) (heard_of n) (media_heard n ∷ heard_of n)

    pub sides_are : (slot : ℕ) → AllByRecursion (IsSide settings.port settings.layout.l settings.layout.d) (sides_left slot)
    sides_are slot =
        let P = IsSide settings.port settings.layout.l settings.layout.d in
        all_reverse P (left_of lost (media_number settings.layout slot + 1) (sides slot)) (all_left P lost (media_number settings.layout slot + 1) (sides slot) (all_sides slot))

  -- Numbers of records

  abbrev sent : ℕ → List Record
  sent n = flat_map (records_at settings payloads) (range_with_len 0 n)

  sent_more : (n : ℕ) → sent (suc n) ≡ sent n ++ records_at settings payloads n
  sent_more n = flat_more (records_at settings payloads) n

  sent_count : (n : ℕ) → length (sent n) ≡ media_number settings.layout n
  sent_count zero = refl
  sent_count (suc n) =
      let more = ap (λ (rs : List Record). length rs) (sent_more n) in
      let both = length-append (sent n) (records_at settings payloads n) in
      let before = sent_count n in
      let here = parity_count settings payloads n in
      let step : media_number settings.layout (n + 1) ≡ media_number settings.layout n + 1 + length (columns_ending settings.layout n) + length (rows_ending settings.layout n) = next_number settings.layout n in
      let same : n + 1 ≡ suc n = omega arith in
      let number = ap (media_number settings.layout) same in
      omega (arith, more, both, before, here, step, number)

  module _ (most : settings.packets ≤ 7) (are : ArePayloads settings.packets payloads) (media_law : MediaWrittenIsRead) (law : ParityWrittenIsRead) (shapes : LayoutsAreRead) where
    media_is_heard : (slot : ℕ) → slot < length payloads → IsHeard (media_heard slot) (media_record settings payloads slot)
    media_is_heard slot below =
        let there = media_can_arrive settings payloads most are media_law slot below in
        let bytes : List ℕ = (media_record settings payloads slot).datagram in
        let read : IsMediaDatagram bytes (sequence_of settings slot) (source_sent settings) (word_at settings payloads slot) =
        on_media settings.port there.0 bytes (media_arrival settings payloads most are slot) there.1 there.2 in
        record { time = refl; port = refl; datagram = refl; reading = record { word = word_at settings payloads slot; datagram = read; ts_is = refl } }

    column_is_heard : (slot base : ℕ) → base < length payloads → IsHeard (column_heard slot base) (column_record settings payloads slot base)
    column_is_heard slot base below =
        let there = column_can_arrive settings payloads most are law slot base (shapes settings.layout).0 below in
        let bytes : List ℕ = (column_record settings payloads slot base).datagram in
        let read : IsReadAsParity kind.Column bytes (column_arrival settings payloads most are slot base) =
        on_column settings.port there.0 bytes (column_arrival settings payloads most are slot base) there.1 there.2 in
        record { time = refl; port = refl; datagram = refl; reading = parity_reading bytes _ (no_media bytes _ refl) read.1 }

    row_is_heard : (slot base : ℕ) → base < length payloads → IsHeard (row_heard slot base) (row_record settings payloads slot base)
    row_is_heard slot base below =
        let there = row_can_arrive settings payloads most are law slot base (shapes settings.layout).1 below in
        let bytes : List ℕ = (row_record settings payloads slot base).datagram in
        let read : IsReadAsParity kind.Row bytes (row_arrival settings payloads most are slot base) =
        on_row settings.port there.0 bytes (row_arrival settings payloads most are slot base) there.1 there.2 in
        record { time = refl; port = refl; datagram = refl; reading = parity_reading bytes _ (no_media bytes _ refl) read.1 }

    columns_heard : (slot : ℕ) → slot < length payloads
        → AllZip IsHeard (map (column_heard slot) (columns_ending settings.layout slot)) (map (column_record settings payloads slot) (columns_ending settings.layout slot))
    columns_heard slot below =
        let p : ℕ → Bool = λ base. eqb (base + (settings.layout.d - 1) * settings.layout.l) slot in
        zip_map IsHeard (column_heard slot) (column_record settings payloads slot) (λ base. p base ≡ true)
        (λ base passes. let ends = eqb-true (base + (settings.layout.d - 1) * settings.layout.l) slot passes in column_is_heard slot base (omega (arith, ends, below)))
        (columns_ending settings.layout slot) (passing p (column_bases settings.layout (slot + 1)))

    some_rows_heard : (slot : ℕ) (b : Bool) → slot < length payloads
        → let bases : List ℕ = cond b (filter (λ base. eqb (base + (settings.layout.l - 1)) slot) (row_bases settings.layout (slot + 1))) [] in
        AllZip IsHeard (map (row_heard slot) bases) (map (row_record settings payloads slot) bases)
    some_rows_heard slot true below =
        let p : ℕ → Bool = λ base. eqb (base + (settings.layout.l - 1)) slot in
        zip_map IsHeard (row_heard slot) (row_record settings payloads slot) (λ base. p base ≡ true)
        (λ base passes. let ends = eqb-true (base + (settings.layout.l - 1)) slot passes in row_is_heard slot base (omega (arith, ends, below)))
        (filter p (row_bases settings.layout (slot + 1))) (passing p (row_bases settings.layout (slot + 1)))
    some_rows_heard slot false below = tt

    sides_heard : (slot : ℕ) → slot < length payloads → AllZip IsHeard (sides slot) (parity_records settings payloads slot)
    sides_heard slot below =
        zip_append IsHeard (map (column_heard slot) (columns_ending settings.layout slot)) (map (row_heard slot) (rows_ending settings.layout slot))
        (map (column_record settings payloads slot) (columns_ending settings.layout slot)) (map (row_record settings payloads slot) (rows_ending settings.layout slot))
        (columns_heard slot below) (some_rows_heard slot settings.layout.rows below)

    back_of : (b : Bool) (r : Record) (rs before : List Record) → reverse (cond b rs (r ∷ rs)) ++ before ≡ reverse rs ++ cond b before (r ∷ before)
    back_of true r rs before = refl
    back_of false r rs before = ap (λ (l : List Record). l ++ before) (reverse-append (r ∷ []) rs) ∙ append_assoc (reverse rs) (r ∷ []) before

    module _ (lost : ℕ → Bool) where
      slots_heard : (n : ℕ) → n ≤ length payloads → AllZip IsHeard (heard_of lost n) (reverse (without lost 0 (sent n)))
      slots_heard zero within = tt
      slots_heard (suc n) within =
          let number = media_number settings.layout n in
          let media : Record = media_record settings payloads n in
          let before : List Record = reverse (without lost 0 (sent n)) in
          let rest : List Record = without lost (number + 1) (parity_records settings payloads n) in
          let below : n < length payloads = omega (arith, within) in
          let at : 0 + length (sent n) ≡ number = omega (arith, sent_count n) in
          let same : reverse (without lost 0 (sent (suc n))) ≡ reverse rest ++ cond (lost number) before (media ∷ before) =
          ap (λ (rs : List Record). reverse (without lost 0 rs)) (sent_more n)
          ∙ ap (λ (rs : List Record). reverse rs) (without-append lost 0 (sent n) (records_at settings payloads n))
          ∙ ap (λ (k : ℕ). reverse (without lost 0 (sent n) ++ without lost k (records_at settings payloads n))) at
          ∙ reverse-append (without lost 0 (sent n)) (without lost number (records_at settings payloads n))
          ∙ back_of (lost number) media rest before in
          subst (λ (rs : List Record). AllZip IsHeard (heard_of lost (suc n)) rs) (sym same)
          (zip_append IsHeard (sides_left lost n) (cond (lost number) (heard_of lost n) (media_heard n ∷ heard_of lost n)) (reverse rest) (cond (lost number) before (media ∷ before))
          (zip_reverse (left_of lost (number + 1) (sides n)) rest (zip_left lost (number + 1) (sides n) (parity_records settings payloads n) (sides_heard n below)))
          (zip_cond (lost number) (media_heard n) media (heard_of lost n) before (media_is_heard n below) (slots_heard n (omega (arith, within)))))

      pub all_heard : AllZip IsHeard (heard_of lost (length payloads)) (reverse (thinned settings lost payloads))
      all_heard = slots_heard (length payloads) (omega arith)
