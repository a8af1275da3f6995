-- The records of a flow arrive in one way.
use Rattle.std.proofs.Common.{◌≡◌, ◌≤◌, ◌==◌, ◌||◌, ℕ, Bool, true, false, cond, List, [], ◌∷◌, ◌++◌, length, refl, sym, ap, subst, ◌∙◌, arith}
use Rattle.std.specs.List.{All, AllZip}
use Rattle.std.proofs.lemmas.Bool.Decides.{nat_tests}
use Rattle.std.proofs.lemmas.List.Elements.{filter-append}
use Rattle.std.proofs.lemmas.List.Sums.{length-filter, count_by-le-length}
use Rattle.fg_rtp.specs.Laws.{ReadsOneWay as MediaReadsOneWay}
use Rattle.fg_fechead.specs.declared.Parity.{Parity as ParityRead}
use Rattle.fg_fechead.specs.ParityDatagram.{IsParityDatagram}
use Rattle.fg_fechead.specs.Laws.{ReadsOneWay as ParityReadsOneWay}
use Rattle.fg_trace.specs.Trace.{Record}
use Rattle.fg_shape.specs.declared.kind.Kind.{Kind}
use Rattle.fg_shape.specs.declared.kind.Kind.TheVariants as kind
use Rattle.fg_shape.specs.Kind.{port_of}
use Rattle.fg_playout.specs.Admission.{Parity}
use Rattle.fg_playout.specs.Run.{Arrival, carries, protects, refused, time_of}
use Rattle.fg_playout.specs.Laws.{IsRead}
use Rattle.fg_results.specs.Flow.{is_of, records_of, parity_of, IsReadAsMedia, IsReadAsParity, IsReadAs, Arrives}
use Rattle.fg_results.proofs.Zips.{zip_one, zip_begins, zip_length, zip_all}

-- The flow's records among more of them.

test_true : (a b : ℕ) → a ≡ b → (a == b) ≡ true
test_true a b same = grind (arith, nat_tests)

or_first : (a b c : Bool) → a ≡ true → (a || b || c) ≡ true
or_first true b c is = refl
or_first false b c is = cc

or_second : (a b c : Bool) → b ≡ true → (a || b || c) ≡ true
or_second true b c is = refl
or_second false true c is = refl
or_second false false c is = cc

or_third : (a b c : Bool) → c ≡ true → (a || b || c) ≡ true
or_third true b c is = refl
or_third false true c is = refl
or_third false false true is = refl
or_third false false false is = is

-- A record on a port of a flow is one of its records.
pub is_of_its_flow : (flow : ℕ) (kind : Kind) (r : Record) → port_of flow kind ≡ r.port → is_of flow r ≡ true
is_of_its_flow flow kind.Media r on = or_first _ _ _ (test_true (port_of flow kind.Media) r.port on)
is_of_its_flow flow kind.Column r on = or_second (port_of flow kind.Media == r.port) _ _ (test_true (port_of flow kind.Column) r.port on)
is_of_its_flow flow kind.Row r on =
    or_third (port_of flow kind.Media == r.port) (port_of flow kind.Column == r.port) _ (test_true (port_of flow kind.Row) r.port on)

pub one_more_record :
    (flow : ℕ) (kind : Kind) (records : List Record) (r : Record) → port_of flow kind ≡ r.port
    → records_of flow (records ++ r ∷ []) ≡ records_of flow records ++ r ∷ []
one_more_record flow kind records r on =
    filter-append (is_of flow) records (r ∷ [])
    ∙ ap (λ (b : Bool). records_of flow records ++ cond b (r ∷ []) []) (is_of_its_flow flow kind r on)

pub few_arrive : (flow : ℕ) (records : List Record) (arrivals : List Arrival) → AllZip (Arrives flow) (records_of flow records) arrivals → length arrivals ≤ length records
few_arrive flow records arrivals arrive =
    let same = zip_length (Arrives flow) (records_of flow records) arrivals arrive in
    let kept = length-filter (is_of flow) records in
    let fewer = count_by-le-length (is_of flow) records in
    omega (arith, same, kept, fewer)

-- What is read is a media word or a shape that is read.

parity_is_good :
    (parity : Parity) (read : ParityRead) {bytes : List ℕ} → IsParityDatagram bytes read → parity ≡ parity_of read
    → IsRead (protects 0 kind.Column parity)
parity_is_good parity read is same =
    subst (λ (p : Parity). IsRead (protects 0 kind.Column p)) (sym same) (is.base_size, is.shape)

media_is_read : (bytes : List ℕ) (arrival : Arrival) → IsReadAsMedia bytes arrival → IsRead arrival
media_is_read bytes (carries time seq ssrc word) read = (read.seq_size, read.ssrc_size, read.media)
media_is_read bytes (protects time by parity) read = absurd read
media_is_read bytes (refused time by) read = tt

parity_is_read : (kind : Kind) (bytes : List ℕ) (arrival : Arrival) → IsReadAsParity kind bytes arrival → IsRead arrival
parity_is_read kind bytes (carries time seq ssrc word) read = absurd read
parity_is_read kind bytes (protects time by parity) read = parity_is_good parity read.1.0 read.1.1 read.1.2
parity_is_read kind bytes (refused time by) read = tt

is_read : (kind : Kind) (bytes : List ℕ) (arrival : Arrival) → IsReadAs kind bytes arrival → IsRead arrival
is_read kind.Media bytes arrival read = media_is_read bytes arrival read
is_read kind.Column bytes arrival read = parity_is_read kind.Column bytes arrival read
is_read kind.Row bytes arrival read = parity_is_read kind.Row bytes arrival read

pub arrivals_are_read :
    (flow : ℕ) (records : List Record) (arrivals : List Arrival) → AllZip (Arrives flow) (records_of flow records) arrivals
    → All IsRead arrivals
arrivals_are_read flow records arrivals arrive =
    zip_all (Arrives flow) IsRead (λ (r : Record) (arrival : Arrival) arrives. is_read arrives.0 r.datagram arrival arrives.2)
    (records_of flow records) arrivals arrive

-- Each record is read in one way.

pub one_kind : (flow port : ℕ) (one other : Kind) → port_of flow one ≡ port → port_of flow other ≡ port → one ≡ other
one_kind flow port kind.Media kind.Media a b = refl
one_kind flow port kind.Media kind.Column a b = absurd (omega (arith, a, b))
one_kind flow port kind.Media kind.Row a b = absurd (omega (arith, a, b))
one_kind flow port kind.Column kind.Media a b = absurd (omega (arith, a, b))
one_kind flow port kind.Column kind.Column a b = refl
one_kind flow port kind.Column kind.Row a b = absurd (omega (arith, a, b))
one_kind flow port kind.Row kind.Media a b = absurd (omega (arith, a, b))
one_kind flow port kind.Row kind.Column a b = absurd (omega (arith, a, b))
one_kind flow port kind.Row kind.Row a b = refl

module _ (media : MediaReadsOneWay) (parity : ParityReadsOneWay) where
  one_parity :
      (bytes : List ℕ) (time time' : ℕ) (by by' is : Kind) (one other : Parity) → time ≡ time' → by ≡ is → by' ≡ is
      → (read : ParityRead) × IsParityDatagram bytes read × (one ≡ parity_of read)
      → (read : ParityRead) × IsParityDatagram bytes read × (other ≡ parity_of read)
      → protects time by one ≡ protects time' by' other
  one_parity bytes time time' by by' is one other times p q a b =
      let streams : by ≡ by' = p ∙ sym q in
      let parities : one ≡ other = a.2 ∙ ap parity_of (parity bytes a.0 b.0 a.1 b.1) ∙ sym b.2 in
      λ i. protects (times i) (streams i) (parities i)

  one_refused :
      (time time' : ℕ) (by by' is : Kind) → time ≡ time' → by ≡ is → by' ≡ is → refused time by ≡ refused time' by'
  one_refused time time' by by' is times p q =
      let streams : by ≡ by' = p ∙ sym q in
      λ i. refused (times i) (streams i)

  one_media_reading :
      (bytes : List ℕ) (one other : Arrival) → time_of one ≡ time_of other → IsReadAsMedia bytes one → IsReadAsMedia bytes other
      → one ≡ other
  one_media_reading bytes (carries time seq ssrc word) (carries time' seq' ssrc' word') times a b =
      let same = media bytes seq ssrc seq' ssrc' word word' a b in
      λ i. carries (times i) (same.0 i) (same.1 i) (same.2 i)
  one_media_reading bytes (carries time seq ssrc word) (protects time' by' parity') times a b = absurd b
  one_media_reading bytes (carries time seq ssrc word) (refused time' by') times a b = absurd (b.1 seq ssrc word a)
  one_media_reading bytes (protects time by parity) other times a b = absurd a
  one_media_reading bytes (refused time by) (carries time' seq' ssrc' word') times a b = absurd (a.1 seq' ssrc' word' b)
  one_media_reading bytes (refused time by) (protects time' by' parity') times a b = absurd b
  one_media_reading bytes (refused time by) (refused time' by') times a b = one_refused time time' by by' kind.Media times a.0 b.0

  one_parity_reading :
      (kind : Kind) (bytes : List ℕ) (one other : Arrival) → time_of one ≡ time_of other → IsReadAsParity kind bytes one
      → IsReadAsParity kind bytes other → one ≡ other
  one_parity_reading kind bytes (carries time seq ssrc word) other times a b = absurd a
  one_parity_reading kind bytes (protects time by parity) (carries time' seq' ssrc' word') times a b = absurd b
  one_parity_reading kind bytes (protects time by parity) (protects time' by' parity') times a b =
      one_parity bytes time time' by by' kind parity parity' times a.0 b.0 a.1 b.1
  one_parity_reading kind bytes (protects time by parity) (refused time' by') times a b = absurd (b.1 a.1.0 a.1.1)
  one_parity_reading kind bytes (refused time by) (carries time' seq' ssrc' word') times a b = absurd b
  one_parity_reading kind bytes (refused time by) (protects time' by' parity') times a b = absurd (a.1 b.1.0 b.1.1)
  one_parity_reading kind bytes (refused time by) (refused time' by') times a b =
      one_refused time time' by by' kind times a.0 b.0

  -- Bytes are read in one way, but for the time at which they came.
  pub one_reading :
      (kind : Kind) (bytes : List ℕ) (one other : Arrival) → time_of one ≡ time_of other → IsReadAs kind bytes one
      → IsReadAs kind bytes other → one ≡ other
  one_reading kind.Media bytes one other times a b = one_media_reading bytes one other times a b
  one_reading kind.Column bytes one other times a b = one_parity_reading kind.Column bytes one other times a b
  one_reading kind.Row bytes one other times a b = one_parity_reading kind.Row bytes one other times a b

  pub one_arrival : (flow : ℕ) (r : Record) (one other : Arrival) → Arrives flow r one → Arrives flow r other → one ≡ other
  one_arrival flow r one other a b =
      let kinds : a.0 ≡ b.0 = one_kind flow r.port a.0 b.0 a.1 b.1 in
      one_reading b.0 r.datagram one other (a.3 ∙ sym b.3) (subst (λ (k : Kind). IsReadAs k r.datagram one) kinds a.2) b.2

  -- The same records are the same arrivals.
  pub one_list_arrives :
      (flow : ℕ) (records : List Record) (one other : List Arrival) → AllZip (Arrives flow) records one
      → AllZip (Arrives flow) records other → one ≡ other
  one_list_arrives flow records one other a b = zip_one (Arrives flow) (one_arrival flow) records one other a b

  pub arrivals_begin :
      (flow : ℕ) (records more : List Record) (one other : List Arrival) → AllZip (Arrives flow) records one
      → AllZip (Arrives flow) (records ++ more) other
      → (rest : List Arrival) × (other ≡ one ++ rest) × AllZip (Arrives flow) more rest
  arrivals_begin flow records more one other a b = zip_begins (Arrives flow) (one_arrival flow) records more one other a b
