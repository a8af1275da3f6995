-- Where a reader stands, as it takes bytes in and answers records.
use Rattle.std.proofs.Common.{◌≡◌, ℕ, ◌+◌, ◌<◌, ◌≤◌, ◌^◌, Option, None, IfSome, Ok, List, [], ◌∷◌, ◌++◌, length, take, drop, sym, ap, ◌∙◌, refl, subst, arith, append_assoc, length-append}
use Rattle.std.specs.Int.{to_be_bytes, w16, w64}
use Rattle.std.specs.List.{flat_map, AllByRecursion}
use Rattle.std.proofs.lemmas.List.{take-append-drop, drop-drop, length-take-le}
use Rattle.fg_io.specs.Source.{Gives}
use Rattle.fg_io.proofs.SourceLemmas.{Gives-trans}
use Rattle.fg_trace.specs.declared.step.Step.{Step}
use Rattle.fg_trace.specs.declared.step.Step.TheVariants.{Datagram}
use Rattle.fg_trace.specs.Header.{IsHeader, BeginsMagic}
use Rattle.fg_trace.specs.Trace.{Record, Fits, spelling, magic, trace_of, StandsFirst}
use Rattle.fg_trace.specs.Reader.{Answer, ReaderState, StandsBefore, StandsAfter, KeepsEnding, IsEnding, Walks}
use Rattle.fg_trace.specs.Walk.{TakesIn, HoldsRecord, after_record, after_magic}
use Rattle.fg_trace.proofs.Records.{spelling_by_header}
use Rattle.fg_trace.proofs.Traces.{spelled_last}

-- nothing is kept, so what is kept is right
pub keeps_none : (reader : ReaderState) (first : Option (List ℕ)) (records : List Record) → reader.kept ≡ None → KeepsEnding reader first records
keeps_none reader first records none = subst (λ (kept : Option Answer). IfSome kept (λ answer. IfSome first (λ bytes. IsEnding answer bytes reader.max records))) (sym none) tt

-- two takings in a row
pub takes_trans : (one two three : ReaderState) (first second third : Option (List ℕ)) → TakesIn one first two second → TakesIn two second three third → TakesIn one first three third
takes_trans one two three first second third h k = record {
  same = k.same ∙ ap (λ (t : ReaderState). record t { held = three.held; payload = [] }) h.same;
  takes = record {
    given = h.takes.given ++ k.takes.given;
    gives = Gives-trans first second third h.takes.given k.takes.given h.takes.gives k.takes.gives;
    grown = k.takes.grown ∙ ap (λ t. t ++ k.takes.given) h.takes.grown ∙ append_assoc one.held h.takes.given k.takes.given;
  };
}

-- bytes were taken in before the magic was found
pub before_taking : (old new : ReaderState) (first left rest : Option (List ℕ)) → StandsBefore old first left → TakesIn old left new rest → StandsBefore new first rest
before_taking old new first left rest h k = record {
  unstarted = ap (λ (t : ReaderState). t.started) k.same ∙ h.unstarted;
  start = ap (λ (t : ReaderState). t.place) k.same ∙ h.start;
  given = subst (λ t. Gives first t rest) (sym k.takes.grown) (Gives-trans first left rest old.held k.takes.given h.given k.takes.gives);
  ending = subst (λ (t : ReaderState). KeepsEnding t first []) (sym k.same) h.ending;
}

-- bytes were taken in after some records
pub after_taking : (old new : ReaderState) (first left rest : Option (List ℕ)) (records : List Record) → StandsAfter old first left records → TakesIn old left new rest → StandsAfter new first rest records
after_taking old new first left rest records h k =
    let longer : Gives first ((trace_of records ++ old.held) ++ k.takes.given) rest = Gives-trans first left rest (trace_of records ++ old.held) k.takes.given h.given k.takes.gives in
    let whole : (trace_of records ++ old.held) ++ k.takes.given ≡ trace_of records ++ new.held = append_assoc (trace_of records) old.held k.takes.given ∙ ap (λ t. trace_of records ++ t) (sym k.takes.grown) in
    record {
      started = ap (λ (t : ReaderState). t.started) k.same ∙ h.started;
      fit = h.fit;
      place = ap (λ (t : ReaderState). t.place) k.same ∙ h.place;
      within = subst (λ (t : ReaderState). t.place ≤ t.max) (sym k.same) h.within;
      given = subst (λ t. Gives first t rest) whole longer;
      ending = subst (λ (t : ReaderState). KeepsEnding t first records) (sym k.same) h.ending;
    }

-- how long a record's spelling is
pub length_spelling : (r : Record) → length (spelling r) ≡ 12 + length r.datagram
length_spelling r = omega arith

-- the record at the front
pub front_record : (held : List ℕ) (time port size : ℕ) → IsHeader held time port size → 12 + size ≤ length held
    → (let r : Record = record { time = time; port = port; datagram = take size (drop 12 held) } in StandsFirst held r (drop (12 + size) held) × (length r.datagram ≡ size))
front_record held time port size h whole =
    let rest : drop 12 held ≡ h.rest = ap (drop 12) h.spelled in
    let long : length held ≡ 12 + length h.rest = omega (arith, ap length h.spelled) in
    let datagram : List ℕ = take size (drop 12 held) in
    let counted : length datagram ≡ size = length-take-le size (drop 12 held) (omega (arith, whole, long, ap length rest)) in
    let behind : drop size (drop 12 held) ≡ drop (12 + size) held = drop-drop size 12 held in
    let split : h.rest ≡ datagram ++ drop (12 + size) held = sym rest ∙ sym (take-append-drop size (drop 12 held)) ∙ ap (λ t. datagram ++ t) behind in
    let r : Record = record { time = time; port = port; datagram = datagram } in (
      record {
        fits = record { time = h.time_fits; port = h.port_fits; size = subst (λ n. n < 2 ^ 16) (sym counted) h.size_fits };
        spelled = h.spelled ∙ ap (λ t. to_be_bytes w64 time ++ (to_be_bytes w16 port ++ (to_be_bytes w16 size ++ t))) split
            ∙ ap (λ n. to_be_bytes w64 time ++ (to_be_bytes w16 port ++ (to_be_bytes w16 n ++ (datagram ++ drop (12 + size) held)))) (sym counted)
            ∙ sym (spelling_by_header r (drop (12 + size) held));
      },
      counted,
    )

-- a header stays when more comes behind it
pub header_longer : (held given : List ℕ) (time port size : ℕ) → IsHeader held time port size → IsHeader (held ++ given) time port size
header_longer held given time port size h = record {
  rest = h.rest ++ given;
  spelled = ap (λ t. t ++ given) h.spelled;
  time_fits = h.time_fits;
  port_fits = h.port_fits;
  size_fits = h.size_fits;
}

-- a list of records that fit, and one more
all_fit_more : (rs : List Record) (r : Record) → AllByRecursion Fits rs → Fits r → AllByRecursion Fits (rs ++ r ∷ [])
all_fit_more [] r h k = (k, tt)
all_fit_more (q ∷ rs) r h k = (h.0, all_fit_more rs r h.1 k)

-- the trace of some records and one more
pub trace_more : (rs : List Record) (r : Record) → trace_of (rs ++ r ∷ []) ≡ trace_of rs ++ spelling r
trace_more rs r = ap (λ t. magic ++ t) (spelled_last rs r) ∙ sym (append_assoc magic (flat_map spelling rs) (spelling r))

-- the record at the front was answered
pub after_answer : (reader : ReaderState) (first left : Option (List ℕ)) (records : List Record) (time port size : ℕ) → StandsAfter reader first left records → reader.kept ≡ None → HoldsRecord reader.max reader.place reader.held time port size
    → (let r : Record = record { time = time; port = port; datagram = take size (drop 12 reader.held) } in StandsAfter (after_record reader size) first left (records ++ r ∷ []))
after_answer reader first left records time port size h none k =
    let r : Record = record { time = time; port = port; datagram = take size (drop 12 reader.held) } in
    let front = front_record reader.held time port size k.header k.whole in
    let longer : trace_of (records ++ r ∷ []) ≡ trace_of records ++ spelling r = trace_more records r in
    let split : trace_of records ++ reader.held ≡ trace_of (records ++ r ∷ []) ++ drop (12 + size) reader.held = ap (λ t. trace_of records ++ t) front.0.spelled
    ∙ sym (append_assoc (trace_of records) (spelling r) (drop (12 + size) reader.held)) ∙ ap (λ t. t ++ drop (12 + size) reader.held) (sym longer) in
    record {
      started = h.started;
      fit = all_fit_more records r h.fit front.0.fits;
      place = omega (arith, h.place, front.1, length_spelling r, ap length longer, length-append (trace_of records) (spelling r));
      within = k.within;
      given = subst (λ t. Gives first t left) split h.given;
      ending = keeps_none (after_record reader size) first (records ++ r ∷ []) none;
    }

-- the magic was found
pub after_opening : (reader : ReaderState) (first left : Option (List ℕ)) → StandsBefore reader first left → reader.kept ≡ None → BeginsMagic reader.held → 8 ≤ reader.max → StandsAfter (after_magic reader) first left []
after_opening reader first left h none k least =
    let rest : drop 8 reader.held ≡ k.0 = ap (drop 8) k.1 in
    let split : reader.held ≡ trace_of [] ++ drop 8 reader.held = k.1 ∙ ap (λ t. trace_of [] ++ t) (sym rest) in
    record {
      started = refl;
      fit = tt;
      place = refl;
      within = least;
      given = subst (λ t. Gives first t left) split h.given;
      ending = keeps_none (after_magic reader) first [] none;
    }

-- what the answer of a record says
pub walks_record : (reader new : ReaderState) (first left : Option (List ℕ)) (records : List Record) (time port size : ℕ) (step : Step) → StandsAfter reader first left records → reader.kept ≡ None → HoldsRecord reader.max reader.place reader.held time port size
    → step ≡ Datagram time port size → new ≡ after_record reader size → Walks (Ok step) new first left records
walks_record reader new first left records time port size step h none k told taken =
    let after = after_answer reader first left records time port size h none k in
    let says : Walks (Ok (Datagram time port size)) new first left records = subst (λ (t : ReaderState). StandsAfter t first left (records ++ (record { time = time; port = port; datagram = t.payload }) ∷ [])) (sym taken) after in
    subst (λ (s : Step). Walks (Ok s) new first left records) (sym told) says
