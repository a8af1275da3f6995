-- How the records of a trace are written, from where the reader stands.
use Rattle.std.proofs.Common.{◌≡◌, ◌↔◌, ℕ, ◌+◌, ◌<◌, ◌≤◌, ◌^◌, Bool, true, false, IsTrue, Option, Some, None, IfSome, IfOk, OnErr, Result, Ok, Err, List, [], ◌∷◌, ◌++◌, length, refl, sym, ap, ◌∙◌, subst, arith, append_assoc, append-nil, length-append}
use Rattle.std.specs.Io.KnownBytes.{IsAtEnd}
use Rattle.std.specs.List.{flat_map, AllByRecursion}
use Rattle.std.proofs.lemmas.Grind.{flat_map-append}
use Rattle.fg_io.specs.declared.fault.Fault.{Fault}
use Rattle.fg_io.specs.Sent.{Sent}
use Rattle.fg_io.specs.Sink.{Gains, GainsPart}
use Rattle.fg_io.proofs.SentLemmas.{Sent-cut, Sent-part, Sent-stop, Sent-then, Sent-whole}
use Rattle.fg_io.proofs.SinkLemmas.{Gains-nil, GainsPart-front, GainsPart-nil}
use Rattle.fg_io.proofs.SourceLemmas.{Gives-told}
use Rattle.fg_trace.specs.declared.step.Step.TheVariants.{Datagram}
use Rattle.fg_trace.specs.declared.step.TraceFault.{TraceFault}
use Rattle.fg_trace.proofs.Opening.{few_spelled, stands_still}
use Rattle.fg_trace.proofs.Reached.{stands_more}
use Rattle.fg_trace.specs.Reader.{Answer, ReaderState, StandsAfter, Walks}
use Rattle.fg_trace.specs.Trace as trace
use Rattle.fg_trace.specs.Trace.{Record, Begins, Ending, IsTrace, trace_of}
use Rattle.fg_pcap.specs.declared.writer.Spelling.{Spelling}
use Rattle.fg_pcap.specs.declared.writer.SpellingEnding.{SpellingEnding}
use Rattle.fg_pcap.specs.declared.writer.SpellingEnding.TheVariants.{NotTrace, Unfit}
use Rattle.fg_pcap.specs.Laws.{OneSpelling, WrittenIsReadBack}
use Rattle.fg_pcap.specs.ReadFor.{ending_of}
use Rattle.fg_pcap.specs.Spelling.{FitsCapture, capture_of, file_header, most_datagram, seconds_end, spelling}
use Rattle.fg_pcap.specs.Steps.{Breaks, HasSpelled, IsNew, IsReadTo, IsUnderway, IsWritten}
use Rattle.fg_pcap.specs.ToCapture.{ComesBack, IsSpelled, LeavesNothing, ReachesFor, Spells, SpellsPart, StopsWith, WritesCapture, text_of}
use Rattle.fg_pcap.proofs.ComingBack.{comes_back}
use Rattle.fg_pcap.proofs.Fronts.{answer_for, written_front}
use Rattle.fg_pcap.proofs.Reaching.{HasReached, read_to}
use Rattle.fg_pcap.proofs.ReadFor.{fault_read}

-- Lists

pub one_more : (records : List Record) (r : Record) → length (records ++ r ∷ []) ≡ length records + 1
one_more records r = length-append records (r ∷ [])

pub fit_more : (records : List Record) (r : Record) → AllByRecursion FitsCapture records → FitsCapture r → AllByRecursion FitsCapture (records ++ r ∷ [])
fit_more [] r h k = (k, tt)
fit_more (q ∷ records) r h k = (h.0, fit_more records r h.1 k)

pub capture_more : (records : List Record) (r : Record) → capture_of (records ++ r ∷ []) ≡ capture_of records ++ spelling r
capture_more records r =
    ap (λ t. file_header ++ t) (flat_map-append spelling records (r ∷ []) ∙ ap (λ t. flat_map spelling records ++ t) (append-nil (spelling r)))
    ∙ sym (append_assoc file_header (flat_map spelling records) (spelling r))

-- Few records

pub few_spelt : (first now : Option (List ℕ)) (reader : ReaderState) (work : Spelling) (before after : Option (List ℕ)) → IsUnderway work reader first now before after → work.number < 2 ^ 60
few_spelt first now reader work before after h =
    let limit = h.limit in
    let within : length (trace_of h.records) ≤ reader.max = subst (λ n. n ≤ reader.max) h.stands.place h.stands.within in
    omega (arith, limit, within, h.number, few_spelled h.records)

-- Parts

-- the trace that the reader has walked is at the front of the bytes
begins : (bytes : List ℕ) (now : Option (List ℕ)) (reader : ReaderState) (records : List Record) → StandsAfter reader (Some bytes) now records → Begins bytes reader.max records
begins bytes now reader records h =
    let told = Gives-told (Some bytes) now (trace_of records ++ reader.held) bytes h.given refl in
    record {
      fit = h.fit;
      within = subst (λ n. n ≤ reader.max) h.place h.within;
      rest = reader.held ++ told.0;
      spelled = told.2 ∙ append_assoc (trace_of records) reader.held told.0;
    }

-- a prefix of the capture of records that fit is one of what is written
pub leaves_part : (first now : Option (List ℕ)) (reader : ReaderState) (records : List Record) (before after : Option (List ℕ)) → StandsAfter reader first now records → AllByRecursion FitsCapture records
    → GainsPart before (capture_of records) after → SpellsPart reader.max first before after
leaves_part None now reader records before after stands fit part = tt
leaves_part (Some bytes) now reader records before after stands fit part = λ answer all is.
    GainsPart-front before after (capture_of records) (text_of answer all) (written_front bytes reader.max all records answer fit (begins bytes now reader records stands) is) part

-- A record

fits : (time port size : ℕ) (datagram : List ℕ) → time < seconds_end → size ≤ most_datagram → size ≡ length datagram → FitsCapture (record { time = time; port = port; datagram = datagram })
fits time port size datagram t s e = record { time = t; size = subst (λ n. n ≤ most_datagram) e s }

pub underway_more :
    (first left now : Option (List ℕ)) (reader next : ReaderState) (work done : Spelling) (before at after : Option (List ℕ)) (answer : Answer) (time port size : ℕ)
    → answer ≡ Ok (Datagram time port size) → next.kept ≡ None → next.max ≡ reader.max → ((records : List Record) → StandsAfter reader first left records → Walks answer next first now records)
    → time < seconds_end → size ≤ most_datagram → size ≡ length next.payload
    → Sent at (work.held ++ spelling (record { time = time; port = port; datagram = next.payload })) done.held after → done.number ≡ work.number + 1
    → IsUnderway work reader first left before at → IsUnderway done next first now before after
underway_more first left now reader next work done before at after answer time port size is untold max walks t s sized sent number h =
    let r : Record = record { time = time; port = port; datagram = next.payload } in
    record {
      records = h.records ++ r ∷ [];
      stands = stands_more reader next first left now h.records answer time port size is walks h.stands;
      untold = untold;
      limit = subst (λ n. n ≤ 2 ^ 40) (sym max) h.limit;
      fit = fit_more h.records r h.fit (fits time port size next.payload t s sized);
      number = number ∙ ap (λ n. n + 1) h.number ∙ sym (one_more h.records r);
      sent = subst (λ bytes. Sent before bytes done.held after) (sym (capture_more h.records r))
          (Sent-then before at after (capture_of h.records) work.held (spelling r) done.held h.sent sent);
    }

-- What a fault leaves

pub breaks_at_record :
    (first left now : Option (List ℕ)) (reader next : ReaderState) (work : Spelling) (before at after : Option (List ℕ)) (answer : Answer) (time port size : ℕ)
    → next.max ≡ reader.max → next.place + length next.held ≤ next.max + 1
    → answer ≡ Ok (Datagram time port size) → ((records : List Record) → StandsAfter reader first left records → Walks answer next first now records)
    → time < seconds_end → size ≤ most_datagram → size ≡ length next.payload
    → GainsPart at (work.held ++ spelling (record { time = time; port = port; datagram = next.payload })) after
    → IsUnderway work reader first left before at → Breaks reader.max first now before after
breaks_at_record first left now reader next work before at after answer time port size max few is walks t s sized part h =
    let r : Record = record { time = time; port = port; datagram = next.payload } in
    let stands = stands_more reader next first left now h.records answer time port size is walks h.stands in
    let gained : GainsPart before (capture_of (h.records ++ r ∷ [])) after = subst (λ bytes. GainsPart before bytes after) (sym (capture_more h.records r))
    (Sent-part before at after (capture_of h.records) work.held (spelling r) h.sent part) in
    subst (λ n. Breaks n first now before after) max
    (leaves_part first now next (h.records ++ r ∷ []) before after stands (fit_more h.records r h.fit (fits time port size next.payload t s sized)) gained, read_to None next first now (h.records ++ r ∷ []) stands few tt)

pub breaks_at_fault :
    (first left now : Option (List ℕ)) (reader next : ReaderState) (work : Spelling) (before at : Option (List ℕ)) (why : TraceFault)
    → next.max ≡ reader.max → next.place + length next.held ≤ next.max + 1
    → ((records : List Record) → StandsAfter reader first left records → Walks (Err why) next first now records)
    → IsUnderway work reader first left before at → Breaks reader.max first now before at
breaks_at_fault first left now reader next work before at why max few walks h =
    let stands = stands_still next first now h.records why (walks h.records h.stands) in
    let gained : GainsPart before (capture_of h.records) at = subst (λ bytes. GainsPart before bytes at) (append-nil (capture_of h.records)) (Sent-stop before at (capture_of h.records) work.held [] h.sent) in
    subst (λ n. Breaks n first now before at) max
    (leaves_part first now next h.records before at stands h.fit gained, read_to None next first now h.records stands few tt)

-- The end

-- the first record that doesn't fit
pub stops_at :
    (first left now : Option (List ℕ)) (reader next : ReaderState) (work : Spelling) (before at : Option (List ℕ)) (answer : Answer) (time port size : ℕ) (fit : Bool)
    → next.place + length next.held ≤ next.max + 1
    → length next.held ≤ 327744
    → answer ≡ Ok (Datagram time port size) → ((records : List Record) → StandsAfter reader first left records → Walks answer next first now records)
    → (IsTrue fit ↔ ((time < seconds_end) × (size ≤ most_datagram))) → fit ≡ false → size ≡ length next.payload
    → IsUnderway work reader first left before at → HasSpelled work next (Unfit work.number) first now before at
stops_at first left now reader next work before at answer time port size fit few held is walks tells refused sized h =
    let r : Record = record { time = time; port = port; datagram = next.payload } in
    let stands = stands_more reader next first left now h.records answer time port size is walks h.stands in
    let unfit : ¬ FitsCapture r = λ f. (let told : fit ≡ true = tells.1 (f.time, subst (λ n. n ≤ most_datagram) (sym sized) f.size) in cc) in
    record {
      records = h.records;
      of_input = told first r stands unfit;
      sent = h.sent;
      read = read_to (Some (Unfit work.number)) next first now (h.records ++ r ∷ []) stands few (one_more h.records r ∙ ap (λ n. n + 1) (sym h.number), held);
      at_end = λ all. absurd all;
    }
  where
    told : (first : Option (List ℕ)) (r : Record) → StandsAfter next first now (h.records ++ r ∷ []) → (¬ FitsCapture r) → IfSome first (λ bytes. IsSpelled (Unfit work.number) bytes next.max h.records)
    told None r stands unfit = tt
    told (Some bytes) r stands unfit = record {
      fit = h.fit;
      stops = record { next = r; begins = begins bytes now next (h.records ++ r ∷ []) stands; number = h.number; unfit = unfit };
    }

trace_stops : (end : Ending) (bytes : List ℕ) (max : ℕ) (records : List Record) → IsTrace bytes max records end → StopsWith (answer_for end) bytes max records
trace_stops trace.Ended bytes max records h = h
trace_stops (trace.NotTrace n) bytes max records h = h
trace_stops (trace.Cut n) bytes max records h = h
trace_stops (trace.TooLong n) bytes max records h = h

all_spelled : (end : Ending) (first : Option (List ℕ)) (max : ℕ) (records : List Record) → AllByRecursion FitsCapture records → IfSome first (λ bytes. IsTrace bytes max records end) → IfSome first (λ bytes. IsSpelled (answer_for end) bytes max records)
all_spelled end None max records fit h = tt
all_spelled end (Some bytes) max records fit h = record { fit = fit; stops = trace_stops end bytes max records h }

-- the trace's ending after records that all fit
pub spelled_all :
    (first left now : Option (List ℕ)) (reader next : ReaderState) (work : Spelling) (before at : Option (List ℕ)) (end : Ending) (ending : SpellingEnding)
    → next.place + length next.held ≤ next.max + 1 → ending ≡ answer_for end
    → ((records : List Record) → HasReached (answer_for end) next now records) → ((records : List Record) → text_of (answer_for end) records ≡ capture_of records) → (LeavesNothing (answer_for end) → IsAtEnd now)
    → ((records : List Record) → StandsAfter reader first left records → StandsAfter next first now records × IfSome first (λ bytes. IsTrace bytes next.max records end))
    → IsUnderway work reader first left before at → HasSpelled work next ending first now before at
spelled_all first left now reader next work before at end ending few is reached text at_end walks h =
    subst (λ f. HasSpelled work next f first now before at) (sym is)
    (record {
      records = h.records;
      of_input = all_spelled end first next.max h.records h.fit (walks h.records h.stands).1;
      sent = subst (λ bytes. Sent before bytes work.held at) (sym (text h.records)) h.sent;
      read = read_to (Some (answer_for end)) next first now h.records (walks h.records h.stands).0 few (reached h.records);
      at_end = at_end;
    })

-- From the first record

pub file_header_is : (161 ∷ 178 ∷ 195 ∷ 212 ∷ 0 ∷ 2 ∷ 0 ∷ 4 ∷ 0 ∷ 0 ∷ 0 ∷ 0 ∷ 0 ∷ 0 ∷ 0 ∷ 0 ∷ 0 ∷ 4 ∷ 0 ∷ 0 ∷ 0 ∷ 0 ∷ 0 ∷ 1 ∷ []) ≡ file_header
unfolding file_header
file_header_is = refl

-- the file header is written or held
pub underway : (first now : Option (List ℕ)) (reader : ReaderState) (work : Spelling) (next header : List ℕ) (before after : Option (List ℕ)) → header ≡ file_header → Sent before (work.held ++ header) next after
    → IsNew work reader first now → IsUnderway (record work { held = next }) reader first now before after
underway first now reader work next header before after is sent h = record {
  records = [];
  stands = h.stands;
  untold = h.untold;
  limit = h.limit;
  fit = tt;
  number = h.number;
  sent = subst (λ bytes. Sent before bytes next after) (ap (λ held. held ++ header) h.held ∙ is ∙ sym (append-nil file_header)) sent;
}

-- it isn't all written
pub breaks_at_header : (first now : Option (List ℕ)) (reader : ReaderState) (work : Spelling) (header : List ℕ) (before after : Option (List ℕ)) → header ≡ file_header → GainsPart before (work.held ++ header) after
    → IsNew work reader first now → Breaks reader.max first now before after
breaks_at_header first now reader work header before after is part h = (
  leaves_part first now reader [] before after h.stands tt (subst (λ bytes. GainsPart before bytes after) (ap (λ held. held ++ header) h.held ∙ is ∙ sym (append-nil file_header)) part),
  read_to None reader first now [] h.stands h.bounded tt,
)

-- what is held is written
pub written : (first now : Option (List ℕ)) (reader : ReaderState) (ending : SpellingEnding) (work : Spelling) (before at after : Option (List ℕ)) → Gains at work.held after → HasSpelled work reader ending first now before at
    → IsWritten reader.max ending first now before after
written first now reader ending work before at after gained h = record {
  spells = record {
    records = h.records;
    of_input = h.of_input;
    gained = Sent-whole before at after (text_of ending h.records) work.held h.sent gained;
  };
  read = h.read;
  at_end = h.at_end;
}

spells_part : OneSpelling → (first now : Option (List ℕ)) (reader : ReaderState) (ending : SpellingEnding) (work : Spelling) (before at after : Option (List ℕ)) → GainsPart at work.held after → HasSpelled work reader ending first now before at → SpellsPart reader.max first before after
spells_part law None now reader ending work before at after part h = tt
spells_part law (Some bytes) now reader ending work before at after part h = λ answer records is.
    let same = law bytes reader.max h.records records ending answer h.of_input is in
    let texts : text_of ending h.records ≡ text_of answer records = ap (λ f. text_of f h.records) same.1 ∙ ap (λ rs. text_of answer rs) same.0 in
    subst (λ t. GainsPart before t after) texts (Sent-cut before at after (text_of ending h.records) work.held h.sent part)

pub breaks_at_end : OneSpelling → (first now : Option (List ℕ)) (reader : ReaderState) (ending : SpellingEnding) (work : Spelling) (before at after : Option (List ℕ)) → GainsPart at work.held after → HasSpelled work reader ending first now before at
    → Breaks reader.max first now before after
breaks_at_end law first now reader ending work before at after part h =
    (spells_part law first now reader ending work before at after part h, fault_read (ReachesFor reader.max) reader.max (Some ending) first now h.read)

-- Nothing is written

pub spells_none : (first : Option (List ℕ)) (found max place : ℕ) (written : Option (List ℕ)) → found ≡ max → IfSome first (λ bytes. IsTrace bytes found [] (trace.NotTrace place)) → Spells max (NotTrace place) first written written
spells_none first found max place written same h = record {
  records = [];
  of_input = all_spelled (trace.NotTrace place) first max [] tt (subst (λ n. IfSome first (λ bytes. IsTrace bytes n [] (trace.NotTrace place))) same h);
  gained = Gains-nil written;
}

pub none_is_part : (max : ℕ) (first written : Option (List ℕ)) → SpellsPart max first written written
none_is_part max None written = tt
none_is_part max (Some bytes) written = λ answer records is. GainsPart-nil written (text_of answer records)

-- of bytes there is one ending
pub one_ending : OneSpelling → (max : ℕ) (first : Option (List ℕ)) (ending : SpellingEnding) (before after : Option (List ℕ)) → Spells max ending first before after
    → IfSome first (λ bytes. (due : SpellingEnding) (records : List Record) → IsSpelled due bytes max records → ending ≡ due)
one_ending law max None ending before after h = tt
one_ending law max (Some bytes) ending before after h = λ due records is. (law bytes max h.records records ending due h.of_input is).1

-- What the walk comes to, under the limit that the reader was made with

pub record Comes (max : ℕ) (came : Result SpellingEnding Fault) (first now before after : Option (List ℕ)) : Type 0 where
  pub whole : IfOk came (λ ending. Spells max ending first before after)
  pub exactly : IfOk came (λ ending. IfSome first (λ bytes. (due : SpellingEnding) (records : List Record) → IsSpelled due bytes max records → ending ≡ due))
  pub all_read : IfOk came (λ ending. LeavesNothing ending → IsAtEnd now)
  pub comes_back : IfOk came (λ ending. IfSome first (λ bytes. WritesCapture ending → ComesBack max ending bytes before after))
  pub reads : IsReadTo max (ending_of came) first now
  pub part : OnErr came (SpellsPart max first before after)

pub comes : OneSpelling → WrittenIsReadBack → (New : Option (List ℕ) → Type 0) (found max : ℕ) (came : Result SpellingEnding Fault) (first now before after : Option (List ℕ)) → found ≡ max → New first
    → IfOk came (λ ending. (first : Option (List ℕ)) → New first → IsWritten found ending first now before after)
    → OnErr came ((first : Option (List ℕ)) → New first → Breaks found first now before after)
    → Comes max came first now before after
comes law back New found max (Ok ending) first now before after same new h k =
    let all = subst (λ n. IsWritten n ending first now before after) same (h first new) in
    record {
      whole = all.spells;
      exactly = one_ending law max first ending before after all.spells;
      all_read = all.at_end;
      comes_back = comes_back law back max ending first before after all.spells;
      reads = all.read;
      part = tt;
    }
comes law back New found max (Err fault) first now before after same new h k =
    let broken = subst (λ n. Breaks n first now before after) same (k first new) in
    record { whole = tt; exactly = tt; all_read = tt; comes_back = tt; reads = broken.1; part = broken.0 }
