-- What a reader has answered, wherever it stands.
use Rattle.std.proofs.Common.{◌≡◌, inl, inr, ℕ, ◌≤◌, Option, Some, Ok, Err, List, [], ◌∷◌, ◌++◌, length, take, sym, ap, ◌∙◌, refl, arith, append_assoc, append-nil, length-append}
use Rattle.std.specs.List.{AllByRecursion}
use Rattle.std.proofs.lemmas.List.{take_at}
use Rattle.fg_io.proofs.SourceLemmas.{Gives-told}
use Rattle.fg_trace.specs.declared.step.Step.TheVariants.{Datagram, End}
use Rattle.fg_trace.specs.declared.step.TraceFault.TheVariants.{ReadFault, NotTrace as NoMagic, TooLong as PastLimit, Cut as CutShort}
use Rattle.fg_trace.specs.Trace.{Record, Fits, trace_of, Begins, IsLongest, Ending, Ended, NotTrace, Cut, TooLong, IsTrace}
use Rattle.fg_trace.specs.Reader.{Answer, ReaderState, StandsAfter, IsEnding, Walks}
use Rattle.fg_trace.proofs.Fronts.{traces}
use Rattle.fg_trace.proofs.Endings.{apart, one_trace, spelled_is_read}

-- the records that a reader has answered begin the bytes
pub begun : (reader : ReaderState) (bytes : List ℕ) (now : Option (List ℕ)) (records : List Record) → StandsAfter reader (Some bytes) now records → Begins bytes reader.max records
begun reader bytes now records h =
    let told = Gives-told (Some bytes) now (trace_of records ++ reader.held) bytes h.given refl in
    record {
      fit = h.fit;
      within = omega (arith, h.place, h.within);
      rest = reader.held ++ told.0;
      spelled = told.2 ∙ append_assoc (trace_of records) reader.held told.0;
    }

none_more : (records all tail : List Record) → records ≡ all ++ tail → length records ≤ length all → records ≡ take (length records) all
none_more records all [] e few =
    let same : all ≡ records = sym (e ∙ append-nil all) in
    let whole : take (length records) records ≡ records = ap (take (length records)) (sym (append-nil records)) ∙ take_at records [] (length records) refl in
    sym whole ∙ ap (take (length records)) (sym same)
none_more records all (r ∷ tail) e few = absurd (omega (arith, few, ap length e, length-append all (r ∷ tail)))

-- records that begin the bytes are the first of the most that do
first_records : (bytes : List ℕ) (max : ℕ) (records all : List Record) → Begins bytes max records → IsLongest bytes max all → records ≡ take (length records) all
first_records bytes max records all b h = elim (traces bytes max max records all b h.begins) [
  | inl w ↦ none_more records all w.0 w.1 (h.most records b)
  | inr w ↦ sym (ap (take (length records)) w.2 ∙ take_at records (w.0 ∷ w.1) (length records) refl)
]

pub walks_the_front : (reader : ReaderState) (bytes : List ℕ) (now : Option (List ℕ)) (records all : List Record) (end : Ending) → StandsAfter reader (Some bytes) now records → IsTrace bytes reader.max all end → records ≡ take (length records) all
walks_the_front reader bytes now records all Ended h k = first_records bytes reader.max records all (begun reader bytes now records h) k.1
walks_the_front reader bytes now records all (Cut n) h k = first_records bytes reader.max records all (begun reader bytes now records h) k.1
walks_the_front reader bytes now records all (TooLong n) h k = first_records bytes reader.max records all (begun reader bytes now records h) k.1
walks_the_front reader bytes now records all (NotTrace n) h k = absurd (apart bytes reader.max records n (begun reader bytes now records h) k.1)

-- the answer that tells an ending
answer_of : Ending → Answer
answer_of Ended = Ok End
answer_of (NotTrace n) = Err (NoMagic n)
answer_of (Cut n) = Err (CutShort n)
answer_of (TooLong n) = Err (PastLimit n)

-- the ending that an answer tells
told_ending : (answer : Answer) (bytes : List ℕ) (max : ℕ) (records : List Record) → IsEnding answer bytes max records → (end : Ending) × (answer ≡ answer_of end) × IsTrace bytes max records end
unfolding answer_of
told_ending (Ok End) bytes max records h = (Ended, refl, h)
told_ending (Ok (Datagram time port size)) bytes max records h = absurd h
told_ending (Err ReadFault) bytes max records h = absurd h
told_ending (Err (NoMagic n)) bytes max records h = (NotTrace n, refl, h)
told_ending (Err (CutShort n)) bytes max records h = (Cut n, refl, h)
told_ending (Err (PastLimit n)) bytes max records h = (TooLong n, refl, h)

pub ends_once : (bytes : List ℕ) (max : ℕ) (records all : List Record) (one other : Answer) → IsEnding one bytes max records → IsEnding other bytes max all → (records ≡ all) × (one ≡ other)
ends_once bytes max records all one other h k =
    let first = told_ending one bytes max records h in
    let second = told_ending other bytes max all k in
    let same = one_trace bytes max records all first.0 second.0 first.2 second.2 in
    (same.0, first.1 ∙ ap answer_of same.1 ∙ sym second.1)

pub walks_on : (answer : Answer) (reader : ReaderState) (first now : Option (List ℕ)) (records : List Record) → Walks answer reader first now records → (all : List Record) × StandsAfter reader first now all
walks_on (Ok (Datagram time port size)) reader first now records h = (records ++ (record { time = time; port = port; datagram = reader.payload }) ∷ [], h)
walks_on (Ok End) reader first now records h = (records, h.0)
walks_on (Err ReadFault) reader first now records h = (records, h)
walks_on (Err (NoMagic n)) reader first now records h = (records, h.0)
walks_on (Err (CutShort n)) reader first now records h = (records, h.0)
walks_on (Err (PastLimit n)) reader first now records h = (records, h.0)

pub spelled_is_walked : (reader : ReaderState) (now : Option (List ℕ)) (records all : List Record) → AllByRecursion Fits all → length (trace_of all) ≤ reader.max → StandsAfter reader (Some (trace_of all)) now records
    → (records ≡ take (length records) all) × ((answer : Answer) → IsEnding answer (trace_of all) reader.max records → (records ≡ all) × (answer ≡ Ok End))
spelled_is_walked reader now records all fit within h =
    let whole = spelled_is_read all reader.max fit within in
    (walks_the_front reader (trace_of all) now records all Ended h whole, λ answer k. ends_once (trace_of all) reader.max records all answer (Ok End) k whole)
