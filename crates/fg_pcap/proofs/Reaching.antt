-- How far the input is read, whatever the writing of a capture comes to.
use Rattle.std.proofs.Common.{◌≡◌, ◌⊎◌, inl, inr, ℕ, ◌+◌, ◌<◌, ◌≤◌, Option, None, Some, IfSome, Err, List, ◌++◌, length, refl, subst, arith, length-append}
use Rattle.std.specs.Io.KnownBytes.{IsAtEnd}
use Rattle.fg_io.proofs.SourceLemmas.{Gives-told}
use Rattle.fg_trace.specs.declared.step.Finish.{Finish}
use Rattle.fg_trace.specs.declared.step.Finish.TheVariants as finish
use Rattle.fg_trace.specs.declared.step.TraceFault.TheVariants as fault
use Rattle.fg_trace.specs.Laws.{BeforeIsReadFor}
use Rattle.fg_trace.specs.Reader.{ReaderState, Opens, StandsAfter}
use Rattle.fg_trace.specs.Reading as reading
use Rattle.fg_trace.specs.Reading.{most_held}
use Rattle.fg_trace.specs.Trace.{Record, trace_of}
use Rattle.fg_pcap.specs.declared.writer.SpellingEnding.{SpellingEnding}
use Rattle.fg_pcap.specs.declared.writer.SpellingEnding.TheVariants.{Done, NotTrace, Unfit, Cut, TooLong}
use Rattle.fg_pcap.specs.Steps.{IsReadTo}
use Rattle.fg_pcap.specs.ToCapture.{ReachesFor}

-- From where the reader stands after records

-- the reader, which stands after so many records, has reached what the ending needs
abbrev pub HasReached : SpellingEnding → ReaderState → Option (List ℕ) → List Record → Type 0
HasReached Done reader left records = IsAtEnd left
HasReached (Cut n) reader left records = IsAtEnd left
HasReached (NotTrace n) reader left records = ⊥
HasReached (Unfit k) reader left records = (length records ≡ k + 1) × (length reader.held ≤ most_held)
HasReached (TooLong n) reader left records = reader.max < reader.place + length reader.held

reached : (ending : SpellingEnding) (reader : ReaderState) (first now : Option (List ℕ)) (records : List Record) (rest : List ℕ) → StandsAfter reader first now records → HasReached ending reader (Some rest) records → ReachesFor reader.max ending (trace_of records ++ reader.held) rest
reached Done reader first now records rest h r = r
reached (Cut n) reader first now records rest h r = r
reached (NotTrace n) reader first now records rest h r = absurd r
reached (Unfit k) reader first now records rest h r = record {
  records = records;
  begins = record {
    fit = h.fit;
    within = subst (λ n. n ≤ reader.max) h.place h.within;
    rest = reader.held;
    spelled = refl;
  };
  number = r.0;
  few = r.1;
}
reached (TooLong n) reader first now records rest h r = omega (arith, r, h.place, length-append (trace_of records) reader.held)

-- the same once an ending is told
abbrev pub HasReachedFor : Option SpellingEnding → ReaderState → Option (List ℕ) → List Record → Type 0
HasReachedFor ending reader left records = IfSome ending (λ end. HasReached end reader left records)

reached_for : (ending : Option SpellingEnding) (reader : ReaderState) (first now : Option (List ℕ)) (records : List Record) (rest : List ℕ) → StandsAfter reader first now records → HasReachedFor ending reader (Some rest) records
    → IfSome ending (λ end. ReachesFor reader.max end (trace_of records ++ reader.held) rest)
reached_for None reader first now records rest h r = tt
reached_for (Some end) reader first now records rest h r = reached end reader first now records rest h r

pub read_to : (ending : Option SpellingEnding) (reader : ReaderState) (first now : Option (List ℕ)) (records : List Record) → StandsAfter reader first now records → reader.place + length reader.held ≤ reader.max + 1
    → HasReachedFor ending reader now records → IsReadTo reader.max ending first now
read_to ending reader None now records h few r = tt
read_to ending reader (Some bytes) now records h few r =
    let told = Gives-told (Some bytes) now (trace_of records ++ reader.held) bytes h.given refl in
    record {
      read = trace_of records ++ reader.held;
      rest = told.0;
      now_is = told.1;
      all = told.2;
      reaches = reached_for ending reader (Some bytes) now records told.0 h (subst (λ (left : Option (List ℕ)). HasReachedFor ending reader left records) told.1 r);
      bounded = omega (arith, few, h.place, length-append (trace_of records) reader.held);
    }

-- From where the reader looks for the magic

pub at_limit : (found max : ℕ) (ending : Option SpellingEnding) (first now : Option (List ℕ)) → found ≡ max → IsReadTo found ending first now → IsReadTo max ending first now
at_limit found max ending first now same h = subst (λ n. IsReadTo n ending first now) same h

-- what was read for the answer of a reader is read for an ending that needs no more
read_as : (max : ℕ) (answer : Finish) (ending : Option SpellingEnding) (first now : Option (List ℕ)) → ((read rest : List ℕ) → reading.ReachesFor max answer read rest → IfSome ending (λ end. ReachesFor max end read rest))
    → IfSome first (λ bytes. reading.IsReadFor max answer bytes now) → IsReadTo max ending first now
read_as max answer ending None now more h = tt
read_as max answer ending (Some bytes) now more h = record {
  read = h.read;
  rest = h.rest;
  now_is = h.now_is;
  all = h.all;
  reaches = more h.read h.rest h.reaches;
  bounded = h.bounded;
}

-- where the reading of the magic failed
pub failed_at : BeforeIsReadFor → (max : ℕ) (reader : ReaderState) (first now : Option (List ℕ)) → reader.max ≡ max → Opens (Err fault.ReadFault) reader first now
    → reader.place + length reader.held ≤ reader.max + 1 → IsReadTo max None first now
failed_at law max reader first now same h few =
    at_limit reader.max max None first now same (read_as reader.max finish.ReadFault None first now (λ read rest r. tt) (law finish.ReadFault reader first now h few tt))

-- where the reader found no magic
pub differs_at : BeforeIsReadFor → (max : ℕ) (reader : ReaderState) (first now : Option (List ℕ)) (n : ℕ) → reader.max ≡ max → Opens (Err (fault.NotTrace n)) reader first now → reader.place + length reader.held ≤ reader.max + 1
    → length reader.held ≤ most_held → (n < length reader.held) ⊎ IsAtEnd now → IsReadTo max (Some (NotTrace n)) first now
differs_at law max reader first now n same h few held differs =
    let found : (n < reader.place + length reader.held) ⊎ IsAtEnd now = elim differs [ inl short ↦ inl (omega (arith, short)) | inr end ↦ inr end ] in
    at_limit reader.max max (Some (NotTrace n)) first now same
    (read_as reader.max (finish.NotTrace n) (Some (NotTrace n)) first now (λ read rest r. r) (law (finish.NotTrace n) reader first now h.0 few (found, omega (arith, h.0.start, held))))
