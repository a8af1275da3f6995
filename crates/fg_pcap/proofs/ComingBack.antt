-- What is written of a trace comes back.
use Rattle.std.proofs.Common.{◌≡◌, inr, ℕ, Option, Some, None, IfSome, List, [], ◌∷◌, ◌++◌, length, refl, sym, ap, ◌∙◌, subst, arith, append-nil, length-append}
use Rattle.std.specs.List.{AllByRecursion}
use Rattle.fg_io.specs.Sink.{Gains}
use Rattle.fg_trace.specs.Trace as trace
use Rattle.fg_trace.specs.Trace.{Record, Begins, Fits, IsTrace, trace_of}
use Rattle.fg_pcap.specs.declared.writer.SpellingEnding.{SpellingEnding}
use Rattle.fg_pcap.specs.declared.writer.SpellingEnding.TheVariants.{Done, NotTrace, Unfit, Cut, TooLong}
use Rattle.fg_pcap.specs.Laws.{OneSpelling, WrittenIsReadBack}
use Rattle.fg_pcap.specs.Spelling.{capture_of}
use Rattle.fg_pcap.specs.ToCapture.{ComesBack, IsReadAs, IsSpelled, Spells, StopsWith, WritesCapture, text_of}

-- the records that are written fit a trace
front_fits : (records more : List Record) → AllByRecursion Fits (records ++ more) → AllByRecursion Fits records
front_fits [] more h = tt
front_fits (r ∷ records) more h = (h.0, front_fits records more h.1)

records_fit : (answer : SpellingEnding) (bytes : List ℕ) (max : ℕ) (records : List Record) → WritesCapture answer → StopsWith answer bytes max records → AllByRecursion Fits records
records_fit Done bytes max records w h = h.1.begins.fit
records_fit (Cut n) bytes max records w h = h.1.begins.fit
records_fit (TooLong n) bytes max records w h = h.1.begins.fit
records_fit (Unfit k) bytes max records w h = front_fits records (h.next ∷ []) h.begins.fit
records_fit (NotTrace n) bytes max records w h = absurd w

-- and are written as their capture
written : (answer : SpellingEnding) (records : List Record) → WritesCapture answer → text_of answer records ≡ capture_of records
written Done records w = refl
written (Cut n) records w = refl
written (TooLong n) records w = refl
written (Unfit k) records w = refl
written (NotTrace n) records w = absurd w

-- a trace that ends after its records is theirs
nothing : (rest : List ℕ) → length rest ≡ 0 → rest ≡ []
nothing [] e = refl
nothing (b ∷ rest) e = absurd (omega (arith, e))

whole_trace : (bytes : List ℕ) (max : ℕ) (records : List Record) → IsTrace bytes max records trace.Ended → trace_of records ≡ bytes
whole_trace bytes max records h =
    let b = h.1.begins in
    let none = nothing b.rest (omega (arith, h.2, ap length b.spelled, length-append (trace_of records) b.rest)) in
    sym (b.spelled ∙ ap (λ rest. trace_of records ++ rest) none ∙ append-nil (trace_of records))

read_as : WrittenIsReadBack → (answer : SpellingEnding) (bytes : List ℕ) (max : ℕ) (records : List Record) → WritesCapture answer → IsSpelled answer bytes max records → IsReadAs (capture_of records) (trace_of records)
read_as law answer bytes max records w h =
    λ limit within. inr (records, law records limit (records_fit answer bytes max records w h.stops) h.fit within, refl)

of_done : (bytes : List ℕ) (max : ℕ) (records : List Record) (answer : SpellingEnding) → answer ≡ Done → IsSpelled answer bytes max records → trace_of records ≡ bytes
of_done bytes max records answer e h = whole_trace bytes max records (subst (λ (a : SpellingEnding). StopsWith a bytes max records) e h.stops)

pub comes_back : OneSpelling → WrittenIsReadBack → (max : ℕ) (answer : SpellingEnding) (input before after : Option (List ℕ)) → Spells max answer input before after
    → IfSome input (λ bytes. WritesCapture answer → ComesBack max answer bytes before after)
comes_back one law max answer None before after h = tt
comes_back one law max answer (Some bytes) before after h = λ w.
    let back = read_as law answer bytes max h.records w h.of_input in
    record {
      capture = capture_of h.records;
      gained = subst (λ (t : List ℕ). Gains before t after) (written answer h.records w) h.gained;
      read_back = λ records is. subst (λ (rs : List Record). IsReadAs (capture_of h.records) (trace_of rs)) (one bytes max h.records records answer answer h.of_input is).0 back;
      whole = λ e. subst (λ (t : List ℕ). IsReadAs (capture_of h.records) t) (of_done bytes max h.records answer e h.of_input) back;
    }
