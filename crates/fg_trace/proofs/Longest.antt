-- The records that stand whole in what was read of an input.
use Rattle.std.proofs.Common.{◌≡◌, ℕ, ◌+◌, ◌<◌, ◌≤◌, Option, None, Some, IfSome, Ok, Err, List, ◌++◌, length, sym, ap, ◌∙◌, refl, subst, arith, append_assoc, length-append}
use Rattle.std.specs.List.{flat_map}
use Rattle.fg_trace.specs.declared.step.Step.TheVariants.{Datagram, End}
use Rattle.fg_trace.specs.declared.step.TraceFault.TheVariants.{ReadFault, NotTrace as NoMagic, TooLong as PastLimit, Cut as CutShort}
use Rattle.fg_trace.specs.Laws.{AnsweredIsLongest, UnopenedIsShort}
use Rattle.fg_trace.specs.Reader.{Answer, ReaderState, StandsAfter, IsEnding}
use Rattle.fg_trace.specs.Reading.{HoldsNext}
use Rattle.fg_trace.specs.Trace.{Record, spelling, magic, trace_of, StandsFirst, IsLongest}
use Rattle.fg_trace.proofs.Fronts.{no_difference}
use Rattle.fg_trace.proofs.Records.{same_front}
use Rattle.fg_trace.proofs.Stopping.{longest_here}

-- what comes before the same rest is the same
same_before : (a b rest : List ℕ) → a ++ rest ≡ b ++ rest → a ≡ b
same_before a b rest e =
    let long : length a ≡ length b = omega (arith, ap length e, length-append a rest, length-append b rest) in
    (same_front a b rest rest long e).0

-- what a source has given of its bytes is what was read of them
given_is_read : (bytes given read rest : List ℕ) → Some bytes ≡ Some (given ++ rest) → bytes ≡ read ++ rest → read ≡ given
given_is_read bytes given read rest told e =
    let whole : bytes ≡ given ++ rest = cc in
    same_before read given rest (sym e ∙ whole)

-- before an ending that follows the magic stands the longest list
longest_of_ending : (answer : Answer) (bytes rest : List ℕ) (max : ℕ) (records : List Record) → bytes ≡ magic ++ rest → IsEnding answer bytes max records → IsLongest bytes max records
longest_of_ending (Ok End) bytes rest max records e h = h.1
longest_of_ending (Ok (Datagram time port size)) bytes rest max records e h = absurd h
longest_of_ending (Err ReadFault) bytes rest max records e h = absurd h
longest_of_ending (Err (NoMagic n)) bytes rest max records e h = absurd (no_difference bytes rest n e h.1)
longest_of_ending (Err (PastLimit n)) bytes rest max records e h = h.1
longest_of_ending (Err (CutShort n)) bytes rest max records e h = h.1

-- the longest list of bytes is that of a front that holds it
longest_of_front : (bytes read rest held : List ℕ) (max : ℕ) (records : List Record) → IsLongest bytes max records → bytes ≡ read ++ rest → read ≡ trace_of records ++ held → IsLongest read max records
longest_of_front bytes read rest held max records h e f = record {
  begins = record { fit = h.begins.fit; within = h.begins.within; rest = held; spelled = f };
  most = λ others b.
      h.most others (record {
        fit = b.fit;
        within = b.within;
        rest = b.rest ++ rest;
        spelled = e ∙ ap (λ t. t ++ rest) b.spelled ∙ append_assoc (trace_of others) b.rest rest;
      });
}

-- a record that is not held whole and within the limit stands past it
next_is_past : (reader : ReaderState) (r : Record) (after : List ℕ) (n : ℕ) → reader.kept ≡ None → (HoldsNext reader → ⊥) → reader.place ≡ n → StandsFirst reader.held r after → reader.max < n + length (spelling r)
next_is_past reader r after n going none place stands =
    let past : (reader.place + length (spelling r) ≤ reader.max) → ⊥ =
    λ within. none (record { going = going; next = r; rest = after; stands = stands; within = within }) in
    omega (arith, past, place)

by_kept :
    (kept : Option Answer) (reader : ReaderState) (bytes read rest : List ℕ) (records : List Record) → reader.kept ≡ kept → StandsAfter reader (Some bytes) (Some rest) records → (HoldsNext reader → ⊥)
    → bytes ≡ read ++ rest → read ≡ trace_of records ++ reader.held → IsLongest read reader.max records
by_kept None reader bytes read rest records is h none e f =
    longest_here read reader.max records reader.held h.fit (omega (arith, h.place, h.within)) f
    (λ r after stands. next_is_past reader r after (length (trace_of records)) is none h.place stands)
by_kept (Some answer) reader bytes read rest records is h none e f =
    let ending : IsEnding answer bytes reader.max records =
    subst (λ (kept : Option Answer). IfSome kept (λ answer. IsEnding answer bytes reader.max records)) is h.ending in
    let begins : bytes ≡ magic ++ ((flat_map spelling records ++ reader.held) ++ rest) =
    e ∙ ap (λ t. t ++ rest) (f ∙ append_assoc magic (flat_map spelling records) reader.held) ∙ append_assoc magic (flat_map spelling records ++ reader.held) rest in
    longest_of_front bytes read rest reader.held reader.max records (longest_of_ending answer bytes ((flat_map spelling records ++ reader.held) ++ rest) reader.max records begins ending) e f

-- a reader that holds no next record has answered the longest list
pub answered : AnsweredIsLongest
answered reader bytes read rest records h none e =
    by_kept reader.kept reader bytes read rest records refl h none e (given_is_read bytes (trace_of records ++ reader.held) read rest h.given e)

-- before the magic was found, what was read is what is held
pub unopened : UnopenedIsShort
unopened reader bytes read rest h few e =
    let same : read ≡ reader.held = given_is_read bytes reader.held read rest h.given e in
    omega (arith, few, ap length same)
