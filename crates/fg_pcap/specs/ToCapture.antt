-- What the writing of a trace as a capture comes to. This project's own.
use Rattle.std.specs.Prelude.{◌≡◌, ℕ, ◌+◌, ◌<◌, ◌≤◌, ◌⊎◌, ⊤, List, [], ◌∷◌, ◌++◌, Option, IfSome, length}
use Rattle.std.specs.List.{AllByRecursion}
use Rattle.fg_io.specs.Texts.{Texts}
use Rattle.fg_io.specs.Sink.{Gains, GainsPart}
use Rattle.fg_trace.specs.Reading.{most_held}
use Rattle.fg_trace.specs.Trace as trace
use Rattle.fg_trace.specs.Trace.{Record, Begins, IsTrace, trace_of}
use Rattle.fg_pcap.specs.declared.ending.CaptureEnding.TheVariants.{Ended}
use Rattle.fg_pcap.specs.declared.writer.SpellingEnding.{SpellingEnding}
use Rattle.fg_pcap.specs.declared.writer.SpellingEnding.TheVariants.{Done, NotTrace, Unfit, Cut, TooLong}
use Rattle.fg_pcap.specs.FromCapture.{ComesTo}
use Rattle.fg_pcap.specs.Spelling.{FitsCapture, capture_of}

-- A trace begins with these records, and then with one that doesn't fit a capture, whose number, from 0, is `k`.
pub record StopsAt (bytes : List ℕ) (max : ℕ) (records : List Record) (k : ℕ) : Type 0 where
  pub next : Record
  pub begins : Begins bytes max (records ++ next ∷ [])
  pub number : k ≡ length records
  pub unfit : ¬ FitsCapture next

-- With this ending, the records of the bytes' trace are spelled so far, where nothing fails: to the first that doesn't fit, or
-- else all, and then it is the trace's ending.
abbrev pub StopsWith : SpellingEnding → List ℕ → ℕ → List Record → Type 0
StopsWith Done bytes max records = IsTrace bytes max records trace.Ended
StopsWith (NotTrace n) bytes max records = IsTrace bytes max records (trace.NotTrace n)
StopsWith (Cut n) bytes max records = IsTrace bytes max records (trace.Cut n)
StopsWith (TooLong n) bytes max records = IsTrace bytes max records (trace.TooLong n)
StopsWith (Unfit k) bytes max records = StopsAt bytes max records k

-- These records, which fit a capture, are those that are written of the bytes, and this is the ending. There is one such
-- ending, and one such list.
pub record IsSpelled (ending : SpellingEnding) (bytes : List ℕ) (max : ℕ) (records : List Record) : Type 0 where
  pub fit : AllByRecursion FitsCapture records
  pub stops : StopsWith ending bytes max records

-- What is written with this ending: of what is no trace nothing, and else the capture of the records.
abbrev pub text_of : SpellingEnding → List Record → List ℕ
text_of (NotTrace n) records = []
text_of Done records = capture_of records
text_of (Cut n) records = capture_of records
text_of (TooLong n) records = capture_of records
text_of (Unfit k) records = capture_of records

-- The sink has gained what is written of the input, with this ending.
pub record Spells (max : ℕ) (ending : SpellingEnding) (input before after : Option (List ℕ)) : Type 0 where
  pub records : List Record
  pub of_input : IfSome input (λ bytes. IsSpelled ending bytes max records)
  pub gained : Gains before (text_of ending records) after

-- The sink has gained a prefix of that.
abbrev pub SpellsPart : ℕ → Texts
SpellsPart max input before after =
    IfSome input (λ bytes. (ending : SpellingEnding) (records : List Record)
    → IsSpelled ending bytes max records → GainsPart before (text_of ending records) after)

-- The endings with which a capture is written.
abbrev pub WritesCapture : SpellingEnding → Type 0
WritesCapture Done = ⊤
WritesCapture (Unfit k) = ⊤
WritesCapture (Cut n) = ⊤
WritesCapture (TooLong n) = ⊤
WritesCapture (NotTrace n) = ⊥

-- The capture is read as this trace, under every limit that it is within.
abbrev pub IsReadAs : List ℕ → List ℕ → Type 0
IsReadAs capture trace = (max : ℕ) → length capture ≤ max → ComesTo capture max trace Ended

-- The sink has gained a capture that is read as the trace of the records that were written of these bytes: as the bytes
-- themselves, where they are a trace whose records all fit a capture.
pub record ComesBack (max : ℕ) (ending : SpellingEnding) (bytes : List ℕ) (before after : Option (List ℕ)) : Type 0 where
  pub capture : List ℕ
  pub gained : Gains before capture after
  pub read_back : (records : List Record) → IsSpelled ending bytes max records → IsReadAs capture (trace_of records)
  pub whole : ending ≡ Done → IsReadAs capture bytes

-- The endings after which nothing of the input is left.
abbrev pub LeavesNothing : SpellingEnding → Type 0
LeavesNothing Done = ⊤
LeavesNothing (Cut n) = ⊤
LeavesNothing (NotTrace n) = ⊥
LeavesNothing (Unfit k) = ⊥
LeavesNothing (TooLong n) = ⊥

-- The record with this number, from 0, was read whole, and no more bytes after it than a reader of traces holds.
pub record ReachesRecord (max : ℕ) (read : List ℕ) (k : ℕ) : Type 0 where
  pub records : List Record
  pub begins : Begins read max records
  pub number : length records ≡ k + 1
  pub few : length begins.rest ≤ most_held

-- A trace was read as far as this ending needs: these bytes were read, and these are left. To its end; to the first byte
-- that differs from the magic, or to the end where there is none; through the record that doesn't fit; past the limit.
abbrev pub ReachesFor : ℕ → SpellingEnding → List ℕ → List ℕ → Type 0
ReachesFor max Done read rest = rest ≡ []
ReachesFor max (Cut n) read rest = rest ≡ []
ReachesFor max (NotTrace n) read rest = ((n < length read) ⊎ (rest ≡ [])) × (length read ≤ most_held)
ReachesFor max (Unfit k) read rest = ReachesRecord max read k
ReachesFor max (TooLong n) read rest = max < length read
