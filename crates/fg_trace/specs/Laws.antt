-- Laws that show the definition of the trace, and of where a reader stands, to be right.
use Rattle.std.specs.Prelude.{◌≡◌, ◌+◌, ◌<◌, ◌≤◌, ◌++◌, ℕ, Option, Some, IfSome, Ok, List, length, take}
use Rattle.std.specs.List.{AllByRecursion}
use Rattle.fg_trace.specs.declared.step.Finish.{Finish}
use Rattle.fg_trace.specs.declared.step.Step.TheVariants.{End}
use Rattle.fg_trace.specs.Trace.{Record, Fits, Ending, Ended, IsTrace, IsLongest, magic, trace_of}
use Rattle.fg_trace.specs.Finish.{IsFault}
use Rattle.fg_trace.specs.Reader.{Answer, ReaderState, StandsBefore, StandsAfter, IsEnding, Walks}
use Rattle.fg_trace.specs.Reading.{HasReached, HoldsNext, IsReadFor}

-- Bytes have at most one list of records, and one ending.
abbrev pub OneTrace : Type 0
OneTrace = (bytes : List ℕ) (max : ℕ) (one other : List Record) (end end' : Ending)
    → IsTrace bytes max one end → IsTrace bytes max other end' → (one ≡ other) × (end ≡ end')

-- What a list of records spells is read as that list.
abbrev pub SpelledIsRead : Type 0
SpelledIsRead = (records : List Record) (max : ℕ)
    → AllByRecursion Fits records → length (trace_of records) ≤ max → IsTrace (trace_of records) max records Ended

-- Wherever a reader stands, it has answered the first records of the trace.
abbrev pub WalksTheFront : Type 0
WalksTheFront = (reader : ReaderState) (bytes : List ℕ) (now : Option (List ℕ)) (records all : List Record) (end : Ending)
    → StandsAfter reader (Some bytes) now records → IsTrace bytes reader.max all end → records ≡ take (length records) all

-- One answer is the ending of a trace, after one list of records.
abbrev pub EndsOnce : Type 0
EndsOnce = (bytes : List ℕ) (max : ℕ) (records all : List Record) (one other : Answer)
    → IsEnding one bytes max records → IsEnding other bytes max all → (records ≡ all) × (one ≡ other)

-- A trace that was written is read back: wherever a reader stands in it, it has answered the first of the records written,
-- and the one ending comes after them all.
abbrev pub SpelledIsWalked : Type 0
SpelledIsWalked = (reader : ReaderState) (now : Option (List ℕ)) (records all : List Record)
    → AllByRecursion Fits all → length (trace_of all) ≤ reader.max
    → StandsAfter reader (Some (trace_of all)) now records
    → (records ≡ take (length records) all)
    × ((answer : Answer) → IsEnding answer (trace_of all) reader.max records → (records ≡ all) × (answer ≡ Ok End))

-- Whatever `next` answers, the reader stands after some records.
abbrev pub WalksOn : Type 0
WalksOn = (answer : Answer) (reader : ReaderState) (first now : Option (List ℕ)) (records : List Record)
    → Walks answer reader first now records → (all : List Record) × StandsAfter reader first now all

-- Where nothing was read, a fault needs no more.
abbrev pub UnreadIsReadFor : Type 0
UnreadIsReadFor = (max : ℕ) (answer : Finish) (first : Option (List ℕ))
    → IsFault answer → IfSome first (λ bytes. IsReadFor max answer bytes first)

-- A reader that looks for the magic has read of its source what it holds.
abbrev pub BeforeIsReadFor : Type 0
BeforeIsReadFor = (answer : Finish) (reader : ReaderState) (first now : Option (List ℕ))
    → StandsBefore reader first now → reader.place + length reader.held ≤ reader.max + 1
    → HasReached answer reader now → IfSome first (λ bytes. IsReadFor reader.max answer bytes now)

-- A reader that stands after some records has read their trace, and what it holds.
abbrev pub AfterIsReadFor : Type 0
AfterIsReadFor = (answer : Finish) (reader : ReaderState) (first now : Option (List ℕ)) (records : List Record)
    → StandsAfter reader first now records → reader.place + length reader.held ≤ reader.max + 1
    → HasReached answer reader now → IfSome first (λ bytes. IsReadFor reader.max answer bytes now)

-- At the front of bytes stands one longest list of records at most.
abbrev pub OneLongest : Type 0
OneLongest = (bytes : List ℕ) (max : ℕ) (one other : List Record)
    → IsLongest bytes max one → IsLongest bytes max other → one ≡ other

-- A reader that holds no next record whole has answered all that stand whole in what was read of its source.
abbrev pub AnsweredIsLongest : Type 0
AnsweredIsLongest = (reader : ReaderState) (bytes read rest : List ℕ) (records : List Record)
    → StandsAfter reader (Some bytes) (Some rest) records → (¬ HoldsNext reader) → bytes ≡ read ++ rest
    → IsLongest read reader.max records

-- Of its source a reader that looks for the magic has read no more than it holds.
abbrev pub UnopenedIsShort : Type 0
UnopenedIsShort = (reader : ReaderState) (bytes read rest : List ℕ)
    → StandsBefore reader (Some bytes) (Some rest) → length reader.held < length magic → bytes ≡ read ++ rest
    → length read < length magic
