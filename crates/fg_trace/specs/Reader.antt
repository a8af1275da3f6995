-- What contracts see of a reader of a trace, and where it stands: this project's own rule.
use Rattle.std.specs.Prelude.{◌≡◌, ◌+◌, ◌≤◌, ◌⊎◌, ℕ, ⊤, Bool, true, false, Option, None, Some, IfSome, IsSome, Result, Ok, Err, List, [], ◌∷◌, ◌++◌, length, nat_lt, nat_eq, if◌then◌else◌}
use Rattle.std.specs.List.{AllByRecursion}
use Rattle.fg_io.specs.Source.{Gives}
use Rattle.fg_trace.specs.declared.step.Step.{Step}
use Rattle.fg_trace.specs.declared.step.Step.TheVariants.{Datagram, End}
use Rattle.fg_trace.specs.declared.step.TraceFault.{TraceFault}
use Rattle.fg_trace.specs.declared.step.TraceFault.TheVariants.{ReadFault, NotTrace as NoMagic, TooLong as PastLimit, Cut as CutShort}
use Rattle.fg_trace.specs.Trace.{Record, Fits, trace_of, IsTrace, Ended, NotTrace, TooLong, Cut}

-- What a call for the next record answers.
abbrev pub Answer : Type 0
Answer = Result Step TraceFault

-- The most bytes that the trace may have; whether the magic was found; the place of the first byte that belongs to no
-- answered record; the bytes that were read from there on; the payload of the record answered last; and the answer that
-- stays, once there is one.
pub record ReaderState : Type 0 where
  pub max : ℕ
  pub started : Bool
  pub place : ℕ
  pub held : List ℕ
  pub payload : List ℕ
  pub kept : Option Answer

-- A reader that has read nothing.
abbrev pub new_reader : ℕ → ReaderState
new_reader max = record { max = max; started = false; place = 0; held = []; payload = []; kept = None }

-- The answer is the ending of the trace of these bytes, whose records are these.
abbrev pub IsEnding : Answer → List ℕ → ℕ → List Record → Type 0
IsEnding (Ok End) bytes max records = IsTrace bytes max records Ended
IsEnding (Err (NoMagic n)) bytes max records = IsTrace bytes max records (NotTrace n)
IsEnding (Err (CutShort n)) bytes max records = IsTrace bytes max records (Cut n)
IsEnding (Err (PastLimit n)) bytes max records = IsTrace bytes max records (TooLong n)
IsEnding (Ok (Datagram time port size)) bytes max records = ⊥
IsEnding (Err ReadFault) bytes max records = ⊥

-- An answer that was kept is the ending, where the source tells its bytes.
abbrev pub KeepsEnding : ReaderState → Option (List ℕ) → List Record → Type 0
KeepsEnding reader first records =
    IfSome reader.kept (λ answer. IfSome first (λ bytes. IsEnding answer bytes reader.max records))

-- The reader looks for the magic: the source, which had `first` left, has given what the reader holds.
pub record StandsBefore (reader : ReaderState) (first now : Option (List ℕ)) : Type 0 where
  pub unstarted : reader.started ≡ false
  pub start : reader.place ≡ 0
  pub given : Gives first reader.held now
  pub ending : KeepsEnding reader first []

-- The reader stands after these records: the source, which had `first` left, has given the trace of these records within
-- the limit, and then what the reader holds.
pub record StandsAfter (reader : ReaderState) (first now : Option (List ℕ)) (records : List Record) : Type 0 where
  pub started : reader.started ≡ true
  pub fit : AllByRecursion Fits records
  pub place : reader.place ≡ length (trace_of records)
  pub within : reader.place ≤ reader.max
  pub given : Gives first (trace_of records ++ reader.held) now
  pub ending : KeepsEnding reader first records

-- What an answer to `start` says of the bytes that the source had: the magic was found; or they are no trace; or a read
-- failed, and nothing is lost.
abbrev pub Opens : Result (Unit {0}) TraceFault → ReaderState → Option (List ℕ) → Option (List ℕ) → Type 0
Opens (Ok _) reader first now = StandsAfter reader first now []
Opens (Err (NoMagic n)) reader first now =
    StandsBefore reader first now × IfSome first (λ bytes. IsTrace bytes reader.max [] (NotTrace n))
Opens (Err ReadFault) reader first now = StandsBefore reader first now
Opens (Err (CutShort n)) reader first now = ⊥
Opens (Err (PastLimit n)) reader first now = ⊥

-- The reader stands after these records, which are all, and the answer is the ending.
abbrev pub StandsAtEnding : Answer → ReaderState → Option (List ℕ) → Option (List ℕ) → List Record → Type 0
StandsAtEnding answer reader first now records =
    StandsAfter reader first now records × IfSome first (λ bytes. IsEnding answer bytes reader.max records)

-- What an answer to `next` says, after these records: they go on with this one; or they are all, and the trace ends so; or
-- a read failed, and nothing is lost.
abbrev pub Walks : Answer → ReaderState → Option (List ℕ) → Option (List ℕ) → List Record → Type 0
Walks (Ok (Datagram time port size)) reader first now records =
    StandsAfter reader first now (records ++ (record { time = time; port = port; datagram = reader.payload }) ∷ [])
Walks (Err ReadFault) reader first now records = StandsAfter reader first now records
Walks (Ok End) reader first now records = StandsAtEnding (Ok End) reader first now records
Walks (Err (NoMagic n)) reader first now records = StandsAtEnding (Err (NoMagic n)) reader first now records
Walks (Err (CutShort n)) reader first now records = StandsAtEnding (Err (CutShort n)) reader first now records
Walks (Err (PastLimit n)) reader first now records = StandsAtEnding (Err (PastLimit n)) reader first now records

-- How many bytes the payload has after an answer.
abbrev pub payload_size : Answer → ℕ
payload_size (Ok (Datagram time port size)) = size
payload_size (Ok End) = 0
payload_size (Err fault) = 0

-- How many bytes of the trace an answer goes on by.
abbrev pub record_size : Answer → ℕ
record_size (Ok (Datagram time port size)) = 12 + size
record_size (Ok End) = 0
record_size (Err fault) = 0

-- The answer that each later call gives again, if it is one.
abbrev pub kept_answer : Answer → Option Answer
kept_answer (Ok (Datagram time port size)) = None
kept_answer (Ok End) = Some (Ok End)
kept_answer (Err ReadFault) = None
kept_answer (Err (NoMagic n)) = Some (Err (NoMagic n))
kept_answer (Err (CutShort n)) = Some (Err (CutShort n))
kept_answer (Err (PastLimit n)) = Some (Err (PastLimit n))

-- The ending that a reader finds that has so many bytes from a place on.
abbrev pub ending_at : ℕ → ℕ → ℕ → Answer
ending_at max place count =
    if nat_lt max (place + count) then Err (PastLimit place) else (if nat_eq count 0 then Ok End else Err (CutShort place))

-- The endings that are found at the input's end.
abbrev pub ReadsToEnd : Answer → Type 0
ReadsToEnd (Ok End) = ⊤
ReadsToEnd (Err (CutShort n)) = ⊤
ReadsToEnd (Ok (Datagram time port size)) = ⊥
ReadsToEnd (Err ReadFault) = ⊥
ReadsToEnd (Err (NoMagic n)) = ⊥
ReadsToEnd (Err (PastLimit n)) = ⊥

-- The answer again of `start`: a fault that is kept, else that the magic was found.
abbrev pub start_answer : Option Answer → Result (Unit {0}) TraceFault
start_answer (Some (Err fault)) = Err fault
start_answer (Some (Ok step)) = Ok tt
start_answer None = Ok tt

-- The faults of a `start` that reads: of the reading, or that the bytes are no trace.
abbrev pub IsOfStart : TraceFault → Type 0
IsOfStart ReadFault = ⊤
IsOfStart (NoMagic n) = ⊤
IsOfStart (CutShort n) = ⊥
IsOfStart (PastLimit n) = ⊥

-- The faults of `next`: of the reading, or of a trace's end.
abbrev pub IsOfNext : TraceFault → Type 0
IsOfNext ReadFault = ⊤
IsOfNext (NoMagic n) = ⊥
IsOfNext (CutShort n) = ⊤
IsOfNext (PastLimit n) = ⊤

-- `start` has answered that it found the magic, or an answer is kept.
abbrev pub IsDecided : ReaderState → Type 0
IsDecided reader = (reader.started ≡ true) ⊎ IsSome reader.kept
