-- How far the input is read.
use Rattle.std.proofs.Common.{◌≡◌, ◌⊎◌, inl, inr, ℕ, ◌+◌, ◌<◌, ◌≤◌, Option, Some, None, IfSome, Result, Ok, Err, List, [], length, subst, refl, arith}
use Rattle.std.specs.Io.KnownBytes.{IsAtEnd}
use Rattle.std.specs.Result.{IsErr}
use Rattle.fg_trace.specs.declared.step.Finish.{Finish}
use Rattle.fg_trace.specs.declared.step.Finish.TheVariants as finish
use Rattle.fg_report.specs.declared.tail.Tail.{Tail}
use Rattle.fg_report.specs.declared.tail.Tail.TheVariants as tail
use Rattle.fg_trace.specs.Finish.{IsFault, ReadsAll}
use Rattle.fg_trace.specs.Laws.{BeforeIsReadFor, AfterIsReadFor}
use Rattle.fg_trace.specs.Reader.{ReaderState, StandsBefore}
use Rattle.fg_trace.specs.Trace.{IsTrace, NotTrace}
use Rattle.fg_trace.specs.Reading.{most_held, HasReached, IsReadFor}
use Rattle.fg_io.specs.declared.fault.Fault.{Fault}
use Rattle.fg_io.specs.declared.fault.Fault.TheVariants.{Read, Write, Memory}
use Rattle.fg_flows.specs.declared.Plan.{Plan}
use Rattle.fg_engine.specs.Driver.{HasMagic}
use Rattle.fg_engine.specs.Engine.{HasRead, told_finish, answer_of}

-- At an answer

pub read_for : AfterIsReadFor → (max : ℕ) (answer : Finish) (reader : ReaderState) (first now : Option (List ℕ)) → HasRead max reader first now → HasReached answer reader now → IfSome first (λ bytes. IsReadFor max answer bytes now)
read_for law max answer reader first now h reached =
    subst (λ n. IfSome first (λ bytes. IsReadFor n answer bytes now)) h.limit (law answer reader first now h.records h.stands h.bounded reached)

pub fault_reached : (r : Result Finish Fault) (reader : ReaderState) (now : Option (List ℕ)) → IsErr r → HasReached (answer_of r) reader now
fault_reached (Ok x) reader now is = absurd cc
fault_reached (Err Read) reader now is = tt
fault_reached (Err Write) reader now is = tt
fault_reached (Err Memory) reader now is = tt

pub fault_is : (r : Result Finish Fault) → IsErr r → IsFault (answer_of r)
fault_is (Ok x) is = absurd cc
fault_is (Err Read) is = tt
fault_is (Err Write) is = tt
fault_is (Err Memory) is = tt

pub told_ends : (told : Tail) → IsFault (told_finish told) → ⊥
told_ends tail.Ended fault = absurd fault
told_ends (tail.Cut n) fault = absurd fault
told_ends (tail.TooLong n) fault = absurd fault

-- What differs from the magic was read, or there is nothing left.
pub none_read :
    BeforeIsReadFor → (max : ℕ) (first now : Option (List ℕ)) (reader : ReaderState) (n : ℕ) → reader.max ≡ max
    → reader.place + length reader.held ≤ reader.max + 1 → length reader.held ≤ most_held → (n < length reader.held) ⊎ IsAtEnd now
    → StandsBefore reader first now → IfSome first (λ bytes. IsReadFor max (finish.NotTrace n) bytes now)
none_read law max first now reader n same bounded few differs h =
    subst (λ m. IfSome first (λ bytes. IsReadFor m (finish.NotTrace n) bytes now)) same
    (law (finish.NotTrace n) reader first now h bounded (seen n (length reader.held) reader.place now h.start differs, omega (arith, h.start)))
  where
    seen : (n held place : ℕ) (now : Option (List ℕ)) → place ≡ 0 → (n < held) ⊎ IsAtEnd now → (n < place + held) ⊎ IsAtEnd now
    seen n held place now none (inl below) = inl (omega arith)
    seen n held place now none (inr end) = inr end

-- A read fault needs no more than was read.
pub fault_read :
    BeforeIsReadFor → (max : ℕ) (first now : Option (List ℕ)) (reader : ReaderState) → reader.max ≡ max
    → reader.place + length reader.held ≤ reader.max + 1 → StandsBefore reader first now
    → IfSome first (λ bytes. IsReadFor max finish.ReadFault bytes now)
fault_read law max first now reader same bounded h =
    subst (λ m. IfSome first (λ bytes. IsReadFor m finish.ReadFault bytes now)) same (law finish.ReadFault reader first now h bounded tt)

-- Where nothing was made, what is no trace has made nothing.
pub none_made :
    {O K : Type 0} (max : ℕ) (first : Option (List ℕ)) (lanes : O) (out : K)
    → IfSome first (λ bytes. (place : ℕ) → IsTrace bytes max [] (NotTrace place) → (lanes ≡ lanes) × (out ≡ out))
none_made max None lanes out = tt
none_made max (Some bytes) lanes out = λ place trace. (refl, refl)

-- What is read to its end leaves nothing.
pub reached_end : (answer : Finish) (reader : ReaderState) (now : Option (List ℕ)) → HasReached answer reader now → ReadsAll answer → IsAtEnd now
reached_end finish.Done reader now reached all = reached
reached_end (finish.Cut n) reader now reached all = reached
reached_end (finish.NotTrace n) reader now reached all = absurd all
reached_end (finish.TooLong n) reader now reached all = absurd all
reached_end finish.ReadFault reader now reached all = absurd all
reached_end finish.WriteFault reader now reached all = absurd all
reached_end finish.Memory reader now reached all = absurd all

-- What has the magic is no trace to be refused.
pub magic_refuses : (P : Type 0) (plan : Plan) (first : Option (List ℕ)) → HasMagic plan first → IfSome first (λ bytes. (place : ℕ) → IsTrace bytes plan.max [] (NotTrace place) → P)
magic_refuses P plan None magic = tt
magic_refuses P plan (Some bytes) magic = λ place trace. absurd (magic place trace)
