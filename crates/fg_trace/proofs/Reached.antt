-- How far a trace is read, whatever a call comes to.
use Rattle.std.proofs.Common.{◌≡◌, ◌⊎◌, inl, inr, ℕ, ◌+◌, ◌<◌, ◌≤◌, Option, Result, Ok, Err, List, length, ◌++◌, ◌∷◌, [], subst, arith}
use Rattle.std.specs.Prelude.{IsErr}
use Rattle.std.specs.Io.KnownBytes.{IsAtEnd}
use Rattle.fg_trace.specs.declared.step.Finish.{Finish}
use Rattle.fg_trace.specs.declared.step.Finish.TheVariants as finish
use Rattle.fg_trace.specs.declared.step.TraceFault.TheVariants as fault
use Rattle.fg_trace.specs.Laws.{BeforeIsReadFor, AfterIsReadFor}
use Rattle.fg_trace.specs.declared.step.Step.TheVariants.{Datagram}
use Rattle.fg_trace.specs.Reader.{Answer, Opens, ReaderState, StandsAfter, Walks}
use Rattle.fg_trace.specs.Reading.{HasReached, most_held}
use Rattle.fg_trace.specs.Trace.{Record}
use Rattle.fg_io.specs.declared.fault.Fault.{Fault}
use Rattle.fg_io.specs.declared.fault.Fault.TheVariants.{Read, Write, Memory}
use Rattle.fg_trace.specs.Reached.{IsReadTo, Stands, answer_to}

-- a fault needs nothing
pub failed_reached : (came : Result Finish Fault) (reader : ReaderState) (left : Option (List ℕ)) → IsErr came → HasReached (answer_to came) reader left
failed_reached (Ok x) reader left h = absurd cc
failed_reached (Err Read) reader left h = tt
failed_reached (Err Write) reader left h = tt
failed_reached (Err Memory) reader left h = tt

at_limit : (found max : ℕ) (came : Result Finish Fault) (first now : Option (List ℕ)) → found ≡ max → IsReadTo found came first now → IsReadTo max came first now
at_limit found max came first now same h = subst (λ n. IsReadTo n came first now) same h

-- from where the reader stands
pub read_to : AfterIsReadFor → (came : Result Finish Fault) (max : ℕ) (reader : ReaderState) (first now : Option (List ℕ)) → reader.max ≡ max → Stands reader first now → reader.place + length reader.held ≤ reader.max + 1
    → HasReached (answer_to came) reader now → IsReadTo max came first now
read_to law came max reader first now same stands few reached = at_limit reader.max max came first now same (law (answer_to came) reader first now stands.0 stands.1 few reached)

-- where the reading of the magic failed
pub failed_at : BeforeIsReadFor → (max : ℕ) (reader : ReaderState) (first now : Option (List ℕ)) → reader.max ≡ max → Opens (Err fault.ReadFault) reader first now → reader.place + length reader.held ≤ reader.max + 1
    → IsReadTo max (Err Read) first now
failed_at law max reader first now same h few = at_limit reader.max max (Err Read) first now same (law finish.ReadFault reader first now h few tt)

-- where the reader found no magic
pub differs_at : BeforeIsReadFor → (max : ℕ) (reader : ReaderState) (first now : Option (List ℕ)) (n : ℕ) → reader.max ≡ max → Opens (Err (fault.NotTrace n)) reader first now → reader.place + length reader.held ≤ reader.max + 1
    → length reader.held ≤ most_held → (n < length reader.held) ⊎ IsAtEnd now → IsReadTo max (Ok (finish.NotTrace n)) first now
differs_at law max reader first now n same h few held differs =
    let found : (n < reader.place + length reader.held) ⊎ IsAtEnd now = elim differs [ inl short ↦ inl (omega (arith, short)) | inr end ↦ inr end ] in
    at_limit reader.max max (Ok (finish.NotTrace n)) first now same (law (finish.NotTrace n) reader first now h.0 few (found, omega (arith, h.0.start, held)))

-- where the reader stands after a record
pub stands_more : (reader next : ReaderState) (first left now : Option (List ℕ)) (records : List Record) (answer : Answer) (time port size : ℕ)
    → answer ≡ Ok (Datagram time port size) → ((records : List Record) → StandsAfter reader first left records → Walks answer next first now records)
    → StandsAfter reader first left records → StandsAfter next first now (records ++ (record { time = time; port = port; datagram = next.payload }) ∷ [])
stands_more reader next first left now records answer time port size is walks h =
    subst (λ (a : Answer). Walks a next first now records) is (walks records h)
