-- How records are read: how many there can be, on which port of a flow they are, and as what.
use Rattle.std.proofs.Common.{◌≡◌, ◌≢◌, ◌+◌, ◌<◌, ◌≤◌, ◌^◌, ℕ, false, List, length, Option, refl, subst, arith}
use Rattle.std.proofs.lemmas.Bool.Decides.{nat_tests}
use Rattle.fg_trace.proofs.Opening.{few_spelled}
use Rattle.fg_trace.specs.Reader.{ReaderState, StandsAfter}
use Rattle.fg_trace.specs.Trace.{Record, trace_of}
use Rattle.fg_shape.specs.declared.kind.Kind.{Kind}
use Rattle.fg_shape.specs.declared.kind.Kind.TheVariants as kind
use Rattle.fg_shape.specs.declared.kind.Kind.TheVariants.{Media, Column, Row}
use Rattle.fg_shape.specs.Kind.{port_of}
use Rattle.fg_flows.specs.declared.Plan.{Plan}
use Rattle.fg_flows.specs.Plan.{PlanFits}
use Rattle.fg_playout.specs.Run.{Arrival}
use Rattle.fg_results.specs.Flow.{is_of, IsReadAs, IsReadAsParity}

-- A trace under a plan's limit has few records.
pub few_records : (plan : Plan) → PlanFits plan → (first now : Option (List ℕ)) (reader : ReaderState) (records : List Record) → reader.max ≡ plan.max → StandsAfter reader first now records → length records < 2 ^ 43
few_records plan fits first now reader records max h =
    let most : plan.max ≤ 2 ^ 42 = fits.max.1 in
    let within : length (trace_of records) ≤ plan.max = subst (λ n. length (trace_of records) ≤ n) max (subst (λ n. n ≤ reader.max) h.place h.within) in
    omega (arith, few_spelled records)

-- A record on none of a flow's ports is none of its records.
pub is_of_no : (flow : ℕ) (r : Record) → ((k : Kind) → port_of flow k ≡ r.port → ⊥) → is_of flow r ≡ false
is_of_no flow r never =
    let media : flow ≡ r.port → ⊥ = never kind.Media in
    let column : flow + 2 ≡ r.port → ⊥ = never kind.Column in
    let row : flow + 4 ≡ r.port → ⊥ = never kind.Row in
    grind (arith, nat_tests)

-- On a port that isn't for media a datagram is read as a parity datagram.
pub as_parity : (kind : Kind) (bytes : List ℕ) (arrival : Arrival) → kind ≢ Media → IsReadAsParity kind bytes arrival → IsReadAs kind bytes arrival
as_parity Media bytes arrival other read = absurd (other refl)
as_parity Column bytes arrival other read = read
as_parity Row bytes arrival other read = read
