-- What the lanes have gained once what waits is put, and where a put fails.
use Rattle.std.proofs.Common.{◌≡◌, ◌⊎◌, inl, inr, ℕ, ◌+◌, ◌<◌, ◌≤◌, Option, Some, None, List, ◌++◌, length, take, slice_index, refl, sym, ap, ◌∙◌, subst, arith, append_assoc, append-nil}
use Rattle.std.specs.List.{Contains}
use Rattle.std.proofs.lemmas.Bool.{cases_lt, cases_eq}
use Rattle.std.proofs.lemmas.List.{get_or_default, get_or-take, length-take, take_all}
use Rattle.fg_io.specs.Prefix.{IsPrefix}
use Rattle.fg_io.specs.Outlet.{Lanes, lane_bytes}
use Rattle.fg_trace.specs.Trace.{Record}
use Rattle.fg_flows.specs.declared.Plan.{Plan}
use Rattle.fg_flows.specs.Plan.{playout_of}
use Rattle.fg_flows.specs.Flows.{IsTable}
use Rattle.fg_flows.specs.Laws.{OneFlowHasAPort}
use Rattle.fg_results.specs.Laws.{OneGained}
use Rattle.fg_results.specs.Stops.{HasShown, LiesBetween, Taking}
use Rattle.fg_engine.specs.declared.shelved.Shelved.{Shelved}
use Rattle.fg_engine.specs.Engine.{AreThere, GrowAll, LanesGrow}
use Rattle.fg_engine.proofs.Lanes.{contains_at, told_then}
use Rattle.fg_engine.proofs.Standing.{ports_differ}
use Rattle.fg_batches.specs.Batches.{BreaksEmptying, waiting}
use Rattle.fg_batches.specs.Walking.{HasPut, BreaksInBatch}

-- Lanes that grow, and grow again

lanes_then : (before now after : Lanes) (ports : List ℕ) (gained next : ℕ → List ℕ) → LanesGrow before ports gained now → LanesGrow now ports next after → LanesGrow before ports (λ port. gained port ++ next port) after
lanes_then before now after ports gained next g h = record {
  lanes = λ port c. record {
    bytes = (h.lanes port c).bytes ∙ ap (λ (bytes : List ℕ). bytes ++ next port) (g.lanes port c).bytes
        ∙ append_assoc (lane_bytes before port) (gained port) (next port);
    kept = λ s. (h.lanes port c).kept ((g.lanes port c).kept s);
  };
  others = λ port c. h.others port c ∙ g.others port c;
}

pub grow_then : (before now after : Option Lanes) (ports : List ℕ) (gained next : ℕ → List ℕ) → GrowAll before ports gained now → GrowAll now ports next after → GrowAll before ports (λ port. gained port ++ next port) after
grow_then before now after ports gained next g h =
    told_then (λ old new. LanesGrow old ports gained new) (λ old new. LanesGrow old ports next new)
    (λ old new. LanesGrow old ports (λ port. gained port ++ next port) new)
    (λ x y z g h. lanes_then x y z ports gained next g h) before now after g h

pub there_then : (now after : Option Lanes) (ports : List ℕ) (next : ℕ → List ℕ) → AreThere ports now → GrowAll now ports next after → AreThere ports after
there_then (Some now) (Some after) ports next t h = λ port c. (h.lanes port c).kept (t port c)
there_then (Some now) None ports next t h = tt
there_then None (Some after) ports next t h = absurd h
there_then None None ports next t h = tt

-- The first ports of a list

pub first_has : (ports : List ℕ) (done k : ℕ) → k < done → k < length ports → Contains (take done ports) (slice_index ports k)
first_has ports done k less below =
    let long = length-take done ports in
    (k, omega (arith, long, less, below), get_or_default (take done ports) k (slice_index ports k) 0 (omega (arith, long, less, below)) ∙ get_or-take done ports k 0 less)

pub first_lacks : OneFlowHasAPort → (ports : List ℕ) → IsTable ports → (done k : ℕ) → done ≤ k → k < length ports → Contains (take done ports) (slice_index ports k) → ⊥
first_lacks law ports good done k from below c =
    let long = length-take done ports in
    let less : c.0 < done = omega (arith, long, c.1) in
    let short : c.0 < length ports = omega (arith, long, c.1) in
    let same : slice_index ports c.0 ≡ slice_index ports k =
    sym (get_or-take done ports c.0 0 less) ∙ get_or_default (take done ports) c.0 0 (slice_index ports k) c.1 ∙ c.2 in
    ports_differ law ports good k c.0 below short (omega (arith, less, from)) same

-- What is shown is one list of bytes
shown_once : OneGained → (plan : Plan) (records : List Record) (flow : ℕ) (one other : List ℕ) → HasShown (playout_of plan) flow records one → HasShown (playout_of plan) flow records other → one ≡ other
shown_once law plan records flow one other a b =
    let all : take (length records) records ≡ records = take_all (length records) records (omega arith) in
    law plan records (Taking (length records)) flow one other
    (subst (λ (rs : List Record). HasShown (playout_of plan) flow rs one) (sym all) a)
    (subst (λ (rs : List Record). HasShown (playout_of plan) flow rs other) (sym all) b)

-- The lane at which the put failed

next_put :
    OneFlowHasAPort → OneGained → (plan : Plan) → IsTable plan.table → (taken next : List Record) (k : ℕ) (old part waits more : List ℕ) → k < length plan.table
    → IsPrefix part waits → HasShown (playout_of plan) (slice_index plan.table k) next (old ++ waits)
    → HasPut plan taken next (k + 1) (slice_index plan.table k) more → IsPrefix (old ++ part) more
next_put law once plan good taken next k old part waits more below front shown (inl put) = (
  front.0,
  shown_once once plan next (slice_index plan.table k) more (old ++ waits) put.1 shown
      ∙ ap (λ (bytes : List ℕ). old ++ bytes) front.1 ∙ sym (append_assoc old part front.0),
)
next_put law once plan good taken next k old part waits more below front shown (inr not) =
    absurd (not.0 (first_has plan.table (k + 1) k (omega arith) below))

exact_at :
    OneFlowHasAPort → OneGained → (plan : Plan) → IsTable plan.table → (taken next : List Record) (shelves : List Shelved) (gained : ℕ → List ℕ) (before after : Option Lanes)
    → (e : BreaksEmptying plan.table shelves before after)
    → ((k : ℕ) → k < length plan.table → HasShown (playout_of plan) (slice_index plan.table k) taken (gained (slice_index plan.table k)))
    → ((k : ℕ) → k < length plan.table → HasShown (playout_of plan) (slice_index plan.table k) next (gained (slice_index plan.table k) ++ waiting shelves (slice_index plan.table k)))
    → (k : ℕ) → k < length plan.table → (k < e.done) ⊎ (e.done ≤ k) → (k ≡ e.done) ⊎ (k ≡ e.done → ⊥)
    → HasPut plan taken next e.done (slice_index plan.table k) (gained (slice_index plan.table k) ++ e.gained (slice_index plan.table k))
    ⊎ ((Some (slice_index plan.table e.done) ≡ Some (slice_index plan.table k))
    × LiesBetween (HasPut plan taken next e.done (slice_index plan.table k)) (HasPut plan taken next (e.done + 1) (slice_index plan.table k)) (gained (slice_index plan.table k) ++ e.gained (slice_index plan.table k)))
exact_at law once plan good taken next shelves gained before after e old new k below (inl less) at =
    inl (inl (
      first_has plan.table e.done k less below,
      subst (λ (bytes : List ℕ). HasShown (playout_of plan) (slice_index plan.table k) next (gained (slice_index plan.table k) ++ bytes)) (sym (e.first k less)) (new k below),
    ))
exact_at law once plan good taken next shelves gained before after e old new k below (inr from) (inl is) =
    let front : IsPrefix (e.gained (slice_index plan.table k)) (waiting shelves (slice_index plan.table k)) =
    subst (λ j. IsPrefix (e.gained (slice_index plan.table j)) (waiting shelves (slice_index plan.table j))) (sym is) e.broken in
    inr (
      ap (λ j. Some (slice_index plan.table j)) (sym is),
      record {
        first = gained (slice_index plan.table k);
        are = inr (first_lacks law plan.table good e.done k from below, old k below);
        begins = (e.gained (slice_index plan.table k), refl);
        next = λ more put. next_put law once plan good taken next k (gained (slice_index plan.table k)) (e.gained (slice_index plan.table k)) (waiting shelves (slice_index plan.table k)) more below front (new k below)
            (subst (λ n. HasPut plan taken next (n + 1) (slice_index plan.table k) more) (sym is) put);
      },
    )
exact_at law once plan good taken next shelves gained before after e old new k below (inr from) (inr ne) =
    inl (inr (
      first_lacks law plan.table good e.done k from below,
      subst (λ (bytes : List ℕ). HasShown (playout_of plan) (slice_index plan.table k) taken bytes)
          (sym (append-nil (gained (slice_index plan.table k))) ∙ ap (λ (bytes : List ℕ). gained (slice_index plan.table k) ++ bytes) (sym (e.others k (omega (arith, from, ne)) below)))
          (old k below),
    ))

-- A put failed while what waits was put: what is shown of `taken` was put before, and what waits is the rest of what is shown
-- of `next`.
pub emptying_breaks :
    OneFlowHasAPort → OneGained → (plan : Plan) → IsTable plan.table → (taken next : List Record) (shelves : List Shelved) (gained : ℕ → List ℕ) (before now after : Option Lanes)
    → GrowAll before plan.table gained now → AreThere plan.table now
    → ((port : ℕ) → Contains plan.table port → HasShown (playout_of plan) port taken (gained port))
    → ((port : ℕ) → Contains plan.table port → HasShown (playout_of plan) port next (gained port ++ waiting shelves port))
    → BreaksEmptying plan.table shelves now after → BreaksInBatch plan taken next before after
emptying_breaks law once plan good taken next shelves gained before now after grow there old new e =
    record {
      done = e.done;
      broken = Some (slice_index plan.table e.done);
      gained = λ port. gained port ++ e.gained port;
      grow = grow_then before now after plan.table gained e.gained grow e.grow;
      there = there_then now after plan.table e.gained there e.grow;
      exact = λ flow c.
          subst (λ p. HasPut plan taken next e.done p (gained p ++ e.gained p)
          ⊎ ((Some (slice_index plan.table e.done) ≡ Some p)
          × LiesBetween (HasPut plan taken next e.done p) (HasPut plan taken next (e.done + 1) p) (gained p ++ e.gained p)))
          (get_or_default plan.table c.0 0 flow c.1 ∙ c.2)
          (exact_at law once plan good taken next shelves gained now after e
          (λ k below. old (slice_index plan.table k) (contains_at plan.table k below))
          (λ k below. new (slice_index plan.table k) (contains_at plan.table k below))
          c.0 c.1 (cases_lt c.0 e.done) (cases_eq c.0 e.done));
    }
