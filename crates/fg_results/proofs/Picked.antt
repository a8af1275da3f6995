-- The records of a flow among those that are picked.
use Rattle.std.proofs.Common.{◌≡◌, ◌==◌, ◌||◌, inl, inr, ℕ, ◌<◌, Bool, true, false, cond, Option, IfSome, List, [], ◌∷◌, filter, refl, sym, ap, ◌∙◌, subst, arith}
use Rattle.std.specs.List.{All, AllZip, Contains}
use Rattle.std.proofs.lemmas.Bool.{eqb-true, or_cases}
use Rattle.std.proofs.lemmas.List.Elements.{All-head, All-tail, All-weaker, filter_passes}
use Rattle.fg_shape.specs.Playout.{Playout}
use Rattle.fg_shape.specs.declared.kind.Kind.{Kind}
use Rattle.fg_shape.specs.declared.kind.Kind.TheVariants as kind
use Rattle.fg_shape.specs.Kind.{port_of}
use Rattle.fg_flows.specs.declared.selection.Selection.{Selection}
use Rattle.fg_flows.specs.Plan.{playout_of}
use Rattle.fg_trace.specs.Trace.{Record}
use Rattle.fg_pick.specs.Picked.{Fits, IsPicked}
use Rattle.fg_results.specs.Flow.{FlowResult, IsFlowResult, Arrives, is_of, records_of}
use Rattle.fg_results.specs.Picked.{NamedFlowsArePicked, PickedFlowResult, PickedResults, PicksFlow}

-- The records of the flow are the same

-- a list with one record more, or without it, where it passes or doesn't
head_of : {X : Type 0} (P : X → Type 0) (b : Bool) (x : X) (xs : List X) → All P (cond b (x ∷ xs) xs) → b ≡ true → P x
head_of P true x xs h e = All-head P x xs h
head_of P false x xs h e = absurd (cc)

rest_of : {X : Type 0} (P : X → Type 0) (b : Bool) (x : X) (xs : List X) → All P (cond b (x ∷ xs) xs) → All P xs
rest_of P true x xs h = All-tail P x xs h
rest_of P false x xs h = h

passes : {X : Type 0} (p : X → Bool) (b c : Bool) (x : X) (xs ys : List X) → p x ≡ b → (b ≡ true → c ≡ true) → filter p xs ≡ ys → filter p (cond c (x ∷ xs) xs) ≡ cond b (x ∷ ys) ys
passes p b true x xs ys e h same = ap (λ t. cond t (x ∷ filter p xs) (filter p xs)) e ∙ ap (λ l. cond b (x ∷ l) l) same
passes p true false x xs ys e h same = absurd (let f = h refl in cc)
passes p false false x xs ys e h same = same

filter_twice : {X : Type 0} (p q : X → Bool) (P : X → Type 0) → ((x : X) → P x → q x ≡ true) → (xs : List X) → All P (filter p xs) → filter p (filter q xs) ≡ filter p xs
filter_twice p q P says [] h = refl
filter_twice p q P says (x ∷ xs) h =
    passes p (p x) (q x) x (filter q xs) (filter p xs) refl (λ e. says x (head_of P (p x) x (filter p xs) h e)) (filter_twice p q P says xs (rest_of P (p x) x (filter p xs) h))

same_records : (selection : Selection) (records picked : List Record) (flow : ℕ) → IsPicked selection records picked → PicksFlow selection records flow → records_of flow picked ≡ records_of flow records
same_records selection records picked flow h all =
    ap (λ rs. records_of flow rs) h.picked_are ∙ filter_twice (is_of flow) h.fits (Fits selection) (λ r fit. (h.right r).1 fit) records all

-- The results are

given : (playout : Playout) (records others : List Record) (flow : ℕ) (result : FlowResult) → records_of flow records ≡ records_of flow others → IsFlowResult playout records flow result → IsFlowResult playout others flow result
given playout records others flow result same h = record {
  arrivals = h.arrivals;
  plays = h.plays;
  replies = h.replies;
  arrive = subst (λ rs. AllZip (Arrives flow) rs h.arrivals) same h.arrive;
  run = h.run;
  gaps = h.gaps;
  are_gaps = h.are_gaps;
  lane = h.lane;
  sum = h.sum;
}

pub picked_flow_result : PickedFlowResult
picked_flow_result playout selection records picked flow result h all =
    let same = same_records selection records picked flow h all in
    (given playout picked records flow result same, given playout records picked flow result (sym same))

given_all : (playout : Playout) (records others : List Record) (flows : List ℕ) (results : List FlowResult) → All (λ flow. records_of flow records ≡ records_of flow others) flows
    → AllZip (IsFlowResult playout records) flows results → AllZip (IsFlowResult playout others) flows results
given_all playout records others [] [] same h = tt
given_all playout records others [] (x ∷ xs) same h = absurd h
given_all playout records others (f ∷ fs) [] same h = absurd h
given_all playout records others (f ∷ fs) (x ∷ xs) same h = (
  given playout records others f x (All-head (λ flow. records_of flow records ≡ records_of flow others) f fs same) h.0,
  given_all playout records others fs xs (All-tail (λ flow. records_of flow records ≡ records_of flow others) f fs same) h.1,
)

pub picked_results : PickedResults
picked_results plan selection records picked results h all =
    let there : All (λ flow. records_of flow picked ≡ records_of flow records) plan.table = All-weaker (PicksFlow selection records) (λ flow. records_of flow picked ≡ records_of flow records) (λ flow x. same_records selection records picked flow h x) plan.table all in
    let back : All (λ flow. records_of flow records ≡ records_of flow picked) plan.table = All-weaker (PicksFlow selection records) (λ flow. records_of flow records ≡ records_of flow picked) (λ flow x. sym (same_records selection records picked flow h x)) plan.table all in
    (given_all (playout_of plan) picked records plan.table results there, given_all (playout_of plan) records picked plan.table results back)

-- Flows that are named

kind_of : (flow : ℕ) (r : Record) → is_of flow r ≡ true → (k : Kind) × (port_of flow k ≡ r.port)
kind_of flow r e = elim (or_cases (port_of flow kind.Media == r.port || port_of flow kind.Column == r.port) (port_of flow kind.Row == r.port) e) as (λ _. (k : Kind) × (port_of flow k ≡ r.port)) [
  | inl two ↦ elim (or_cases (port_of flow kind.Media == r.port) (port_of flow kind.Column == r.port) two) as (λ _. (k : Kind) × (port_of flow k ≡ r.port)) [
    | inl media ↦ (kind.Media, eqb-true _ _ media)
    | inr column ↦ (kind.Column, eqb-true _ _ column)
  ]
  | inr row ↦ (kind.Row, eqb-true _ _ row)
]

none_contained : (x : ℕ) → ¬ Contains [] x
none_contained x h = absurd (omega (arith, h.1))

pub named_flows_are_picked : NamedFlowsArePicked
named_flows_are_picked selection records flow named sources without from until =
    All-weaker (λ r. is_of flow r ≡ true) (Fits selection)
    (λ r e.
    let k = kind_of flow r e in
    record {
      port = inr (inl (record { flow = flow; named = named; kind = k.0; is = k.1 }));
      source = λ seq ssrc word is. record { left = inl sources; kept = subst (λ (xs : List ℕ). ¬ Contains xs ssrc) (sym without) (none_contained ssrc) };
      from = omega (arith, from);
      until = subst (λ (t : Option ℕ). IfSome t (λ end. r.time < end)) (sym until) tt;
    })
    (records_of flow records) (filter_passes (is_of flow) records)
