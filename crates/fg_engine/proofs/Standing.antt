-- How the flows of a repair stand, record after record.
use Rattle.std.proofs.Common.{◌≡◌, ◌⊎◌, inl, inr, ℕ, ◌+◌, ◌<◌, Bool, true, false, not, cond, Option, Some, List, [], ◌∷◌, ◌++◌, length, set, slice_index, refl, sym, ap, ◌∙◌, subst, arith, append-nil, zero-add, add-zero}
use Rattle.std.specs.List.{AllZip, Contains, list_any, slice_index_or}
use Rattle.std.specs.Vec.{with_item}
use Rattle.std.proofs.lemmas.Bool.{cases_eq}
use Rattle.std.proofs.lemmas.List.{get_or-set_same, get_or-set_other, get_or_default, get_or_push, get_or_append_left, length-set, length_push}
use Rattle.std.proofs.lemmas.List.Elements.{filter-append, All-from_get_or}
use Rattle.std.proofs.lemmas.List.Folds.{list_any_at, list_any_none}
use Rattle.std.proofs.lemmas.List.Sums.{sum_by-append}
use Rattle.fg_io.specs.Prefix.{IsPrefix}
use Rattle.fg_io.specs.Outlet.{Lanes}
use Rattle.fg_trace.specs.Trace.{Record}
use Rattle.fg_shape.specs.declared.kind.Kind.{Kind}
use Rattle.fg_shape.specs.declared.kind.Kind.TheVariants as kind
use Rattle.fg_shape.specs.Playout.{Playout}
use Rattle.fg_flows.specs.declared.Plan.{Plan}
use Rattle.fg_flows.specs.Flows.{IsPortOf, IsTable}
use Rattle.fg_shape.specs.Kind.{port_of}
use Rattle.fg_flows.specs.Laws.{OneFlowHasAPort}
use Rattle.fg_flows.specs.Plan.{playout_of}
use Rattle.fg_playout.specs.declared.reply.Reply.{Reply}
use Rattle.fg_playout.specs.Play.{Play}
use Rattle.fg_playout.specs.Run.{Arrival, TakesAll}
use Rattle.fg_playout.specs.State.{State, opening}
use Rattle.fg_report.specs.declared.flow_sum.FlowSum.{FlowSum}
use Rattle.fg_engine.specs.declared.engine.Engine.{Engine}
use Rattle.fg_engine.specs.Engine.{FlowStands, EngineStands, HasCome, BreaksAfter}
use Rattle.fg_results.proofs.FlowRecords.{is_of_no}
use Rattle.fg_results.specs.Flow.{Arrives, records_of, is_of}
use Rattle.fg_results.specs.Repair.{others_of}
use Rattle.fg_engine.specs.View.{FlowView}
use Rattle.fg_engine.specs.Steps.{HasTaken, TakesRecord, BreaksAtRecord}
use Rattle.fg_results.specs.Stops.{HasShown, LiesBetween}
use Rattle.fg_engine.proofs.Breaking.{shown_of}
use Rattle.fg_results.proofs.ArrivalLemmas.{is_of_its_flow}
use Rattle.fg_engine.proofs.Lanes.{more, more_same, more_other, grow_more, there_more, contains_at}

-- Before the first record

opened_by : (playout : Playout) (flow : ℕ) (arrivals : List Arrival) (plays : List Play) (replies : List (Option Reply)) (state : State) → AllZip (Arrives flow) [] arrivals → TakesAll (opening playout) arrivals plays replies state → state ≡ opening playout
opened_by playout flow [] plays replies state h k = k.2
opened_by playout flow (a ∷ arrivals) plays replies state h k = absurd h

pub new_stands : (plan : Plan) (port : ℕ) (flow : FlowView) → HasTaken (playout_of plan) port [] flow.state flow.sum [] → FlowStands plan [] port flow []
new_stands plan port flow h =
    let opened : flow.state ≡ opening (playout_of plan) = opened_by (playout_of plan) port h.arrivals h.plays h.replies flow.state h.arrive h.takes in
    record {
      port_is = ap (λ (s : FlowSum). s.port) h.sum_is;
      playout_is = ap (λ (s : State). s.playout) opened;
      taken = h;
    }

-- the first flows stand so
abbrev pub AreNew : Plan → ℕ → List FlowView → Type 0
AreNew plan count items = (k : ℕ) (d : FlowView) → k < count → FlowStands plan [] (slice_index plan.table k) (slice_index_or items k d) []

new_at : (plan : Plan) (items : List FlowView) (i : ℕ) (new : FlowView) → length items ≡ i → FlowStands plan [] (slice_index plan.table i) new [] → AreNew plan i items → (k : ℕ) (d : FlowView) → k < i + 1 → (k ≡ i) ⊎ (k ≡ i → ⊥) → FlowStands plan [] (slice_index plan.table k) (slice_index_or (items ++ new ∷ []) k d) []
new_at plan items i new long h each k d below (inl e) =
    subst (λ j. FlowStands plan [] (slice_index plan.table j) (slice_index_or (items ++ new ∷ []) j d) []) (sym e)
    (subst (λ (f : FlowView). FlowStands plan [] (slice_index plan.table i) f []) (sym (get_or_push items new d i long)) h)
new_at plan items i new long h each k d below (inr ne) =
    subst (λ (f : FlowView). FlowStands plan [] (slice_index plan.table k) f []) (sym (get_or_append_left items (new ∷ []) d k (omega arith))) (each k d (omega arith))

pub new_more :
    (plan : Plan) (items all : List FlowView) (i port : ℕ) (new : FlowView) → all ≡ items ++ new ∷ [] → i ≡ length items → port ≡ slice_index plan.table i
    → HasTaken (playout_of plan) port [] new.state new.sum [] → AreNew plan (length items) items → AreNew plan (length all) all
new_more plan items all i port new pushed long at h each =
    let here : port ≡ slice_index plan.table (length items) = at ∙ ap (λ k. slice_index plan.table k) long in
    let stands : FlowStands plan [] (slice_index plan.table (length items)) new [] = new_stands plan (slice_index plan.table (length items)) new (subst (λ p. HasTaken (playout_of plan) p [] new.state new.sum []) here h) in
    subst (λ (flows : List FlowView). AreNew plan (length flows) flows) (sym pushed)
    (subst (λ n. AreNew plan n (items ++ new ∷ [])) (sym (length_push items new)) (λ k d below. new_at plan items (length items) new refl stands each k d below (cases_eq k (length items))))

-- Which flow a record is of

pub not_of : (port : ℕ) (records : List Record) (r : Record) → is_of port r ≡ false → records_of port (records ++ r ∷ []) ≡ records_of port records
not_of port records r e =
    filter-append (is_of port) records (r ∷ [])
    ∙ ap (λ b. records_of port records ++ cond b (r ∷ []) []) e
    ∙ append-nil (records_of port records)

pub stands_still : (plan : Plan) (records : List Record) (r : Record) (port : ℕ) (flow : FlowView) (lane : List ℕ) → is_of port r ≡ false → FlowStands plan records port flow lane → FlowStands plan (records ++ r ∷ []) port flow lane
stands_still plan records r port flow lane e h = record {
  port_is = h.port_is;
  playout_is = h.playout_is;
  taken = record {
    arrivals = h.taken.arrivals;
    plays = h.taken.plays;
    replies = h.taken.replies;
    arrive = subst (λ (rs : List Record). AllZip (Arrives port) rs h.taken.arrivals) (sym (not_of port records r e)) h.taken.arrive;
    takes = h.taken.takes;
    lane_is = h.taken.lane_is;
    sum_is = h.taken.sum_is;
  };
}

-- Records of no flow

others_more : (table : List ℕ) (records : List Record) (r : Record) (found : Bool) → list_any (λ flow. is_of flow r) table ≡ found → others_of table (records ++ r ∷ []) ≡ others_of table records + cond (not found) 1 0
others_more table records r found e =
    sum_by-append (λ (q : Record). cond (not (list_any (λ flow. is_of flow q) table)) 1 0) records (r ∷ [])
    ∙ ap (λ b. others_of table records + (0 + cond (not b) 1 0)) e
    ∙ ap (λ n. others_of table records + n) (zero-add (cond (not found) 1 0))

pub others_of_flow : (table : List ℕ) (records : List Record) (r : Record) (i : ℕ) (kind : Kind) → IsPortOf table r.port i kind → others_of table (records ++ r ∷ []) ≡ others_of table records
others_of_flow table records r i kind h =
    others_more table records r true (list_any_at (λ flow. is_of flow r) table i 0 h.0 (is_of_its_flow (slice_index table i) kind r h.1))
    ∙ add-zero (others_of table records)

-- The record is on no flow's port.
abbrev pub IsOfNone : List ℕ → ℕ → Type 0
IsOfNone table port = (i : ℕ) (kind : Kind) → IsPortOf table port i kind → ⊥

none_at : (table : List ℕ) (r : Record) → IsOfNone table r.port → (k : ℕ) → k < length table → is_of (slice_index table k) r ≡ false
none_at table r none k below = is_of_no (slice_index table k) r (λ kind e. none k kind (below, e))

pub others_of_none : (table : List ℕ) (records : List Record) (r : Record) → IsOfNone table r.port → others_of table (records ++ r ∷ []) ≡ others_of table records + 1
others_of_none table records r none =
    others_more table records r false (list_any_none (λ flow. is_of flow r) table (All-from_get_or (λ flow. is_of flow r ≡ false) table 0 (λ k below. none_at table r none k below)))

pub come_none : {D : Type 0} → (plan : Plan) (engine : Engine D) (port : ℕ) → IsOfNone plan.table port → (before now : Option Lanes) (records : List Record) (r : Record) → HasCome plan records engine before now → r.port ≡ port → HasCome {D = D} plan (records ++ r ∷ []) (record { flows = engine.flows; writer = engine.writer; other = engine.other + 1 }) before now
come_none plan engine port none before now records r h e =
    let of_none : IsOfNone plan.table r.port = subst (IsOfNone plan.table) (sym e) none in
    record {
      gained = h.gained;
      stands = record {
        count = h.stands.count;
        flows = λ k d below. stands_still plan records r (slice_index plan.table k) (slice_index_or engine.flows.items k d) (h.gained (slice_index plan.table k)) (none_at plan.table r of_none k below) (h.stands.flows k d below);
        other = ap (λ n. n + 1) h.stands.other ∙ sym (others_of_none plan.table records r of_none);
      };
      grow = h.grow;
      there = h.there;
    }

-- A record of a flow

-- a fact of a flow's own settings, at the plan's
pub moved : (P : Playout → ℕ → Type 0) (w w' : Playout) (p p' : ℕ) → w ≡ w' → p ≡ p' → P w p → P w' p'
moved P w w' p p' ew ep h = subst (λ (x : Playout). P x p') ew (subst (λ x. P w x) ep h)

pub flow_taken : (plan : Plan) (records : List Record) (port : ℕ) (flow : FlowView) (lane : List ℕ) → FlowStands plan records port flow lane → HasTaken flow.state.playout flow.sum.port records flow.state flow.sum lane
flow_taken plan records port flow lane h =
    moved (λ w p. HasTaken w p records flow.state flow.sum lane) (playout_of plan) flow.state.playout port flow.sum.port
    (sym h.playout_is) (sym h.port_is) h.taken

-- what a flow keeps when it takes a record
pub record KeepsSettings (old new : FlowView) : Type 0 where
  pub port : new.sum.port ≡ old.sum.port
  pub playout : new.state.playout ≡ old.state.playout

-- what a flow does with a record that it takes whole, or that a fault stops
abbrev pub Takes : FlowView → FlowView → Kind → ℕ → List ℕ → Option Lanes → Option Lanes → Type 0
Takes old new kind time datagram now after =
    (records : List Record) (r : Record) (lane : List ℕ)
    → HasTaken old.state.playout old.sum.port records old.state old.sum lane
    → r.datagram ≡ datagram → r.time ≡ time → port_of old.sum.port kind ≡ r.port
    → TakesRecord old.state.playout old.sum.port records r lane new.state new.sum now after

abbrev pub Breaks : FlowView → Kind → ℕ → List ℕ → Option Lanes → Option Lanes → Type 0
Breaks old kind time datagram now after =
    (records : List Record) (r : Record) (lane : List ℕ)
    → HasTaken old.state.playout old.sum.port records old.state old.sum lane
    → r.datagram ≡ datagram → r.time ≡ time → port_of old.sum.port kind ≡ r.port
    → BreaksAtRecord old.state.playout old.sum.port records r lane now after

flow_step : (plan : Plan) (records : List Record) (r : Record) (port : ℕ) (old new : FlowView) (lane : List ℕ) (kind : Kind) (time : ℕ) (datagram : List ℕ) (now after : Option Lanes) → KeepsSettings old new → Takes old new kind time datagram now after → FlowStands plan records port old lane → r.datagram ≡ datagram → r.time ≡ time → port_of port kind ≡ r.port → TakesRecord (playout_of plan) port records r lane new.state new.sum now after
flow_step plan records r port old new lane kind time datagram now after keeps takes h same at of =
    moved (λ w p. TakesRecord w p records r lane new.state new.sum now after) old.state.playout (playout_of plan) old.sum.port port
    h.playout_is h.port_is
    (takes records r lane (flow_taken plan records port old lane h) same at (subst (λ p. port_of p kind ≡ r.port) (sym h.port_is) of))

flow_break : (plan : Plan) (records : List Record) (r : Record) (port : ℕ) (old : FlowView) (lane : List ℕ) (kind : Kind) (time : ℕ) (datagram : List ℕ) (now after : Option Lanes) → Breaks old kind time datagram now after → FlowStands plan records port old lane → r.datagram ≡ datagram → r.time ≡ time → port_of port kind ≡ r.port → BreaksAtRecord (playout_of plan) port records r lane now after
flow_break plan records r port old lane kind time datagram now after breaks h same at of =
    moved (λ w p. BreaksAtRecord w p records r lane now after) old.state.playout (playout_of plan) old.sum.port port
    h.playout_is h.port_is
    (breaks records r lane (flow_taken plan records port old lane h) same at (subst (λ p. port_of p kind ≡ r.port) (sym h.port_is) of))

-- the flow that took it
at_flow : (plan : Plan) (records : List Record) (items : List FlowView) (gained : ℕ → List ℕ) (i : ℕ) (new : FlowView) (piece : List ℕ) (d : FlowView) → i < length items → FlowStands plan records (slice_index plan.table i) new (gained (slice_index plan.table i) ++ piece) → FlowStands plan records (slice_index plan.table i) (slice_index_or (set items i new) i d) (more gained (slice_index plan.table i) piece (slice_index plan.table i))
at_flow plan records items gained i new piece d below h =
    subst (λ (f : FlowView). FlowStands plan records (slice_index plan.table i) f (more gained (slice_index plan.table i) piece (slice_index plan.table i))) (sym (get_or-set_same items i new d below))
    (subst (λ (lane : List ℕ). FlowStands plan records (slice_index plan.table i) new lane) (sym (more_same gained (slice_index plan.table i) piece)) h)

-- two flows of a table have different ports
pub ports_differ : OneFlowHasAPort → (table : List ℕ) → IsTable table → (i k : ℕ) → i < length table → k < length table → (k ≡ i → ⊥) → slice_index table k ≡ slice_index table i → ⊥
ports_differ law table good i k bi bk ne e = ne (law table (slice_index table i) k i kind.Media kind.Media good (bk, e) (bi, refl)).0

-- another flow
at_other : OneFlowHasAPort → (plan : Plan) → IsTable plan.table → (records : List Record) (r : Record) (items : List FlowView) (gained : ℕ → List ℕ) (i : ℕ) (kind : Kind) → IsPortOf plan.table r.port i kind → (new : FlowView) (piece : List ℕ) (k : ℕ) (d : FlowView) → k < length plan.table → (k ≡ i → ⊥) → FlowStands plan records (slice_index plan.table k) (slice_index_or items k d) (gained (slice_index plan.table k)) → FlowStands plan (records ++ r ∷ []) (slice_index plan.table k) (slice_index_or (set items i new) k d) (more gained (slice_index plan.table i) piece (slice_index plan.table k))
at_other law plan good records r items gained i kind of new piece k d below ne h =
    let apart : is_of (slice_index plan.table k) r ≡ false = is_of_no (slice_index plan.table k) r (λ other e. ne (law plan.table r.port k i other kind good (below, e) of).0) in
    subst (λ (f : FlowView). FlowStands plan (records ++ r ∷ []) (slice_index plan.table k) f (more gained (slice_index plan.table i) piece (slice_index plan.table k))) (sym (get_or-set_other items i k new d ne))
    (subst (λ (lane : List ℕ). FlowStands plan (records ++ r ∷ []) (slice_index plan.table k) (slice_index_or items k d) lane)
    (sym (more_other gained (slice_index plan.table i) piece (slice_index plan.table k) (ports_differ law plan.table good i k of.0 below ne)))
    (stands_still plan records r (slice_index plan.table k) (slice_index_or items k d) (gained (slice_index plan.table k)) apart h))

at_each : OneFlowHasAPort → (plan : Plan) → IsTable plan.table → (records : List Record) (r : Record) (items : List FlowView) (gained : ℕ → List ℕ) (i : ℕ) (kind : Kind) → IsPortOf plan.table r.port i kind → (new : FlowView) (piece : List ℕ) → i < length items → FlowStands plan (records ++ r ∷ []) (slice_index plan.table i) new (gained (slice_index plan.table i) ++ piece) → (k : ℕ) (d : FlowView) → k < length plan.table → FlowStands plan records (slice_index plan.table k) (slice_index_or items k d) (gained (slice_index plan.table k)) → (k ≡ i) ⊎ (k ≡ i → ⊥) → FlowStands plan (records ++ r ∷ []) (slice_index plan.table k) (slice_index_or (set items i new) k d) (more gained (slice_index plan.table i) piece (slice_index plan.table k))
at_each law plan good records r items gained i kind of new piece short stands k d below h (inl e) =
    subst (λ j. FlowStands plan (records ++ r ∷ []) (slice_index plan.table j) (slice_index_or (set items i new) j d) (more gained (slice_index plan.table i) piece (slice_index plan.table j))) (sym e)
    (at_flow plan (records ++ r ∷ []) items gained i new piece d short stands)
at_each law plan good records r items gained i kind of new piece short stands k d below h (inr ne) =
    at_other law plan good records r items gained i kind of new piece k d below ne h

pub come_some :
    {D : Type 0} → OneFlowHasAPort → (plan : Plan) → IsTable plan.table → (engine : Engine D) (port i : ℕ) (kind : Kind) → IsPortOf plan.table port i kind
    → (old new : FlowView) (shared : Engine D) → old ≡ slice_index_or engine.flows.items i old
    → KeepsSettings old new
    → (time : ℕ) (datagram : List ℕ) (now after : Option Lanes) → Takes old new kind time datagram now after
    → (before : Option Lanes) (records : List Record) (r : Record) → HasCome plan records engine before now → r.port ≡ port → r.time ≡ time → r.datagram ≡ datagram
    → HasCome {D = D} plan (records ++ r ∷ []) (record { flows = with_item engine.flows i new; writer = shared.writer; other = engine.other }) before after
come_some law plan good engine port i kind of old new shared at keeps time datagram now after takes before records r h e at_time same =
    let here : IsPortOf plan.table r.port i kind = subst (λ p. IsPortOf plan.table p i kind) (sym e) of in
    let flow = slice_index plan.table i in
    let stood : FlowStands plan records flow old (h.gained flow) = subst (λ (f : FlowView). FlowStands plan records flow f (h.gained flow)) (sym at) (h.stands.flows i old of.0) in
    let step : TakesRecord (playout_of plan) flow records r (h.gained flow) new.state new.sum now after = flow_step plan records r flow old new (h.gained flow) kind time datagram now after keeps takes stood same at_time here.1 in
    let stands : FlowStands plan (records ++ r ∷ []) flow new (h.gained flow ++ step.piece) = record {
      port_is = keeps.port ∙ stood.port_is;
      playout_is = keeps.playout ∙ stood.playout_is;
      taken = step.taken;
    } in
    record {
      gained = more h.gained flow step.piece;
      stands = record {
        count = length-set engine.flows.items i new ∙ h.stands.count;
        flows = λ k d below. at_each law plan good records r engine.flows.items h.gained i kind here new step.piece (subst (λ n. i < n) (sym h.stands.count) of.0) stands k d below (h.stands.flows k d below) (cases_eq k i);
        other = h.stands.other ∙ sym (others_of_flow plan.table records r i kind here);
      };
      grow = grow_more before now after plan.table h.gained flow step.piece (contains_at plan.table i of.0) h.grow step.grows;
      there = there_more now after plan.table flow step.piece h.there step.grows;
    }

-- A fault

some_flow : (items : List FlowView) → 0 < length items → FlowView
some_flow [] h = absurd (omega arith)
some_flow (f ∷ items) h = f

-- what a flow of the table has shown
pub shown_at : {D : Type 0} → (plan : Plan) (records : List Record) (engine : Engine D) (gained : ℕ → List ℕ) → EngineStands plan records engine gained → (port : ℕ) → Contains plan.table port → HasShown (playout_of plan) port records (gained port)
shown_at plan records engine gained h port c =
    let any = some_flow engine.flows.items (omega (arith, h.count, c.1)) in
    let same : slice_index plan.table c.0 ≡ port = get_or_default plan.table c.0 0 port c.1 ∙ c.2 in
    let stands : FlowStands plan records (slice_index plan.table c.0) (slice_index_or engine.flows.items c.0 any) (gained (slice_index plan.table c.0)) = h.flows c.0 any c.1 in
    subst (λ p. HasShown (playout_of plan) p records (gained p)) same
    (shown_of (playout_of plan) (slice_index plan.table c.0) records _ _ (gained (slice_index plan.table c.0)) stands.taken)

-- and a part of what it shows next, where a fault broke it
between : (plan : Plan) (records : List Record) (r : Record) (gained : ℕ → List ℕ) (flow : ℕ) (part : List ℕ) → HasShown (playout_of plan) flow records (gained flow) → ((next : List ℕ) → HasShown (playout_of plan) flow (records ++ r ∷ []) next → IsPrefix (gained flow ++ part) next) → LiesBetween (HasShown (playout_of plan) flow records) (HasShown (playout_of plan) flow (records ++ r ∷ [])) (more gained flow part flow)
between plan records r gained flow part shown next = record {
  first = gained flow;
  are = shown;
  begins = (part, more_same gained flow part);
  next = λ (bytes : List ℕ) (h : HasShown (playout_of plan) flow (records ++ r ∷ []) bytes). subst (λ (lane : List ℕ). IsPrefix lane bytes) (sym (more_same gained flow part)) (next bytes h);
}

exact_at : {D : Type 0} → (plan : Plan) (records : List Record) (r : Record) (engine : Engine D) (gained : ℕ → List ℕ) → EngineStands plan records engine gained → (flow : ℕ) (part : List ℕ) → Contains plan.table flow → ((next : List ℕ) → HasShown (playout_of plan) flow (records ++ r ∷ []) next → IsPrefix (gained flow ++ part) next) → (port : ℕ) → Contains plan.table port → (port ≡ flow) ⊎ (port ≡ flow → ⊥) → HasShown (playout_of plan) port records (more gained flow part port) ⊎ ((Some flow ≡ Some port) × LiesBetween (HasShown (playout_of plan) port records) (HasShown (playout_of plan) port (records ++ r ∷ [])) (more gained flow part port))
exact_at plan records r engine gained h flow part here next port c (inl e) =
    subst (λ p. HasShown (playout_of plan) p records (more gained flow part p) ⊎ ((Some flow ≡ Some p) × LiesBetween (HasShown (playout_of plan) p records) (HasShown (playout_of plan) p (records ++ r ∷ [])) (more gained flow part p))) (sym e)
    (inr (refl, between plan records r gained flow part (shown_at plan records engine gained h flow here) next))
exact_at plan records r engine gained h flow part here next port c (inr ne) =
    inl (subst (λ (lane : List ℕ). HasShown (playout_of plan) port records lane) (sym (more_other gained flow part port ne)) (shown_at plan records engine gained h port c))

pub breaks_some :
    {D : Type 0} → (plan : Plan) (engine : Engine D) (port i : ℕ) (kind : Kind) → IsPortOf plan.table port i kind
    → (old : FlowView) → old ≡ slice_index_or engine.flows.items i old
    → (time : ℕ) (datagram : List ℕ) (now after : Option Lanes) → Breaks old kind time datagram now after
    → (before : Option Lanes) (records : List Record) (r : Record) → HasCome plan records engine before now → r.port ≡ port → r.time ≡ time → r.datagram ≡ datagram
    → (broken : Option ℕ) × BreaksAfter plan records (records ++ r ∷ []) broken before after
breaks_some plan engine port i kind of old at time datagram now after breaks before records r h e at_time same =
    let here : IsPortOf plan.table r.port i kind = subst (λ p. IsPortOf plan.table p i kind) (sym e) of in
    let flow = slice_index plan.table i in
    let stood : FlowStands plan records flow old (h.gained flow) = subst (λ (f : FlowView). FlowStands plan records flow f (h.gained flow)) (sym at) (h.stands.flows i old of.0) in
    let step : BreaksAtRecord (playout_of plan) flow records r (h.gained flow) now after = flow_break plan records r flow old (h.gained flow) kind time datagram now after breaks stood same at_time here.1 in (
      Some flow,
      record {
        gained = more h.gained flow step.part;
        grow = grow_more before now after plan.table h.gained flow step.part (contains_at plan.table i of.0) h.grow step.grows;
        there = there_more now after plan.table flow step.part h.there step.grows;
        exact = λ q c. exact_at plan records r engine h.gained h.stands flow step.part (contains_at plan.table i of.0) step.next q c (cases_eq q flow);
      },
    )
