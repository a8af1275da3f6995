-- How a batch is gathered, record after record.
use Rattle.std.proofs.Common.{◌≡◌, inl, inr, ℕ, ◌+◌, ◌<◌, ◌^◌, not, Option, Some, None, IfSome, IfNone, Ok, List, [], ◌∷◌, ◌++◌, length, refl, sym, ap, ◌∙◌, subst, arith, append_assoc, append-nil}
use Rattle.std.specs.List.{list_any}
use Rattle.std.proofs.lemmas.List.Sums.{count_by-le-length}
use Rattle.fg_trace.specs.declared.step.Step.TheVariants.{Datagram}
use Rattle.fg_trace.specs.Reader.{Answer, ReaderState, StandsAfter, Walks}
use Rattle.fg_trace.specs.Trace.{Record, Ending, IsTrace}
use Rattle.fg_shape.specs.declared.kind.Kind.{Kind}
use Rattle.fg_flows.specs.declared.Plan.{Plan}
use Rattle.fg_flows.specs.Plan.{PlanFits}
use Rattle.fg_flows.specs.Flows.{IsPortOf, IsTable}
use Rattle.fg_flows.specs.Laws.{OneFlowHasAPort}
use Rattle.fg_flows.specs.Sheaf.{SheafState, no_items}
use Rattle.fg_report.specs.declared.tail.Tail.{Tail}
use Rattle.fg_results.specs.Flow.{is_of}
use Rattle.fg_results.specs.Repair.{others_of}
use Rattle.fg_results.proofs.Zips.{zip_length}
use Rattle.fg_engine.specs.Engine.{TellsTail}
use Rattle.fg_engine.proofs.Standing.{others_of_flow, others_of_none, IsOfNone}
use Rattle.fg_results.proofs.FlowRecords.{few_records}
use Rattle.fg_engine.proofs.Walking.{ended}
use Rattle.fg_batches.specs.declared.gathering.Gathering.{Gathering}
use Rattle.fg_batches.specs.declared.gathering.Heading.{Heading}
use Rattle.fg_batches.specs.Batches.{AreItemsOf, HoldsBatch}
use Rattle.fg_batches.specs.Gathering.{GathersLast, HasAdded, HasGathered, HasKept, IsLeft, with_record}
use Rattle.fg_batches.proofs.HeldRecords.{holds_none, holds_one, holds_other}

-- There are as many lists in the sheaf as flows.
pub gathered_long :
    (plan : Plan) (first now : Option (List ℕ)) (reader : ReaderState) (records batch : List Record) (gathering : Gathering)
    → HasGathered plan first now reader records batch gathering → length gathering.sheaf.items ≡ length plan.table
gathered_long plan first now reader records batch gathering h = zip_length (AreItemsOf batch) plan.table gathering.sheaf.items h.kept.holds

-- There are few of no flow.
pub few_others :
    (plan : Plan) → PlanFits plan → (first now : Option (List ℕ)) (reader : ReaderState) (records batch : List Record) (gathering : Gathering) → reader.max ≡ plan.max
    → HasGathered plan first now reader records batch gathering → gathering.other < 2 ^ 43
few_others plan fits first now reader records batch gathering max h =
    let all = (records ++ batch) ++ h.left in
    let fewer = count_by-le-length (λ (r : Record). not (list_any (λ flow. is_of flow r) plan.table)) all in
    let few : length all < 2 ^ 43 = few_records plan fits first now reader all max h.stands in
    omega (arith, fewer, h.kept.other, few)

-- Where no record is left

none_left : (plan : Plan) (next : Option Heading) (datagram : List ℕ) (left : List Record) → next ≡ None → IsLeft plan next datagram left → left ≡ []
none_left plan next datagram left none h = subst (λ (n : Option Heading). IsLeft plan n datagram left) none h

all_in : (records batch left : List Record) → left ≡ [] → (records ++ batch) ++ left ≡ records ++ batch
all_in records batch left none = ap (λ (rs : List Record). (records ++ batch) ++ rs) none ∙ append-nil (records ++ batch)

pub stands_in :
    (plan : Plan) (first now : Option (List ℕ)) (reader : ReaderState) (records batch : List Record) (gathering : Gathering) → gathering.next ≡ None
    → HasGathered plan first now reader records batch gathering → StandsAfter reader first now (records ++ batch)
stands_in plan first now reader records batch gathering none h =
    subst (λ (rs : List Record). StandsAfter reader first now rs) (all_in records batch h.left (none_left plan gathering.next reader.payload h.left none h.kept.is_left)) h.stands

kept_in :
    (plan : Plan) (first now : Option (List ℕ)) (reader : ReaderState) (records batch : List Record) (gathering : Gathering) → gathering.next ≡ None
    → HasGathered plan first now reader records batch gathering → HasKept plan [] records batch [] gathering
kept_in plan first now reader records batch gathering none h = record {
  holds = h.kept.holds;
  is_left = subst (λ (n : Option Heading). IsLeft plan n [] []) (sym none) refl;
  other = h.kept.other ∙ ap (λ (left : List Record). others_of plan.table ((records ++ batch) ++ left)) (none_left plan gathering.next reader.payload h.left none h.kept.is_left);
}

-- A record more

-- one of the batch
one_in : (records batch : List Record) (r : Record) → (records ++ (batch ++ r ∷ [])) ++ [] ≡ (records ++ batch) ++ r ∷ []
one_in records batch r = append-nil (records ++ (batch ++ r ∷ [])) ∙ sym (append_assoc records batch (r ∷ []))

-- of a flow
others_same :
    (plan : Plan) (records batch : List Record) (r : Record) (flow : ℕ) (kind : Kind) (n : ℕ) → IsPortOf plan.table r.port flow kind
    → n ≡ others_of plan.table ((records ++ batch) ++ []) → n ≡ others_of plan.table ((records ++ batch) ++ r ∷ [])
others_same plan records batch r flow kind n of h =
    h ∙ ap (others_of plan.table) (append-nil (records ++ batch)) ∙ sym (others_of_flow plan.table (records ++ batch) r flow kind of)

kept_more :
    OneFlowHasAPort → (plan : Plan) → IsTable plan.table → (datagram : List ℕ) (records batch : List Record) (old : Gathering) (r : Record) (heading : Heading)
    → HasKept plan [] records batch [] old → old.next ≡ None → IsPortOf plan.table r.port heading.flow heading.kind → r.time ≡ heading.time → r.datagram ≡ datagram
    → HasKept plan datagram records (batch ++ r ∷ []) [] (with_record old heading datagram)
kept_more law plan good datagram records batch old r heading h none of at same = record {
  holds =
      holds_one law plan.table good batch r heading.flow heading.kind of old.sheaf.items (record { kind = heading.kind; time = heading.time; payload = datagram })
      (record { port = sym of.1; time = at; datagram = same }) h.holds;
  is_left = subst (λ (n : Option Heading). IsLeft plan n datagram []) (sym none) refl;
  other = others_same plan records batch r heading.flow heading.kind old.other of h.other ∙ ap (others_of plan.table) (sym (one_in records batch r));
}

kept_left :
    (plan : Plan) (datagram : List ℕ) (records batch : List Record) (old : Gathering) (r : Record) (heading : Heading)
    → HasKept plan [] records batch [] old → IsPortOf plan.table r.port heading.flow heading.kind → r.time ≡ heading.time → r.datagram ≡ datagram
    → HasKept plan datagram records batch (r ∷ []) (record old { next = Some heading })
kept_left plan datagram records batch old r heading h of at same = record {
  holds = h.holds;
  is_left = (r, refl, of, at, same);
  other = others_same plan records batch r heading.flow heading.kind old.other of h.other;
}

-- What a record comes to: it is in the batch, or left after it.
abbrev pub KeepsMore : Plan → List ℕ → List Record → List Record → Record → Gathering → Type 0
KeepsMore plan datagram records batch r new =
    (longer : List Record) × (left : List Record) × ((records ++ longer) ++ left ≡ (records ++ batch) ++ r ∷ []) × HasKept plan datagram records longer left new

pub kept_added :
    OneFlowHasAPort → (plan : Plan) → IsTable plan.table → (datagram : List ℕ) (records batch : List Record) (old new : Gathering) (r : Record) (heading : Heading)
    → HasKept plan [] records batch [] old → old.next ≡ None → HasAdded heading datagram old new
    → IsPortOf plan.table r.port heading.flow heading.kind → r.time ≡ heading.time → r.datagram ≡ datagram
    → KeepsMore plan datagram records batch r new
kept_added law plan good datagram records batch old new r heading h none (inl added) of at same = (
  batch ++ r ∷ [],
  [],
  one_in records batch r,
  subst (λ (g : Gathering). HasKept plan datagram records (batch ++ r ∷ []) [] g) (sym added.1) (kept_more law plan good datagram records batch old r heading h none of at same),
)
kept_added law plan good datagram records batch old new r heading h none (inr left) of at same = (
  batch,
  r ∷ [],
  refl,
  subst (λ (g : Gathering). HasKept plan datagram records batch (r ∷ []) g) (sym left.1) (kept_left plan datagram records batch old r heading h of at same),
)

-- of no flow
pub kept_other :
    (plan : Plan) (datagram : List ℕ) (records batch : List Record) (old : Gathering) (r : Record)
    → HasKept plan [] records batch [] old → old.next ≡ None → IsOfNone plan.table r.port
    → KeepsMore plan datagram records batch r (record old { other = old.other + 1 })
kept_other plan datagram records batch old r h none of = (
  batch ++ r ∷ [],
  [],
  one_in records batch r,
  record {
    holds = holds_other plan.table batch r old.sheaf.items of h.holds;
    is_left = subst (λ (n : Option Heading). IsLeft plan n datagram []) (sym none) refl;
    other =
        ap (λ n. n + 1) (h.other ∙ ap (others_of plan.table) (append-nil (records ++ batch)))
        ∙ sym (others_of_none plan.table (records ++ batch) r of) ∙ ap (others_of plan.table) (sym (one_in records batch r));
  },
)

-- as the reader gives it
pub gathered_on :
    (plan : Plan) (first left now : Option (List ℕ)) (reader next : ReaderState) (records batch : List Record) (old new : Gathering) (answer : Answer) (time port size : ℕ) (datagram : List ℕ)
    → old.next ≡ None → answer ≡ Ok (Datagram time port size) → datagram ≡ next.payload
    → ((records : List Record) → StandsAfter reader first left records → Walks answer next first now records)
    → ((records batch : List Record) (r : Record) → HasKept plan [] records batch [] old → r.port ≡ port → r.time ≡ time → r.datagram ≡ datagram → KeepsMore plan datagram records batch r new)
    → HasGathered plan first left reader records batch old → (longer : List Record) × HasGathered plan first now next records longer new
gathered_on plan first left now reader next records batch old new answer time port size datagram none is payload walks takes h =
    let r : Record = record { time = time; port = port; datagram = next.payload } in
    let stands : StandsAfter next first now ((records ++ batch) ++ r ∷ []) =
    subst (λ (a : Answer). Walks a next first now (records ++ batch)) is (walks (records ++ batch) (stands_in plan first left reader records batch old none h)) in
    let more = takes records batch r (kept_in plan first left reader records batch old none h) refl refl (sym payload) in (
      more.0,
      record {
        left = more.1;
        stands = subst (λ (rs : List Record). StandsAfter next first now rs) (sym more.2) stands;
        kept = subst (λ (d : List ℕ). HasKept plan d records more.0 more.1 new) payload more.3;
      },
    )

-- The record that the batch before left

-- it is the first of the next
begins_with :
    OneFlowHasAPort → (plan : Plan) → IsTable plan.table → (first now : Option (List ℕ)) (reader : ReaderState) (records left : List Record) (old new : Gathering) (next : Option Heading)
    → old.next ≡ next → IfSome next (λ heading. new ≡ record (with_record old heading reader.payload) { next = None }) → IfNone next (new ≡ old)
    → IsLeft plan next reader.payload left → HoldsBatch plan [] old.sheaf → old.other ≡ others_of plan.table ((records ++ []) ++ left)
    → StandsAfter reader first now ((records ++ []) ++ left) → (batch : List Record) × HasGathered plan first now reader records batch new
begins_with law plan good first now reader records left old new None is added none is_left holds other stands = (
  [],
  subst (λ (g : Gathering). HasGathered plan first now reader records [] g) (sym none) (record {
    left = left;
    stands = stands;
    kept = record { holds = holds; is_left = subst (λ (n : Option Heading). IsLeft plan n reader.payload left) (sym is) is_left; other = other };
  }),
)
begins_with law plan good first now reader records left old new (Some heading) is added none is_left holds other stands =
    let r = is_left.0 in
    let one : (records ++ []) ++ left ≡ (records ++ r ∷ []) ++ [] = ap (λ (rs : List Record). (records ++ []) ++ rs) is_left.1 ∙ sym (one_in records [] r) in (
      r ∷ [],
      subst (λ (g : Gathering). HasGathered plan first now reader records (r ∷ []) g) (sym added) (record {
        left = [];
        stands = subst (λ (rs : List Record). StandsAfter reader first now rs) one stands;
        kept = record {
          holds =
              holds_one law plan.table good [] r heading.flow heading.kind is_left.2 old.sheaf.items (record { kind = heading.kind; time = heading.time; payload = reader.payload })
              (record { port = sym is_left.2.1; time = is_left.3; datagram = is_left.4 }) holds;
          is_left = refl;
          other = other ∙ ap (others_of plan.table) one;
        };
      }),
    )

pub left_added :
    OneFlowHasAPort → (plan : Plan) → IsTable plan.table → (first now : Option (List ℕ)) (reader : ReaderState) (records : List Record) (datagram : List ℕ) (old new : Gathering)
    → datagram ≡ reader.payload → IfSome old.next (λ heading. new ≡ record (with_record old heading datagram) { next = None }) → IfNone old.next (new ≡ old)
    → HasGathered plan first now reader records [] old → (batch : List Record) × HasGathered plan first now reader records batch new
left_added law plan good first now reader records datagram old new payload added none h =
    begins_with law plan good first now reader records h.left old new old.next refl
    (subst (λ (d : List ℕ). IfSome old.next (λ heading. new ≡ record (with_record old heading d) { next = None })) payload added)
    none h.kept.is_left h.kept.holds h.kept.other h.stands

left_none :
    (old new : Gathering) (datagram : List ℕ) (next : Option Heading) → old.next ≡ next
    → IfSome next (λ heading. new ≡ record (with_record old heading datagram) { next = None }) → IfNone next (new ≡ old) → new.next ≡ None
left_none old new datagram None is added none = ap (λ (g : Gathering). g.next) none ∙ is
left_none old new datagram (Some heading) is added none = ap (λ (g : Gathering). g.next) added

pub none_after :
    (old new : Gathering) (datagram : List ℕ) → IfSome old.next (λ heading. new ≡ record (with_record old heading datagram) { next = None }) → IfNone old.next (new ≡ old)
    → new.next ≡ None
none_after old new datagram added none = left_none old new datagram old.next refl added none

-- The end

pub gathers_last :
    (plan : Plan) → PlanFits plan → (first left now : Option (List ℕ)) (reader next : ReaderState) (records batch : List Record) (old : Gathering) (end : Ending) (told : Tail)
    → next.max ≡ plan.max → TellsTail end told → old.next ≡ None
    → ((records : List Record) → StandsAfter reader first left records → StandsAfter next first now records × IfSome first (λ bytes. IsTrace bytes next.max records end))
    → HasGathered plan first left reader records batch old → GathersLast plan first records batch old told
gathers_last plan fits first left now reader next records batch old end told max tells none walks h =
    let read = walks (records ++ batch) (stands_in plan first left reader records batch old none h) in
    record {
      holds = h.kept.holds;
      none_left = none;
      all = record {
        end = end;
        of_input = ended plan first next (records ++ batch) end max read.1;
        tells = tells;
        few = few_records plan fits first now next (records ++ batch) max read.0;
        other =
            h.kept.other ∙ ap (others_of plan.table)
            (all_in records batch h.left (none_left plan old.next reader.payload h.left none h.kept.is_left));
      };
    }

-- From one batch to the next

-- Before the first, nothing was read ahead.
pub gathered_none :
    (plan : Plan) (first now : Option (List ℕ)) (reader : ReaderState) (records : List Record) (gathering : Gathering)
    → gathering.sheaf ≡ no_items (length plan.table) → gathering.next ≡ None → gathering.other ≡ others_of plan.table records
    → StandsAfter reader first now records → HasGathered plan first now reader records [] gathering
gathered_none plan first now reader records gathering sheaf next other stands =
    let none : records ≡ (records ++ []) ++ [] = sym (append-nil records) ∙ sym (append-nil (records ++ [])) in
    record {
      left = [];
      stands = subst (λ (rs : List Record). StandsAfter reader first now rs) none stands;
      kept = record {
        holds = subst (λ (s : SheafState). HoldsBatch plan [] s) (sym sheaf) (holds_none plan.table);
        is_left = subst (λ (n : Option Heading). IsLeft plan n reader.payload []) (sym next) refl;
        other = other ∙ ap (others_of plan.table) none;
      };
    }

-- Where the batch was handed on, none of the next is in the sheaf.
pub gathered_next :
    (plan : Plan) (first now : Option (List ℕ)) (reader : ReaderState) (records batch : List Record) (old new : Gathering)
    → new.sheaf ≡ no_items (length plan.table) → new.next ≡ old.next → new.other ≡ old.other
    → HasGathered plan first now reader records batch old → HasGathered plan first now reader (records ++ batch) [] new
gathered_next plan first now reader records batch old new sheaf next other h =
    let same : (records ++ batch) ++ h.left ≡ ((records ++ batch) ++ []) ++ h.left = ap (λ (rs : List Record). rs ++ h.left) (sym (append-nil (records ++ batch))) in
    record {
      left = h.left;
      stands = subst (λ (rs : List Record). StandsAfter reader first now rs) same h.stands;
      kept = record {
        holds = subst (λ (s : SheafState). HoldsBatch plan [] s) (sym sheaf) (holds_none plan.table);
        is_left = subst (λ (n : Option Heading). IsLeft plan n reader.payload h.left) (sym next) h.kept.is_left;
        other = other ∙ h.kept.other ∙ ap (others_of plan.table) same;
      };
    }

-- What holds of the value, where there is one, or where there is none

pub some_at : {X : Type 0} (P : X → Type 0) (o : Option X) (x : X) → o ≡ Some x → IfSome o P → P x
some_at {X} P o x e h = subst (λ (p : Option X). IfSome p P) e h

pub none_at : {X : Type 0} (P : Type 0) (o : Option X) → o ≡ None → IfNone o P → P
none_at {X} P o e h = subst (λ (p : Option X). IfNone p P) e h
