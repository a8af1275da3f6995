-- How the sheaf holds a batch, record after record.
use Rattle.std.proofs.Common.{◌≡◌, ◌⊎◌, inl, inr, ℕ, zero, suc, ◌<◌, false, List, [], ◌∷◌, ◌++◌, length, replicate, get_or, set, slice_index, sym, ◌∙◌, subst, arith}
use Rattle.std.specs.List.{AllZip}
use Rattle.std.proofs.lemmas.Bool.{cases_eq}
use Rattle.std.proofs.lemmas.List.Elements.{filter-append}
use Rattle.std.proofs.lemmas.List.{get_or-set_same, get_or-set_other, get_or-replicate, length-set, length-replicate}
use Rattle.fg_trace.specs.Trace.{Record}
use Rattle.fg_shape.specs.declared.kind.Kind.{Kind}
use Rattle.fg_shape.specs.Kind.{port_of}
use Rattle.fg_flows.specs.Flows.{IsPortOf, IsTable}
use Rattle.fg_flows.specs.Laws.{OneFlowHasAPort}
use Rattle.fg_flows.specs.declared.Plan.{Plan}
use Rattle.fg_flows.specs.Sheaf.{Item, SheafState, items_of}
use Rattle.fg_results.specs.Flow.{is_of, records_of}
use Rattle.fg_results.proofs.ArrivalLemmas.{one_more_record}
use Rattle.fg_results.proofs.Zips.{zip_push, zip_length}
use Rattle.fg_results.proofs.FlowRecords.{is_of_no}
use Rattle.fg_engine.proofs.Standing.{not_of, IsOfNone}
use Rattle.fg_batches.specs.Batches.{IsItemOf, AreItemsOf, HoldsBatch}
use Rattle.fg_batches.specs.Stages.{all_of, items_in}

-- Two lists, place by place

module _ {A B : Type 0} (R : A → B → Type 0) (d : A) (e : B) where
  pub zip_place : (xs : List A) (ys : List B) (k : ℕ) → AllZip R xs ys → k < length xs → R (get_or xs k d) (get_or ys k e)
  zip_place [] ys k zip below = absurd (omega (arith, below))
  zip_place (x ∷ xs) [] k zip below = absurd zip
  zip_place (x ∷ xs) (y ∷ ys) zero zip below = zip.0
  zip_place (x ∷ xs) (y ∷ ys) (suc k) zip below = zip_place xs ys k zip.1 (omega (arith, below))

  pub zip_places : (xs : List A) (ys : List B) → length ys ≡ length xs → ((k : ℕ) → k < length xs → R (get_or xs k d) (get_or ys k e)) → AllZip R xs ys
  zip_places [] [] same each = tt
  zip_places [] (y ∷ ys) same each = absurd (omega (arith, same))
  zip_places (x ∷ xs) [] same each = absurd (omega (arith, same))
  zip_places (x ∷ xs) (y ∷ ys) same each = (each zero (omega arith), zip_places xs ys (omega (arith, same)) (λ k below. each (suc k) (omega (arith, below))))

-- One record more

-- another flow has the items that it had
others_hold : (port : ℕ) (batch : List Record) (r : Record) (items : List Item) → is_of port r ≡ false → AreItemsOf batch port items → AreItemsOf (batch ++ r ∷ []) port items
others_hold port batch r items e zip = subst (λ (rs : List Record). AllZip (IsItemOf port) rs items) (sym (not_of port batch r e)) zip

-- its own flow has it as one item more
own_holds : (port : ℕ) (batch : List Record) (r : Record) (kind : Kind) (items : List Item) (item : Item) → port_of port kind ≡ r.port → IsItemOf port r item → AreItemsOf batch port items → AreItemsOf (batch ++ r ∷ []) port (items ++ item ∷ [])
own_holds port batch r kind items item on one zip =
    subst (λ (rs : List Record). AllZip (IsItemOf port) rs (items ++ item ∷ [])) (sym (one_more_record port kind batch r on))
    (zip_push (IsItemOf port) (records_of port batch) items r item zip one)

holds_at :
    OneFlowHasAPort → (table : List ℕ) → IsTable table → (batch : List Record) (r : Record) (flow : ℕ) (kind : Kind) → IsPortOf table r.port flow kind
    → (items : List (List Item)) (new : List Item) → flow < length items → AreItemsOf (batch ++ r ∷ []) (slice_index table flow) new
    → (k : ℕ) → k < length table → AreItemsOf batch (slice_index table k) (get_or items k []) → (k ≡ flow) ⊎ (k ≡ flow → ⊥)
    → AreItemsOf (batch ++ r ∷ []) (slice_index table k) (get_or (set items flow new) k [])
holds_at law table good batch r flow kind of items new short own k below old (inl e) =
    subst (λ j. AreItemsOf (batch ++ r ∷ []) (slice_index table j) (get_or (set items flow new) j [])) (sym e)
    (subst (λ (its : List Item). AreItemsOf (batch ++ r ∷ []) (slice_index table flow) its) (sym (get_or-set_same items flow new [] short)) own)
holds_at law table good batch r flow kind of items new short own k below old (inr ne) =
    let apart : is_of (slice_index table k) r ≡ false = is_of_no (slice_index table k) r (λ other e. ne (law table r.port k flow other kind good (below, e) of).0) in
    subst (λ (its : List Item). AreItemsOf (batch ++ r ∷ []) (slice_index table k) its) (sym (get_or-set_other items flow k new [] ne))
    (others_hold (slice_index table k) batch r (get_or items k []) apart old)

pub holds_one :
    OneFlowHasAPort → (table : List ℕ) → IsTable table → (batch : List Record) (r : Record) (flow : ℕ) (kind : Kind) → IsPortOf table r.port flow kind
    → (items : List (List Item)) (item : Item) → IsItemOf (slice_index table flow) r item → AllZip (AreItemsOf batch) table items
    → AllZip (AreItemsOf (batch ++ r ∷ [])) table (set items flow (get_or items flow [] ++ item ∷ []))
holds_one law table good batch r flow kind of items item one zip =
    let long : length items ≡ length table = zip_length (AreItemsOf batch) table items zip in
    let new = get_or items flow [] ++ item ∷ [] in
    let own : AreItemsOf (batch ++ r ∷ []) (slice_index table flow) new =
    own_holds (slice_index table flow) batch r kind (get_or items flow []) item of.1 one (zip_place (AreItemsOf batch) 0 [] table items flow zip of.0) in
    zip_places (AreItemsOf (batch ++ r ∷ [])) 0 [] table (set items flow new) (length-set items flow new ∙ long)
    (λ k below. holds_at law table good batch r flow kind of items new (subst (λ n. flow < n) (sym long) of.0) own k below
    (zip_place (AreItemsOf batch) 0 [] table items k zip below) (cases_eq k flow))

-- One of no flow

pub holds_other :
    (table : List ℕ) (batch : List Record) (r : Record) (items : List (List Item)) → IsOfNone table r.port → AllZip (AreItemsOf batch) table items
    → AllZip (AreItemsOf (batch ++ r ∷ [])) table items
holds_other table batch r items none zip =
    zip_places (AreItemsOf (batch ++ r ∷ [])) 0 [] table items (zip_length (AreItemsOf batch) table items zip)
    (λ k below. others_hold (slice_index table k) batch r (get_or items k []) (is_of_no (slice_index table k) r (λ kind e. none k kind (below, e)))
    (zip_place (AreItemsOf batch) 0 [] table items k zip below))

-- Those of other batches after them

zip_append : {A B : Type 0} (R : A → B → Type 0) (xs xs' : List A) (ys ys' : List B) → AllZip R xs ys → AllZip R xs' ys' → AllZip R (xs ++ xs') (ys ++ ys')
zip_append R [] xs' [] ys' zip zip' = zip'
zip_append R [] xs' (y ∷ ys) ys' zip zip' = absurd zip
zip_append R (x ∷ xs) xs' [] ys' zip zip' = absurd zip
zip_append R (x ∷ xs) xs' (y ∷ ys) ys' zip zip' = (zip.0, zip_append R xs xs' ys ys' zip.1 zip')

-- A flow's records of batches are its items of their sheaves.
pub holds_all :
    (plan : Plan) (batches : List (List Record)) (sheaves : List SheafState) (k : ℕ) → k < length plan.table → AllZip (HoldsBatch plan) batches sheaves
    → AreItemsOf (all_of batches) (slice_index plan.table k) (items_in sheaves k)
holds_all plan [] [] k below zip = tt
holds_all plan [] (sheaf ∷ sheaves) k below zip = absurd zip
holds_all plan (batch ∷ batches) [] k below zip = absurd zip
holds_all plan (batch ∷ batches) (sheaf ∷ sheaves) k below zip =
    let port = slice_index plan.table k in
    subst (λ (rs : List Record). AllZip (IsItemOf port) rs (items_of sheaf k ++ items_in sheaves k)) (sym (filter-append (is_of port) batch (all_of batches)))
    (zip_append (IsItemOf port) (records_of port batch) (records_of port (all_of batches)) (items_of sheaf k) (items_in sheaves k)
    (zip_place (AreItemsOf batch) 0 [] plan.table sheaf.items k zip.0 below)
    (holds_all plan batches sheaves k below zip.1))

-- None at all

pub holds_none : (table : List ℕ) → AllZip (AreItemsOf []) table (replicate (length table) [])
holds_none table =
    zip_places (AreItemsOf []) 0 [] table (replicate (length table) []) (length-replicate (length table) [])
    (λ k below. subst (λ (its : List Item). AreItemsOf [] (slice_index table k) its) (sym (get_or-replicate (length table) k [] [] below)) tt)
