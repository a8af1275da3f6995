-- What a flow comes to that runs items, one after another.
use Rattle.std.proofs.Common.{◌≡◌, ℕ, ◌+◌, ◌≤◌, ◌<◌, ◌^◌, Bool, true, false, Some, List, [], ◌∷◌, ◌++◌, length, map, take, refl, sym, ap, subst, ◌∙◌, arith, append_assoc, append-nil, add-one, length-append, slice_index_or, Result, Ok, Err, OnOk}
use Rattle.std.specs.List.{AllZip, list_any, slice_get}
use Rattle.std.specs.Result.{is_err}
use Rattle.std.proofs.Math.Seq.{take-suc}
use Rattle.std.proofs.lemmas.Bool.Decides.{nat_tests}
use Rattle.std.proofs.lemmas.List.{length-map}
use Rattle.std.proofs.lemmas.List.Folds.{list_any_at}
use Rattle.std.proofs.lemmas.Option.{get_or_from_slice_get, slice_get_within}
use Rattle.fg_io.specs.Outlet.{lane_bytes}
use Rattle.fg_trace.specs.Trace.{Record}
use Rattle.fg_shape.specs.declared.kind.Kind.{Kind}
use Rattle.fg_shape.specs.Kind.{port_of}
use Rattle.fg_shape.specs.Playout.{Playout, PlayoutFits}
use Rattle.fg_flows.specs.Sheaf.{Item}
use Rattle.fg_playout.specs.State.{State}
use Rattle.fg_report.specs.declared.flow_sum.FlowSum.{FlowSum}
use Rattle.fg_engine.specs.declared.shelved.Shelved.{Shelved}
use Rattle.fg_engine.specs.Shelved.{lanes_waiting}
use Rattle.fg_engine.specs.Steps.{HasTaken, TakesRecord, IsUnderway}
use Rattle.fg_engine.specs.View.{FlowView}
use Rattle.fg_engine.proofs.Standing.{moved}
use Rattle.fg_batches.specs.BatchView.{BatchView}
use Rattle.fg_batches.specs.Batches.{IsItemOf, CanRun, HasRun}

-- What was taken, said of equal lists
taken_as :
    (playout : Playout) (flow : ℕ) (records records' : List Record) (state : State) (sum : FlowSum) (lane lane' : List ℕ)
    → records ≡ records' → lane ≡ lane' → HasTaken playout flow records state sum lane → HasTaken playout flow records' state sum lane'
taken_as playout flow records records' state sum lane lane' er el h =
    subst (λ (rs : List Record). HasTaken playout flow rs state sum lane') er
    (subst (λ (bytes : List ℕ). HasTaken playout flow records state sum bytes) el h)

-- Nothing is run

zip_none : {A B : Type 0} (R : A → B → Type 0) (xs : List A) → AllZip R xs [] → xs ≡ []
zip_none R [] zip = refl
zip_none R (x ∷ xs) zip = absurd zip

pub ran_none : (old : BatchView) → HasRun [] old old
ran_none old = record {
  port = refl;
  playout = refl;
  run = λ (records more : List Record) (lane : List ℕ) (taken : HasTaken old.flow.state.playout old.flow.sum.port records old.flow.state old.flow.sum lane) (zip : AllZip (IsItemOf old.flow.sum.port) more []). (
    [],
    sym (append-nil old.shelf),
    taken_as old.flow.state.playout old.flow.sum.port records (records ++ more) old.flow.state old.flow.sum lane (lane ++ [])
        (sym (ap (λ (rs : List Record). records ++ rs) (zip_none (IsItemOf old.flow.sum.port) more zip) ∙ append-nil records))
        (sym (append-nil lane)) taken,
  );
}

-- Some are run, and then others

pub zip_split :
    {A B : Type 0} (R : A → B → Type 0) (more : List A) (xs ys : List B) → AllZip R more (xs ++ ys)
    → (front : List A) × (rest : List A) × (more ≡ front ++ rest) × AllZip R front xs × AllZip R rest ys
zip_split R more [] ys zip = ([], more, refl, tt, zip)
zip_split R [] (x ∷ xs) ys zip = absurd zip
zip_split R (r ∷ more) (x ∷ xs) ys zip =
    let cut = zip_split R more xs ys zip.1 in
    (r ∷ cut.0, cut.1, ap (λ l. r ∷ l) cut.2, (zip.0, cut.3), cut.4)

pub ran_then : (first second : List Item) (old mid new : BatchView) → HasRun first old mid → HasRun second mid new → HasRun (first ++ second) old new
ran_then first second old mid new one other = record {
  port = other.port ∙ one.port;
  playout = other.playout ∙ one.playout;
  run = λ (records more : List Record) (lane : List ℕ) (taken : HasTaken old.flow.state.playout old.flow.sum.port records old.flow.state old.flow.sum lane) (zip : AllZip (IsItemOf old.flow.sum.port) more (first ++ second)).
      let cut = zip_split (IsItemOf old.flow.sum.port) more first second zip in
      let before = one.run records cut.0 lane taken cut.3 in
      let there : HasTaken mid.flow.state.playout mid.flow.sum.port (records ++ cut.0) mid.flow.state mid.flow.sum (lane ++ before.0) =
      moved (λ w p. HasTaken w p (records ++ cut.0) mid.flow.state mid.flow.sum (lane ++ before.0)) old.flow.state.playout mid.flow.state.playout
      old.flow.sum.port mid.flow.sum.port (sym one.playout) (sym one.port) before.2
      in
      let after = other.run (records ++ cut.0) cut.1 (lane ++ before.0) there
      (subst (λ p. AllZip (IsItemOf p) cut.1 second) (sym one.port) cut.4)
      in
      let back : HasTaken old.flow.state.playout old.flow.sum.port ((records ++ cut.0) ++ cut.1) new.flow.state new.flow.sum ((lane ++ before.0) ++ after.0) =
      moved (λ w p. HasTaken w p ((records ++ cut.0) ++ cut.1) new.flow.state new.flow.sum ((lane ++ before.0) ++ after.0)) mid.flow.state.playout old.flow.state.playout
      mid.flow.sum.port old.flow.sum.port one.playout one.port after.2
      in (
        before.0 ++ after.0,
        after.1 ∙ ap (λ (bytes : List ℕ). bytes ++ after.0) before.1 ∙ append_assoc old.shelf before.0 after.0,
        taken_as old.flow.state.playout old.flow.sum.port ((records ++ cut.0) ++ cut.1) (records ++ more) new.flow.state new.flow.sum
            ((lane ++ before.0) ++ after.0) (lane ++ (before.0 ++ after.0))
            (append_assoc records cut.0 cut.1 ∙ ap (λ (rs : List Record). records ++ rs) (sym cut.2))
            (append_assoc lane before.0 after.0) back,
      );
}

-- One more is run

pub ran_more :
    (items : List Item) (k : ℕ) (item : Item) (old mid new : BatchView) → slice_get items k ≡ Some item → HasRun (take k items) old mid
    → HasRun (item ∷ []) mid new → HasRun (take (k + 1) items) old new
ran_more items k item old mid new at ran one =
    let more : take (k + 1) items ≡ take k items ++ item ∷ [] =
    ap (λ n. take n items) (add-one k) ∙ take-suc items k item (slice_get_within items k item at) ∙ ap (λ (i : Item). take k items ++ i ∷ []) (get_or_from_slice_get items k item item at)
    in
    subst (λ (some : List Item). HasRun some old new) (sym more) (ran_then (take k items) (item ∷ []) old mid new ran one)

-- Whether there was memory is no part of it.
pub ran_marked : (items : List Item) (old new : BatchView) (starved : Bool) → HasRun items old new → HasRun items old (record new { starved = starved })
ran_marked items old new starved h = record { port = h.port; playout = h.playout; run = h.run }

-- A flow may go on

abbrev record_of : ℕ → Item → Record
record_of flow item = record { time = item.time; port = port_of flow item.kind; datagram = item.payload }

records_are : (flow : ℕ) (items : List Item) → AllZip (IsItemOf flow) (map (record_of flow) items) items
records_are flow [] = tt
records_are flow (item ∷ items) = (record { port = refl; time = refl; datagram = refl }, records_are flow items)

pub can_go_on :
    (items : List Item) (old new : BatchView) (count more : ℕ) → length items + more ≤ count → CanRun old.flow count → HasRun items old new
    → CanRun new.flow more
can_go_on items old new count more within can ran =
    let own = map (record_of old.flow.sum.port) items in
    let step = ran.run can.records own can.lane can.taken (records_are old.flow.sum.port items) in
    let few : length can.records + count < 2 ^ 43 = can.few in
    let long : length own ≡ length items = length-map items (record_of old.flow.sum.port) in
    record {
      records = can.records ++ own;
      lane = can.lane ++ step.0;
      few = omega (arith, length-append can.records own, long, few, within);
      taken = moved (λ w p. HasTaken w p (can.records ++ own) new.flow.state new.flow.sum (can.lane ++ step.0)) old.flow.state.playout new.flow.state.playout
          old.flow.sum.port new.flow.sum.port (sym ran.playout) (sym ran.port) step.2;
      fits = subst PlayoutFits (sym ran.playout) can.fits;
    }

pub underway : (flow : FlowView) (count : ℕ) → CanRun flow count → IsUnderway flow.state.playout flow.sum.port flow.state flow.sum
underway flow count can =
    let few : length can.records + count < 2 ^ 43 = can.few in
    record { records = can.records; lane = can.lane; few = omega arith; taken = can.taken; fits = can.fits }

-- One item is run into the shelf

waits_at : (shelved : Shelved) (port : ℕ) → shelved.port ≡ port → lane_bytes (lanes_waiting shelved) port ≡ shelved.shelf
waits_at shelved port e = grind (arith, nat_tests)

-- what taking a datagram says
abbrev pub Takes : FlowView → FlowView → Kind → ℕ → List ℕ → Shelved → Shelved → Type 0
Takes old new kind time payload before after =
    (records : List Record) (r : Record) (lane : List ℕ) → HasTaken old.state.playout old.sum.port records old.state old.sum lane
    → r.datagram ≡ payload → r.time ≡ time → port_of old.sum.port kind ≡ r.port
    → TakesRecord old.state.playout old.sum.port records r lane new.state new.sum (Some (lanes_waiting before)) (Some (lanes_waiting after))

takes_one :
    (item : Item) (old new : FlowView) (before after : Shelved) → before.port ≡ old.sum.port → after.port ≡ old.sum.port
    → Takes old new item.kind item.time item.payload before after
    → (records more : List Record) (lane : List ℕ) → HasTaken old.state.playout old.sum.port records old.state old.sum lane
    → AllZip (IsItemOf old.sum.port) more (item ∷ [])
    → (piece : List ℕ) × (after.shelf ≡ before.shelf ++ piece)
    × HasTaken old.state.playout old.sum.port (records ++ more) new.state new.sum (lane ++ piece)
takes_one item old new before after here still takes records [] lane taken zip = absurd zip
takes_one item old new before after here still takes records (r ∷ []) lane taken zip =
    let step = takes records r lane taken zip.0.datagram zip.0.time (sym zip.0.port) in (
      step.piece,
      sym (waits_at after old.sum.port still) ∙ step.grows.bytes ∙ ap (λ (bytes : List ℕ). bytes ++ step.piece) (waits_at before old.sum.port here),
      step.taken,
    )
takes_one item old new before after here still takes records (r ∷ other ∷ more) lane taken zip = absurd zip.1

pub ran_one :
    (item : Item) (old new : FlowView) (before after : Shelved) (starved starved' : Bool) → before.port ≡ old.sum.port → after.port ≡ old.sum.port
    → new.sum.port ≡ old.sum.port → new.state.playout ≡ old.state.playout → Takes old new item.kind item.time item.payload before after
    → HasRun (item ∷ []) (record { flow = old; shelf = before.shelf; starved = starved }) (record { flow = new; shelf = after.shelf; starved = starved' })
ran_one item old new before after starved starved' here still port playout takes = record {
  port = port;
  playout = playout;
  run = takes_one item old new before after here still takes;
}

-- No flow is starved

pub is_false : (b : Bool) → (b ≡ true → ⊥) → b ≡ false
is_false true never = absurd (never refl)
is_false false never = refl

pub not_starved : (flows : List BatchView) (k : ℕ) (d : BatchView) → list_any (λ flow. flow.starved) flows ≡ false → k < length flows → (slice_index_or flows k d).starved ≡ false
not_starved flows k d none within =
    is_false (slice_index_or flows k d).starved (λ e. let found = list_any_at (λ (flow : BatchView). flow.starved) flows k d within e in absurd (cc (found, none)))

-- What an answer says

pub on_ok : {T E : Type 0} (r : Result T E) (P : Type 0) → P → OnOk r P
on_ok (Ok x) P p = p
on_ok (Err e) P p = tt

pub on_no_ok : {T E : Type 0} (r : Result T E) (P : Type 0) (fault : E) → r ≡ Err fault → OnOk r P
on_no_ok (Ok x) P fault is = absurd (cc)
on_no_ok (Err e) P fault is = tt

pub where_ok : {T E : Type 0} (r : Result T E) (P : Type 0) → is_err r ≡ false → OnOk r P → P
where_ok (Ok x) P good h = h
where_ok (Err e) P good h = absurd (cc)
