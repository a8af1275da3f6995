-- What the reader of batches has given, batch after batch.
use Rattle.std.proofs.Common.{◌≡◌, ◌<◌, ◌≤◌, ◌^◌, ℕ, Option, Some, None, IfSome, IfNone, IsSome, Result, Ok, Err, IfOk, IfErr, OnErr, List, [], ◌∷◌, ◌++◌, length, refl, sym, ap, ◌∙◌, subst, arith, append_assoc, append-nil, length-append}
use Rattle.std.specs.List.{AllZip, slice_index}
use Rattle.std.specs.Result.{result_transpose}
use Rattle.std.proofs.lemmas.List.Sums.{count_by-le-length, length-filter}
use Rattle.fg_io.specs.declared.fault.Fault.{Fault}
use Rattle.fg_io.specs.declared.fault.Fault.TheVariants.{Read}
use Rattle.fg_io.specs.Faults.{Counts}
use Rattle.fg_trace.specs.Reader.{ReaderState, StandsAfter}
use Rattle.fg_trace.specs.Reading.{HasReached, HoldsNext}
use Rattle.fg_trace.specs.Trace.{Record}
use Rattle.fg_flows.specs.declared.Plan.{Plan}
use Rattle.fg_flows.specs.Plan.{PlanFits}
use Rattle.fg_flows.specs.Sheaf.{SheafState, no_items}
use Rattle.fg_report.specs.declared.tail.Tail.{Tail}
use Rattle.fg_results.specs.Flow.{is_of, records_of}
use Rattle.fg_results.proofs.FlowRecords.{few_records}
use Rattle.fg_results.proofs.Zips.{zip_length, zip_push}
use Rattle.fg_engine.specs.Engine.{HasRead, told_finish}
use Rattle.fg_batches.specs.declared.gathering.Gathering.{Gathering}
use Rattle.fg_batches.specs.Batches.{AreItemsOf, HoldsBatch, IsItemOf}
use Rattle.fg_batches.specs.Gathering.{GathersLast, HasGathered}
use Rattle.fg_batches.specs.Stages.{CountsEnd, GivesBatches, MayFollow, StandsAtEnd, all_of, items_in}
use Rattle.fg_batches.proofs.Gathered.{gathered_next}
use Rattle.fg_batches.proofs.HeldRecords.{holds_all}

-- One batch more

all_push : (batches : List (List Record)) (batch : List Record) → all_of (batches ++ batch ∷ []) ≡ all_of batches ++ batch
all_push [] batch = append-nil batch
all_push (front ∷ batches) batch = ap (λ (rs : List Record). front ++ rs) (all_push batches batch) ∙ sym (append_assoc front (all_of batches) batch)

-- Where there are few records, few are of a flow.
few_of_flow :
    (plan : Plan) (batches : List (List Record)) (sheaves : List SheafState) (k : ℕ) → k < length plan.table → AllZip (HoldsBatch plan) batches sheaves
    → length (all_of batches) < 2 ^ 43 → length (items_in sheaves k) < 2 ^ 43
few_of_flow plan batches sheaves k below zip few =
    let port = slice_index plan.table k in
    let own = records_of port (all_of batches) in
    let same : length (items_in sheaves k) ≡ length own = zip_length (IsItemOf port) own (items_in sheaves k) (holds_all plan batches sheaves k below zip) in
    let fewer : length own ≤ length (all_of batches) =
    subst (λ n. n ≤ length (all_of batches)) (sym (length-filter (is_of port) (all_of batches))) (count_by-le-length (is_of port) (all_of batches)) in
    omega (arith, same, fewer, few)

-- What one reading comes to

-- After these records the sheaf has those of a batch more, and the reader stands right after them; or they are all; or a read failed
-- there. They are few.
pub record GivesOne
    (plan : Plan) (first now : Option (List ℕ)) (reader : ReaderState) (gathering : Gathering) (end : Option (Result Tail Fault))
    (records : List Record) (sheaf : SheafState) : Type 0 where
  pub batch : List Record
  pub holds : HoldsBatch plan batch sheaf
  pub few : length (records ++ batch) < 2 ^ 43
  pub stands : StandsAtEnd plan first now reader gathering end (records ++ batch)

shorter : (records more : List Record) → length (records ++ more) < 2 ^ 43 → length records < 2 ^ 43
shorter records more few = omega (arith, length-append records more, few)

one_more :
    (plan : Plan) → PlanFits plan → (first now : Option (List ℕ)) (reader : ReaderState) (records batch : List Record) (filled after : Gathering) → reader.max ≡ plan.max
    → after.sheaf ≡ no_items (length plan.table) → after.next ≡ filled.next → after.other ≡ filled.other → reader.kept ≡ None
    → HasGathered plan first now reader records batch filled → GivesOne plan first now reader after None records filled.sheaf
one_more plan fits first now reader records batch filled after max free next other unkept h = record {
  batch = batch;
  holds = h.kept.holds;
  few = shorter (records ++ batch) h.left (few_records plan fits first now reader ((records ++ batch) ++ h.left) max h.stands);
  stands = (gathered_next plan first now reader records batch filled after free next other h, unkept);
}

one_last :
    (plan : Plan) (first now : Option (List ℕ)) (reader : ReaderState) (records batch : List Record) (filled after : Gathering) (tail : Tail)
    → after.other ≡ filled.other → HasReached (told_finish tail) reader now → GathersLast plan first records batch filled tail
    → GivesOne plan first now reader after (Some (Ok tail)) records filled.sheaf
one_last plan first now reader records batch filled after tail other reached h = record {
  batch = batch;
  holds = h.holds;
  few = h.all.few;
  stands = (record { end = h.all.end; of_input = h.all.of_input; tells = h.all.tells; few = h.all.few; other = other ∙ h.all.other }, reached);
}

one_failed :
    (plan : Plan) → PlanFits plan → (first now : Option (List ℕ)) (reader : ReaderState) (records batch : List Record) (sheaf : SheafState) (after : Gathering) (fault : Fault)
    → reader.max ≡ plan.max → fault ≡ Read → (¬ HoldsNext reader) → HoldsBatch plan batch sheaf → StandsAfter reader first now (records ++ batch)
    → GivesOne plan first now reader after (Some (Err fault)) records sheaf
one_failed plan fits first now reader records batch sheaf after fault max is short holds stands = record {
  batch = batch;
  holds = holds;
  few = few_records plan fits first now reader (records ++ batch) max stands;
  stands = (is, stands, short);
}

-- as `fill` answers
pub one_given :
    (plan : Plan) → PlanFits plan → (left now : Option (List ℕ)) (reader new : ReaderState) (gathering filled after : Gathering) (result : Result (Option Tail) Fault)
    → new.max ≡ plan.max
    → after.sheaf ≡ no_items (length plan.table) → after.next ≡ filled.next → after.other ≡ filled.other
    → IfOk result (λ end. IfNone end ((first : Option (List ℕ)) (records : List Record) → HasGathered plan first left reader records [] gathering
    → (batch : List Record) × HasGathered plan first now new records batch filled))
    → IfOk result (λ end. IfNone end (new.kept ≡ None))
    → IfOk result (λ end. IfSome end (λ tail. (first : Option (List ℕ)) (records : List Record) → HasGathered plan first left reader records [] gathering
    → (batch : List Record) × GathersLast plan first records batch filled tail))
    → IfOk result (λ end. IfSome end (λ tail. HasReached (told_finish tail) new now))
    → IfErr result (λ fault. fault ≡ Read)
    → OnErr result ((first : Option (List ℕ)) (records : List Record) → HasGathered plan first left reader records [] gathering
    → (batch : List Record) × HoldsBatch plan batch filled.sheaf × StandsAfter new first now (records ++ batch))
    → OnErr result (¬ HoldsNext new)
    → (first : Option (List ℕ)) (records : List Record) → HasGathered plan first left reader records [] gathering
    → GivesOne plan first now new after (result_transpose result) records filled.sheaf
one_given plan fits left now reader new gathering filled after (Ok None) max free next other more unkept ends reaches fault failed short first records h =
    let come = more first records h in
    one_more plan fits first now new records come.0 filled after max free next other unkept come.1
one_given plan fits left now reader new gathering filled after (Ok (Some tail)) max free next other more unkept ends reaches fault failed short first records h =
    let come = ends first records h in
    one_last plan first now new records come.0 filled after tail other reaches come.1
one_given plan fits left now reader new gathering filled after (Err error) max free next other more unkept ends reaches fault failed short first records h =
    let come = failed first records h in
    one_failed plan fits first now new records come.0 filled.sheaf after error max fault short come.1 come.2

-- What was given with it

counts_on : (end : Option (Result Tail Fault)) (before mid after : ℕ) → mid ≡ before → CountsEnd end (mid, after) → CountsEnd end (before, after)
counts_on None before mid after same h = h ∙ same
counts_on (Some read) before mid after same h = subst (λ n. Counts read ((n, after) ∷ []) []) same h

-- What `fill` counts.
pub counts_read : (result : Result (Option Tail) Fault) (before after : ℕ) → Counts result ((before, after) ∷ []) [] → CountsEnd (result_transpose result) (before, after)
counts_read (Ok None) before after h = h.no_read (λ e. e)
counts_read (Ok (Some tail)) before after h = h
counts_read (Err fault) before after h = h

came_one :
    (plan : Plan) (first now : Option (List ℕ)) (reader : ReaderState) (gathering : Gathering) (end : Option (Result Tail Fault))
    (batches : List (List Record)) (sheaves : List SheafState) (sheaf : SheafState) → AllZip (HoldsBatch plan) batches sheaves
    → GivesOne plan first now reader gathering end (all_of batches) sheaf
    → (longer : List (List Record)) × AllZip (HoldsBatch plan) longer (sheaves ++ sheaf ∷ []) × StandsAtEnd plan first now reader gathering end (all_of longer)
came_one plan first now reader gathering end batches sheaves sheaf zip one = (
  batches ++ one.batch ∷ [],
  zip_push (HoldsBatch plan) batches sheaves one.batch sheaf zip one.holds,
  subst (λ (rs : List Record). StandsAtEnd plan first now reader gathering end rs) (sym (all_push batches one.batch)) one.stands,
)

may_follow :
    (plan : Plan) (first now : Option (List ℕ)) (reader : ReaderState) (gathering : Gathering) (end : Option (Result Tail Fault))
    (batches : List (List Record)) (sheaves : List SheafState) (sheaf : SheafState) → AllZip (HoldsBatch plan) batches sheaves
    → GivesOne plan first now reader gathering end (all_of batches) sheaf → MayFollow (length plan.table) sheaves sheaf
may_follow plan first now reader gathering end batches sheaves sheaf zip one = record {
  long = zip_length (AreItemsOf one.batch) plan.table sheaf.items one.holds;
  few = λ k below.
      few_of_flow plan (batches ++ one.batch ∷ []) (sheaves ++ sheaf ∷ []) k below
      (zip_push (HoldsBatch plan) batches sheaves one.batch sheaf zip one.holds)
      (subst (λ (rs : List Record). length rs < 2 ^ 43) (sym (all_push batches one.batch)) one.few);
}

-- What the next reading asks

pub not_over : {X : Type 0} (end : Option X) → (¬ IsSome end) → end ≡ None
not_over None going = refl
not_over (Some read) going = absurd (going refl)

pub going_on :
    (plan : Plan) (left now : Option (List ℕ)) (count : ℕ × ℕ) (old reader : ReaderState) (before gathering : Gathering)
    (end : Option (Result Tail Fault)) (sheaves : List SheafState) → end ≡ None
    → GivesBatches plan left now count old reader before gathering end sheaves
    → (first : Option (List ℕ)) × (records : List Record) × HasGathered plan first now reader records [] gathering × (reader.kept ≡ None)
going_on plan left now count old reader before gathering end sheaves is h =
    let come = h.came h.begins.0 h.begins.1 in
    let at = subst (λ (e : Option (Result Tail Fault)). StandsAtEnd plan h.begins.0 now reader gathering e (all_of come.0)) is come.2 in
    (h.begins.0, all_of come.0, at.0, at.1)

-- While the trace goes on, a batch more is given.
pub gives_more :
    (plan : Plan) (left mid now : Option (List ℕ)) (count count' count'' : ℕ) (old reader new : ReaderState) (before gathering after : Gathering)
    (going end : Option (Result Tail Fault)) (sheaves : List SheafState) (sheaf : SheafState)
    → going ≡ None → after.sheaf ≡ no_items (length plan.table) → new.max ≡ reader.max
    → ((first : Option (List ℕ)) → HasRead plan.max reader first mid → HasRead plan.max new first now)
    → CountsEnd end (count', count'')
    → ((first : Option (List ℕ)) (records : List Record) → HasGathered plan first mid reader records [] gathering
    → GivesOne plan first now new after end records sheaf)
    → GivesBatches plan left mid (count, count') old reader before gathering going sheaves
    → GivesBatches plan left now (count, count'') old new before after end (sheaves ++ sheaf ∷ []) × MayFollow (length plan.table) sheaves sheaf
gives_more plan left mid now count count' count'' old reader new before gathering after going end sheaves sheaf is free max far counts one h =
    let stands : (first : Option (List ℕ)) → HasGathered plan first left old [] [] before
    → (batches : List (List Record)) × AllZip (HoldsBatch plan) batches sheaves × GivesOne plan first now new after end (all_of batches) sheaf =
    λ first began.
    let come = h.came first began in
    let at = subst (λ (e : Option (Result Tail Fault)). StandsAtEnd plan first mid reader gathering e (all_of come.0)) is come.2 in
    (come.0, come.1, one first (all_of come.0) at.0)
    in
    let follows = stands h.begins.0 h.begins.1 in (
      record {
        fits = h.fits;
        begins = h.begins;
        came = λ first began.
            let come = stands first began in
            came_one plan first now new after end come.0 sheaves sheaf come.1 come.2;
        far = λ first began. far first (h.far first began);
        free = free;
        max = max ∙ h.max;
        counts = counts_on end count count' count'' (subst (λ (e : Option (Result Tail Fault)). CountsEnd e (count, count')) is h.counts) counts;
      },
      may_follow plan h.begins.0 now new after end follows.0 sheaves sheaf follows.1 follows.2,
    )
