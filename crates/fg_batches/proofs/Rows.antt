-- What the flows come to that run batch after batch, and the lanes that are given row after row.
use Rattle.std.proofs.Common.{◌≡◌, ◌⊎◌, inl, inr, ℕ, ◌+◌, ◌-◌, ◌<◌, ◌≤◌, ◌^◌, Bool, true, false, Option, List, [], ◌∷◌, ◌++◌, length, map, slice_index, take, drop, refl, sym, ap, ◌∙◌, subst, arith, append_assoc, append-nil, length-append, slice_index_or}
use Rattle.std.specs.List.{AllZip}
use Rattle.std.proofs.Math.Seq.{take-append_seam}
use Rattle.std.proofs.lemmas.Bool.{cases_lt}
use Rattle.std.proofs.lemmas.List.{get_or-map, length-map, length_push, same_lists, take-append-le, take_all}
use Rattle.std.proofs.lemmas.List.Elements.{All-append}
use Rattle.fg_io.specs.Faults.{CountsFault}
use Rattle.fg_io.specs.Outlet.{Lanes}
use Rattle.fg_trace.specs.Trace.{Record}
use Rattle.fg_flows.specs.declared.Plan.{Plan}
use Rattle.fg_flows.specs.Flows.{IsTable}
use Rattle.fg_flows.specs.Laws.{OneFlowHasAPort}
use Rattle.fg_flows.specs.Plan.{PlanFits}
use Rattle.fg_flows.specs.Sheaf.{Item, SheafState, items_of}
use Rattle.fg_engine.specs.declared.shelved.Shelved.{Shelved}
use Rattle.fg_engine.specs.Engine.{GrowAll}
use Rattle.fg_engine.specs.Steps.{HasTaken}
use Rattle.fg_batches.specs.BatchView.{BatchView}
use Rattle.fg_batches.specs.Batches.{BreaksEmptying, CanRun, CanRunAll, HasRun, HaveExchanged, HaveRun, IsItemOf, WaitFor, emptied, nothing_waits, waiting}
use Rattle.fg_batches.specs.Stages.{CountsPut, HaveGained, HavePlayed, HaveShown, MayFollow, PutsRows, RanRows, items_in, waiting_in}
use Rattle.fg_batches.proofs.Emptied.{grow_then}
use Rattle.fg_batches.proofs.Exchanged.{exchanged_flow, exchanged_wait, exchanged_waiting}
use Rattle.fg_batches.proofs.PutShelves.{new_nothing, new_wait}
use Rattle.fg_batches.proofs.Runs.{can_go_on, is_false, ran_then}

-- One batch more, and one row more

pub items_more : (sheaves : List SheafState) (sheaf : SheafState) (flow : ℕ) → items_in (sheaves ++ sheaf ∷ []) flow ≡ items_in sheaves flow ++ items_of sheaf flow
items_more [] sheaf flow = append-nil (items_of sheaf flow)
items_more (first ∷ sheaves) sheaf flow =
    ap (λ (items : List Item). items_of first flow ++ items) (items_more sheaves sheaf flow)
    ∙ sym (append_assoc (items_of first flow) (items_in sheaves flow) (items_of sheaf flow))

pub waits_more : (rows : List (List Shelved)) (row : List Shelved) (port : ℕ) → waiting_in (rows ++ row ∷ []) port ≡ waiting_in rows port ++ waiting row port
waits_more [] row port = append-nil (waiting row port)
waits_more (first ∷ rows) row port =
    ap (λ (bytes : List ℕ). waiting first port ++ bytes) (waits_more rows row port)
    ∙ sym (append_assoc (waiting first port) (waiting_in rows port) (waiting row port))

-- The same run, with this on the shelf before it.
ran_over : (items : List Item) (old new : BatchView) (shelf : List ℕ) → old.shelf ≡ [] → HasRun items old new → HasRun items (record old { shelf = shelf }) (record new { shelf = shelf ++ new.shelf })
ran_over items old new shelf empty ran = record {
  port = ran.port;
  playout = ran.playout;
  run = λ (records more : List Record) (lane : List ℕ) (taken : HasTaken old.flow.state.playout old.flow.sum.port records old.flow.state old.flow.sum lane) (zip : AllZip (IsItemOf old.flow.sum.port) more items).
      let step = ran.run records more lane taken zip in (
        step.0,
        ap (λ (bytes : List ℕ). shelf ++ bytes) (step.1 ∙ ap (λ (bytes : List ℕ). bytes ++ step.0) empty),
        step.2,
      );
}

-- The flows have run one batch more, and what it shows is in a row that was empty.
module _ (law : OneFlowHasAPort) (table : List ℕ) (good : IsTable table) (old flows mid new : List BatchView) (sheaves : List SheafState) (sheaf : SheafState)
    (rows : List (List Shelved)) (row : List Shelved) (count : length old ≡ length table) (had : RanRows table old sheaves rows flows) (have : HaveRun sheaf flows mid)
    (changed : HaveExchanged mid new (map nothing_waits table) row) where
  mid_count : length mid ≡ length table
  mid_count = have.count ∙ had.count ∙ count

  pub row_waits : WaitFor table row
  row_waits = exchanged_wait table mid new (map nothing_waits table) row mid_count (new_wait table) changed

  -- each flow has an empty shelf
  flow_after : (k : ℕ) (d : BatchView) → k < length table → slice_index_or new k d ≡ record (slice_index_or mid k d) { shelf = waiting (map nothing_waits table) (slice_index table k) }
  flow_after k d below = exchanged_flow table mid new (map nothing_waits table) row mid_count (new_wait table) changed law good k d below

  shelf_empty : (k : ℕ) (d : BatchView) → k < length table → (slice_index_or new k d).shelf ≡ []
  shelf_empty k d below = ap (λ (flow : BatchView). flow.shelf) (flow_after k d below) ∙ new_nothing table (slice_index table k)

  -- what it had is in the row, after what was in the rows before
  shown_at : (k : ℕ) (d : BatchView) → k < length table → waiting_in rows (slice_index table k) ++ (slice_index_or mid k d).shelf ≡ waiting_in (rows ++ row ∷ []) (slice_index table k)
  shown_at k d below =
      ap (λ (bytes : List ℕ). waiting_in rows (slice_index table k) ++ bytes)
      (sym (exchanged_waiting table mid new (map nothing_waits table) row mid_count (new_wait table) changed law good k d below))
      ∙ sym (waits_more rows row (slice_index table k))

  ran_at :
      (k : ℕ) (d : BatchView) → k < length old
      → HasRun (items_in (sheaves ++ sheaf ∷ []) k) (slice_index_or old k d) (record (slice_index_or new k d) { shelf = waiting_in (rows ++ row ∷ []) (slice_index table k) })
  ran_at k d below =
      let inside : k < length table = subst (λ n. k < n) count below in
      let within : k < length flows = subst (λ n. k < n) (sym had.count) below in
      let before : List ℕ = waiting_in rows (slice_index table k) in
      let first : BatchView = slice_index_or old k d in
      let was : BatchView = slice_index_or flows k d in
      let now : BatchView = slice_index_or mid k d in
      let over : BatchView = record now { shelf = before ++ now.shelf } in
      let all : HasRun (items_in sheaves k ++ items_of sheaf k) first over =
      ran_then (items_in sheaves k) (items_of sheaf k) first (record was { shelf = before }) over (had.ran k d below)
      (ran_over (items_of sheaf k) was now before (had.empty k d below) (have.each k d within)) in
      subst (λ (items : List Item). HasRun items first (record (slice_index_or new k d) { shelf = waiting_in (rows ++ row ∷ []) (slice_index table k) })) (sym (items_more sheaves sheaf k))
      (subst (λ (bytes : List ℕ). HasRun (items_in sheaves k ++ items_of sheaf k) first (record (slice_index_or new k d) { shelf = bytes })) (shown_at k d inside)
      (subst (λ (flow : BatchView). HasRun (items_in sheaves k ++ items_of sheaf k) first (record flow { shelf = before ++ now.shelf })) (sym (flow_after k d inside)) all))

  pub rows_more : RanRows table old (sheaves ++ sheaf ∷ []) (rows ++ row ∷ []) new
  rows_more = record {
    count = changed.flows_long ∙ have.count ∙ had.count;
    long = length_push rows row ∙ ap (λ n. n + 1) had.long ∙ sym (length_push sheaves sheaf);
    wait = All-append (WaitFor table) rows (row ∷ []) had.wait (only_row row row_waits);
    empty = λ k d below. shelf_empty k d (subst (λ n. k < n) count below);
    ran = ran_at;
  }
    where
      only_row : (row : List Shelved) → WaitFor table row → (k : ℕ) (d : List Shelved) → k < 1 → WaitFor table (slice_index_or (row ∷ []) k d)
      only_row row on k d below = subst (λ j. WaitFor table (slice_index_or (row ∷ []) j d)) (let e : 0 ≡ k = omega arith in e) on

-- Each flow may run what follows.
pub rows_can_run :
    (table : List ℕ) (old flows : List BatchView) (sheaves : List SheafState) (sheaf : SheafState) (rows : List (List Shelved)) → length old ≡ length table
    → ((k : ℕ) (d : BatchView) → k < length old → CanRun (slice_index_or old k d).flow (2 ^ 43 - 1))
    → RanRows table old sheaves rows flows → MayFollow (length table) sheaves sheaf → CanRunAll sheaf flows
rows_can_run table old flows sheaves sheaf rows count fresh had may = record {
  count = had.count ∙ count ∙ sym may.long;
  each = λ k d below.
      let inside : k < length old = subst (λ n. k < n) had.count below in
      let few : length (items_in (sheaves ++ sheaf ∷ []) k) < 2 ^ 43 = may.few k (subst (λ n. k < n) count inside) in
      let both : length (items_in (sheaves ++ sheaf ∷ []) k) ≡ length (items_in sheaves k) + length (items_of sheaf k) =
      ap length (items_more sheaves sheaf k) ∙ length-append (items_in sheaves k) (items_of sheaf k) in
      let within : length (items_in sheaves k) + length (items_of sheaf k) ≤ 2 ^ 43 - 1 = omega (arith, few, both) in
      can_go_on (items_in sheaves k) (slice_index_or old k d) (record (slice_index_or flows k d) { shelf = waiting_in rows (slice_index table k) })
      (2 ^ 43 - 1) (length (items_of sheaf k)) within (fresh k d inside) (had.ran k d inside);
}

-- What the player has done

module _ (table : List ℕ) (old flows : List BatchView) (took : List SheafState) (made : List (List Shelved)) (starved : Bool) (going : starved ≡ true → ⊥)
    (had : HavePlayed table old flows took made starved) where
  pub ran_so_far : RanRows table old took made flows
  ran_so_far = had.last (is_false starved going)

  pub played_can_run : (sheaf : SheafState) → MayFollow (length table) took sheaf → CanRunAll sheaf flows
  played_can_run sheaf may = rows_can_run table old flows took sheaf made had.count had.fresh ran_so_far may

  -- what was done at an earlier batch is as it was
  at_before : (sheaf : SheafState) (j : ℕ) → j ≤ length made → (flows : List BatchView) × RanRows table old (take j (took ++ sheaf ∷ [])) (take j made) flows
  at_before sheaf j early =
      let short : j ≤ length took = omega (arith, early, ran_so_far.long) in
      subst (λ (sheaves : List SheafState). (flows : List BatchView) × RanRows table old sheaves (take j made) flows) (sym (take-append-le j took (sheaf ∷ []) short)) (had.at j early)

  at_or_last :
      (sheaf : SheafState) (row : List Shelved) (new : List BatchView) → RanRows table old (took ++ sheaf ∷ []) (made ++ row ∷ []) new
      → (j : ℕ) → j ≤ length (made ++ row ∷ []) → (length made < j) ⊎ (j ≤ length made)
      → (flows : List BatchView) × RanRows table old (take j (took ++ sheaf ∷ [])) (take j (made ++ row ∷ [])) flows
  at_or_last sheaf row new ran j within (inr early) =
      subst (λ (rows : List (List Shelved)). (flows : List BatchView) × RanRows table old (take j (took ++ sheaf ∷ [])) rows flows) (sym (take-append-le j made (row ∷ []) early))
      (at_before sheaf j early)
  at_or_last sheaf row new ran j within (inl late) =
      let rows_all : length (made ++ row ∷ []) ≤ j = omega (arith, late, length_push made row) in
      let sheaves_all : length (took ++ sheaf ∷ []) ≤ j = omega (arith, late, length_push took sheaf, ran_so_far.long) in (
        new,
        subst (λ (sheaves : List SheafState). RanRows table old sheaves (take j (made ++ row ∷ [])) new) (sym (take_all j (took ++ sheaf ∷ []) sheaves_all))
            (subst (λ (rows : List (List Shelved)). RanRows table old (took ++ sheaf ∷ []) rows new) (sym (take_all j (made ++ row ∷ []) rows_all)) ran),
      )

  -- One batch more was run.
  pub played_more :
      (sheaf : SheafState) (row : List Shelved) (new : List BatchView) → RanRows table old (took ++ sheaf ∷ []) (made ++ row ∷ []) new
      → HavePlayed table old new (took ++ sheaf ∷ []) (made ++ row ∷ []) starved
  played_more sheaf row new ran = record {
    good = had.good;
    count = had.count;
    fresh = had.fresh;
    at = λ j within. at_or_last sheaf row new ran j within (cases_lt (length made) j);
    last = λ e. ran;
    short = λ e. absurd (going e);
  }

  -- It was shown in a row that was empty.
  pub played_row :
      OneFlowHasAPort → (sheaf : SheafState) (row : List Shelved) (new : List BatchView) → HaveShown sheaf flows new (map nothing_waits table) row
      → HavePlayed table old new (took ++ sheaf ∷ []) (made ++ row ∷ []) starved × WaitFor table row
  played_row law sheaf row new shown = (
    played_more sheaf row new
        (rows_more law table had.good old flows shown.mid new took sheaf made row had.count ran_so_far shown.run shown.changed),
    row_waits law table had.good old flows shown.mid new took sheaf made row had.count ran_so_far shown.run shown.changed,
  )

  -- A flow found no memory for one.
  pub played_short : (sheaf : SheafState) (new : List BatchView) → HavePlayed table old new (took ++ sheaf ∷ []) made true
  played_short sheaf new = record {
    good = had.good;
    count = had.count;
    fresh = had.fresh;
    at = at_before sheaf;
    last = λ (e : true ≡ false). absurd (cc);
    short = λ e. length_push took sheaf ∙ ap (λ n. n + 1) (sym ran_so_far.long);
  }

-- What the lanes have gained

pub gained_more :
    (table : List ℕ) (before now after : Option Lanes) (rows : List (List Shelved)) (row : List Shelved) (broken : Bool) → (broken ≡ true → ⊥)
    → HaveGained table before now rows broken → GrowAll now table (waiting row) after → HaveGained table before after (rows ++ row ∷ []) broken
gained_more table before now after rows row true going had grows = absurd (going refl)
gained_more table before now after rows row false going had grows =
    let each : (port : ℕ) → waiting_in rows port ++ waiting row port ≡ waiting_in (rows ++ row ∷ []) port = λ port. sym (waits_more rows row port) in
    subst (λ (gained : ℕ → List ℕ). GrowAll before table gained after) (λ j port. each port j)
    (grow_then before now after table (waiting_in rows) (waiting row) had grows)

pub gained_part :
    (table : List ℕ) (before now after : Option Lanes) (rows : List (List Shelved)) (row : List Shelved) (broken : Bool) → (broken ≡ true → ⊥) → WaitFor table row
    → HaveGained table before now rows broken → BreaksEmptying table row now after → HaveGained table before after (rows ++ row ∷ []) true
gained_part table before now after rows row true going on had breaks = absurd (going refl)
gained_part table before now after rows row false going on had breaks = (rows, row, now, refl, on, had, breaks)

counts_more : (first count next : ℕ) (broken : Bool) → (broken ≡ true → ⊥) → CountsPut broken (first, count) → next ≡ count → CountsPut broken (first, next)
counts_more first count next true going had still = absurd (going refl)
counts_more first count next false going had still = still ∙ had

counts_part : (first count next : ℕ) (broken : Bool) → (broken ≡ true → ⊥) → CountsPut broken (first, count) → CountsFault count next → count ≤ next → CountsPut true (first, next)
counts_part first count next true going had fault rise = absurd (going refl)
counts_part first count next false going had fault rise = (subst (λ n. CountsFault n next) had fault, subst (λ n. n ≤ next) had rise)

-- One row more was put, or a front of it.
module _ (table : List ℕ) (before now after : Option Lanes) (first count next : ℕ) (rows : List (List Shelved)) (row : List Shelved) (broken : Bool)
    (going : broken ≡ true → ⊥) (on : WaitFor table row) (had : PutsRows table before now (first, count) rows broken) where
  pub puts_more :
      ((plan : Plan) → PlanFits plan → WaitFor plan.table row → GrowAll now plan.table (waiting row) after) → next ≡ count
      → PutsRows table before after (first, next) (rows ++ row ∷ []) broken
  puts_more puts still = record {
    gained = λ plan fits same.
        gained_more table before now after rows row broken going (had.gained plan fits same)
        (subst (λ (ports : List ℕ). GrowAll now ports (waiting row) after) same (puts plan fits (subst (λ (ports : List ℕ). WaitFor ports row) (sym same) on)));
    counts = counts_more first count next broken going had.counts still;
  }

  pub puts_part :
      ((plan : Plan) → PlanFits plan → WaitFor plan.table row → BreaksEmptying plan.table row now after) → CountsFault count next → count ≤ next
      → PutsRows table before after (first, next) (rows ++ row ∷ []) true
  puts_part breaks fault rise = record {
    gained = λ plan fits same.
        gained_part table before now after rows row broken going on (had.gained plan fits same)
        (subst (λ (ports : List ℕ). BreaksEmptying ports row now after) same (breaks plan fits (subst (λ (ports : List ℕ). WaitFor ports row) (sym same) on)));
    counts = counts_part first count next broken going had.counts fault rise;
  }

-- Where all was put nothing waits.
pub emptied_row : (table : List ℕ) (row : List Shelved) → WaitFor table row → map emptied row ≡ map nothing_waits table
emptied_row table row on =
    same_lists (map emptied row) (map nothing_waits table) (length-map row emptied ∙ on.long ∙ sym (length-map table nothing_waits)) (λ k d below.
    let inside : k < length row = subst (λ n. k < n) (length-map row emptied) below in
    let there : k < length table = subst (λ n. k < n) on.long inside in
    get_or-map emptied row k d d inside ∙ ap nothing_waits (on.ports k d there) ∙ sym (get_or-map nothing_waits table k 0 d there))

-- What is written back is what was lent, where that is as long as it was.
pub written : (n : ℕ) (new old : List Shelved) → n ≡ length old → length new ≡ length old → take n (new ++ drop (length new) old) ≡ new
written n new old long same = ap (λ m. take m (new ++ drop (length new) old)) (long ∙ sym same) ∙ take-append_seam new (drop (length new) old)
