-- How the flows exchange their shelves with those that wait.
use Rattle.std.proofs.Common.{◌≡◌, ◌⊎◌, inl, inr, ℕ, ◌+◌, ◌<◌, ◌≤◌, List, [], ◌∷◌, length, map, set, slice_index, sym, ap, ◌∙◌, subst, arith}
use Rattle.std.specs.List.{slice_index_or}
use Rattle.std.proofs.lemmas.Bool.{cases_eq}
use Rattle.std.proofs.lemmas.List.{get_or-map, get_or-set_same, get_or-set_other, get_or_default, length-set}
use Rattle.fg_flows.specs.Flows.{IsTable}
use Rattle.fg_flows.specs.Laws.{OneFlowHasAPort}
use Rattle.fg_engine.specs.declared.shelved.Shelved.{Shelved}
use Rattle.fg_batches.specs.BatchView.{BatchView}
use Rattle.fg_batches.specs.Batches.{WaitFor, HaveExchanged, emptied, waiting}
use Rattle.fg_batches.proofs.PutShelves.{waiting_at}

-- What each has after the exchange
abbrev pub with_shelf : BatchView → Shelved → BatchView
with_shelf flow shelved = record flow { shelf = shelved.shelf }

abbrev pub with_shown : Shelved → BatchView → Shelved
with_shown shelved flow = record shelved { shelf = flow.shelf }

-- The first flows have exchanged.
pub record FirstExchanged (i : ℕ) (flows flows' : List BatchView) (shelves shelves' : List Shelved) : Type 0 where
  pub flows_long : length flows' ≡ length flows
  pub shelves_long : length shelves' ≡ length shelves
  pub flows_first : (k : ℕ) (d : BatchView) (w : Shelved) → k < i → k < length flows
      → slice_index_or flows' k d ≡ with_shelf (slice_index_or flows k d) (slice_index_or shelves k w)
  pub shelves_first : (k : ℕ) (d : BatchView) (w : Shelved) → k < i → k < length flows
      → slice_index_or shelves' k w ≡ with_shown (slice_index_or shelves k w) (slice_index_or flows k d)
  pub flows_rest : (k : ℕ) (d : BatchView) → i ≤ k → slice_index_or flows' k d ≡ slice_index_or flows k d
  pub shelves_rest : (k : ℕ) (w : Shelved) → i ≤ k → slice_index_or shelves' k w ≡ slice_index_or shelves k w

-- What holds of each of the first, holds of each once one more is set.
one_more_set :
    {A : Type 0} (Is : ℕ → A → Type 0) (xs : List A) (i k : ℕ) (y d : A) → i < length xs → Is i y
    → (k < i → Is k (slice_index_or xs k d)) → k < i + 1 → Is k (slice_index_or (set xs i y) k d)
one_more_set Is xs i k y d inside is first below = at (cases_eq k i)
  where
    at : (k ≡ i) ⊎ (k ≡ i → ⊥) → Is k (slice_index_or (set xs i y) k d)
    at (inl e) = subst (λ j. Is j (slice_index_or (set xs i y) j d)) (sym e) (subst (Is i) (sym (get_or-set_same xs i y d inside)) is)
    at (inr ne) = subst (Is k) (sym (get_or-set_other xs i k y d ne)) (first (omega (arith, below, ne)))

-- One more has.

module _ (i : ℕ) (flows flows' : List BatchView) (shelves shelves' : List Shelved) (x : BatchView) (s : Shelved)
    (inside : i < length flows') (within : i < length shelves') (x_is : x ≡ slice_index_or flows' i x) (s_is : s ≡ slice_index_or shelves' i s)
    (h : FirstExchanged i flows flows' shelves shelves') where
  flow_was : (d : BatchView) → x ≡ slice_index_or flows i d
  flow_was d = x_is ∙ h.flows_rest i x (omega arith) ∙ get_or_default flows i x d (subst (λ n. i < n) h.flows_long inside)

  shelf_was : (w : Shelved) → s ≡ slice_index_or shelves i w
  shelf_was w = s_is ∙ h.shelves_rest i s (omega arith) ∙ get_or_default shelves i s w (subst (λ n. i < n) h.shelves_long within)

  flow_at : (k : ℕ) (d : BatchView) (w : Shelved) → k < i + 1 → k < length flows → slice_index_or (set flows' i (with_shelf x s)) k d ≡ with_shelf (slice_index_or flows k d) (slice_index_or shelves k w)
  flow_at k d w below wide =
      one_more_set (λ j flow. flow ≡ with_shelf (slice_index_or flows j d) (slice_index_or shelves j w)) flows' i k (with_shelf x s) d inside
      (λ n. with_shelf (flow_was d n) (shelf_was w n)) (λ first. h.flows_first k d w first wide) below

  shelf_at : (k : ℕ) (d : BatchView) (w : Shelved) → k < i + 1 → k < length flows → slice_index_or (set shelves' i (with_shown s x)) k w ≡ with_shown (slice_index_or shelves k w) (slice_index_or flows k d)
  shelf_at k d w below wide =
      one_more_set (λ j shelved. shelved ≡ with_shown (slice_index_or shelves j w) (slice_index_or flows j d)) shelves' i k (with_shown s x) w within
      (λ n. with_shown (shelf_was w n) (flow_was d n)) (λ first. h.shelves_first k d w first wide) below

  pub exchanged_more : (y : BatchView) (t : Shelved) → y ≡ with_shelf x s → t ≡ with_shown s x → FirstExchanged (i + 1) flows (set flows' i y) shelves (set shelves' i t)
  exchanged_more y t y_is t_is =
      subst (λ (flow : BatchView). FirstExchanged (i + 1) flows (set flows' i flow) shelves (set shelves' i t)) (sym y_is)
      (subst (λ (shelved : Shelved). FirstExchanged (i + 1) flows (set flows' i (with_shelf x s)) shelves (set shelves' i shelved)) (sym t_is) (record {
        flows_long = length-set flows' i (with_shelf x s) ∙ h.flows_long;
        shelves_long = length-set shelves' i (with_shown s x) ∙ h.shelves_long;
        flows_first = λ k d w below wide. flow_at k d w below wide;
        shelves_first = λ k d w below wide. shelf_at k d w below wide;
        flows_rest = λ k d past. get_or-set_other flows' i k (with_shelf x s) d (λ e. absurd (omega arith)) ∙ h.flows_rest k d (omega arith);
        shelves_rest = λ k w past. get_or-set_other shelves' i k (with_shown s x) w (λ e. absurd (omega arith)) ∙ h.shelves_rest k w (omega arith);
      }))

-- What the exchange comes to, where the shelves wait for the ports of a table and there is a flow for each

some_flow : (flows : List BatchView) → 0 < length flows → BatchView
some_flow [] some = absurd (omega (arith, some))
some_flow (flow ∷ flows) some = flow

any_shelf : Shelved
any_shelf = record { port = 0; shelf = [] }

module _ (table : List ℕ) (flows flows' : List BatchView) (shelves shelves' : List Shelved)
    (count : length flows ≡ length table) (on : WaitFor table shelves) (h : HaveExchanged flows flows' shelves shelves') where
  wide : (k : ℕ) → k < length table → k < length flows
  wide k below = subst (λ n. k < n) (sym count) below

  -- The shelves wait for these ports still.
  pub exchanged_wait : WaitFor table shelves'
  exchanged_wait = record {
    long = h.shelves_long ∙ on.long;
    ports = λ k w below.
        let d = some_flow flows (omega (arith, wide k below)) in
        ap (λ (shelved : Shelved). shelved.port) (h.shelves_are k d w (wide k below)) ∙ on.ports k w below;
  }

  -- For each port waits what its flow had.
  pub exchanged_waiting :
      OneFlowHasAPort → IsTable table → (k : ℕ) (d : BatchView) → k < length table
      → waiting shelves' (slice_index table k) ≡ (slice_index_or flows k d).shelf
  exchanged_waiting law good k d below =
      waiting_at law table good shelves' exchanged_wait k any_shelf below
      ∙ ap (λ (shelved : Shelved). shelved.shelf) (h.shelves_are k d any_shelf (wide k below))

  -- Each flow has what waited for its port, and all else of it is as it was.
  pub exchanged_flow :
      OneFlowHasAPort → IsTable table → (k : ℕ) (d : BatchView) → k < length table
      → slice_index_or flows' k d ≡ record (slice_index_or flows k d) { shelf = waiting shelves (slice_index table k) }
  exchanged_flow law good k d below =
      h.flows_are k d any_shelf (wide k below)
      ∙ ap (λ (bytes : List ℕ). record (slice_index_or flows k d) { shelf = bytes }) (sym (waiting_at law table good shelves on k any_shelf below))

-- Where the shelves were emptied, each flow has an empty one.
pub exchanged_empty :
    (table : List ℕ) (flows flows' : List BatchView) (shelves shelves' : List Shelved) → length flows ≡ length table → WaitFor table shelves
    → HaveExchanged flows flows' (map emptied shelves) shelves' → (k : ℕ) (d : BatchView) → k < length table → (slice_index_or flows' k d).shelf ≡ []
exchanged_empty table flows flows' shelves shelves' count on h k d below =
    ap (λ (flow : BatchView). flow.shelf) (h.flows_are k d any_shelf (subst (λ n. k < n) (sym count) below))
    ∙ ap (λ (shelved : Shelved). shelved.shelf) (get_or-map emptied shelves k any_shelf any_shelf (subst (λ n. k < n) (sym on.long) below))
