-- How what waits is put to the lanes, flow after flow.
use Rattle.std.proofs.Common.{◌≡◌, ◌⊎◌, inl, inr, ℕ, zero, suc, ◌+◌, ◌<◌, ◌≤◌, true, false, cond, nat_eq, Option, List, min, [], ◌∷◌, ◌++◌, length, map, set, take, slice_index, if◌then◌else◌, refl, sym, ap, ◌∙◌, subst, arith, add-one}
use Rattle.std.specs.List.{Contains, slice_index_or}
use Rattle.std.proofs.Math.Seq.{take-suc}
use Rattle.std.proofs.lemmas.Bool.{cases_eq}
use Rattle.std.proofs.lemmas.Bool.Decides.{nat_tests}
use Rattle.std.proofs.lemmas.List.{get_or-map, get_or-set_same, get_or-set_other, get_or-take, get_or_default, length-map, length-set, length-take, same_lists, take_all}
use Rattle.fg_io.specs.Prefix.{IsPrefix}
use Rattle.fg_io.specs.Outlet.{Lanes}
use Rattle.fg_flows.specs.Flows.{IsTable}
use Rattle.fg_flows.specs.Laws.{OneFlowHasAPort}
use Rattle.fg_engine.specs.declared.shelved.Shelved.{Shelved}
use Rattle.fg_engine.specs.Engine.{GrowAll}
use Rattle.fg_engine.specs.Steps.{Grows, GrowsPart}
use Rattle.fg_engine.proofs.Lanes.{more, more_same, more_other, grow_more, grow_none, contains_at}
use Rattle.fg_engine.proofs.Standing.{ports_differ}
use Rattle.fg_batches.specs.Batches.{WaitFor, BreaksEmptying, emptied, waiting}

-- Whether a shelf is that of a port

is_same : (a b : ℕ) → a ≡ b → nat_eq a b ≡ true
is_same a b e = grind (arith, nat_tests)

is_other : (a b : ℕ) → (a ≡ b → ⊥) → nat_eq a b ≡ false
is_other a b ne = grind (arith, nat_tests)

abbrev port_at : List Shelved → ℕ → Shelved → ℕ
port_at shelves k d = (slice_index_or shelves k d).port

-- What waits for a port

here : (shelved : Shelved) (more : List Shelved) (port : ℕ) → shelved.port ≡ port → waiting (shelved ∷ more) port ≡ shelved.shelf
here shelved more port e = ap (λ b. if b then shelved.shelf else waiting more port) (is_same shelved.port port e)

past : (shelved : Shelved) (more : List Shelved) (port : ℕ) → (shelved.port ≡ port → ⊥) → waiting (shelved ∷ more) port ≡ waiting more port
past shelved more port ne = ap (λ b. if b then shelved.shelf else waiting more port) (is_other shelved.port port ne)

waiting_found :
    (shelves : List Shelved) (k : ℕ) (d : Shelved) (port : ℕ) → k < length shelves → port_at shelves k d ≡ port
    → ((j : ℕ) → j < k → port_at shelves j d ≡ port → ⊥) → waiting shelves port ≡ (slice_index_or shelves k d).shelf
waiting_found [] k d port within e apart = absurd (omega (arith, within))
waiting_found (shelved ∷ shelves) zero d port within e apart = here shelved shelves port e
waiting_found (shelved ∷ shelves) (suc k) d port within e apart =
    past shelved shelves port (apart 0 (omega arith))
    ∙ waiting_found shelves k d port (omega (arith, within)) e (λ j below. apart (suc j) (omega (arith, below)))

waiting_nothing : (shelves : List Shelved) (d : Shelved) (port : ℕ) → ((j : ℕ) → j < length shelves → port_at shelves j d ≡ port → ⊥) → waiting shelves port ≡ []
waiting_nothing [] d port apart = refl
waiting_nothing (shelved ∷ shelves) d port apart =
    past shelved shelves port (apart 0 (omega arith)) ∙ waiting_nothing shelves d port (λ j below. apart (suc j) (omega (arith, below)))

-- One shelf more has its port gain what is on it.

push_none : (x : Shelved) (port : ℕ) → (port ≡ x.port) ⊎ (port ≡ x.port → ⊥) → waiting (x ∷ []) port ≡ more (λ _. []) x.port x.shelf port
push_none x port (inl e) =
    here x [] port (sym e) ∙ sym (ap (λ b. cond b ([] ++ x.shelf) []) (is_same port x.port e))
push_none x port (inr ne) =
    past x [] port (λ e. ne (sym e)) ∙ sym (ap (λ b. cond b ([] ++ x.shelf) []) (is_other port x.port ne))

push_here :
    (shelved x : Shelved) (shelves : List Shelved) (port : ℕ) → (shelved.port ≡ x.port → ⊥)
    → waiting (shelves ++ x ∷ []) port ≡ more (waiting shelves) x.port x.shelf port
    → (shelved.port ≡ port) ⊎ (shelved.port ≡ port → ⊥)
    → waiting (shelved ∷ (shelves ++ x ∷ [])) port ≡ more (waiting (shelved ∷ shelves)) x.port x.shelf port
push_here shelved x shelves port apart rest (inl e) =
    here shelved (shelves ++ x ∷ []) port e
    ∙ sym (here shelved shelves port e)
    ∙ sym (more_other (waiting (shelved ∷ shelves)) x.port x.shelf port (λ same. apart (e ∙ same)))
push_here shelved x shelves port apart rest (inr ne) =
    past shelved (shelves ++ x ∷ []) port ne
    ∙ rest
    ∙ sym (ap (λ (bytes : List ℕ). cond (nat_eq port x.port) (bytes ++ x.shelf) bytes) (past shelved shelves port ne))

waiting_push :
    (shelves : List Shelved) (x d : Shelved) (port : ℕ)
    → ((j : ℕ) → j < length shelves → port_at shelves j d ≡ x.port → ⊥)
    → waiting (shelves ++ x ∷ []) port ≡ more (waiting shelves) x.port x.shelf port
waiting_push [] x d port apart = push_none x port (cases_eq port x.port)
waiting_push (shelved ∷ shelves) x d port apart =
    push_here shelved x shelves port (apart 0 (omega arith))
    (waiting_push shelves x d port (λ j below. apart (suc j) (omega (arith, below))))
    (cases_eq shelved.port port)

-- Of shelves for ports that differ

module _ (law : OneFlowHasAPort) (table : List ℕ) (good : IsTable table) (shelves : List Shelved) (on : WaitFor table shelves) where
  apart_at : (i k : ℕ) (d : Shelved) → i < length table → k < length table → (k ≡ i → ⊥) → port_at shelves k d ≡ slice_index table i → ⊥
  apart_at i k d inside within ne e = ports_differ law table good i k inside within ne (sym (on.ports k d within) ∙ e)

  -- What waits for a port is what is on its shelf.
  pub waiting_at : (k : ℕ) (d : Shelved) → k < length table → waiting shelves (slice_index table k) ≡ (slice_index_or shelves k d).shelf
  waiting_at k d within =
      waiting_found shelves k d (slice_index table k) (subst (λ n. k < n) (sym on.long) within) (on.ports k d within)
      (λ j below. apart_at k j d within (omega arith) (λ same. absurd (omega arith)))

  first_at : (i k : ℕ) (d : Shelved) → k < i → port_at (take i shelves) k d ≡ port_at shelves k d
  first_at i k d below = ap (λ (shelved : Shelved). shelved.port) (get_or-take i shelves k d below)

  first_waiting : (i k : ℕ) (d : Shelved) → k < i → i ≤ length table → waiting (take i shelves) (slice_index table k) ≡ waiting shelves (slice_index table k)
  first_waiting i k d below inside =
      let within : k < length table = omega arith in
      let long : length (take i shelves) ≡ i = length-take i shelves ∙ min_is i (length shelves) (subst (λ n. i ≤ n) (sym on.long) inside) in
      waiting_found (take i shelves) k d (slice_index table k) (omega arith) (first_at i k d below ∙ on.ports k d within)
      (λ j under. let under_i : j < i = omega arith in
      λ e. apart_at k j d within (omega arith) (λ same. absurd (omega arith)) (sym (first_at i j d under_i) ∙ e))
      ∙ ap (λ (shelved : Shelved). shelved.shelf) (get_or-take i shelves k d below)
      ∙ sym (waiting_at k d within)
    where
      min_is : (a b : ℕ) → a ≤ b → min a b ≡ a
      min_is a b h = omega arith

  rest_waiting : (i k : ℕ) (d : Shelved) → i ≤ k → k < length table → waiting (take i shelves) (slice_index table k) ≡ []
  rest_waiting i k d past within =
      waiting_nothing (take i shelves) d (slice_index table k)
      (λ j under. let under_i : j < i = omega (arith, length-take i shelves) in
      λ e. apart_at k j d within (omega arith) (λ same. absurd (omega arith)) (sym (first_at i j d under_i) ∙ e))

  -- One lane more gains what waits for it.
  pub empties_more :
      (i : ℕ) (x : Shelved) (before now after : Option Lanes) → i < length table → x ≡ slice_index_or shelves i x
      → GrowAll before table (waiting (take i shelves)) now → Grows now x.port x.shelf after
      → GrowAll before table (waiting (take (i + 1) shelves)) after
  empties_more i x before now after inside at g h =
      let port : x.port ≡ slice_index table i = ap (λ (shelved : Shelved). shelved.port) at ∙ on.ports i x inside in
      let grown : GrowAll before table (more (waiting (take i shelves)) x.port x.shelf) after =
      grow_more before now after table (waiting (take i shelves)) x.port x.shelf
      (subst (Contains table) (sym port) (contains_at table i inside)) g h
      in
      let apart : (j : ℕ) → j < length (take i shelves) → port_at (take i shelves) j x ≡ x.port → ⊥ =
      λ j under. let under_i : j < i = omega (arith, length-take i shelves) in
      λ e. apart_at i j x inside (omega arith) (λ same. absurd (omega arith)) (sym (first_at i j x under_i) ∙ e ∙ port)
      in
      let longer : take (i + 1) shelves ≡ take i shelves ++ x ∷ [] =
      ap (λ n. take n shelves) (add-one i) ∙ take-suc shelves i x (subst (λ n. i < n) (sym on.long) inside)
      ∙ ap (λ (shelved : Shelved). take i shelves ++ shelved ∷ []) (sym at)
      in
      let each : (p : ℕ) → more (waiting (take i shelves)) x.port x.shelf p ≡ waiting (take (i + 1) shelves) p =
      λ p. sym (waiting_push (take i shelves) x x p apart) ∙ ap (λ (some : List Shelved). waiting some p) (sym longer)
      in
      subst (λ (gained : ℕ → List ℕ). GrowAll before table gained after) (λ j p. each p j) grown

  -- A put failed.
  pub empties_part :
      (i : ℕ) (x : Shelved) (before now after : Option Lanes) → i < length table → x ≡ slice_index_or shelves i x
      → GrowAll before table (waiting (take i shelves)) now → GrowsPart now x.port x.shelf after
      → BreaksEmptying table shelves before after
  empties_part i x before now after inside at g h =
      let port : x.port ≡ slice_index table i = ap (λ (shelved : Shelved). shelved.port) at ∙ on.ports i x inside in
      let gained = more (waiting (take i shelves)) (slice_index table i) h.0 in
      let grows : Grows now (slice_index table i) h.0 after = subst (λ p. Grows now p h.0 after) port h.2 in
      let shelf : waiting shelves (slice_index table i) ≡ x.shelf =
      waiting_at i x inside ∙ ap (λ (shelved : Shelved). shelved.shelf) (sym at)
      in
      let own : gained (slice_index table i) ≡ h.0 =
      more_same (waiting (take i shelves)) (slice_index table i) h.0
      ∙ ap (λ (bytes : List ℕ). bytes ++ h.0) (rest_waiting i i x (omega arith) inside)
      in
      record {
        done = i;
        within = inside;
        gained = gained;
        grow = grow_more before now after table (waiting (take i shelves)) (slice_index table i) h.0 (contains_at table i inside) g grows;
        first = λ k below.
            more_other (waiting (take i shelves)) (slice_index table i) h.0 (slice_index table k)
            (ports_differ law table good i k inside (omega arith) (λ same. absurd (omega arith)))
            ∙ first_waiting i k x below (omega arith);
        broken = subst (λ (bytes : List ℕ). IsPrefix bytes (waiting shelves (slice_index table i))) (sym own)
            (subst (λ (bytes : List ℕ). IsPrefix h.0 bytes) (sym shelf) h.1);
        others = λ k above within.
            more_other (waiting (take i shelves)) (slice_index table i) h.0 (slice_index table k)
            (ports_differ law table good i k inside within (λ same. absurd (omega arith)))
            ∙ rest_waiting i k x (omega arith) within;
      }

pub empties_none : (now : Option Lanes) (table : List ℕ) (shelves : List Shelved) → GrowAll now table (waiting (take 0 shelves)) now
empties_none now table shelves = grow_none now table

pub empties_all : (i : ℕ) (table : List ℕ) (shelves : List Shelved) (before after : Option Lanes) → length shelves ≤ i → GrowAll before table (waiting (take i shelves)) after → GrowAll before table (waiting shelves) after
empties_all i table shelves before after past h =
    subst (λ (some : List Shelved). GrowAll before table (waiting some) after) (take_all i shelves past) h

-- On the first shelves nothing waits any more.

pub record FirstEmptied (i : ℕ) (old now : List Shelved) : Type 0 where
  pub long : length now ≡ length old
  pub first : (k : ℕ) (d : Shelved) → k < i → slice_index_or now k d ≡ emptied (slice_index_or old k d)
  pub rest : (k : ℕ) (d : Shelved) → i ≤ k → slice_index_or now k d ≡ slice_index_or old k d

pub none_emptied : (old : List Shelved) → FirstEmptied 0 old old
none_emptied old = record { long = refl; first = λ k d below. absurd (omega arith); rest = λ k d past. refl }

-- the shelf that is next is as it was
pub next_is : (i : ℕ) (old now : List Shelved) (x : Shelved) → FirstEmptied i old now → x ≡ slice_index_or now i x → x ≡ slice_index_or old i x
next_is i old now x h at = at ∙ h.rest i x (omega arith)

emptied_first : (i : ℕ) (old now : List Shelved) (x : Shelved) → i < length now → x ≡ slice_index_or old i x → FirstEmptied i old now → (k : ℕ) (d : Shelved) → k < i + 1 → (k ≡ i) ⊎ (k ≡ i → ⊥) → slice_index_or (set now i (emptied x)) k d ≡ emptied (slice_index_or old k d)
emptied_first i old now x inside at h k d below (inl e) =
    subst (λ j. slice_index_or (set now i (emptied x)) j d ≡ emptied (slice_index_or old j d)) (sym e)
    (get_or-set_same now i (emptied x) d inside
    ∙ ap emptied (at ∙ get_or_default old i x d (subst (λ n. i < n) h.long inside)))
emptied_first i old now x inside at h k d below (inr ne) =
    get_or-set_other now i k (emptied x) d ne ∙ h.first k d (omega arith)

pub emptied_more : (i : ℕ) (old now : List Shelved) (x new : Shelved) → i < length now → x ≡ slice_index_or now i x → new ≡ emptied x → FirstEmptied i old now → FirstEmptied (i + 1) old (set now i new)
emptied_more i old now x new inside at is h =
    subst (λ (y : Shelved). FirstEmptied (i + 1) old (set now i y)) (sym is) (record {
      long = length-set now i (emptied x) ∙ h.long;
      first = λ k d below. emptied_first i old now x inside (next_is i old now x h at) h k d below (cases_eq k i);
      rest = λ k d past. get_or-set_other now i k (emptied x) d (λ e. absurd (omega arith)) ∙ h.rest k d (omega arith);
    })

pub all_emptied : (i : ℕ) (old now : List Shelved) → length now ≤ i → FirstEmptied i old now → now ≡ map emptied old
all_emptied i old now past h =
    same_lists now (map emptied old) (h.long ∙ sym (length-map old emptied)) (λ k d below.
    h.first k d (omega arith) ∙ sym (get_or-map emptied old k d d (subst (λ n. k < n) h.long below)))

-- What waits afterwards

pub emptied_wait : (table : List ℕ) (shelves : List Shelved) → WaitFor table shelves → WaitFor table (map emptied shelves)
emptied_wait table shelves on = record {
  long = length-map shelves emptied ∙ on.long;
  ports = λ k d below.
      ap (λ (shelved : Shelved). shelved.port) (get_or-map emptied shelves k d d (subst (λ n. k < n) (sym on.long) below))
      ∙ on.ports k d below;
}

nothing_first : (shelved : Shelved) (more : List Shelved) (port : ℕ) → waiting more port ≡ [] → (shelved.port ≡ port) ⊎ (shelved.port ≡ port → ⊥) → waiting (emptied shelved ∷ more) port ≡ []
nothing_first shelved more port rest (inl e) = here (emptied shelved) more port e
nothing_first shelved more port rest (inr ne) = past (emptied shelved) more port ne ∙ rest

pub emptied_nothing : (shelves : List Shelved) (port : ℕ) → waiting (map emptied shelves) port ≡ []
emptied_nothing [] port = refl
emptied_nothing (shelved ∷ shelves) port =
    nothing_first shelved (map emptied shelves) port (emptied_nothing shelves port) (cases_eq shelved.port port)

-- New shelves

abbrev pub new_shelf : ℕ → Shelved
new_shelf port = record { port = port; shelf = [] }

pub new_wait : (table : List ℕ) → WaitFor table (map new_shelf table)
new_wait table = record {
  long = length-map table new_shelf;
  ports = λ k d below. ap (λ (shelved : Shelved). shelved.port) (get_or-map new_shelf table k 0 d below);
}

pub new_nothing : (table : List ℕ) (port : ℕ) → waiting (map new_shelf table) port ≡ []
new_nothing [] port = refl
new_nothing (flow ∷ table) port =
    nothing_first (new_shelf flow) (map new_shelf table) port (new_nothing table port) (cases_eq flow port)
