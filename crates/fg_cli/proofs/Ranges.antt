-- Values that a line sets lie within their names' ranges.
use Rattle.std.proofs.Common.{◌≡◌, ℕ, suc, ◌≤◌, Bool, true, false, cond, nat_eq, List, [], ◌∷◌, length, slice_get, Option, Some, None, unwrap_or, refl, sym, subst, inl, inr, ◌⊎◌, arith, lit≤}
use Rattle.std.specs.List.{All, cons_option, filter_map}
use Rattle.std.proofs.lemmas.List.Elements.{All-cons, All-nil}
use Rattle.fg_shape.specs.Kind.{IsFlowPort}
use Rattle.fg_cli.specs.declared.Name.{Name}
use Rattle.fg_cli.specs.declared.Name.TheVariants as name
use Rattle.fg_cli.specs.declared.grammar.Command.TheVariants as command
use Rattle.fg_cli.specs.declared.grammar.Key.{Key}
use Rattle.fg_cli.specs.declared.grammar.Key.TheVariants as key
use Rattle.fg_cli.specs.declared.settings.Setting.{Setting}
use Rattle.fg_cli.specs.Grammar.{row, same_key, Allows}
use Rattle.fg_cli.specs.Lines.{values_of, number_of, default_of, missing_name, missing_of}
use Rattle.fg_cli.specs.Orders.{MaxFits}
use Rattle.fg_cli.specs.Reading.{InRanges}
use Rattle.fg_cli.proofs.Keys.{same_is}
use Rattle.fg_cli.proofs.Lists.{values-yes, values-no}

tail_in : (s : Setting) (ss : List Setting) → InRanges (s ∷ ss) → InRanges ss
tail_in s ss all k d below = all (suc k) d (omega (arith, below))

-- a name's values are ones that it takes
values_in : (k : Key) (ss : List Setting) → InRanges ss → All (λ n. Allows (row k).range n) (values_of k ss)
values_in k [] all = All-nil (λ n. Allows (row k).range n)
values_in k (s ∷ ss) all =
    let P : ℕ → Type 0 = λ n. Allows (row k).range n in
    let Q : List ℕ → Type 0 = λ l. All (λ n. Allows (row k).range n) l in
    let rest = values_in k ss (tail_in s ss all) in
    elim (same_key k s.key) as (λ b. same_key k s.key ≡ b → All (λ n. Allows (row k).range n) (values_of k (s ∷ ss))) [
      | true ↦ λ e.
          (let R : Key → Type 0 = λ j. Allows (row j).range s.value in
          let own : Allows (row k).range s.value = subst R (sym (same_is k s.key e)) (all 0 s (omega arith)) in
          subst Q (sym (values-yes k s ss e)) (All-cons P s.value (values_of k ss) own rest))
      | false ↦ λ e. subst Q (sym (values-no k s ss e)) rest
    ] refl

first_in : (P : ℕ → Type 0) (xs : List ℕ) (d : ℕ) → All P xs → P d → P (unwrap_or (slice_get xs 0) d)
first_in P [] d all own = own
first_in P (x ∷ xs) d all own = all 0 x (omega arith)

-- the value that counts is one that the name takes, where its default is
pub number_in : (k : Key) (ss : List Setting) → InRanges ss → Allows (row k).range (default_of (row k).absent) → Allows (row k).range (number_of k ss)
number_in k ss all own = first_in (λ n. Allows (row k).range n) (values_of k ss) (default_of (row k).absent) (values_in k ss all) own

pub window_in : (ss : List Setting) → InRanges ss → (1 ≤ number_of key.Window ss) × (number_of key.Window ss ≤ 100)
window_in ss all = number_in key.Window ss all (lit≤ tt, lit≤ tt)

pub depth_in : (ss : List Setting) → InRanges ss → (1 ≤ number_of key.Depth ss) × (number_of key.Depth ss ≤ 1000)
depth_in ss all = number_in key.Depth ss all (lit≤ tt, lit≤ tt)

pub workers_in : (ss : List Setting) → InRanges ss → (0 ≤ number_of key.Workers ss) × (number_of key.Workers ss ≤ 16)
workers_in ss all = number_in key.Workers ss all (lit≤ tt, lit≤ tt)

pub max_in : (ss : List Setting) → InRanges ss → MaxFits (number_of key.Max ss)
max_in ss all = number_in key.Max ss all (lit≤ tt, lit≤ tt)

pub packets_in : (ss : List Setting) → InRanges ss → (1 ≤ number_of key.Packets ss) × (number_of key.Packets ss ≤ 7)
packets_in ss all = number_in key.Packets ss all (lit≤ tt, lit≤ tt)

pub rate_in : (ss : List Setting) → InRanges ss → (1 ≤ number_of key.Rate ss) × (number_of key.Rate ss ≤ 10000000000)
rate_in ss all = number_in key.Rate ss all (lit≤ tt, lit≤ tt)

pub port_in : (ss : List Setting) → InRanges ss → IsFlowPort (number_of key.Port ss)
port_in ss all = number_in key.Port ss all (lit≤ tt, lit≤ tt)

pub datagrams_in : (ss : List Setting) → InRanges ss → (1 ≤ number_of key.Datagrams ss) × (number_of key.Datagrams ss ≤ 20000)
datagrams_in ss all = number_in key.Datagrams ss all (lit≤ tt, lit≤ tt)

pub loss_in : (ss : List Setting) → InRanges ss → (0 ≤ number_of key.Loss ss) × (number_of key.Loss ss ≤ 20)
loss_in ss all = number_in key.Loss ss all (lit≤ tt, lit≤ tt)

first_or_zero : (xs : List ℕ) → All (λ n. (2 ≤ n) × (n ≤ 9999999999999)) xs → (unwrap_or (slice_get xs 0) 0 ≡ 0) ⊎ (2 ≤ unwrap_or (slice_get xs 0) 0)
first_or_zero [] all = inl refl
first_or_zero (x ∷ xs) all = inr (all 0 x (omega arith)).0

pub every_in : (ss : List Setting) → InRanges ss → (number_of key.Every ss ≡ 0) ⊎ (2 ≤ number_of key.Every ss)
every_in ss all = first_or_zero (values_of key.Every ss) (values_in key.Every ss all)

pub drops_in : (ss : List Setting) → InRanges ss → All (λ n. 1 ≤ n) (values_of key.Drop ss)
drops_in ss all k d below = (values_in key.Drop ss all k d below).0

-- where none of the names that must be there is missing, each has a value
none_missing :
    (ss : List Setting) (k : Key) (ks : List Key) → slice_get (filter_map (missing_name ss) (k ∷ ks)) 0 ≡ None
    → (missing_name ss k ≡ None) × (slice_get (filter_map (missing_name ss) ks) 0 ≡ None)
none_missing ss k ks none = go (missing_name ss k) none
  where
    go : (o : Option Name) → slice_get (cons_option o (filter_map (missing_name ss) ks)) 0 ≡ None → (o ≡ None) × (slice_get (filter_map (missing_name ss) ks) 0 ≡ None)
    go None none = (refl, none)
    go (Some n) none = absurd (cc)

first_of_some : (P : ℕ → Type 0) (xs : List ℕ) (d : ℕ) → All P xs → nat_eq (length xs) 0 ≡ false → P (unwrap_or (slice_get xs 0) d)
first_of_some P [] d all some = absurd (cc)
first_of_some P (x ∷ xs) d all some = all 0 x (omega arith)

is_there : (n : Name) (b : Bool) → cond b (Some n) None ≡ None → b ≡ false
is_there n true none = absurd (cc)
is_there n false none = refl

pub burst_in : (ss : List Setting) → InRanges ss → missing_of command.ChooseMatrix ss ≡ None → (1 ≤ number_of key.Burst ss) × (number_of key.Burst ss ≤ 20)
burst_in ss all none =
    let here = (none_missing ss key.Burst (key.Most ∷ key.Fec ∷ []) none).0 in
    first_of_some (λ n. (1 ≤ n) × (n ≤ 20)) (values_of key.Burst ss) 0 (values_in key.Burst ss all)
    (is_there name.Burst (nat_eq (length (values_of key.Burst ss)) 0) here)

pub most_in : (ss : List Setting) → InRanges ss → missing_of command.ChooseMatrix ss ≡ None → (1 ≤ number_of key.Most ss) × (number_of key.Most ss ≤ 100)
most_in ss all none =
    let rest = (none_missing ss key.Burst (key.Most ∷ key.Fec ∷ []) none).1 in
    let here = (none_missing ss key.Most (key.Fec ∷ []) rest).0 in
    first_of_some (λ n. (1 ≤ n) × (n ≤ 100)) (values_of key.Most ss) 0 (values_in key.Most ss all)
    (is_there name.Most (nat_eq (length (values_of key.Most ss)) 0) here)

pub flows_in : (ss : List Setting) → InRanges ss → All IsFlowPort (values_of key.PickedFlow ss)
flows_in ss all k d below = values_in key.PickedFlow ss all k d below
