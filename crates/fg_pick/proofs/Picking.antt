-- Lists of what is picked.
use Rattle.std.proofs.Common.{◌≡◌, ◌⊎◌, ◌↔◌, inl, inr, ◌≤◌, Bool, true, false, cond, IsTrue, List, [], ◌∷◌, ◌++◌, length, refl, sym, ap, ◌∙◌, subst, arith, length-append}
use Rattle.std.specs.List.{filter, flat_map, AllByRecursion}
use Rattle.std.proofs.lemmas.List.Elements.{filter-append, filter_agree, All-filter, All-from_recursion, recursion_from_All}
use Rattle.fg_io.specs.Prefix.{IsPrefix}
use Rattle.fg_flows.specs.declared.selection.Selection.{Selection}
use Rattle.fg_trace.proofs.Traces.{trace_more}
use Rattle.fg_trace.specs.Trace.{Record, Fits as FitsTrace, magic, spelling, trace_of}
use Rattle.fg_pick.specs.Laws.{FitsIsDecided, OnePicked, PickedExist, PickedJoin}
use Rattle.fg_pick.specs.Picked.{Fits, IsPicked}

-- A test for what fits

told : {A : Type 0} → A ⊎ (¬ A) → Bool
told (inl a) = true
told (inr never) = false

told_right : {A : Type 0} → (d : A ⊎ (¬ A)) → IsTrue (told d) ↔ A
unfolding told
told_right (inl a) = (λ e. a, λ x. refl)
told_right (inr never) = (λ e. absurd (cc), λ x. absurd (never x))

pub picked_exist : FitsIsDecided → PickedExist
picked_exist law selection records =
    let test : Record → Bool = λ r. told (law selection r) in
    (filter test records, record { fits = test; right = λ r. told_right (law selection r); picked_are = refl })

agree : (a b : Bool) (P : Type 0) → IsTrue a ↔ P → IsTrue b ↔ P → a ≡ b
agree true true P h k = refl
agree true false P h k = sym (k.1 (h.0 refl))
agree false true P h k = h.1 (k.0 refl)
agree false false P h k = refl

-- two tests for what fits agree
same_picked : (selection : Selection) (records one other : List Record) → (h : IsPicked selection records one) → (k : IsPicked selection records other) → one ≡ other
same_picked selection records one other h k =
    h.picked_are ∙ filter_agree h.fits k.fits (λ r. agree (h.fits r) (k.fits r) (Fits selection r) (h.right r) (k.right r)) records ∙ sym k.picked_are

pub one_picked : OnePicked
one_picked selection records one other h k = same_picked selection records one other h k

pub picked_join : PickedJoin
picked_join selection records more one other h k = record {
  fits = h.fits;
  right = h.right;
  picked_are = ap (λ t. t ++ other) h.picked_are
      ∙ ap (λ t. filter h.fits records ++ t) (same_picked selection more other (filter h.fits more) k (record { fits = h.fits; right = h.right; picked_are = refl }))
      ∙ sym (filter-append h.fits records more);
}

-- No record, and one

pub picked_none : PickedExist → (selection : Selection) → IsPicked selection [] []
picked_none exist selection =
    let some = (exist selection []).1 in
    record { fits = some.fits; right = some.right; picked_are = refl }

pub picked_it : PickedExist → (selection : Selection) (r : Record) → Fits selection r → IsPicked selection (r ∷ []) (r ∷ [])
picked_it exist selection r fit =
    let some = (exist selection []).1 in
    record { fits = some.fits; right = some.right; picked_are = sym (ap (λ b. cond b (r ∷ []) []) ((some.right r).1 fit)) }

fails : (b : Bool) (P : Type 0) → IsTrue b ↔ P → (¬ P) → b ≡ false
fails true P h never = absurd (never (h.0 refl))
fails false P h never = refl

pub picked_not : PickedExist → (selection : Selection) (r : Record) → (¬ Fits selection r) → IsPicked selection (r ∷ []) []
picked_not exist selection r never =
    let some = (exist selection []).1 in
    record { fits = some.fits; right = some.right; picked_are = sym (ap (λ b. cond b (r ∷ []) []) (fails (some.fits r) (Fits selection r) (some.right r) never)) }

-- Traces

-- the trace of what is picked first is the front of that of all
pub picked_front : OnePicked → PickedJoin → PickedExist → (selection : Selection) (records later front all : List Record) → IsPicked selection records front → IsPicked selection (records ++ later) all
    → IsPrefix (trace_of front) (trace_of all)
picked_front one join exist selection records later front all h k =
    let rest = exist selection later in
    let whole : all ≡ front ++ rest.0 = one selection (records ++ later) all (front ++ rest.0) k (join selection records later front rest.0 h rest.1) in
    (flat_map spelling rest.0, ap (λ t. trace_of t) whole ∙ trace_more front rest.0)

-- what is picked of records that a trace can tell, a trace can tell
pub picked_fit : (selection : Selection) (records picked : List Record) → IsPicked selection records picked → AllByRecursion FitsTrace records → AllByRecursion FitsTrace picked
picked_fit selection records picked h fit =
    subst (λ (rs : List Record). AllByRecursion FitsTrace rs) (sym h.picked_are)
    (recursion_from_All FitsTrace (filter h.fits records) (All-filter h.fits FitsTrace records (All-from_recursion FitsTrace records fit)))

-- and is no longer
fewer_with : (b : Bool) (r : Record) (rest all : List Record) → length (flat_map spelling rest) ≤ length (flat_map spelling all) → length (flat_map spelling (cond b (r ∷ rest) rest)) ≤ length (flat_map spelling (r ∷ all))
fewer_with true r rest all h = omega (arith, h, length-append (spelling r) (flat_map spelling rest), length-append (spelling r) (flat_map spelling all))
fewer_with false r rest all h = omega (arith, h, length-append (spelling r) (flat_map spelling all))

fewer : (test : Record → Bool) (records : List Record) → length (flat_map spelling (filter test records)) ≤ length (flat_map spelling records)
fewer test [] = omega arith
fewer test (r ∷ records) = fewer_with (test r) r (filter test records) records (fewer test records)

pub no_longer : (selection : Selection) (records picked : List Record) → IsPicked selection records picked → length (trace_of picked) ≤ length (trace_of records)
no_longer selection records picked h =
    omega (arith, ap (λ (rs : List Record). length (flat_map spelling rs)) h.picked_are, fewer h.fits records, length-append magic (flat_map spelling picked), length-append magic (flat_map spelling records))
