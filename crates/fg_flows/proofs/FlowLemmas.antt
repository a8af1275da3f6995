-- Flows apart, and the map from ports to flows.
use Rattle.std.proofs.Common.{◌≡◌, ◌≢◌, ℕ, zero, suc, ◌+◌, ◌<◌, ◌≤◌, List, length, get_or, nat_eq, Bool, true, false, Option, Some, None, is_some, unwrap_or, IfSome, IfNone, refl, sym, subst, ap, ◌∙◌, arith, ◌⊎◌, inl, inr}
use Rattle.std.specs.HashMap.{get, Updates, IsEmpty}
use Rattle.std.specs.Map.{lookup}
use Rattle.std.proofs.lemmas.Bool.{ne_eqb, cases_eq, cases_lt, cases_order}
use Rattle.fg_shape.specs.declared.kind.Kind.{Kind}
use Rattle.fg_shape.specs.declared.kind.Kind.TheVariants.{Media, Column, Row}
use Rattle.fg_flows.specs.declared.FlowFault.{FlowFault}
use Rattle.fg_flows.specs.declared.FlowFault.TheVariants.{NoFlow, TooMany, Port, Clash}
use Rattle.fg_flows.specs.Flows.{IsPortOf, SharePort, IsGoodFlow, IsTable, AreGoodBefore, FirstFlowFault}
use Rattle.fg_shape.specs.Kind.{port_of, IsFlowPort}
use Rattle.fg_flows.specs.Index.{Owners, IsIndex}

-- the ports of a flow differ by kind
pub same_kind : (p : ℕ) (a b : Kind) → port_of p a ≡ port_of p b → a ≡ b
same_kind p Media Media e = refl
same_kind p Media Column e = absurd (omega (arith, e))
same_kind p Media Row e = absurd (omega (arith, e))
same_kind p Column Media e = absurd (omega (arith, e))
same_kind p Column Column e = refl
same_kind p Column Row e = absurd (omega (arith, e))
same_kind p Row Media e = absurd (omega (arith, e))
same_kind p Row Column e = absurd (omega (arith, e))
same_kind p Row Row e = refl

pub one_flow : (flows : List ℕ) (port i j : ℕ) (a b : Kind) → IsTable flows → IsPortOf flows port i a → IsPortOf flows port j b → (i ≡ j) × (a ≡ b)
one_flow flows port i j a b table x y =
    elim (cases_order i j) [
      | inl same ↦
          (let moved : port_of (get_or flows i 0) b ≡ port_of (get_or flows j 0) b = ap (λ k. port_of (get_or flows k 0) b) same in
          (same, same_kind (get_or flows i 0) a b (x.1 ∙ sym y.1 ∙ sym moved)))
      | inr apart ↦
          (elim apart [
            | inl less ↦ absurd ((table.good j y.0).apart i less (a, b, x.1 ∙ sym y.1))
            | inr more ↦ absurd ((table.good i x.0).apart j more (b, a, y.1 ∙ sym x.1))
          ])
    ]

pub no_fault : (flows : List ℕ) (fault : FlowFault) → IsTable flows → FirstFlowFault flows fault → ⊥
no_fault flows NoFlow table f = omega (arith, table.some_flow, f)
no_fault flows TooMany table f = omega (arith, table.limit, f)
no_fault flows (Port i) table f = f.1 (table.good i f.0.within).in_range
no_fault flows (Clash i) table f = (table.good i f.0.within).apart f.2.0 f.2.1 f.2.2

-- two flows that are the first that isn't good are one
one_first : (flows : List ℕ) (i j : ℕ) → AreGoodBefore flows i → AreGoodBefore flows j → ¬ IsGoodFlow flows i → ¬ IsGoodFlow flows j → i ≡ j
one_first flows i j x y bad wrong =
    elim (cases_order i j) [
      | inl same ↦ same
      | inr apart ↦ (elim apart [ inl less ↦ absurd (bad (y.good i less)) | inr more ↦ absurd (wrong (x.good j more)) ])
    ]

no_port : (flows : List ℕ) (i : ℕ) → ¬ IsFlowPort (get_or flows i 0) → ¬ IsGoodFlow flows i
no_port flows i bad good = bad good.in_range

no_room : (flows : List ℕ) (i : ℕ) → ((j : ℕ) × (j < i) × SharePort flows j i) → ¬ IsGoodFlow flows i
no_room flows i clash good = good.apart clash.0 clash.1 clash.2

pub one_fault : (flows : List ℕ) (a b : FlowFault) → FirstFlowFault flows a → FirstFlowFault flows b → a ≡ b
one_fault flows NoFlow NoFlow x y = refl
one_fault flows NoFlow TooMany x y = absurd (omega (arith, x, y))
one_fault flows NoFlow (Port j) x y = absurd (omega (arith, x, y.0.some_flow))
one_fault flows NoFlow (Clash j) x y = absurd (omega (arith, x, y.0.some_flow))
one_fault flows TooMany NoFlow x y = absurd (omega (arith, x, y))
one_fault flows TooMany TooMany x y = refl
one_fault flows TooMany (Port j) x y = absurd (omega (arith, x, y.0.limit))
one_fault flows TooMany (Clash j) x y = absurd (omega (arith, x, y.0.limit))
one_fault flows (Port i) NoFlow x y = absurd (omega (arith, y, x.0.some_flow))
one_fault flows (Port i) TooMany x y = absurd (omega (arith, y, x.0.limit))
one_fault flows (Port i) (Port j) x y = ap (λ k. Port k) (one_first flows i j x.0 y.0 (no_port flows i x.1) (no_port flows j y.1))
one_fault flows (Port i) (Clash j) x y =
    let same = one_first flows i j x.0 y.0 (no_port flows i x.1) (no_room flows j y.2) in
    absurd (x.1 (let P : ℕ → Type 0 = λ k. IsFlowPort (get_or flows k 0) in subst P (sym same) y.1))
one_fault flows (Clash i) NoFlow x y = absurd (omega (arith, y, x.0.some_flow))
one_fault flows (Clash i) TooMany x y = absurd (omega (arith, y, x.0.limit))
one_fault flows (Clash i) (Port j) x y =
    let same = one_first flows i j x.0 y.0 (no_room flows i x.2) (no_port flows j y.1) in
    absurd (y.1 (let P : ℕ → Type 0 = λ k. IsFlowPort (get_or flows k 0) in subst P same x.1))
one_fault flows (Clash i) (Clash j) x y = ap (λ k. Clash k) (one_first flows i j x.0 y.0 (no_room flows i x.2) (no_room flows j y.2))

-- an empty map is the index of no flows
pub no_index : (flows : List ℕ) (owners : Owners) → IsEmpty owners → IsIndex flows 0 owners
no_index flows owners empty = record {
  found = λ port i kind e. (
      let none : get nat_eq owners port ≡ None = ap (λ es. lookup (nat_eq port) es) empty in
      absurd (cc)
      );
  complete = λ port i kind below e. absurd (omega arith);
}

-- a port in the map is one of an earlier flow
clash_at :
    (flows : List ℕ) (i port : ℕ) (kind : Kind) (owners : Owners) (o : Option (ℕ × Kind)) → IsIndex flows i owners → get nat_eq owners port ≡ o
    → is_some o ≡ true → port_of (get_or flows i 0) kind ≡ port → (j : ℕ) × (j < i) × SharePort flows j i
clash_at flows i port kind owners None index e some own = absurd (cc)
clash_at flows i port kind owners (Some o) index e some own =
    let there = index.found port o.0 o.1 e in
    (o.0, there.0, (o.1, kind, there.1 ∙ sym own))

pub clash_found :
    (flows : List ℕ) (i port : ℕ) (kind : Kind) (owners : Owners) → IsIndex flows i owners
    → is_some (get nat_eq owners port) ≡ true → port_of (get_or flows i 0) kind ≡ port → (j : ℕ) × (j < i) × SharePort flows j i
clash_found flows i port kind owners index some own = clash_at flows i port kind owners (get nat_eq owners port) index refl some own

none_of : {X : Type 0} (o : Option X) → is_some o ≡ false → o ≡ None
none_of None e = refl
none_of (Some x) e = absurd (cc)

-- where none of a flow's ports is in the map, it shares none with an earlier flow
pub apart_from_index :
    (flows : List ℕ) (i : ℕ) (owners : Owners) → IsIndex flows i owners
    → ((kind : Kind) → is_some (get nat_eq owners (port_of (get_or flows i 0) kind)) ≡ false)
    → (j : ℕ) → j < i → ¬ SharePort flows j i
apart_from_index flows i owners index free j less share =
    let there = index.complete (port_of (get_or flows i 0) share.1) j share.0 less share.2 in
    let none = none_of (get nat_eq owners (port_of (get_or flows i 0) share.1)) (free share.1) in
    cc

differs : (owners : Owners) (k q : ℕ) (o : ℕ × Kind) → get nat_eq owners q ≡ Some o → is_some (get nat_eq owners k) ≡ false → k ≢ q
differs owners k q o there free same =
    let moved : is_some (get nat_eq owners k) ≡ is_some (get nat_eq owners q) = ap (λ x. is_some (get nat_eq owners x)) same in
    let some : is_some (get nat_eq owners q) ≡ is_some (Some o) = ap (λ x. is_some x) there in
    cc

parts : (i j : ℕ) (a b : Kind) (x y : Option (ℕ × Kind)) → x ≡ Some (i, a) → x ≡ y → y ≡ Some (j, b) → (i ≡ j) × (a ≡ b)
parts i j a b x y e s f =
    let pair : Some (i, a) ≡ Some (j, b) = sym e ∙ s ∙ f in
    let default : ℕ × Kind = (i, a) in
    (ap (λ o. (unwrap_or o default).0) pair, ap (λ o. (unwrap_or o default).1) pair)

-- what a map has after the three ports of flow i were put in it in turn
record AddsFlow (i p : ℕ) (owners third : Owners) : Type 0 where
  at : (kind : Kind) → get nat_eq third (port_of p kind) ≡ Some (i, kind)
  kept : (q : ℕ) → ((kind : Kind) → port_of p kind ≢ q) → get nat_eq third q ≡ get nat_eq owners q

adds_flow :
    (i p : ℕ) (owners first second third : Owners)
    → Updates nat_eq owners first p (Some (i, Media)) → Updates nat_eq first second (p + 2) (Some (i, Column)) → Updates nat_eq second third (p + 4) (Some (i, Row))
    → AddsFlow i p owners third
adds_flow i p owners first second third a b c = record {
  at = λ kind. elim kind as (λ k. get nat_eq third (port_of p k) ≡ Some (i, k)) [
    | Media ↦ c.2 p (ne_eqb (p + 4) p (λ e. omega (arith, e))) ∙ b.2 p (ne_eqb (p + 2) p (λ e. omega (arith, e))) ∙ a.1
    | Column ↦ c.2 (p + 2) (ne_eqb (p + 4) (p + 2) (λ e. omega (arith, e))) ∙ b.1
    | Row ↦ c.1
  ];
  kept = λ q other. c.2 q (ne_eqb (p + 4) q (other Row)) ∙ b.2 q (ne_eqb (p + 2) q (other Column)) ∙ a.2 q (ne_eqb p q (other Media));
}

own_or_other : (p q : ℕ) → ((kind : Kind) × (port_of p kind ≡ q)) ⊎ ((kind : Kind) → port_of p kind ≢ q)
own_or_other p q =
    elim (cases_eq p q) [
      | inl e ↦ inl (Media, e)
      | inr x ↦
          (elim (cases_eq (p + 2) q) [
            | inl e ↦ inl (Column, e)
            | inr y ↦
                (elim (cases_eq (p + 4) q) [
                  | inl e ↦ inl (Row, e)
                  | inr z ↦ inr (λ kind. elim kind as (λ k. port_of p k ≢ q) [ Media ↦ x | Column ↦ y | Row ↦ z ])
                ])
          ])
    ]

grown : (flows : List ℕ) (i p : ℕ) (owners third : Owners) → p ≡ get_or flows i 0 → IsIndex flows i owners
    → ((kind : Kind) → is_some (get nat_eq owners (port_of p kind)) ≡ false) → AddsFlow i p owners third → IsIndex flows (i + 1) third
grown flows i p owners third own index free adds = record {
  found = λ q j kind e. elim (own_or_other p q) [
    | inl mine ↦
        (let same = parts i j mine.0 kind (get nat_eq third (port_of p mine.0)) (get nat_eq third q) (adds.at mine.0) (ap (λ x. get nat_eq third x) mine.1) e in
        let port : port_of (get_or flows j 0) kind ≡ port_of (get_or flows i 0) mine.0 = ap (λ x. port_of (get_or flows x 0) kind) (sym same.0) ∙ ap (λ k. port_of (get_or flows i 0) k) (sym same.1) in
        let here : port_of (get_or flows i 0) mine.0 ≡ port_of p mine.0 = ap (λ x. port_of x mine.0) (sym own) in
        (omega (arith, same.0), port ∙ here ∙ mine.1))
    | inr other ↦
        (let before = index.found q j kind (sym (adds.kept q other) ∙ e) in
        (omega (arith, before.0), before.1))
  ];
  complete = λ q j kind below e. elim (cases_lt j i) [
    | inl less ↦
        (let before = index.complete q j kind less e in
        adds.kept q (λ k. differs owners (port_of p k) q (j, kind) before (free k)) ∙ before)
    | inr last ↦
        (let same : i ≡ j = omega arith in
        let here : port_of p kind ≡ q = ap (λ x. port_of x kind) own ∙ ap (λ x. port_of (get_or flows x 0) kind) same ∙ e in
        ap (λ x. get nat_eq third x) (sym here) ∙ adds.at kind ∙ ap (λ x. Some (x, kind)) same)
  ];
}

-- the map with the three ports of flow i is the index of one flow more
pub index_grows :
    (flows : List ℕ) (i p : ℕ) (owners first second third : Owners) → p ≡ get_or flows i 0 → IsIndex flows i owners
    → ((kind : Kind) → is_some (get nat_eq owners (port_of p kind)) ≡ false)
    → Updates nat_eq owners first p (Some (i, Media)) → Updates nat_eq first second (p + 2) (Some (i, Column)) → Updates nat_eq second third (p + 4) (Some (i, Row))
    → IsIndex flows (i + 1) third
index_grows flows i p owners first second third own index free a b c =
    grown flows i p owners third own index free (adds_flow i p owners first second third a b c)

-- a look-up at an equal port
pub found_at :
    (owners : Owners) (p q : ℕ) (b : Bool) → p ≡ q → is_some (get nat_eq owners p) ≡ b
    → is_some (get nat_eq owners q) ≡ b
found_at owners p q b same found = subst (λ n. is_some (get nat_eq owners n) ≡ b) same found

-- an entry at an equal port
pub added_at :
    (owners new : Owners) (p q : ℕ) (owner : Option (ℕ × Kind)) → p ≡ q → Updates nat_eq owners new p owner
    → Updates nat_eq owners new q owner
added_at owners new p q owner same added = subst (λ n. Updates nat_eq owners new n owner) same added

-- what a look-up tells
pub found_by_index :
    (flows : List ℕ) (port : ℕ) (owners : Owners) (r : Option (ℕ × Kind)) → IsIndex flows (length flows) owners → r ≡ get nat_eq owners port
    → IfSome r (λ owner. IsPortOf flows port owner.0 owner.1)
found_by_index flows port owners None index e = tt
found_by_index flows port owners (Some o) index e = index.found port o.0 o.1 (sym e)

pub none_by_index :
    (flows : List ℕ) (port : ℕ) (owners : Owners) (r : Option (ℕ × Kind)) → IsIndex flows (length flows) owners → r ≡ get nat_eq owners port
    → IfNone r ((i : ℕ) (kind : Kind) → IsPortOf flows port i kind → ⊥)
none_by_index flows port owners None index e = λ i kind p. (let there = index.complete port i kind p.0 p.1 in cc)
none_by_index flows port owners (Some o) index e = tt

pub some_of : (n : ℕ) → nat_eq n 0 ≡ false → 1 ≤ n
some_of zero e = absurd (cc)
some_of (suc n) e = omega arith

-- a list whose flows are all good and in the map makes a table
pub table_made :
    (flows items : List ℕ) (n : ℕ) (owners : Owners) → items ≡ flows → 1 ≤ length flows → length flows ≤ 64 → n ≡ length flows
    → IsIndex flows n owners → ((j : ℕ) → j < n → IsGoodFlow flows j) → IsTable items × IsIndex items (length items) owners
table_made flows items n owners same some limit all index good =
    let table : IsTable flows = record { some_flow = some; limit = limit; good = λ i below. good i (omega (arith, below, all)) } in
    let Of : ℕ → Type 0 = λ k. IsIndex flows k owners in
    let P : List ℕ → Type 0 = λ xs. IsTable xs × IsIndex xs (length xs) owners in
    subst P (sym same) (table, subst Of all index)
