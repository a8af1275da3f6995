-- How entries of the table of ports are marked.
use Rattle.std.proofs.Common.{◌≡◌, ◌⊎◌, ◌↔◌, inl, inr, ℕ, ◌+◌, ◌<◌, Bool, true, false, IsTrue, List, [], ◌∷◌, ◌++◌, length, get_or, replicate, set, take, refl, sym, ap, ◌∙◌, subst, arith}
use Rattle.std.specs.List.{Contains}
use Rattle.std.proofs.lemmas.Bool.{cases_eq}
use Rattle.std.proofs.lemmas.List.{get_or-set_same, get_or-replicate, get_or-set_other, length-replicate, length-set, take_more}
use Rattle.std.proofs.lemmas.List.Elements.{Contains-append_left, Contains-push, Contains-push_cases}
use Rattle.fg_shape.specs.declared.kind.Kind.TheVariants as kind
use Rattle.fg_shape.specs.Kind.{port_of}
use Rattle.fg_flows.specs.declared.selection.Selection.{Selection}
use Rattle.fg_pick.specs.Picked.{IsOnFlow, PicksPort}
use Rattle.fg_pick.specs.Ports.{IsPortOf, IsPortTable, Marks}
use Rattle.fg_pick.proofs.Deciding.{contains_none, kinds_back}

-- none are marked
pub marks_none : (Are : ℕ → Type 0) (entries : List Bool) → ((port : ℕ) → ¬ Are port) → Marks Are entries entries
marks_none Are entries none = record {
  as_many = refl;
  right = λ port less. (λ h. inl h, λ h. elim h as (λ _. IsTrue (get_or entries port false)) [ inl was ↦ was | inr is ↦ absurd (none port is) ]);
}

-- some, and then others
pub marks_then : (First Then Are : ℕ → Type 0) (old at new : List Bool) → Marks First old at → Marks Then at new
    → ((port : ℕ) → First port → Are port) → ((port : ℕ) → Then port → Are port) → ((port : ℕ) → Are port → First port ⊎ Then port) → Marks Are old new
marks_then First Then Are old at new h k one other back = record {
  as_many = k.as_many ∙ h.as_many;
  right = λ port less.
      let once = h.right port less in
      let again = k.right port (omega (arith, less, h.as_many)) in (
        λ marked. elim (again.0 marked) as (λ _. IsTrue (get_or old port false) ⊎ Are port) [
          | inl was ↦ elim (once.0 was) as (λ _. IsTrue (get_or old port false) ⊎ Are port) [ inl first ↦ inl first | inr is ↦ inr (one port is) ]
          | inr is ↦ inr (other port is)
        ],
        λ why. again.1 (elim why as (λ _. IsTrue (get_or at port false) ⊎ Then port) [
          | inl was ↦ inl (once.1 (inl was))
          | inr are ↦ elim (back port are) as (λ _. IsTrue (get_or at port false) ⊎ Then port) [ inl first ↦ inl (once.1 (inr first)) | inr next ↦ inr next ]
        ]),
      );
}

-- one
pub marks_one : (x : ℕ) (entries : List Bool) → x < length entries → Marks (λ port. x ≡ port) entries (set entries x true)
marks_one x entries within = record {
  as_many = length-set entries x true;
  right = λ port less. elim (cases_eq x port) as (λ _. IsTrue (get_or (set entries x true) port false) ↔ (IsTrue (get_or entries port false) ⊎ (x ≡ port))) [
    | inl is ↦ (λ h. inr is, λ h. subst (λ p. get_or (set entries x true) p false ≡ true) is (get_or-set_same entries x true false within))
    | inr not ↦
        let same : get_or (set entries x true) port false ≡ get_or entries port false = get_or-set_other entries x port true false (λ e. not (sym e)) in
        (λ h. inl (sym same ∙ h), λ h. elim h as (λ _. get_or (set entries x true) port false ≡ true) [ inl was ↦ same ∙ was | inr e ↦ absurd (not e) ])
  ];
}

-- the three ports of a flow

pub marks_flow : (flow : ℕ) (old one two new : List Bool) → Marks (λ port. flow ≡ port) old one → Marks (λ port. flow + 2 ≡ port) one two → Marks (λ port. flow + 4 ≡ port) two new → Marks (IsPortOf flow) old new
marks_flow flow old one two new a b c =
    let ab : Marks (λ port. (flow ≡ port) ⊎ (flow + 2 ≡ port)) old two = marks_then (λ port. flow ≡ port) (λ port. flow + 2 ≡ port) (λ port. (flow ≡ port) ⊎ (flow + 2 ≡ port)) old one two a b (λ port h. inl h) (λ port h. inr h) (λ port h. h) in
    marks_then (λ port. (flow ≡ port) ⊎ (flow + 2 ≡ port)) (λ port. flow + 4 ≡ port) (IsPortOf flow) old two new ab c
    (λ port h. elim h as (λ _. IsPortOf flow port) [ inl e ↦ (kind.Media, e) | inr e ↦ (kind.Column, e) ])
    (λ port h. (kind.Row, h))
    (λ port h. elim (kinds_back flow port h) as (λ _. ((flow ≡ port) ⊎ (flow + 2 ≡ port)) ⊎ (flow + 4 ≡ port)) [
      | inl e ↦ inl (inl e)
      | inr (inl e) ↦ inl (inr e)
      | inr (inr e) ↦ inr e
    ])

-- one flow more, and one port

on_flow_more : (flows : List ℕ) (flow port : ℕ) → IsOnFlow (flows ++ flow ∷ []) port → IsOnFlow flows port ⊎ IsPortOf flow port
on_flow_more flows flow port h = elim (Contains-push_cases flows flow h.flow h.named) as (λ _. IsOnFlow flows port ⊎ IsPortOf flow port) [
  | inl before ↦ inl (record { flow = h.flow; named = before; kind = h.kind; is = h.is })
  | inr e ↦ inr (h.kind, subst (λ f. port_of f h.kind ≡ port) (sym e) h.is)
]

pub marks_flow_more : (flows : List ℕ) (i d : ℕ) (old at new : List Bool) → i < length flows → Marks (IsOnFlow (take i flows)) old at → Marks (IsPortOf (get_or flows i d)) at new → Marks (IsOnFlow (take (i + 1) flows)) old new
marks_flow_more flows i d old at new within h k =
    let front = take i flows in
    let flow = get_or flows i d in
    subst (λ (fs : List ℕ). Marks (IsOnFlow fs) old new) (sym (take_more flows i d within))
    (marks_then (IsOnFlow front) (IsPortOf flow) (IsOnFlow (front ++ flow ∷ [])) old at new h k
    (λ port x. record { flow = x.flow; named = Contains-append_left front (flow ∷ []) x.flow x.named; kind = x.kind; is = x.is })
    (λ port x. record { flow = flow; named = Contains-push front flow; kind = x.0; is = x.1 })
    (λ port x. on_flow_more front flow port x))

pub marks_port_more : (ports : List ℕ) (i d : ℕ) (old at new : List Bool) → i < length ports → Marks (Contains (take i ports)) old at → Marks (λ port. get_or ports i d ≡ port) at new → Marks (Contains (take (i + 1) ports)) old new
marks_port_more ports i d old at new within h k =
    let front = take i ports in
    let p = get_or ports i d in
    subst (λ (ps : List ℕ). Marks (Contains ps) old new) (sym (take_more ports i d within))
    (marks_then (Contains front) (λ port. p ≡ port) (Contains (front ++ p ∷ [])) old at new h k
    (λ port x. Contains-append_left front (p ∷ []) port x)
    (λ port e. subst (λ q. Contains (front ++ p ∷ []) q) e (Contains-push front p))
    (λ port x. Contains-push_cases front p port x))

pub on_no_flow : (port : ℕ) → ¬ IsOnFlow [] port
on_no_flow port h = contains_none h.flow h.named

-- all entries as they were made, and then the flows' and the ports'
pub table_marked : (selection : Selection) (all : Bool) (made at new : List Bool) → IsTrue all ↔ ((selection.flows ≡ []) × (selection.ports ≡ [])) → made ≡ replicate 65536 all
    → Marks (IsOnFlow selection.flows) made at → Marks (Contains selection.ports) at new → IsPortTable selection new
table_marked selection all made at new says is h k =
    let many : length made ≡ 65536 = ap (λ (xs : List Bool). length xs) is ∙ length-replicate {A = Bool} 65536 all in
    let both = marks_then (IsOnFlow selection.flows) (Contains selection.ports) (λ port. IsOnFlow selection.flows port ⊎ Contains selection.ports port) made at new h k (λ port x. inl x) (λ port x. inr x) (λ port x. x) in
    record {
      entry_each = both.as_many ∙ many;
      right = λ port less.
          let own : get_or made port false ≡ all = ap (λ (xs : List Bool). get_or xs port false) is ∙ get_or-replicate 65536 port all false less in
          let marked = both.right port (omega (arith, less, many)) in (
            λ e. elim (marked.0 e) as (λ _. PicksPort selection port) [ inl was ↦ inl (says.0 (sym own ∙ was)) | inr why ↦ inr why ],
            λ x. marked.1 (elim x as (λ _. IsTrue (get_or made port false) ⊎ (IsOnFlow selection.flows port ⊎ Contains selection.ports port)) [ inl none ↦ inl (own ∙ says.1 none) | inr why ↦ inr why ]),
          );
    }
