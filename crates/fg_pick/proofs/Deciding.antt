-- A record fits, or it doesn't.
use Rattle.std.proofs.Common.{◌≡◌, ◌⊎◌, inl, inr, ℕ, ◌+◌, ◌<◌, ◌≤◌, Option, None, Some, IfSome, List, [], ◌∷◌, refl, sym, subst, arith}
use Rattle.std.specs.List.{Contains}
use Rattle.std.proofs.lemmas.Bool.{cases_eq, cases_lt}
use Rattle.std.proofs.lemmas.List.Elements.{Contains-append_cases, Contains-append_left, Contains-append_right, Contains-push, Contains-push_cases}
use Rattle.fg_words.specs.declared.Word.{Word}
use Rattle.fg_shape.specs.declared.kind.Kind.{Kind}
use Rattle.fg_shape.specs.declared.kind.Kind.TheVariants as kind
use Rattle.fg_shape.specs.Kind.{port_of}
use Rattle.fg_flows.specs.declared.selection.Selection.{Selection}
use Rattle.fg_rtp.specs.MediaDatagram.{IsMediaDatagram}
use Rattle.fg_rtp.specs.Laws.{MediaIsDecided, ReadsOneWay}
use Rattle.fg_trace.specs.Trace.{Record}
use Rattle.fg_pick.specs.Laws.{FitsIsDecided}
use Rattle.fg_pick.specs.Picked.{Fits, IsOnFlow, PicksPort, PicksSource}
use Rattle.fg_pick.specs.Ports.{IsPortOf}

abbrev pub Decided : Type 0 → Type 0
Decided A = A ⊎ (¬ A)

both : {A B : Type 0} → Decided A → Decided B → Decided (A × B)
both (inl a) (inl b) = inl (a, b)
both (inl a) (inr never) = inr (λ x. never x.1)
both (inr never) b = inr (λ x. never x.0)

neither : {A B : Type 0} → (¬ A) → (¬ B) → ¬ (A ⊎ B)
neither never not (inl a) = never a
neither never not (inr b) = not b

either : {A B : Type 0} → Decided A → Decided B → Decided (A ⊎ B)
either (inl a) b = inl (inl a)
either (inr never) (inl b) = inl (inr b)
either (inr never) (inr not) = inr (neither never not)

negated : {A : Type 0} → Decided A → Decided (¬ A)
negated (inl a) = inr (λ never. never a)
negated (inr never) = inl never

same : {A B : Type 0} → (A → B) → (B → A) → Decided A → Decided B
same to back (inl a) = inl (to a)
same to back (inr never) = inr (λ b. never (back b))

-- Numbers and lists

at_most : (m n : ℕ) → Decided (m ≤ n)
at_most m n = elim (cases_lt n m) as (λ _. Decided (m ≤ n)) [ inl past ↦ inr (λ h. absurd (omega (arith, past, h))) | inr within ↦ inl within ]

below : (m n : ℕ) → Decided (m < n)
below m n = elim (cases_lt m n) as (λ _. Decided (m < n)) [ inl less ↦ inl less | inr never ↦ inr (λ h. absurd (omega (arith, never, h))) ]

equal : (m n : ℕ) → Decided (m ≡ n)
equal m n = cases_eq m n

empty : (xs : List ℕ) → Decided (xs ≡ [])
empty [] = inl refl
empty (x ∷ xs) = inr (λ e. absurd (cc))

pub contains_none : (x : ℕ) → ¬ Contains [] x
contains_none x h = absurd (omega (arith, h.1))

contains_first : (y : ℕ) (ys : List ℕ) (x : ℕ) → y ≡ x → Contains (y ∷ ys) x
contains_first y ys x e = subst (λ z. Contains (y ∷ ys) z) e (Contains-append_left (y ∷ []) ys y (Contains-push [] y))

contains_to : (y : ℕ) (ys : List ℕ) (x : ℕ) → (y ≡ x) ⊎ Contains ys x → Contains (y ∷ ys) x
contains_to y ys x (inl e) = contains_first y ys x e
contains_to y ys x (inr h) = Contains-append_right (y ∷ []) ys x h

contains_only : (y x : ℕ) → Contains (y ∷ []) x → y ≡ x
contains_only y x h = elim (Contains-push_cases [] y x h) as (λ _. y ≡ x) [ inl none ↦ absurd (contains_none x none) | inr e ↦ e ]

contains_back : (y : ℕ) (ys : List ℕ) (x : ℕ) → Contains (y ∷ ys) x → (y ≡ x) ⊎ Contains ys x
contains_back y ys x h = elim (Contains-append_cases (y ∷ []) ys x h) as (λ _. (y ≡ x) ⊎ Contains ys x) [ inl one ↦ inl (contains_only y x one) | inr more ↦ inr more ]

contains : (xs : List ℕ) (x : ℕ) → Decided (Contains xs x)
contains [] x = inr (contains_none x)
contains (y ∷ ys) x = same (contains_to y ys x) (contains_back y ys x) (either (equal y x) (contains ys x))

-- Ports

kinds_to : (flow port : ℕ) → (flow ≡ port) ⊎ ((flow + 2 ≡ port) ⊎ (flow + 4 ≡ port)) → IsPortOf flow port
kinds_to flow port (inl e) = (kind.Media, e)
kinds_to flow port (inr (inl e)) = (kind.Column, e)
kinds_to flow port (inr (inr e)) = (kind.Row, e)

kinds_at : (flow port : ℕ) (k : Kind) → port_of flow k ≡ port → (flow ≡ port) ⊎ ((flow + 2 ≡ port) ⊎ (flow + 4 ≡ port))
kinds_at flow port kind.Media e = inl e
kinds_at flow port kind.Column e = inr (inl e)
kinds_at flow port kind.Row e = inr (inr e)

pub kinds_back : (flow port : ℕ) → IsPortOf flow port → (flow ≡ port) ⊎ ((flow + 2 ≡ port) ⊎ (flow + 4 ≡ port))
kinds_back flow port h = kinds_at flow port h.0 h.1

port_of_flow : (flow port : ℕ) → Decided (IsPortOf flow port)
port_of_flow flow port = same (kinds_to flow port) (kinds_back flow port) (either (equal flow port) (either (equal (flow + 2) port) (equal (flow + 4) port)))

flow_to : (f : ℕ) (fs : List ℕ) (port : ℕ) → IsPortOf f port ⊎ IsOnFlow fs port → IsOnFlow (f ∷ fs) port
flow_to f fs port (inl h) = record { flow = f; named = contains_first f fs f refl; kind = h.0; is = h.1 }
flow_to f fs port (inr h) = record { flow = h.flow; named = contains_to f fs h.flow (inr h.named); kind = h.kind; is = h.is }

flow_back : (f : ℕ) (fs : List ℕ) (port : ℕ) → IsOnFlow (f ∷ fs) port → IsPortOf f port ⊎ IsOnFlow fs port
flow_back f fs port h = elim (contains_back f fs h.flow h.named) as (λ _. IsPortOf f port ⊎ IsOnFlow fs port) [
  | inl e ↦ inl (h.kind, subst (λ g. port_of g h.kind ≡ port) (sym e) h.is)
  | inr more ↦ inr (record { flow = h.flow; named = more; kind = h.kind; is = h.is })
]

on_flow : (flows : List ℕ) (port : ℕ) → Decided (IsOnFlow flows port)
on_flow [] port = inr (λ h. contains_none h.flow h.named)
on_flow (f ∷ fs) port = same (flow_to f fs port) (flow_back f fs port) (either (port_of_flow f port) (on_flow fs port))

picks_port : (selection : Selection) (port : ℕ) → Decided (PicksPort selection port)
picks_port selection port =
    either (both (empty selection.flows) (empty selection.ports)) (either (on_flow selection.flows port) (contains selection.ports port))

-- Sources

source_to : (selection : Selection) (ssrc : ℕ) → ((selection.sources ≡ []) ⊎ Contains selection.sources ssrc) × (¬ Contains selection.without ssrc) → PicksSource selection ssrc
source_to selection ssrc h = record { left = h.0; kept = h.1 }

source_back : (selection : Selection) (ssrc : ℕ) → PicksSource selection ssrc → ((selection.sources ≡ []) ⊎ Contains selection.sources ssrc) × (¬ Contains selection.without ssrc)
source_back selection ssrc h = (h.left, h.kept)

picks_source : (selection : Selection) (ssrc : ℕ) → Decided (PicksSource selection ssrc)
picks_source selection ssrc =
    same (source_to selection ssrc) (source_back selection ssrc)
    (both (either (empty selection.sources) (contains selection.sources ssrc)) (negated (contains selection.without ssrc)))

-- what is said of the source of a media datagram
abbrev pub HasPickedSource : Selection → List ℕ → Type 0
HasPickedSource selection bytes = (seq ssrc : ℕ) (word : Word) → IsMediaDatagram bytes seq ssrc word → PicksSource selection ssrc

pub its_source : ReadsOneWay → (selection : Selection) (bytes : List ℕ) (seq ssrc : ℕ) (word : Word) → IsMediaDatagram bytes seq ssrc word → PicksSource selection ssrc → HasPickedSource selection bytes
its_source one selection bytes seq ssrc word is h = λ seq' ssrc' word' other.
    subst (λ s. PicksSource selection s) (one bytes seq ssrc seq' ssrc' word word' is other).1 h

picked_source : MediaIsDecided → ReadsOneWay → (selection : Selection) (bytes : List ℕ) → Decided (HasPickedSource selection bytes)
picked_source media one selection bytes = elim (media bytes) as (λ _. Decided (HasPickedSource selection bytes)) [
  | inl d ↦ same (its_source one selection bytes d.0 d.1 d.2 d.3) (λ h. h d.0 d.1 d.2 d.3) (picks_source selection d.1)
  | inr none ↦ inl (λ seq ssrc word is. absurd (none seq ssrc word is))
]

-- Times

before_end : (until : Option ℕ) (time : ℕ) → Decided (IfSome until (λ end. time < end))
before_end None time = inl tt
before_end (Some end) time = below time end

-- Records

abbrev Parts : Selection → Record → Type 0
Parts selection r =
    PicksPort selection r.port × (HasPickedSource selection r.datagram × ((selection.from ≤ r.time) × IfSome selection.until (λ end. r.time < end)))

fits_to : (selection : Selection) (r : Record) → Parts selection r → Fits selection r
fits_to selection r h = record { port = h.0; source = h.1.0; from = h.1.1.0; until = h.1.1.1 }

fits_back : (selection : Selection) (r : Record) → Fits selection r → Parts selection r
fits_back selection r h = (h.port, (h.source, (h.from, h.until)))

pub fits_is_decided : MediaIsDecided → ReadsOneWay → FitsIsDecided
fits_is_decided media one selection r =
    same (fits_to selection r) (fits_back selection r)
    (both (picks_port selection r.port)
    (both (picked_source media one selection r.datagram) (both (at_most selection.from r.time) (before_end selection.until r.time))))
