-- What stays of the rule's parts when one view is replaced, or one is added.
use Rattle.std.proofs.Common.{◌≡◌, ℕ, zero, suc, ◌+◌, ◌<◌, ◌≤◌, ◌≢◌, inl, inr, true, List, [], ◌∷◌, ◌++◌, set, sym, refl, ap, ◌∙◌, subst, ⊎_elim, arith}
use Rattle.std.specs.Prelude.{Option}
use mathlib.Core.List.{IsPrefix, append-nil, append_assoc}
use mathlib.Core.Option.{none, some, some-injective, some-ne-none}
use mathlib.Core.Option as maybe
use lib.ListN.{get_elem?}
use Rattle.atomic_table.proofs.Lists.{at_set, at_snoc, set_else, at_longer}
use Rattle.fg_turn.specs.declared.view.View.{View}
use Rattle.fg_turn.specs.declared.view.Place.{Place}
use Rattle.fg_turn.specs.declared.view.Place.TheVariants.{Unopened, Spent, Outside, Waiting, Inside}
use Rattle.fg_turn.specs.Rule.{drawn_at, live_at, HasTicket, InLine, HasTurn, ticket_at, Lies, Apart}
use Rattle.fg_turn.proofs.Views.{same_view, each_set, each_snoc}

-- list prefixes
pub prefix_refl : {A : Type 0} (xs : List A) → IsPrefix xs xs
prefix_refl xs = ([], append-nil xs)

pub prefix_more : {A : Type 0} (xs ys zs : List A) → IsPrefix xs ys → IsPrefix xs (ys ++ zs)
prefix_more xs ys zs p = (p.0 ++ zs, sym (append_assoc xs p.0 zs) ∙ ap (λ w. w ++ zs) p.1)

pub prefix_nil : {A : Type 0} (xs : List A) → IsPrefix [] xs
prefix_nil xs = (xs, refl)

-- places
pub ticket_before : (serving next t : ℕ) (p : Place) → InLine serving next p → HasTicket t p → t < next
ticket_before serving next t Unopened l h = absurd l
ticket_before serving next t Spent l h = absurd h
ticket_before serving next t Outside l h = absurd h
ticket_before serving next t (Waiting u) l h = let e : u ≡ t = h in let k = l.1 in omega arith
ticket_before serving next t (Inside u) l h = let e : u ≡ t = h in let k = l.1 in omega arith

pub line_grows : (serving next : ℕ) (p : Place) → InLine serving next p → InLine serving (next + 1) p
line_grows serving next Unopened l = l
line_grows serving next Spent l = l
line_grows serving next Outside l = l
line_grows serving next (Waiting u) l = let k = l.1 in (l.0, omega arith)
line_grows serving next (Inside u) l = let k = l.1 in (l.0, omega arith)

-- who does not have the ticket that was served is in line for the next
pub line_moves : (serving next : ℕ) (p : Place) → InLine serving next p → ¬ HasTicket serving p → InLine (serving + 1) next p
line_moves serving next Unopened l never = l
line_moves serving next Spent l never = l
line_moves serving next Outside l never = l
line_moves serving next (Waiting u) l never = let k = l.0 in let ne : u ≢ serving = never in (grind (arith, k, ne), l.1)
line_moves serving next (Inside u) l never = absurd (never l.0)

pub turn_has_ticket : (serving next : ℕ) (p : Place) → InLine serving next p → HasTurn p → HasTicket serving p
turn_has_ticket serving next Unopened l h = absurd h
turn_has_ticket serving next Spent l h = absurd h
turn_has_ticket serving next Outside l h = absurd h
turn_has_ticket serving next (Waiting u) l h = absurd h
turn_has_ticket serving next (Inside u) l h = l.0

pub served_ticket : (serving next : ℕ) (p : Place) → InLine serving next p → HasTurn p → ticket_at p ≡ serving
served_ticket serving next Unopened l h = absurd h
served_ticket serving next Spent l h = absurd h
served_ticket serving next Outside l h = absurd h
served_ticket serving next (Waiting u) l h = absurd h
served_ticket serving next (Inside u) l h = l.0

pub no_turn_outside : (p : Place) → p ≡ Outside → ¬ HasTurn p
no_turn_outside p e h = subst HasTurn e h

pub drawn_below_live : (p : Place) → drawn_at p ≤ live_at p
drawn_below_live Unopened = omega arith
drawn_below_live Spent = omega arith
drawn_below_live Outside = omega arith
drawn_below_live (Waiting u) = omega arith
drawn_below_live (Inside u) = omega arith

module _ {S : Type 0} where
  -- tickets stay apart where nobody else has the new view's
  pub apart_set : (views : List (View S)) (i : ℕ) (w : View S) → Apart views
      → ((j t : ℕ) (u : View S) → j ≢ i → get_elem? views j ≡ some u → HasTicket t w.place → HasTicket t u.place → ⊥) → Apart (set views i w)
  apart_set views i w apart alone a b t x y at_a at_b has_a has_b = ⊎_elim
      (λ ta. ⊎_elim
      (λ tb. ta.0 ∙ sym tb.0)
      (λ tb. absurd (alone b t y tb.0 tb.1 (subst (λ (n : View S). HasTicket t n.place) (sym ta.1) has_a) has_b))
      (at_set views i b w y at_b))
      (λ ta. ⊎_elim
      (λ tb. absurd (alone a t x ta.0 ta.1 (subst (λ (n : View S). HasTicket t n.place) (sym tb.1) has_b) has_a))
      (λ tb. apart a b t x y ta.1 tb.1 has_a has_b)
      (at_set views i b w y at_b))
      (at_set views i a w x at_a)

  pub apart_snoc : (views : List (View S)) (w : View S) → Apart views → ((t : ℕ) → ¬ HasTicket t w.place) → Apart (views ++ w ∷ [])
  apart_snoc views w apart never a b t x y at_a at_b has_a has_b = ⊎_elim
      (λ ta. ⊎_elim (λ tb. apart a b t x y ta tb has_a has_b) (λ (e : w ≡ y). absurd (never t (subst (λ (n : View S). HasTicket t n.place) (sym e) has_b))) (at_snoc views w y b at_b))
      (λ (e : w ≡ x). absurd (never t (subst (λ (n : View S). HasTicket t n.place) (sym e) has_a)))
      (at_snoc views w x a at_a)

  abbrev pub Held : List (View S) → Type 0
  Held views = (o : View S) × (get_elem? views 0 ≡ some o) × (o.owns ≡ true)

  pub held_set : (views : List (View S)) (i : ℕ) (v w : View S) → get_elem? views i ≡ some v → w.owns ≡ v.owns → Held views → Held (set views i w)
  held_set [] i v w at owns held = absurd (some-ne-none v (sym at))
  held_set (x ∷ xs) zero v w at owns held = (w, refl, owns ∙ (ap (λ (n : View S). n.owns) (some-injective v held.0 (sym at ∙ held.1)) ∙ held.2))
  held_set (x ∷ xs) (suc i) v w at owns held = held

  pub held_snoc : (views : List (View S)) (w : View S) → Held views → Held (views ++ w ∷ [])
  held_snoc views w held = (held.0, at_longer views (w ∷ []) 0 held.0 held.1, held.2)

  -- the state lies where it lay, where the view replaced had no turn and the new one has none
  pub lies_set : (homes : List (maybe.Option (Option S))) (views : List (View S)) (here : S) (i : ℕ) (v w : View S) → get_elem? views i ≡ some v → ¬ HasTurn v.place → ¬ HasTurn w.place
      → Lies homes views here → Lies homes (set views i w) here
  lies_set homes views here i v w at never never' = ⊎_elim
      (λ h. inl (h.0, each_set (λ j (u : View S). ¬ HasTurn u.place) views i w never' (λ j u ne at_u. h.1 j u at_u)))
      (λ h. inr (h.0, (h.1.0, h.1.1, set_else views i h.1.0 w (λ e. never (subst (λ (n : View S). HasTurn n.place) (same_view views h.1.0 i h.1.1 v h.1.2 at e) h.1.3)) ∙ h.1.2, h.1.3, h.1.4)))

  pub lies_snoc : (homes : List (maybe.Option (Option S))) (views : List (View S)) (here : S) (w : View S) → ¬ HasTurn w.place → Lies homes views here → Lies homes (views ++ w ∷ []) here
  lies_snoc homes views here w never = ⊎_elim
      (λ h. inl (h.0, each_snoc (λ j (u : View S). ¬ HasTurn u.place) views w (λ j. never) h.1))
      (λ h. inr (h.0, (h.1.0, h.1.1, at_longer views (w ∷ []) h.1.0 h.1.1 h.1.2, h.1.3, h.1.4)))
