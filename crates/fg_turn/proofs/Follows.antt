-- What follows from the rule.
use Rattle.std.proofs.Common.{◌≡◌, ℕ, ◌+◌, ◌%◌, ◌^◌, ◌<◌, ◌≤◌, List, sym, ap, ◌∙◌, subst, ⊎_elim, arith}
use mathlib.Core.List.{IsPrefix}
use mathlib.Core.Option.{some}
use lib.ListN.{get_elem?}
use Rattle.std.proofs.Math.Nat.{mod-add-mod}
use Rattle.std.specs.Prelude.{Option, slice_index}
use Rattle.std.specs.List.{sum_by}
use Rattle.fg_turn.specs.Entries.{Entry}
use Rattle.fg_turn.specs.declared.view.View.{View}
use Rattle.fg_turn.specs.Rule.{drawn, live, Kept}
use Rattle.fg_turn.specs.Laws.{TicketsCount, FewTickets, TicketsApart, NumbersApart, OneTurn, TurnIsServed, SeesABeginning, TurnSeesAll, Guards, HomeState, EnteredState}
use Rattle.fg_turn.proofs.Views.{same_view, sum_below}
use Rattle.fg_turn.proofs.Changes.{drawn_below_live, turn_has_ticket, served_ticket}

module _ {S : Type 0} (owner grows : List Entry → S → Type 0) where
  pub tickets_count : TicketsCount owner grows
  tickets_count s k =
      let n : ℕ = sum_by drawn s.views in
      ap (λ ws. slice_index ws 0) k.words
      ∙ (ap (λ (x : ℕ). x % 2 ^ 64) (sym k.tickets) ∙ (sym (mod-add-mod k.serving (2 ^ 64) n) ∙ ap (λ (x : ℕ). (x + n) % 2 ^ 64) (sym (ap (λ ws. slice_index ws 1) k.words))))

  pub few_tickets : FewTickets owner grows
  few_tickets s k =
      let many : sum_by drawn s.views ≤ sum_by live s.views = sum_below drawn live s.views (λ v. drawn_below_live v.place) in
      let seats : sum_by live s.views ≡ k.out + 1 = k.seats in
      let few : k.out + 1 < 65536 = k.few in
      omega arith

  pub tickets_apart : TicketsApart owner grows
  tickets_apart s k = k.apart

  pub numbers_apart : NumbersApart owner grows
  numbers_apart s k i j v w at at' lives lives' same = sym ((k.each i v at).numbered lives) ∙ (same ∙ (k.each j w at').numbered lives')

  pub one_turn : OneTurn owner grows
  one_turn s k i j v w at at' turn turn' =
      k.apart i j k.serving v w at at' (turn_has_ticket k.serving k.next v.place (k.each i v at).waits turn) (turn_has_ticket k.serving k.next w.place (k.each j w at').waits turn')

  pub turn_is_served : TurnIsServed owner grows
  turn_is_served s k j v at turn = ap (λ ws. slice_index ws 1) k.words ∙ ap (λ (x : ℕ). x % 2 ^ 64) (sym (served_ticket k.serving k.next v.place (k.each j v at).waits turn))

  -- the first view is the owner's, which has seen all
  owner_sees : (s : Rattle.atomic_table.specs.Table.State (Option S) (View S)) (k : Kept owner grows s) (o : View S) → get_elem? s.views 0 ≡ some o → o.calls ≡ k.calls
  owner_sees s k o at = ((k.each 0 o at).owner (ap (λ (n : View S). n.owns) (same_view s.views 0 0 o k.held.0 at k.held.1 (λ _. 0)) ∙ k.held.2)).all

  pub sees_a_beginning : SeesABeginning owner grows
  sees_a_beginning s k o first j v at = subst (λ (c : List Entry). IsPrefix v.calls c) (sym (owner_sees s k o first)) (k.each j v at).seen

  pub turn_sees_all : TurnSeesAll owner grows
  turn_sees_all s k o first j v at turn = (k.each j v at).all turn ∙ sym (owner_sees s k o first)

  guards : (s : Rattle.atomic_table.specs.Table.State (Option S) (View S)) (k : Kept owner grows s) → Guards owner grows s.views k.here
  guards s k = (
    λ v at. subst (λ (c : List Entry). owner c k.here) (sym (owner_sees s k v at)) k.meets,
    λ j v at. (k.each j v at).grown,
  )

  pub home_state : HomeState owner grows
  home_state s k none_inside = ⊎_elim
      (λ h. (k.here, h.0, guards s k))
      (λ h. absurd (none_inside h.1.0 h.1.1 h.1.2 h.1.3))
      k.lies

  pub entered_state : EnteredState owner grows
  entered_state s k j v at turn = ⊎_elim
      (λ h. absurd (h.1 j v at turn))
      (λ h. (k.here, ap (λ (n : View S). n.entered) (same_view s.views j h.1.0 v h.1.1 at h.1.2 (one_turn s k j h.1.0 v h.1.1 at h.1.2 turn h.1.3)) ∙ h.1.4, guards s k))
      k.lies
