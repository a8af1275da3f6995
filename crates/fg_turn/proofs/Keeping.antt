-- Each kind of step keeps the rule of the turn's table.
use Rattle.std.proofs.Common.{◌≡◌, ℕ, zero, suc, ◌+◌, ◌-◌, ◌%◌, ◌^◌, ◌<◌, ◌≤◌, ◌≢◌, ◌⊎◌, inl, inr, Bool, true, false, List, [], ◌∷◌, ◌++◌, set, length, length-set, length-append, sym, refl, ap, ◌∙◌, subst, ⊎_elim, arith}
use Rattle.std.proofs.Math.Nat.{mod-add-mod}
use Rattle.std.specs.Prelude.{Option, Some, None, slice_index, slice_set}
use Rattle.std.specs.List.{sum_by}
use Rattle.std.proofs.lemmas.List.Sums.{sum_by-cons, sum_by-append}
use mathlib.Core.List.{IsPrefix, append-nil}
use mathlib.Core.Option.{none, some, some-injective, some-ne-none}
use mathlib.Core.Logic.{dite}
use native.Mathlib.Decide.{ℕ_discrete}
use lib.ListN.{get_elem?}
use Rattle.atomic_table.specs.Table.{State, Allows, Splits, Joins, Seen, Final, keeps, takes, gives, stepped, opening, put_back, rest}
use Rattle.atomic_table.proofs.Lists.{set_else, set_again, one_turn}
use Rattle.fg_turn.specs.Entries.{Entry}
use Rattle.fg_turn.specs.declared.view.View.{View}
use Rattle.fg_turn.specs.declared.view.Place.{Place}
use Rattle.fg_turn.specs.declared.view.Place.TheVariants.{Unopened, Spent, Outside, Waiting, Inside}
use Rattle.fg_turn.specs.Rule.{drawn_at, live_at, HasTicket, InLine, HasTurn, ticket_at, drawn, live, Fits, Kept, Ruled, unopened, splitting, newcomer, joining, spent}
use Rattle.fg_turn.specs.Plays.{Knows, opening_with, opened, waiting, drew, entering, Has, looked, carried, leaving, served, counted}
use Rattle.fg_turn.specs.Inside.{is_inside, BetweenCalls}
use Rattle.fg_turn.proofs.Views.{same_view, set_at, sum_set, sum_has_two, sum_below, each_set, each_last}
use Rattle.fg_turn.proofs.Changes.{prefix_refl, prefix_more, prefix_nil, ticket_before, line_grows, line_moves, turn_has_ticket, no_turn_outside, drawn_below_live, apart_set, apart_snoc, held_set, held_snoc, lies_set, lies_snoc}

abbrev pub IsOpen : Place → Type 0
IsOpen Unopened = ⊥
IsOpen Spent = Unit {0}
IsOpen Outside = Unit {0}
IsOpen (Waiting t) = Unit {0}
IsOpen (Inside t) = Unit {0}

only : {A : Type 0} (a b : A) (i : ℕ) → get_elem? (a ∷ []) i ≡ some b → (i ≡ 0) × (a ≡ b)
only a b zero at = (refl, some-injective a b at)
only a b (suc i) at = absurd (some-ne-none b (sym at))

turn_lives : (p : Place) → HasTurn p → live_at p ≡ 1
turn_lives Unopened h = absurd h
turn_lives Spent h = absurd h
turn_lives Outside h = absurd h
turn_lives (Waiting u) h = absurd h
turn_lives (Inside u) h = refl

abbrev unwrap_else : {A : Type 0} → A → Option A → A
unwrap_else d None = d
unwrap_else d (Some x) = x

abbrev IsNot : Bool → Type 0
IsNot true = ⊥
IsNot false = Unit {0}

not_true : ¬ (false ≡ true)
not_true e = subst IsNot e tt

not_spent : (n : ℕ) → n ≡ 0 → n ≡ 1 → ⊥
not_spent n a b = absurd (omega arith)

unwrap_same : {A : Type 0} (a b : A) → Some a ≡ Some b → a ≡ b
unwrap_same a b e = ap (unwrap_else a) e

module _ {S : Type 0} (owner grows : List Entry → S → Type 0) where
  kept_of : (first : S) (s : State (Option S) (View S)) → Ruled owner grows first s → (id : ℕ) (v : View S) → get_elem? s.views id ≡ some v → IsOpen v.place → Kept owner grows s
  kept_of first s ruled id v at is_open = ⊎_elim
      (λ e. absurd (subst IsOpen (sym (ap (λ (n : View S). n.place) (only unopened v id (sym (ap (λ (z : State (Option S) (View S)). get_elem? z.views id) e) ∙ at)).1)) is_open))
      (λ k. k)
      ruled

  pub draws : (first : S) (n : ℕ) (id : ℕ) (m : Knows S) → m.0.place ≡ Outside → Allows (Ruled owner grows first) n id m 0 (λ x. (x + 1) % 2 ^ 64) (drew m)
  draws first n id m at s ruled long here below =
      let v : View S = m.0 in
      let k = kept_of first s ruled id v here (subst IsOpen (sym at) tt) in
      let next : ℕ = k.next in let serving : ℕ = k.serving in
      let w : View S = waiting next v in
      let f = k.each id v here in
      let d : sum_by drawn (set s.views id w) + drawn v ≡ sum_by drawn s.views + 1 = sum_set drawn s.views id v w here in
      let d0 : drawn v ≡ 0 = ap drawn_at at in
      let l : sum_by live (set s.views id w) + live v ≡ sum_by live s.views + 1 = sum_set live s.views id v w here in
      let l1 : live v ≡ 1 = ap live_at at in
      let tk : serving + sum_by drawn s.views ≡ next = k.tickets in (
        w,
        keeps,
        tt,
        inr record {
          next = next + 1;
          serving = serving;
          calls = k.calls;
          out = k.out;
          seated = k.seated;
          here = k.here;
          words = ap (λ ws. slice_set ws 0 ((slice_index ws 0 + 1) % 2 ^ 64)) k.words ∙ ap (λ (x : ℕ). x ∷ serving % 2 ^ 64 ∷ []) (mod-add-mod next (2 ^ 64) 1);
          tickets = omega arith;
          seats = (let q = k.seats in omega arith);
          few = k.few;
          many = length-set s.views id w ∙ k.many;
          apart = apart_set s.views id w k.apart (λ j t u ne at_u has has'. let e : next ≡ t = has in let b = ticket_before serving next t u.place (k.each j u at_u).waits has' in omega arith);
          held = held_set s.views id v w here refl k.held;
          each = each_set (Fits grows (next + 1) serving k.calls k.out k.seated k.here) s.views id w
              record {
                owner = λ o. let io = f.owner o in record { first = io.first; all = io.all; counts = io.counts; seats = io.seats; lives = refl };
                numbered = λ _. f.numbered l1;
                seen = f.seen;
                all = λ h. absurd h;
                waits = (omega arith, omega arith);
                grown = f.grown;
              }
              (λ j u ne at_u. let g = k.each j u at_u in record { owner = g.owner; numbered = g.numbered; seen = g.seen; all = g.all; waits = line_grows serving next u.place g.waits; grown = g.grown });
          lies = lies_set s.homes s.views k.here id v w here (no_turn_outside v.place at) (λ h. h) k.lies;
          meets = k.meets;
        },
        (next, ap (λ ws. slice_index ws 0) k.words, refl),
      )

  stays_same : (s : State (Option S) (View S)) (i a b : ℕ) (id : ℕ) (v : View S) (held : List (ℕ × Option S)) → i < 2 → s.words ≡ a ∷ b ∷ [] → get_elem? s.views id ≡ some v
      → stepped s i (slice_index s.words i) id held v keeps ≡ s
  stays_same s i a b id v held near words here =
      let ws : slice_set s.words i (slice_index s.words i) ≡ s.words = subst (λ (z : List ℕ). slice_set z i (slice_index z i) ≡ z) (sym words) (same_word i near) in
      let vs : set s.views id v ≡ s.views = set_again s.views id v here in
      λ z. record { words = ws z; homes = s.homes; views = vs z }
    where
      same_word : (i : ℕ) → i < 2 → slice_set (a ∷ b ∷ []) i (slice_index (a ∷ b ∷ []) i) ≡ a ∷ b ∷ []
      same_word zero lt = refl
      same_word (suc zero) lt = refl
      same_word (suc (suc i)) lt = absurd (omega arith)

  -- a seat that waits, and sees its own ticket served, has the turn
  takes_turn : (first : S) (n : ℕ) (id : ℕ) (m : Knows S) (t : ℕ) (s : State (Option S) (View S)) → m.0.place ≡ Waiting t → (k : Kept owner grows s) → get_elem? s.views id ≡ some m.0
      → slice_index s.words 1 ≡ ticket_at m.0.place % 2 ^ 64
      → (get_elem? s.homes 0 ≡ some (some (Some k.here))) × Ruled owner grows first (stepped s 1 (slice_index s.words 1) id m.1 (entering k.calls k.here m.0) (takes 0 (Some k.here)))
  takes_turn first n id m t s at k here e =
      let v : View S = m.0 in
      let next : ℕ = k.next in let serving : ℕ = k.serving in
      let w : View S = entering k.calls k.here v in
      let f = k.each id v here in
      let own : ticket_at v.place ≡ t = ap ticket_at at in
      let line : InLine serving next (Waiting t) = subst (InLine serving next) at f.waits in
      let many : sum_by drawn s.views ≤ sum_by live s.views = sum_below drawn live s.views (λ u. drawn_below_live u.place) in
      let tk : serving + sum_by drawn s.views ≡ next = k.tickets in
      let sts : sum_by live s.views ≡ k.out + 1 = k.seats in
      let few : k.out + 1 < 65536 = k.few in
      let lo : serving ≤ t = line.0 in let hi : t < next = line.1 in
      let is : serving ≡ t = one_turn serving t (2 ^ 64) lo (omega arith) (sym (ap (λ ws. slice_index ws 1) k.words) ∙ (e ∙ ap (λ (x : ℕ). x % 2 ^ 64) own)) in
      let has : HasTicket serving v.place = subst (HasTicket serving) (sym at) (sym is) in
      let free : (s.homes ≡ some (Some k.here) ∷ []) × ((j : ℕ) (u : View S) → get_elem? s.views j ≡ some u → ¬ HasTurn u.place) = ⊎_elim
      (λ h. h)
      (λ h. let u : View S = h.1.1 in let j : ℕ = h.1.0 in
      let same : v ≡ u = same_view s.views id j v u here h.1.2 (k.apart id j serving v u here h.1.2 has (turn_has_ticket serving next u.place (k.each j u h.1.2).waits h.1.3)) in
      absurd (subst HasTurn at (subst (λ (x : View S). HasTurn x.place) (sym same) h.1.3)))
      k.lies in
      let d : sum_by drawn (set s.views id w) + drawn v ≡ sum_by drawn s.views + 1 = sum_set drawn s.views id v w here in
      let d1 : drawn v ≡ 1 = ap drawn_at at in
      let l : sum_by live (set s.views id w) + live v ≡ sum_by live s.views + 1 = sum_set live s.views id v w here in
      let l1 : live v ≡ 1 = ap live_at at in (
        ap (λ hs. get_elem? hs 0) free.0,
        inr record {
          next = next;
          serving = serving;
          calls = k.calls;
          out = k.out;
          seated = k.seated;
          here = k.here;
          words = ap (λ ws. slice_set ws 1 (slice_index ws 1)) k.words;
          tickets = omega arith;
          seats = omega arith;
          few = k.few;
          many = length-set s.views id w ∙ k.many;
          apart = apart_set s.views id w k.apart (λ j x u ne at_u has_w has_u. ne (sym (k.apart id j x v u here at_u (subst (HasTicket x) (sym at) (sym own ∙ has_w)) has_u)));
          held = held_set s.views id v w here refl k.held;
          each = each_set (Fits grows next serving k.calls k.out k.seated k.here) s.views id w
              record {
                owner = λ o. let io = f.owner o in record { first = io.first; all = refl; counts = io.counts; seats = io.seats; lives = refl };
                numbered = λ _. f.numbered l1;
                seen = prefix_refl k.calls;
                all = λ _. refl;
                waits = (own ∙ sym is, omega arith);
                grown = f.grown;
              }
              (λ j u ne at_u. k.each j u at_u);
          lies = inr (ap (λ hs. slice_set hs 0 none) free.0, (id, w, set_at s.views id v w here, tt, refl));
          meets = k.meets;
        },
      )

  pub looks : (first : S) (n : ℕ) (id : ℕ) (m : Knows S) (t : ℕ) → m.0.place ≡ Waiting t → Allows (Ruled owner grows first) n id m 1 (λ x. x) (looked owner grows m)
  looks first n id m t at s ruled long here below =
      let v : View S = m.0 in
      let k = kept_of first s ruled id v here (subst IsOpen (sym at) tt) in
      let f = k.each id v here in
      dite (ℕ_discrete (slice_index s.words 1) (ticket_at v.place % 2 ^ 64))
      (λ e. let did = takes_turn first n id m t s at k here e in
      (entering k.calls k.here v, takes 0 (Some k.here), did.0, did.1, ((λ _. (k.calls, k.here, refl, f.seen, (λ o. sym (f.owner o).all), k.meets, f.grown)), (λ ne. absurd (ne e)))))
      (λ ne. (v, keeps, tt, subst (Ruled owner grows first) (sym (stays_same s 1 _ _ id v m.1 (omega arith) k.words here)) ruled, ((λ e. absurd (ne e)), (λ _. refl))))

  -- the turn ends with the state y, which follows the one entered, x
  pub serves : (first : S) (n : ℕ) (id : ℕ) (m : Knows S) (t : ℕ) (x y : S) (entry told : List Entry) → m.0.place ≡ Inside t → m.0.entered ≡ Some x → m.1 ≡ (0, Some y) ∷ []
      → ((entry ≡ []) ⊎ (m.0.owns ≡ true))
      → ((calls : List Entry) → owner calls x → owner (calls ++ entry) y)
      → ((calls old : List Entry) → owner calls x → grows old x → grows old y)
      → ((a b : List Entry) → grows a y → grows b y → grows (a ++ b) y) → grows told y
      → Allows (Ruled owner grows first) n id m 1 (λ z. (z + 1) % 2 ^ 64) (served entry told m)
  serves first n id m t x y entry told at entered holds_y may moves stays both new s ruled long here below =
      let v : View S = m.0 in
      let k = kept_of first s ruled id v here (subst IsOpen (sym at) tt) in
      let next : ℕ = k.next in let serving : ℕ = k.serving in
      let w : View S = leaving entry told (carried m.1) v in
      let f = k.each id v here in
      let line : InLine serving next (Inside t) = subst (InLine serving next) at f.waits in
      let has : HasTicket serving v.place = subst (HasTicket serving) (sym at) line.0 in
      let turn : HasTurn v.place = subst HasTurn (sym at) tt in
      let away : (s.homes ≡ none ∷ []) × (k.here ≡ x) = ⊎_elim
      (λ h. absurd (h.1 id v here turn))
      (λ h. let u : View S = h.1.1 in let j : ℕ = h.1.0 in
      let same : u ≡ v = same_view s.views j id u v h.1.2 here (k.apart j id serving u v h.1.2 here (turn_has_ticket serving next u.place (k.each j u h.1.2).waits h.1.3) has) in
      (h.0, unwrap_same k.here x (sym h.1.4 ∙ (ap (λ (z : View S). z.entered) same ∙ entered))))
      k.lies in
      let owned : owner k.calls x = subst (owner k.calls) away.1 k.meets in
      let d : sum_by drawn (set s.views id w) + drawn v ≡ sum_by drawn s.views + 0 = sum_set drawn s.views id v w here in
      let d1 : drawn v ≡ 1 = ap drawn_at at in
      let l : sum_by live (set s.views id w) + live v ≡ sum_by live s.views + 1 = sum_set live s.views id v w here in
      let l1 : live v ≡ 1 = ap live_at at in
      let tk : serving + sum_by drawn s.views ≡ next = k.tickets in
      let sts : sum_by live s.views ≡ k.out + 1 = k.seats in
      let alone : (j : ℕ) (u : View S) → j ≢ id → get_elem? s.views j ≡ some u → ¬ HasTurn u.place =
      λ j u ne at_u turn_u. ne (sym (k.apart id j serving v u here at_u has (turn_has_ticket serving next u.place (k.each j u at_u).waits turn_u))) in
      let kept_told : (old : List Entry) → grows old k.here → grows old y = λ old g. stays k.calls old owned (subst (grows old) away.1 g) in (
        w,
        gives,
        tt,
        inr record {
          next = next;
          serving = serving + 1;
          calls = k.calls ++ entry;
          out = k.out;
          seated = k.seated;
          here = y;
          words = ap (λ ws. slice_set ws 1 ((slice_index ws 1 + 1) % 2 ^ 64)) k.words ∙ ap (λ (z : ℕ). next % 2 ^ 64 ∷ z ∷ []) (mod-add-mod serving (2 ^ 64) 1);
          tickets = omega arith;
          seats = omega arith;
          few = k.few;
          many = length-set s.views id w ∙ k.many;
          apart = apart_set s.views id w k.apart (λ j z u ne at_u has_w has_u. has_w);
          held = held_set s.views id v w here refl k.held;
          each = each_set (Fits grows next (serving + 1) (k.calls ++ entry) k.out k.seated y) s.views id w
              record {
                owner = λ o. let io = f.owner o in record { first = io.first; all = ap (λ (z : List Entry). z ++ entry) io.all; counts = io.counts; seats = io.seats; lives = refl };
                numbered = λ _. f.numbered l1;
                all = λ h. absurd h;
                seen = ⊎_elim
                    (λ e. subst (λ (z : List Entry). IsPrefix (v.calls ++ z) (k.calls ++ entry)) (sym e) (subst (λ (z : List Entry). IsPrefix z (k.calls ++ entry)) (sym (append-nil v.calls)) (prefix_more v.calls k.calls entry f.seen)))
                    (λ o. subst (λ (z : List Entry). IsPrefix (z ++ entry) (k.calls ++ entry)) (sym (f.owner o).all) (prefix_refl (k.calls ++ entry)))
                    may;
                waits = tt;
                grown = both v.told told (kept_told v.told f.grown) new;
              }
              (λ j u ne at_u. let g = k.each j u at_u in record {
                owner = λ o. let io = g.owner o in record {
                  first = io.first;
                  all = io.all ∙ ⊎_elim (λ (e : entry ≡ []). sym (ap (λ (z : List Entry). k.calls ++ z) e ∙ append-nil k.calls)) (λ (own : v.owns ≡ true). absurd (ne (io.first ∙ sym (f.owner own).first))) may;
                  counts = io.counts;
                  seats = io.seats;
                  lives = io.lives;
                };
                numbered = g.numbered;
                all = λ turn_u. absurd (alone j u ne at_u turn_u);
                seen = prefix_more u.calls k.calls entry g.seen;
                waits = line_moves serving next u.place g.waits (λ has_u. ne (sym (k.apart id j serving v u here at_u has has_u)));
                grown = kept_told u.told g.grown;
              });
          lies = inl (
            subst (λ (c : List (ℕ × Option S)). put_back s.homes c ≡ some (Some y) ∷ []) (sym holds_y) (ap (λ hs. slice_set hs 0 (some (Some y))) away.0),
            each_set (λ j (u : View S). ¬ HasTurn u.place) s.views id w (λ h. h) alone,
          );
          meets = moves k.calls owned;
        },
        refl,
      )

  pub counts : (first : S) (n : ℕ) (id : ℕ) (m : Knows S) → m.0.owns ≡ true → m.0.place ≡ Outside → Allows (Ruled owner grows first) n id m 0 (λ x. x) (counted m)
  counts first n id m owns at s ruled long here below =
      let v : View S = m.0 in
      let k = kept_of first s ruled id v here (subst IsOpen (sym at) tt) in
      let c = ((k.each id v here).owner owns).counts in
      (v, keeps, tt, subst (Ruled owner grows first) (sym (stays_same s 0 _ _ id v m.1 (omega arith) k.words here)) ruled, (refl, omega arith))

  pub opens : (first : S) (n : ℕ) (id : ℕ) (m : Knows S) (calls : List Entry) → m.0 ≡ unopened → owner calls first → grows [] first → Allows (Ruled owner grows first) n id m 0 (λ x. x) (opened calls m)
  opens first n id m calls is meets grown s ruled long here below =
      let v : View S = m.0 in
      let w : View S = opening_with calls v in
      let o : View S = opening_with calls unopened in
      let e : s ≡ opening (0 ∷ 0 ∷ []) (Some first ∷ []) unopened = ⊎_elim (λ h. h) (λ (k : Kept owner grows s). absurd (subst (λ (z : View S). InLine k.serving k.next z.place) is (k.each id v here).waits)) ruled in
      let there = only unopened v id (sym (ap (λ (z : State (Option S) (View S)). get_elem? z.views id) e) ∙ here) in
      let ws : slice_set s.words 0 (slice_index s.words 0) ≡ 0 ∷ 0 ∷ [] = ap (λ (z : State (Option S) (View S)). slice_set z.words 0 (slice_index z.words 0)) e in
      let hs : s.homes ≡ some (Some first) ∷ [] = ap (λ (z : State (Option S) (View S)). z.homes) e in
      let vs : set s.views id w ≡ o ∷ [] = ap (λ (z : State (Option S) (View S)). set z.views id w) e ∙ (ap (λ (i : ℕ). set (unopened ∷ []) i w) there.0 ∙ ap (λ (z : View S). opening_with calls z ∷ []) is) in
      let base : Kept owner grows record { words = 0 ∷ 0 ∷ []; homes = some (Some first) ∷ []; views = o ∷ [] } = record {
        next = 0;
        serving = 0;
        calls = calls;
        out = 0;
        seated = 1;
        here = first;
        words = refl;
        tickets = sum_by-cons drawn o [];
        seats = sum_by-cons live o [];
        few = omega arith;
        many = refl;
        apart = λ i j t a b at_a at_b has_a has_b. absurd (subst (λ (z : View S). HasTicket t z.place) (sym (only o a i at_a).1) has_a);
        held = (o, refl, refl);
        each = λ j u at_u. let q = only o u j at_u in subst (Fits grows 0 0 calls 0 1 first j) q.1
            record { owner = λ _. record { first = q.0; all = refl; counts = refl; seats = refl; lives = refl }; numbered = λ _. sym q.0; seen = prefix_refl calls; all = λ _. refl; waits = tt; grown = grown };
        lies = inl (refl, λ j u at_u turn. subst (λ (z : View S). HasTurn z.place) (sym (only o u j at_u).1) turn);
        meets = meets;
      } in
      (w, keeps, tt, inr (subst (Kept owner grows) (λ z. record { words = sym ws z; homes = sym hs z; views = sym vs z }) base), refl)

  -- nobody but the first seat owns
  not_owner : (next serving : ℕ) (calls : List Entry) (out seated : ℕ) (x : S) (id j : ℕ) (v u : View S) → v.owns ≡ true → Fits grows next serving calls out seated x id v
      → Fits grows next serving calls out seated x j u → j ≢ id → u.owns ≡ true → ⊥
  not_owner next serving calls out seated x id j v u owns f g ne owns' = ne ((g.owner owns').first ∙ sym (f.owner owns).first)

  -- the owner, who is not inside, splits off a seat
  pub splits : (first : S) (id : ℕ) (v : View S) (made : ℕ) → v.owns ≡ true → v.place ≡ Outside → v.joined + made ≡ v.split → made + 2 < 65536
      → ((x : S) → grows [] x) → Splits (Ruled owner grows first) id v (splitting v) (newcomer v)
  splits first id v made owns at counted room untold s ruled here =
      let k = kept_of first s ruled id v here (subst IsOpen (sym at) tt) in
      let f = k.each id v here in let io = f.owner owns in
      let next : ℕ = k.next in let serving : ℕ = k.serving in
      let a : View S = splitting v in let b : View S = newcomer v in
      let vs : List (View S) = set s.views id a in
      let c : v.joined + k.out ≡ v.split = io.counts in
      let d : sum_by drawn vs + drawn v ≡ sum_by drawn s.views + drawn v = sum_set drawn s.views id v a here in
      let d' : sum_by drawn (vs ++ b ∷ []) ≡ sum_by drawn vs + sum_by drawn (b ∷ []) = sum_by-append drawn vs (b ∷ []) in
      let d'' : sum_by drawn (b ∷ []) ≡ 0 = sum_by-cons drawn b [] in
      let l : sum_by live vs + live v ≡ sum_by live s.views + live v = sum_set live s.views id v a here in
      let l' : sum_by live (vs ++ b ∷ []) ≡ sum_by live vs + sum_by live (b ∷ []) = sum_by-append live vs (b ∷ []) in
      let l'' : sum_by live (b ∷ []) ≡ 1 = sum_by-cons live b [] in
      let tk : serving + sum_by drawn s.views ≡ next = k.tickets in
      let sts : sum_by live s.views ≡ k.out + 1 = k.seats in
      let sp : v.split + 1 ≡ k.seated = io.seats in
      let numbered : v.split + 1 ≡ length vs = sp ∙ sym (length-set s.views id a ∙ k.many) in
      inr record {
        next = next;
        serving = serving;
        calls = k.calls;
        out = k.out + 1;
        seated = k.seated + 1;
        here = k.here;
        words = k.words;
        tickets = omega arith;
        seats = omega arith;
        few = omega arith;
        many = length-append vs (b ∷ []) ∙ ap (λ (n : ℕ). n + 1) (length-set s.views id a ∙ k.many);
        apart = apart_snoc vs b (apart_set s.views id a k.apart (λ j t u ne at_u has has'. subst (HasTicket t) at has)) (λ t has. has);
        held = held_snoc vs b (held_set s.views id v a here refl k.held);
        each = each_last (Fits grows next serving k.calls (k.out + 1) (k.seated + 1) k.here) vs b
            record { owner = λ e. absurd (not_true e); numbered = λ _. numbered; seen = f.seen; all = λ h. absurd h; waits = tt; grown = untold k.here }
            (each_set (Fits grows next serving k.calls (k.out + 1) (k.seated + 1) k.here) s.views id a
            record { owner = λ _. record { first = io.first; all = io.all; counts = omega arith; seats = omega arith; lives = io.lives }; numbered = f.numbered; seen = f.seen; all = f.all; waits = f.waits; grown = f.grown }
            (λ j u ne at_u. let g = k.each j u at_u in record {
              owner = λ o. absurd (not_owner next serving k.calls k.out k.seated k.here id j v u owns f g ne o);
              numbered = g.numbered;
              seen = g.seen;
              all = g.all;
              waits = g.waits;
              grown = g.grown;
            }));
        lies = lies_snoc s.homes vs k.here b (λ h. h) (lies_set s.homes s.views k.here id v a here (no_turn_outside v.place at) (no_turn_outside v.place at) k.lies);
        meets = k.meets;
      }

  -- the owner, who is not inside, takes back a seat that is not inside
  pub joins : (first : S) (id : ℕ) (v : View S) (other : ℕ) (w : View S) → v.owns ≡ true → v.place ≡ Outside → w.place ≡ Outside
      → ((x : S) → grows [] x) → Joins (Ruled owner grows first) id v other w (joining v) spent
  joins first id v other w owns at at' untold s ruled here away there =
      let k = kept_of first s ruled id v here (subst IsOpen (sym at) tt) in
      let f = k.each id v here in let io = f.owner owns in
      let next : ℕ = k.next in let serving : ℕ = k.serving in
      let a : View S = joining v in let z : View S = spent in
      let vs : List (View S) = set s.views id a in
      let there' : get_elem? s.views other ≡ some w = sym (set_else s.views id other a away) ∙ there in
      let c : v.joined + k.out ≡ v.split = io.counts in
      let d : sum_by drawn vs + drawn v ≡ sum_by drawn s.views + drawn v = sum_set drawn s.views id v a here in
      let d' : sum_by drawn (set vs other z) + drawn w ≡ sum_by drawn vs + 0 = sum_set drawn vs other w z there in
      let d0 : drawn w ≡ 0 = ap drawn_at at' in
      let l : sum_by live vs + live v ≡ sum_by live s.views + live v = sum_set live s.views id v a here in
      let l' : sum_by live (set vs other z) + live w ≡ sum_by live vs + 0 = sum_set live vs other w z there in
      let l1 : live w ≡ 1 = ap live_at at' in
      let v1 : live v ≡ 1 = io.lives in
      let two : live v + live w ≤ sum_by live s.views = sum_has_two live s.views id other v w (λ e. away (sym e)) here there' in
      let tk : serving + sum_by drawn s.views ≡ next = k.tickets in
      let sts : sum_by live s.views ≡ k.out + 1 = k.seats in
      let few : k.out + 1 < 65536 = k.few in
      inr record {
        next = next;
        serving = serving;
        calls = k.calls;
        out = k.out - 1;
        seated = k.seated;
        here = k.here;
        words = k.words;
        tickets = omega arith;
        seats = omega arith;
        few = omega arith;
        many = length-set vs other z ∙ (length-set s.views id a ∙ k.many);
        apart = apart_set vs other z (apart_set s.views id a k.apart (λ j t u ne at_u has has'. subst (HasTicket t) at has)) (λ j t u ne at_u has has'. has);
        held = (let h = held_set s.views id v a here refl k.held in (h.0, set_else vs other 0 z (λ e. away (sym e ∙ sym io.first)) ∙ h.1, h.2));
        each = each_set (Fits grows next serving k.calls (k.out - 1) k.seated k.here) vs other z
            record { owner = λ e. absurd (not_true e); numbered = λ e. absurd (not_spent (live z) refl e); seen = prefix_nil k.calls; all = λ h. absurd h; waits = tt; grown = untold k.here }
            (λ j u _ at_u. each_set (Fits grows next serving k.calls (k.out - 1) k.seated k.here) s.views id a
            record { owner = λ _. record { first = io.first; all = io.all; counts = omega arith; seats = io.seats; lives = io.lives }; numbered = f.numbered; seen = f.seen; all = f.all; waits = f.waits; grown = f.grown }
            (λ j u ne at_u. let g = k.each j u at_u in record {
              owner = λ o. absurd (not_owner next serving k.calls k.out k.seated k.here id j v u owns f g ne o);
              numbered = g.numbered;
              seen = g.seen;
              all = g.all;
              waits = g.waits;
              grown = g.grown;
            })
            j u at_u);
        lies = lies_set s.homes vs k.here other w z there (no_turn_outside w.place at') (λ h. h) (lies_set s.homes s.views k.here id v a here (no_turn_outside v.place at) (no_turn_outside v.place at) k.lies);
        meets = k.meets;
      }

  -- where no pass is out, the state is in its slot
  pub closes : (first : S) (id : ℕ) (v : View S) (s : State (Option S) (View S)) → v.owns ≡ true → v.place ≡ Outside → v.joined ≡ v.split → Seen (Ruled owner grows first) id v s
      → (x : S) × (s.homes ≡ some (Some x) ∷ []) × owner v.calls x × grows v.told x
  closes first id v s owns at none_out seen =
      let here = seen.1 in
      let k = kept_of first s seen.0 id v here (subst IsOpen (sym at) tt) in
      let f = k.each id v here in let io = f.owner owns in
      let c : v.joined + k.out ≡ v.split = io.counts in
      let sts : sum_by live s.views ≡ k.out + 1 = k.seats in
      let v1 : live v ≡ 1 = io.lives in
      let home : s.homes ≡ some (Some k.here) ∷ [] = ⊎_elim
      (λ h. h.0)
      (λ h. let u : View S = h.1.1 in let j : ℕ = h.1.0 in
      let u1 : live u ≡ 1 = turn_lives u.place h.1.3 in
      let ne : id ≢ j = λ e. no_turn_outside v.place at (subst (λ (x : View S). HasTurn x.place) (sym (same_view s.views id j v u here h.1.2 e)) h.1.3) in
      let two : live v + live u ≤ sum_by live s.views = sum_has_two live s.views id j v u ne here h.1.2 in
      absurd (omega arith))
      k.lies in
      (k.here, home, subst (λ (c : List Entry). owner c k.here) (sym io.all) k.meets, f.grown)

  -- what lies in the slot of a closed table
  pub closed_with : (first : S) (id : ℕ) (v : View S) (ws : List ℕ) (xs : List (Option S)) (found : Option S) → v.owns ≡ true → v.place ≡ Outside → v.joined ≡ v.split
      → Final (Seen (Ruled owner grows first) id v) ws xs → get_elem? xs 0 ≡ some found
      → (x : S) × (found ≡ Some x) × owner v.calls x × grows v.told x
  closed_with first id v ws xs found owns at none_out final taken =
      let s = final.0 in
      let is = closes first id v s owns at none_out final.1 in
      let there : get_elem? xs 0 ≡ some (Some is.0) = final.4 0 (Some is.0) (ap (λ hs. get_elem? hs 0) is.1) in
      (is.0, some-injective found (Some is.0) (sym taken ∙ there), is.2, is.3)

  -- the same where a step before left the seat with this view
  pub looks_again : (first : S) (n : ℕ) (id : ℕ) (m m' : Knows S) (t : ℕ) → m' ≡ m → m.0.place ≡ Waiting t → Allows (Ruled owner grows first) n id m' 1 (λ x. x) (looked owner grows m')
  looks_again first n id m m' t is at = looks first n id m' t (ap (λ (z : Knows S). z.0.place) is ∙ at)

  pub serves_after : (first : S) (n : ℕ) (id : ℕ) (v : View S) (m : Knows S) (t : ℕ) (x y : S) (entry told : List Entry) → m ≡ (v, (0, Some y) ∷ []) → v.place ≡ Inside t → v.entered ≡ Some x
      → ((entry ≡ []) ⊎ (v.owns ≡ true))
      → ((calls : List Entry) → owner calls x → owner (calls ++ entry) y)
      → ((calls old : List Entry) → owner calls x → grows old x → grows old y)
      → ((a b : List Entry) → grows a y → grows b y → grows (a ++ b) y) → grows told y
      → Allows (Ruled owner grows first) n id m 1 (λ z. (z + 1) % 2 ^ 64) (served entry told m)
  serves_after first n id v m t x y entry told is at entered may moves stays both new =
      serves first n id m t x y entry told (ap (λ (z : Knows S). z.0.place) is ∙ at) (ap (λ (z : Knows S). z.0.entered) is ∙ entered) (ap (λ (z : Knows S). z.1) is)
      (⊎_elim (λ e. inl e) (λ o. inr (ap (λ (z : Knows S). z.0.owns) is ∙ o)) may) moves stays both new

  pub counts_after : (first : S) (n : ℕ) (id : ℕ) (v : View S) (m : Knows S) (held : List (ℕ × Option S)) → m ≡ (joining v, held) → v.owns ≡ true → v.place ≡ Outside
      → Allows (Ruled owner grows first) n id m 0 (λ x. x) (counted m)
  counts_after first n id v m held is owns at = counts first n id m (ap (λ (z : Knows S). z.0.owns) is ∙ owns) (ap (λ (z : Knows S). z.0.place) is ∙ at)

  -- what a seat that has the turn can take out
  pub holds_state : (m m' : Knows S) → (has : Has owner grows m m') → (x : Option S) × (m'.1 ≡ (0, x) ∷ rest m'.1)
  holds_state m m' has = (Some has.1, ap (λ (z : Knows S). z.1) has.2 ∙ ap (λ (z : List (ℕ × Option S)). (0, Some has.1) ∷ z) (sym (ap (λ (z : Knows S). rest z.1) has.2)))

pub is_outside : {S : Type 0} (p : Place) (held : List (ℕ × Option S)) → BetweenCalls p held → is_inside p ≡ false → p ≡ Outside
is_outside Unopened held r e = absurd r
is_outside Spent held r e = absurd r
is_outside Outside held r e = refl
is_outside (Waiting t) held r e = absurd r
is_outside (Inside t) held r e = absurd (not_true (sym e))
