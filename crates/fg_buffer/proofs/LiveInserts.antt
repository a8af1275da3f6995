-- One more line, and none.
use Rattle.std.proofs.Common.{◌≡◌, ◌≢◌, ◌⊎◌, ◌+◌, ◌<◌, ◌≤◌, ◌++◌, ℕ, Bool, true, false, List, [], length, get_or, set, Option, Some, None, inl, inr, refl, sym, ap, subst, ◌∙◌, ⊎_elim, arith}
use Rattle.std.proofs.lemmas.Bool.{cases_eq, cases_lt}
use Rattle.std.proofs.lemmas.List.{get_or-set_same, get_or-set_other, length-set}
use Rattle.std.proofs.lemmas.Option.{none-some}
use Rattle.std.specs.Cmp.{nat_cmp_total}
use Rattle.std.specs.FinMap as map
use Rattle.slab.specs.Slab.{Slab, get, slab_len, Updates}
use Rattle.fg_peel.specs.declared.Line.{Line}
use Rattle.fg_peel.proofs.Options.{same_options}
use Rattle.fg_peel.proofs.Maps.{inserted, beside_inserted}
use Rattle.fg_peel.specs.Live.{Live, live_limit, IsFree, IsLeastFree}
use Rattle.fg_buffer.specs.LiveEquations.{LiveState, no_equations, live_of}
use Rattle.fg_buffer.specs.LiveInside.{live_in, serials_in, state_of, Stands, IsWithin, IsTaken, AreSound}
use Rattle.fg_peel.proofs.Places.{free_place}
use Rattle.fg_buffer.proofs.LiveLists.{lines_from}
use Rattle.fg_buffer.proofs.LiveViews.{serial_of, place_of, live_standing, count_live, standing_of, live_under}
use Rattle.fg_buffer.proofs.LiveMoves.{is_or_was, held_after, one_more_each}
use Rattle.fg_buffer.proofs.LiveCalls.{free_place_of}

module _ (first second : Slab Line) (places : List Bool) (sound : AreSound first second places) where
  -- a free place is not taken, and one that is taken isn't free
  not_free : (place : ℕ) → IsTaken places place → IsFree (state_of first second).live place → ⊥
  not_free place taken free =
      let r = sound.by_line place taken in
      free r.0.serial (live_of r.0) (live_standing first second sound.serials r.0 r.1) r.2

  pub first_free_within :
      (n : ℕ) → map.len (state_of first second).live < live_limit → ((place : ℕ) → place < n → IsTaken places place)
      → n < live_limit
  first_free_within n fewer below = ⊎_elim
      (λ less. less)
      (λ above.
      let free = free_place (state_of first second).live live_limit fewer in
      let within : free.0 < n = omega (arith, above, free.1) in
      absurd (not_free free.0 (below free.0 within) free.2))
      (cases_lt n live_limit)

  pub least_free :
      (place : ℕ) → get_or places place false ≡ false → ((other : ℕ) → other < place → IsTaken places other)
      → IsLeastFree (state_of first second).live place
  least_free place free below = (
    free_place_of first second places sound place
        (λ line stands same.
        let t : get_or places place false ≡ true =
        subst (λ (p : ℕ). get_or places p false ≡ true) same (sound.taken line stands) in
        let e : false ≡ true = sym free ∙ t in absurd (cc)),
    λ other is. ⊎_elim
        (λ less. absurd (not_free other (below other less) is))
        (λ above. above)
        (cases_lt other place),
  )

  module _ (first' : Slab Line) (key : ℕ) (line : Line) (vacant : get first key ≡ None)
      (put : Updates first first' key (Some line)) (more : slab_len first' ≡ slab_len first + 1)
      (same_room : first'.capacity ≡ first.capacity) (is_within : IsWithin line)
      (fresh : map.get (state_of first second).live line.serial ≡ None) (free : get_or places line.place false ≡ false)
      (fewer : map.len (state_of first second).live < live_limit) where
    fresh_serial : (other : Line) → Stands first second other → other.serial ≢ line.serial
    fresh_serial other stands same =
        none-some (live_of other) (sym fresh ∙ live_under first second sound.serials other stands line.serial same)

    pub fresh_place : (other : Line) → Stands first second other → other.place ≢ line.place
    fresh_place other stands same =
        let t : get_or places line.place false ≡ true =
        subst (λ (p : ℕ). get_or places p false ≡ true) same (sound.taken other stands) in
        let e : false ≡ true = sym free ∙ t in absurd (cc)

    pub is_or_stood : (other : Line) → Stands first' second other → (other ≡ line) ⊎ Stands first second other
    is_or_stood other stands = ⊎_elim
        (λ a. ⊎_elim
        (λ new. inl new.1)
        (λ old. inr (inl (a.0, old.1)))
        (is_or_was first first' key line put a.0 other a.1))
        (λ b. inr (inr b))
        stands

    still : (other : Line) → Stands first second other → Stands first' second other
    still other stands = ⊎_elim
        (λ a. inl (held_after first first' key line vacant put other a))
        (λ b. inr b)
        stands

    has_place : line.place < length places
    has_place = let p = is_within.place in let n = sound.count in omega (arith, p, n)

    pub insert_sound : AreSound first' second (set places line.place true)
    insert_sound = record {
      serials = one_more_each serial_of first second first' key line put fresh_serial sound.serials;
      numbers = one_more_each place_of first second first' key line put fresh_place sound.numbers;
      open_within = λ k other is. ⊎_elim
          (λ new. subst IsWithin (sym new.1) is_within)
          (λ old. sound.open_within k other old.1)
          (is_or_was first first' key line put k other is);
      settled_within = sound.settled_within;
      count = length-set places line.place true ∙ sound.count;
      taken = λ other stands. ⊎_elim
          (λ new.
          subst (λ (l : Line). IsTaken (set places line.place true) l.place) (sym new)
          (get_or-set_same places line.place true false has_place))
          (λ old.
          get_or-set_other places line.place other.place true false (fresh_place other old) ∙ sound.taken other old)
          (is_or_stood other stands);
      by_line = λ place t. ⊎_elim
          (λ same. (line, inl (key, put.changed), sym same))
          (λ differs.
          let r = sound.by_line place (sym (get_or-set_other places line.place place true false differs) ∙ t) in
          (r.0, still r.0 r.1, r.2))
          (cases_eq place line.place);
      few = (let n = count_live first second sound.serials in omega (arith, n, more, fewer));
      open_room = (let room = sound.open_room in omega (arith, room, same_room));
      settled_room = sound.settled_room;
    }

    live_after : (state_of first' second).live ≡ map.insert (state_of first second).live line.serial (live_of line)
    live_after =
        let old : map.FinMap _ Live = (state_of first second).live in
        let new : map.FinMap _ Live = (state_of first' second).live in
        map.same_map nat_cmp_total map.nat_cmp-IsAntisymmetric new (map.insert old line.serial (live_of line))
        (λ q. ⊎_elim
        (λ same.
        live_under first' second insert_sound.serials line (inl (key, put.changed)) q (sym same)
        ∙ sym (inserted old line.serial (live_of line) q same))
        (λ differs.
        same_options (map.get new q) (map.get old q)
        (λ live is.
        let r = standing_of first' second q live is in
        ⊎_elim
        (λ it. absurd (differs (sym r.2 ∙ ap (λ (l : Line). l.serial) it)))
        (λ stood. live_under first second sound.serials r.0 stood q r.2 ∙ ap Some (sym r.3))
        (is_or_stood r.0 r.1))
        (λ live is.
        let r = standing_of first second q live is in
        live_under first' second insert_sound.serials r.0 (still r.0 r.1) q r.2 ∙ ap Some (sym r.3))
        ∙ sym (beside_inserted old line.serial (live_of line) q differs))
        (cases_eq q line.serial))

    pub insert_is :
        state_of first' second
        ≡ record (state_of first second) { live = map.insert (state_of first second).live line.serial (live_of line) }
    insert_is =
        ap (λ (m : map.FinMap _ Live). record (state_of first second) { live = m }) live_after

-- No line.
state_at : List (Option Line) → List (Option Line) → LiveState
state_at slots slots' = record {
  live = live_in (lines_from 0 slots ++ lines_from 0 slots');
  settled = serials_in (lines_from 0 slots');
}

pub none_is : (first second : Slab Line) → first.slots ≡ [] → second.slots ≡ [] → state_of first second ≡ no_equations
unfolding state_at live_in serials_in
none_is first second none none' = ap (λ s. state_at s second.slots) none ∙ ap (λ s. state_at [] s) none'

pub none_at : (lines : Slab Line) → lines.slots ≡ [] → (key : ℕ) (line : Line) → get lines key ≡ Some line → ⊥
none_at lines none key line is =
    let e : get_or lines.slots key None ≡ None = ap (λ (s : List (Option Line)). get_or s key None) none in
    none-some line (sym e ∙ is)

pub none_sound :
    (first second : Slab Line) (places : List Bool) → first.slots ≡ [] → second.slots ≡ [] → length places ≡ live_limit
    → ((place : ℕ) → get_or places place false ≡ false) → live_limit ≤ first.capacity → live_limit ≤ second.capacity
    → AreSound first second places
none_sound first second places none none' count free room room' =
    let nothing = λ (line : Line) (stands : Stands first second line).
    ⊎_elim (λ a. none_at first none a.0 line a.1) (λ b. none_at second none' b.0 line b.1) stands in
    record {
      serials = record {
        in_first = λ k k' a b is. absurd (none_at first none k a is);
        in_second = λ k k' a b is. absurd (none_at second none' k a is);
        apart = λ k k' a b is. absurd (none_at first none k a is);
      };
      numbers = record {
        in_first = λ k k' a b is. absurd (none_at first none k a is);
        in_second = λ k k' a b is. absurd (none_at second none' k a is);
        apart = λ k k' a b is. absurd (none_at first none k a is);
      };
      open_within = λ k a is. absurd (none_at first none k a is);
      settled_within = λ k a is. absurd (none_at second none' k a is);
      count = count;
      taken = λ line stands. absurd (nothing line stands);
      by_line = λ place t. (let e : false ≡ true = sym (free place) ∙ t in absurd (cc));
      few = (let a : slab_len first ≡ 0 = rw none refl in let b : slab_len second ≡ 0 = rw none' refl in omega (arith, a, b));
      open_room = room;
      settled_room = room';
    }
