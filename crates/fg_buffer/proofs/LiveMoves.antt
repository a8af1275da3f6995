-- LiveEquations that are put in, moved and dropped.
use Rattle.std.proofs.Common.{◌≡◌, ◌≢◌, ◌⊎◌, ◌+◌, ◌<◌, ◌≤◌, ℕ, Bool, true, false, List, length, set, Option, Some, None, inl, inr, refl, sym, ap, subst, ◌∙◌, ⊎_elim, arith}
use Rattle.std.proofs.lemmas.Bool.{cases_eq}
use Rattle.std.proofs.lemmas.List.{get_or-set_same, get_or-set_other, length-set}
use Rattle.std.proofs.lemmas.Option.{none-some}
use Rattle.slab.specs.Slab.{Slab, get, slab_len, Updates}
use Rattle.fg_peel.specs.declared.Line.{Line}
use Rattle.fg_buffer.specs.LiveInside.{Holds, Stands, IsOneEach, IsTaken, MovesOver, Moves, Drops}
use Rattle.fg_buffer.proofs.LiveViews.{one_value, swapped}

-- a line under another key stays, and what is found after a change was there or is new
pub held_still :
    (old new : Slab Line) (key : ℕ) (slot : Option Line) → Updates old new key slot → (other : ℕ) (line : Line)
    → other ≢ key → get old other ≡ Some line → get new other ≡ Some line
held_still old new key slot updates other line differs is = updates.others other differs ∙ is

pub was_held :
    (old new : Slab Line) (key : ℕ) → Updates old new key None → (other : ℕ) (line : Line)
    → get new other ≡ Some line → (other ≢ key) × (get old other ≡ Some line)
was_held old new key updates other line is = ⊎_elim
    (λ same. absurd (none-some line (sym (ap (get new) same ∙ updates.changed) ∙ is)))
    (λ differs. (differs, sym (updates.others other differs) ∙ is))
    (cases_eq other key)

pub is_or_was :
    (old new : Slab Line) (key : ℕ) (line : Line) → Updates old new key (Some line) → (other : ℕ) (found : Line)
    → get new other ≡ Some found
    → ((other ≡ key) × (found ≡ line)) ⊎ ((other ≢ key) × (get old other ≡ Some found))
is_or_was old new key line updates other found is = ⊎_elim
    (λ same.
    inl (same, one_value (get new key) found line (ap (get new) (sym same) ∙ is) updates.changed))
    (λ differs. inr (differs, sym (updates.others other differs) ∙ is))
    (cases_eq other key)

-- all that was held stays held where a vacant key is taken
pub held_after :
    (old new : Slab Line) (key : ℕ) (line : Line) → get old key ≡ None → Updates old new key (Some line) → (other : Line)
    → Holds old other → Holds new other
held_after old new key line vacant updates other h =
    (h.0, held_still old new key (Some line) updates h.0 other (λ same. none-some other (sym (ap (get old) same ∙ vacant) ∙ h.1)) h.1)

-- One more line with a new number.
pub one_more_each :
    (number : Line → ℕ) (first second first' : Slab Line) (key : ℕ) (line : Line) → Updates first first' key (Some line)
    → ((other : Line) → Stands first second other → number other ≢ number line)
    → IsOneEach number first second → IsOneEach number first' second
one_more_each number first second first' key line updates fresh each = record {
  in_first = λ k k' one other is is' same. ⊎_elim
      (λ a. ⊎_elim
      (λ b. a.0 ∙ sym b.0)
      (λ b. absurd (fresh other (inl (k', b.1)) (sym same ∙ ap number a.1)))
      (is_or_was first first' key line updates k' other is'))
      (λ a. ⊎_elim
      (λ b. absurd (fresh one (inl (k, a.1)) (same ∙ ap number b.1)))
      (λ b. each.in_first k k' one other a.1 b.1 same)
      (is_or_was first first' key line updates k' other is'))
      (is_or_was first first' key line updates k one is);
  in_second = each.in_second;
  apart = λ k k' one other is is' same. ⊎_elim
      (λ a. fresh other (inr (k', is')) (sym same ∙ ap number a.1))
      (λ a. each.apart k k' one other a.1 is' same)
      (is_or_was first first' key line updates k one is);
}

-- A removed line goes to the other slab.
pub moved_each :
    (number : Line → ℕ) (first second first' second' : Slab Line) (key key' : ℕ) (line : Line)
    → get first key ≡ Some line → Updates first first' key None → Updates second second' key' (Some line)
    → IsOneEach number first second → IsOneEach number first' second'
moved_each number first second first' second' key key' line at out into each =
    let without : IsOneEach number first' second = record {
      in_first = λ k k' one other is is'. each.in_first k k' one other (was_held first first' key out k one is).1 (was_held first first' key out k' other is').1;
      in_second = each.in_second;
      apart = λ k k' one other is is'. each.apart k k' one other (was_held first first' key out k one is).1 is';
    } in
    let fresh : (other : Line) → Stands second first' other → number other ≢ number line =
    λ other stands same. ⊎_elim
    (λ b. each.apart key b.0 line other at b.1 (sym same))
    (λ a.
    let was = was_held first first' key out a.0 other a.1 in
    was.0 (each.in_first a.0 key other line was.1 at same))
    stands in
    swapped number second' first' (one_more_each number second first' second' key' line into fresh (swapped number first' second without))

-- A pass that moves lines has come to a key.
pub record MovesBelow (IsLeft IsGone : Line → Type 0) (key : ℕ) (source target source' target' : Slab Line) : Type 0 where
  pub left :
      (k : ℕ) (line : Line) → get source' k ≡ Some line → (get source k ≡ Some line) × (k < key → IsLeft line)
  pub over : MovesOver IsGone source target source' target'

-- No line moves.
pub over_nothing : (IsGone : Line → Type 0) (source target : Slab Line) → MovesOver IsGone source target source target
over_nothing IsGone source target = record {
  gone = λ line h. inl h;
  every = λ line s. s;
  kept = λ line h. h;
  each = λ number e. e;
  count = refl;
  source_capacity = refl;
  target_capacity = refl;
}

pub moves_none : (IsLeft IsGone : Line → Type 0) (source target : Slab Line) → MovesBelow IsLeft IsGone 0 source target source target
moves_none IsLeft IsGone source target =
    record { left = λ k line is. (is, λ less. absurd (omega (arith, less))); over = over_nothing IsGone source target }

module _ (IsLeft IsGone : Line → Type 0) (key : ℕ) (source target source' target' : Slab Line)
    (below : MovesBelow IsLeft IsGone key source target source' target') where
  pub moves_passed :
      ((line : Line) → get source' key ≡ Some line → IsLeft line)
      → MovesBelow IsLeft IsGone (key + 1) source target source' target'
  moves_passed stays = record {
    left = λ k line is. (
      (below.left k line is).0,
      λ less. ⊎_elim
          (λ same. stays line (ap (get source') (sym same) ∙ is))
          (λ differs. (below.left k line is).1 (omega (arith, less, differs)))
          (cases_eq k key),
    );
    over = below.over;
  }

  pub moves_one :
      (out into : Slab Line) (key' : ℕ) (line : Line) → get source' key ≡ Some line → IsGone line
      → Updates source' out key None → slab_len out + 1 ≡ slab_len source' → out.capacity ≡ source'.capacity
      → get target' key' ≡ None → Updates target' into key' (Some line) → slab_len into ≡ slab_len target' + 1
      → into.capacity ≡ target'.capacity → MovesBelow IsLeft IsGone (key + 1) source target out into
  moves_one out into key' line at goes removed less same_room vacant put more same_room' = record {
    left = λ k other is.
        let was = was_held source' out key removed k other is in
        let differs = was.0 in (
          (below.left k other was.1).0,
          λ within. (below.left k other was.1).1 (omega (arith, within, differs)),
        );
    over = record {
      gone = λ other h. ⊎_elim
          (λ new.
          let P : Line → Type 0 = λ l. Holds target l ⊎ (Holds source l × IsGone l) in
          subst P (sym new.1) (inr ((key, (below.left key line at).0), goes)))
          (λ old. below.over.gone other (h.0, old.1))
          (is_or_was target' into key' line put h.0 other h.1);
      every = λ other stands. ⊎_elim
          (λ a. ⊎_elim
          (λ same.
          let moved : line ≡ other = one_value (get source' key) line other at (ap (get source') (sym same) ∙ a.1) in
          let P : Line → Type 0 = λ l. Stands out into l in
          subst P moved (inr (key', put.changed)))
          (λ differs. inl (a.0, held_still source' out key None removed a.0 other differs a.1))
          (cases_eq a.0 key))
          (λ b. inr (held_after target' into key' line vacant put other b))
          (below.over.every other stands);
      kept = λ other h. held_after target' into key' line vacant put other (below.over.kept other h);
      each = λ number e. moved_each number source' target' out into key key' line at removed put (below.over.each number e);
      count = (let c = below.over.count in omega (arith, less, more, c));
      source_capacity = same_room ∙ below.over.source_capacity;
      target_capacity = same_room' ∙ below.over.target_capacity;
    };
  }

  pub moves_all :
      ((k : ℕ) (line : Line) → get source k ≡ Some line → k < key) → Moves IsLeft IsGone source target source' target'
  moves_all past = record {
    left = λ line h.
        (let was = below.left h.0 line h.1 in
        ((h.0, was.0), was.1 (past h.0 line was.0)));
    over = below.over;
  }

-- The same moved, where the slab that they left was only cleared of what is vacant.
pub moves_same :
    (IsLeft IsGone : Line → Type 0) (source target source' target' other : Slab Line)
    → Moves IsLeft IsGone source target source' target' → ((key : ℕ) → get other key ≡ get source' key)
    → slab_len other ≡ slab_len source' → other.capacity ≡ source'.capacity → Moves IsLeft IsGone source target other target'
moves_same IsLeft IsGone source target source' target' other moves same count room = record {
  left = λ line h. moves.left line (h.0, sym (same h.0) ∙ h.1);
  over = record {
    gone = moves.over.gone;
    every = λ line stands. ⊎_elim (λ a. inl (a.0, same a.0 ∙ a.1)) (λ b. inr b) (moves.over.every line stands);
    kept = moves.over.kept;
    each = λ number e.
        let was = moves.over.each number e in
        record {
          in_first = λ k k' one two is is'. was.in_first k k' one two (sym (same k) ∙ is) (sym (same k') ∙ is');
          in_second = was.in_second;
          apart = λ k k' one two is is'. was.apart k k' one two (sym (same k) ∙ is) is';
        };
    count = (let c = moves.over.count in omega (arith, count, c));
    source_capacity = room ∙ moves.over.source_capacity;
    target_capacity = moves.over.target_capacity;
  };
}

-- One line moves: the one with this number.
pub moves_numbered :
    (number : Line → ℕ) (source target out into : Slab Line) (key key' : ℕ) (line : Line)
    → IsOneEach number source target → get source key ≡ Some line → Updates source out key None
    → slab_len out + 1 ≡ slab_len source → out.capacity ≡ source.capacity → get target key' ≡ None
    → Updates target into key' (Some line) → slab_len into ≡ slab_len target + 1 → into.capacity ≡ target.capacity
    → Moves (λ other. number other ≡ number line → ⊥) (λ other. number other ≡ number line) source target out into
moves_numbered number source target out into key key' line each at removed less same_room vacant put more same_room' =
    let IsGone : Line → Type 0 = λ other. number other ≡ number line in
    let none : MovesBelow (λ other. Unit {0}) IsGone key source target source target = record {
      left = λ k other is. (is, λ within. tt);
      over = over_nothing IsGone source target;
    } in
    let one = moves_one (λ other. Unit {0}) IsGone key source target source target none out into key' line at refl removed
    less same_room vacant put more same_room' in
    record {
      left = λ other h.
          (let was = was_held source out key removed h.0 other h.1 in
          ((h.0, was.1), λ same. was.0 (each.in_first h.0 key other line was.1 at same)));
      over = one.over;
    }

-- A pass that drops lines has come to a key.
pub record DropsBelow (Stays : Line → Type 0) (key : ℕ) (old new : Slab Line) (places places' : List Bool) : Type 0 where
  pub left : (k : ℕ) (line : Line) → get new k ≡ Some line → (get old k ≡ Some line) × (k < key → Stays line)
  pub stays : (k : ℕ) (line : Line) → get old k ≡ Some line → Stays line → get new k ≡ Some line
  pub freed :
      (place : ℕ) → IsTaken places' place → IsTaken places place
      × ((k : ℕ) (line : Line) → get old k ≡ Some line → line.place ≡ place → get new k ≡ Some line)
  pub taken :
      (place : ℕ) → IsTaken places place
      → ((k : ℕ) (line : Line) → get old k ≡ Some line → line.place ≡ place → get new k ≡ Some line) → IsTaken places' place
  pub count : length places' ≡ length places
  pub fewer : slab_len new ≤ slab_len old
  pub capacity : new.capacity ≡ old.capacity

pub drops_none : (Stays : Line → Type 0) (lines : Slab Line) (places : List Bool) → DropsBelow Stays 0 lines lines places places
drops_none Stays lines places = record {
  left = λ k line is. (is, λ less. absurd (omega (arith, less)));
  stays = λ k line is s. is;
  freed = λ place t. (t, λ k line is same. is);
  taken = λ place t h. t;
  count = refl;
  fewer = omega arith;
  capacity = refl;
}

module _ (Stays : Line → Type 0) (key : ℕ) (old new : Slab Line) (places places' : List Bool)
    (below : DropsBelow Stays key old new places places') where
  pub drops_passed :
      ((line : Line) → get new key ≡ Some line → Stays line) → DropsBelow Stays (key + 1) old new places places'
  drops_passed here = record {
    left = λ k line is. (
      (below.left k line is).0,
      λ less. ⊎_elim
          (λ same. here line (ap (get new) (sym same) ∙ is))
          (λ differs. (below.left k line is).1 (omega (arith, less, differs)))
          (cases_eq k key),
    );
    stays = below.stays;
    freed = below.freed;
    taken = below.taken;
    count = below.count;
    fewer = below.fewer;
    capacity = below.capacity;
  }

  pub drops_one :
      (out : Slab Line) (line : Line) → get new key ≡ Some line → (Stays line → ⊥) → line.place < length places'
      → Updates new out key None → slab_len out + 1 ≡ slab_len new → out.capacity ≡ new.capacity
      → DropsBelow Stays (key + 1) old out places (set places' line.place false)
  drops_one out line at goes within removed less same_room =
      let was : get old key ≡ Some line = (below.left key line at).0 in
      let dropped : IsTaken (set places' line.place false) line.place → ⊥ =
      λ t. (let e : false ≡ true = sym (get_or-set_same places' line.place false false within) ∙ t in absurd (cc)) in
      record {
        left = λ k other is.
            let before = was_held new out key removed k other is in
            let differs = before.0 in (
              (below.left k other before.1).0,
              λ less'. (below.left k other before.1).1 (omega (arith, less', differs)),
            );
        stays = λ k other is s. ⊎_elim
            (λ same.
            let it : other ≡ line = one_value (get old key) other line (ap (get old) (sym same) ∙ is) was in
            absurd (goes (subst Stays it s)))
            (λ differs. held_still new out key None removed k other differs (below.stays k other is s))
            (cases_eq k key);
        freed = λ place t. ⊎_elim
            (λ same. absurd (dropped (subst (λ (p : ℕ). IsTaken (set places' line.place false) p) same t)))
            (λ differs.
            let t' : IsTaken places' place = sym (get_or-set_other places' line.place place false false differs) ∙ t in
            let r = below.freed place t' in (
              r.0,
              λ k other is same_place. ⊎_elim
                  (λ same.
                  let it : other ≡ line = one_value (get old key) other line (ap (get old) (sym same) ∙ is) was in
                  absurd (differs (sym same_place ∙ ap (λ (l : Line). l.place) it)))
                  (λ apart. held_still new out key None removed k other apart (r.1 k other is same_place))
                  (cases_eq k key),
            ))
            (cases_eq place line.place);
        taken = λ place t all. ⊎_elim
            (λ same.
            let gone = all key line was (sym same) in
            absurd (none-some line (sym removed.changed ∙ gone)))
            (λ differs.
            get_or-set_other places' line.place place false false differs
            ∙ below.taken place t (λ k other is same_place. (was_held new out key removed k other (all k other is same_place)).1))
            (cases_eq place line.place);
        count = length-set places' line.place false ∙ below.count;
        fewer = (let f = below.fewer in omega (arith, less, f));
        capacity = same_room ∙ below.capacity;
      }

  pub drops_all :
      ((k : ℕ) (line : Line) → get old k ≡ Some line → k < key) → Drops Stays old new places places'
  drops_all past =
      let stay : (k : ℕ) (line : Line) → get new k ≡ Some line → (get old k ≡ Some line) × Stays line =
      λ k line is. (let was = below.left k line is in (was.0, was.1 (past k line was.0))) in
      record {
        left = λ k line. (λ is. stay k line is, λ h. below.stays k line h.0 h.1);
        freed = λ place. (
          λ t. (let r = below.freed place t in (r.0, λ line h same. (stay h.0 line (r.1 h.0 line h.1 same)).1)),
          λ h. below.taken place h.0 (λ k line is same. below.stays k line is (h.1 line (k, is) same)),
        );
        count = below.count;
        fewer = below.fewer;
        capacity = below.capacity;
      }
