-- The keys that are told for places.
use Rattle.std.proofs.Common.{◌≡◌, ◌≢◌, ◌<◌, ℕ, List, [], length, get_or, set, Some, None, sym, ap, subst, ◌∙◌, ⊎_elim, inl, inr}
use Rattle.std.proofs.lemmas.List.{get_or-set_same, get_or-set_other, length-set}
use Rattle.slab.specs.Slab.{Slab, get, Updates}
use Rattle.fg_peel.specs.declared.Line.{Line}
use Rattle.fg_peel.specs.Live.{live_limit}
use Rattle.fg_buffer.specs.LiveInside.{Holds, Stands, IsOneEach, IsKeyed, AreKeyed}
use Rattle.fg_buffer.proofs.LiveInserts.{none_at}
use Rattle.fg_buffer.proofs.LiveMoves.{is_or_was, was_held}

-- A key is told for a place that no line has.
pub keyed_beside :
    (keys : List ℕ) (lines : Slab Line) (place key : ℕ) → IsKeyed keys lines
    → ((k : ℕ) (line : Line) → get lines k ≡ Some line → line.place ≢ place) → IsKeyed (set keys place key) lines
keyed_beside keys lines place key keyed fresh k line is =
    get_or-set_other keys place line.place key 0 (fresh k line is) ∙ keyed k line is

-- A line comes to a key, and that is told for its place.
pub keyed_with :
    (keys : List ℕ) (lines into : Slab Line) (key : ℕ) (line : Line) → IsKeyed keys lines → line.place < length keys
    → Updates lines into key (Some line)
    → ((k : ℕ) (other : Line) → get lines k ≡ Some other → other.place ≢ line.place)
    → IsKeyed (set keys line.place key) into
keyed_with keys lines into key line keyed within put fresh k other is = ⊎_elim
    (λ new.
    subst (λ (l : Line). get_or (set keys line.place key) l.place 0 ≡ k) (sym new.1)
    (get_or-set_same keys line.place key 0 within ∙ sym new.0))
    (λ old. get_or-set_other keys line.place other.place key 0 (fresh k other old.1) ∙ keyed k other old.1)
    (is_or_was lines into key line put k other is)

-- Fewer lines keep their keys.
pub keyed_fewer :
    (keys : List ℕ) (old new : Slab Line) → ((k : ℕ) (line : Line) → get new k ≡ Some line → get old k ≡ Some line)
    → IsKeyed keys old → IsKeyed keys new
keyed_fewer keys old new was keyed k line is = keyed k line (was k line is)

pub keyed_swapped : (keys : List ℕ) (first second : Slab Line) → AreKeyed keys first second → AreKeyed keys second first
keyed_swapped keys first second are =
    record { count = are.count; in_first = are.in_second; in_second = are.in_first }

pub keyed_same :
    (keys : List ℕ) (first second other : Slab Line) → ((key : ℕ) → get other key ≡ get first key) → AreKeyed keys first second
    → AreKeyed keys other second
keyed_same keys first second other same are =
    record { count = are.count; in_first = λ k line is. are.in_first k line (sym (same k) ∙ is); in_second = are.in_second }

pub none_keyed :
    (keys : List ℕ) (first second : Slab Line) → length keys ≡ live_limit → first.slots ≡ [] → second.slots ≡ []
    → AreKeyed keys first second
none_keyed keys first second count none none' = record {
  count = count;
  in_first = λ k line is. absurd (none_at first none k line is);
  in_second = λ k line is. absurd (none_at second none' k line is);
}

module _ (keys : List ℕ) (first second : Slab Line) (are : AreKeyed keys first second) where
  -- One more line of a new place.
  pub inserted_keyed :
      (first' : Slab Line) (key : ℕ) (line : Line) → line.place < live_limit → Updates first first' key (Some line)
      → ((other : Line) → Stands first second other → other.place ≢ line.place)
      → AreKeyed (set keys line.place key) first' second
  inserted_keyed first' key line within put fresh = record {
    count = length-set keys line.place key ∙ are.count;
    in_first = keyed_with keys first first' key line are.in_first
        (subst (λ (n : ℕ). line.place < n) (sym are.count) within) put
        (λ k other is. fresh other (inl (k, is)));
    in_second = keyed_beside keys second line.place key are.in_second (λ k other is. fresh other (inr (k, is)));
  }

  -- A line goes from the first slab to the second.
  pub moved_keyed :
      (out into : Slab Line) (key key' : ℕ) (line : Line) → IsOneEach (λ l. l.place) first second → line.place < live_limit
      → get first key ≡ Some line → Updates first out key None → Updates second into key' (Some line)
      → AreKeyed (set keys line.place key') out into
  moved_keyed out into key key' line each within at removed put = record {
    count = length-set keys line.place key' ∙ are.count;
    in_first = keyed_beside keys out line.place key'
        (keyed_fewer keys first out (λ k other is. (was_held first out key removed k other is).1) are.in_first)
        (λ k other is same.
        let was = was_held first out key removed k other is in
        was.0 (each.in_first k key other line was.1 at same));
    in_second = keyed_with keys second into key' line are.in_second
        (subst (λ (n : ℕ). line.place < n) (sym are.count) within) put
        (λ k other is same. each.apart key k line other at is (sym same));
  }

-- A line of this place stands under the key that is told for it.
pub found_there :
    (keys : List ℕ) (lines : Slab Line) (place : ℕ) → IsKeyed keys lines → (line : Line) → Holds lines line
    → line.place ≡ place → get lines (get_or keys place 0) ≡ Some line
found_there keys lines place keyed line h same =
    ap (get lines) (ap (λ p. get_or keys p 0) (sym same) ∙ keyed h.0 line h.1) ∙ h.1
