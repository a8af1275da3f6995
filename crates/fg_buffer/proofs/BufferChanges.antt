-- What a change of the entries does to a buffer.
use Rattle.std.proofs.Common.{◌≡◌, ◌≢◌, ◌⊎◌, ◌+◌, ◌-◌, ◌<◌, ◌≤◌, ◌^◌, ℕ, Bool, true, false, ◌&&◌, ◌||◌, not, IsTrue, is_some, List, length, get_or, set, Option, Some, None, inl, inr, nat_lt, nat_le, if◌then◌else◌, cond, refl, sym, ap, ◌∙◌, ⊎_elim, arith}
use Rattle.std.proofs.lemmas.Bool.{cases_lt, cases_eq, le-leb, lt-leb, lt-ltb, le-ltb}
use Rattle.std.proofs.lemmas.List.{get_or-set_same, get_or-set_other, length-set}
use Rattle.std.specs.Ordering.{nat_cmp}
use Rattle.std.specs.FinMap as map
use Rattle.std.specs.FinSet as set
use Rattle.fg_words.specs.declared.Word.{Word}
use Rattle.fg_words.specs.Word.{IsMedia}
use Rattle.fg_peel.specs.declared.Slot.{Slot}
use Rattle.fg_peel.specs.declared.Slot.TheVariants.{Empty, Media, Solved, Filled}
use Rattle.fg_peel.specs.Slots.{word_in}
use Rattle.fg_peel.proofs.Maps.{inserted, beside_inserted, removed, beside_removed}
use Rattle.fg_peel.proofs.Options.{none_has_no_value}
use Rattle.fg_peel.specs.Words.{Words}
use Rattle.fg_buffer.specs.PlayoutBuffer.{buffer_words, receives, publishes, Advances, IsHighestWord, opened_buffer}
use Rattle.fg_buffer.specs.BufferEntries.{entry_at, received_in, solved_in, cached_in, is_alone, is_found, buffer_of, AreEntries, SolvedAreMedia, left_of, Becomes, Forgets, forgets, HasNoWordFrom, IsLastWord}
use Rattle.fg_buffer.proofs.Choices.{if-less, if-not_less}
use Rattle.fg_buffer.proofs.BufferViews.{entry_at-buffer, entry_at-before, get-kept, get-media, get-solved, get-cached, contains-bare, contains-repaired, same_buffer, buffer_words-entry, some_along}

-- What the buffer keeps is the same where the entries before the mark are.
module _ (mark : ℕ) (old new : List Slot) (below : (p : ℕ) → p < mark → entry_at mark new p ≡ entry_at mark old p) where
  pub same_kept : (p : ℕ) → map.get (buffer_of mark new).kept p ≡ map.get (buffer_of mark old).kept p
  same_kept p =
      get-kept mark new p
      ∙ ⊎_elim
      (λ before. if-less p mark _ None before ∙ ap word_in (below p before) ∙ sym (if-less p mark _ None before))
      (λ from. if-not_less p mark _ None from ∙ sym (if-not_less p mark _ None from))
      (cases_lt p mark)
      ∙ sym (get-kept mark old p)

  same_test :
      (test : Slot → Bool) (p : ℕ)
      → (if nat_lt p mark then test (entry_at mark new p) else false)
      ≡ (if nat_lt p mark then test (entry_at mark old p) else false)
  same_test test p =
      ⊎_elim
      (λ before. if-less p mark _ false before ∙ ap test (below p before) ∙ sym (if-less p mark _ false before))
      (λ from. if-not_less p mark _ false from ∙ sym (if-not_less p mark _ false from))
      (cases_lt p mark)

  pub same_bare : (p : ℕ) → set.contains (buffer_of mark new).bare p ≡ set.contains (buffer_of mark old).bare p
  same_bare p = contains-bare mark new p ∙ same_test is_alone p ∙ sym (contains-bare mark old p)

  pub same_repaired : (p : ℕ) → set.contains (buffer_of mark new).repaired p ≡ set.contains (buffer_of mark old).repaired p
  same_repaired p = contains-repaired mark new p ∙ same_test is_found p ∙ sym (contains-repaired mark old p)

-- An entry at the mark or past it was written anew.
module _ (mark : ℕ) (entries : List Slot) (q : ℕ) (entry : Slot) (are : AreEntries mark entries) (ahead : mark ≤ q) (near : q < mark + (length entries - 100)) where
  abbrev after : List Slot
  after = set entries (q - mark + 100) entry

  entry_same : entry_at mark after q ≡ entry
  entry_same =
      let index : q + 100 - mark ≡ q - mark + 100 = omega arith in
      let within : q - mark + 100 < length entries = omega (arith, are.some) in
      entry_at-buffer mark after q (omega arith) ∙ ap (λ k. get_or after k Empty) index
      ∙ get_or-set_same entries (q - mark + 100) entry Empty within

  entry_other : (p : ℕ) → p ≢ q → entry_at mark after p ≡ entry_at mark entries p
  entry_other p other =
      ⊎_elim
      (λ before. entry_at-before mark after p before ∙ sym (entry_at-before mark entries p before))
      (λ from.
      let apart : p + 100 - mark ≢ q - mark + 100 = omega (arith, other, ahead, from) in
      entry_at-buffer mark after p from ∙ get_or-set_other entries (q - mark + 100) (p + 100 - mark) entry Empty apart
      ∙ sym (entry_at-buffer mark entries p from))
      (cases_lt (p + 100) mark)

  entry_below : (p : ℕ) → p < mark → entry_at mark after p ≡ entry_at mark entries p
  entry_below p before = entry_other p (λ same. omega (arith, before, same, ahead))

  pub put_are : AreEntries mark after
  put_are = record {
    some = omega (arith, are.some, length-set entries (q - mark + 100) entry);
    limit = omega (arith, are.limit, length-set entries (q - mark + 100) entry);
    below = λ i less.
        (let apart : i ≢ q - mark + 100 = omega (arith, less) in
        get_or-set_other entries (q - mark + 100) i entry Empty apart ∙ are.below i less);
  }

  -- The solved words are still media words, where a solved one that was put is.
  pub put_media :
      SolvedAreMedia entries → ((word : Word) → entry ≡ Solved word → IsMedia word) → SolvedAreMedia after
  put_media before now i word high is =
      ⊎_elim
      (λ same.
      let within : q - mark + 100 < length entries = omega (arith, are.some) in
      now word
      (sym (ap (λ k. get_or after k Empty) same ∙ get_or-set_same entries (q - mark + 100) entry Empty within) ∙ is))
      (λ other. before i word high (sym (get_or-set_other entries (q - mark + 100) i entry Empty other) ∙ is))
      (cases_eq i (q - mark + 100))

  same_length : (buffer_of mark after).reach ≡ (buffer_of mark entries).reach
  same_length = ap (λ n. n - 100) (length-set entries (q - mark + 100) entry)

  kept_still : (p : ℕ) → map.get (buffer_of mark after).kept p ≡ map.get (buffer_of mark entries).kept p
  kept_still = same_kept mark entries after entry_below

  bare_still : (p : ℕ) → set.contains (buffer_of mark after).bare p ≡ set.contains (buffer_of mark entries).bare p
  bare_still = same_bare mark entries after entry_below

  repaired_still : (p : ℕ) → set.contains (buffer_of mark after).repaired p ≡ set.contains (buffer_of mark entries).repaired p
  repaired_still = same_repaired mark entries after entry_below

  -- What the words of one kind are then, as a choice by the position.
  word_put :
      (f : Slot → Option Word) (now before : Words) (word : Option Word)
      → ((p : ℕ) → map.get now p ≡ (if nat_lt p mark then None else f (entry_at mark after p)))
      → ((p : ℕ) → map.get before p ≡ (if nat_lt p mark then None else f (entry_at mark entries p)))
      → f entry ≡ word → (p : ℕ) → ((p ≡ q) × (map.get now p ≡ word)) ⊎ ((p ≢ q) × (map.get now p ≡ map.get before p))
  word_put f now before word is was told p =
      ⊎_elim
      (λ same.
      let from : mark ≤ p = omega arith in
      inl (same, is p ∙ if-not_less p mark None _ from ∙ ap (λ k. f (entry_at mark after k)) same ∙ ap f entry_same ∙ told))
      (λ other. inr (other, is p ∙ ap (λ e. cond (nat_lt p mark) None (f e)) (entry_other p other) ∙ sym (was p)))
      (cases_eq p q)

  -- So a word is there that the entry has, and none that it lacks.
  word_inserted :
      (f : Slot → Option Word) (now before : Words) (word : Word)
      → ((p : ℕ) → map.get now p ≡ (if nat_lt p mark then None else f (entry_at mark after p)))
      → ((p : ℕ) → map.get before p ≡ (if nat_lt p mark then None else f (entry_at mark entries p)))
      → f entry ≡ Some word → (p : ℕ) → map.get now p ≡ map.get (map.insert before q word) p
  word_inserted f now before word is was told p =
      ⊎_elim
      (λ here. here.1 ∙ sym (inserted before q word p here.0))
      (λ there. there.1 ∙ sym (beside_inserted before q word p there.0))
      (word_put f now before (Some word) is was told p)

  word_removed :
      (f : Slot → Option Word) (now before : Words)
      → ((p : ℕ) → map.get now p ≡ (if nat_lt p mark then None else f (entry_at mark after p)))
      → ((p : ℕ) → map.get before p ≡ (if nat_lt p mark then None else f (entry_at mark entries p)))
      → f entry ≡ None → (p : ℕ) → map.get now p ≡ map.get (map.remove before q) p
  word_removed f now before is was told p =
      ⊎_elim
      (λ here. here.1 ∙ sym (removed before q p here.0))
      (λ there. there.1 ∙ sym (beside_removed before q p there.0))
      (word_put f now before None is was told p)

  word_still :
      (f : Slot → Option Word) (now before : Words)
      → ((p : ℕ) → map.get now p ≡ (if nat_lt p mark then None else f (entry_at mark after p)))
      → ((p : ℕ) → map.get before p ≡ (if nat_lt p mark then None else f (entry_at mark entries p)))
      → f entry ≡ None → map.get before q ≡ None → (p : ℕ) → map.get now p ≡ map.get before p
  word_still f now before is was told none p =
      ⊎_elim
      (λ here. here.1 ∙ sym (ap (λ k. map.get before k) here.0 ∙ none))
      (λ there. there.1)
      (word_put f now before None is was told p)

-- A word was received.
pub received_buffer :
    (mark : ℕ) (entries : List Slot) (q : ℕ) (word : Word) → AreEntries mark entries → mark ≤ q
    → q < mark + (length entries - 100)
    → buffer_of mark (set entries (q - mark + 100) (Media word)) ≡ receives (buffer_of mark entries) q word
received_buffer mark entries q word are ahead near =
    let entry = Media word in
    let new = set entries (q - mark + 100) entry in
    let one = buffer_of mark entries in
    let two = buffer_of mark new in
    same_buffer two (receives one q word) refl (same_length mark entries q entry are ahead near)
    (kept_still mark entries q entry are ahead near)
    (word_inserted mark entries q entry are ahead near received_in two.media one.media word
    (get-media mark new) (get-media mark entries) refl)
    (word_removed mark entries q entry are ahead near solved_in two.solved one.solved
    (get-solved mark new) (get-solved mark entries) refl)
    (word_removed mark entries q entry are ahead near cached_in two.cached one.cached
    (get-cached mark new) (get-cached mark entries) refl)
    (bare_still mark entries q entry are ahead near) (repaired_still mark entries q entry are ahead near)

-- A word was solved where none was received.
pub published_buffer :
    (mark : ℕ) (entries : List Slot) (q : ℕ) (word : Word) → AreEntries mark entries → mark ≤ q
    → q < mark + (length entries - 100) → map.get (buffer_of mark entries).media q ≡ None
    → buffer_of mark (set entries (q - mark + 100) (Solved word)) ≡ publishes (buffer_of mark entries) q word
published_buffer mark entries q word are ahead near none =
    let entry = Solved word in
    let new = set entries (q - mark + 100) entry in
    let one = buffer_of mark entries in
    let two = buffer_of mark new in
    same_buffer two (publishes one q word) refl (same_length mark entries q entry are ahead near)
    (kept_still mark entries q entry are ahead near)
    (word_still mark entries q entry are ahead near received_in two.media one.media
    (get-media mark new) (get-media mark entries) refl none)
    (word_inserted mark entries q entry are ahead near solved_in two.solved one.solved word
    (get-solved mark new) (get-solved mark entries) refl)
    (word_removed mark entries q entry are ahead near cached_in two.cached one.cached
    (get-cached mark new) (get-cached mark entries) refl)
    (bare_still mark entries q entry are ahead near) (repaired_still mark entries q entry are ahead near)

-- The entries at the mark and past it have become others.
module _
    (change : Slot → Slot) (mark : ℕ) (old new : List Slot) (are : AreEntries mark old) (size : length new ≡ length old)
    (becomes : Becomes change old new)
  where
    before_still : (p : ℕ) → p < mark → entry_at mark new p ≡ entry_at mark old p
    before_still p before =
        ⊎_elim
        (λ far. entry_at-before mark new p far ∙ sym (entry_at-before mark old p far))
        (λ from.
        let low : p + 100 - mark < 100 = omega arith in
        entry_at-buffer mark new p from ∙ becomes (p + 100 - mark) ∙ if-less (p + 100 - mark) 100 _ _ low
        ∙ sym (entry_at-buffer mark old p from))
        (cases_lt (p + 100) mark)

    ahead_becomes : (p : ℕ) → mark ≤ p → entry_at mark new p ≡ change (entry_at mark old p)
    ahead_becomes p from =
        let high : 100 ≤ p + 100 - mark = omega arith in
        let up : mark ≤ p + 100 = omega arith in
        entry_at-buffer mark new p up ∙ becomes (p + 100 - mark) ∙ if-not_less (p + 100 - mark) 100 _ _ high
        ∙ ap change (sym (entry_at-buffer mark old p up))

    pub changed_are : AreEntries mark new
    changed_are = record {
      some = omega (arith, are.some, size);
      limit = omega (arith, are.limit, size);
      below = λ i less.
          (let low : i < 100 = omega arith in becomes i ∙ if-less i 100 _ _ low ∙ are.below i less);
    }

    -- Words of a kind that the change keeps are the same, and of a kind that it takes there are none.
    words_still :
        (f : Slot → Option Word) (now before : Words)
        → ((p : ℕ) → map.get now p ≡ (if nat_lt p mark then None else f (entry_at mark new p)))
        → ((p : ℕ) → map.get before p ≡ (if nat_lt p mark then None else f (entry_at mark old p)))
        → ((entry : Slot) → f (change entry) ≡ f entry) → (p : ℕ) → map.get now p ≡ map.get before p
    words_still f now before is was keeps p =
        is p
        ∙ ⊎_elim
        (λ low. if-less p mark None _ low ∙ sym (if-less p mark None _ low))
        (λ from.
        if-not_less p mark None _ from ∙ ap f (ahead_becomes p from) ∙ keeps (entry_at mark old p)
        ∙ sym (if-not_less p mark None _ from))
        (cases_lt p mark)
        ∙ sym (was p)

    words_gone :
        (f : Slot → Option Word) (now : Words)
        → ((p : ℕ) → map.get now p ≡ (if nat_lt p mark then None else f (entry_at mark new p)))
        → ((entry : Slot) → f (change entry) ≡ None) → (p : ℕ) → map.get now p ≡ map.get (map.empty {X = Word} {R = nat_cmp}) p
    words_gone f now is takes p =
        is p
        ∙ ⊎_elim
        (λ low. if-less p mark None _ low)
        (λ from. if-not_less p mark None _ from ∙ ap f (ahead_becomes p from) ∙ takes (entry_at mark old p))
        (cases_lt p mark)
        ∙ sym (map.get-empty nat_cmp p)

-- Words are forgotten: those that stand alone and, where it is said so, those that were solved.
received-left : (solved : Bool) (e : Slot) → received_in (left_of solved e) ≡ received_in e
received-left solved Empty = refl
received-left solved (Media word) = refl
received-left true (Solved word) = refl
received-left false (Solved word) = refl
received-left solved (Filled word) = refl

cached-left : (solved : Bool) (e : Slot) → cached_in (left_of solved e) ≡ None
cached-left solved Empty = refl
cached-left solved (Media word) = refl
cached-left true (Solved word) = refl
cached-left false (Solved word) = refl
cached-left solved (Filled word) = refl

solved-left : (e : Slot) → solved_in (left_of false e) ≡ solved_in e
solved-left Empty = refl
solved-left (Media word) = refl
solved-left (Solved word) = refl
solved-left (Filled word) = refl

solved-gone : (e : Slot) → solved_in (left_of true e) ≡ None
solved-gone Empty = refl
solved-gone (Media word) = refl
solved-gone (Solved word) = refl
solved-gone (Filled word) = refl

solved_after :
    (solved : Bool) (mark : ℕ) (old new : List Slot) → AreEntries mark old → length new ≡ length old → Forgets solved old new
    → (p : ℕ) → map.get (buffer_of mark new).solved p ≡ map.get (forgets solved (buffer_of mark old)).solved p
solved_after true mark old new are size becomes =
    words_gone (left_of true) mark old new are size becomes solved_in (buffer_of mark new).solved (get-solved mark new) solved-gone
solved_after false mark old new are size becomes =
    words_still (left_of false) mark old new are size becomes solved_in (buffer_of mark new).solved (buffer_of mark old).solved
    (get-solved mark new) (get-solved mark old) solved-left

pub forgotten_buffer :
    (solved : Bool) (mark : ℕ) (old new : List Slot) → AreEntries mark old → length new ≡ length old → Forgets solved old new
    → buffer_of mark new ≡ forgets solved (buffer_of mark old)
forgotten_buffer solved mark old new are size becomes =
    let one = buffer_of mark old in
    let two = buffer_of mark new in
    let below = before_still (left_of solved) mark old new are size becomes in
    same_buffer two (forgets solved one) refl (ap (λ n. n - 100) size)
    (same_kept mark old new below)
    (words_still (left_of solved) mark old new are size becomes received_in two.media one.media
    (get-media mark new) (get-media mark old) (received-left solved))
    (solved_after solved mark old new are size becomes)
    (words_gone (left_of solved) mark old new are size becomes cached_in two.cached (get-cached mark new) (cached-left solved))
    (same_bare mark old new below) (same_repaired mark old new below)

left_solved : (solved : Bool) (e : Slot) (word : Word) → left_of solved e ≡ Solved word → (solved ≡ false) × (e ≡ Solved word)
left_solved solved Empty word is = absurd (cc)
left_solved solved (Media w) word is = absurd (cc)
left_solved true (Solved w) word is = absurd (cc)
left_solved false (Solved w) word is = (refl, is)
left_solved solved (Filled w) word is = absurd (cc)

pub forgotten_media :
    (solved known : Bool) (old new : List Slot) → Forgets solved old new → (IsTrue known → SolvedAreMedia old)
    → IsTrue (known || solved) → SolvedAreMedia new
forgotten_media solved known old new becomes before all i word high is =
    let left = left_solved solved (get_or old i Empty) word (sym (becomes i ∙ if-not_less i 100 _ _ high) ∙ is) in
    before (or_left known solved all left.0) i word high left.1
  where
    or_left : (a b : Bool) → IsTrue (a || b) → b ≡ false → IsTrue a
    or_left true b all none = refl
    or_left false b all none = absurd (cc)

-- The mark has moved on.
alone_is : (e : Slot) → is_alone e ≡ (is_some (word_in e) && is_alone e)
alone_is Empty = refl
alone_is (Media word) = refl
alone_is (Solved word) = refl
alone_is (Filled word) = refl

alone_not_shared :
    (e : Slot)
    → is_alone e ≡ (is_some (word_in e) && (not (is_some (received_in e)) && not (is_some (solved_in e))))
alone_not_shared Empty = refl
alone_not_shared (Media word) = refl
alone_not_shared (Solved word) = refl
alone_not_shared (Filled word) = refl

found_is : (e : Slot) → is_found e ≡ (is_some (word_in e) && is_found e)
found_is Empty = refl
found_is (Media word) = refl
found_is (Solved word) = refl
found_is (Filled word) = refl

found_not_received : (e : Slot) → is_found e ≡ (is_some (word_in e) && not (is_some (received_in e)))
found_not_received Empty = refl
found_not_received (Media word) = refl
found_not_received (Solved word) = refl
found_not_received (Filled word) = refl

module _
    (mark count : ℕ) (old new : List Slot) (are : AreEntries mark old) (size : length new ≡ length old)
    (shifts : (k : ℕ) → get_or new k Empty ≡ get_or old (k + count) Empty)
    (limit : mark + count + length old ≤ 2 ^ 62)
  where
    shifted : (p : ℕ) → mark + count ≤ p + 100 → entry_at (mark + count) new p ≡ entry_at mark old p
    shifted p from =
        let index : p + 100 - (mark + count) + count ≡ p + 100 - mark = omega arith in
        let up : mark ≤ p + 100 = omega arith in
        entry_at-buffer (mark + count) new p from ∙ shifts (p + 100 - (mark + count)) ∙ ap (λ k. get_or old k Empty) index
        ∙ sym (entry_at-buffer mark old p up)

    pub shifted_are : AreEntries (mark + count) new
    shifted_are = record {
      some = omega (arith, are.some, size);
      limit = omega (arith, limit, size);
      below = λ i less. shifts i ∙ are.below (i + count) (omega (arith, less));
    }

    pub shifted_media : SolvedAreMedia old → SolvedAreMedia new
    shifted_media before i word high is = before (i + count) word (omega (arith, high)) (sym (shifts i) ∙ is)

    kept_after :
        (p : ℕ) → map.get (buffer_of (mark + count) new).kept p
        ≡ (if nat_lt p (mark + count) && nat_le (mark + count) (p + 100) then buffer_words (buffer_of mark old) p else None)
    kept_after p =
        let b = nat_le (mark + count) (p + 100) in
        let words = buffer_words (buffer_of mark old) p in
        get-kept (mark + count) new p
        ∙ ⊎_elim
        (λ before.
        if-less p (mark + count) _ None before
        ∙ ⊎_elim
        (λ far.
        ap word_in (entry_at-before (mark + count) new p far)
        ∙ sym (ap (λ c. cond (c && b) words None) (lt_is p before) ∙ ap (λ c. cond c words None) (lt-leb (mark + count) (p + 100) far)))
        (λ near.
        ap word_in (shifted p near) ∙ sym (buffer_words-entry mark old p)
        ∙ sym (ap (λ c. cond (c && b) words None) (lt_is p before) ∙ ap (λ c. cond c words None) (le-leb (mark + count) (p + 100) near)))
        (cases_lt (p + 100) (mark + count)))
        (λ from. if-not_less p (mark + count) _ None from ∙ sym (ap (λ c. cond (c && b) words None) (ge_is p from)))
        (cases_lt p (mark + count))
      where
        lt_is : (p : ℕ) → p < mark + count → nat_lt p (mark + count) ≡ true
        lt_is p before = lt-ltb p (mark + count) before

        ge_is : (p : ℕ) → mark + count ≤ p → nat_lt p (mark + count) ≡ false
        ge_is p from = le-ltb p (mark + count) from

    ahead_after :
        (f : Slot → Option Word) (p : ℕ)
        → (if nat_lt p (mark + count) then None else f (entry_at (mark + count) new p))
        ≡ (if nat_lt p (mark + count) then None else (if nat_lt p mark then None else f (entry_at mark old p)))
    ahead_after f p =
        ⊎_elim
        (λ before. if-less p (mark + count) None _ before ∙ sym (if-less p (mark + count) None _ before))
        (λ from.
        let up : mark + count ≤ p + 100 = omega arith in
        let past : mark ≤ p = omega arith in
        if-not_less p (mark + count) None _ from ∙ ap f (shifted p up)
        ∙ sym (if-not_less p (mark + count) None _ from ∙ if-not_less p mark None _ past))
        (cases_lt p (mark + count))

    -- A test of the kept positions tells of those that were played what another one tells of their entries.
    test_after :
        (test other : Slot → Bool) (p : ℕ) (rest : Bool)
        → ((e : Slot) → test e ≡ (is_some (word_in e) && test e))
        → ((e : Slot) → test e ≡ (is_some (word_in e) && other e)) → test Empty ≡ false
        → (p < mark → rest ≡ test (entry_at mark old p)) → (mark ≤ p → rest ≡ other (entry_at mark old p))
        → (if nat_lt p (mark + count) then test (entry_at (mark + count) new p) else false)
        ≡ (is_some (map.get (buffer_of (mark + count) new).kept p) && rest)
    test_after test other p rest has played empty low_is high_is =
        let kept = get-kept (mark + count) new p in
        ⊎_elim
        (λ before.
        let now = kept ∙ if-less p (mark + count) _ None before in
        if-less p (mark + count) _ false before
        ∙ ⊎_elim
        (λ far.
        let at = entry_at-before (mark + count) new p far in
        ap test at ∙ empty ∙ ap (λ (o : Option Word). is_some o && rest) (sym (now ∙ ap word_in at)))
        (λ near.
        let at = shifted p near in
        let e = entry_at mark old p in
        ap test at
        ∙ ⊎_elim
        (λ low. has e ∙ ap (λ b. is_some (word_in e) && b) (sym (low_is low)))
        (λ high. played e ∙ ap (λ b. is_some (word_in e) && b) (sym (high_is high)))
        (cases_lt p mark)
        ∙ ap (λ (o : Option Word). is_some o && rest) (sym (now ∙ ap word_in at)))
        (cases_lt (p + 100) (mark + count)))
        (λ from.
        if-not_less p (mark + count) _ false from
        ∙ ap (λ (o : Option Word). is_some o && rest) (sym (kept ∙ if-not_less p (mark + count) _ None from)))
        (cases_lt p (mark + count))

    media_at : (p : ℕ) → mark ≤ p → map.get (buffer_of mark old).media p ≡ received_in (entry_at mark old p)
    media_at p high = get-media mark old p ∙ if-not_less p mark None _ high

    solved_is : (p : ℕ) → mark ≤ p → map.get (buffer_of mark old).solved p ≡ solved_in (entry_at mark old p)
    solved_is p high = get-solved mark old p ∙ if-not_less p mark None _ high

    bare_after :
        (p : ℕ) → set.contains (buffer_of (mark + count) new).bare p
        ≡ (is_some (map.get (buffer_of (mark + count) new).kept p)
        && (if nat_lt p mark then set.contains (buffer_of mark old).bare p
        else (not (is_some (map.get (buffer_of mark old).media p)) && not (is_some (map.get (buffer_of mark old).solved p)))))
    bare_after p =
        let buffer = buffer_of mark old in
        contains-bare (mark + count) new p
        ∙ test_after is_alone (λ e. not (is_some (received_in e)) && not (is_some (solved_in e))) p _ alone_is alone_not_shared refl
        (λ low. if-less p mark _ _ low ∙ contains-bare mark old p ∙ if-less p mark _ false low)
        (λ high.
        if-not_less p mark (set.contains buffer.bare p) _ high
        ∙ ap (λ (o : Option Word). not (is_some o) && not (is_some (map.get buffer.solved p))) (media_at p high)
        ∙ ap (λ (o : Option Word). not (is_some (received_in (entry_at mark old p))) && not (is_some o)) (solved_is p high))

    repaired_after :
        (p : ℕ) → set.contains (buffer_of (mark + count) new).repaired p
        ≡ (is_some (map.get (buffer_of (mark + count) new).kept p)
        && (if nat_lt p mark then set.contains (buffer_of mark old).repaired p
        else not (is_some (map.get (buffer_of mark old).media p))))
    repaired_after p =
        let buffer = buffer_of mark old in
        contains-repaired (mark + count) new p
        ∙ test_after is_found (λ e. not (is_some (received_in e))) p _ found_is found_not_received refl
        (λ low. if-less p mark _ _ low ∙ contains-repaired mark old p ∙ if-less p mark _ false low)
        (λ high.
        if-not_less p mark (set.contains buffer.repaired p) _ high
        ∙ ap (λ (o : Option Word). not (is_some o)) (media_at p high))

    pub shifted_buffer : Advances count (buffer_of mark old) (buffer_of (mark + count) new)
    shifted_buffer = record {
      mark = refl;
      reach = ap (λ n. n - 100) size;
      kept = kept_after;
      media = λ p.
          (get-media (mark + count) new p ∙ ahead_after received_in p
          ∙ ap (λ o. cond (nat_lt p (mark + count)) None o) (sym (get-media mark old p)));
      solved = λ p.
          (get-solved (mark + count) new p ∙ ahead_after solved_in p
          ∙ ap (λ o. cond (nat_lt p (mark + count)) None o) (sym (get-solved mark old p)));
      cached = λ p.
          (get-cached (mark + count) new p ∙ ahead_after cached_in p
          ∙ ap (λ o. cond (nat_lt p (mark + count)) None o) (sym (get-cached mark old p)));
      bare = bare_after;
      repaired = repaired_after;
    }

-- The highest word.
pub highest_buffer :
    (mark : ℕ) (entries : List Slot) (last : ℕ) → IsLastWord entries last
    → IsHighestWord (buffer_of mark entries) (mark + (last - 100))
highest_buffer mark entries last is = (
  omega arith,
  record {
    inside =
        (let up : mark ≤ mark + (last - 100) + 100 = omega arith in
        let index : mark + (last - 100) + 100 - mark ≡ last = omega (arith, is.ahead) in
        some_along _ _
        (sym (buffer_words-entry mark entries (mark + (last - 100)) ∙ ap word_in (entry_at-buffer mark entries (mark + (last - 100)) up)
        ∙ ap (λ k. word_in (get_or entries k Empty)) index)) is.word);
    greatest = λ other some.
        ⊎_elim
        (λ past.
        let up : mark ≤ other + 100 = omega arith in
        let later : last + 1 ≤ other + 100 - mark = omega (arith, past, is.ahead) in
        absurd (none_has_no_value _
        (buffer_words-entry mark entries other ∙ ap word_in (entry_at-buffer mark entries other up)
        ∙ is.none_later (other + 100 - mark) later) some))
        (λ within. within)
        (cases_lt (mark + (last - 100)) other);
  },
)

pub no_highest_buffer :
    (mark : ℕ) (entries : List Slot) → HasNoWordFrom entries 100 → (p : ℕ) → mark ≤ p
    → buffer_words (buffer_of mark entries) p ≡ None
no_highest_buffer mark entries none p from =
    let up : mark ≤ p + 100 = omega arith in
    let high : 100 ≤ p + 100 - mark = omega arith in
    buffer_words-entry mark entries p ∙ ap word_in (entry_at-buffer mark entries p up) ∙ none (p + 100 - mark) high

-- The buffer at first.
pub opened_are :
    (entries : List Slot) (depth : ℕ) → length entries ≡ depth + 200 → depth ≤ 1000
    → ((k : ℕ) → get_or entries k Empty ≡ Empty) → AreEntries 0 entries
opened_are entries depth size limit empty =
    record { some = omega arith; limit = omega arith; below = λ i less. empty i }

pub opened_media : (entries : List Slot) → ((k : ℕ) → get_or entries k Empty ≡ Empty) → SolvedAreMedia entries
opened_media entries empty i word high is = let e : Empty ≡ Solved word = sym (empty i) ∙ is in absurd (cc)

pub opened_buffer_is :
    (entries : List Slot) (depth : ℕ) → length entries ≡ depth + 200 → ((k : ℕ) → get_or entries k Empty ≡ Empty)
    → buffer_of 0 entries ≡ opened_buffer (depth + 100)
opened_buffer_is entries depth size empty =
    same_buffer (buffer_of 0 entries) (opened_buffer (depth + 100)) refl (omega arith)
    (λ p. get-kept 0 entries p ∙ if-not_less p 0 _ None (omega arith) ∙ sym (map.get-empty nat_cmp p))
    (λ p. get-media 0 entries p ∙ nothing received_in p refl)
    (λ p. get-solved 0 entries p ∙ nothing solved_in p refl)
    (λ p. get-cached 0 entries p ∙ nothing cached_in p refl)
    (λ p. contains-bare 0 entries p ∙ if-not_less p 0 _ false (omega arith) ∙ sym (set.contains-empty nat_cmp p))
    (λ p. contains-repaired 0 entries p ∙ if-not_less p 0 _ false (omega arith) ∙ sym (set.contains-empty nat_cmp p))
  where
    nothing :
        (f : Slot → Option Word) (p : ℕ) → f Empty ≡ None
        → (if nat_lt p 0 then None else f (entry_at 0 entries p)) ≡ map.get (map.empty {X = Word} {R = nat_cmp}) p
    nothing f p none =
        if-not_less p 0 None _ (omega arith) ∙ ap f (entry_at-buffer 0 entries p (omega arith) ∙ empty (p + 100 - 0)) ∙ none
        ∙ sym (map.get-empty nat_cmp p)
