-- Small slots, and the places of their found words.
use Rattle.std.proofs.Common.{◌≡◌, ◌≢◌, ◌⊎◌, inl, inr, ◌+◌, ◌-◌, ◌<◌, ◌≤◌, ℕ, suc, Bool, false, cond, List, [], ◌∷◌, length, get_or, set, take, drop, length-drop, Option, Some, None, IsSome, is_some, refl, sym, ap, ◌∙◌, ⊎_elim, subst, zero-add, arith}
use Rattle.std.specs.List.{count_by, swap}
use Rattle.std.proofs.Math.ListN.{get_or-map}
use Rattle.std.proofs.lemmas.Bool.{cases_eq}
use Rattle.std.proofs.lemmas.List.{ext_get_or, get_or-take, get_or-drop, length-take, get_or-set_same, get_or-set_other, length-set, length-map, map-set, get_or_default}
use Rattle.std.proofs.lemmas.List.Edits.{swap_is}
use Rattle.std.proofs.lemmas.List.Sums.{count_by-le-length, sum_by-cons, sum_by-set}
use Rattle.slab.specs.Slab.{Slab, get, slab_len}
use Rattle.fg_words.specs.declared.Word.{Word}
use Rattle.fg_peel.specs.declared.Slot.{Slot}
use Rattle.fg_peel.specs.declared.Slot.TheVariants.{Empty}
use Rattle.fg_peel.specs.Slots.{with_word, word_in}
use Rattle.fg_buffer.specs.declared.small_slots.SmallSlot.{SmallSlot}
use Rattle.fg_buffer.specs.declared.small_slots.SmallSlot.TheVariants.{Nothing, Media, Solved, Found}
use Rattle.fg_buffer.specs.SmallSlots.{found, said, said_by, has_place, AreHeld}

pub get_said :
    (words : Slab Word) (slots : List SmallSlot) (k : ℕ) → get_or (said_by words slots) k Empty ≡ said words (get_or slots k Nothing)
get_said words slots k = get_or-map (said words) slots k Nothing

pub said_count : (words : Slab Word) (slots : List SmallSlot) → length (said_by words slots) ≡ length slots
said_count words slots = length-map slots (said words)

-- how many places a small slot has
abbrev pub taken : SmallSlot → ℕ
taken s = cond (has_place s) 1 0

said_same :
    (words words' : Slab Word) (s : SmallSlot) → ((place : ℕ) → s ≡ Found place → get words' place ≡ get words place)
    → said words' s ≡ said words s
said_same words words' Nothing same = refl
said_same words words' (Media share) same = refl
said_same words words' (Solved share) same = refl
said_same words words' (Found place) same = ap found (same place refl)

-- One small slot changes, and with it the words of no other one.
pub record Changes (slots : List SmallSlot) (words words' : Slab Word) (i : ℕ) (s : SmallSlot) : Type 0 where
  pub within : i < length slots
  pub others : (k place : ℕ) → k ≢ i → get_or slots k Nothing ≡ Found place → get words' place ≡ get words place
  pub own : (place : ℕ) → s ≡ Found place → IsSome (get words' place)
  pub alone : (k place : ℕ) → k ≢ i → get_or slots k Nothing ≡ Found place → s ≢ Found place
  pub count : slab_len words' + taken (get_or slots i Nothing) ≡ slab_len words + taken s
  pub capacity : words'.capacity ≡ words.capacity

module _ (slots : List SmallSlot) (words words' : Slab Word) (i : ℕ) (s : SmallSlot) (c : Changes slots words words' i s) where
  here : get_or (set slots i s) i Nothing ≡ s
  here = get_or-set_same slots i s Nothing c.within

  elsewhere : (k : ℕ) → k ≢ i → get_or (set slots i s) k Nothing ≡ get_or slots k Nothing
  elsewhere k n = get_or-set_other slots i k s Nothing n

  pub changes_said : said_by words' (set slots i s) ≡ set (said_by words slots) i (said words' s)
  changes_said =
      ext_get_or Empty (said_by words' (set slots i s)) (set (said_by words slots) i (said words' s))
      (length-map (set slots i s) (said words') ∙ length-set slots i s ∙ sym (length-set (said_by words slots) i (said words' s) ∙ length-map slots (said words)))
      (λ k less.
      get_said words' (set slots i s) k
      ∙ ⊎_elim
      (λ (same : k ≡ i).
      let inside : i < length (said_by words slots) = omega (arith, c.within, length-map slots (said words)) in
      ap (λ (n : ℕ). said words' (get_or (set slots i s) n Nothing)) same ∙ ap (said words') here
      ∙ sym (ap (λ (n : ℕ). get_or (set (said_by words slots) i (said words' s)) n Empty) same
      ∙ get_or-set_same (said_by words slots) i (said words' s) Empty inside))
      (λ (n : k ≢ i).
      ap (said words') (elsewhere k n) ∙ said_same words words' (get_or slots k Nothing) (λ place is. c.others k place n is)
      ∙ sym (get_said words slots k) ∙ sym (get_or-set_other (said_by words slots) i k (said words' s) Empty n))
      (cases_eq k i))

  module _ (h : AreHeld slots words) where
    held' : (k place : ℕ) → get_or (set slots i s) k Nothing ≡ Found place → IsSome (get words' place)
    held' k place is = ⊎_elim
        (λ (same : k ≡ i).
        c.own place (sym here ∙ ap (λ (n : ℕ). get_or (set slots i s) n Nothing) (sym same) ∙ is))
        (λ (n : k ≢ i).
        let old : get_or slots k Nothing ≡ Found place = sym (elsewhere k n) ∙ is in
        let P : Option Word → Type 0 = λ o. IsSome o in
        subst P (sym (c.others k place n old)) (h.held k place old))
        (cases_eq k i)

    at_here : (k place : ℕ) → k ≡ i → get_or (set slots i s) k Nothing ≡ Found place → s ≡ Found place
    at_here k place same is = sym here ∙ ap (λ (n : ℕ). get_or (set slots i s) n Nothing) (sym same) ∙ is

    apart' : (k j place : ℕ) → get_or (set slots i s) k Nothing ≡ Found place → get_or (set slots i s) j Nothing ≡ Found place → k ≡ j
    apart' k j place one other = ⊎_elim
        (λ (same : k ≡ i). ⊎_elim
        (λ (same' : j ≡ i). same ∙ sym same')
        (λ (n : j ≢ i). absurd (c.alone j place n (sym (elsewhere j n) ∙ other) (at_here k place same one)))
        (cases_eq j i))
        (λ (n : k ≢ i). ⊎_elim
        (λ (same' : j ≡ i). absurd (c.alone k place n (sym (elsewhere k n) ∙ one) (at_here j place same' other)))
        (λ (n' : j ≢ i). h.apart k j place (sym (elsewhere k n) ∙ one) (sym (elsewhere j n') ∙ other))
        (cases_eq j i))
        (cases_eq k i)

    pub changes_held : AreHeld (set slots i s) words'
    changes_held = record {
      held = held';
      apart = apart';
      count = omega (arith, sum_by-set taken slots i s Nothing c.within, c.count, h.count);
      room = omega (arith, h.room, c.capacity, length-set slots i s);
    }

found_some : (o : Option Word) → IsSome o → found o ≢ Empty
found_some None some is = absurd (cc)
found_some (Some word) some is = absurd (cc)

nothing_of : (words : Slab Word) (s : SmallSlot) → said words s ≡ Empty → ((place : ℕ) → s ≡ Found place → IsSome (get words place)) → s ≡ Nothing
nothing_of words Nothing is some = refl
nothing_of words (Media share) is some = absurd (cc)
nothing_of words (Solved share) is some = absurd (cc)
nothing_of words (Found place) is some = absurd (found_some (get words place) (some place refl) is)

not_found : (s : SmallSlot) (place : ℕ) → has_place s ≡ false → s ≢ Found place
not_found Nothing place plain is = absurd (cc)
not_found (Media share) place plain is = absurd (cc)
not_found (Solved share) place plain is = absurd (cc)
not_found (Found other) place plain is = absurd (cc)

none-is_some : (o : Option Word) → o ≡ None → IsSome o → ⊥
none-is_some None is some = absurd (cc)
none-is_some (Some word) is some = absurd (cc)

module _ (slots : List SmallSlot) (words : Slab Word) (h : AreHeld slots words) (i : ℕ) (within : i < length slots) where
  -- where nothing is said, there is nothing
  pub nothing_there : get_or (said_by words slots) i Empty ≡ Empty → get_or slots i Nothing ≡ Nothing
  nothing_there empty =
      nothing_of words (get_or slots i Nothing) (sym (get_said words slots i) ∙ empty) (λ place is. h.held i place is)

  -- another content comes where no found word is
  pub puts :
      (s : SmallSlot) → has_place (get_or slots i Nothing) ≡ false → has_place s ≡ false → Changes slots words words i s
  puts s none plain = record {
    within = within;
    others = λ k place n is. refl;
    own = λ place is. absurd (not_found s place plain is);
    alone = λ k place n is. not_found s place plain;
    count = ap (λ (b : Bool). slab_len words + cond b 1 0) none ∙ sym (ap (λ (b : Bool). slab_len words + cond b 1 0) plain);
    capacity = refl;
  }

  pub puts_there :
      (s : SmallSlot) → get_or (said_by words slots) i Empty ≡ Empty → has_place s ≡ false → Changes slots words words i s
  puts_there s empty plain = puts s (ap has_place (nothing_there empty)) plain

  -- there is room for one more found word where there is none
  pub has_room : get_or (said_by words slots) i Empty ≡ Empty → slab_len words + 1 ≤ words.capacity
  has_room empty =
      let none : taken (get_or slots i Nothing) ≡ 0 = ap taken (nothing_there empty) in
      omega (
        arith,
        sum_by-set taken slots i (Found 0) Nothing within,
        none,
        count_by-le-length has_place (set slots i (Found 0)),
        length-set slots i (Found 0),
        h.count,
        h.room,
      )

  -- a found word comes where nothing is
  module _ (words' : Slab Word) (place : ℕ) (word : Word) (vacant : get words place ≡ None) (now : get words' place ≡ Some word)
      (others : (other : ℕ) → other ≢ place → get words' other ≡ get words other) (one_more : slab_len words' ≡ slab_len words + 1)
      (capacity : words'.capacity ≡ words.capacity) (empty : get_or (said_by words slots) i Empty ≡ Empty) where
    other_place : (k other : ℕ) → get_or slots k Nothing ≡ Found other → other ≢ place
    other_place k other is same =
        none-is_some (get words other) (ap (get words) same ∙ vacant) (h.held k other is)

    pub fills : Changes slots words words' i (Found place)
    fills = record {
      within = within;
      others = λ k other n is. others other (other_place k other is);
      own = λ other is. (
          let same : place ≡ other = cc in
          let P : Option Word → Type 0 = λ o. IsSome o in
          subst P (sym (ap (get words') (sym same) ∙ now)) refl);
      alone = λ k other n is same. (let equal : other ≡ place = cc in other_place k other is equal);
      count = omega (arith, one_more, ap taken (nothing_there empty));
      capacity = capacity;
    }

  -- a found word goes
  pub clears :
      (words' : Slab Word) (place : ℕ) → get_or slots i Nothing ≡ Found place
      → ((other : ℕ) → other ≢ place → get words' other ≡ get words other) → slab_len words' + 1 ≡ slab_len words
      → words'.capacity ≡ words.capacity → Changes slots words words' i Nothing
  clears words' place is others fewer capacity = record {
    within = within;
    others = λ k other n there. others other (λ same. n (h.apart k i other there (is ∙ ap Found (sym same))));
    own = λ other there. absurd (not_found Nothing other refl there);
    alone = λ k other n there. not_found Nothing other refl;
    count = omega (arith, fewer, ap taken is);
    capacity = capacity;
  }

  -- the found word changes
  pub changes_word :
      (words' : Slab Word) (place : ℕ) → get_or slots i Nothing ≡ Found place → IsSome (get words' place)
      → ((other : ℕ) → other ≢ place → get words' other ≡ get words other) → slab_len words' ≡ slab_len words
      → words'.capacity ≡ words.capacity → Changes slots words words' i (Found place)
  changes_word words' place is some others same_count capacity = record {
    within = within;
    others = λ k other n there. others other (λ same. n (h.apart k i other there (is ∙ ap Found (sym same))));
    own = λ other there. (
        let same : place ≡ other = cc in
        let P : ℕ → Type 0 = λ p. IsSome (get words' p) in
        subst P same some);
    alone = λ k other n there same. (
        let equal : place ≡ other = cc in
        n (h.apart k i other there (is ∙ ap Found equal)));
    count = omega (arith, same_count, ap taken is);
    capacity = capacity;
  }

-- A share comes where nothing is said.
module _
    (slots : List SmallSlot) (words : Slab Word) (h : AreHeld slots words) (view : List Slot) (is : said_by words slots ≡ view)
    (i : ℕ) (s : SmallSlot) (within : i < length view) (empty : get_or view i Empty ≡ Empty) (plain : has_place s ≡ false) where
  put_changes : Changes slots words words i s
  put_changes =
      puts_there slots words h i (omega (arith, within, ap (λ (ss : List Slot). length ss) is, said_count words slots)) s
      (ap (λ (ss : List Slot). get_or ss i Empty) is ∙ empty) plain

  pub put_held : AreHeld (set slots i s) words
  put_held = changes_held slots words words i s put_changes h

  pub put_said : said_by words (set slots i s) ≡ set view i (said words s)
  put_said = changes_said slots words words i s put_changes ∙ ap (λ (ss : List Slot). set ss i (said words s)) is

no_place : (s : SmallSlot) → ((place : ℕ) → s ≡ Found place → ⊥) → has_place s ≡ false
no_place Nothing other = refl
no_place (Media share) other = refl
no_place (Solved share) other = refl
no_place (Found place) other = absurd (other place refl)

pub at_is : (slots : List SmallSlot) (i : ℕ) (s : SmallSlot) → i < length slots → s ≡ get_or slots i s → get_or slots i Nothing ≡ s
at_is slots i s within is = get_or_default slots i Nothing s within ∙ sym is

pub no_place_at :
    (slots : List SmallSlot) (i : ℕ) (s : SmallSlot) → i < length slots → s ≡ get_or slots i s
    → ((place : ℕ) → s ≡ Found place → ⊥) → has_place (get_or slots i Nothing) ≡ false
no_place_at slots i s within is other = ap has_place (at_is slots i s within is) ∙ no_place s other

set_same : (slots : List SmallSlot) (i : ℕ) (s : SmallSlot) → i < length slots → get_or slots i Nothing ≡ s → set slots i s ≡ slots
set_same slots i s within is =
    ext_get_or Nothing (set slots i s) slots (length-set slots i s) (λ k less. ⊎_elim
    (λ (same : k ≡ i).
    ap (λ (n : ℕ). get_or (set slots i s) n Nothing) same ∙ get_or-set_same slots i s Nothing within ∙ sym is
    ∙ ap (λ (n : ℕ). get_or slots n Nothing) (sym same))
    (λ (n : k ≢ i). get_or-set_other slots i k s Nothing n)
    (cases_eq k i))

still_some : (new old : Option Word) (added : Word) → IsSome old → found new ≡ with_word (found old) (Some added) → IsSome new
still_some (Some word) old added some is = refl
still_some None (Some word) added some is = absurd (cc)
still_some None None added some is = absurd (cc)

-- a found word has gained the word of another slot
module _
    (slots : List SmallSlot) (words words' : Slab Word) (h : AreHeld slots words) (i other place : ℕ) (within : i < length slots)
    (is : get_or slots i Nothing ≡ Found place) (added : Word) (told : word_in (get_or (said_by words slots) other Empty) ≡ Some added)
    (changed : found (get words' place) ≡ with_word (found (get words place)) (Some added))
    (others : (key : ℕ) → key ≢ place → get words' key ≡ get words key) (same_count : slab_len words' ≡ slab_len words)
    (capacity : words'.capacity ≡ words.capacity) where
  gains : Changes slots words words' i (Found place)
  gains =
      changes_word slots words h i within words' place is
      (still_some (get words' place) (get words place) added (h.held i place is) changed) others same_count capacity

  pub gained_said :
      said_by words' slots
      ≡ set (said_by words slots) i (with_word (get_or (said_by words slots) i Empty) (word_in (get_or (said_by words slots) other Empty)))
  gained_said =
      let as_said : get_or (said_by words slots) i Empty ≡ found (get words place) = get_said words slots i ∙ ap (said words) is in
      ap (said_by words') (sym (set_same slots i (Found place) within is))
      ∙ changes_said slots words words' i (Found place) gains
      ∙ ap (set (said_by words slots) i)
      (changed ∙ sym (ap (λ (e : Slot). with_word e (word_in (get_or (said_by words slots) other Empty))) as_said
      ∙ ap (with_word (found (get words place))) told))

  pub gained_held : AreHeld slots words'
  gained_held =
      subst (λ (s : List SmallSlot). AreHeld s words') (set_same slots i (Found place) within is)
      (changes_held slots words words' i (Found place) gains h)

-- Where what stands at a place now stood before two places were exchanged.
abbrev pub Kind : ℕ → ℕ → ℕ → ℕ → Type 0
Kind i j k m = ((k ≡ j) × (m ≡ i)) ⊎ (((k ≡ i) × (m ≡ j)) ⊎ ((k ≢ j) × (k ≢ i) × (m ≡ k)))

same_kind : (i j k k' m m' : ℕ) → Kind i j k m → Kind i j k' m' → m ≡ m' → k ≡ k'
same_kind i j k k' m m' (inl a) (inl b) e = a.0 ∙ sym b.0
same_kind i j k k' m m' (inl a) (inr (inl b)) e = a.0 ∙ sym b.1 ∙ sym e ∙ a.1 ∙ sym b.0
same_kind i j k k' m m' (inl a) (inr (inr b)) e = absurd (b.1 (sym b.2 ∙ sym e ∙ a.1))
same_kind i j k k' m m' (inr (inl a)) (inl b) e = a.0 ∙ sym b.1 ∙ sym e ∙ a.1 ∙ sym b.0
same_kind i j k k' m m' (inr (inl a)) (inr (inl b)) e = a.0 ∙ sym b.0
same_kind i j k k' m m' (inr (inl a)) (inr (inr b)) e = absurd (b.0 (sym b.2 ∙ sym e ∙ a.1))
same_kind i j k k' m m' (inr (inr a)) (inl b) e = absurd (a.1 (sym a.2 ∙ e ∙ b.1))
same_kind i j k k' m m' (inr (inr a)) (inr (inl b)) e = absurd (a.0 (sym a.2 ∙ e ∙ b.1))
same_kind i j k k' m m' (inr (inr a)) (inr (inr b)) e = sym a.2 ∙ e ∙ b.2

module _ (slots : List SmallSlot) (words : Slab Word) (i j : ℕ) (one : i < length slots) (other : j < length slots) where
  abbrev exchanged : List SmallSlot
  exchanged = set (set slots i (get_or slots j Nothing)) j (get_or slots i Nothing)

  inside : j < length (set slots i (get_or slots j Nothing))
  inside = omega (arith, other, length-set slots i (get_or slots j Nothing))

  stood : (k : ℕ) → (m : ℕ) × Kind i j k m × (get_or exchanged k Nothing ≡ get_or slots m Nothing)
  stood k = ⊎_elim
      (λ (same : k ≡ j). (
        i,
        inl (same, refl),
        ap (λ (n : ℕ). get_or exchanged n Nothing) same
            ∙ get_or-set_same (set slots i (get_or slots j Nothing)) j (get_or slots i Nothing) Nothing inside,
      ))
      (λ (n : k ≢ j). ⊎_elim
      (λ (same : k ≡ i). (
        j,
        inr (inl (same, refl)),
        get_or-set_other (set slots i (get_or slots j Nothing)) j k (get_or slots i Nothing) Nothing n
            ∙ ap (λ (q : ℕ). get_or (set slots i (get_or slots j Nothing)) q Nothing) same
            ∙ get_or-set_same slots i (get_or slots j Nothing) Nothing one,
      ))
      (λ (n' : k ≢ i). (
        k,
        inr (inr (n, n', refl)),
        get_or-set_other (set slots i (get_or slots j Nothing)) j k (get_or slots i Nothing) Nothing n
            ∙ get_or-set_other slots i k (get_or slots j Nothing) Nothing n',
      ))
      (cases_eq k i))
      (cases_eq k j)

  second : get_or (set slots i (get_or slots j Nothing)) j Nothing ≡ get_or slots j Nothing
  second = ⊎_elim
      (λ (same : j ≡ i).
      ap (λ (q : ℕ). get_or (set slots i (get_or slots j Nothing)) q Nothing) same
      ∙ get_or-set_same slots i (get_or slots j Nothing) Nothing one)
      (λ (n : j ≢ i). get_or-set_other slots i j (get_or slots j Nothing) Nothing n)
      (cases_eq j i)

  exchanged_held : AreHeld slots words → AreHeld exchanged words
  exchanged_held h = record {
    held = λ k place is. (let s = stood k in h.held s.0 place (sym s.2 ∙ is));
    apart = λ k k' place is is'. (
        let s = stood k in
        let s' = stood k' in
        same_kind i j k k' s.0 s'.0 s.1 s'.1 (h.apart s.0 s'.0 place (sym s.2 ∙ is) (sym s'.2 ∙ is')));
    count = omega (
      arith,
      h.count,
      sum_by-set taken slots i (get_or slots j Nothing) Nothing one,
      sum_by-set taken (set slots i (get_or slots j Nothing)) j (get_or slots i Nothing) Nothing inside,
      ap taken second,
    );
    room = omega (
      arith,
      h.room,
      length-set slots i (get_or slots j Nothing),
      length-set (set slots i (get_or slots j Nothing)) j (get_or slots i Nothing),
    );
  }

  pub swapped_held : (new : List SmallSlot) → new ≡ swap slots i j → AreHeld slots words → AreHeld new words
  swapped_held new is h =
      subst (λ (s : List SmallSlot). AreHeld s words) (swap_is slots i j Nothing one other ∙ sym is) (exchanged_held h)

  pub swapped_said :
      (new : List SmallSlot) → new ≡ swap slots i j
      → said_by words new
      ≡ set (set (said_by words slots) i (get_or (said_by words slots) j Empty)) j (get_or (said_by words slots) i Empty)
  swapped_said new is =
      ap (said_by words) (is ∙ sym (swap_is slots i j Nothing one other))
      ∙ map-set (said words) (set slots i (get_or slots j Nothing)) j (get_or slots i Nothing)
      ∙ ap (λ (s : List Slot). set s j (said words (get_or slots i Nothing))) (map-set (said words) slots i (get_or slots j Nothing))
      ∙ ap (λ (e : Slot). set (set (said_by words slots) i e) j (said words (get_or slots i Nothing))) (sym (get_said words slots j))
      ∙ ap (set (set (said_by words slots) i (get_or (said_by words slots) j Empty)) j) (sym (get_said words slots i))

-- nothing is there at first
none_taken : (slots : List SmallSlot) → ((k : ℕ) → get_or slots k Nothing ≡ Nothing) → count_by has_place slots ≡ 0
none_taken [] none = refl
none_taken (s ∷ slots) none =
    sum_by-cons taken s slots ∙ ap (λ (n : ℕ). n + count_by has_place slots) (ap taken (none 0)) ∙ zero-add (count_by has_place slots)
    ∙ none_taken slots (λ k. none (suc k))

pub nothing_held :
    (slots : List SmallSlot) (words : Slab Word) → ((k : ℕ) → get_or slots k Nothing ≡ Nothing) → words.slots ≡ []
    → length slots ≤ words.capacity → AreHeld slots words
nothing_held slots words none empty room = record {
  held = λ i place is. absurd (not_found Nothing place refl (sym (none i) ∙ is));
  apart = λ i j place is other. absurd (not_found Nothing place refl (sym (none i) ∙ is));
  count = ap (λ (s : List (Option Word)). count_by is_some s) empty ∙ sym (none_taken slots none);
  room = room;
}

pub nothing_said :
    (slots : List SmallSlot) (words : Slab Word) → ((k : ℕ) → get_or slots k Nothing ≡ Nothing) → (k : ℕ)
    → get_or (said_by words slots) k Empty ≡ Empty
nothing_said slots words none k = get_said words slots k ∙ ap (said words) (none k)

-- A small slot with nothing says that it is empty.
pub said_nothing :
    (words : Slab Word) (slots : List SmallSlot) (view : List Slot) → said_by words slots ≡ view → (k : ℕ) → get_or slots k Nothing ≡ Nothing
    → get_or view k Empty ≡ Empty
said_nothing words slots view is k nothing =
    ap (λ (v : List Slot). get_or v k Empty) (sym is) ∙ get_said words slots k ∙ ap (said words) nothing

-- An item of a part of the slots is one of theirs.
pub part_item :
    (slots : List SmallSlot) (first end count : ℕ) (d : SmallSlot) → count < length (take (end - first) (drop first slots))
    → get_or (take (end - first) (drop first slots)) count d ≡ get_or slots (first + count) Nothing
part_item slots first end count d within =
    let few = length-take (end - first) (drop first slots) in
    let rest = length-drop first slots in
    get_or-take (end - first) (drop first slots) count d (omega (arith, within, few))
    ∙ get_or-drop first slots count d
    ∙ get_or_default slots (first + count) d Nothing (omega (arith, within, few, rest))
