-- What a buffer of entries is seen as.
use Rattle.std.proofs.Common.{◌≡◌, ◌+◌, ◌-◌, ◌<◌, ◌≤◌, ℕ, Bool, true, false, IsSome, List, length, get_or, Option, Some, None, nat_lt, if◌then◌else◌, cond, refl, sym, ap, ◌∙◌, ⊎_elim, subst, arith}
use Rattle.std.proofs.lemmas.Bool.{cases_lt}
use Rattle.std.proofs.lemmas.List.{get_or_past}
use Rattle.std.specs.Cmp.{nat_cmp_total}
use Rattle.std.specs.Option.{option_or}
use Rattle.std.specs.FinMap as map
use Rattle.std.specs.FinSet as set
use Rattle.fg_words.specs.declared.Word.{Word}
use Rattle.fg_peel.specs.declared.Slot.{Slot}
use Rattle.fg_peel.specs.declared.Slot.TheVariants.{Empty, Media, Solved, Filled}
use Rattle.fg_peel.specs.Slots.{word_in}
use Rattle.fg_peel.proofs.Options.{none_has_no_value, has_value, value_of}
use Rattle.fg_peel.specs.Words.{Words}
use Rattle.fg_buffer.specs.PlayoutBuffer.{BufferState, buffer_received, buffer_words, buffer_known, buffer_shared, IsBuffer}
use Rattle.fg_buffer.specs.BufferEntries.{entry_at, received_in, solved_in, shared_in, cached_in, is_alone, is_found, kept_at, received_at, solved_at, cached_at, bare_at, repaired_at, words_below, buffer_of, AreEntries}
use Rattle.fg_buffer.proofs.Choices.{if-less, if-not_less}
use Rattle.fg_buffer.proofs.BufferMaps.{get-words_below, contains-positions_below}

-- the entry of a position of the buffer, and of one before it
pub entry_at-buffer :
    (mark : ℕ) (entries : List Slot) (q : ℕ) → mark ≤ q + 100
    → entry_at mark entries q ≡ get_or entries (q + 100 - mark) Empty
entry_at-buffer mark entries q from = if-not_less (q + 100) mark Empty _ from

pub entry_at-before : (mark : ℕ) (entries : List Slot) (q : ℕ) → q + 100 < mark → entry_at mark entries q ≡ Empty
entry_at-before mark entries q before = if-less (q + 100) mark Empty _ before

pub entry_at-past :
    (mark : ℕ) (entries : List Slot) (q : ℕ) → mark + length entries ≤ q + 100 → entry_at mark entries q ≡ Empty
entry_at-past mark entries q past =
    entry_at-buffer mark entries q (omega arith) ∙ get_or_past entries (q + 100 - mark) Empty (omega arith)

-- the same test twice
twice : (b : Bool) (x : Option Word) → cond b (cond b x None) None ≡ cond b x None
twice true x = refl
twice false x = refl

twice_test : (b x : Bool) → cond b (cond b x false) false ≡ cond b x false
twice_test true x = refl
twice_test false x = refl

pub get-kept : (mark : ℕ) (entries : List Slot) (q : ℕ) → map.get (buffer_of mark entries).kept q ≡ kept_at mark entries q
get-kept mark entries q = get-words_below mark (kept_at mark entries) q ∙ twice (nat_lt q mark) _

pub contains-bare :
    (mark : ℕ) (entries : List Slot) (q : ℕ) → set.contains (buffer_of mark entries).bare q ≡ bare_at mark entries q
contains-bare mark entries q = contains-positions_below mark (bare_at mark entries) q ∙ twice_test (nat_lt q mark) _

pub contains-repaired :
    (mark : ℕ) (entries : List Slot) (q : ℕ) → set.contains (buffer_of mark entries).repaired q ≡ repaired_at mark entries q
contains-repaired mark entries q =
    contains-positions_below mark (repaired_at mark entries) q ∙ twice_test (nat_lt q mark) _

-- past the limit there is no entry
none_past :
    (f : Slot → Option Word) (mark : ℕ) (entries : List Slot) (q : ℕ) → f Empty ≡ None → mark + length entries ≤ q
    → (if nat_lt q mark then None else f (entry_at mark entries q)) ≡ None
none_past f mark entries q empty past =
    if-not_less q mark None _ (omega arith) ∙ ap f (entry_at-past mark entries q (omega arith)) ∙ empty

-- what the words told of the entries at the mark and past it are
get-ahead :
    (f : Slot → Option Word) (mark : ℕ) (entries : List Slot) (q : ℕ) → f Empty ≡ None
    → map.get (words_below (mark + length entries) (λ p. if nat_lt p mark then None else f (entry_at mark entries p))) q
    ≡ (if nat_lt q mark then None else f (entry_at mark entries q))
get-ahead f mark entries q empty =
    get-words_below (mark + length entries) (λ p. if nat_lt p mark then None else f (entry_at mark entries p)) q
    ∙ ⊎_elim
    (λ below. if-less q (mark + length entries) _ None below)
    (λ past.
    if-not_less q (mark + length entries) _ None past ∙ sym (none_past f mark entries q empty past))
    (cases_lt q (mark + length entries))

pub get-media :
    (mark : ℕ) (entries : List Slot) (q : ℕ) → map.get (buffer_of mark entries).media q ≡ received_at mark entries q
get-media mark entries q = get-ahead received_in mark entries q refl

pub get-solved :
    (mark : ℕ) (entries : List Slot) (q : ℕ) → map.get (buffer_of mark entries).solved q ≡ solved_at mark entries q
get-solved mark entries q = get-ahead solved_in mark entries q refl

pub get-cached :
    (mark : ℕ) (entries : List Slot) (q : ℕ) → map.get (buffer_of mark entries).cached q ≡ cached_at mark entries q
get-cached mark entries q = get-ahead cached_in mark entries q refl

-- What the entry of a position tells is what the buffer has there.
pub told_ahead :
    (tell : Slot → Option Word) (now : Words) (mark : ℕ) (entries : List Slot) (q : ℕ) (entry : Slot)
    → map.get now q ≡ (if nat_lt q mark then None else tell (entry_at mark entries q)) → mark ≤ q
    → entry ≡ entry_at mark entries q → tell entry ≡ map.get now q
told_ahead tell now mark entries q entry has from is =
    ap tell is ∙ sym (has ∙ if-not_less q mark None (tell (entry_at mark entries q)) from)

pub told_behind :
    (tell : Slot → Option Word) (now : Words) (mark : ℕ) (entries : List Slot) (q : ℕ)
    → map.get now q ≡ (if nat_lt q mark then None else tell (entry_at mark entries q)) → tell Empty ≡ None → q < mark
    → tell Empty ≡ map.get now q
told_behind tell now mark entries q has empty before =
    empty ∙ sym (has ∙ if-less q mark None (tell (entry_at mark entries q)) before)

-- two buffers with the same words are equal
pub same_buffer :
    (a b : BufferState) → a.mark ≡ b.mark → a.reach ≡ b.reach
    → ((q : ℕ) → map.get a.kept q ≡ map.get b.kept q) → ((q : ℕ) → map.get a.media q ≡ map.get b.media q)
    → ((q : ℕ) → map.get a.solved q ≡ map.get b.solved q) → ((q : ℕ) → map.get a.cached q ≡ map.get b.cached q)
    → ((q : ℕ) → set.contains a.bare q ≡ set.contains b.bare q)
    → ((q : ℕ) → set.contains a.repaired q ≡ set.contains b.repaired q) → a ≡ b
same_buffer a b mark reach kept media solved cached bare repaired =
    let one = map.same_map nat_cmp_total map.nat_cmp-IsAntisymmetric a.kept b.kept kept in
    let two = map.same_map nat_cmp_total map.nat_cmp-IsAntisymmetric a.media b.media media in
    let three = map.same_map nat_cmp_total map.nat_cmp-IsAntisymmetric a.solved b.solved solved in
    let four = map.same_map nat_cmp_total map.nat_cmp-IsAntisymmetric a.cached b.cached cached in
    let five = set.same_set nat_cmp_total map.nat_cmp-IsAntisymmetric a.bare b.bare bare in
    let six = set.same_set nat_cmp_total map.nat_cmp-IsAntisymmetric a.repaired b.repaired repaired in
    λ i. record {
      mark = mark i;
      reach = reach i;
      kept = one i;
      media = two i;
      solved = three i;
      cached = four i;
      bare = five i;
      repaired = six i;
    }

-- nothing beside a word or beside nothing
pub or-none : (o : Option Word) → option_or o None ≡ o
or-none None = refl
or-none (Some word) = refl

-- what the words of a buffer are by its entries
pub buffer_received-below :
    (mark : ℕ) (entries : List Slot) (q : ℕ) → q < mark
    → buffer_received (buffer_of mark entries) q ≡ word_in (entry_at mark entries q)
buffer_received-below mark entries q before =
    if-less q mark _ _ before ∙ get-kept mark entries q ∙ if-less q mark _ None before

pub buffer_received-ahead :
    (mark : ℕ) (entries : List Slot) (q : ℕ) → mark ≤ q
    → buffer_received (buffer_of mark entries) q ≡ received_in (entry_at mark entries q)
buffer_received-ahead mark entries q from =
    if-not_less q mark _ _ from ∙ get-media mark entries q ∙ if-not_less q mark None _ from

shared_or : (entry : Slot) → option_or (received_in entry) (solved_in entry) ≡ shared_in entry
shared_or Empty = refl
shared_or (Media word) = refl
shared_or (Solved word) = refl
shared_or (Filled word) = refl

pub buffer_known-below :
    (mark : ℕ) (entries : List Slot) (q : ℕ) → q < mark → buffer_known (buffer_of mark entries) q ≡ word_in (entry_at mark entries q)
buffer_known-below mark entries q before =
    let buffer = buffer_of mark entries in
    ap (option_or (buffer_received buffer q)) (get-solved mark entries q ∙ if-less q mark None _ before)
    ∙ or-none (buffer_received buffer q) ∙ buffer_received-below mark entries q before

pub buffer_known-ahead :
    (mark : ℕ) (entries : List Slot) (q : ℕ) → mark ≤ q
    → buffer_known (buffer_of mark entries) q ≡ shared_in (entry_at mark entries q)
buffer_known-ahead mark entries q from =
    let buffer = buffer_of mark entries in
    ap (option_or (buffer_received buffer q)) (get-solved mark entries q ∙ if-not_less q mark None _ from)
    ∙ ap (λ (o : Option Word). option_or o (solved_in (entry_at mark entries q))) (buffer_received-ahead mark entries q from)
    ∙ shared_or (entry_at mark entries q)

word_or : (entry : Slot) → option_or (shared_in entry) (cached_in entry) ≡ word_in entry
word_or Empty = refl
word_or (Media word) = refl
word_or (Solved word) = refl
word_or (Filled word) = refl

pub buffer_words-entry :
    (mark : ℕ) (entries : List Slot) (q : ℕ) → buffer_words (buffer_of mark entries) q ≡ word_in (entry_at mark entries q)
buffer_words-entry mark entries q =
    let buffer = buffer_of mark entries in
    ⊎_elim
    (λ before.
    ap (option_or (buffer_known buffer q)) (get-cached mark entries q ∙ if-less q mark None _ before)
    ∙ or-none (buffer_known buffer q) ∙ buffer_known-below mark entries q before)
    (λ from.
    ap (option_or (buffer_known buffer q)) (get-cached mark entries q ∙ if-not_less q mark None _ from)
    ∙ ap (λ (o : Option Word). option_or o (cached_in (entry_at mark entries q))) (buffer_known-ahead mark entries q from)
    ∙ word_or (entry_at mark entries q))
    (cases_lt q mark)

-- those of the words that are told
pub buffer_known-entry :
    (mark : ℕ) (entries : List Slot) (q : ℕ)
    → buffer_known (buffer_of mark entries) q
    ≡ (if nat_lt q mark then word_in (entry_at mark entries q) else shared_in (entry_at mark entries q))
buffer_known-entry mark entries q =
    ⊎_elim
    (λ before. buffer_known-below mark entries q before ∙ sym (if-less q mark (word_in (entry_at mark entries q)) (shared_in (entry_at mark entries q)) before))
    (λ from. buffer_known-ahead mark entries q from ∙ sym (if-not_less q mark (word_in (entry_at mark entries q)) (shared_in (entry_at mark entries q)) from))
    (cases_lt q mark)

-- the words that have shares
shared-in : (entry : Slot) → cond (is_alone entry) None (word_in entry) ≡ shared_in entry
shared-in Empty = refl
shared-in (Media word) = refl
shared-in (Solved word) = refl
shared-in (Filled word) = refl

pub buffer_shared-entry :
    (mark : ℕ) (entries : List Slot) (q : ℕ) → buffer_shared (buffer_of mark entries) q ≡ shared_in (entry_at mark entries q)
buffer_shared-entry mark entries q =
    let buffer = buffer_of mark entries in
    ⊎_elim
    (λ before.
    ap (λ b. cond b None (buffer_known buffer q)) (contains-bare mark entries q ∙ if-less q mark _ false before)
    ∙ ap (cond (is_alone (entry_at mark entries q)) None) (buffer_known-below mark entries q before)
    ∙ shared-in (entry_at mark entries q))
    (λ from.
    ap (λ b. cond b None (buffer_known buffer q)) (contains-bare mark entries q ∙ if-not_less q mark _ false from)
    ∙ buffer_known-ahead mark entries q from)
    (cases_lt q mark)

pub some_along : (o p : Option Word) → o ≡ p → IsSome o → IsSome p
some_along o p is some = let P : Option Word → Type 0 = λ x. IsSome x in subst P is some

-- a word at the mark or past it lies before the buffer's end
lies_ahead :
    (f : Slot → Option Word) (mark : ℕ) (entries : List Slot) → f Empty ≡ None → AreEntries mark entries → (q : ℕ)
    (o : Option Word) → o ≡ (if nat_lt q mark then None else f (entry_at mark entries q)) → IsSome o
    → (mark ≤ q) × (q < mark + (length entries - 100))
lies_ahead f mark entries empty are q o is some =
    ⊎_elim
    (λ before. absurd (none_has_no_value o (is ∙ if-less q mark None _ before) some))
    (λ from.
    ⊎_elim
    (λ near. (from, near))
    (λ past.
    let far : mark + length entries ≤ q + 100 = omega (arith, are.some) in
    absurd (none_has_no_value o
    (is ∙ if-not_less q mark None _ from ∙ ap f (entry_at-past mark entries q far) ∙ empty) some))
    (cases_lt q (mark + (length entries - 100))))
    (cases_lt q mark)

solved_not_received : (entry : Slot) → IsSome (solved_in entry) → received_in entry ≡ None
solved_not_received Empty some = refl
solved_not_received (Media word) some = absurd (none_has_no_value {X = Word} None refl some)
solved_not_received (Solved word) some = refl
solved_not_received (Filled word) some = refl

cached_not_shared : (entry : Slot) → IsSome (cached_in entry) → shared_in entry ≡ None
cached_not_shared Empty some = refl
cached_not_shared (Media word) some = absurd (none_has_no_value {X = Word} None refl some)
cached_not_shared (Solved word) some = absurd (none_has_no_value {X = Word} None refl some)
cached_not_shared (Filled word) some = refl

alone_has : (entry : Slot) → is_alone entry ≡ true → IsSome (word_in entry)
alone_has Empty alone = absurd (cc)
alone_has (Media word) alone = refl
alone_has (Solved word) alone = refl
alone_has (Filled word) alone = refl

found_has : (entry : Slot) → is_found entry ≡ true → IsSome (word_in entry)
found_has Empty found = absurd (cc)
found_has (Media word) found = refl
found_has (Solved word) found = refl
found_has (Filled word) found = refl

-- where a test of the kept positions passes, there is a kept word
kept_where :
    (test : Slot → Bool) → ((entry : Slot) → test entry ≡ true → IsSome (word_in entry)) → (mark : ℕ) (entries : List Slot)
    (q : ℕ) → (if nat_lt q mark then test (entry_at mark entries q) else false) ≡ true
    → IsSome (map.get (buffer_of mark entries).kept q)
kept_where test has mark entries q passes =
    ⊎_elim
    (λ before.
    let at : test (entry_at mark entries q) ≡ true = sym (if-less q mark _ false before) ∙ passes in
    some_along _ _ (sym (get-kept mark entries q ∙ if-less q mark _ None before)) (has (entry_at mark entries q) at))
    (λ from.
    let not : false ≡ true = sym (if-not_less q mark _ false from) ∙ passes in
    absurd (cc))
    (cases_lt q mark)

pub kept_lies :
    (mark : ℕ) (entries : List Slot) (q : ℕ) → IsSome (kept_at mark entries q) → (q < mark) × (mark ≤ q + 100)
kept_lies mark entries q some =
    ⊎_elim
    (λ before.
    ⊎_elim
    (λ far.
    absurd (none_has_no_value (kept_at mark entries q)
    (if-less q mark _ None before ∙ ap word_in (entry_at-before mark entries q far)) some))
    (λ near. (before, near))
    (cases_lt (q + 100) mark))
    (λ from. absurd (none_has_no_value (kept_at mark entries q) (if-not_less q mark _ None from) some))
    (cases_lt q mark)

pub is_buffer : (mark : ℕ) (entries : List Slot) → AreEntries mark entries → IsBuffer (buffer_of mark entries)
is_buffer mark entries are = record {
  limit = omega (arith, are.some, are.limit);
  kept = λ q some. kept_lies mark entries q (some_along _ _ (get-kept mark entries q) some);
  media = λ q some. lies_ahead received_in mark entries refl are q _ (get-media mark entries q) some;
  solved = λ q some. lies_ahead solved_in mark entries refl are q _ (get-solved mark entries q) some;
  cached = λ q some. lies_ahead cached_in mark entries refl are q _ (get-cached mark entries q) some;
  solved_once = λ q some.
      (let lies = lies_ahead solved_in mark entries refl are q _ (get-solved mark entries q) some in
      let solved : IsSome (solved_in (entry_at mark entries q)) =
      some_along _ _ (get-solved mark entries q ∙ if-not_less q mark None _ lies.0) some in
      get-media mark entries q ∙ if-not_less q mark None _ lies.0
      ∙ solved_not_received (entry_at mark entries q) solved);
  once = λ q some.
      (let lies = lies_ahead cached_in mark entries refl are q _ (get-cached mark entries q) some in
      let cached : IsSome (cached_in (entry_at mark entries q)) =
      some_along _ _ (get-cached mark entries q ∙ if-not_less q mark None _ lies.0) some in
      buffer_known-ahead mark entries q lies.0 ∙ cached_not_shared (entry_at mark entries q) cached);
  bare = λ q bare. kept_where is_alone alone_has mark entries q (sym (contains-bare mark entries q) ∙ bare);
  repaired = λ q repaired. kept_where is_found found_has mark entries q (sym (contains-repaired mark entries q) ∙ repaired);
}

-- a position past the mark has no bare word
pub buffer_shared-ahead :
    (buffer : BufferState) → IsBuffer buffer → (q : ℕ) → buffer.mark ≤ q → buffer_shared buffer q ≡ buffer_known buffer q
buffer_shared-ahead buffer is q from = go (set.contains buffer.bare q) refl
  where
    go : (b : Bool) → set.contains buffer.bare q ≡ b → buffer_shared buffer q ≡ buffer_known buffer q
    go true e = absurd (omega (arith, (is.kept q (is.bare q e)).0, from))
    go false e = ap (λ b. cond b None (buffer_known buffer q)) e

-- before the mark no word is there that was found ahead
pub buffer_words-before : (buffer : BufferState) → IsBuffer buffer → (q : ℕ) → q < buffer.mark → buffer_words buffer q ≡ buffer_known buffer q
buffer_words-before buffer is q before = ap (option_or (buffer_known buffer q)) (go (map.get buffer.cached q) refl) ∙ or-none (buffer_known buffer q)
  where
    go : (o : Option Word) → map.get buffer.cached q ≡ o → map.get buffer.cached q ≡ None
    go None e = e
    go (Some word) e = absurd (omega (arith, (is.cached q (some_along _ _ (sym e) refl)).0, before))

-- a position that is told as repaired has a word
pub repaired_is_known :
    (buffer : BufferState) → IsBuffer buffer → (q : ℕ) → set.contains buffer.repaired q ≡ true → IsSome (buffer_known buffer q)
repaired_is_known buffer is q repaired =
    let kept = is.repaired q repaired in
    let word = value_of (map.get buffer.kept q) kept in
    has_value (buffer_known buffer q) word.0
    (ap (λ (o : Option Word). option_or o (map.get buffer.solved q))
    (if-less q buffer.mark (map.get buffer.kept q) (map.get buffer.media q) (is.kept q kept).0 ∙ word.1))
