-- A buffer of entries, the first of which stands for 100 positions before the mark, and what it is seen as.
use Rattle.std.specs.Prelude.{◌≡◌, ◌+◌, ◌-◌, ◌<◌, ◌≤◌, ℕ, zero, suc, Bool, true, false, List, take, drop, length, nat_lt, slice_index_or, Option, Some, None, IsSome, refl, if◌then◌else◌}
use Rattle.std.specs.Ordering.{nat_cmp}
use Rattle.std.specs.Coded.{Coded, code_by, coded×, coded_ℕ, coded_list}
use Rattle.std.specs.FinMap as map
use Rattle.std.specs.FinSet as set
use Rattle.fg_words.specs.declared.Word.{Word}
use Rattle.fg_peel.specs.declared.Slot.{Slot}
use Rattle.fg_peel.specs.declared.Slot.TheVariants.{Empty, Media, Solved, Filled}
use Rattle.fg_peel.specs.declared.Line.{Line}
use Rattle.fg_words.specs.Word.{IsMedia}
use Rattle.fg_shape.specs.Shape.{position_limit}
use Rattle.fg_peel.specs.Slots.{word_in, equation_of, OnlyFills}
use Rattle.fg_peel.specs.declared.looks.Look.{Look}
use Rattle.fg_peel.specs.Look.{IsLook}
use Rattle.fg_peel.specs.Words.{Words, kept_count}
use Rattle.fg_buffer.specs.PlayoutBuffer.{BufferState}

-- The entry of a position.
abbrev pub entry_at : ℕ → List Slot → ℕ → Slot
entry_at mark entries position =
    (if nat_lt (position + kept_count) mark then Empty else slice_index_or entries (position + kept_count - mark) Empty)

-- The word of an entry that was received, of one that was solved, of one that has a share, and of one that stands alone.
abbrev pub received_in : Slot → Option Word
received_in Empty = None
received_in (Media word) = Some word
received_in (Solved word) = None
received_in (Filled word) = None

abbrev pub solved_in : Slot → Option Word
solved_in Empty = None
solved_in (Media word) = None
solved_in (Solved word) = Some word
solved_in (Filled word) = None

abbrev pub shared_in : Slot → Option Word
shared_in Empty = None
shared_in (Media word) = Some word
shared_in (Solved word) = Some word
shared_in (Filled word) = None

abbrev pub cached_in : Slot → Option Word
cached_in Empty = None
cached_in (Media word) = None
cached_in (Solved word) = None
cached_in (Filled word) = Some word

-- The entry's word stands there alone.
abbrev pub is_alone : Slot → Bool
is_alone Empty = false
is_alone (Media word) = false
is_alone (Solved word) = false
is_alone (Filled word) = true

-- The entry's word was not received.
abbrev pub is_found : Slot → Bool
is_found Empty = false
is_found (Media word) = false
is_found (Solved word) = true
is_found (Filled word) = true

-- The words that a function gives at the positions below a limit, as a map.
unfoldable pub words_below : ℕ → (ℕ → Option Word) → Words
words_below zero words = map.empty
words_below (suc n) words =
    elim (words n) as (λ _. Words) [ None ↦ words_below n words | Some word ↦ map.insert (words_below n words) n word ]

-- The positions below a limit that pass a test, as a set.
unfoldable pub positions_below : ℕ → (ℕ → Bool) → set.FinSet nat_cmp
positions_below zero test = set.empty
positions_below (suc n) test =
    (if test n then set.insert (positions_below n test) n else positions_below n test)

-- What entries have at the positions below the mark, and at it and past it.
abbrev pub kept_at : ℕ → List Slot → ℕ → Option Word
kept_at mark entries position = (if nat_lt position mark then word_in (entry_at mark entries position) else None)

abbrev pub received_at : ℕ → List Slot → ℕ → Option Word
received_at mark entries position =
    (if nat_lt position mark then None else received_in (entry_at mark entries position))

abbrev pub solved_at : ℕ → List Slot → ℕ → Option Word
solved_at mark entries position = (if nat_lt position mark then None else solved_in (entry_at mark entries position))

abbrev pub cached_at : ℕ → List Slot → ℕ → Option Word
cached_at mark entries position = (if nat_lt position mark then None else cached_in (entry_at mark entries position))

abbrev pub bare_at : ℕ → List Slot → ℕ → Bool
bare_at mark entries position = (if nat_lt position mark then is_alone (entry_at mark entries position) else false)

abbrev pub repaired_at : ℕ → List Slot → ℕ → Bool
repaired_at mark entries position = (if nat_lt position mark then is_found (entry_at mark entries position) else false)

-- A buffer of entries as contracts see it.
abbrev pub buffer_of : ℕ → List Slot → BufferState
buffer_of mark entries = record {
  mark = mark;
  reach = length entries - kept_count;
  kept = words_below mark (kept_at mark entries);
  media = words_below (mark + length entries) (received_at mark entries);
  solved = words_below (mark + length entries) (solved_at mark entries);
  cached = words_below (mark + length entries) (cached_at mark entries);
  bare = positions_below mark (bare_at mark entries);
  repaired = positions_below mark (repaired_at mark entries);
}

-- What is true of the entries: there is one for each of the 100 positions before the mark, and those for positions below
-- 0 are empty.
pub record AreEntries (mark : ℕ) (entries : List Slot) : Type 0 where
  pub some : kept_count ≤ length entries
  pub limit : mark + length entries ≤ position_limit
  pub below : (i : ℕ) → mark + i < kept_count → slice_index_or entries i Empty ≡ Empty

-- Each word that was solved at the mark or past it is a media word.
abbrev pub SolvedAreMedia : List Slot → Type 0
SolvedAreMedia entries =
    (i : ℕ) (word : Word) → kept_count ≤ i → slice_index_or entries i Empty ≡ Solved word → IsMedia word

-- The slots have more room than the buffer has entries, by so much: the entries stand from some place on, and past them
-- all is empty.
abbrev pub slack : ℕ
slack = 64

abbrev pub live_entries : ℕ → List Slot → List Slot
live_entries front slots = take (length slots - slack) (drop front slots)

abbrev pub IsEmptyPast : ℕ → List Slot → Type 0
IsEmptyPast front slots = (k : ℕ) → front + (length slots - slack) ≤ k → slice_index_or slots k Empty ≡ Empty

-- What is true of the slots.
pub record AreStored (front : ℕ) (slots : List Slot) : Type 0 where
  pub near : front ≤ slack
  pub some : slack ≤ length slots
  pub few : length slots ≤ position_limit
  pub past : IsEmptyPast front slots

-- The words of the entries by position.
abbrev pub words_of : ℕ → List Slot → ℕ → Option Word
words_of mark entries position = word_in (entry_at mark entries position)

-- What a look at one line leaves of the buffer's entries.
pub record LooksAt (mark : ℕ) (line : Line) (old new : List Slot) (answer : Look) : Type 0 where
  pub look : IsLook (words_of mark old) (words_of mark new) (equation_of line) answer
  pub fills : OnlyFills old new
  pub below : (i : ℕ) → mark + i < kept_count → slice_index_or new i Empty ≡ slice_index_or old i Empty

-- An entry without a word that stands alone and, where `solved` says so, without one that was solved.
abbrev pub left_of : Bool → Slot → Slot
left_of solved Empty = Empty
left_of solved (Media word) = Media word
left_of solved (Solved word) = (if solved then Empty else Solved word)
left_of solved (Filled word) = Empty

-- The entries at the mark and past it have become these.
abbrev pub Becomes : (Slot → Slot) → List Slot → List Slot → Type 0
Becomes change old new =
    (i : ℕ) → slice_index_or new i Empty
    ≡ (if nat_lt i kept_count then slice_index_or old i Empty else change (slice_index_or old i Empty))

-- So have they where such words are forgotten,
abbrev pub Forgets : Bool → List Slot → List Slot → Type 0
Forgets solved = Becomes (left_of solved)

-- and the buffer is then this.
abbrev pub forgets : Bool → BufferState → BufferState
forgets solved buffer = record buffer { solved = (if solved then map.empty else buffer.solved); cached = map.empty }

-- The last entry with a word, at the mark or past it.
abbrev pub HasNoWordFrom : List Slot → ℕ → Type 0
HasNoWordFrom entries first = (i : ℕ) → first ≤ i → word_in (slice_index_or entries i Empty) ≡ None

-- No entry has a word from the mark on up to this one.
abbrev pub IsEmptyTo : List Slot → ℕ → Type 0
IsEmptyTo entries end = (i : ℕ) → kept_count ≤ i → i < end → word_in (slice_index_or entries i Empty) ≡ None

pub record IsLastWord (entries : List Slot) (last : ℕ) : Type 0 where
  pub ahead : kept_count ≤ last
  pub within : last < length entries
  pub word : IsSome (word_in (slice_index_or entries last Empty))
  pub none_later : HasNoWordFrom entries (last + 1)

-- How these values are told apart.
abbrev pub word_code : Coded Word
word_code =
    code_by (ℕ × (ℕ × (ℕ × List ℕ))) (coded× coded_ℕ (coded× coded_ℕ (coded× coded_ℕ (coded_list coded_ℕ))))
    (λ w. (w.pt, (w.ts, (w.len, w.bytes)))) (λ p. record { pt = p.0; ts = p.1.0; len = p.1.1.0; bytes = p.1.1.1 }) (λ _. refl)

abbrev pub words_code : Coded Words
words_code = map.code coded_ℕ word_code

abbrev pub buffer_code : Coded BufferState
buffer_code =
    code_by (ℕ × (ℕ × (Words × (Words × (Words × (Words × (set.FinSet nat_cmp × set.FinSet nat_cmp)))))))
    (coded× coded_ℕ (coded× coded_ℕ (coded× words_code (coded× words_code (coded× words_code (coded× words_code
    (coded× (set.code coded_ℕ) (set.code coded_ℕ))))))))
    (λ r. (r.mark, (r.reach, (r.kept, (r.media, (r.solved, (r.cached, (r.bare, r.repaired))))))))
    (λ p. record { mark = p.0; reach = p.1.0; kept = p.1.1.0; media = p.1.1.1.0; solved = p.1.1.1.1.0; cached = p.1.1.1.1.1.0; bare = p.1.1.1.1.1.1.0; repaired = p.1.1.1.1.1.1.1 })
    (λ _. refl)
