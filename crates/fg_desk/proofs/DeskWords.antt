-- The words of a buffer: received, solved and found.
use Rattle.std.proofs.Common.{◌≡◌, ◌⊎◌, ◌+◌, ◌<◌, ◌≤◌, ℕ, zero, suc, List, ◌∷◌, map, Bool, true, false, Option, Some, None, IsSome, inl, inr, refl, sym, ap, ◌∙◌, ⊎_elim, arith}
use Rattle.std.proofs.lemmas.Bool.{cases_lt}
use Rattle.std.specs.Prelude.{nat_lt, if◌then◌else◌}
use Rattle.std.specs.List.{range_with_len}
use Rattle.std.specs.Option.{option_or}
use Rattle.std.specs.FinMap.{get}
use Rattle.std.specs.FinSet.{contains}
use Rattle.fg_words.specs.declared.Word.{Word}
use Rattle.fg_words.specs.Word.{IsMedia}
use Rattle.fg_peel.specs.Equation.{AreMedia, Keeps}
use Rattle.fg_peel.proofs.Options.{none_or_some, has_value, or_first, or_second}
use Rattle.fg_playout.specs.State.{State, known}
use Rattle.fg_playout.specs.Facts.{Holds}
use Rattle.fg_desk.specs.Contents.{kept_shown}
use Rattle.fg_playout.specs.Play.{Shown}
use Rattle.fg_desk.specs.TrayPlaces.{buffer_kept_from}
use Rattle.fg_buffer.specs.PlayoutBuffer.{BufferState, buffer_received, buffer_known, buffer_words, IsBuffer}
use Rattle.fg_buffer.proofs.Choices.{if-less, if-not_less}

pub or_none : (o : Option Word) → option_or o None ≡ o
or_none None = refl
or_none (Some word) = refl

-- What a buffer keeps at positions from a first one on.
abbrev pub shown_in : BufferState → ℕ → ℕ → List Shown
shown_in buffer first count = map (kept_shown (buffer_received buffer) buffer.repaired) (range_with_len first count)

map_range_agree :
    (one other : ℕ → Shown) (first count : ℕ) → ((q : ℕ) → first ≤ q → q < first + count → one q ≡ other q)
    → map one (range_with_len first count) ≡ map other (range_with_len first count)
map_range_agree one other first zero same = refl
map_range_agree one other first (suc count) same = λ i.
    same first (omega arith) (omega arith) i
    ∷ map_range_agree one other (first + 1) count (λ q from below. same q (omega (arith, from)) (omega (arith, below))) i

-- Where nothing is solved before the mark, that is all that is known there.
pub shown_is_kept :
    (buffer : BufferState) (first count : ℕ) → ((q : ℕ) → IsSome (get buffer.solved q) → buffer.mark ≤ q) → first + count ≤ buffer.mark
    → buffer_kept_from buffer first count ≡ shown_in buffer first count
shown_is_kept buffer first count ahead within =
    map_range_agree (kept_shown (buffer_known buffer) buffer.repaired) (kept_shown (buffer_received buffer) buffer.repaired) first count
    (λ q from below. ap (λ (o : Option Word). record { word = o; repaired = contains buffer.repaired q }) (⊎_elim
    (λ none. ap (option_or (buffer_received buffer q)) none ∙ or_none (buffer_received buffer q))
    (λ some.
    let past = ahead q (has_value (get buffer.solved q) some.0 some.1) in absurd (omega (arith, past, below, within)))
    (none_or_some (get buffer.solved q))))

-- The first of two words, and the second where there is no first.
pub or_cases : (one other : Option Word) (word : Word) → option_or one other ≡ Some word
    → (one ≡ Some word) ⊎ ((one ≡ None) × (other ≡ Some word))
or_cases None other word is = inr (refl, is)
or_cases (Some found) other word is = inl is

pub or_neither : (one other : Option Word) → option_or one other ≡ None → (one ≡ None) × (other ≡ None)
or_neither None other none = (refl, none)
or_neither (Some word) other none = absurd (cc)

-- What is received is known, and what is known is among the words.
pub known_keeps : (buffer : BufferState) → Keeps (buffer_received buffer) (buffer_known buffer)
known_keeps buffer q word is = or_first (buffer_received buffer q) (get buffer.solved q) word is

pub words_keep : (buffer : BufferState) → Keeps (buffer_known buffer) (buffer_words buffer)
words_keep buffer q word is = or_first (buffer_known buffer q) (get buffer.cached q) word is

pub words_keep_received : (buffer : BufferState) → Keeps (buffer_received buffer) (buffer_words buffer)
words_keep_received buffer q word is = words_keep buffer q word (known_keeps buffer q word is)

-- Without solved words those received are known, and without found ones there are no others.
pub known_unsolved : (buffer : BufferState) → ((q : ℕ) → get buffer.solved q ≡ None) → buffer_known buffer ≡ buffer_received buffer
known_unsolved buffer none = λ i q.
    (ap (option_or (buffer_received buffer q)) (none q) ∙ or_none (buffer_received buffer q)) i

pub words_uncached : (buffer : BufferState) → ((q : ℕ) → get buffer.cached q ≡ None) → buffer_words buffer ≡ buffer_known buffer
words_uncached buffer none = λ i q. (ap (option_or (buffer_known buffer q)) (none q) ∙ or_none (buffer_known buffer q)) i

pub words_unfound :
    (buffer : BufferState) → ((q : ℕ) → get buffer.solved q ≡ None) → ((q : ℕ) → get buffer.cached q ≡ None)
    → buffer_words buffer ≡ buffer_received buffer
words_unfound buffer unsolved uncached = words_uncached buffer uncached ∙ known_unsolved buffer unsolved

-- Where all three kinds are media words, all words are.
pub words_media :
    (buffer : BufferState) → AreMedia (buffer_received buffer) → AreMedia (get buffer.solved) → AreMedia (get buffer.cached)
    → AreMedia (buffer_words buffer)
words_media buffer received solved cached q word is = ⊎_elim
    (λ known. ⊎_elim (λ r. received q word r) (λ s. solved q word s.1)
    (or_cases (buffer_received buffer q) (get buffer.solved q) word known))
    (λ found. cached q word found.1)
    (or_cases (buffer_known buffer q) (get buffer.cached q) word is)

-- The words known to a desk are media words.
pub known_are_media : (desk : State) → Holds desk → AreMedia (known desk)
known_are_media desk holds position word is = go (nat_lt position desk.mark) is
  where
    go :
        (b : Bool) → (if b then get desk.kept position else get desk.media position) ≡ Some word
        → IsMedia word
    go true is = (holds.kept position word is).media
    go false is = (holds.media position word is).media

-- The words of a buffer before its mark, and from it on.
pub received_below : (buffer : BufferState) (q : ℕ) → q < buffer.mark → buffer_received buffer q ≡ get buffer.kept q
received_below buffer q below = if-less q buffer.mark (get buffer.kept q) (get buffer.media q) below

pub received_ahead : (buffer : BufferState) (q : ℕ) → buffer.mark ≤ q → buffer_received buffer q ≡ get buffer.media q
received_ahead buffer q ahead = if-not_less q buffer.mark (get buffer.kept q) (get buffer.media q) ahead

pub known_kept : (buffer : BufferState) (q : ℕ) → q < buffer.mark → get buffer.solved q ≡ None → buffer_known buffer q ≡ get buffer.kept q
known_kept buffer q below unsolved =
    ap (option_or (buffer_received buffer q)) unsolved ∙ or_none (buffer_received buffer q) ∙ received_below buffer q below

pub words_kept :
    (buffer : BufferState) (q : ℕ) → q < buffer.mark → get buffer.solved q ≡ None → get buffer.cached q ≡ None
    → buffer_words buffer q ≡ get buffer.kept q
words_kept buffer q below unsolved uncached =
    ap (option_or (buffer_known buffer q)) uncached ∙ or_none (buffer_known buffer q) ∙ known_kept buffer q below unsolved

module _ (buffer : BufferState) (is : IsBuffer buffer) where
  pub unsolved_below : (q : ℕ) → q < buffer.mark → get buffer.solved q ≡ None
  unsolved_below q below = ⊎_elim
      (λ none. none)
      (λ some. let ahead = (is.solved q (has_value (get buffer.solved q) some.0 some.1)).0 in absurd (omega (arith, below, ahead)))
      (none_or_some (get buffer.solved q))

  pub uncached_below : (q : ℕ) → q < buffer.mark → get buffer.cached q ≡ None
  uncached_below q below = ⊎_elim
      (λ none. none)
      (λ some. let ahead = (is.cached q (has_value (get buffer.cached q) some.0 some.1)).0 in absurd (omega (arith, below, ahead)))
      (none_or_some (get buffer.cached q))

  pub words_below : (q : ℕ) → q < buffer.mark → buffer_words buffer q ≡ get buffer.kept q
  words_below q below = words_kept buffer q below (unsolved_below q below) (uncached_below q below)

  -- Each found word is one of the buffer's.
  pub found_is_word : Keeps (get buffer.cached) (buffer_words buffer)
  found_is_word q word found =
      or_second (buffer_known buffer q) (get buffer.cached q) (is.once q (has_value (get buffer.cached q) word found)) ∙ found

  -- The words as a play states them: kept before the mark, and else the buffer's.
  pub words_in_play : (q : ℕ) → buffer_words buffer q ≡ (if nat_lt q buffer.mark then get buffer.kept q else buffer_words buffer q)
  words_in_play q = ⊎_elim
      (λ below. words_below q below ∙ sym (if-less q buffer.mark (get buffer.kept q) (buffer_words buffer q) below))
      (λ ahead. sym (if-not_less q buffer.mark (get buffer.kept q) (buffer_words buffer q) ahead))
      (cases_lt q buffer.mark)

  -- No solved word stands where another one is known.
  pub solved_beside : (q : ℕ) → IsSome (get buffer.solved q) → buffer_received buffer q ≡ None
  solved_beside q some = received_ahead buffer q (is.solved q some).0 ∙ is.solved_once q some
