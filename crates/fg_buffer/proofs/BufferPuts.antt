-- A word is put at a position of a buffer, into the entry that stands at its place.
use Rattle.std.proofs.Common.{◌≡◌, ◌+◌, ◌-◌, ◌<◌, ◌≤◌, ℕ, None, List, length, set, subst, sym, ap, ◌∙◌, arith}
use Rattle.std.specs.FinMap.{get}
use Rattle.fg_words.specs.declared.Word.{Word}
use Rattle.fg_words.specs.Word.{IsMedia}
use Rattle.fg_peel.specs.declared.Slot.{Slot}
use Rattle.fg_peel.specs.declared.Slot.TheVariants.{Media, Solved}
use Rattle.fg_buffer.specs.PlayoutBuffer.{BufferState, receives, publishes}
use Rattle.fg_buffer.specs.BufferEntries.{buffer_of, AreEntries, SolvedAreMedia}
use Rattle.fg_buffer.proofs.BufferChanges.{put_are, put_media, received_buffer, published_buffer}

module _
    (mark : ℕ) (entries : List Slot) (state : BufferState) (view : buffer_of mark entries ≡ state) (are : AreEntries mark entries)
    (q : ℕ) (ahead : state.mark ≤ q) (near : q < state.mark + state.reach) (place : ℕ)
    (at : mark ≤ q → q + 100 < mark + length entries → place ≡ q - mark + 100) where
  from_mark : mark ≤ q
  from_mark = omega (arith, ap (λ (r : BufferState). r.mark) view, ahead)

  in_reach : q < mark + (length entries - 100)
  in_reach = omega (arith, ap (λ (r : BufferState). r.mark) view, ap (λ (r : BufferState). r.reach) view, near)

  place_is : place ≡ q - mark + 100
  place_is = at from_mark (omega (arith, in_reach, from_mark))

  pub place_within : place < length entries
  place_within = omega (arith, place_is, in_reach, from_mark)

  module _ (entry : Slot) (new : List Slot) (put : new ≡ set entries place entry) where
    put_is : new ≡ set entries (q - mark + 100) entry
    put_is = put ∙ ap (λ (k : ℕ). set entries k entry) place_is

    pub are_still : AreEntries mark new
    are_still = subst (λ (xs : List Slot). AreEntries mark xs) (sym put_is) (put_are mark entries q entry are from_mark in_reach)

    pub media_still : SolvedAreMedia entries → ((word : Word) → entry ≡ Solved word → IsMedia word) → SolvedAreMedia new
    media_still before now =
        subst (λ (xs : List Slot). SolvedAreMedia xs) (sym put_is) (put_media mark entries q entry are from_mark in_reach before now)

  pub received : (word : Word) (new : List Slot) → new ≡ set entries place (Media word) → buffer_of mark new ≡ receives state q word
  received word new put =
      ap (buffer_of mark) (put_is (Media word) new put) ∙ received_buffer mark entries q word are from_mark in_reach
      ∙ ap (λ (r : BufferState). receives r q word) view

  pub published :
      (word : Word) (new : List Slot) → new ≡ set entries place (Solved word) → get state.media q ≡ None
      → buffer_of mark new ≡ publishes state q word
  published word new put none =
      ap (buffer_of mark) (put_is (Solved word) new put)
      ∙ published_buffer mark entries q word are from_mark in_reach (ap (λ (r : BufferState). get r.media q) view ∙ none)
      ∙ ap (λ (r : BufferState). publishes r q word) view
