-- What small slots say: each the slot with its content, or with the found word at its place.
use Rattle.std.specs.Prelude.{◌≡◌, ◌≤◌, ℕ, Bool, true, false, List, map, length, count_by, slice_index_or, Option, Some, None, IsSome}
use Rattle.slab.specs.Slab.{Slab, get, slab_len}
use Rattle.fg_words.specs.declared.Word.{Word}
use Rattle.fg_peel.specs.declared.Slot.{Slot}
use Rattle.fg_peel.specs.declared.Slot.TheVariants as slot
use Rattle.fg_buffer.specs.declared.small_slots.SmallSlot.{SmallSlot}
use Rattle.fg_buffer.specs.declared.small_slots.SmallSlot.TheVariants.{Nothing, Media, Solved, Found}
use Rattle.fg_buffer.specs.declared.small_slots.Content.{Content}
use Rattle.fg_buffer.specs.declared.small_slots.Content.TheVariants as content

-- The slot of a content.
abbrev pub slot_of : Content → Slot
slot_of content.Nothing = slot.Empty
slot_of (content.Media share) = slot.Media share.now
slot_of (content.Solved share) = slot.Solved share.now
slot_of (content.Found word) = slot.Filled word.now

-- A found word as a slot.
abbrev pub found : Option Word → Slot
found None = slot.Empty
found (Some word) = slot.Filled word

-- What a small slot says, where the found words stand in a slab.
abbrev pub said : Slab Word → SmallSlot → Slot
said words Nothing = slot.Empty
said words (Media share) = slot.Media share
said words (Solved share) = slot.Solved share
said words (Found place) = found (get words place)

abbrev pub said_by : Slab Word → List SmallSlot → List Slot
said_by words slots = map (said words) slots

-- The small slot has a place for a found word.
abbrev pub has_place : SmallSlot → Bool
has_place Nothing = false
has_place (Media share) = false
has_place (Solved share) = false
has_place (Found place) = true

-- What is true of the found words: each small slot that has a place has a word there, no two have the same place, no other
-- place is taken, and there is room for as many words as there are slots.
pub record AreHeld (slots : List SmallSlot) (words : Slab Word) : Type 0 where
  pub held : (i place : ℕ) → slice_index_or slots i Nothing ≡ Found place → IsSome (get words place)
  pub apart :
      (i j place : ℕ) → slice_index_or slots i Nothing ≡ Found place → slice_index_or slots j Nothing ≡ Found place → i ≡ j
  pub count : slab_len words ≡ count_by has_place slots
  pub room : length slots ≤ words.capacity
