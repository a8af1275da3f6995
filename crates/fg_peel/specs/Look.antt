-- What a look at one equation finds, among words by position.
use Rattle.std.specs.Prelude.{◌≡◌, ◌↔◌, ◌<◌, ◌≤◌, ℕ, slice_index, Option, Some, None, IsSome, IsTrue}
use Rattle.std.specs.List.{Contains}
use Rattle.fg_words.specs.declared.Word.{Word}
use Rattle.fg_words.specs.Word.{HasRoom, IsMedia}
use Rattle.fg_peel.specs.declared.looks.Look.{Look}
use Rattle.fg_peel.specs.declared.looks.Look.TheVariants.{Several, Found, Complete}
use Rattle.fg_peel.specs.declared.span.Missing.TheVariants.{One}
use Rattle.fg_peel.specs.Equation.{Equation, slots, IsComplete, ComesOut}
use Rattle.fg_peel.specs.Peeling.{after_step, given_word}
use Rattle.fg_peel.specs.Slots.{IsMissing}

-- The equation lacks the words at these two slots, and the first is the least slot that lacks one.
pub record LacksTwo (words : ℕ → Option Word) (equation : Equation) (first second : ℕ) : Type 0 where
  pub first_slot : Contains (slots equation) first
  pub second_slot : Contains (slots equation) second
  pub before : first < second
  pub first_lacks : words first ≡ None
  pub second_lacks : words second ≡ None
  pub filled : (slot : ℕ) → Contains (slots equation) slot → slot < first → IsSome (words slot)

-- What was found, and the words after it: those before, or one step of a peeling later.
abbrev pub IsLook : (ℕ → Option Word) → (ℕ → Option Word) → Equation → Look → Type 0
IsLook old new equation (Several first second) = LacksTwo old equation first second × (new ≡ old)
IsLook old new equation (Found position media) =
    IsMissing old equation (One position)
    × (new ≡ after_step old (record { equation = equation; position = position }))
    × (IsTrue media ↔ IsMedia (given_word old (record { equation = equation; position = position })))
    × HasRoom (given_word old (record { equation = equation; position = position }))
IsLook old new equation (Complete sound) =
    IsComplete old equation × (IsTrue sound ↔ ComesOut old equation) × (new ≡ old)

-- The next slot of an equation, by number from this one on, that lacks its word.
abbrev pub IsNextGap : (ℕ → Option Word) → Equation → ℕ → Option ℕ → Type 0
IsNextGap words equation from None =
    (j : ℕ) → from ≤ j → j < equation.count → IsSome (words (slice_index (slots equation) j))
IsNextGap words equation from (Some number) =
    (from ≤ number) × (number < equation.count) × (words (slice_index (slots equation) number) ≡ None)
    × ((j : ℕ) → from ≤ j → j < number → IsSome (words (slice_index (slots equation) j)))
