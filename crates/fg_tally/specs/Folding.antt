-- An equation with the words that were folded into it. This project's own.
use Rattle.std.specs.Prelude.{◌≡◌, ◌≤◌, ◌<◌, ◌+◌, ◌*◌, ◌==◌, ◌↔◌, ℕ, zero, suc, List, [], ◌∷◌, length, not, IsTrue, if◌then◌else◌}
use Rattle.std.specs.List.{filter}
use Rattle.std.specs.Int.{bit_at}
use Rattle.std.specs.Ordering.{nat_cmp}
use Rattle.std.specs.FinSet.{FinSet, contains, insert, empty}
use Rattle.fg_words.specs.declared.Word.{Word}
use Rattle.fg_words.specs.Word.{word_xor, zero_word}
use Rattle.fg_peel.specs.Equation.{Equation, slots}
use Rattle.fg_core.specs.declared.key.Key.{Key}
use Rattle.fg_tally.specs.declared.answers.Folded.{Folded}
use Rattle.fg_tally.specs.declared.answers.Folded.TheVariants.{Waiting, Last, Whole, Stale, Unknown}
use Rattle.fg_tally.specs.declared.answers.Held.{Held}

-- The equation of a key, those of its slots whose words were folded, and the XOR of its parity word and these words.
pub record FoldingState : Type 0 where
  pub key : Key
  pub equation : Equation
  pub folded : FinSet nat_cmp
  pub remainder : Word

-- Nothing is folded.
abbrev pub nothing_folded : Key → Equation → FoldingState
nothing_folded key equation = record { key = key; equation = equation; folded = empty; remainder = equation.parity }

-- The word of a slot is folded, unless that slot was folded before.
abbrev pub with_folded : FoldingState → ℕ → Word → FoldingState
with_folded state slot word =
    (if contains state.folded slot then state
    else record state { folded = insert state.folded slot; remainder = word_xor state.remainder word })

-- The slots that weren't folded.
abbrev pub missing_of : FoldingState → List ℕ
missing_of state = filter (λ slot. not (contains state.folded slot)) (slots state.equation)

-- What a fold answers, by the slots that are missing afterwards.
abbrev pub Tells : FoldingState → Folded → Type 0
Tells state (Waiting count) = (count ≡ length (missing_of state)) × (2 ≤ count)
Tells state (Last slot) = missing_of state ≡ slot ∷ []
Tells state (Whole comes_out) = (missing_of state ≡ []) × (IsTrue comes_out ↔ (state.remainder ≡ zero_word))
Tells state Stale = ⊥
Tells state Unknown = ⊥

-- The slots whose bits are set.
unfoldable pub slots_in : ℕ → ℕ → ℕ → ℕ → FinSet nat_cmp
slots_in bits base offset zero = empty
slots_in bits base offset (suc j) =
    (if bit_at bits j == 1 then insert (slots_in bits base offset j) (base + j * offset)
    else slots_in bits base offset j)

-- What a tally shows of it: each bit that is set is that of a folded slot.
pub record Shows (state : FoldingState) (held : Held) : Type 0 where
  pub key : held.key ≡ state.key
  pub base : held.base ≡ state.equation.base
  pub offset : held.shape.offset ≡ state.equation.offset
  pub count : held.shape.na ≡ state.equation.count
  pub folded :
      (j : ℕ) → (bit_at held.folded j ≡ 1)
      ↔ ((j < state.equation.count) × IsTrue (contains state.folded (state.equation.base + j * state.equation.offset)))
