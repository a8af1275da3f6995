-- What calls make of one text that they read and one that they write. This project's own.
use Rattle.std.specs.Prelude.{ℕ, List, Option}

-- Between what is left to read before a call, and what is written before and after it.
abbrev pub Texts : Type 1
Texts = Option (List ℕ) → Option (List ℕ) → Option (List ℕ) → Type 0

-- The same, and what is left to read after it, behind what was before.
abbrev pub ReadTexts : Type 1
ReadTexts = Option (List ℕ) → Option (List ℕ) → Option (List ℕ) → Option (List ℕ) → Type 0
