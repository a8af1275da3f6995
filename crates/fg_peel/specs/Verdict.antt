-- The verdict on the words that peeling leaves.
use Rattle.std.specs.Prelude.{◌≡◌, ◌≤◌, ℕ, List, Option, Some}
use Rattle.std.specs.List.{Contains}
use Rattle.slab.specs.Slab.{Slab}
use Rattle.fg_words.specs.declared.Word.{Word}
use Rattle.fg_words.specs.Word.{IsMedia}
use Rattle.fg_peel.specs.declared.Line.{Line}
use Rattle.fg_peel.specs.declared.Verdict.{Verdict}
use Rattle.fg_peel.specs.declared.Verdict.TheVariants.{Sound, Unsound, NotMedia}
use Rattle.fg_peel.specs.Equation.{Equation, IsComplete, ComesOut, AllComeOut, AreMedia}
use Rattle.fg_peel.specs.Solution.{IsSolution}
use Rattle.fg_peel.specs.Slots.{equation_of, equations_of, lines_of}

-- The least number with a property.
abbrev pub IsLeast : (ℕ → Type 0) → ℕ → Type 0
IsLeast P n = P n × ((m : ℕ) → P m → n ≤ m)

-- The position's word was recovered, and is no media word.
abbrev pub IsNoMedia : (ℕ → Option Word) → ℕ → Type 0
IsNoMedia recovered position = (word : Word) × (recovered position ≡ Some word) × ¬ IsMedia word

-- A line of that place is complete and doesn't come out.
abbrev pub BreaksAt : (ℕ → Option Word) → Slab Line → ℕ → Type 0
BreaksAt words lines place =
    (line : Line) × Contains (lines_of lines) line × (line.place ≡ place) × IsComplete words (equation_of line)
    × ¬ ComesOut words (equation_of line)

-- Which verdict the words get: a recovered word that is no media word counts before a line that doesn't come out, and
-- the least position or place is told.
abbrev pub IsVerdict : (ℕ → Option Word) → (ℕ → Option Word) → Slab Line → Verdict → Type 0
IsVerdict recovered words lines (NotMedia slot) = IsLeast (IsNoMedia recovered) slot
IsVerdict recovered words lines (Unsound place) = AreMedia recovered × IsLeast (BreaksAt words lines) place
IsVerdict recovered words lines Sound = AreMedia recovered × AllComeOut words (equations_of lines)

-- The verdict says whether there is a solution, and the words then are it.
pub record TellsSolution (equations : List Equation) (known words : ℕ → Option Word) (verdict : Verdict) : Type 0 where
  pub sound : verdict ≡ Sound → IsSolution known equations words
  pub complete :
      (solution : ℕ → Option Word) → IsSolution known equations solution → (verdict ≡ Sound) × (words ≡ solution)
