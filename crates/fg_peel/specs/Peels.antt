-- What peeling does to a span of entries.
use Rattle.std.specs.Prelude.{◌≡◌, ◌↔◌, IsSome, ℕ, ℤ, List}
use Rattle.slab.specs.Slab.{Slab}
use Rattle.fg_peel.specs.declared.Line.{Line}
use Rattle.fg_peel.specs.declared.Slot.{Slot}
use Rattle.fg_peel.specs.declared.Verdict.{Verdict}
use Rattle.fg_peel.specs.Closure.{InClosure}
use Rattle.fg_peel.specs.Equation.{AreMedia}
use Rattle.fg_peel.specs.Peeling.{ArePeeled, EndsPeeling}
use Rattle.fg_peel.specs.Slots.{before_first, words_from, recovered_from, words_at, known_at, recovered_at, equations_of, OnlyFills}
use Rattle.fg_peel.specs.Verdict.{IsVerdict, TellsSolution}

-- The entries before and after it, where the first one stands for the position `low`, and its verdict.
pub record Peels (low : ℤ) (lines : Slab Line) (old new : List Slot) (answer : Verdict) : Type 0 where
  -- Only empty entries change, and the words are then those of exactly the closure.
  pub fills : OnlyFills old new
  pub below : before_first low new ≡ before_first low old
  pub closure :
      (position : ℕ) → IsSome (words_at low new position) ↔ InClosure (words_at low old) (equations_of lines) position
  pub peeling : EndsPeeling (equations_of lines) (words_at low old) (words_at low new)
  -- A recovered word that is no media word counts before an equation that doesn't come out.
  pub verdict : IsVerdict (recovered_at low new) (words_at low new) lines answer
  -- Where the known words are media words and the recovered ones come from them by a peeling, the verdict tells whether
  -- there is a solution, and the words are then it.
  pub solution :
      AreMedia (known_at low old) → ArePeeled (equations_of lines) (known_at low old) (words_at low old)
      → TellsSolution (equations_of lines) (known_at low old) (words_at low new) answer

-- What peeling leaves of a span of entries, and its verdict: only empty entries have changed, the words are the end of a
-- maximal peeling, and the verdict is theirs.
pub record IsPeel (start : ℕ) (lines : Slab Line) (old new : List Slot) (answer : Verdict) : Type 0 where
  pub fills : OnlyFills old new
  pub peeling : EndsPeeling (equations_of lines) (words_from start old) (words_from start new)
  pub verdict : IsVerdict (recovered_from start new) (words_from start new) lines answer
