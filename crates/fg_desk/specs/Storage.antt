-- What the buffer and the live equations do together. No public contract cites it.
use Rattle.std.specs.Prelude.{◌≡◌, ◌≢◌, ◌⊎◌, ◌↔◌, ◌+◌, ◌<◌, ℕ, List, map, Bool, true, false, Option, Some, None, IsSome, IsSomeAnd, IsTrue}
use Rattle.std.specs.List.{Contains}
use Rattle.std.specs.FinMap.{get, entries, empty}
use Rattle.std.specs.FinSet as set
use Rattle.fg_words.specs.declared.Word.{Word}
use Rattle.fg_shape.specs.Shape.{IsShape}
use Rattle.fg_peel.specs.Equation.{Equation, AreMedia, slots, IsComplete}
use Rattle.fg_peel.specs.Peeling.{EndsPeeling}
use Rattle.fg_peel.specs.Solution.{IsSolution}
use Rattle.fg_playout.specs.declared.reply.Outcome.{Outcome}
use Rattle.fg_playout.specs.declared.reply.Outcome.TheVariants.{Repaired, Inconsistent}
use Rattle.fg_playout.specs.State.{Live, Words}
use Rattle.fg_playout.specs.Play.{Survives}
use Rattle.fg_buffer.specs.PlayoutBuffer.{BufferState, buffer_known, buffer_words, Advances}
use Rattle.fg_buffer.specs.LiveEquations.{LiveState, no_equations, Reopens}

-- What the live equations say.
abbrev pub equations_in : LiveState → List Equation
equations_in lines = map (λ entry. entry.1.equation) (entries lines.live)

-- An equation can be asked of the buffer: its slots lie below the buffer's end, and those below the mark have words.
pub record IsInBuffer (buffer : BufferState) (equation : Equation) : Type 0 where
  pub shape : IsShape equation.offset equation.count
  pub near : (position : ℕ) → Contains (slots equation) position → position < buffer.mark + buffer.reach
  pub based :
      (position : ℕ) → Contains (slots equation) position → position < buffer.mark → IsSome (get buffer.kept position)

-- That is so of each live equation.
abbrev pub AreInBuffer : BufferState → LiveState → Type 0
AreInBuffer buffer lines = (serial : ℕ) (live : Live) → get lines.live serial ≡ Some live → IsInBuffer buffer live.equation

-- This holds of each settled equation.
abbrev pub EachSettled : LiveState → (Equation → Type 0) → Type 0
EachSettled lines P =
    (serial : ℕ) (live : Live) → get lines.live serial ≡ Some live → IsTrue (set.contains lines.settled serial)
    → P live.equation

-- The buffer has each word that follows from its words and the equations, and the answer tells whether they have a
-- solution and all words are media words. The buffer's words are then that solution.
pub record IsRecovered (equations : List Equation) (old new : BufferState) (answer : Bool) : Type 0 where
  pub rest : new ≡ record old { cached = new.cached }
  pub peeling : EndsPeeling equations (buffer_words old) (buffer_words new)
  pub solved : IsTrue answer → AreMedia (buffer_words new) × IsSolution (buffer_words old) equations (buffer_words new)
  pub solvable :
      AreMedia (buffer_words old) → (solution : ℕ → Option Word) → IsSolution (buffer_words old) equations solution
      → IsTrue answer

-- Those equations stay live that survive a play up to this mark. Each of them that is then settled is complete in these
-- words.
pub record Keeps (words : ℕ → Option Word) (mark : ℕ) (kept : Words) (old new : LiveState) : Type 0 where
  pub live :
      (serial : ℕ) (live : Live) → (get new.live serial ≡ Some live)
      ↔ ((get old.live serial ≡ Some live) × Survives mark kept live.equation)
  pub settled : EachSettled new (IsComplete words)

-- The buffer without the words that were found and not told.
abbrev pub without_cached : BufferState → BufferState
without_cached buffer = record buffer { cached = empty }

-- And without those that were solved.
abbrev pub without_found : BufferState → BufferState
without_found buffer = record buffer { solved = empty; cached = empty }

-- The mark has moved on by `count` positions in a play of this outcome.
abbrev pub Closes : Outcome → ℕ → BufferState → LiveState → BufferState → LiveState → Type 0
Closes Repaired count old lines new left =
    Advances count old new × Keeps (buffer_words old) new.mark new.kept lines left
Closes Inconsistent count old lines new left = Advances count (without_found old) new × (left ≡ no_equations)

-- The position has no other word than this, and nothing changes.
pub record Leaves (position : ℕ) (word : Word) (buffer new : BufferState) (lines left : LiveState) : Type 0 where
  pub agrees : (found : Word) → buffer_words buffer position ≡ Some found → found ≡ word
  pub buffer_is : new ≡ buffer
  pub lines_are : left ≡ lines

-- Another word was found there and not told. Each word that was found so is forgotten.
pub record Forgets (position : ℕ) (buffer new : BufferState) (lines left : LiveState) : Type 0 where
  pub unknown : buffer_known buffer position ≡ None
  pub buffer_is : new ≡ without_cached buffer
  pub lines_are : Reopens (buffer_words new) lines left

-- Another word was solved there. Each word that was solved or found is forgotten.
pub record Withdraws (position : ℕ) (word : Word) (buffer new : BufferState) (lines left : LiveState) : Type 0 where
  pub contradicts : IsSomeAnd (get buffer.solved position) (λ other. other ≢ word)
  pub buffer_is : new ≡ without_found buffer
  pub lines_are : Reopens (buffer_words new) lines left

-- Way is made at a position for a word. The answer tells whether the solved words were withdrawn.
abbrev pub MakesWay : Bool → ℕ → Word → BufferState → BufferState → LiveState → LiveState → Type 0
MakesWay true position word buffer new lines left = Withdraws position word buffer new lines left
MakesWay false position word buffer new lines left =
    Leaves position word buffer new lines left ⊎ Forgets position buffer new lines left

-- There is a word and it is another one.
abbrev pub IsOther : Option Word → Word → Bool → Type 0
IsOther found word answer = (IsTrue answer → IsSomeAnd found (λ other. other ≢ word)) × (answer ≡ false → (other : Word) → found ≡ Some other → other ≡ word)
