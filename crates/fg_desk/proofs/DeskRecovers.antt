-- What a desk's buffer has once the words that follow are found.
use Rattle.std.proofs.Common.{◌↔◌, ◌++◌, ℕ, Bool, Option, IsSome, IsTrue, sym, ap, subst, ◌∙◌, arith}
use Rattle.fg_words.specs.declared.Word.{Word}
use Rattle.fg_peel.specs.Equation.{AreMedia, Keeps}
use Rattle.fg_peel.specs.Closure.{InClosure as Follows}
use Rattle.fg_peel.specs.Solution.{IsSolution as Solves}
use Rattle.fg_peel.specs.Peeling.{IsPeeling, ArePeeled, end_of}
use Rattle.fg_peel.specs.Laws.{FoundKeepsSolutions, FoundKeepsClosure, MaximalPeelingsEndAtClosure, PeelingsAppend, PeelingsKeepWords, SolutionsKeepPeelings}
use Rattle.fg_playout.specs.declared.reply.Outcome.TheVariants.{Repaired}
use Rattle.fg_playout.specs.State.{known, live_equations}
use Rattle.fg_playout.specs.Solution.{InClosure, IsSolution}
use Rattle.fg_desk.specs.Inside.{Parts, AreSound, state_of}
use Rattle.fg_buffer.specs.PlayoutBuffer.{BufferState, buffer_words}
use Rattle.fg_desk.specs.Storage.{AreInBuffer, IsRecovered}
use Rattle.fg_playout.proofs.Orderly.{IsOrderly, orderly_from_holds, admissible}
use Rattle.fg_playout.proofs.Peeled.{closure_to_peel, closure_from_peel, solution_to_peel, solution_from_peel}
use Rattle.fg_playout.proofs.Plays.{words_are_media}
use Rattle.fg_peel.proofs.SlotRange.{slot_is_near}

-- The live equations can be asked of the buffer.
pub are_in_buffer : (parts : Parts) → AreSound parts → AreInBuffer parts.buffer parts.lines
are_in_buffer parts sound serial live is =
    let k = sound.facts.live serial live is in
    let near = k.near in
    let reach = sound.limits.reach_is in
    record {
      shape = k.shape;
      near = λ slot c. (let last = (slot_is_near live.equation slot k.shape c).last in omega (arith, last, near, reach));
      based = k.based;
    }

module _
    (parts : Parts) (sound : AreSound parts) (buffer : BufferState) (answer : Bool)
    (recovered : IsRecovered (live_equations (state_of parts)) parts.buffer buffer answer) where
  orderly : IsOrderly (state_of parts)
  orderly = orderly_from_holds (state_of parts) sound.facts

  pub words_kept : PeelingsKeepWords → Keeps (buffer_words parts.buffer) (buffer_words buffer)
  words_kept keep =
      let e = recovered.peeling in
      subst (λ (f : ℕ → Option Word). Keeps (buffer_words parts.buffer) f) (sym e.2)
      (keep (buffer_words parts.buffer) (live_equations (state_of parts)) e.0 e.1.peeling)

  -- What was found before may be taken as known, where it is media words.
  found_solves :
      FoundKeepsSolutions → AreMedia (buffer_words parts.buffer) → (words : ℕ → Option Word)
      → Solves (known (state_of parts)) (live_equations (state_of parts)) words
      ↔ Solves (buffer_words parts.buffer) (live_equations (state_of parts)) words
  found_solves found media words =
      let p = sound.peeled in
      subst
      (λ (f : ℕ → Option Word).
      Solves (known (state_of parts)) (live_equations (state_of parts)) words ↔ Solves f (live_equations (state_of parts)) words)
      (sym p.2)
      (found (known (state_of parts)) (live_equations (state_of parts)) p.0 p.1 (admissible (state_of parts) orderly)
      (λ q w none is. media q w (ap (λ (f : ℕ → Option Word). f q) p.2 ∙ is)) words)

  -- If the answer is yes, all words are media words, and so are those that were there before.
  pub desk_solution : FoundKeepsSolutions → PeelingsKeepWords → IsTrue answer → IsSolution (state_of parts) (buffer_words buffer)
  desk_solution found keep solved =
      let s = recovered.solved solved in
      let media : AreMedia (buffer_words parts.buffer) = λ q w is. s.0 q w (words_kept keep q w is) in
      solution_from_peel (state_of parts) orderly (buffer_words buffer) ((found_solves found media (buffer_words buffer)).1 s.1)

  -- If there is a solution, it has all that was found, so that is media words.
  pub desk_solvable :
      FoundKeepsSolutions → SolutionsKeepPeelings → (solution : ℕ → Option Word) → IsSolution (state_of parts) solution
      → IsTrue answer
  desk_solvable found kept solution is =
      let p = sound.peeled in
      let solves = solution_to_peel (state_of parts) orderly solution is in
      let all : Keeps (end_of (known (state_of parts)) p.0) solution =
      kept (known (state_of parts)) (live_equations (state_of parts)) (admissible (state_of parts) orderly) solution solves p.0
      p.1 in
      let media : AreMedia (buffer_words parts.buffer) =
      λ q w at. words_are_media (state_of parts) Repaired solution orderly is q w
      (all q w (sym (ap (λ (f : ℕ → Option Word). f q) p.2) ∙ at)) in
      recovered.solvable media solution ((found_solves found media solution).0 solves)

  -- All that the buffer has now was found by one peeling.
  pub all_peeled : PeelingsAppend → ArePeeled (live_equations (state_of parts)) (known (state_of parts)) (buffer_words buffer)
  all_peeled append =
      let p = sound.peeled in
      let e = recovered.peeling in
      let rest : IsPeeling (end_of (known (state_of parts)) p.0) (live_equations (state_of parts)) e.0 =
      subst (λ (f : ℕ → Option Word). IsPeeling f (live_equations (state_of parts)) e.0) p.2 e.1.peeling in
      let joined = append (known (state_of parts)) (live_equations (state_of parts)) p.0 e.0 p.1 rest in
      (p.0 ++ e.0, joined.0, e.2 ∙ ap (λ (f : ℕ → Option Word). end_of f e.0) p.2 ∙ sym joined.1)

  -- It has words at exactly the positions of the closure.
  pub has_closure :
      FoundKeepsClosure → MaximalPeelingsEndAtClosure → (position : ℕ)
      → IsSome (buffer_words buffer position) ↔ InClosure (state_of parts) position
  has_closure found filled position =
      let p = sound.peeled in
      let e = recovered.peeling in
      let ends : IsSome (buffer_words buffer position) ↔ Follows (buffer_words parts.buffer) (live_equations (state_of parts)) position =
      subst (λ (f : ℕ → Option Word). IsSome (f position) ↔ Follows (buffer_words parts.buffer) (live_equations (state_of parts)) position)
      (sym e.2) (filled (buffer_words parts.buffer) (live_equations (state_of parts)) e.0 e.1 position) in
      let same : Follows (known (state_of parts)) (live_equations (state_of parts)) position
      ↔ Follows (buffer_words parts.buffer) (live_equations (state_of parts)) position =
      subst
      (λ (f : ℕ → Option Word).
      Follows (known (state_of parts)) (live_equations (state_of parts)) position ↔ Follows f (live_equations (state_of parts)) position)
      (sym p.2) (found (known (state_of parts)) (live_equations (state_of parts)) p.0 p.1 position) in (
        λ some. closure_from_peel (state_of parts) orderly position (same.1 (ends.0 some)),
        λ inside. ends.1 (same.0 (closure_to_peel (state_of parts) position inside)),
      )

  -- The live equations can still be asked of the buffer, and those that are settled are complete.
  pub still_in_buffer : AreInBuffer buffer parts.lines
  still_in_buffer =
      subst (λ (r : BufferState). AreInBuffer r parts.lines) (sym recovered.rest)
      (λ serial live is.
      let i = are_in_buffer parts sound serial live is in record { shape = i.shape; near = i.near; based = i.based })
