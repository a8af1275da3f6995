-- Words that were found lie in the closure.
use Rattle.std.proofs.Common.{◌≡◌, ◌↔◌, ℕ, Bool, true, false, Option, Some, None, IsSome, refl, sym, ap, subst, ◌∙◌}
use Rattle.std.specs.FinMap.{get}
use Rattle.std.specs.Option.{option_or}
use Rattle.fg_words.specs.declared.Word.{Word}
use Rattle.fg_peel.specs.Laws.{PeelingsStayInClosure}
use Rattle.fg_playout.specs.Laws.{ClosureIsPeelings}
use Rattle.fg_playout.specs.Solution.{InClosure}
use Rattle.fg_playout.specs.State.{known, live_equations}
use Rattle.fg_buffer.specs.PlayoutBuffer.{BufferState, buffer_known, buffer_words}
use Rattle.fg_desk.specs.Inside.{Parts, AreSound, state_of}

-- What is known was found.
some_or : (one other : Option Word) → IsSome one → IsSome (option_or one other)
some_or None other is = absurd (cc)
some_or (Some word) other is = is

pub is_found : (buffer : BufferState) (position : ℕ) → IsSome (buffer_known buffer position) → IsSome (buffer_words buffer position)
is_found buffer position = some_or (buffer_known buffer position) (get buffer.cached position)

pub found_follows : PeelingsStayInClosure → ClosureIsPeelings → (parts : Parts) → AreSound parts → (position : ℕ)
    → IsSome (buffer_words parts.buffer position) → InClosure (state_of parts) position
found_follows within closure parts sound position some =
    let p = sound.peeled in
    (closure (state_of parts) sound.facts position).1
    (within (known (state_of parts)) (live_equations (state_of parts)) p.0 p.1 position
    (subst (λ (f : ℕ → Option Word). IsSome (f position)) p.2 some))

pub true_or_false : (b : Bool) → (b ≡ false → ⊥) → b ≡ true
true_or_false true n = refl
true_or_false false n = absurd (n refl)
