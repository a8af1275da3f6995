-- What early ends of searches and passes rest on.
use Rattle.std.proofs.Common.{◌≡◌, ◌<◌, ◌≤◌, ℕ, Bool, List, [], Option, Some, None, refl, ◌∙◌, ⊎_elim, arith}
use Rattle.std.specs.Option.{option_or}
use Rattle.std.specs.FinMap.{get}
use Rattle.slab.specs.Slab.{Slab}
use Rattle.fg_words.specs.declared.Word.{Word}
use Rattle.fg_peel.specs.declared.Line.{Line}
use Rattle.fg_peel.specs.Slots.{equation_of}
use Rattle.fg_peel.proofs.Options.{none_or_some, has_value}
use Rattle.fg_peel.specs.Live.{last_slot, Survives}
use Rattle.fg_peel.specs.Words.{Words}
use Rattle.fg_buffer.specs.PlayoutBuffer.{BufferState, IsBuffer, buffer_known, buffer_received}
use Rattle.fg_buffer.specs.LiveInside.{Holds, AreBetween, IsBased, Moves, Drops}
use Rattle.fg_buffer.proofs.Choices.{if-less}
use Rattle.fg_buffer.proofs.LiveInserts.{none_at}
use Rattle.fg_buffer.proofs.LiveMoves.{over_nothing}

-- where all are left, nothing moves
pub nothing_moves :
    (IsLeft IsGone : Line → Type 0) (source target : Slab Line) → ((line : Line) → Holds source line → IsLeft line)
    → Moves IsLeft IsGone source target source target
nothing_moves IsLeft IsGone source target all =
    record { left = λ line h. (h, all line h); over = over_nothing IsGone source target }

-- where all stay, nothing is dropped
pub nothing_drops :
    (Stays : Line → Type 0) (lines : Slab Line) (places : List Bool) → ((line : Line) → Holds lines line → Stays line)
    → Drops Stays lines lines places places
nothing_drops Stays lines places all = record {
  left = λ key line. (λ is. (is, all line (key, is)), λ is. is.0);
  freed = λ place. (λ taken. (taken, λ line h same. all line h), λ taken. taken.0);
  count = refl;
  fewer = omega arith;
  capacity = refl;
}

pub all_survive :
    (mark earliest : ℕ) (kept : Words) (lines : Slab Line) → mark ≤ earliest
    → ((line : Line) → Holds lines line → IsBased mark kept (equation_of line))
    → ((line : Line) → Holds lines line → earliest ≤ last_slot (equation_of line))
    → (line : Line) → Holds lines line → Survives mark kept (equation_of line)
all_survive mark earliest kept lines before based from line h =
    let near = from line h in
    let reaches : mark ≤ last_slot (equation_of line) = omega (arith, before, near) in
    record { reaches = reaches; based = based line h reaches }

-- bounds of no lines
pub nothing_between :
    (earliest latest : ℕ) (first second : Slab Line) → first.slots ≡ [] → second.slots ≡ []
    → AreBetween earliest latest first second
nothing_between earliest latest first second none none' line stands =
    ⊎_elim (λ a. absurd (none_at first none a.0 line a.1)) (λ b. absurd (none_at second none' b.0 line b.1)) stands

-- below the mark a buffer tells the words that it keeps, and no others
or_nothing : (one other : Option Word) → other ≡ None → option_or one other ≡ one
or_nothing None other none = none
or_nothing (Some word) other none = refl

pub known_before :
    (buffer : BufferState) → IsBuffer buffer → (position : ℕ) → position < buffer.mark
    → buffer_known buffer position ≡ get buffer.kept position
known_before buffer is position before =
    let unsolved : get buffer.solved position ≡ None = ⊎_elim
    (λ none. none)
    (λ some.
    let from = (is.solved position (has_value (get buffer.solved position) some.0 some.1)).0 in
    absurd (omega (arith, before, from)))
    (none_or_some (get buffer.solved position)) in
    or_nothing (buffer_received buffer position) (get buffer.solved position) unsolved
    ∙ if-less position buffer.mark (get buffer.kept position) (get buffer.media position) before
