use Rattle.std.proofs.Common.{◌≡◌, ◌+◌, ◌-◌, ℕ, List, Some, None, sym, ap, ◌∙◌, ⊎_elim, arith}
use Rattle.std.proofs.lemmas.Bool.{cases_lt}
use Rattle.std.proofs.lemmas.Option.{none-some, same_Some}
use Rattle.std.specs.FinMap.{get}
use Rattle.fg_words.specs.declared.Word.{Word}
use Rattle.fg_words.specs.Word.{IsMedia}
use Rattle.fg_peel.specs.declared.Slot.{Slot}
use Rattle.fg_peel.specs.declared.Slot.TheVariants.{Empty, Media, Solved, Filled}
use Rattle.fg_buffer.specs.PlayoutBuffer.{BufferState}
use Rattle.fg_buffer.specs.BufferEntries.{entry_at, solved_in, buffer_of, SolvedAreMedia}
use Rattle.fg_buffer.proofs.Choices.{if-less, if-not_less}
use Rattle.fg_buffer.proofs.BufferViews.{entry_at-buffer, get-solved}
use Rattle.fg_buffer.proofs.playout_buffer.PlayoutBuffer.solved_are_media.Goals as goal

-- an entry with a solved word
solved_entry : (entry : Slot) (word : Word) → solved_in entry ≡ Some word → entry ≡ Solved word
solved_entry Empty word is = absurd (none-some word is)
solved_entry (Media found) word is = absurd (none-some word is)
solved_entry (Solved found) word is = ap Solved (same_Some found word is)
solved_entry (Filled found) word is = absurd (none-some word is)

solved_media :
    (mark : ℕ) (entries : List Slot) → SolvedAreMedia entries → (q : ℕ) (word : Word)
    → get (buffer_of mark entries).solved q ≡ Some word → IsMedia word
solved_media mark entries media q word is = ⊎_elim
    (λ below.
    absurd (none-some word (sym (get-solved mark entries q ∙ if-less q mark None (solved_in (entry_at mark entries q)) below) ∙ is)))
    (λ ahead.
    let entry : entry_at mark entries q ≡ Solved word = solved_entry (entry_at mark entries q) word
    (sym (get-solved mark entries q ∙ if-not_less q mark None (solved_in (entry_at mark entries q)) ahead) ∙ is) in
    media (q + 100 - mark) word (omega (arith, ahead)) (sym (entry_at-buffer mark entries q (omega (arith, ahead))) ∙ entry))
    (cases_lt q mark)

pub returns : goal.returns
returns c = λ known q word is.
    solved_media c.self.inside.mark c.self.inside.entries (c.self.invariant.1 known) q word
    (ap (λ (r : BufferState). get r.solved q) c.self.view_is ∙ is)
