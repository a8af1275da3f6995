use Rattle.std.proofs.Common.{◌≡◌, ◌+◌, ◌<◌, ◌≤◌, ℕ, Some}
use Rattle.std.specs.FinMap.{get}
use Rattle.fg_words.specs.declared.Word.{Word}
use Rattle.fg_words.specs.Word.{IsMedia}
use Rattle.fg_buffer.proofs.playout_buffer.PlayoutBuffer.are_media.Given as goal

abbrev pub invariant-loop-ahead : goal.invariant-loop-ahead
invariant-loop-ahead l =
    (q : ℕ) (word : Word) → l.self.mark ≤ q → q < l.self.mark + l.ahead → get l.self.solved q ≡ Some word → IsMedia word
