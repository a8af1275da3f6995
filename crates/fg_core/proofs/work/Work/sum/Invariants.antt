use Rattle.std.proofs.Common.{◌≡◌, drop}
use Rattle.fg_words.specs.Word.{word_xor, HasRoom}
use Rattle.fg_core.proofs.Inputs.{total}
use Rattle.fg_core.proofs.work.Work.sum.Given as goal

-- the sum so far and the words that are left make the sum of all
abbrev pub invariant-loop-share : goal.invariant-loop-share
invariant-loop-share l =
    (word_xor l.sum (total (drop l.share-index l.share-items)) ≡ word_xor l.initial.sum (total l.share-items)) × HasRoom l.sum
