-- The steps of the parities under way. No public contract cites it.
use Rattle.std.specs.Prelude.{Bool, true, false}
use Rattle.fg_words.specs.Word.{word_xor}
use Rattle.fg_fechead.specs.declared.Parity.{Parity}

-- A parity under way with a word more: a fresh one begins with it, or the old one goes on.
abbrev pub added : Parity → Bool → Parity → Parity
added parity true fresh = fresh
added parity false fresh = record parity { word = word_xor parity.word fresh.word }
