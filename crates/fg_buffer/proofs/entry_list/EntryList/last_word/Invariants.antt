use Rattle.fg_buffer.specs.BufferEntries.{HasNoWordFrom}
use Rattle.fg_buffer.proofs.entry_list.EntryList.last_word.Given as goal

abbrev pub invariant-loop-i : goal.invariant-loop-i
invariant-loop-i l = HasNoWordFrom l.self l.i
