use Rattle.fg_buffer.specs.PlayoutBuffer.{buffer_words}
use Rattle.fg_desk.proofs.WatchedLines.{none_watched}
use Rattle.fg_desk.proofs.storage.close.Goals as goal

pub returns-else-solved-clause-watched : goal.returns-else-solved-clause-watched
returns-else-solved-clause-watched c =
    none_watched c.clear.new.self (buffer_words c.close_received.new.buffer) c.close_received.new.lines c.close_received.ensures.lines
