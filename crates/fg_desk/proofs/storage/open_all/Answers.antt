use Rattle.fg_buffer.specs.PlayoutBuffer.{buffer_words}
use Rattle.fg_desk.proofs.WatchedLines.{all_watched}
use Rattle.fg_desk.proofs.storage.open_all.Goals as goal

pub returns-clause-watched : goal.returns-clause-watched
returns-clause-watched c =
    all_watched c.add_all.new.self (buffer_words c.args.buffer.now) c.reopen.new.self c.reopen.ensures.facts c.add_all.ensures
