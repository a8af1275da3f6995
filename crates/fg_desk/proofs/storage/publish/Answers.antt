use Rattle.std.proofs.Common.{sym, subst}
use Rattle.fg_buffer.specs.PlayoutBuffer.{BufferState, buffer_words, publishes}
use Rattle.fg_desk.specs.Watched.{EachWatched}
use Rattle.fg_desk.proofs.PutWords.{published_some, published_beside}
use Rattle.fg_desk.proofs.WatchedLines.{each_put_watched}
use Rattle.fg_words.specs.declared.Word.{Word}
use Rattle.fg_desk.specs.Storage.{MakesWay}
use Rattle.fg_desk.proofs.DeskWays.{nothing_withdrawn}
use Rattle.fg_desk.proofs.storage.publish.Goals as goal

pub returns-clause-publishes : goal.returns-clause-publishes
returns-clause-publishes c = (
  c.make_way.new.buffer,
  nothing_withdrawn c.make_way.result c.args.position c.args.share c.args.buffer.now c.make_way.new.buffer c.args.lines.now
      c.make_way.new.lines
      (subst
      (λ (word : Word). MakesWay c.make_way.result c.args.position word c.args.buffer.now c.make_way.new.buffer c.args.lines.now c.make_way.new.lines)
      c.word.ensures.word c.make_way.ensures.way) c.requires.unsolved,
  c.put_solved.ensures,
)

pub returns-clause-watched : goal.returns-clause-watched
returns-clause-watched c =
    let between = c.make_way.new.buffer in
    subst (λ (b : BufferState). EachWatched c.wake.new.self (buffer_words b) c.make_way.new.lines) (sym c.put_solved.ensures)
    (each_put_watched c.make_way.new.watches c.wake.new.self (buffer_words between)
    (buffer_words (publishes between c.args.position c.args.share)) c.args.position
    (published_some between c.args.position c.args.share) (published_beside between c.args.position c.args.share) c.wake.ensures
    c.make_way.new.lines c.make_way.ensures.watched)
