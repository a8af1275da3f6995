use Rattle.std.proofs.Common.{◌≤◌, ℕ, sym, subst}
use Rattle.fg_words.specs.declared.Word.{Word}
use Rattle.fg_buffer.specs.PlayoutBuffer.{BufferState, buffer_words, receives}
use Rattle.fg_desk.specs.Storage.{MakesWay}
use Rattle.fg_desk.specs.Watched.{EachWatched}
use Rattle.fg_desk.proofs.DeskTimes.{way_keeps}
use Rattle.fg_desk.proofs.PutWords.{received_some, received_beside}
use Rattle.fg_desk.proofs.WatchedLines.{each_put_watched}
use Rattle.fg_desk.proofs.storage.receive.Goals as goal

pub returns-clause-receives : goal.returns-clause-receives
returns-clause-receives c = (
  c.make_way-withdrawn.new.buffer,
  subst
      (λ (word : Word). MakesWay c.make_way-withdrawn.result c.args.position word c.args.buffer.now c.make_way-withdrawn.new.buffer c.args.lines.now c.make_way-withdrawn.new.lines)
      c.word.ensures.word c.make_way-withdrawn.ensures.way,
  c.put_media.ensures,
)

pub returns-clause-watched : goal.returns-clause-watched
returns-clause-watched c =
    let between = c.make_way-withdrawn.new.buffer in
    let same = (way_keeps c.make_way-withdrawn.result c.args.position c.word.result.now c.args.buffer.now between c.args.lines.now
    c.make_way-withdrawn.new.lines c.make_way-withdrawn.ensures.way).mark in
    let ahead : between.mark ≤ c.args.position = subst (λ (m : ℕ). m ≤ c.args.position) (sym same) c.requires.ahead in
    subst (λ (b : BufferState). EachWatched c.wake.new.self (buffer_words b) c.make_way-withdrawn.new.lines) (sym c.put_media.ensures)
    (each_put_watched c.make_way-withdrawn.new.watches c.wake.new.self (buffer_words between)
    (buffer_words (receives between c.args.position c.args.share)) c.args.position
    (received_some between c.args.position c.args.share ahead) (received_beside between c.args.position c.args.share) c.wake.ensures
    c.make_way-withdrawn.new.lines c.make_way-withdrawn.ensures.watched)
