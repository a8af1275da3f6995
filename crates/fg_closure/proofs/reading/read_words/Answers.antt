use Rattle.std.proofs.Common.{arith}
use Rattle.fg_closure.proofs.Readings.{words_read}
use Rattle.fg_closure.proofs.reading.read_words.Goals as goal

pub returns : goal.returns
returns c =
    words_read c.args.desk.now.state c.args.first c.loop-k.k c.loop-k.flags c.requires.facts c.requires.first
    (omega (arith, c.requires.count)) c.loop-k.invariant.read c.loop-k.invariant.unread
