use Rattle.std.proofs.Common.{map, arith}
use Rattle.std.proofs.lemmas.List.{length-map}
use Rattle.fg_plain.specs.Datagrams.{arrival_of, play_of}
use Rattle.fg_plain.proofs.run.run_over.Goals as goal

pub flush-requires-clause-within : goal.flush-requires-clause-within
flush-requires-clause-within c flushed new steps =
    let so = c.in_ok-take_all.ensures.takes in
    let window = c.window.ensures in
    c.runs_stay_within.ensures.flushing c.args.desk.now.state.playout (map arrival_of c.args.datagrams.now)
    (map play_of c.take_all.new.run.plays.items) flushed c.take_all.new.run.replies.items c.take_all.new.desk.state new
    (omega (arith, window.value, window.some)) (omega (arith, window.value, window.limit))
    (omega (arith, window.value, window.depth)) c.requires.depth so.read
    (simp (length-map) c.requires.limit) so.takes steps

pub returns : goal.returns
returns c =
    let so = c.in_ok-take_all.ensures.takes in
    let flush = c.in_ok-flush.ensures.plays in (
      record {
        taken = map play_of c.take_all.new.run.plays.items;
        flushed = flush.0;
        filled = c.take_all.new.desk.state;
        empty = flush.1;
        takes = so.takes;
        flush = flush.3;
        plays_are = flush.2;
      },
      c.runs-run.ensures,
    )
