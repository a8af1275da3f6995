use Rattle.std.proofs.lemmas.Result.{on_ok_weaker, on_err_weaker}
use Rattle.fg_engine.proofs.Underway.{flushes_within, counts_within}
use Rattle.fg_engine.proofs.Taking.{flow_ends, flow_breaks}
use Rattle.fg_engine.proofs.flow.Flow.flush.Goals as goal

pub play_rest-requires-clause-within : goal.play_rest-requires-clause-within
play_rest-requires-clause-within g c = flushes_within c.runs_stay_within.ensures.flushing _ _ _ _ c.requires.underway

pub play_rest-requires-clause-counts : goal.play_rest-requires-clause-counts
play_rest-requires-clause-counts g c = counts_within c.plays_reach_the_mark.ensures.taken _ _ _ _ c.requires.underway

pub returns-clause-ends : goal.returns-clause-ends
returns-clause-ends g c =
    let old = c.args.self.now in
    on_ok_weaker _ (flow_ends c.plays_reach_the_mark.ensures.taken old.state.playout old.state c.play_rest.new.self.state old.sum c.play_rest.new.self.sum
    (g.P.Player.lanes c.args.lanes.now) (g.P.Player.lanes c.play_rest.new.lanes) c.requires.underway.fits.window.0) c.play_rest.ensures.plays

pub returns-clause-breaks : goal.returns-clause-breaks
returns-clause-breaks g c =
    let old = c.args.self.now in
    on_err_weaker _ (flow_breaks c.media_datagrams_read_one_way.ensures.one_way c.parity_datagrams_read_one_way.ensures c.flush_steps_come_next.ensures
    old.state.playout old.sum.port old.state old.sum
    (g.P.Player.lanes c.args.lanes.now) (g.P.Player.lanes c.play_rest.new.lanes)) c.play_rest.ensures.breaks
