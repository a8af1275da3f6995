use Rattle.std.proofs.Common.{ap, sym, subst, ◌∙◌}
use Rattle.fg_engine.specs.View.{FlowView}
use Rattle.fg_engine.specs.Steps.{AdmitsDatagram, RepliesHaveRoom}
use Rattle.fg_engine.proofs.Underway.{stays_within, counts_within, replies_have_room}
use Rattle.fg_engine.proofs.Taking.{record_taken, record_breaks}
use Rattle.fg_io.proofs.FaultLemmas.{on_err}
use Rattle.fg_engine.proofs.flow.Flow.take.Goals as goal

pub admit-requires-clause-within : goal.admit-requires-clause-within
admit-requires-clause-within g c = stays_within c.runs_stay_within.ensures.taking _ _ _ _ c.requires.underway

pub admit-requires-clause-counts : goal.admit-requires-clause-counts
admit-requires-clause-counts g c = counts_within c.plays_reach_the_mark.ensures.taken _ _ _ _ c.requires.underway

pub count_answer-requires : goal.count_answer-requires
count_answer-requires g c =
    let state = c.args.self.now.state in
    subst RepliesHaveRoom (sym (ap (λ (flow : FlowView). flow.sum) c.self.view_is ∙ c.in_ok-reply.ensures.admits.counts))
    (replies_have_room c.counts_stay_within.ensures state.playout c.args.self.now.sum.port state c.args.self.now.sum c.requires.underway)

pub returns-in_err-reply-clause-breaks : goal.returns-in_err-reply-clause-breaks
returns-in_err-reply-clause-breaks g c =
    let old = c.args.self.now in
    on_err _ _ (record_breaks c.media_datagrams_read_one_way.ensures.one_way c.parity_datagrams_read_one_way.ensures
    c.plays_before_come_next.ensures old.state.playout old.sum.port c.args.kind c.args.time c.args.datagram.now old.state old.sum
    (g.P.Player.lanes c.args.lanes.now) (g.P.Player.lanes c.admit.new.lanes)
    c.in_err-reply.ensures.breaks)

pub returns-clause-takes : goal.returns-clause-takes
returns-clause-takes g c =
    let old = c.args.self.now in
    let before = g.P.Player.lanes c.args.lanes.now in
    let after = g.P.Player.lanes c.admit.new.lanes in
    record_taken c.plays_reach_the_mark.ensures.taken c.runs_join.ensures.takings c.counts_add.ensures c.each_gets_a_reply.ensures
    old.state.playout c.args.kind c.args.time c.args.datagram.now old.state (g.D.WindowState.state c.self.inside.window)
    old.sum c.self.inside.sum (record c.count_answer.new.sum { runs = c.runs-self-inside.result }) c.in_ok-reply.reply
    before after c.requires.underway.fits.window.0
    (subst (λ (flow : FlowView). AdmitsDatagram c.args.kind c.args.time c.args.datagram.now old.state old.sum before c.in_ok-reply.reply flow.state flow.sum after) (sym c.self.view_is) c.in_ok-reply.ensures.admits)
    (λ i. record (c.count_answer.ensures i) { runs = c.runs-self-inside.ensures i })
