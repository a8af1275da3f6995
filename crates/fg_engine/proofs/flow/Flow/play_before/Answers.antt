use Rattle.std.proofs.Common.{subst}
use Rattle.std.proofs.lemmas.Result.{on_ok_weaker, on_err_weaker}
use Rattle.fg_playout.specs.Admission.{IsFresh}
use Rattle.fg_engine.specs.View.{FlowView}
use Rattle.fg_engine.proofs.Before.{flushes_if_fresh, flushed_before, room_if_flushed, none_due_then, nothing_left_then, flush_breaks_off, due_breaks_off}
use Rattle.fg_engine.proofs.Showing.{fails}
use Rattle.fg_engine.proofs.flow.Flow.play_before.Goals as goal
use Rattle.fg_engine.proofs.flow.Flow.play_before.Goals.{Then-fresh}

-- The SSRC is fresh.
fresh : (g : _) (c : Then-fresh g) → IsFresh c.args.self.now.state c.args.ssrc
fresh g c = subst (λ (flow : FlowView). IsFresh flow.state c.args.ssrc) c.self.view_is (c.fresh.ensures.0 c.if-fresh.true)

pub play_rest-requires-clause-within : goal.play_rest-requires-clause-within
play_rest-requires-clause-within g c =
    let is = fresh g (goal.at.play_rest-requires-clause-within g c).Then-fresh in
    flushes_if_fresh c.args.self.now.state c.args.seq c.args.ssrc c.requires.within is

pub returns-then-fresh-clause-plays : goal.returns-then-fresh-clause-plays
returns-then-fresh-clause-plays g c =
    let is = fresh g (goal.at.returns-then-fresh-clause-plays g c).Then-fresh in
    on_ok_weaker _ (flushed_before c.args.self.now.state c.args.seq c.args.ssrc is) c.play_rest.ensures.plays

pub returns-then-fresh-clause-none_due : goal.returns-then-fresh-clause-none_due
returns-then-fresh-clause-none_due g c =
    let is = fresh g (goal.at.returns-then-fresh-clause-none_due g c).Then-fresh in
    on_ok_weaker _ (none_due_then c.args.self.now.state c.args.seq c.args.ssrc is c.runs_join.ensures.ready) c.play_rest.ensures.plays

pub returns-then-fresh-clause-flushed : goal.returns-then-fresh-clause-flushed
returns-then-fresh-clause-flushed g c =
    let is = fresh g (goal.at.returns-then-fresh-clause-flushed g c).Then-fresh in
    on_ok_weaker _ (nothing_left_then c.args.self.now.state c.args.seq c.args.ssrc is c.runs_join.ensures.ready) c.play_rest.ensures.plays

pub returns-then-fresh-clause-room : goal.returns-then-fresh-clause-room
returns-then-fresh-clause-room g c =
    let is = fresh g (goal.at.returns-then-fresh-clause-room g c).Then-fresh in
    on_ok_weaker _ (room_if_flushed c.args.self.now.state c.args.seq c.args.ssrc is c.flushes_end.ensures.nothing_left c.requires.within)
    c.play_rest.ensures.plays

pub returns-then-fresh-clause-breaks : goal.returns-then-fresh-clause-breaks
returns-then-fresh-clause-breaks g c =
    let is = fresh g (goal.at.returns-then-fresh-clause-breaks g c).Then-fresh in
    on_err_weaker _ (flush_breaks_off c.args.self.now.state c.args.seq c.args.ssrc is) c.play_rest.ensures.breaks

pub returns-else-fresh-clause-breaks : goal.returns-else-fresh-clause-breaks
returns-else-fresh-clause-breaks g c =
    let state = g.D.WindowState.state c.self.inside.window in
    let not = fails (IsFresh state c.args.ssrc) c.fresh.result c.if-fresh.false c.fresh.ensures.1 in
    let stale = subst (λ (flow : FlowView). ¬ IsFresh flow.state c.args.ssrc) c.self.view_is not in
    on_err_weaker _ (due_breaks_off c.args.self.now.state c.args.seq c.args.ssrc stale) c.play_due.ensures.breaks
