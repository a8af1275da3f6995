use Rattle.std.proofs.Common.{ℕ, subst}
use Rattle.std.proofs.lemmas.Result.{on_ok_weaker, on_err_weaker}
use Rattle.fg_io.proofs.FaultLemmas.{on_err}
use Rattle.fg_prove.specs.Steps.{AdmitsThen, BreaksThen}
use Rattle.fg_desk.proofs.Within.{held_within, then_within}
use Rattle.fg_prove.proofs.Admitting.{admitted_whole, held_breaks_off, then_breaks_off}
use Rattle.fg_prove.proofs.prover.Prover.take.Goals as goal

pub play_held-requires : goal.play_held-requires
play_held-requires g c = record { within = held_within c.args.self.now.desk.state c.args.time c.requires.within }

pub admit_then-requires : goal.admit_then-requires
admit_then-requires g c =
    let so = c.in_ok-play_held.ensures.plays in
    record { within = then_within c.args.self.now.desk.state c.play_held.new.self.desk.state c.args.time so.plays c.requires.within so.are }

pub returns-in_err-play_held-clause-breaks : goal.returns-in_err-play_held-clause-breaks
returns-in_err-play_held-clause-breaks g c =
    let old = c.args.self.now in
    on_err _ _ (held_breaks_off c.args.kind c.args.time c.args.datagram.now old.gaps.port old.desk.state old.gaps.text.held
    (g.K.Sink.written c.args.out.now) (g.K.Sink.written c.play_held.new.out) c.in_err-play_held.ensures.breaks)

pub returns-clause-takes : goal.returns-clause-takes
returns-clause-takes g c =
    let old = c.args.self.now in
    let ready = c.play_held.new.self in
    let new = c.admit_then.new.self in
    let before = g.K.Sink.written c.args.out.now in
    let middle = g.K.Sink.written c.play_held.new.out in
    let after = g.K.Sink.written c.admit_then.new.out in
    on_ok_weaker c.admit_then.result (λ admits.
    admitted_whole c.args.kind c.args.time c.args.datagram.now old.gaps.port old.desk.state ready.desk.state new.desk.state
    old.gaps.text.held ready.gaps.text.held new.gaps.text.held before middle after c.in_ok-play_held.ensures.plays
    (subst (λ (port : ℕ). (t : ℕ) → AdmitsThen c.args.kind t c.args.datagram.now port ready.desk.state ready.gaps.text.held middle new.desk.state new.gaps.text.held after)
    c.play_held.ensures.port admits)) c.admit_then.ensures.takes

pub returns-clause-breaks : goal.returns-clause-breaks
returns-clause-breaks g c =
    let old = c.args.self.now in
    let ready = c.play_held.new.self in
    let before = g.K.Sink.written c.args.out.now in
    let middle = g.K.Sink.written c.play_held.new.out in
    let after = g.K.Sink.written c.admit_then.new.out in
    on_err_weaker c.admit_then.result (λ breaks.
    then_breaks_off c.args.kind c.args.time c.args.datagram.now old.gaps.port old.desk.state ready.desk.state
    old.gaps.text.held ready.gaps.text.held before middle after c.in_ok-play_held.ensures.plays
    (subst (λ (port : ℕ). (t : ℕ) → BreaksThen c.args.kind t c.args.datagram.now port ready.desk.state ready.gaps.text.held middle after)
    c.play_held.ensures.port breaks)) c.admit_then.ensures.breaks
