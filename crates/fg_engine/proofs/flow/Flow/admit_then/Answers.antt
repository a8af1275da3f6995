use Rattle.std.proofs.Common.{◌≡◌, ◌∙◌, ℕ, None, ap, sym, subst}
use Rattle.std.proofs.lemmas.Result.{IfOk-at_ok, IfErr-at_err}
use Rattle.fg_words.specs.declared.Word.{Word}
use Rattle.fg_rtp.specs.declared.media.MediaFault.{MediaFault}
use Rattle.fg_rtp.specs.MediaDatagram.{IsMediaDatagram}
use Rattle.fg_shape.specs.declared.kind.Kind.TheVariants.{Media}
use Rattle.fg_playout.specs.Room.{HasRoom}
use Rattle.fg_playout.specs.Laws.{HavePlayedBefore}
use Rattle.fg_playout.specs.Run.{ArePlaysBefore}
use Rattle.fg_desk.specs.Arrivals.{ThenStaysWithin}
use Rattle.fg_engine.specs.View.{FlowView}
use Rattle.fg_engine.specs.Steps.{AdmitsThen, BreaksThen, BreakOff, HaveShown}
use Rattle.fg_desk.proofs.Within.{room_before}
use Rattle.fg_engine.proofs.Admitting.{plays_nothing, breaks_at_once, media_is_refused, media_is_admitted, media_breaks_off}
use Rattle.fg_io.proofs.FaultLemmas.{on_err}
use Rattle.fg_engine.proofs.flow.Flow.admit_then.Goals as goal

pub admit_parity-requires : goal.admit_parity-requires
admit_parity-requires g c =
    record { room = subst HasRoom (sym (ap (λ (flow : FlowView). flow.state) c.self-in_default.view_is)) (room_before c.runs_begin.ensures.fresh c.args.self.now.state c.requires.within) }

pub play_before-requires-clause-within : goal.play_before-requires-clause-within
play_before-requires-clause-within g c =
    subst ThenStaysWithin (sym (c.spare-spare.ensures ∙ ap (λ (flow : FlowView). flow.state) c.self.view_is)) c.requires.within

pub returns-in_err-admit_parity-in_default-clause-breaks : goal.returns-in_err-admit_parity-in_default-clause-breaks
returns-in_err-admit_parity-in_default-clause-breaks g c =
    let lanes = g.P.Player.lanes c.args.lanes.now in
    let breaks : (time : ℕ) → BreaksThen c.args.kind time c.args.datagram.now c.args.self.now.state c.args.self.now.sum.port lanes lanes =
    λ time. breaks_at_once c.runs_begin.ensures.fresh c.args.kind time c.args.datagram.now c.args.self.now.state c.args.self.now.sum.port lanes in
    on_err _ _ breaks

pub returns-in_ok-admit_parity-in_default-clause-admits : goal.returns-in_ok-admit_parity-in_default-clause-admits
returns-in_ok-admit_parity-in_default-clause-admits g c time =
    let lanes = g.P.Player.lanes c.args.lanes.now in
    let reply = c.in_ok-admit_parity-in_default.field-0 in
    let state = g.D.WindowState.state c.admit_parity.new.window in
    let admits = c.in_ok-admit_parity-in_default.ensures.admits c.args.kind time c.in_default.not-Media in
    subst (λ (flow : FlowView). AdmitsThen c.args.kind time c.args.datagram.now flow.state flow.sum lanes reply state c.self-in_default.inside.sum lanes) c.self-in_default.view_is
    (plays_nothing c.args.kind time c.args.datagram.now (g.D.WindowState.state c.self-in_default.inside.window) c.self-in_default.inside.sum lanes reply state admits.0 admits.1 admits.2 admits.3)

pub returns-in_default-2-clause-admits : goal.returns-in_default-2-clause-admits
returns-in_default-2-clause-admits g c =
    let lanes = g.P.Player.lanes c.args.lanes.now in
    let old = c.args.self.now in
    let same : record { state = g.D.WindowState.state c.spare-spare.new.self; sum = c.self.inside.sum } ≡ old = (λ i. record { state = c.spare-spare.ensures i; sum = c.self.inside.sum }) ∙ c.self.view_is in
    rw c.in-Media.is (λ time. subst (λ (flow : FlowView). AdmitsThen Media time c.args.datagram.now old.state old.sum lanes None flow.state flow.sum lanes) (sym same)
    (media_is_refused time c.args.datagram.now old.state old.sum lanes
    (IfErr-at_err (λ (fault : MediaFault). (seq ssrc : ℕ) (word : Word) → ¬ IsMediaDatagram c.args.datagram.now seq ssrc word)
    c.in_default-2.is c.in_ok-seq-in-Media.ensures.refused)))

pub returns-in_err-seq-in-Media-clause-breaks : goal.returns-in_err-seq-in-Media-clause-breaks
returns-in_err-seq-in-Media-clause-breaks g c =
    let lanes = g.P.Player.lanes c.args.lanes.now in
    let breaks : (time : ℕ) → BreaksThen c.args.kind time c.args.datagram.now c.args.self.now.state c.args.self.now.sum.port lanes lanes =
    λ time. breaks_at_once c.runs_begin.ensures.fresh c.args.kind time c.args.datagram.now c.args.self.now.state c.args.self.now.sum.port lanes in
    on_err _ _ breaks

pub returns-in_err-play_before-in-Media-clause-breaks : goal.returns-in_err-play_before-in-Media-clause-breaks
returns-in_err-play_before-in-Media-clause-breaks g c =
    let old = c.args.self.now in
    let same : record { state = g.D.WindowState.state c.spare-spare.new.self; sum = c.self.inside.sum } ≡ old = (λ i. record { state = c.spare-spare.ensures i; sum = c.self.inside.sum }) ∙ c.self.view_is in
    let read = IfOk-at_ok (λ (t : ℕ × ℕ × Word). IsMediaDatagram c.args.datagram.now t.0 t.1 t.2) c.in-Ok.is c.in_ok-seq-in-Media.ensures.ok in
    let breaks : (time : ℕ) → BreaksThen Media time c.args.datagram.now old.state old.sum.port (g.P.Player.lanes c.args.lanes.now) (g.P.Player.lanes c.play_before.new.lanes) =
    λ time. media_breaks_off c.media_datagrams_read_one_way.ensures.one_way time c.args.datagram.now old.state old.sum.port
    (g.P.Player.lanes c.args.lanes.now) (g.P.Player.lanes c.play_before.new.lanes)
    c.in-Ok.seq c.in-Ok.ssrc c.in-Ok.share read
    (subst (λ (flow : FlowView). BreakOff (HavePlayedBefore flow.state c.in-Ok.seq c.in-Ok.ssrc) flow.sum.port (g.P.Player.lanes c.args.lanes.now) (g.P.Player.lanes c.play_before.new.lanes))
    same c.in_err-play_before-in-Media.ensures.breaks) in
    rw c.in-Media.is (on_err _ _ breaks)

pub returns-in_ok-play_before-in-Media-clause-admits : goal.returns-in_ok-play_before-in-Media-clause-admits
returns-in_ok-play_before-in-Media-clause-admits g c =
    let old = c.args.self.now in
    let same : record { state = g.D.WindowState.state c.spare-spare.new.self; sum = c.self.inside.sum } ≡ old = (λ i. record { state = c.spare-spare.ensures i; sum = c.self.inside.sum }) ∙ c.self.view_is in
    let before = g.P.Player.lanes c.args.lanes.now in
    let after = g.P.Player.lanes c.play_before.new.lanes in
    let due = g.D.WindowState.state c.self-in-Media.inside.window in
    let read = IfOk-at_ok (λ (t : ℕ × ℕ × Word). IsMediaDatagram c.args.datagram.now t.0 t.1 t.2) c.in-Ok.is c.in_ok-seq-in-Media.ensures.ok in
    let shown : HaveShown (ArePlaysBefore old.state c.in-Ok.seq c.in-Ok.ssrc) old.state old.sum before c.play_before.new.self.state c.play_before.new.self.sum after =
    subst (λ (flow : FlowView). HaveShown (ArePlaysBefore flow.state c.in-Ok.seq c.in-Ok.ssrc) flow.state flow.sum before c.play_before.new.self.state c.play_before.new.self.sum after) same c.in_ok-play_before-in-Media.ensures.plays in
    rw c.in-Media.is (λ time. media_is_admitted time c.args.datagram.now old.state due (g.D.WindowState.state c.admit_media.new.self)
    old.sum c.self-in-Media.inside.sum before after
    c.in-Ok.seq c.in-Ok.ssrc c.in-Ok.share c.admit_media.result read
    (subst (λ (flow : FlowView). HaveShown (ArePlaysBefore old.state c.in-Ok.seq c.in-Ok.ssrc) old.state old.sum before flow.state flow.sum after) (sym c.self-in-Media.view_is) shown)
    c.admit_media.ensures)
