use Rattle.std.proofs.Common.{ℕ, sym, ap, subst}
use Rattle.std.proofs.lemmas.Result.{IfOk-at_ok, IfErr-at_err}
use Rattle.fg_words.specs.declared.Word.{Word}
use Rattle.fg_io.proofs.FaultLemmas.{on_err}
use Rattle.fg_rtp.specs.declared.media.MediaFault.{MediaFault}
use Rattle.fg_rtp.specs.MediaDatagram.{IsMediaDatagram}
use Rattle.fg_playout.specs.Laws.{HavePlayedBefore}
use Rattle.fg_playout.specs.Run.{ArePlaysBefore}
use Rattle.fg_playout.specs.PlayedOn.{before_on}
use Rattle.fg_playout.specs.DesksJoin.{played_before_on}
use Rattle.fg_desk.specs.Arrivals.{BeforeWithin}
use Rattle.fg_desk.specs.Contents.{Contents}
use Rattle.fg_prove.specs.Steps.{Tells, Breaks, BreaksThen}
use Rattle.fg_desk.proofs.Within.{room_before}
use Rattle.fg_prove.proofs.Admitting.{plays_nothing, breaks_at_once, media_is_refused, media_is_admitted, media_breaks_off}
use Rattle.fg_prove.proofs.prover.Prover.admit_then.Goals as goal

pub admit_parity-requires : goal.admit_parity-requires
admit_parity-requires g c = record { room = room_before c.runs_begin.ensures.fresh c.args.self.now.desk.state c.requires.within }

pub play_before-requires : goal.play_before-requires
play_before-requires g c =
    record { within = subst (λ (desk : Contents). BeforeWithin desk.state c.in-Ok.seq c.in-Ok.ssrc) (sym c.spare.ensures) (c.requires.within c.in-Ok.seq c.in-Ok.ssrc) }

pub returns-in_err-admit_parity-in_default-clause-breaks : goal.returns-in_err-admit_parity-in_default-clause-breaks
returns-in_err-admit_parity-in_default-clause-breaks g c =
    let old = c.args.self.now in
    let written = g.K.Sink.written c.args.out.now in
    let breaks : (time : ℕ) → BreaksThen c.args.kind time c.args.datagram.now old.gaps.port old.desk.state old.gaps.text.held written written =
    λ time. breaks_at_once c.runs_begin.ensures.fresh c.args.kind time c.args.datagram.now old.gaps.port old.desk.state old.gaps.text.held written in
    on_err _ _ breaks

pub returns-in_ok-admit_parity-in_default-clause-takes : goal.returns-in_ok-admit_parity-in_default-clause-takes
returns-in_ok-admit_parity-in_default-clause-takes g c time =
    let old = c.args.self.now in
    let admits = c.in_ok-admit_parity-in_default.ensures.admits c.args.kind time c.in_default.not-Media in
    plays_nothing c.args.kind time c.args.datagram.now old.gaps.port old.desk.state c.admit_parity.new.desk.state old.gaps.text.held (g.K.Sink.written c.args.out.now)
    admits.3.0 admits.0 admits.1 admits.2 admits.3.1

pub returns-in_err-seq-in-Media-clause-breaks : goal.returns-in_err-seq-in-Media-clause-breaks
returns-in_err-seq-in-Media-clause-breaks g c =
    let old = c.args.self.now in
    let written = g.K.Sink.written c.args.out.now in
    let breaks : (time : ℕ) → BreaksThen c.args.kind time c.args.datagram.now old.gaps.port old.desk.state old.gaps.text.held written written =
    λ time. breaks_at_once c.runs_begin.ensures.fresh c.args.kind time c.args.datagram.now old.gaps.port old.desk.state old.gaps.text.held written in
    on_err _ _ breaks

pub returns-in_default-2-clause-takes : goal.returns-in_default-2-clause-takes
returns-in_default-2-clause-takes g c =
    let old = c.args.self.now in
    let same = ap (λ (desk : Contents). desk.state) c.spare.ensures in
    rw c.in-Media.is (λ time. media_is_refused time c.args.datagram.now old.gaps.port old.desk.state c.spare.new.self.state old.gaps.text.held (g.K.Sink.written c.args.out.now) same
    (IfErr-at_err (λ (fault : MediaFault). (seq ssrc : ℕ) (word : Word) → ¬ IsMediaDatagram c.args.datagram.now seq ssrc word)
    c.in_default-2.is c.in_ok-seq-in-Media.ensures.refused))

pub returns-in_err-play_before-in-Media-clause-breaks : goal.returns-in_err-play_before-in-Media-clause-breaks
returns-in_err-play_before-in-Media-clause-breaks g c =
    let old = c.args.self.now in
    let before = g.K.Sink.written c.args.out.now in
    let after = g.K.Sink.written c.play_before.new.out in
    let read = IfOk-at_ok (λ (t : ℕ × ℕ × Word). IsMediaDatagram c.args.datagram.now t.0 t.1 t.2) c.in-Ok.is c.in_ok-seq-in-Media.ensures.ok in
    let off =
    subst (λ (desk : Contents). Breaks (HavePlayedBefore desk.state c.in-Ok.seq c.in-Ok.ssrc) (played_before_on desk.state c.in-Ok.seq c.in-Ok.ssrc) old.gaps.port old.gaps.text.held before after)
    c.spare.ensures c.in_err-play_before-in-Media.ensures.breaks in
    let breaks : (time : ℕ) → BreaksThen c.args.kind time c.args.datagram.now old.gaps.port old.desk.state old.gaps.text.held before after =
    rw c.in-Media.is (λ time. media_breaks_off c.media_datagrams_read_one_way.ensures.one_way time c.args.datagram.now old.gaps.port old.desk.state old.gaps.text.held before after
    c.in-Ok.seq c.in-Ok.ssrc c.in-Ok.share read off) in
    on_err _ _ breaks

pub returns-in_ok-play_before-in-Media-clause-takes : goal.returns-in_ok-play_before-in-Media-clause-takes
returns-in_ok-play_before-in-Media-clause-takes g c =
    let old = c.args.self.now in
    let due = c.play_before.new.self in
    let before = g.K.Sink.written c.args.out.now in
    let after = g.K.Sink.written c.play_before.new.out in
    let read = IfOk-at_ok (λ (t : ℕ × ℕ × Word). IsMediaDatagram c.args.datagram.now t.0 t.1 t.2) c.in-Ok.is c.in_ok-seq-in-Media.ensures.ok in
    let so =
    subst (λ (desk : Contents). Tells (ArePlaysBefore desk.state c.in-Ok.seq c.in-Ok.ssrc) (before_on desk.state c.in-Ok.seq c.in-Ok.ssrc) old.gaps.port old.gaps.text.held before due.desk.state due.gaps.text.held after)
    c.spare.ensures c.in_ok-play_before-in-Media.ensures.plays in
    rw c.in-Media.is (λ time. media_is_admitted time c.args.datagram.now old.gaps.port old.desk.state due.desk.state c.admit_media-reply.new.self.state
    old.gaps.text.held due.gaps.text.held before after c.in-Ok.seq c.in-Ok.ssrc c.in-Ok.share c.admit_media-reply.result read so c.admit_media-reply.ensures.state)
