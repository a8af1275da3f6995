use Rattle.std.proofs.Common.{[], Some, sym, subst}
use Rattle.fg_words.specs.declared.Word.{Word}
use Rattle.fg_plain.specs.declared.run.Datagram.{Datagram}
use Rattle.fg_playout.specs.Admission.{AdmitsMedia}
use Rattle.fg_playout.specs.Run.{TakesThen}
use Rattle.fg_plain.specs.Datagrams.{arrival_of}
use Rattle.fg_desk.specs.Arrivals.{ThenWithin}
use Rattle.fg_plain.proofs.PlainRuns.{nothing_played}
use Rattle.fg_plain.proofs.run.take.Goals as goal

pub admit_parity-requires-clause-room : goal.admit_parity-requires-clause-room
admit_parity-requires-clause-room c =
    (c.requires.within [] c.args.desk.now.state (nothing_played (arrival_of c.args.datagram.now) c.args.desk.now.state)).1

pub returns-in_ok-play_before-in-Media-clause-takes : goal.returns-in_ok-play_before-in-Media-clause-takes
returns-in_ok-play_before-in-Media-clause-takes c =
    let before = c.in_ok-play_before-in-Media.ensures.plays in
    let admits =
    subst (λ (word : Word). AdmitsMedia c.play_before.new.desk.state c.in-Media.seq c.in-Media.ssrc word
    c.admit_media.result c.admit_media.new.self.state)
    c.in_ok-share-in-Media.ensures c.admit_media.ensures.state in (
      before.0,
      before.1,
      subst (λ (datagram : Datagram). TakesThen c.args.desk.now.state (arrival_of datagram) before.0 (Some c.admit_media.result)
          c.admit_media.new.self.state)
          (sym c.in-Media.is) (c.play_before.new.desk.state, before.2, admits),
    )

pub play_before-requires-clause-within : goal.play_before-requires-clause-within
play_before-requires-clause-within c =
    subst (λ (datagram : Datagram). ThenWithin c.args.desk.now.state (arrival_of datagram)) c.in-Media.is c.requires.within
