use Rattle.std.proofs.Common.{refl}
use Rattle.fg_pick.proofs.Deciding.{its_source}
use Rattle.fg_pick.proofs.fitting.is_left.Goals as goal

pub returns-in-Ok : goal.returns-in-Ok
returns-in-Ok c = (
  λ e. its_source c.media_datagrams_read_one_way.ensures.one_way c.args.selection.now c.args.datagram.now c.in-Ok.header.seq c.in-Ok.header.ssrc _ c.in-Ok.ensures.ok (c.picks_source.ensures.0 e),
  λ h. c.picks_source.ensures.1 (h c.in-Ok.header.seq c.in-Ok.header.ssrc _ c.in-Ok.ensures.ok),
)

pub returns-in-Err : goal.returns-in-Err
returns-in-Err c = (
  λ e seq ssrc word is. absurd (c.in-Err.ensures.refused seq ssrc word is),
  λ h. refl,
)
