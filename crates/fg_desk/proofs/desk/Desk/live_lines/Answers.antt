use Rattle.std.proofs.Common.{◌≡◌, ◌↔◌, Some, subst}
use Rattle.std.specs.FinMap.{get}
use Rattle.fg_desk.specs.Contents.{Contents}
use Rattle.fg_buffer.specs.LiveEquations.{IsAmong, live_of}
use Rattle.fg_desk.specs.Parts.{parts_of}
use Rattle.fg_desk.proofs.LiveLines.{live_among, within_among}
use Rattle.fg_desk.proofs.desk.Desk.live_lines.Goals as goal

pub returns-clause-live : goal.returns-clause-live
returns-clause-live c line =
    subst (λ (s : Contents). IsAmong c.open.result.now c.settled.result.now line
    ↔ (get s.state.equations line.serial ≡ Some (live_of line))) c.self.view_is
    (live_among (parts_of c.self.inside).lines c.open.result.now c.settled.result.now c.open.ensures c.settled.ensures line)

pub returns-clause-within : goal.returns-clause-within
returns-clause-within c line =
    within_among (parts_of c.self.inside) c.self.invariant.sound.facts c.open.result.now c.settled.result.now
    c.open.ensures c.settled.ensures line
