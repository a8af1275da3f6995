use Rattle.std.proofs.Common.{ap, ◌∙◌}
use Rattle.std.specs.FinMap.{get}
use Rattle.fg_core.specs.Board.{JobState}
use Rattle.fg_core.proofs.Inputs.{input_rooms}
use Rattle.fg_core.proofs.work.Work.room.Goals as goal

pub returns-clause-inputs : goal.returns-clause-inputs
returns-clause-inputs c slot word is =
    let w = c.self.inside in
    let sound = c.self.invariant in
    input_rooms w.base w.shape.offset w.shape.na w.shares.items sound.read.some_offset sound.count sound.rooms slot word
    (ap (λ (job : JobState). get job.inputs slot) c.self.view_is ∙ is)
