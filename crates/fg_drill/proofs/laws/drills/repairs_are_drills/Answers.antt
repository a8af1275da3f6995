use Rattle.fg_drill.proofs.Drills.{drills, drills_exactly}
use Rattle.fg_drill.proofs.laws.drills.repairs_are_drills.Goals as goal

pub returns-clause-whole : goal.returns-clause-whole
returns-clause-whole c = drills c.one_trace.ensures c.thinned_traces_are_traces.ensures.stream

pub returns-clause-exactly : goal.returns-clause-exactly
returns-clause-exactly c = drills_exactly c.one_cut.ensures
