use Rattle.fg_buffer.proofs.BufferBounds.{bounded_put}
use Rattle.std.proofs.Common.{arith}
use Rattle.fg_buffer.proofs.BufferStored.{put_live}
use Rattle.fg_buffer.proofs.entry_list.EntryList.put_solved.Goals as goal

pub returns : goal.returns
returns c = put_live _ _ _ _ _ c.self.invariant.0 _ _ c.requires c.self.view_is c.clear-passed.ensures c.put_solved.ensures

pub invariant_of-self : goal.invariant_of-self
invariant_of-self c =
    bounded_put _ _ _ _ _ _ _ c.self.invariant _ _ c.requires c.self.view_is c.clear-passed.ensures c.put_solved.ensures
    (omega arith) (omega arith)
