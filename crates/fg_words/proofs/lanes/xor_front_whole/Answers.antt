use Rattle.fg_words.proofs.ByteLemmas.{xor_fronts_more}
use Rattle.std.proofs.Common.{arith}
use Rattle.fg_words.proofs.lanes.xor_front_whole.Goals as goal

pub loop-vector-preserved : goal.loop-vector-preserved
loop-vector-preserved c =
    let more = xor_fronts_more c.loop-vector.vector 1316 32 c.args.bytes.now c.loop-vector.bytes c.args.front.now c.loop-vector.invariant.long c.requires.limit (omega arith) c.loop-vector.invariant.done c.loop-vector.invariant.ahead in
    record { long = more.2; done = more.0; ahead = more.1 }
