use Rattle.fg_words.proofs.ByteLemmas.{xor_vectors_more, xor_ends}
use Rattle.std.proofs.Common.{arith, refl}
use Rattle.fg_words.proofs.lanes.xor_bytes.Goals as goal

pub loop-vector-preserved : goal.loop-vector-preserved
loop-vector-preserved c =
    let more = xor_vectors_more c.loop-vector.vector 1316 32 c.args.bytes.now c.loop-vector.bytes c.args.other.now c.loop-vector.invariant.long c.told-other (omega arith) c.loop-vector.invariant.done c.loop-vector.invariant.ahead in
    record { long = more.2; done = more.0; ahead = more.1 }

pub returns : goal.returns
returns c =
    xor_ends 1312 1316 4 c.args.bytes.now c.loop-vector.bytes c.args.other.now c.told-bytes c.loop-vector.invariant.long c.told-other refl
    (λ i lt. c.loop-vector.invariant.done i (omega arith)) (λ i le. c.loop-vector.invariant.ahead i (omega arith))
