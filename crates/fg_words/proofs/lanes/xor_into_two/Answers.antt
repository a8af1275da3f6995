use Rattle.fg_words.proofs.ByteLemmas.{xor_vectors_more, xor_ends}
use Rattle.std.proofs.Common.{arith, refl}
use Rattle.fg_words.proofs.lanes.xor_into_two.Goals as goal

pub loop-vector-preserved : goal.loop-vector-preserved
loop-vector-preserved c =
    let l = c.loop-vector.invariant in
    let one = xor_vectors_more c.loop-vector.vector 1316 32 c.args.one.now c.loop-vector.one c.args.bytes.now l.long c.told-bytes (omega arith) l.done l.ahead in
    let other = xor_vectors_more c.loop-vector.vector 1316 32 c.args.other.now c.loop-vector.other c.args.bytes.now l.other_long c.told-bytes (omega arith) l.other_done l.other_ahead in
    record { long = one.2; other_long = other.2; done = one.0; other_done = other.0; ahead = one.1; other_ahead = other.1 }

pub returns-clause-one : goal.returns-clause-one
returns-clause-one c =
    let l = c.loop-vector.invariant in
    xor_ends 1312 1316 4 c.args.one.now c.loop-vector.one c.args.bytes.now c.told-one l.long c.told-bytes refl
    (λ i lt. l.done i (omega arith)) (λ i le. l.ahead i (omega arith))

pub returns-clause-other : goal.returns-clause-other
returns-clause-other c =
    let l = c.loop-vector.invariant in
    xor_ends 1312 1316 4 c.args.other.now c.loop-vector.other c.args.bytes.now c.told-other l.other_long c.told-bytes refl
    (λ i lt. l.other_done i (omega arith)) (λ i le. l.other_ahead i (omega arith))
