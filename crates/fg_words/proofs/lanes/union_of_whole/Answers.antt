use Rattle.std.proofs.Common.{arith}
use Rattle.std.proofs.lemmas.Simd.{get_or-replicate}
use Rattle.fg_words.proofs.ByteLemmas.{seen_more, seen_all, united-length}
use Rattle.std.proofs.Common.{refl}
use Rattle.fg_words.proofs.lanes.union_of_whole.Goals as goal

-- src/lanes.rt:60:5
pub loop-vector-init : goal.loop-vector-init
loop-vector-init c = record {
  lanes = refl;
  seen = λ j lt. (λ e k below. absurd (omega arith), λ all. get_or-replicate 32 j 0 0 lt);
}

-- src/lanes.rt:60:5
pub loop-vector-preserved : goal.loop-vector-preserved
loop-vector-preserved c = record {
  lanes = united-length c.loop-vector.vector 1316 32 c.args.bytes.now c.loop-vector.union c.told-bytes c.loop-vector.invariant.lanes (omega arith);
  seen = seen_more c.loop-vector.vector 1316 32 c.args.bytes.now c.loop-vector.union c.told-bytes c.loop-vector.invariant.lanes (omega arith) c.loop-vector.invariant.seen;
}

-- src/lanes.rt:56:1
pub returns : goal.returns
returns c = seen_all 1312 c.loop-vector.vector c.args.bytes.now c.loop-vector.union (omega arith) c.loop-vector.invariant.lanes c.loop-vector.invariant.seen
