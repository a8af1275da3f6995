use Rattle.std.proofs.Common.{refl, arith, lit≤}
use Rattle.fg_fechead.proofs.tests.written.Goals as goal

pub write-requires : goal.write-requires
write-requires c =
    record {
      shape = c.if-not-shape_ok.ensures.0 refl;
      pt_size = omega arith;
      some_payload = lit≤ tt;
      payload_limit = lit≤ tt;
      padded = c.ends.ensures;
    }
