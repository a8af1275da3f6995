use Rattle.std.proofs.Common.{ap, [], refl, arith}
use Rattle.fg_encode.specs.StreamReader.{StreamState}
use Rattle.fg_encode_tests.proofs.tests.streams.count_payloads.Goals as goal

pub loop-reader-init : goal.loop-reader-init
loop-reader-init g c =
    (ap (λ (t : StreamState). t.max) c.in_ok-reader.ensures.new, ap (λ (t : StreamState). t.packets) c.in_ok-reader.ensures.new, omega arith, ([]), refl, c.in_ok-reader.ensures.stands (g.S.Source.left c.args.from.now))
