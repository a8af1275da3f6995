use Rattle.std.proofs.Common.{ap, ◌∙◌, [], refl, arith}
use Rattle.fg_trace.specs.Reader.{ReaderState}
use Rattle.fg_trace_tests.proofs.tests.count_records.Goals as goal

pub loop-count-init : goal.loop-count-init
loop-count-init g c =
    let first = g.S.Source.left c.args.from.now in
    (c.start.ensures.max ∙ ap (λ (t : ReaderState). t.max) c.in_ok-reader.ensures.new, omega arith, ([]), refl, c.in_default.ensures.opens first (c.in_ok-reader.ensures.opening first))
