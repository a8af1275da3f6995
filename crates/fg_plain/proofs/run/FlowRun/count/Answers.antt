use Rattle.std.proofs.Common.{◌+◌, ◌<◌, length, ap, ◌∙◌, arith}
use Rattle.fg_playout.proofs.Counts.{at_most_one}
use Rattle.fg_plain.proofs.DatagramCounts.{byte_of, count_more, count_all}
use Rattle.fg_plain.proofs.run.FlowRun.count.Goals as goal

pub loop-i-preserved : goal.loop-i-preserved
loop-i-preserved c =
    let below : c.loop-i.i < length c.args.datagrams.now = omega (arith, c.loop-i-test.true, c.min-i-end.ensures, c.len.ensures) in
    let below' : c.loop-i.i < length c.args.self.now.replies.items = omega (arith, c.loop-i-test.true, c.min-i-end.ensures, c.len.ensures) in
    let more = count_more c.args.stream c.args.reply c.args.datagrams.now c.args.self.now.replies.items c.loop-i.i _ _ _
    c.is_counted.result c.loop-i.count below below' c.index-answer.ensures c.is_counted.ensures c.loop-i.invariant.so in
    let few = c.loop-i.invariant.few in
    let one = byte_of c.is_counted.result in
    let counted = c.from-count.ensures in
    let most = at_most_one c.is_counted.result in
    record { so = ap (λ n. c.loop-i.count + n) (counted ∙ one) ∙ more; few = omega (arith, few, counted, one, most) }

pub returns : goal.returns
returns c =
    c.loop-i.invariant.so
    ∙ count_all c.args.stream c.args.reply c.args.datagrams.now c.args.self.now.replies.items c.loop-i.i
    (omega (arith, c.loop-i-test.false, c.min-i-end.ensures, c.len.ensures))
