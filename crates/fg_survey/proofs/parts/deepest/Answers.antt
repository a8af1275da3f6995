use Rattle.std.proofs.Common.{◌≡◌, ◌<◌, max, cond, eqb, List, length, ap, ◌∙◌, arith}
use Rattle.fg_streams.specs.Steps.{StreamState, told}
use Rattle.fg_survey.specs.declared.senders.Sender.{Sender}
use Rattle.fg_survey.specs.Text.{deepest_in}
use Rattle.fg_survey.proofs.MatrixTexts.{deepest_end, deepest_next}
use Rattle.fg_survey.proofs.parts.deepest.Goals as goal

pub loop-i-preserved : goal.loop-i-preserved
loop-i-preserved c = λ heard h.
    let senders = c.args.streams.now.senders.items in
    let i = c.loop-i.i in
    let e = c.index.result.now in
    let t = c.index-in-loop-i.result.now in
    let within : i < length senders = omega (arith, c.loop-i-test.true, c.len-i-end.ensures, c.args.streams.now.senders.ok.0) in
    deepest_next c.args.port heard senders i e t c.loop-i.deepest c.max-deepest.result _ within
    (ap (λ (s : StreamState). told s) c.index-in-loop-i.ensures ∙ h.each i t e within)
    (c.max-deepest.ensures ∙ ap (λ n. max n c.loop-i.deepest) c.deepest_on.ensures ∙ ap (λ (s : Sender). max (cond (eqb s.port c.args.port) (told t).counts.deepest 0) c.loop-i.deepest) c.index.ensures)
    (c.loop-i.invariant heard h)

pub returns : goal.returns
returns c = λ heard h.
    let senders = c.args.streams.now.senders.items in
    let last : c.loop-i.i ≡ length senders = omega (arith, c.loop-i-test.false, c.loop-i.auto.i-end, c.len-i-end.ensures, c.args.streams.now.senders.ok.0) in
    deepest_end c.args.port heard senders c.loop-i.i c.loop-i.deepest _ last (c.loop-i.invariant heard h) ∙ ap (λ (s : List Sender). deepest_in c.args.port heard s) h.senders_are
