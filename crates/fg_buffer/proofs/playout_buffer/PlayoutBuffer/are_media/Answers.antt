use Rattle.std.proofs.Common.{◌≡◌, ◌+◌, ◌<◌, refl, ap, ◌∙◌, ⊎_elim, arith}
use Rattle.std.proofs.lemmas.Bool.{cases_lt}
use Rattle.std.specs.FinMap.{get}
use Rattle.fg_peel.proofs.Options.{has_value}
use Rattle.fg_buffer.proofs.playout_buffer.PlayoutBuffer.are_media.Goals as goal

pub loop-ahead-preserved : goal.loop-ahead-preserved
loop-ahead-preserved c = λ q word from below is. ⊎_elim
    (λ (less : q < c.args.self.now.mark + c.loop-ahead.ahead). c.loop-ahead.invariant q word from less is)
    (λ late.
    let value = c.mark-mark.ensures.value in
    let at : c.mark-mark.result + c.loop-ahead.ahead ≡ q = omega (arith, value, late, below) in
    c.if-not-is_media_at.ensures.media refl word (ap (get c.args.self.now.solved) at ∙ is))
    (cases_lt q (c.args.self.now.mark + c.loop-ahead.ahead))

pub returns : goal.returns
returns c = (
  λ yes q word is.
      let lies = c.mark-mark.ensures.facts.solved q (has_value (get c.args.self.now.solved q) word is) in
      let reach = c.reach-ahead-end.ensures in
      let done = c.loop-ahead-test.false in
      c.loop-ahead.invariant q word lies.0 (omega (arith, lies.1, reach, done)) is,
  λ all. refl,
)
