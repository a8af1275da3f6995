use Rattle.std.proofs.Common.{◌≤◌, ℕ, cond, ltb, get_or, sym, ap, ◌∙◌, arith}
use Rattle.fg_survey.proofs.TallyLemmas.{commonest_first, commonest_next, within_by}
use Rattle.fg_survey.proofs.tally.greatest.Goals as goal

pub loop-place-init : goal.loop-place-init
loop-place-init c = record { is = sym (commonest_first (λ place. get_or c.args.counts.now place 0)); within = omega arith }

pub loop-place-preserved : goal.loop-place-preserved
loop-place-preserved c =
    let f : ℕ → ℕ = λ place. get_or c.args.counts.now place 0 in
    let place = c.loop-place.place in
    let best = c.loop-place.best in
    let within : best ≤ place = omega (arith, c.loop-place.invariant.within) in
    let here = within_by (ltb (f best) (f place)) place best within in
    record {
      is = c.better-best.ensures ∙ ap (λ b. cond (ltb (f b) (f place)) place b) c.loop-place.invariant.is ∙ sym (commonest_next f place);
      within = omega (arith, c.better-best.ensures, here);
    }
