-- One word is taken at each place, up to the first that has none.
use Rattle.std.proofs.Common.{◌∷◌, [], IfSome, ap, arith, length, length-append, string_bytes, subst, sym}
use Rattle.fgate.specs.Words.{IsTakenAt}
use Rattle.fgate.proofs.WordLemmas.{TakenSoFar, told_all, told_pushed}
use Rattle.fgate.proofs.words_one_by_one.Goals.{else-loop-place-test, then-loop-place-test+in_ok-word+in-None}
use Rattle.fgate.proofs.words_one_by_one.Goals as goal

pub loop-place-preserved : goal.loop-place-preserved
loop-place-preserved g c =
    let told = g.C.Called.told c.args.called.now in
    let words = c.loop-place.words.items in
    record {
      count = omega (arith, c.loop-place.invariant.count, ap length c.in_ok-push-in-Some.ensures.items, length-append words (c.in-Some.word ∷ []));
      taken = subst (λ items. IfSome told (λ all. TakenSoFar string_bytes all items)) (sym c.in_ok-push-in-Some.ensures.items)
          (told_pushed string_bytes told c.loop-place.place words c.in-Some.word c.loop-place.invariant.count
          (subst (λ word. IfSome told (λ all. IsTakenAt string_bytes all c.loop-place.place word)) c.in-Some.is c.in_ok-word.ensures)
          c.loop-place.invariant.taken);
    }

pub returns : goal.returns
returns g c =
    let told = g.C.Called.told c.args.called.now in
    let words = c.loop-place.words.items in
    elim c.loop-place-test.branch [
      | else-loop-place-test w ↦ absurd (omega (arith, c.loop-place.invariant.count, c.loop-place.words.ok.0, c.loop-place.words.small, w.loop-place-test.false))
      | then-loop-place-test+in_ok-word+in-None w ↦
          told_all string_bytes told c.loop-place.place words c.loop-place.invariant.count
          (subst (λ word. IfSome told (λ all. IsTakenAt string_bytes all c.loop-place.place word)) w.in-None.is w.in_ok-word.ensures)
          c.loop-place.invariant.taken
    ]
