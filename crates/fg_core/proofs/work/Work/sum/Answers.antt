use Rattle.std.proofs.Common.{◌≡◌, ◌<◌, ◌+◌, drop, None, sym, ap, subst, ◌∙◌, get_or, length}
use Rattle.std.proofs.lemmas.List.{get_or_default}
use Rattle.fg_words.specs.declared.Word.{Word}
use Rattle.fg_words.specs.Word.{word_xor, HasRoom}
use Rattle.fg_words.proofs.WordLemmas.{HasRoom-xor}
use Rattle.fg_core.specs.Board.{job_sum}
use Rattle.fg_core.specs.Board.{JobState}
use Rattle.fg_core.proofs.Inputs.{total, total_is_sum, adds, passes, all_added}
use Rattle.fg_core.proofs.work.Work.sum.Goals as goal
use Rattle.fg_core.proofs.work.Work.sum.Goals.{in-Some, in_default}

pub loop-share-preserved : goal.loop-share-preserved
loop-share-preserved c =
    let shares = c.deref-share-items.result.now in
    let j = c.loop-share.share-index in
    let whole = word_xor c.word.result.now (total shares) in
    let below : j < length shares = c.loop-share-test.true in
    let here : get_or shares j None ≡ c.share-item.result =
    get_or_default shares j None c.share-item.result below ∙ sym c.share-item.is in
    elim c.match-share.branch [
      | in-Some w ↦
          let added : c.match-share.sum ≡ word_xor c.loop-share.sum w.in-Some.share =
          w.sum-is ∙ w.xor_in.ensures ∙ ap (word_xor c.loop-share.sum) w.word-in-Some.ensures.word in (
            ap (λ (word : Word). word_xor word (total (drop (j + 1) shares))) added
                ∙ adds shares j c.loop-share.sum whole below c.loop-share.invariant.0 c.xor_is_a_group.ensures.associates w.in-Some.share
                (here ∙ w.in-Some.is),
            subst HasRoom (sym (w.sum-is ∙ w.xor_in.ensures))
                (HasRoom-xor c.loop-share.sum w.word-in-Some.result.now c.loop-share.invariant.1 w.word-in-Some.ensures.room),
          )
      | in_default w ↦ (
        ap (λ (word : Word). word_xor word (total (drop (j + 1) shares))) w.sum-is
            ∙ passes shares j c.loop-share.sum whole below c.loop-share.invariant.0 (here ∙ w.in_default.is),
        subst HasRoom (sym w.sum-is) c.loop-share.invariant.1,
      )
    ]

pub returns : goal.returns
returns c =
    let w = c.self.inside in
    let sound = c.self.invariant in
    let shares = c.deref-share-items.result.now in
    let whole = all_added shares c.loop-share.share-index c.loop-share.sum (word_xor c.word.result.now (total shares))
    c.xor_is_a_group.ensures.has_zero c.loop-share.invariant.1 c.loop-share-test.false c.loop-share.invariant.0 in
    subst (λ (job : JobState). c.loop-share.sum ≡ job_sum job) c.self.view_is
    (whole ∙ ap (λ (word : Word). word_xor word (total shares)) c.word.ensures.word
    ∙ ap (word_xor w.parity)
    (ap total c.deref-share-items.ensures.value
    ∙ sym (total_is_sum w.base w.shape.offset w.shape.na w.shares.items sound.read.some_offset sound.count)))
