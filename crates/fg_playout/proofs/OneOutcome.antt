-- A call has one outcome.
use Rattle.std.proofs.Common.{◌≡◌, Some, None, refl, sym, ap, subst, ◌∙◌}
use Rattle.fg_peel.specs.Laws.{Uniqueness}
use Rattle.fg_playout.specs.declared.reply.Reply.{Reply}
use Rattle.fg_playout.specs.Admission.{IsAfterMedia, IsAfterParity}
use Rattle.fg_playout.specs.Play.{Play}
use Rattle.fg_playout.specs.Laws.{MediaIsOne, ParityIsOne, PlayIsOne, FlushIsOne, PlaysShowOneList, FlushStepsShowOneList}
use Rattle.fg_playout.proofs.Orderly.{orderly_from_holds}
use Rattle.fg_playout.proofs.Replies.{one_media_reply, one_parity_reply}
use Rattle.fg_playout.proofs.OnePlay.{one_play, one_state_after, one_flush_step, one_state_after_step}
use Rattle.fg_playout.proofs.OneRun.{one_after_media, one_after_parity}

pub media_is_one : MediaIsOne
media_is_one old one other seq ssrc word reply reply' a b =
    let same : reply ≡ reply' = one_media_reply old seq ssrc word reply reply' a.reply_is b.reply_is in (
      same,
      one_after_media old seq ssrc word reply one other a.after
          (subst (λ (r : Reply). IsAfterMedia old seq ssrc word r other) (sym same) b.after),
    )

pub parity_is_one : ParityIsOne
parity_is_one old one other parity reply reply' holds a b =
    let same : reply ≡ reply' = one_parity_reply old (orderly_from_holds old holds) parity reply reply' a.reply_is b.reply_is in (
      same,
      one_after_parity old parity reply one other a.after
          (subst (λ (r : Reply). IsAfterParity old parity r other) (sym same) b.after),
    )

pub play_is_one : Uniqueness → PlayIsOne
play_is_one unique count old one other play play' holds a b =
    let orderly = orderly_from_holds old holds in (
      one_play unique count old orderly play play' one other a b,
      one_state_after unique count old orderly play play' one other a b,
    )

-- Either there is a step on both sides, or on neither.
pub flush_is_one : Uniqueness → FlushIsOne
flush_is_one unique old one other None None holds a b = (refl, a.1 ∙ sym b.1)
flush_is_one unique old one other None (Some play') holds a b = absurd (a.0 (b.highest, b.highest_is.inside, b.more))
flush_is_one unique old one other (Some play) None holds a b = absurd (b.0 (a.highest, a.highest_is.inside, a.more))
flush_is_one unique old one other (Some play) (Some play') holds a b =
    let orderly = orderly_from_holds old holds in (
      ap Some (one_flush_step unique old orderly play play' one other a b),
      one_state_after_step unique old orderly play play' one other a b,
    )

-- So what is shown is one list.
pub plays_show_one_list : Uniqueness → PlaysShowOneList
plays_show_one_list unique count old one other first first' shown shown' outcome outcome' holds a b =
    ap (λ (play : Play). play.shown) (one_play unique count old (orderly_from_holds old holds)
    (record { first = first; shown = shown; outcome = outcome }) (record { first = first'; shown = shown'; outcome = outcome' })
    one other a b)

pub flush_steps_show_one_list : Uniqueness → FlushStepsShowOneList
flush_steps_show_one_list unique old one other first first' shown shown' outcome outcome' holds a b =
    ap (λ (play : Play). play.shown) (one_flush_step unique old (orderly_from_holds old holds)
    (record { first = first; shown = shown; outcome = outcome }) (record { first = first'; shown = shown'; outcome = outcome' })
    one other a b)
