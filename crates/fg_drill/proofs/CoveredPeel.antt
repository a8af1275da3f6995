-- An encoding with covered losses peels.
use Rattle.std.proofs.Common.{◌≡◌, ◌+◌, ◌-◌, ◌*◌, ℕ, List, length, true, false, None, refl, arith}
use Rattle.fg_shape.specs.Laws.{LayoutsAreRead}
use Rattle.fg_rtp.specs.Laws.{WrittenIsRead as MediaWrittenIsRead}
use Rattle.fg_fechead.specs.Laws.{WrittenIsRead as ParityWrittenIsRead}
use Rattle.fg_encode.specs.Encoding.{bits_before, column_shape, parity_at, row_shape, time_of, word_at}
use Rattle.fg_encode.specs.Laws.{ColumnsAreTheLayouts}
use Rattle.fg_playout.specs.Existence.{RunsExist}
use Rattle.fg_playout.specs.Run.{Arrival}
use Rattle.fg_results.specs.Flow.{parity_of}
use Rattle.fg_drill.specs.Covered.{CoveredLossesPeel}
use Rattle.fg_drill.specs.TrueLaws.{RunsAreLawful}
use Rattle.fg_drill.specs.Sent.{FewArrive, SentRecordsAreTrue, SentWordsAreMedia, source_sent, words_sent}
use Rattle.fg_drill.proofs.ComingBack.{sent_true}
use Rattle.fg_drill.proofs.CoveredRuns.{all_peel}
use Rattle.fg_drill.proofs.CoveredSent.{all_left, left_arrive}
use Rattle.fg_drill.proofs.TrueRuns.{all_are_read}
use Rattle.fg_drill.proofs.Truth.{parity_has_base, parity_is_true, word_sent}

pub covered_losses_peel :
    SentWordsAreMedia → SentRecordsAreTrue → FewArrive → MediaWrittenIsRead → ParityWrittenIsRead → LayoutsAreRead
    → ColumnsAreTheLayouts → RunsExist → RunsAreLawful → CoveredLossesPeel
covered_losses_peel media records few media_law law shapes ending exist laws playout settings payloads lost can covered waits =
    let most = can.can.packets.1 in
    let are = can.whole in
    let arrivals : List Arrival = all_left settings payloads lost most are in
    let arrive = left_arrive settings payloads lost most are covered.media media_law law shapes in
    let sent = sent_true playout settings payloads lost can media records few arrivals arrive in
    let seq : ℕ = settings.seq in
    let ssrc : ℕ = source_sent settings in
    let run = exist playout arrivals sent.fits.window.0
    (all_are_read seq ssrc (words_sent settings payloads) None arrivals sent.source sent.media sent.arrive) in
    let read = shapes settings.layout in (
      arrivals,
      arrive,
      all_peel laws.stand laws.peelings laws.solvable laws.found laws.keeps laws.media_adds laws.parity_adds laws.within laws.join ending
          playout settings.layout (length payloads) lost
          covered waits can.few.first seq ssrc (words_sent settings payloads) arrivals sent
          (λ slot. time_of settings (bits_before payloads slot))
          (word_at settings payloads)
          (λ base. parity_of (parity_at settings payloads base (column_shape settings.layout) false))
          (λ base. parity_of (parity_at settings payloads base (row_shape settings.layout) true))
          (word_sent settings payloads)
          (λ slot base below ends. (
            parity_is_true settings payloads base (column_shape settings.layout) false slot read.0 ends below,
            parity_has_base settings payloads base (column_shape settings.layout) false slot read.0 ends below,
          ))
          (λ base. (refl, refl))
          (λ slot base below ends.
          let end : base + (settings.layout.l - 1) * 1 ≡ slot = omega (arith, ends) in (
            parity_is_true settings payloads base (row_shape settings.layout) true slot read.1 end below,
            parity_has_base settings payloads base (row_shape settings.layout) true slot read.1 end below,
          ))
          (λ base. (refl, refl))
          refl run.0 run.1 run.2,
    )
