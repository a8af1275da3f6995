-- What comes back of a thinned encoding of which nothing was left out, and of a trace.
use Rattle.std.proofs.Common.{ℕ, ◌+◌, Bool, false, List, length, refl, sym, ap, subst, arith}
use Rattle.std.specs.List.{AllZip}
use Rattle.fg_trace.specs.Laws.{OneTrace, SpelledIsRead}
use Rattle.fg_trace.specs.Trace.{Record, Ended, IsTrace}
use Rattle.fg_encode.specs.Encoding.{encoding}
use Rattle.fg_encode.specs.Laws.{RecordsFit}
use Rattle.fg_results.specs.Flow.{Arrives, IsFlowResult, records_of}
use Rattle.fg_drill.specs.ComesBack.{EncodingComesBack, NothingIsInconsistent, NothingLostIsAll, NothingLostIsFew, NothingLostPeels, PeelingBringsAllBack, ThinnedTraceComesBack, ThinnedTraceIsRead, WhatIsShownComesBack}
use Rattle.fg_drill.specs.Sent.{AllRecordsArrive, FewArrive, SentRecordsAreTrue, SentWordsAreMedia, source_sent, words_sent}
use Rattle.fg_thin.specs.Thinned.{media_number, thinned}
use Rattle.fg_drill.specs.TrueLaws.{FullArrivalsPeel}
use Rattle.fg_drill.proofs.AllSent.{all_kept}
use Rattle.fg_drill.proofs.ComingBack.{sent_true}
use Rattle.fg_thin.proofs.TraceLemmas.{fits_without}

-- Nothing is left out

pub nothing_is_few : NothingLostIsFew
nothing_is_few layout count lost none = record {
  first = none 0;
  succession = λ slot within. (0, omega arith, none (media_number layout (slot + 0)));
}

pub nothing_is_all : NothingLostIsAll
nothing_is_all settings payloads lost none = all_kept lost 0 (encoding settings payloads) none

pub nothing_lost_peels : SentWordsAreMedia → SentRecordsAreTrue → FewArrive → AllRecordsArrive → FullArrivalsPeel → NothingLostPeels
nothing_lost_peels media records few arrive peel playout settings payloads lost can none =
    let all = arrive settings payloads can.can can.whole in
    let zip = subst (λ (rs : List Record). AllZip (Arrives settings.port) (records_of settings.port rs) all.0)
    (sym (nothing_is_all settings payloads lost none)) all.1 in (
      all.0,
      zip,
      peel playout settings.seq (source_sent settings) (length payloads) (words_sent settings payloads) all.0
          (sent_true playout settings payloads lost can media records few all.0 zip) all.2,
    )

pub encoding_comes_back : NothingLostPeels → PeelingBringsAllBack → EncodingComesBack
encoding_comes_back peels whole playout settings payloads result can is =
    let lost : ℕ → Bool = λ _. false in
    whole playout settings payloads lost result can
    (subst (λ (rs : List Record). IsFlowResult playout rs settings.port result)
    (sym (nothing_is_all settings payloads lost (λ _. refl))) is)
    (peels playout settings payloads lost can (λ _. refl))

-- Traces

pub trace_is_read : RecordsFit → SpelledIsRead → OneTrace → ThinnedTraceIsRead
trace_is_read fit read one playout max flows bytes settings payloads lost is =
    let sent : List Record = thinned settings lost payloads in
    let within = is.within in
    let fits = fits_without lost 0 (encoding settings payloads) (fit settings payloads is.can.can is.can.whole is.can.limit) in
    let trace : IsTrace bytes max sent Ended =
    subst (λ (bs : List ℕ). IsTrace bs max sent Ended) (sym is.spelled)
    (read sent max fits (omega (arith, within, ap (λ (bs : List ℕ). length bs) is.spelled))) in
    (trace, λ records end other. one bytes max records sent end Ended other trace)

pub trace_comes_back :
    ThinnedTraceIsRead → NothingIsInconsistent → WhatIsShownComesBack → PeelingBringsAllBack → ThinnedTraceComesBack
trace_comes_back read consistent shown whole playout max flows bytes settings payloads lost records end result is trace flow =
    let same = ((read playout max flows bytes settings payloads lost is).1 records end trace).0 in
    let result_is : IsFlowResult playout (thinned settings lost payloads) settings.port result =
    subst (λ (rs : List Record). IsFlowResult playout rs settings.port result) same flow in
    record {
      is = result_is;
      consistent = consistent playout settings payloads lost result is.can result_is;
      shown = shown playout settings payloads lost result is.can result_is;
      peels = whole playout settings payloads lost result is.can result_is;
    }
