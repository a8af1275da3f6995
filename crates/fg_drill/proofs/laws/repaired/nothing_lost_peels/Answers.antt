use Rattle.fg_drill.specs.ComesBack.{NothingLostPeels}
use Rattle.fg_drill.proofs.WholeTraces as whole
use Rattle.fg_drill.proofs.laws.repaired.nothing_lost_peels.Goals as goal

peels : goal.After-thinned_comes_back → NothingLostPeels
peels c = whole.nothing_lost_peels c.sent_words_are_media.ensures c.sent_records_are_true.ensures c.few_arrive.ensures
    c.all_records_arrive.ensures c.full_arrivals_peel.ensures

pub returns : goal.returns
returns c = record {
  few = whole.nothing_is_few;
  all = whole.nothing_is_all;
  peels = peels c;
  whole = whole.encoding_comes_back (peels c) c.thinned_comes_back.ensures.whole;
}
