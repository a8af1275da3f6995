use Rattle.fg_drill.proofs.ComingBack.{all_comes_back, nothing_inconsistent, what_is_shown}
use Rattle.fg_drill.proofs.laws.repaired.thinned_comes_back.Goals as goal

pub returns : goal.returns
returns c =
    let media = c.sent_words_are_media.ensures in
    let records = c.sent_records_are_true.ensures in
    let few = c.few_arrive.ensures in
    record {
      consistent = λ playout settings payloads lost result can is.
          nothing_inconsistent playout settings payloads lost can media records few result is c.true_runs_are_repaired.ensures.repaired;
      shown = λ playout settings payloads lost result can is.
          what_is_shown playout settings payloads lost can media records few result is c.true_runs_are_repaired.ensures.truth;
      whole = λ playout settings payloads lost result can is.
          all_comes_back playout settings payloads lost can media records few result is
          c.true_runs_are_repaired.ensures.truth c.peeled_slots_are_shown.ensures c.records_arrive_one_way.ensures;
    }
