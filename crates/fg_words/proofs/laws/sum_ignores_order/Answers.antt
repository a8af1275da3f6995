use Rattle.fg_words.proofs.WordLemmas.{word_sum-append, word_sum-permutation}
use Rattle.fg_words.proofs.laws.sum_ignores_order.Goals as goal

pub returns : goal.returns
returns c = record {
  appends = λ us ws _ room. word_sum-append us ws room;
  permutes = word_sum-permutation;
}
