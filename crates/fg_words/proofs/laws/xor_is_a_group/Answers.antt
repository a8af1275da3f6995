use Rattle.fg_words.proofs.WordLemmas.{word_xor_comm, word_xor_assoc, word_xor-zero, word_xor-self}
use Rattle.fg_words.proofs.laws.xor_is_a_group.Goals as goal

pub returns : goal.returns
returns c = record {
  commutes = word_xor_comm;
  associates = word_xor_assoc;
  has_zero = word_xor-zero;
  undoes_itself = word_xor-self;
}
