use Rattle.fg_peel.proofs.Blocks.{three_lost_follow, two_passes_follow, four_in_square_stay, wrong_parity_unsolvable}
use Rattle.fg_peel.proofs.laws.worked_blocks.Goals as goal

pub returns : goal.returns
returns c = record {
  three = three_lost_follow;
  chain = two_passes_follow;
  square = four_in_square_stay;
  parity = wrong_parity_unsolvable;
}
