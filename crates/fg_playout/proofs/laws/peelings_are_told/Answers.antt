use Rattle.fg_playout.proofs.laws.peelings_are_told.Goals as goal

pub returns : goal.returns
returns c = record {
  exists = c.peelings_fill_the_closure.ensures.exists;
  filled = c.peelings_fill_the_closure.ensures.filled;
  tested = c.maximal_peelings_are_tested.ensures;
  solvable = c.confluence.ensures.solvable;
}
