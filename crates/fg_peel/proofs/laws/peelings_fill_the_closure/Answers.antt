use Rattle.fg_peel.proofs.Peelings.{peelings_stay, maximal_end, end_of-keeps}
use Rattle.fg_peel.proofs.Maximal.{maximal_exists}
use Rattle.fg_peel.proofs.Verdicts.{peelings_continue, end_of-append, IsPeeling-append}
use Rattle.fg_peel.proofs.laws.peelings_fill_the_closure.Goals as goal

pub returns : goal.returns
returns c = record {
  within = peelings_stay;
  filled = maximal_end;
  exists = maximal_exists;
  continued = peelings_continue;
  keeps = end_of-keeps;
  appended = λ known equations one other first second.
      (IsPeeling-append known equations one other first second, end_of-append known one other);
}
