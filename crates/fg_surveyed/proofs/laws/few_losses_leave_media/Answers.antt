use Rattle.fg_surveyed.proofs.Leaving.{few_leave}
use Rattle.fg_surveyed.proofs.laws.few_losses_leave_media.Goals as goal

pub returns : goal.returns
returns c = few_leave
