use Rattle.fg_monitor.proofs.Texts.{one_text}
use Rattle.fg_monitor.proofs.laws.one_text.Goals as goal

pub returns : goal.returns
returns c = one_text
