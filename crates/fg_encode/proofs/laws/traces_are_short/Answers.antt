use Rattle.fg_encode.proofs.SizeLemmas.{traces_are_short}
use Rattle.fg_encode.proofs.laws.traces_are_short.Goals as goal

pub returns : goal.returns
returns c = traces_are_short c.ends_are_the_layouts.ensures.columns c.ends_are_the_layouts.ensures.rows
