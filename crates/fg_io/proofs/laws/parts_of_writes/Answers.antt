use Rattle.fg_io.proofs.SinkLemmas.{GainsPart-nil, GainsPart-whole, GainsPart-longer, GainsPart-trans}
use Rattle.fg_io.proofs.laws.parts_of_writes.Goals as goal

pub returns-clause-none : goal.returns-clause-none
returns-clause-none c = GainsPart-nil

pub returns-clause-all : goal.returns-clause-all
returns-clause-all c = GainsPart-whole

pub returns-clause-of_first : goal.returns-clause-of_first
returns-clause-of_first c = GainsPart-longer

pub returns-clause-of_second : goal.returns-clause-of_second
returns-clause-of_second c = GainsPart-trans
