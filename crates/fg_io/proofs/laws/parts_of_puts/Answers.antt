use Rattle.std.proofs.Common.{refl}
use Rattle.fg_io.proofs.OutletLemmas.{PutsPart-nil, PutsPart-whole, PutsPart-front, PutsPart-trans}
use Rattle.fg_io.proofs.laws.parts_of_puts.Goals as goal

pub returns-clause-none : goal.returns-clause-none
returns-clause-none c = PutsPart-nil

pub returns-clause-all : goal.returns-clause-all
returns-clause-all c = PutsPart-whole

pub returns-clause-of_first : goal.returns-clause-of_first
returns-clause-of_first c = λ before after port piece more gained. PutsPart-front before after port piece _ (more, refl) gained

pub returns-clause-of_second : goal.returns-clause-of_second
returns-clause-of_second c = PutsPart-trans
