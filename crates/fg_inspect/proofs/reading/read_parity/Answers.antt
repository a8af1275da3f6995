use Rattle.std.proofs.Common.{refl}
use Rattle.fg_inspect.proofs.reading.read_parity.Goals as goal

pub returns-in-Err : goal.returns-in-Err
returns-in-Err c = (refl, record { none = c.in-Err.ensures.refused; first = (c.in-Err.ensures.faults c.in-Err.fault).0 refl })
