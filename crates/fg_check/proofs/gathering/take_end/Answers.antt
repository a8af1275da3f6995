use Rattle.std.proofs.Common.{sym, None, refl}
use Rattle.fg_proof.specs.Text.{End}
use Rattle.fg_check.proofs.Grammar.{ended_at, refused_at}
use Rattle.fg_check.proofs.gathering.take_end.Goals as goal

pub returns-in-Some : goal.returns-in-Some
returns-in-Some c = ended_at c.args.opened.now c.take.new.self c.in-Some.case (sym c.in-Some.ensures.value) c.in-Some.ensures.after

pub returns-in-None : goal.returns-in-None
returns-in-None c = refused_at c.args.opened.now None End (sym c.in-None.ensures.value) tt refl
