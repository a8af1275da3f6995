use Rattle.fg_playout.proofs.AdmissionsAdd.{media_adds, parity_adds}
use Rattle.fg_playout.proofs.laws.admissions_add.Goals as goal

pub returns-clause-media : goal.returns-clause-media
returns-clause-media c = media_adds

pub returns-clause-parity : goal.returns-clause-parity
returns-clause-parity c = parity_adds
