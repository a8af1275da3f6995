use Rattle.std.proofs.Common.{◌<◌, ◌^◌, subst}
use Rattle.fg_survey.proofs.Sheets.{as_many_kept}
use Rattle.fg_survey.proofs.walk.SurveyingTelling.end.Goals as goal

pub returns-clause-whole : goal.returns-clause-whole
returns-clause-whole g c = λ records end before is kept. record {
  kept = kept;
  few = subst (λ n. n < 2 ^ 40) (as_many_kept c.args.self.now.sheet c.requires.told.0 records c.requires.told.3 kept) c.requires.told.2;
}
