use Rattle.fg_survey.proofs.walk.SurveyingTelling.tell.Goals as goal

pub take-requires-clause-few : goal.take-requires-clause-few
take-requires-clause-few g c = (c.requires.told.0, c.requires.told.3, c.requires.told.2)
