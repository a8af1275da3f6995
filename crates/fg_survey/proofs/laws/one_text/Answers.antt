use Rattle.fg_survey.proofs.Readings as readings
use Rattle.fg_survey.proofs.laws.one_text.Goals as goal

pub returns : goal.returns
returns c = readings.one_text c.one_reading.ensures
