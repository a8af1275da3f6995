use Rattle.fg_survey.proofs.Readings as readings
use Rattle.fg_survey.proofs.laws.one_reading.Goals as goal

pub returns : goal.returns
returns c = readings.one_reading c.media_datagrams_read_one_way.ensures.one_way c.parity_datagrams_read_one_way.ensures
