use Rattle.fg_inspect.proofs.Texts as texts
use Rattle.fg_inspect.proofs.laws.one_text.Goals as goal

pub returns-clause-one : goal.returns-clause-one
returns-clause-one c = texts.one_text c.one_reading.ensures

pub returns-clause-front : goal.returns-clause-front
returns-clause-front c = texts.text_of_front c.one_reading.ensures
