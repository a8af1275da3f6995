use Rattle.fg_surveyed.proofs.Telling.{surveys_tell, texts_tell}
use Rattle.fg_surveyed.proofs.laws.surveys_tell_losses.Goals as goal

pub returns-clause-text : goal.returns-clause-text
returns-clause-text c =
    texts_tell c.what_is_written_is_read.ensures c.what_is_written_is_read-2.ensures c.layouts_are_read.ensures c.ends_are_the_layouts.ensures.columns c.one_text.ensures

pub returns-clause-trace : goal.returns-clause-trace
returns-clause-trace c =
    surveys_tell
    (texts_tell c.what_is_written_is_read.ensures c.what_is_written_is_read-2.ensures c.layouts_are_read.ensures c.ends_are_the_layouts.ensures.columns c.one_text.ensures)
    c.records_fit.ensures c.spelled_is_read.ensures c.one_trace.ensures
