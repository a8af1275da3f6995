use Rattle.fg_drill.proofs.CoveredPeel as proof
use Rattle.fg_drill.proofs.laws.covered.covered_losses_peel.Goals as goal

pub returns : goal.returns
returns c = proof.covered_losses_peel
    c.sent_words_are_media.ensures
    c.sent_records_are_true.ensures
    c.few_arrive.ensures
    c.what_is_written_is_read.ensures
    c.what_is_written_is_read-2.ensures
    c.layouts_are_read.ensures
    c.ends_are_the_layouts.ensures.columns
    c.runs_exist.ensures
    c.runs_are_lawful.ensures
