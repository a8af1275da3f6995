use Rattle.std.proofs.Common.{length, inl, inr, sym, ◌∙◌}
use Rattle.std.proofs.lemmas.Option.{none-some}
use Rattle.fg_closure.proofs.Readings.{all_lines, live_within}
use Rattle.fg_closure.proofs.reading.read_lines.Goals as goal

pub copy_lines-requires-clause-places : goal.copy_lines-requires-clause-places
copy_lines-requires-clause-places c line listed =
    live_within c.args.desk.now.state c.live_lines.result.0.now c.live_lines.result.1.now (length c.clear.new.lines) c.requires.facts
    (c.clear.auto.lines ∙ c.requires.places) c.live_lines.ensures.live line (inl listed)

pub copy_lines-requires-clause-queued : goal.copy_lines-requires-clause-queued
copy_lines-requires-clause-queued c place line is = absurd (none-some line (sym (c.clear.ensures place) ∙ is))

pub copy_lines-requires-2-clause-places : goal.copy_lines-requires-2-clause-places
copy_lines-requires-2-clause-places c line listed =
    live_within c.args.desk.now.state c.live_lines.result.0.now c.live_lines.result.1.now (length c.copy_lines.new.lines) c.requires.facts
    (c.copy_lines.auto.lines ∙ c.clear.auto.lines ∙ c.requires.places) c.live_lines.ensures.live line (inr listed)

pub returns-clause-lines : goal.returns-clause-lines
returns-clause-lines c =
    all_lines c.args.desk.now.state c.live_lines.result.0.now c.live_lines.result.1.now c.clear.new.lines c.copy_lines.new.lines
    c.copy_lines-2.new.lines c.requires.facts c.clear.ensures c.live_lines.ensures.live c.copy_lines.ensures.copied c.copy_lines-2.ensures.copied
