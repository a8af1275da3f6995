use Rattle.fg_commands.proofs.Lines.{whole_of_three, part_of_three}
use Rattle.fg_commands.proofs.fault_line.write_parts.Goals as goal

pub returns-clause-whole : goal.returns-clause-whole
returns-clause-whole g c =
    whole_of_three c.write_pieces.result _ _ c.args.text.now c.args.more.now c.args.end.now _
    c.as_bytes.ensures.value c.write_pieces.ensures.whole

pub returns-clause-part : goal.returns-clause-part
returns-clause-part g c =
    part_of_three c.write_pieces.result _ _ c.args.text.now c.args.more.now c.args.end.now _
    c.as_bytes.ensures.value c.write_pieces.ensures.part
