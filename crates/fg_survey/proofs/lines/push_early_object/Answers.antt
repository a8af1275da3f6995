use Rattle.std.proofs.Common.{codes}
use Rattle.std.specs.Fmt.{decimal}
use Rattle.fg_survey.proofs.Sections.{five_pieces}
use Rattle.fg_survey.proofs.lines.push_early_object.Goals as goal

pub returns : goal.returns
returns c =
    five_pieces c.args.text.now.items c.extend_from_slice.new.self.items c.extend_from_slice-2.new.self.items c.extend_from_slice-3.new.self.items c.push_number.new.text.items c.extend_from_slice-4.new.self.items
    (codes "{\"kind\":\"tail\",\"end\":\"") c.args.end.now c.as_bytes.result.now (codes "\",\"byte\":") (decimal c.args.place) (codes "}\n")
    c.in_ok-extend_from_slice.ensures.items c.in_ok-extend_from_slice-2.ensures.items c.as_bytes.ensures.value c.in_ok-extend_from_slice-3.ensures.items c.in_ok-push_number.ensures c.in_ok-extend_from_slice-4.ensures.items
