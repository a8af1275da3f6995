use Rattle.std.proofs.Common.{get_or, ap, ◌∙◌, arith}
use Rattle.fg_survey.specs.declared.rows.Row.{Row}
use Rattle.fg_survey.proofs.Counting.{all_ports, ports_more, row_has_room}
use Rattle.fg_survey.proofs.ports.take_row.Goals as goal

pub take-requires : goal.take-requires
take-requires c =
    let none : Row = record { records = 0; bytes = 0; media = 0; parity = 0; first = 0; last = 0 } in
    let h = c.requires.1 in
    row_has_room (get_or c.args.rows.now c.from.result none) c.args.port c.requires.0
    (ap (λ p. get_or c.args.rows.now p none) c.from.ensures ∙ h.each c.args.port none (omega (arith, c.ranges.port.fits, all_ports))) c.requires.2 c.requires.3

pub returns : goal.returns
returns c = λ before x time port size reading h.
    let none : Row = record { records = 0; bytes = 0; media = 0; parity = 0; first = 0; last = 0 } in
    ports_more c.args.rows.now before x c.args.port c.from.result none c.take.new.self c.from.ensures (omega (arith, c.ranges.port.fits)) port
    (λ heard was. c.take.ensures heard x time size reading was) h

pub bounds-rows-from : goal.bounds-rows-from
bounds-rows-from c = omega (arith, c.from.ensures, c.ranges.port.fits, c.requires.1.all, all_ports)
