use Rattle.std.proofs.Common.{◌≡◌, ◌≢◌, ◌+◌, refl, arith}
use Rattle.fg_survey.specs.Matrix.{ahead_by, columns_on, rows_on}
use Rattle.fg_survey.proofs.LaneLemmas.{few_protections, lane_column, lane_other, lane_row}
use Rattle.fg_survey.proofs.lanes.Lane.take.Goals as goal

pub take_column-requires-clause-few : goal.take_column-requires-clause-few
take_column-requires-clause-few c =
    let known = c.requires.few in
    let port = c.args.self.now.port in
    let few = few_protections port (port + 2) known.0 in
    (columns_on port known.0, rows_on port known.0, known.1.tally_is, omega (arith, few, known.2))

pub take_row-requires-clause-few : goal.take_row-requires-clause-few
take_row-requires-clause-few c =
    let known = c.requires.few in
    let port = c.args.self.now.port in
    let few = few_protections port (port + 4) known.0 in
    (columns_on port known.0, rows_on port known.0, known.1.tally_is, omega (arith, few, known.2))

pub returns-then-from-clause-lane : goal.returns-then-from-clause-lane
returns-then-from-clause-lane c = λ before time datagram keeps h.
    let lane = c.args.self.now in
    let parity = c.args.parity in
    let at : c.args.port ≡ lane.port + 2 = omega (arith, c.from.ensures, c.from-2.ensures, c.if-from.true) in
    lane_column lane _ before time c.args.port datagram parity.base parity.offset parity.number c.ahead_by.result h refl refl (c.ahead_by.ensures before keeps) at
    (c.take_column.ensures (columns_on lane.port before) (rows_on lane.port before) h.tally_is)

pub returns-then-from-2-clause-lane : goal.returns-then-from-2-clause-lane
returns-then-from-2-clause-lane c = λ before time datagram keeps h.
    let lane = c.args.self.now in
    let parity = c.args.parity in
    let at : c.args.port ≡ lane.port + 4 = omega (arith, c.from-3.ensures, c.from-4.ensures, c.if-from-2.true) in
    lane_row lane _ before time c.args.port datagram parity.base parity.offset parity.number c.ahead_by-then-from-2.result h refl refl (c.ahead_by-then-from-2.ensures before keeps) at
    (c.take_row.ensures (columns_on lane.port before) (rows_on lane.port before) h.tally_is)

pub returns-clause-lane : goal.returns-clause-lane
returns-clause-lane c = λ before time datagram keeps h.
    let lane = c.args.self.now in
    let parity = c.args.parity in
    let first : c.args.port ≢ lane.port + 2 = λ same. c.if-from.false (omega (arith, c.from.ensures, c.from-2.ensures, same)) in
    let second : c.args.port ≢ lane.port + 4 = λ same. c.if-from-2.false (omega (arith, c.from-3.ensures, c.from-4.ensures, same)) in
    lane_other lane _ before time c.args.port datagram parity.base parity.offset parity.number (ahead_by before parity.base (record { port = lane.port; ssrc = lane.ssrc })) h refl refl refl first second h.tally_is
