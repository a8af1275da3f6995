use Rattle.std.proofs.Common.{◌+◌, ◌<◌, length, None, Some, sym, subst, arith}
use Rattle.fg_closure.proofs.Findings.{line_reach, last_found, last_fits, read_line, IsReach, reach_begins, reach_past, reach_on, reach_limit, reach_looked_at}
use Rattle.fg_closure.proofs.closure.Closure.reach.Goals as goal
use Rattle.fg_closure.proofs.closure.Closure.reach.Goals.{in-Some, in_default}

pub last-requires-clause-shape : goal.last-requires-clause-shape
last-requires-clause-shape c =
    let closure = c.args.self.now in
    (line_reach closure c.loop-place.place c.in-Some.line c.requires.found
    (read_line closure.lines.items c.loop-place.place c.index.result.now (Some c.in-Some.line) (omega (arith, closure.lines.ok.0, closure.places)) c.index.ensures c.in-Some.is)).1.shape

pub last-requires-clause-base : goal.last-requires-clause-base
last-requires-clause-base c =
    let closure = c.args.self.now in
    (line_reach closure c.loop-place.place c.in-Some.line c.requires.found
    (read_line closure.lines.items c.loop-place.place c.index.result.now (Some c.in-Some.line) (omega (arith, closure.lines.ok.0, closure.places)) c.index.ensures c.in-Some.is)).1.base

pub overflow_add-last : goal.overflow_add-last
overflow_add-last c =
    let closure = c.args.self.now in
    let reach = line_reach closure c.loop-place.place c.in-Some.line c.requires.found
    (read_line closure.lines.items c.loop-place.place c.index.result.now (Some c.in-Some.line) (omega (arith, closure.lines.ok.0, closure.places)) c.index.ensures c.in-Some.is) in
    let fits = last_fits c.in-Some.line c.last.result reach.0 reach.1 (last_found c.in-Some.line c.last.result reach.1.shape c.last.ensures.slot c.last.ensures.greatest) in
    omega (arith, fits)

pub loop-place-init : goal.loop-place-init
loop-place-init c = reach_begins c.args.self.now c.args.count (c.args.self.now.mark + c.from.result) (omega (arith, c.from.ensures))

pub loop-place-preserved : goal.loop-place-preserved
loop-place-preserved c =
    let closure = c.args.self.now in
    let within : c.loop-place.place < length closure.lines.items = omega (arith, closure.lines.ok.0, closure.places) in
    elim c.match-index.branch [
      | in-Some w ↦ (
          let here = read_line closure.lines.items c.loop-place.place c.index.result.now (Some w.in-Some.line) within c.index.ensures w.in-Some.is in
          let reach = line_reach closure c.loop-place.place w.in-Some.line c.requires.found here in
          subst (λ end. IsReach closure c.args.count (c.loop-place.place + 1) end) (sym w.end-is)
          (reach_on closure c.args.count c.loop-place.place c.loop-place.end w.max-end.result w.last.result w.in-Some.line here
          (last_found w.in-Some.line w.last.result reach.1.shape w.last.ensures.slot w.last.ensures.greatest) w.max-end.ensures c.loop-place.invariant)
          )
      | in_default w ↦ subst (λ end. IsReach closure c.args.count (c.loop-place.place + 1) end) (sym w.end-is)
          (reach_past closure c.args.count c.loop-place.place c.loop-place.end
          (read_line closure.lines.items c.loop-place.place c.index.result.now None within c.index.ensures w.in_default.is) c.loop-place.invariant)
    ]

pub returns-clause-limit : goal.returns-clause-limit
returns-clause-limit c =
    let limit = reach_limit c.requires.found.0 c.args.self.now c.args.count c.loop-place.place c.loop-place.end c.requires.found.1 c.requires.count c.loop-place.invariant in
    omega (arith, limit)

pub returns-clause-looked_at : goal.returns-clause-looked_at
returns-clause-looked_at c desk is =
    reach_looked_at desk c.args.self.now c.args.count c.loop-place.place c.loop-place.end is (omega arith) c.loop-place.invariant
