use Rattle.std.proofs.Common.{◌<◌, ℕ, length, refl, ◌∙◌, arith}
use Rattle.fg_peel.specs.declared.Line.{Line}
use Rattle.fg_closure.proofs.Readings.{copying_begins, copying_on, copying_ends, place_within}
use Rattle.fg_closure.proofs.Watching.{queued_more}
use Rattle.fg_closure.proofs.reading.copy_lines.Goals as goal

pub loop-line-init : goal.loop-line-init
loop-line-init c = (
  tt,
  tt,
  copying_begins c.args.live.now c.args.lines.now c.into_iter-line-iterator.result
      (c.into_iter-line-iterator.ensures.into_iter_gives ∙ c.iter-line-items.ensures.rest),
  c.requires.queued,
)

pub bounds-lines-line : goal.bounds-lines-line
bounds-lines-line c =
    let entry : ℕ × Line = (c.in-Some.field-0-0, c.in-Some.line.now) in
    place_within c.args.live.now c.args.lines.now c.loop-line.lines c.loop-line.line-iterator c.next.new.self entry c.in-Some.ensures.steps
    c.loop-line.auto.lines c.requires.places c.loop-line.invariant.2

pub add-requires : goal.add-requires
add-requires c =
    let entry : ℕ × Line = (c.in-Some.field-0-0, c.in-Some.line.now) in
    let within = place_within c.args.live.now c.args.lines.now c.loop-line.lines c.loop-line.line-iterator c.next.new.self entry c.in-Some.ensures.steps
    c.loop-line.auto.lines c.requires.places c.loop-line.invariant.2 in
    omega (arith, within, c.loop-line.auto.lines, c.requires.count)

pub loop-line-preserved : goal.loop-line-preserved
loop-line-preserved c =
    let entry : ℕ × Line = (c.in-Some.field-0-0, c.in-Some.line.now) in
    let within : c.in-Some.line.now.place < length c.loop-line.lines = place_within c.args.live.now c.args.lines.now c.loop-line.lines
    c.loop-line.line-iterator c.next.new.self entry c.in-Some.ensures.steps c.loop-line.auto.lines c.requires.places c.loop-line.invariant.2 in (
      tt,
      tt,
      copying_on c.args.live.now c.args.lines.now c.loop-line.lines c.loop-line.line-iterator c.next.new.self entry c.in-Some.line.now.place
          c.in-Some.ensures.steps refl within c.loop-line.invariant.2,
      queued_more c.loop-line.lines c.in-Some.line.now.place _ c.loop-line.watches c.add.new.self within c.add.ensures c.loop-line.invariant.3,
    )

pub returns-clause-copied : goal.returns-clause-copied
returns-clause-copied c =
    copying_ends c.args.live.now c.args.lines.now c.loop-line.lines c.loop-line.line-iterator c.in-None.ensures.steps.0 c.loop-line.invariant.2
