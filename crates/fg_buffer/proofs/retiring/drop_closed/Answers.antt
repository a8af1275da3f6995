use Rattle.std.proofs.Common.{◌<◌, ◌≤◌, arith}
use Rattle.fg_peel.specs.declared.Line.{Line}
use Rattle.fg_buffer.specs.Watches.{first_of, nowhere}
use Rattle.fg_buffer.proofs.LiveBounds.{nothing_drops}
use Rattle.fg_buffer.proofs.LiveKeys.{keyed_fewer}
use Rattle.fg_buffer.proofs.LiveWatched.{closes_first, closes_one, closes_all}
use Rattle.fg_buffer.proofs.retiring.drop_closed.Goals as goal

pub loop-place-init : goal.loop-place-init
loop-place-init c = (
  closes_first c.args.mark c.args.lines.now c.args.places.now c.args.watches.now
      (nothing_drops (λ (line : Line). line.place < 0 → c.args.mark ≤ first_of c.args.watches.now line.place) c.args.lines.now
      c.args.places.now (λ line h less. absurd (omega (arith, less)))),
  omega arith,
)

pub drop_at-requires-clause-within : goal.drop_at-requires-clause-within
drop_at-requires-clause-within c key line is = c.requires.within key line ((c.loop-place.invariant.0.drops.left key line).0 is).0

pub drop_at-requires-clause-keyed : goal.drop_at-requires-clause-keyed
drop_at-requires-clause-keyed c =
    keyed_fewer c.args.keys.now c.args.lines.now c.loop-place.lines
    (λ key line is. ((c.loop-place.invariant.0.drops.left key line).0 is).0) c.requires.keyed

pub loop-place-preserved : goal.loop-place-preserved
loop-place-preserved c =
    let found = c.in-Some.ensures.some in
    let within = found.1 in (
      closes_one c.args.mark c.loop-place.from c.args.lines.now c.loop-place.lines c.args.places.now c.loop-place.places
          c.args.watches.now c.loop-place.watches c.loop-place.invariant.0 c.in-Some.place found.0 found.2 found.3
          c.drop_at.new.lines c.drop_at.new.places c.drop_at.ensures nowhere c.leave.new.self c.leave.ensures,
      omega (arith, within),
    )

pub returns-clause-drops : goal.returns-clause-drops
returns-clause-drops c =
    closes_all c.args.mark c.loop-place.from c.args.lines.now c.loop-place.lines c.args.places.now c.loop-place.places
    c.args.watches.now c.loop-place.watches c.loop-place.invariant.0 c.requires.within c.in_default.ensures.none
