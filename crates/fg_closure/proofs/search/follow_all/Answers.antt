use Rattle.std.proofs.Common.{arith}
use Rattle.fg_closure.proofs.Watching.{watched_but, nothing_follows, fewer_queued, taken_size}
use Rattle.fg_closure.proofs.search.follow_all.Goals as goal

pub look_at-requires-clause-queue : goal.look_at-requires-clause-queue
look_at-requires-clause-queue c = taken_size c.in-Some.place c.loop-place.watches c.next.new.self c.in-Some.ensures.some

pub look_at-requires-clause-flags : goal.look_at-requires-clause-flags
look_at-requires-clause-flags c = rw c.loop-place.auto.flags c.requires.flags

pub look_at-requires-clause-watched : goal.look_at-requires-clause-watched
look_at-requires-clause-watched c =
    watched_but c.args.first c.in-Some.place c.args.lines.now c.loop-place.watches c.next.new.self c.loop-place.flags c.in-Some.ensures.some
    c.loop-place.invariant.watched

pub loop-place-smaller : goal.loop-place-smaller
loop-place-smaller c =
    let fewer = fewer_queued c.in-Some.place c.loop-place.flags c.loop-place.watches c.next.new.self c.in-Some.ensures.some in
    omega (arith, fewer, c.look_at.ensures.left)

pub loop-place-preserved : goal.loop-place-preserved
loop-place-preserved c = record {
  watched = c.look_at.ensures.watched;
  way = λ desk before. c.look_at.ensures.way desk (c.loop-place.invariant.way desk before);
}

pub returns-clause-done : goal.returns-clause-done
returns-clause-done c =
    nothing_follows c.args.first c.args.lines.now c.loop-place.watches c.loop-place.flags c.in_default.ensures.none.1 c.loop-place.invariant.watched
