use Rattle.fg_playout.specs.State.{State}
use Rattle.fg_closure.specs.Flags.{IsOnTheWay}
use Rattle.fg_closure.specs.Watched.{EachIsWatched, left_to_look}
use Rattle.fg_closure.proofs.search.follow_all.Given as goal

abbrev pub invariant-loop-place : goal.invariant-loop-place
invariant-loop-place l = record {
  watched : EachIsWatched l.first l.lines l.watches l.flags;
  way : (desk : State) → IsOnTheWay desk l.first l.lines l.initial.flags → IsOnTheWay desk l.first l.lines l.flags;
}

abbrev pub decreases-loop-place : goal.decreases-loop-place
decreases-loop-place l = left_to_look l.flags l.watches
