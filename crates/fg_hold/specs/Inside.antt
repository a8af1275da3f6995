-- The state that the fields make.
use Rattle.fg_hold.specs.declared.Waiting.TheInside.{Inside}
use Rattle.fg_hold.specs.Waiting.{WaitingState}

abbrev pub state_of : Inside → WaitingState
state_of a = record {
  hold = a.hold;
  clock = a.clock;
  came = a.came;
  highs = a.highs;
  first = a.first;
  next = a.next;
  high_end = a.high_end;
  held_end = a.held_end;
  earliest_held = a.earliest_held;
}
