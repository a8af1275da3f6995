-- The fields of a desk as its parts.
use Rattle.std.specs.Prelude.{option_map}
use Rattle.fg_desk.specs.declared.desk.Farthest.{Farthest}
use Rattle.fg_desk.specs.declared.desk.Desk.TheInside.{Inside}
use Rattle.fg_playout.specs.State.{Top}
use Rattle.fg_desk.specs.Inside.{Parts, AreSound}
use Rattle.fg_desk.specs.Holding.{AreTimed, times_in}
use Rattle.fg_desk.specs.Watched.{EachWatched}
use Rattle.fg_buffer.specs.PlayoutBuffer.{buffer_words}

-- The farthest datagram as a state has it.
abbrev pub top_of : Farthest → Top
top_of farthest = record { position = farthest.position; seq = farthest.seq; ssrc = farthest.ssrc }

abbrev pub parts_of : Inside → Parts
parts_of a = record {
  playout = record { window = a.window; depth = a.depth; hold = a.waiting.hold };
  top = option_map top_of a.top;
  previous = a.previous;
  origin = a.origin;
  runs = a.runs;
  buffer = a.buffer;
  clock = a.waiting.clock;
  times = times_in a.waiting a.buffer.media;
  lines = a.lines;
  admitted = a.admitted;
  calls = a.calls;
  epoch = a.epoch;
}

-- What holds of the fields between calls.
pub record IsDesk (a : Inside) : Type 0 where
  pub sound : AreSound (parts_of a)
  pub timed : AreTimed a.waiting a.buffer.mark a.buffer.media
  pub watched : EachWatched a.watches (buffer_words a.buffer) a.lines
