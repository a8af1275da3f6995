use Rattle.std.proofs.Common.{refl, ap}
use Rattle.fg_desk.specs.Inside.{contents_of}
use Rattle.fg_desk.proofs.DeskOpened.{first_parts_are, first_sound, first_timed}
use Rattle.fg_buffer.specs.PlayoutBuffer.{buffer_words}
use Rattle.fg_desk.proofs.WatchedLines.{none_watched}
use Rattle.fg_desk.proofs.desk.Desk.joined.Goals as goal

pub invariant_of-result : goal.invariant_of-result
invariant_of-result c = record {
  sound = first_sound c.args.window c.args.depth c.args.waiting.hold c.args.waiting c.args.buffer c.args.lines refl
      c.requires.clock c.requires.since c.requires.waits c.requires.buffer c.requires.lines
      c.requires.window.0 c.requires.window.1 c.requires.depth.0 c.requires.depth.1;
  timed = first_timed c.args.window c.args.depth c.args.waiting.hold c.args.waiting c.args.buffer c.args.lines refl
      c.requires.clock c.requires.since c.requires.waits c.requires.buffer c.requires.lines;
  watched = none_watched c.args.watches (buffer_words c.args.buffer) c.args.lines c.requires.lines;
}

pub returns : goal.returns
returns c =
    ap contents_of
    (first_parts_are c.args.window c.args.depth c.args.waiting.hold c.args.waiting c.args.buffer c.args.lines refl
    c.requires.clock c.requires.since c.requires.waits c.requires.buffer c.requires.lines)
