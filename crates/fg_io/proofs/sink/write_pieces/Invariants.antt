use Rattle.std.proofs.Common.{◌≡◌, take}
use Rattle.std.specs.List.{flat_map}
use Rattle.fg_io.specs.Sink.{Gains}
use Rattle.fg_io.proofs.sink.write_pieces.Given as goal

abbrev pub invariant-loop-piece : goal.invariant-loop-piece
invariant-loop-piece g l = record {
  gained : Gains (g.K.Sink.written l.initial.sink) (flat_map (λ piece. piece.now) (take l.piece-index l.pieces)) (g.K.Sink.written l.sink);
  faults : g.K.Sink.faults l.sink ≡ g.K.Sink.faults l.initial.sink;
}
