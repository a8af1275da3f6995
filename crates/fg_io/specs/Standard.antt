-- A reader as a source and a writer as a sink: this project's own rule.
use Rattle.std.specs.Prelude.{ℕ}
use Rattle.fg_io.specs.declared.standard.ReaderSource.{ReaderSource}
use Rattle.fg_io.specs.declared.standard.WriterSink.{WriterSink}

-- the reader whose bytes the source gives
abbrev pub source_reader : {R C : Type 0} → ReaderSource R C → R
source_reader source = source.reader

-- how many faults the source has counted
abbrev pub source_faults : {R C : Type 0} → ReaderSource R C → ℕ
source_faults source = source.faults

-- the writer that has what the sink takes
abbrev pub sink_writer : {W C : Type 0} → WriterSink W C → W
sink_writer sink = sink.writer

-- how many faults the sink has counted
abbrev pub sink_faults : {W C : Type 0} → WriterSink W C → ℕ
sink_faults sink = sink.faults
