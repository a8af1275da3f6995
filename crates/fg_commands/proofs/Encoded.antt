-- Where nothing was encoded, what is written is a part, as it was.
use Rattle.std.proofs.Common.{ℕ, List, Option, None, Some}
use Rattle.fg_io.specs.Laws.{NoneIsPart}
use Rattle.fg_shape.specs.declared.encoding.Settings.{Settings}
use Rattle.fg_trace.specs.Trace.{trace_of}
use Rattle.fg_encode.specs.Encode.{EncodesPart}
use Rattle.fg_encode.specs.Encoding.{encoding as encoded}
use Rattle.fg_commands.specs.Encoding.{encoding}
use Rattle.fg_commands.specs.Filter.{filter}
use Rattle.fg_commands.proofs.Lawful.{Lawful}
use Rattle.fg_commands.proofs.Streams.{stream_lawful}

none_encoded : NoneIsPart → (settings : Settings) (max : ℕ) (input written : Option (List ℕ)) → EncodesPart settings max input written written
none_encoded none settings max None written = tt
none_encoded none settings max (Some bytes) written = λ payloads end cut. none written (trace_of (encoded settings payloads))

pub lawful : NoneIsPart → (settings : Settings) (max : ℕ) → Lawful (filter (encoding settings max))
lawful none settings max = stream_lawful settings.packets max _ (EncodesPart settings max) (none_encoded none settings max)
