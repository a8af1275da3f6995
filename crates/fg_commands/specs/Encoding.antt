-- What `encode` is for: this project's own.
use Rattle.std.specs.Prelude.{ℕ}
use Rattle.fg_shape.specs.declared.encoding.Settings.{Settings}
use Rattle.fg_encode.specs.Encode.{Encodes, EncodesPart}
use Rattle.fg_commands.specs.Filter.{Filter, of_stream}

-- The stream is encoded, and the answer is that of its ending.
abbrev pub encoding : Settings → ℕ → Filter
encoding settings max = of_stream settings.packets max (Encodes settings max) (EncodesPart settings max)
