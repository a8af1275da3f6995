-- What a sink for bytes gains: this project's own rule.
use Rattle.std.specs.Prelude.{◌≡◌, ℕ, Option, List}
use Rattle.std.specs.Io.KnownBytes.{append_known}
use Rattle.fg_io.specs.Prefix.{IsPrefix}

-- what is written is what was written, and then the piece; a sink that doesn't tell goes on not telling
abbrev pub Gains : Option (List ℕ) → List ℕ → Option (List ℕ) → Type 0
Gains before piece after = after ≡ append_known before piece

-- a prefix of the piece was written
abbrev pub GainsPart : Option (List ℕ) → List ℕ → Option (List ℕ) → Type 0
GainsPart before piece after = (part : List ℕ) × IsPrefix part piece × Gains before part after
