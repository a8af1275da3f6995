-- What a source of bytes gives: this project's own rule.
use Rattle.std.specs.Prelude.{◌≡◌, ℕ, Option, List}
use Rattle.std.specs.Io.KnownBytes.{prepend_known}

-- what was left is what was given, and then what is left now; a source that doesn't tell goes on not telling
abbrev pub Gives : Option (List ℕ) → List ℕ → Option (List ℕ) → Type 0
Gives before given after = before ≡ prepend_known given after
