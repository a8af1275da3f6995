-- Laws of the payloads that a stream is cut into, as a function of its bytes.
use Rattle.std.specs.Prelude.{◌≡◌, ◌≤◌, ℕ, List, ◌++◌}
use Rattle.fg_encode.specs.Stream.{AreFirst, IsCut, StreamEnding}
use Rattle.fg_thin.specs.Payloads.{payloads_of}

-- A stream that is cut into payloads has these as its payloads.
abbrev pub CutPayloads : Type 0
CutPayloads =
    (packets max : ℕ) (bytes : List ℕ) (payloads : List (List ℕ)) (ending : StreamEnding)
    → 1 ≤ packets → IsCut packets max bytes payloads ending → payloads_of packets max bytes ≡ payloads

-- Every stream is cut into its payloads.
abbrev pub HasCut : Type 0
HasCut =
    (packets max : ℕ) (bytes : List ℕ)
    → 1 ≤ packets → (ending : StreamEnding) × IsCut packets max bytes (payloads_of packets max bytes) ending

-- First payloads are the first of them.
abbrev pub FirstPayloads : Type 0
FirstPayloads =
    (packets max : ℕ) (bytes : List ℕ) (payloads : List (List ℕ))
    → 1 ≤ packets → AreFirst packets max bytes payloads
    → (more : List (List ℕ)) × (payloads_of packets max bytes ≡ payloads ++ more)
