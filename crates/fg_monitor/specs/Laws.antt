-- What shows that the definitions of a stream's faults and of their text are right.
use Rattle.std.specs.Prelude.{◌≡◌, ◌<◌, ◌++◌, ◌↔◌, ℕ, Option, List, length}
use Rattle.fg_encode.specs.Stream.{StreamEnding}
use Rattle.fg_monitor.specs.declared.continuity.Break.{Break}
use Rattle.fg_monitor.specs.Continuity.{IsToldOf}
use Rattle.fg_monitor.specs.Text.{IsText}

-- Of a packet there is one thing to tell.
abbrev pub OneToTell : Type 0
OneToTell =
    (packets : List (List ℕ)) (i : ℕ) (one other : Option Break) → IsToldOf packets i one → IsToldOf packets i other → one ≡ other

-- Packets that come later change nothing of it.
abbrev pub LaterChangesNothing : Type 0
LaterChangesNothing =
    (packets later : List (List ℕ)) (i : ℕ) (told : Option Break) → i < length packets
    → IsToldOf packets i told ↔ IsToldOf (packets ++ later) i told

-- A stream has one text.
abbrev pub OneText : Type 0
OneText =
    (packets : List (List ℕ)) (ending : StreamEnding) (one other : List ℕ)
    → IsText packets ending one → IsText packets ending other → one ≡ other
