-- The case of a desk has a text.
use Rattle.std.specs.Prelude.{◌<◌, ◌≤◌, ◌^◌, ℕ}
use Rattle.fg_playout.specs.State.{State}
use Rattle.fg_playout.specs.Facts.{Holds}
use Rattle.fg_playout.specs.Room.{HasRoom}
use Rattle.fg_proof.specs.declared.case.Case.{Case}
use Rattle.fg_proof.specs.Case.{IsCase}
use Rattle.fg_proof.specs.Text.{IsWritable}

-- The case of a desk of which the facts hold has a text, for every depth and window that may be set: its numbers fit their
-- fields, and it has no more lines than a text may have.
abbrev pub CasesAreWritable : Type 0
CasesAreWritable =
    (port count : ℕ) (desk : State) (case : Case) → Holds desk → HasRoom desk → desk.playout.depth ≤ 1000 → count ≤ 100
    → port < 2 ^ 16 → IsCase port desk count case → IsWritable case
