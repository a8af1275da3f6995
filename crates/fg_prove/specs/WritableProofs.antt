-- Each case of a proof has a text.
use Rattle.std.specs.Prelude.{◌<◌, ◌^◌, ℕ, List, length, All}
use Rattle.fg_trace.specs.Trace.{Record}
use Rattle.fg_shape.specs.Playout.{Playout, PlayoutFits}
use Rattle.fg_proof.specs.declared.case.Case.{Case}
use Rattle.fg_proof.specs.Text.{IsWritable}
use Rattle.fg_prove.specs.Proved.{AreProved}

-- So it is with the cases that records give a flow, for every playout that may be set, where a flow is named by a port and the
-- records are fewer than 2^43.
abbrev pub ProvedCasesAreWritable : Type 0
ProvedCasesAreWritable =
    (playout : Playout) (records : List Record) (flow : ℕ) (cases : List Case) → PlayoutFits playout → flow < 2 ^ 16
    → length records < 2 ^ 43 → AreProved playout records flow cases → All IsWritable cases
