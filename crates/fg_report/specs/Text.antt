-- The report: exactly the text that a run of the gateway prints. This project's own.
use Rattle.std.specs.Prelude.{ℕ, List, [], ◌∷◌, ◌++◌, codes, nat_lt, if◌then◌else◌}
use Rattle.std.specs.Fmt.{decimal}
use Rattle.std.specs.List.{flat_map}
use Rattle.fg_report.specs.declared.marks.Marks.{Marks}
use Rattle.fg_report.specs.declared.flow_sum.FlowSum.{FlowSum}
use Rattle.fg_report.specs.declared.tail.Tail.{Tail}
use Rattle.fg_report.specs.declared.tail.Tail.TheVariants.{Ended, Cut, TooLong}

-- Names, each between blanks, and its number in decimal.
abbrev pub counts_text : List (List ℕ × ℕ) → List ℕ
counts_text counts = flat_map (λ (name, number). codes " " ++ name ++ codes " " ++ decimal number) counts

-- A line: what it is about, the flow's port, and the counts.
abbrev pub line_of : List ℕ → ℕ → List (List ℕ × ℕ) → List ℕ
line_of kind port counts = kind ++ codes " " ++ decimal port ++ counts_text counts ++ codes "\n"

-- What a flow's plays showed.
abbrev pub flow_counts : FlowSum → List (List ℕ × ℕ)
flow_counts flow =
    (codes "shown", flow.shown)
    ∷ (codes "repaired", flow.repaired)
    ∷ (codes "missing", flow.missing)
    ∷ (codes "windows", flow.windows)
    ∷ (codes "inconsistent", flow.inconsistent)
    ∷ []

-- The replies that media datagrams get, and how many their reader refused.
abbrev pub media_counts : Marks → List (List ℕ × ℕ)
media_counts marks =
    (codes "admitted", marks.admitted)
    ∷ (codes "duplicate", marks.duplicate)
    ∷ (codes "conflict", marks.conflict)
    ∷ (codes "late", marks.late)
    ∷ (codes "bad", marks.bad)
    ∷ []

-- The replies that parity datagrams get, and how many their reader refused.
abbrev pub parity_counts : Marks → List (List ℕ × ℕ)
parity_counts marks =
    (codes "admitted", marks.admitted)
    ∷ (codes "duplicate", marks.duplicate)
    ∷ (codes "conflict", marks.conflict)
    ∷ (codes "late", marks.late)
    ∷ (codes "notstarted", marks.not_started)
    ∷ (codes "beforestart", marks.before_start)
    ∷ (codes "ahead", marks.ahead)
    ∷ (codes "crowded", marks.crowded)
    ∷ (codes "bad", marks.bad)
    ∷ []

-- A flow's own line, that of its media datagrams, and that of its column or row parity datagrams.
unfoldable pub flow_line : FlowSum → List ℕ
flow_line flow = line_of (codes "flow") flow.port (flow_counts flow)

unfoldable pub media_line : ℕ → Marks → List ℕ
media_line port marks = line_of (codes "media") port (media_counts marks)

unfoldable pub parity_line : List ℕ → ℕ → Marks → List ℕ
parity_line kind port marks = line_of kind port (parity_counts marks)

-- The line of a flow whose sender was restarted: how many runs were begun, and how many datagrams came of the sender before the
-- current one. A flow of one run has none.
unfoldable pub runs_line : FlowSum → List ℕ
runs_line flow =
    (if nat_lt flow.runs 2 then [] else codes "runs " ++ decimal flow.port ++ codes " " ++ decimal flow.runs
    ++ codes " foreign " ++ decimal flow.media.foreign ++ codes "\n")

-- The line of a run of positions that show nothing: its first position, and how many they are.
unfoldable pub gap_line : ℕ → ℕ × ℕ → List ℕ
gap_line port gap =
    codes "gap " ++ decimal port ++ codes " " ++ decimal gap.0 ++ codes " " ++ decimal gap.1 ++ codes "\n"

-- The four lines that every flow has, and the one of its runs.
unfoldable pub flow_lines : FlowSum → List ℕ
flow_lines flow =
    flow_line flow
    ++ media_line flow.port flow.media
    ++ parity_line (codes "column") flow.port flow.column
    ++ parity_line (codes "row") flow.port flow.row
    ++ runs_line flow

-- All lines of a flow.
abbrev pub flow_text : FlowSum → List ℕ
flow_text flow = flow_lines flow ++ flat_map (gap_line flow.port) flow.gaps

-- The line of the records on a port of no flow.
unfoldable pub other_line : ℕ → List ℕ
other_line other = codes "other " ++ decimal other ++ codes "\n"

-- The line that says where the trace ended too early, if it did.
unfoldable pub tail_text : Tail → List ℕ
tail_text Ended = []
tail_text (Cut place) = codes "cut at byte " ++ decimal place ++ codes "\n"
tail_text (TooLong place) = codes "too long at byte " ++ decimal place ++ codes "\n"

-- The report of flows in their order, with the number of records on a port of no flow.
abbrev pub report_of : List FlowSum → ℕ → Tail → List ℕ
report_of flows other tail = flat_map flow_text flows ++ other_line other ++ tail_text tail
