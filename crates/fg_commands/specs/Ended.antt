-- How a call of the program ends: statuses and fault lines. They are this project's own.
use Rattle.std.specs.Prelude.{◌≡◌, ℕ, Option, List, [], ◌++◌, ◌⊎◌, codes, ⊤}
use Rattle.std.specs.Fmt.{decimal}
use Rattle.fg_io.specs.Faults.{CountsFault}
use Rattle.fg_io.specs.Sink.{Gains, GainsPart}
use Rattle.fg_ts.specs.declared.TsFault.TheVariants as packets
use Rattle.fg_shape.specs.declared.layouts.LayoutFault.{LayoutFault}
use Rattle.fg_shape.specs.declared.layouts.LayoutFault.TheVariants as layout
use Rattle.fg_flows.specs.declared.FlowFault.{FlowFault}
use Rattle.fg_flows.specs.declared.FlowFault.TheVariants as flow
use Rattle.fg_cli.specs.declared.Name.{Name}
use Rattle.fg_cli.specs.declared.Name.TheVariants as name
use Rattle.fg_cli.specs.declared.WordFault.{WordFault}
use Rattle.fg_cli.specs.declared.WordFault.TheVariants as word
use Rattle.fg_commands.specs.declared.ended.Why.{Why}
use Rattle.fg_commands.specs.declared.ended.Why.TheVariants.{Done, Words, ReadFault, WriteFault, NotTrace, Cut, TooLong, Memory, NotTransport, NotCapture, Unfit, Unproved, NotCase}

-- The exit status.
abbrev pub status_of : Why → ℕ
status_of Done = 0
status_of (Words fault) = 1
status_of ReadFault = 2
status_of WriteFault = 3
status_of (NotTrace n) = 4
status_of (Cut n) = 4
status_of (TooLong n) = 5
status_of Memory = 6
status_of (NotTransport fault) = 7
status_of (NotCapture n) = 8
status_of (Unfit k) = 8
status_of (Unproved i) = 10
status_of (NotCase n) = 11

-- A fault of the outside, or want of memory.
abbrev pub IsFault : Why → Type 0
IsFault Done = ⊥
IsFault (Words fault) = ⊥
IsFault ReadFault = ⊤
IsFault WriteFault = ⊤
IsFault (NotTrace n) = ⊥
IsFault (Cut n) = ⊥
IsFault (TooLong n) = ⊥
IsFault Memory = ⊤
IsFault (NotTransport fault) = ⊥
IsFault (NotCapture n) = ⊥
IsFault (Unfit k) = ⊥
IsFault (Unproved i) = ⊥
IsFault (NotCase n) = ⊥

-- A name as it is spelled in the words.
abbrev pub name_text : Name → List ℕ
name_text name.Flow = codes "flow"
name_text name.Columns = codes "columns"
name_text name.Rows = codes "rows"
name_text name.Seed = codes "seed"
name_text name.Burst = codes "burst"
name_text name.Most = codes "most"

-- The rules of a layout, by number.
abbrev pub layout_number : LayoutFault → ℕ
layout_number layout.Columns = 1
layout_number layout.Rows = 2
layout_number layout.Product = 3
layout_number layout.RowsNeedFour = 4

-- The lines of words that break a rule. Where the rule is one of a single flow, the flow is told by its number among the
-- flows, from 0.
abbrev pub flows_line : FlowFault → List ℕ
flows_line flow.NoFlow = codes "words: flows 1\n"
flows_line flow.TooMany = codes "words: flows 2\n"
flows_line (flow.Port i) = codes "words: flows 3 at " ++ decimal i ++ codes "\n"
flows_line (flow.Clash i) = codes "words: flows 4 at " ++ decimal i ++ codes "\n"

abbrev pub words_line : WordFault → List ℕ
words_line word.NoCommand = codes "words: no command\n"
words_line (word.BadWord i) = codes "words: bad word " ++ decimal i ++ codes "\n"
words_line (word.Missing name) = codes "words: missing " ++ name_text name ++ codes "\n"
words_line (word.Depth i) = codes "words: depth below window at word " ++ decimal i ++ codes "\n"
words_line (word.Layout fault) = codes "words: layout " ++ decimal (layout_number fault) ++ codes "\n"
words_line (word.Flows fault) = flows_line fault

-- The line on the error sink; there is none where all was done.
abbrev pub fault_line : Why → List ℕ
fault_line Done = []
fault_line (Words fault) = words_line fault
fault_line ReadFault = codes "read fault\n"
fault_line WriteFault = codes "write fault\n"
fault_line (NotTrace n) = codes "not a trace at byte " ++ decimal n ++ codes "\n"
fault_line (Cut n) = codes "cut at byte " ++ decimal n ++ codes "\n"
fault_line (TooLong n) = codes "too long at byte " ++ decimal n ++ codes "\n"
fault_line Memory = codes "no memory\n"
fault_line (NotTransport (packets.Ragged n)) = codes "not transport: length " ++ decimal n ++ codes "\n"
fault_line (NotTransport (packets.NoSync k)) = codes "not transport: packet " ++ decimal k ++ codes "\n"
fault_line (NotCapture n) = codes "not a capture at byte " ++ decimal n ++ codes "\n"
fault_line (Unfit k) = codes "record " ++ decimal k ++ codes " does not fit a capture\n"
fault_line (Unproved i) = codes "unproved case " ++ decimal i ++ codes "\n"
fault_line (NotCase n) = codes "not a case at line " ++ decimal n ++ codes "\n"

-- The error sink has gained the line and counted no fault, or a prefix of it and counted one.
abbrev pub TellsFault : Why → Option (List ℕ) → ℕ → Option (List ℕ) → ℕ → Type 0
TellsFault why before faults after faults' =
    (Gains before (fault_line why) after × (faults' ≡ faults))
    ⊎ (GainsPart before (fault_line why) after × CountsFault faults faults')
