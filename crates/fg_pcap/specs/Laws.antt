-- What shows that the definitions of captures are right.
use Rattle.std.specs.Prelude.{◌≡◌, ◌<◌, ◌≤◌, ◌^◌, ℕ, List, length}
use Rattle.std.specs.List.{AllByRecursion}
use Rattle.fg_trace.specs.Trace.{Record, Fits}
use Rattle.fg_pcap.specs.declared.ending.CaptureEnding.{CaptureEnding}
use Rattle.fg_pcap.specs.declared.ending.CaptureEnding.TheVariants.{Ended}
use Rattle.fg_pcap.specs.declared.writer.SpellingEnding.{SpellingEnding}
use Rattle.fg_pcap.specs.Checksum.{all_ones, sum_of_words, words_of}
use Rattle.fg_pcap.specs.Frame.{CapturedTrace, GivesDatagram}
use Rattle.fg_pcap.specs.FromCapture.{ComesTo}
use Rattle.fg_pcap.specs.Spelling.{FitsCapture, capture_of, ipv4_header}
use Rattle.fg_pcap.specs.ToCapture.{IsSpelled}

-- A frame gives at most one datagram.
abbrev pub OneDatagram : Type 0
OneDatagram = (frame : List ℕ) (port port' : ℕ) (payload payload' : List ℕ)
    → GivesDatagram frame port payload → GivesDatagram frame port' payload' → (port ≡ port') × (payload ≡ payload')

-- Bytes come to one trace, and to one ending.
abbrev pub OneCapture : Type 0
OneCapture = (bytes : List ℕ) (max : ℕ) (one other : List ℕ) (end end' : CaptureEnding)
    → ComesTo bytes max one end → ComesTo bytes max other end' → (one ≡ other) × (end ≡ end')

-- The words of each IPv4 header that is written, the checksum among them, sum up to all ones: the receiver's test of RFC
-- 1071.
abbrev pub HeadersCheck : Type 0
HeadersCheck = (total : ℕ) → total < 2 ^ 16 → sum_of_words (words_of (ipv4_header total)) ≡ all_ones

-- Of bytes one list of records is written, with one ending.
abbrev pub OneSpelling : Type 0
OneSpelling = (bytes : List ℕ) (max : ℕ) (one other : List Record) (end end' : SpellingEnding)
    → IsSpelled end bytes max one → IsSpelled end' bytes max other → (one ≡ other) × (end ≡ end')

-- The capture of records that all fit is read as the trace of those records, whatever limit it is within.
abbrev pub WrittenIsReadBack : Type 0
WrittenIsReadBack = (records : List Record) (max : ℕ)
    → AllByRecursion Fits records → AllByRecursion FitsCapture records → length (capture_of records) ≤ max
    → CapturedTrace (capture_of records) max records Ended
