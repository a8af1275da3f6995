-- What is sent of an encoding arrives as true datagrams. This project's own.
use Rattle.std.specs.Prelude.{◌≡◌, ◌*◌, ◌≤◌, ◌%◌, ◌^◌, ℕ, Bool, List, length, nat_lt, Option, Some, None, if◌then◌else◌}
use Rattle.std.specs.List.{AllZip}
use Rattle.fg_words.specs.declared.Word.{Word}
use Rattle.fg_shape.specs.declared.encoding.Settings.{Settings}
use Rattle.fg_trace.specs.Trace.{Record}
use Rattle.fg_peel.specs.Equation.{AreMedia}
use Rattle.fg_playout.specs.Run.{Arrival}
use Rattle.fg_shape.specs.Settings.{CanEncode}
use Rattle.fg_encode.specs.Encoding.{encoding, word_at}
use Rattle.fg_encode.specs.Payloads.{total_length, ArePayloads}
use Rattle.fg_results.specs.Flow.{Arrives, records_of}
use Rattle.fg_thin.specs.Thinned.{AreFew, thinned}
use Rattle.fg_drill.specs.True.{AreInFull, AreTrueArrivals}

-- The SSRC of an encoding's datagrams, all of which have the same: it has 32 bits (RFC 3550).
abbrev pub source_sent : Settings → ℕ
source_sent settings = settings.ssrc % 2 ^ 32

-- The true words of an encoding: each payload's, at its slot.
abbrev pub words_sent : Settings → List (List ℕ) → ℕ → Option Word
words_sent settings payloads slot =
    if nat_lt slot (length payloads) then Some (word_at settings payloads slot) else None

-- They are media words.
abbrev pub SentWordsAreMedia : Type 0
SentWordsAreMedia =
    (settings : Settings) (payloads : List (List ℕ)) → CanEncode settings → ArePayloads settings.packets payloads
    → AreMedia (words_sent settings payloads)

-- The records of a thinned encoding arrive as true datagrams.
abbrev pub SentRecordsAreTrue : Type 0
SentRecordsAreTrue =
    (settings : Settings) (payloads : List (List ℕ)) (lost : ℕ → Bool) (arrivals : List Arrival)
    → CanEncode settings → ArePayloads settings.packets payloads → AreFew settings.layout (length payloads) lost
    → AllZip (Arrives settings.port) (records_of settings.port (thinned settings lost payloads)) arrivals
    → AreTrueArrivals settings.seq (source_sent settings) (words_sent settings payloads) None arrivals

-- For each payload at most three arrive: its own, and the parity of a column and of a row. Each payload has a packet at
-- least.
abbrev pub FewArrive : Type 0
FewArrive =
    (settings : Settings) (payloads : List (List ℕ)) (lost : ℕ → Bool) (arrivals : List Arrival)
    → CanEncode settings → ArePayloads settings.packets payloads
    → AllZip (Arrives settings.port) (records_of settings.port (thinned settings lost payloads)) arrivals
    → (length arrivals ≤ 3 * length payloads) × (188 * length payloads ≤ total_length payloads)

-- The records of a flow arrive in one way.
abbrev pub ArriveOneWay : Type 0
ArriveOneWay =
    (flow : ℕ) (records : List Record) (one other : List Arrival)
    → AllZip (Arrives flow) (records_of flow records) one → AllZip (Arrives flow) (records_of flow records) other
    → one ≡ other

-- All records of an encoding arrive, and so none of its media datagrams is missing.
abbrev pub AllRecordsArrive : Type 0
AllRecordsArrive =
    (settings : Settings) (payloads : List (List ℕ)) → CanEncode settings → ArePayloads settings.packets payloads
    → (arrivals : List Arrival)
    × AllZip (Arrives settings.port) (records_of settings.port (encoding settings payloads)) arrivals
    × AreInFull settings.seq (source_sent settings) (length payloads) 0 arrivals
