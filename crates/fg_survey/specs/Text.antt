-- The text of a survey, in lines or, line for line, as JSON objects (RFC 8259). This project's own.
use Rattle.std.specs.Prelude.{ℕ, ◌+◌, ◌-◌, ◌*◌, ◌==◌, Bool, true, false, if◌then◌else◌, List, [], ◌∷◌, ◌++◌, codes, length, max, min, zip}
use Rattle.std.specs.Fmt.{decimal}
use Rattle.std.specs.List.{flat_map, range_with_len}
use Rattle.fg_report.specs.declared.tail.Tail.{Tail}
use Rattle.fg_report.specs.declared.tail.Tail.TheVariants.{Ended, Cut, TooLong}
use Rattle.fg_streams.specs.declared.bursts.Burst.{Burst}
use Rattle.fg_streams.specs.declared.bursts.Lengths.{Lengths}
use Rattle.fg_streams.specs.declared.pace.Pace.{Pace}
use Rattle.fg_streams.specs.Fates.{expected_in, first_in}
use Rattle.fg_streams.specs.Summary.{Summary, summary_of}
use Rattle.fg_streams.specs.Pace.{microseconds}
use Rattle.fg_survey.specs.declared.rows.Row.{Row}
use Rattle.fg_survey.specs.declared.senders.Sender.{Sender}
use Rattle.fg_survey.specs.declared.tally.Matrix.{Matrix}
use Rattle.fg_survey.specs.declared.totals.Totals.{Totals}
use Rattle.fg_survey.specs.Heard.{Heard}
use Rattle.fg_survey.specs.Matrix.{Protection, columns_on, has_stream, matrix_of, rows_on}
use Rattle.fg_survey.specs.Rows.{ports, row_of}
use Rattle.fg_survey.specs.Senders.{arrivals_of, senders_of, unlisted}
use Rattle.fg_survey.specs.Totals.{first_time, totals_of}

-- What a line is about.
abbrev pub opening : Bool → List ℕ → List ℕ
opening false kind = kind
opening true kind = codes "{\"kind\":\"" ++ kind ++ codes "\""

-- A port, which has no name in a line.
abbrev pub subject : Bool → ℕ → List ℕ
subject false port = codes " " ++ decimal port
subject true port = codes ",\"port\":" ++ decimal port

-- A name and its number.
abbrev pub named : Bool → List ℕ → ℕ → List ℕ
named false name number = codes " " ++ name ++ codes " " ++ decimal number
named true name number = codes ",\"" ++ name ++ codes "\":" ++ decimal number

abbrev pub all_named : Bool → List (List ℕ × ℕ) → List ℕ
all_named json counts = flat_map (λ (name, number). named json name number) counts

abbrev pub closing : Bool → List ℕ
closing false = codes "\n"
closing true = codes "}\n"

-- A line of counts, and one of counts on a port.
abbrev pub line : Bool → List ℕ → List (List ℕ × ℕ) → List ℕ
line json kind counts = opening json kind ++ all_named json counts ++ closing json

unfoldable pub port_line : Bool → List ℕ → ℕ → List (List ℕ × ℕ) → List ℕ
port_line json kind port counts = opening json kind ++ subject json port ++ all_named json counts ++ closing json

-- The trace.
unfoldable pub trace_line : Bool → Totals → List ℕ
trace_line json totals =
    line json (codes "trace")
    ((codes "records", totals.records)
    ∷ (codes "bytes", totals.bytes)
    ∷ (codes "span", totals.greatest - totals.least)
    ∷ (codes "backward", totals.backward)
    ∷ [])

-- What is told of a port. Times are told from the first record's on, and one before it is 0.
unfoldable pub row_counts : ℕ → Row → List (List ℕ × ℕ)
row_counts start row =
    (codes "records", row.records)
    ∷ (codes "bytes", row.bytes)
    ∷ (codes "first", row.first - start)
    ∷ (codes "last", row.last - start)
    ∷ (codes "media", row.media)
    ∷ (codes "parity", row.parity)
    ∷ (codes "other", row.records - row.media - row.parity)
    ∷ []

-- A port, where it has a record.
unfoldable pub row_line : Bool → ℕ → ℕ → Row → List ℕ
row_line json start port row = if row.records == 0 then [] else port_line json (codes "port") port (row_counts start row)

-- What is told of a stream.
unfoldable pub stream_counts : Sender → Summary → List (List ℕ × ℕ)
stream_counts sender summary =
    (codes "ssrc", sender.ssrc)
    ∷ (codes "first", first_in summary.span)
    ∷ (codes "expected", expected_in summary.span)
    ∷ (codes "received", summary.counts.received)
    ∷ (codes "lost", expected_in summary.span - summary.counts.received)
    ∷ (codes "duplicate", summary.counts.duplicate)
    ∷ (codes "late", summary.counts.late)
    ∷ (codes "reordered", summary.counts.reordered)
    ∷ (codes "deepest", summary.counts.deepest)
    ∷ (codes "jumps", summary.counts.jumps)
    ∷ (codes "pids", summary.pids)
    ∷ []

-- Of its bursts by their lengths.
unfoldable pub lengths_counts : Sender → Lengths → List (List ℕ × ℕ)
lengths_counts sender lengths =
    zip
    (codes "ssrc" ∷ codes "runs" ∷ codes "1" ∷ codes "2" ∷ codes "4" ∷ codes "8" ∷ codes "16" ∷ codes "32" ∷ codes "more" ∷ [])
    (sender.ssrc ∷ lengths.runs ∷ lengths.one ∷ lengths.two ∷ lengths.four ∷ lengths.eight ∷ lengths.sixteen ∷ lengths.thirty_two
    ∷ lengths.more ∷ [])

-- Of one of the longest.
unfoldable pub burst_counts : ℕ → Sender → Burst → List (List ℕ × ℕ)
burst_counts start sender burst =
    (codes "ssrc", sender.ssrc)
    ∷ (codes "slot", burst.slot)
    ∷ (codes "length", burst.length)
    ∷ (codes "at", burst.at - start)
    ∷ []

abbrev pub burst_line : Bool → ℕ → Sender → Burst → List ℕ
burst_line json start sender burst = port_line json (codes "burst") sender.port (burst_counts start sender burst)

-- Of its jitter, the last and the greatest, and of its longest silence.
unfoldable pub pace_counts : ℕ → Sender → Pace → List (List ℕ × ℕ)
pace_counts start sender pace =
    (codes "ssrc", sender.ssrc)
    ∷ (codes "last", microseconds pace.jitter)
    ∷ (codes "most", microseconds pace.most)
    ∷ (codes "silence", pace.silence.length)
    ∷ (codes "at", pace.silence.since - start)
    ∷ []

abbrev pub stream_lines : Bool → ℕ → Sender → Summary → List ℕ
stream_lines json start sender summary =
    port_line json (codes "stream") sender.port (stream_counts sender summary)
    ++ port_line json (codes "bursts") sender.port (lengths_counts sender summary.lengths)
    ++ flat_map (burst_line json start sender) summary.longest
    ++ port_line json (codes "jitter") sender.port (pace_counts start sender summary.pace)

-- What is told of the matrix that a sender's parity shows.
unfoldable pub matrix_counts : Matrix → List (List ℕ × ℕ)
matrix_counts m =
    (codes "columns", m.columns) ∷ (codes "rows", m.rows) ∷ (codes "same", m.same) ∷ (codes "other", m.other) ∷ (codes "lag", m.lag)
    ∷ []

unfoldable pub matrix_line : Bool → ℕ → Matrix → List ℕ
matrix_line json port m = port_line json (codes "matrix") port (matrix_counts m)

-- What to give to a repair.
unfoldable pub words_line : Bool → ℕ → ℕ → ℕ → List ℕ
words_line false port window depth =
    codes "words flow=" ++ decimal port ++ codes " window=" ++ decimal window ++ codes " depth=" ++ decimal depth ++ codes "\n"
words_line true port window depth =
    line true (codes "words") ((codes "flow", port) ∷ (codes "window", window) ∷ (codes "depth", depth) ∷ [])

-- A matrix's positions, or a row's where it has no rows, and 100 at most.
abbrev pub window_of : Matrix → ℕ
window_of m = min 100 (if m.rows == 0 then m.columns else m.columns * m.rows)

-- A window, and as far as parity comes behind and datagrams out of order, and 1,000 at most.
abbrev pub depth_of : Matrix → ℕ → ℕ
depth_of m deepest = min 1000 (window_of m + m.lag + deepest + 1)

-- How far behind the top the deepest of a port's streams comes.
abbrev pub deepest_in : ℕ → List Heard → List Sender → ℕ
deepest_in port heard [] = 0
deepest_in port heard (s ∷ senders) =
    max (if s.port == port then (summary_of (arrivals_of s heard)).counts.deepest else 0) (deepest_in port heard senders)

abbrev pub matrix_lines : Bool → ℕ → ℕ → Matrix → List ℕ
matrix_lines json port deepest m = matrix_line json port m ++ words_line json port (window_of m) (depth_of m deepest)

abbrev pub matrix_text : Bool → ℕ → ℕ → List Protection → List Protection → List ℕ
matrix_text json port deepest columns rows =
    (if length columns + length rows == 0 then [] else matrix_lines json port deepest (matrix_of columns rows))

-- A port has both lines where it has a stream and parity.
abbrev pub port_matrix : Bool → List Heard → ℕ → List ℕ
port_matrix json heard port =
    (if has_stream (senders_of heard) port
    then matrix_text json port (deepest_in port heard (senders_of heard)) (columns_on port heard) (rows_on port heard)
    else [])

-- How many media datagrams are of streams that aren't told.
unfoldable pub more_line : Bool → ℕ → List ℕ
more_line json count = if count == 0 then [] else line json (codes "more") ((codes "streams", count) ∷ [])

-- How the trace ended.
abbrev pub ended_line : Bool → List ℕ
ended_line false = codes "tail ended\n"
ended_line true = codes "{\"kind\":\"tail\",\"end\":\"ended\"}\n"

abbrev pub early_line : Bool → List ℕ → ℕ → List ℕ
early_line false end place = codes "tail " ++ end ++ codes " at byte " ++ decimal place ++ closing false
early_line true end place =
    codes "{\"kind\":\"tail\",\"end\":\"" ++ end ++ codes "\",\"byte\":" ++ decimal place ++ closing true

abbrev pub tail_line : Bool → Tail → List ℕ
tail_line json Ended = ended_line json
tail_line json (Cut place) = early_line json (codes "cut") place
tail_line json (TooLong place) = early_line json (codes "too long") place

-- The lines of all rows, whose ports are counted from this one on.
abbrev pub rows_text : Bool → ℕ → ℕ → List Row → List ℕ
rows_text json start port [] = []
rows_text json start port (row ∷ rows) = row_line json start port row ++ rows_text json start (port + 1) rows

-- The lines of streams, each of its sender.
abbrev pub streams_text : Bool → ℕ → List Sender → List Summary → List ℕ
streams_text json start [] summaries = []
streams_text json start (sender ∷ senders) [] = []
streams_text json start (sender ∷ senders) (summary ∷ summaries) =
    stream_lines json start sender summary ++ streams_text json start senders summaries

abbrev pub port_text : Bool → List Heard → ℕ → List ℕ
port_text json heard port = row_line json (first_time heard) port (row_of heard port)

abbrev pub stream_text : Bool → List Heard → Sender → List ℕ
stream_text json heard sender = stream_lines json (first_time heard) sender (summary_of (arrivals_of sender heard))

-- The text of what was heard in a trace that ends so.
abbrev pub survey_text : Bool → List Heard → Tail → List ℕ
survey_text json heard tail =
    trace_line json (totals_of heard)
    ++ flat_map (port_text json heard) (range_with_len 0 ports)
    ++ flat_map (stream_text json heard) (senders_of heard)
    ++ flat_map (port_matrix json heard) (range_with_len 0 ports)
    ++ more_line json (unlisted heard)
    ++ tail_line json tail
