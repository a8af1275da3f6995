-- What a survey tells of an encoding of which records were left out. This project's own.
use Rattle.std.specs.Prelude.{◌≡◌, ◌+◌, ◌-◌, ◌++◌, ℕ, Bool, not, List, Option, count_by, length}
use Rattle.std.specs.List.{flat_map, range_with_len}
use Rattle.fg_io.specs.Sink.{Gains}
use Rattle.fg_shape.specs.declared.layouts.Layout.{Layout}
use Rattle.fg_shape.specs.declared.encoding.Settings.{Settings}
use Rattle.fg_report.specs.declared.tail.Tail.TheVariants.{Ended}
use Rattle.fg_streams.specs.Fates.{expected_in, first_in}
use Rattle.fg_streams.specs.Summary.{Summary, summary_of}
use Rattle.fg_survey.specs.declared.senders.Sender.{Sender}
use Rattle.fg_survey.specs.declared.tally.Matrix.{Matrix}
use Rattle.fg_survey.specs.Heard.{AreHeard, Heard}
use Rattle.fg_survey.specs.Matrix.{columns_on, matrix_of, rows_on}
use Rattle.fg_survey.specs.Rows.{ports}
use Rattle.fg_survey.specs.Senders.{arrivals_of}
use Rattle.fg_survey.specs.Text.{matrix_lines, port_text, stream_text, tail_line, trace_line}
use Rattle.fg_survey.specs.Totals.{totals_of}
use Rattle.fg_encode.specs.Encoding.{sequence_of}
use Rattle.fg_thin.specs.Thinned.{thinned}
use Rattle.fg_drill.specs.Covered.{is_gone}
use Rattle.fg_drill.specs.Sent.{source_sent}
use Rattle.fg_surveyed.specs.Left.{IsLeftTrace, LeavesColumn}

-- The one sender of an encoding.
abbrev pub encoder : Settings → Sender
encoder settings = record { port = settings.port; ssrc = source_sent settings }

-- The slots from the first to the last media record that are left.
abbrev pub slots_between : ℕ → ℕ → List ℕ
slots_between first last = range_with_len first (last - first + 1)

-- What its stream comes to: `lost` is the number of media records that are left out between the first and the last one left,
-- and the others were received, each once and in order.
pub record CountsLosses (settings : Settings) (lost : ℕ → Bool) (first last : ℕ) (stream : Summary) : Type 0 where
  pub first_is : first_in stream.span ≡ sequence_of settings first
  pub expected_is : expected_in stream.span ≡ last - first + 1
  pub received_is :
      stream.counts.received ≡ count_by (λ slot. not (is_gone settings.layout lost slot)) (slots_between first last)
  pub lost_is :
      expected_in stream.span - stream.counts.received ≡ count_by (is_gone settings.layout lost) (slots_between first last)
  pub no_duplicate : stream.counts.duplicate ≡ 0
  pub none_late : stream.counts.late ≡ 0
  pub none_reordered : stream.counts.reordered ≡ 0
  pub none_deep : stream.counts.deepest ≡ 0

-- A matrix is that of the layout, and no parity datagram is of another one.
pub record IsLayouts (layout : Layout) (m : Matrix) : Type 0 where
  pub columns_are : m.columns ≡ layout.l
  pub rows_are : m.rows ≡ layout.d
  pub no_other : m.other ≡ 0

-- The text of what is left of an encoding: it tells one stream, that of the encoder, with these losses; and no matrix of another
-- port than its own, which is the layout's where the parity of a column is left.
pub record TellsLosses
    (json : Bool) (settings : Settings) (payloads : List (List ℕ)) (lost : ℕ → Bool) (first last : ℕ)
    (text : List ℕ) : Type 0 where
  pub heard : List Heard
  pub read : AreHeard heard (thinned settings lost payloads)
  pub matrix : List ℕ
  pub text_is :
      text ≡ trace_line json (totals_of heard) ++ flat_map (port_text json heard) (range_with_len 0 ports)
      ++ stream_text json heard (encoder settings) ++ matrix ++ tail_line json Ended
  pub stream : CountsLosses settings lost first last (summary_of (arrivals_of (encoder settings) heard))
  pub matrix_is :
      LeavesColumn settings.layout (length payloads) lost first
      → (m : Matrix) × (matrix ≡ matrix_lines json settings.port 0 m) × IsLayouts settings.layout m
      × (m ≡ matrix_of (columns_on settings.port heard) (rows_on settings.port heard))

-- Where the input is exactly the trace of what is left of an encoding, the sink has gained the text of it.
abbrev pub SurveyTellsLosses : Bool → ℕ → List ℕ → Option (List ℕ) → Option (List ℕ) → Type 0
SurveyTellsLosses json max bytes written written' =
    (settings : Settings) (payloads : List (List ℕ)) (lost : ℕ → Bool) (first last : ℕ)
    → IsLeftTrace max bytes settings payloads lost first last
    → (text : List ℕ) × TellsLosses json settings payloads lost first last text × Gains written text written'
