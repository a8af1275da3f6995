-- The text of what is left of an encoding.
use Rattle.std.proofs.Common.{◌≡◌, ◌≢◌, ℕ, ◌+◌, ◌<◌, ◌≤◌, ◌||◌, max, Bool, false, cond, List, [], ◌∷◌, ◌++◌, length, refl, sym, ap, ◌∙◌, subst, arith, append-nil}
use Rattle.std.specs.List.{flat_map, range_with_len}
use Rattle.std.proofs.lemmas.Bool.{eq-eqb, ne_eqb}
use Rattle.fg_shape.specs.Laws.{LayoutsAreRead}
use Rattle.fg_rtp.specs.Laws.{WrittenIsRead as MediaWrittenIsRead}
use Rattle.fg_fechead.specs.Laws.{WrittenIsRead as ParityWrittenIsRead}
use Rattle.fg_trace.specs.Laws.{OneTrace, SpelledIsRead}
use Rattle.fg_trace.specs.Trace.{Record, Ending, Ended, IsTrace}
use Rattle.fg_report.specs.declared.tail.Tail.TheVariants as tail
use Rattle.fg_streams.specs.Summary.{summary_of}
use Rattle.fg_survey.specs.declared.senders.Sender.{Sender}
use Rattle.fg_survey.specs.Heard.{Heard}
use Rattle.fg_survey.specs.Laws.{OneText}
use Rattle.fg_survey.specs.Matrix.{Protection, columns_on, has_stream, matrix_of, rows_on}
use Rattle.fg_survey.specs.Rows.{ports}
use Rattle.fg_survey.specs.Senders.{arrivals_of, senders_of, unlisted}
use Rattle.fg_survey.specs.Survey.{IsText, text_of}
use Rattle.fg_survey.specs.Text.{deepest_in, matrix_lines, matrix_text, more_line, port_matrix, port_text, stream_text, tail_line, trace_line}
use Rattle.fg_survey.specs.Totals.{totals_of}
use Rattle.fg_encode.specs.Encoding.{encoding}
use Rattle.fg_encode.specs.Laws.{ColumnsAreTheLayouts, RecordsFit}
use Rattle.fg_encode.proofs.ListLemmas.{flat_single}
use Rattle.fg_thin.specs.Thinned.{thinned}
use Rattle.fg_thin.proofs.TraceLemmas.{fits_without}
use Rattle.fg_surveyed.specs.Laws.{SurveysTellLosses, TextsTellLosses}
use Rattle.fg_surveyed.specs.Told.{encoder}
use Rattle.fg_surveyed.proofs.Encoded.{all_heard, heard_of}
use Rattle.fg_surveyed.proofs.Walking.{layout_shown, losses, seen_all}

below_ports : (port : ℕ) → port ≤ 65531 → port < ports
unfolding ports
below_ports port most = omega (arith, most)

none_more : (json : Bool) → more_line json 0 ≡ []
unfolding more_line
none_more json = refl

-- One stream and one matrix

one_stream : (json : Bool) (heard : List Heard) (s : Sender) → senders_of heard ≡ s ∷ [] → flat_map (stream_text json heard) (senders_of heard) ≡ stream_text json heard s
one_stream json heard s one = ap (λ (l : List Sender). flat_map (stream_text json heard) l) one ∙ append-nil (stream_text json heard s)

no_matrix : (json : Bool) (heard : List Heard) (s : Sender) (port : ℕ) → senders_of heard ≡ s ∷ [] → port ≢ s.port → port_matrix json heard port ≡ []
no_matrix json heard s port one other =
    let none : List ℕ = [] in
    let text = matrix_text json port (deepest_in port heard (senders_of heard)) (columns_on port heard) (rows_on port heard) in
    ap (λ (l : List Sender). cond (has_stream l port) text none) one
    ∙ ap (λ (b : Bool). cond (b || false) text none) (ne_eqb s.port port (λ same. other (sym same)))

one_matrix : (json : Bool) (heard : List Heard) (s : Sender) → senders_of heard ≡ s ∷ [] → (summary_of (arrivals_of s heard)).counts.deepest ≡ 0
    → port_matrix json heard s.port ≡ matrix_text json s.port 0 (columns_on s.port heard) (rows_on s.port heard)
one_matrix json heard s one none_deep =
    let none : List ℕ = [] in
    let own = eq-eqb s.port s.port refl in
    let deep = (summary_of (arrivals_of s heard)).counts.deepest in
    let text = λ (n : ℕ). matrix_text json s.port n (columns_on s.port heard) (rows_on s.port heard) in
    let depth : deepest_in s.port heard (s ∷ []) ≡ 0 =
    ap (λ (b : Bool). max (cond b deep 0) 0) own ∙ (let zero_deep : max deep 0 ≡ 0 = omega (arith, none_deep) in zero_deep) in
    ap (λ (l : List Sender). cond (has_stream l s.port) (text (deepest_in s.port heard l)) none) one
    ∙ ap (λ (b : Bool). cond (b || false) (text (deepest_in s.port heard (s ∷ []))) none) own
    ∙ ap text depth

all_matrices : (json : Bool) (heard : List Heard) (s : Sender) → senders_of heard ≡ s ∷ [] → s.port ≤ 65531
    → flat_map (port_matrix json heard) (range_with_len 0 ports) ≡ port_matrix json heard s.port
all_matrices json heard s one most =
    flat_single (port_matrix json heard) ports s.port (port_matrix json heard s.port) (below_ports s.port most) refl
    (λ port within other. no_matrix json heard s port one other)

with_parity : (json : Bool) (port : ℕ) (columns rows : List Protection) → 0 < length columns → matrix_text json port 0 columns rows ≡ matrix_lines json port 0 (matrix_of columns rows)
with_parity json port columns rows some =
    ap (λ (b : Bool). cond b (let none : List ℕ = [] in none) (matrix_lines json port 0 (matrix_of columns rows)))
    (ne_eqb (length columns + length rows) 0 (λ same. absurd (omega (arith, same, some))))

whole_text : (json : Bool) (heard : List Heard) (s : Sender) → senders_of heard ≡ s ∷ [] → s.port ≤ 65531 → unlisted heard ≡ 0 → (summary_of (arrivals_of s heard)).counts.deepest ≡ 0
    → text_of json heard Ended ≡ trace_line json (totals_of heard) ++ flat_map (port_text json heard) (range_with_len 0 ports)
    ++ stream_text json heard s ++ matrix_text json s.port 0 (columns_on s.port heard) (rows_on s.port heard) ++ tail_line json tail.Ended
whole_text json heard s one most none_other none_deep =
    let front : List ℕ = trace_line json (totals_of heard) ++ flat_map (port_text json heard) (range_with_len 0 ports) in
    let stream : List ℕ = stream_text json heard s in
    let matrices : List ℕ = flat_map (port_matrix json heard) (range_with_len 0 ports) in
    let matrix : List ℕ = matrix_text json s.port 0 (columns_on s.port heard) (rows_on s.port heard) in
    let more : List ℕ = more_line json (unlisted heard) in
    let end : List ℕ = tail_line json tail.Ended in
    ap (λ (t : List ℕ). (((front ++ t) ++ matrices) ++ more) ++ end) (one_stream json heard s one)
    ∙ ap (λ (t : List ℕ). (((front ++ stream) ++ t) ++ more) ++ end) (all_matrices json heard s one most ∙ one_matrix json heard s one none_deep)
    ∙ ap (λ (t : List ℕ). (((front ++ stream) ++ matrix) ++ t) ++ end) (ap (λ (n : ℕ). more_line json n) none_other ∙ none_more json)
    ∙ ap (λ (t : List ℕ). t ++ end) (append-nil ((front ++ stream) ++ matrix))

pub texts_tell : MediaWrittenIsRead → ParityWrittenIsRead → LayoutsAreRead → ColumnsAreTheLayouts → OneText → TextsTellLosses
texts_tell media_law law shapes ends one_text json settings payloads lost first last text can are leaves is =
    let count : ℕ = length payloads in
    let heard : List Heard = heard_of settings payloads lost count in
    let s : Sender = encoder settings in
    let most = can.packets.1 in
    let read = all_heard settings payloads most are media_law law shapes lost in
    let seen = seen_all settings payloads lost first last count leaves in
    let counts = losses settings payloads lost first last count leaves in
    let columns : List Protection = columns_on settings.port heard in
    let rows : List Protection = rows_on settings.port heard in
    record {
      heard = heard;
      read = read;
      matrix = matrix_text json settings.port 0 columns rows;
      text_is = one_text json (thinned settings lost payloads) Ended text (text_of json heard Ended) is (record { heard = heard; read = read; text_is = refl })
          ∙ whole_text json heard s seen.one can.port seen.none_other counts.none_deep;
      stream = counts;
      matrix_is = λ column.
          let shown = layout_shown settings payloads lost first last count leaves ends column shapes in
          (matrix_of columns rows, with_parity json settings.port columns rows shown.0, shown.1, refl);
    }

pub surveys_tell : TextsTellLosses → RecordsFit → SpelledIsRead → OneTrace → SurveysTellLosses
surveys_tell texts fit read one_trace json max answer bytes written written' surveys settings payloads lost first last left =
    let sent : List Record = thinned settings lost payloads in
    let fits = fits_without lost 0 (encoding settings payloads) (fit settings payloads left.can left.whole left.limit) in
    let within = left.within in
    let trace : IsTrace bytes max sent Ended =
    subst (λ (bs : List ℕ). IsTrace bs max sent Ended) (sym left.spelled)
    (read sent max fits (omega (arith, within, ap (λ (bs : List ℕ). length bs) left.spelled))) in
    let same = one_trace bytes max surveys.records sent surveys.end Ended surveys.of_input trace in
    let is : IsText json sent Ended surveys.text =
    subst (λ (e : Ending). IsText json sent e surveys.text) same.1 (subst (λ (rs : List Record). IsText json rs surveys.end surveys.text) same.0 surveys.is_text) in
    (surveys.text, texts json settings payloads lost first last surveys.text left.can left.whole left.media is, surveys.gained)
