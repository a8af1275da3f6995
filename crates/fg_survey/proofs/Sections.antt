-- The parts of the text.
use Rattle.std.proofs.Common.{◌≡◌, ℕ, suc, ◌+◌, ◌<◌, Bool, List, [], ◌∷◌, ◌++◌, length, get_or, drop, map, refl, sym, ap, ◌∙◌, subst, arith, append-nil, append_assoc}
use Rattle.std.specs.List.{flat_map, range_with_len}
use Rattle.std.proofs.lemmas.List.{drop_more}
use Rattle.fg_streams.specs.Steps.{StreamState, told}
use Rattle.fg_streams.specs.Summary.{Summary, summary_of}
use Rattle.fg_report.specs.declared.tail.Tail.{Tail}
use Rattle.fg_survey.specs.declared.rows.Row.{Row}
use Rattle.fg_survey.specs.declared.senders.Sender.{Sender}
use Rattle.fg_survey.specs.declared.totals.Totals.{Totals}
use Rattle.fg_survey.specs.Heard.{Heard}
use Rattle.fg_survey.specs.Rows.{ports, row_of}
use Rattle.fg_survey.specs.Senders.{arrivals_of, senders_of, unlisted}
use Rattle.fg_survey.specs.Steps.{ArePorts}
use Rattle.fg_survey.specs.Text.{more_line, port_matrix, port_text, row_line, rows_text, stream_lines, stream_text, streams_text, survey_text, tail_line, trace_line}
use Rattle.fg_survey.specs.Totals.{first_time, totals_of}

-- The rows

pub rows_all : (json : Bool) (heard : List Heard) (port : ℕ) (rows : List Row) → ((i : ℕ) (d : Row) → i < length rows → get_or rows i d ≡ row_of heard (port + i))
    → rows_text json (first_time heard) port rows ≡ flat_map (port_text json heard) (range_with_len port (length rows))
rows_all json heard port [] h = refl
rows_all json heard port (r ∷ rows) h =
    let start = first_time heard in
    let here : port + 0 ≡ port = omega arith in
    let this : r ≡ row_of heard port = h 0 r (omega arith) ∙ ap (λ p. row_of heard p) here in
    ap (λ t. row_line json start port t ++ rows_text json start (port + 1) rows) this
    ∙ ap (λ t. row_line json start port (row_of heard port) ++ t) (rows_all json heard (port + 1) rows
    (λ i d inside. let next : port + suc i ≡ (port + 1) + i = omega arith in h (suc i) d (omega (arith, inside)) ∙ ap (λ p. row_of heard p) next))

pub rows_next : (json : Bool) (start i : ℕ) (rows : List Row) (d : Row) (text before all : List ℕ) → i < length rows
    → text ++ rows_text json start i (drop i rows) ≡ before ++ all
    → (text ++ row_line json start i (get_or rows i d)) ++ rows_text json start (i + 1) (drop (i + 1) rows) ≡ before ++ all
rows_next json start i rows d text before all inside h =
    append_assoc text (row_line json start i (get_or rows i d)) (rows_text json start (i + 1) (drop (i + 1) rows))
    ∙ ap (λ t. text ++ rows_text json start i t) (sym (drop_more rows i d inside)) ∙ h

drop_rows : (rows : List Row) → drop (length rows) rows ≡ []
drop_rows [] = refl
drop_rows (r ∷ rows) = drop_rows rows

pub rows_end : (json : Bool) (start i : ℕ) (rows : List Row) (text before all : List ℕ) → i ≡ length rows
    → text ++ rows_text json start i (drop i rows) ≡ before ++ all → text ≡ before ++ all
rows_end json start i rows text before all last h =
    sym (append-nil text) ∙ ap (λ t. text ++ rows_text json start i t) (sym (ap (λ k. drop k rows) last ∙ drop_rows rows)) ∙ h

-- The streams

pub streams_all : (json : Bool) (heard : List Heard) (senders : List Sender) (streams : List StreamState) → length streams ≡ length senders
    → ((i : ℕ) (d : StreamState) (e : Sender) → i < length senders → told (get_or streams i d) ≡ summary_of (arrivals_of (get_or senders i e) heard))
    → streams_text json (first_time heard) senders (map told streams) ≡ flat_map (stream_text json heard) senders
streams_all json heard [] streams many h = refl
streams_all json heard (s ∷ senders) [] many h = absurd (omega (arith, many))
streams_all json heard (s ∷ senders) (t ∷ streams) many h =
    let start = first_time heard in
    ap (λ (u : Summary). stream_lines json start s u ++ streams_text json start senders (map told streams)) (h 0 t s (omega arith))
    ∙ ap (λ t. stream_text json heard s ++ t) (streams_all json heard senders streams (omega (arith, many)) (λ i d e inside. h (suc i) d e (omega (arith, inside))))

pub streams_next : (json : Bool) (start i : ℕ) (senders : List Sender) (streams : List StreamState) (e : Sender) (d : StreamState) (text before all : List ℕ) → i < length senders → i < length streams
    → text ++ streams_text json start (drop i senders) (map told (drop i streams)) ≡ before ++ all
    → (text ++ stream_lines json start (get_or senders i e) (told (get_or streams i d))) ++ streams_text json start (drop (i + 1) senders) (map told (drop (i + 1) streams)) ≡ before ++ all
streams_next json start i senders streams e d text before all inside within h =
    append_assoc text (stream_lines json start (get_or senders i e) (told (get_or streams i d))) (streams_text json start (drop (i + 1) senders) (map told (drop (i + 1) streams)))
    ∙ ap (λ (t : List StreamState). text ++ streams_text json start (get_or senders i e ∷ drop (i + 1) senders) (map told t)) (sym (drop_more streams i d within))
    ∙ ap (λ (t : List Sender). text ++ streams_text json start t (map told (drop i streams))) (sym (drop_more senders i e inside)) ∙ h

drop_senders : (senders : List Sender) → drop (length senders) senders ≡ []
drop_senders [] = refl
drop_senders (s ∷ senders) = drop_senders senders

pub streams_end : (json : Bool) (start i : ℕ) (senders : List Sender) (summaries : List Summary) (text before all : List ℕ) → i ≡ length senders
    → text ++ streams_text json start (drop i senders) summaries ≡ before ++ all → text ≡ before ++ all
streams_end json start i senders summaries text before all last h =
    sym (append-nil text) ∙ ap (λ (t : List Sender). text ++ streams_text json start t summaries) (sym (ap (λ k. drop k senders) last ∙ drop_senders senders)) ∙ h

-- All parts

pub whole_text : (json : Bool) (heard : List Heard) (end : Tail) (totals : Totals) (start more : ℕ) (rows : List Row) (senders : List Sender) (streams : List StreamState) (matrices t0 t1 t2 t3 t4 t5 t6 : List ℕ)
    → totals ≡ totals_of heard → start ≡ totals.first → ArePorts rows heard
    → senders ≡ senders_of heard → length streams ≡ length senders
    → ((i : ℕ) (d : StreamState) (e : Sender) → i < length senders → told (get_or streams i d) ≡ summary_of (arrivals_of (get_or senders i e) heard))
    → more ≡ unlisted heard → matrices ≡ flat_map (port_matrix json heard) (range_with_len 0 ports)
    → t0 ≡ [] → t1 ≡ t0 ++ trace_line json totals → t2 ≡ t1 ++ rows_text json start 0 rows → t3 ≡ t2 ++ streams_text json start senders (map told streams)
    → t4 ≡ t3 ++ matrices → t5 ≡ t4 ++ more_line json more → t6 ≡ t5 ++ tail_line json end → t6 ≡ survey_text json heard end
whole_text json heard end totals start more rows senders streams matrices t0 t1 t2 t3 t4 t5 t6 totals_are start_is ports_are senders_are many told_are more_is matrices_are e0 e1 e2 e3 e4 e5 e6 =
    let from : start ≡ first_time heard = start_is ∙ ap (λ (t : Totals). t.first) totals_are in
    let s1 : t1 ≡ trace_line json (totals_of heard) = e1 ∙ ap (λ t. t ++ trace_line json totals) e0 ∙ ap (λ (t : Totals). trace_line json t) totals_are in
    let r : rows_text json start 0 rows ≡ flat_map (port_text json heard) (range_with_len 0 ports) =
    ap (λ n. rows_text json n 0 rows) from
    ∙ rows_all json heard 0 rows (λ i d inside. let at : i ≡ 0 + i = omega arith in ports_are.each i d (subst (λ n. i < n) ports_are.all inside) ∙ ap (λ p. row_of heard p) at)
    ∙ ap (λ n. flat_map (port_text json heard) (range_with_len 0 n)) ports_are.all in
    let s : streams_text json start senders (map told streams) ≡ flat_map (stream_text json heard) (senders_of heard) =
    ap (λ n. streams_text json n senders (map told streams)) from ∙ streams_all json heard senders streams many told_are ∙ ap (λ (t : List Sender). flat_map (stream_text json heard) t) senders_are in
    let s2 = e2 ∙ ap (λ t. t ++ rows_text json start 0 rows) s1 ∙ ap (λ t. trace_line json (totals_of heard) ++ t) r in
    let s3 = e3 ∙ ap (λ t. t ++ streams_text json start senders (map told streams)) s2
    ∙ ap (λ t. (trace_line json (totals_of heard) ++ flat_map (port_text json heard) (range_with_len 0 ports)) ++ t) s in
    let front = (trace_line json (totals_of heard) ++ flat_map (port_text json heard) (range_with_len 0 ports)) ++ flat_map (stream_text json heard) (senders_of heard) in
    let s4 = e4 ∙ ap (λ t. t ++ matrices) s3 ∙ ap (λ t. front ++ t) matrices_are in
    let s5 = e5 ∙ ap (λ t. t ++ more_line json more) s4 ∙ ap (λ n. (front ++ flat_map (port_matrix json heard) (range_with_len 0 ports)) ++ more_line json n) more_is in
    e6 ∙ ap (λ t. t ++ tail_line json end) s5

-- Five pieces
pub five_pieces : (t0 t1 t2 t3 t4 t5 a b own c d e : List ℕ) → t1 ≡ t0 ++ a → t2 ≡ t1 ++ own → own ≡ b → t3 ≡ t2 ++ c → t4 ≡ t3 ++ d → t5 ≡ t4 ++ e
    → t5 ≡ t0 ++ (a ++ b ++ c ++ d ++ e)
five_pieces t0 t1 t2 t3 t4 t5 a b own c d e e1 e2 same e3 e4 e5 =
    e5 ∙ ap (λ t. t ++ e) (e4 ∙ ap (λ t. t ++ d) (e3 ∙ ap (λ t. t ++ c) (e2 ∙ ap (λ t. t1 ++ t) same ∙ ap (λ t. t ++ b) e1))) ∙ simp append_assoc
