-- The lines of matrices.
use Rattle.std.proofs.Common.{◌≡◌, ◌≢◌, ⊎_elim, ℕ, suc, zero, ◌+◌, ◌*◌, ◌<◌, max, min, Bool, true, false, cond, eqb, List, [], ◌∷◌, ◌++◌, length, get_or, drop, map, refl, sym, ap, ◌∙◌, arith, add-one, append-nil, append_assoc}
use Rattle.std.specs.List.{flat_map, range_with_len}
use Rattle.std.proofs.lemmas.Bool.{ne_eqb}
use Rattle.std.proofs.lemmas.Bool.Decides.{eqb_tells}
use Rattle.std.proofs.lemmas.List.{drop_more}
use Rattle.fg_streams.specs.Steps.{StreamState, told}
use Rattle.fg_streams.specs.Summary.{Summary, summary_of}
use Rattle.fg_survey.specs.declared.lanes.Lane.{Lane}
use Rattle.fg_survey.specs.declared.senders.Sender.{Sender}
use Rattle.fg_survey.specs.declared.tally.Matrix.{Matrix}
use Rattle.fg_survey.specs.Heard.{Heard}
use Rattle.fg_survey.specs.Lanes.{AreLanes, IsLaneAt, has_port, port_of}
use Rattle.fg_survey.specs.Matrix.{Protection, columns_on, matrix_of, rows_on}
use Rattle.fg_survey.specs.Senders.{arrivals_of, senders_of}
use Rattle.fg_survey.specs.Text.{deepest_in, depth_of, matrix_line, matrix_lines, matrix_text, port_matrix, window_of, words_line}
use Rattle.fg_survey.proofs.LaneLemmas.{lane_there}

-- The deepest

pub deepest_next : (port : ℕ) (heard : List Heard) (senders : List Sender) (i : ℕ) (e : Sender) (t : StreamState) (old new all : ℕ) → i < length senders
    → told t ≡ summary_of (arrivals_of (get_or senders i e) heard) → new ≡ max (cond (eqb (get_or senders i e).port port) (told t).counts.deepest 0) old
    → max old (deepest_in port heard (drop i senders)) ≡ all → max new (deepest_in port heard (drop (i + 1) senders)) ≡ all
deepest_next port heard senders i e t old new all within is more h =
    let here = ap (λ (s : List Sender). deepest_in port heard s) (drop_more senders i e within) in
    let own : cond (eqb (get_or senders i e).port port) (told t).counts.deepest 0 ≡ cond (eqb (get_or senders i e).port port) (summary_of (arrivals_of (get_or senders i e) heard)).counts.deepest 0 =
    ap (λ (s : Summary). cond {A = ℕ} (eqb (get_or senders i e).port port) s.counts.deepest 0) is in
    omega (arith, here, own, more, h)

drop_senders : (senders : List Sender) → drop (length senders) senders ≡ []
drop_senders [] = refl
drop_senders (s ∷ senders) = drop_senders senders

pub deepest_end : (port : ℕ) (heard : List Heard) (senders : List Sender) (i deepest all : ℕ) → i ≡ length senders → max deepest (deepest_in port heard (drop i senders)) ≡ all → deepest ≡ all
deepest_end port heard senders i deepest all last h =
    let none = ap (λ (s : List Sender). deepest_in port heard s) (ap (λ k. drop k senders) last ∙ drop_senders senders) in
    omega (arith, none, h)

-- On a port

pub no_matrix : (json : Bool) (lanes : List Lane) (heard : List Heard) (port : ℕ) → has_port (map port_of lanes) port ≡ false → AreLanes lanes heard → port_matrix json heard port ≡ []
no_matrix json lanes heard port none h =
    ap (λ b. cond b (matrix_text json port (deepest_in port heard (senders_of heard)) (columns_on port heard) (rows_on port heard)) []) (sym (h.told port) ∙ none)

pub its_matrix : (json : Bool) (lanes : List Lane) (heard : List Heard) (port place : ℕ) (lane : Lane) → IsLaneAt lanes port place → lane ≡ get_or lanes place lane → AreLanes lanes heard
    → matrix_text json lane.port (deepest_in port heard (senders_of heard)) (columns_on lane.port heard) (rows_on lane.port heard) ≡ port_matrix json heard port
its_matrix json lanes heard port place lane found is h =
    let own : lane.port ≡ port = ap port_of is ∙ found.there lane in
    ap (λ n. matrix_text json n (deepest_in port heard (senders_of heard)) (columns_on n heard) (rows_on n heard)) own
    ∙ sym (ap (λ b. cond b (matrix_text json port (deepest_in port heard (senders_of heard)) (columns_on port heard) (rows_on port heard)) []) (sym (h.told port) ∙ lane_there lanes port place found))

-- All

flat_more : (f : ℕ → List ℕ) (a n : ℕ) → flat_map f (range_with_len a (suc n)) ≡ flat_map f (range_with_len a n) ++ f (a + n)
flat_more f a zero = let same : a ≡ a + 0 = omega arith in append-nil (f a) ∙ ap f same
flat_more f a (suc n) =
    let same : (a + 1) + n ≡ a + suc n = omega arith in
    ap (λ t. f a ++ t) (flat_more f (a + 1) n ∙ ap (λ k. flat_map f (range_with_len (a + 1) n) ++ f k) same) ∙ sym (append_assoc (f a) (flat_map f (range_with_len (a + 1) n)) (f (a + suc n)))

pub flat_next : (f : ℕ → List ℕ) (n : ℕ) (text before : List ℕ) → text ≡ before ++ flat_map f (range_with_len 0 n) → text ++ f n ≡ before ++ flat_map f (range_with_len 0 (n + 1))
flat_next f n text before h =
    let same : 0 + n ≡ n = omega arith in
    ap (λ t. t ++ f n) h ∙ append_assoc before (flat_map f (range_with_len 0 n)) (f n)
    ∙ ap (λ t. before ++ t) (ap (λ k. flat_map f (range_with_len 0 n) ++ f k) (sym same) ∙ sym (flat_more f 0 n) ∙ ap (λ k. flat_map f (range_with_len 0 k)) (sym (add-one n)))

-- The words

eq_yes : (a b : ℕ) → a ≡ b → eqb a b ≡ true
eq_yes a b same = ⊎_elim (λ (yes : (eqb a b ≡ true) × (a ≡ b)). yes.0) (λ (not_so : (eqb a b ≡ false) × (a ≢ b)). absurd (not_so.1 same)) (eqb_tells a b)

pub window_flat : (m : Matrix) → m.rows ≡ 0 → min 100 m.columns ≡ window_of m
window_flat m flat = ap (λ b. min 100 (cond b m.columns (m.columns * m.rows))) (sym (eq_yes m.rows 0 flat))

pub window_tall : (m : Matrix) → m.rows ≢ 0 → min 100 (m.columns * m.rows) ≡ window_of m
window_tall m tall = ap (λ b. min 100 (cond b m.columns (m.columns * m.rows))) (sym (ne_eqb m.rows 0 tall))

pub seven_pieces : (t0 t1 t2 t3 t4 a b c d e f g : List ℕ) → t1 ≡ t0 ++ (a ++ b) → t2 ≡ t1 ++ (c ++ d) → t3 ≡ t2 ++ (e ++ f) → t4 ≡ t3 ++ g
    → t4 ≡ t0 ++ (a ++ b ++ c ++ d ++ e ++ f ++ g)
seven_pieces t0 t1 t2 t3 t4 a b c d e f g e1 e2 e3 e4 =
    e4 ∙ ap (λ t. t ++ g) (e3 ∙ ap (λ t. t ++ (e ++ f)) (e2 ∙ ap (λ t. t ++ (c ++ d)) e1)) ∙ simp append_assoc

pub matrix_pushed : (json : Bool) (port deepest window depth : ℕ) (m : Matrix) (columns rows : List Protection) (t0 t1 t2 : List ℕ)
    → m ≡ matrix_of columns rows → eqb (length columns + length rows) 0 ≡ false → window ≡ window_of m → depth ≡ depth_of m deepest
    → t1 ≡ t0 ++ matrix_line json port m → t2 ≡ t1 ++ words_line json port window depth → t2 ≡ t0 ++ matrix_text json port deepest columns rows
matrix_pushed json port deepest window depth m columns rows t0 t1 t2 is some window_is depth_is e1 e2 =
    e2 ∙ ap (λ t. t ++ words_line json port window depth) e1 ∙ append_assoc t0 (matrix_line json port m) (words_line json port window depth)
    ∙ ap (λ n. t0 ++ (matrix_line json port m ++ words_line json port n depth)) window_is ∙ ap (λ n. t0 ++ (matrix_line json port m ++ words_line json port (window_of m) n)) depth_is
    ∙ ap (λ (x : Matrix). t0 ++ matrix_lines json port deepest x) is
    ∙ ap (λ t. t0 ++ t) (sym (ap (λ b. cond b [] (matrix_lines json port deepest (matrix_of columns rows))) some))

pub none_pushed : (json : Bool) (port deepest : ℕ) (columns rows : List Protection) (t0 : List ℕ) → eqb (length columns + length rows) 0 ≡ true → t0 ≡ t0 ++ matrix_text json port deepest columns rows
none_pushed json port deepest columns rows t0 none =
    sym (append-nil t0) ∙ ap (λ t. t0 ++ t) (sym (ap (λ b. cond b [] (matrix_lines json port deepest (matrix_of columns rows))) none))
