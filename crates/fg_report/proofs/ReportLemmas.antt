-- A report's text tells its counts.
use Rattle.std.proofs.Common.{◌≡◌, ◌≢◌, ℕ, Bool, true, false, cond, nat_lt, List, [], ◌∷◌, ◌++◌, map, get_or, codes, refl, sym, ap, ◌∙◌, subst, arith, append_assoc}
use Rattle.std.specs.Fmt.{decimal}
use Rattle.std.specs.List.{flat_map}
use Rattle.fg_report.specs.Fits.{Fits, MarksFit, GapsFit, FlowFits, FlowsFit, TailFits}
use Rattle.fg_report.specs.Laws.{told, told_of_runs, TextNamesItsCounts}
use Rattle.fg_report.specs.Text.{flow_counts, media_counts, parity_counts, flow_line, media_line, parity_line, runs_line, gap_line, flow_lines, flow_text, other_line, tail_text}
use Rattle.fg_report.specs.declared.marks.Marks.{Marks}
use Rattle.fg_report.specs.declared.flow_sum.FlowSum.{FlowSum}
use Rattle.fg_report.specs.declared.tail.Tail.{Tail}
use Rattle.fg_report.specs.declared.tail.Tail.TheVariants.{Ended, Cut, TooLong}
use Rattle.fg_report.proofs.TextLemmas.{cancel, number_cut, line_cut, line_right, head_same, tail_same}

-- the number at a place of a line
number_at : List (List ℕ × ℕ) → ℕ → ℕ
number_at counts place = (get_or counts place (([]), 0)).1

-- the counters of a parity line, and those of a media line
marks_of : List (List ℕ × ℕ) → Marks
marks_of counts = record {
  admitted = (get_or counts 0 (([]), 0)).1;
  duplicate = (get_or counts 1 (([]), 0)).1;
  conflict = (get_or counts 2 (([]), 0)).1;
  late = (get_or counts 3 (([]), 0)).1;
  not_started = (get_or counts 4 (([]), 0)).1;
  before_start = (get_or counts 5 (([]), 0)).1;
  ahead = (get_or counts 6 (([]), 0)).1;
  crowded = (get_or counts 7 (([]), 0)).1;
  bad = (get_or counts 8 (([]), 0)).1;
  foreign = 0;
}

media_of : List (List ℕ × ℕ) → ℕ → Marks
media_of counts foreign = record {
  admitted = (get_or counts 0 (([]), 0)).1;
  duplicate = (get_or counts 1 (([]), 0)).1;
  conflict = (get_or counts 2 (([]), 0)).1;
  late = (get_or counts 3 (([]), 0)).1;
  not_started = 0;
  before_start = 0;
  ahead = 0;
  crowded = 0;
  bad = (get_or counts 4 (([]), 0)).1;
  foreign = foreign;
}

-- what a flow's five lists of numbers and the two of its runs tell of it
flow_of :
    ℕ → List (List ℕ × ℕ) → List (List ℕ × ℕ) → List (List ℕ × ℕ) → List (List ℕ × ℕ) → List (ℕ × ℕ) → ℕ → ℕ → FlowSum
flow_of port counts media column row gaps runs foreign = record {
  port = port;
  shown = (get_or counts 0 (([]), 0)).1;
  repaired = (get_or counts 1 (([]), 0)).1;
  missing = (get_or counts 2 (([]), 0)).1;
  windows = (get_or counts 3 (([]), 0)).1;
  inconsistent = (get_or counts 4 (([]), 0)).1;
  media = media_of media foreign;
  column = marks_of column;
  row = marks_of row;
  runs = runs;
  gaps = gaps;
}

flow_of_told : (f : FlowSum)
    → flow_of f.port (flow_counts f) (media_counts f.media) (parity_counts f.column) (parity_counts f.row) f.gaps
    (told_of_runs f f.runs) (told_of_runs f f.media.foreign) ≡ told f
unfolding flow_of media_of marks_of
flow_of_told f = refl

all_same : {A B C : Type 0} (F : ℕ → A → A → A → A → B → ℕ → ℕ → C) (p q : ℕ) (a b c d a' b' c' d' : A) (g h : B) (m n k l : ℕ)
    → p ≡ q → a ≡ a' → b ≡ b' → c ≡ c' → d ≡ d' → g ≡ h → m ≡ n → k ≡ l → F p a b c d g m k ≡ F q a' b' c' d' h n l
all_same F p q a b c d a' b' c' d' g h m n k l ep ea eb ec ed eg em ek = cc

told_same : (f g : FlowSum) → f.port ≡ g.port → flow_counts f ≡ flow_counts g → media_counts f.media ≡ media_counts g.media
    → parity_counts f.column ≡ parity_counts g.column → parity_counts f.row ≡ parity_counts g.row → f.gaps ≡ g.gaps
    → told_of_runs f f.runs ≡ told_of_runs g g.runs → told_of_runs f f.media.foreign ≡ told_of_runs g g.media.foreign → told f ≡ told g
told_same f g port counts media column row gaps runs foreign =
    sym (flow_of_told f)
    ∙ all_same flow_of f.port g.port (flow_counts f) (media_counts f.media) (parity_counts f.column) (parity_counts f.row)
    (flow_counts g) (media_counts g.media) (parity_counts g.column) (parity_counts g.row) f.gaps g.gaps
    (told_of_runs f f.runs) (told_of_runs g g.runs) (told_of_runs f f.media.foreign) (told_of_runs g g.media.foreign)
    port counts media column row gaps runs foreign
    ∙ flow_of_told g

-- each line, cut off
flow_cut : (f g : FlowSum) (r s : List ℕ) → FlowFits f → FlowFits g → flow_line f ++ r ≡ flow_line g ++ s
    → (f.port ≡ g.port) × (flow_counts f ≡ flow_counts g) × (r ≡ s)
unfolding flow_line
flow_cut f g r s ff fg e =
    line_cut (codes "flow") f.port g.port (flow_counts f) (flow_counts g) r s (refl, (refl, (refl, (refl, (refl, tt))))) ff.port fg.port
    (ff.shown, (ff.repaired, (ff.missing, (ff.windows, (ff.inconsistent, tt))))) (fg.shown, (fg.repaired, (fg.missing, (fg.windows, (fg.inconsistent, tt))))) e

media_cut : (p q : ℕ) (m n : Marks) (r s : List ℕ) → Fits p → Fits q → MarksFit m → MarksFit n → media_line p m ++ r ≡ media_line q n ++ s
    → (media_counts m ≡ media_counts n) × (r ≡ s)
unfolding media_line
media_cut p q m n r s fp fq fm fn e =
    let cut = line_cut (codes "media") p q (media_counts m) (media_counts n) r s (refl, (refl, (refl, (refl, (refl, tt))))) fp fq
    (fm.admitted, (fm.duplicate, (fm.conflict, (fm.late, (fm.bad, tt))))) (fn.admitted, (fn.duplicate, (fn.conflict, (fn.late, (fn.bad, tt))))) e in
    (cut.1, cut.2)

parity_cut : (kind : List ℕ) (p q : ℕ) (m n : Marks) (r s : List ℕ) → Fits p → Fits q → MarksFit m → MarksFit n
    → parity_line kind p m ++ r ≡ parity_line kind q n ++ s → (parity_counts m ≡ parity_counts n) × (r ≡ s)
unfolding parity_line
parity_cut kind p q m n r s fp fq fm fn e =
    let cut = line_cut kind p q (parity_counts m) (parity_counts n) r s (refl, (refl, (refl, (refl, (refl, (refl, (refl, (refl, (refl, tt))))))))) fp fq
    (fm.admitted, (fm.duplicate, (fm.conflict, (fm.late, (fm.not_started, (fm.before_start, (fm.ahead, (fm.crowded, (fm.bad, tt)))))))))
    (fn.admitted, (fn.duplicate, (fn.conflict, (fn.late, (fn.not_started, (fn.before_start, (fn.ahead, (fn.crowded, (fn.bad, tt))))))))) e in
    (cut.1, cut.2)

-- what does not begin as the line of a gap
abbrev NoGap : List ℕ → Type 0
NoGap [] = Unit {0}
NoGap (x ∷ xs) = x ≢ 103

gap_right : (p : ℕ) (g : ℕ × ℕ) (gs : List (ℕ × ℕ)) (r : List ℕ) → flat_map (gap_line p) (g ∷ gs) ++ r
    ≡ codes "gap " ++ (decimal p ++ (32 ∷ (decimal g.0 ++ (32 ∷ (decimal g.1 ++ (10 ∷ (flat_map (gap_line p) gs ++ r)))))))
unfolding gap_line
gap_right p g gs r = simp append_assoc

gaps_cut : (p q : ℕ) (gs hs : List (ℕ × ℕ)) (r s : List ℕ) → Fits p → Fits q → GapsFit gs → GapsFit hs → NoGap r → NoGap s
    → flat_map (gap_line p) gs ++ r ≡ flat_map (gap_line q) hs ++ s → (gs ≡ hs) × (r ≡ s)
gaps_cut p q [] [] r s fp fq fg fh nr ns e = (refl, e)
gaps_cut p q [] (h ∷ hs) r s fp fq fg fh nr ns e = let bad = subst NoGap (e ∙ gap_right q h hs s) nr in absurd (bad refl)
gaps_cut p q (g ∷ gs) [] r s fp fq fg fh nr ns e = let bad = subst NoGap (sym e ∙ gap_right p g gs r) ns in absurd (bad refl)
gaps_cut p q (g ∷ gs) (h ∷ hs) r s fp fq fg fh nr ns e =
    let R = flat_map (gap_line p) gs ++ r in
    let S = flat_map (gap_line q) hs ++ s in
    let port = number_cut p q (32 ∷ (decimal g.0 ++ (32 ∷ (decimal g.1 ++ (10 ∷ R))))) (32 ∷ (decimal h.0 ++ (32 ∷ (decimal h.1 ++ (10 ∷ S)))))
    fp fq (omega arith) (omega arith) (cancel (codes "gap ") _ _ (sym (gap_right p g gs r) ∙ e ∙ gap_right q h hs s)) in
    let first = number_cut g.0 h.0 (32 ∷ (decimal g.1 ++ (10 ∷ R))) (32 ∷ (decimal h.1 ++ (10 ∷ S)))
    fg.0 fh.0 (omega arith) (omega arith) (tail_same 32 32 _ _ port.1) in
    let count = number_cut g.1 h.1 (10 ∷ R) (10 ∷ S) fg.1 fh.1 (omega arith) (omega arith) (tail_same 32 32 _ _ first.1) in
    let rest = gaps_cut p q gs hs r s fp fq fg.2 fh.2 nr ns (tail_same 10 10 R S count.1) in
    let one : g ≡ h = ap (λ x. (x, g.1)) first.0 ∙ ap (λ y. (h.0, y)) count.0 in
    (ap (λ x. x ∷ gs) one ∙ ap (λ t. h ∷ t) rest.0, rest.1)

-- what does not begin as the line of a flow's runs
abbrev NoRuns : List ℕ → Type 0
NoRuns [] = Unit {0}
NoRuns (x ∷ xs) = x ≢ 114

-- that line, where it is there
runs_text : ℕ → ℕ → ℕ → List ℕ
runs_text port runs foreign =
    codes "runs " ++ decimal port ++ codes " " ++ decimal runs ++ codes " foreign " ++ decimal foreign ++ codes "\n"

runs_right : (p runs foreign : ℕ) (r : List ℕ) → runs_text p runs foreign ++ r
    ≡ codes "runs " ++ (decimal p ++ (32 ∷ (decimal runs ++ (codes " foreign " ++ (decimal foreign ++ (10 ∷ r))))))
unfolding runs_text
runs_right p runs foreign r = simp append_assoc

-- what it tells where it is left out or there
abbrev told_where : Bool → ℕ → ℕ
told_where none count = cond none 0 count

abbrev text_where : Bool → ℕ → ℕ → ℕ → List ℕ
text_where none port runs foreign = cond none [] (runs_text port runs foreign)

-- the numbers of one flow's runs, and those of another's
record RunsFit (p m k : ℕ) : Type 0 where
  port : Fits p
  runs : Fits m
  foreign : Fits k

text_where_cut : (none none' : Bool) (p q m n k l : ℕ) (r s : List ℕ) → RunsFit p m k → RunsFit q n l → NoRuns r → NoRuns s
    → text_where none p m k ++ r ≡ text_where none' q n l ++ s
    → (told_where none m ≡ told_where none' n) × (told_where none k ≡ told_where none' l) × (r ≡ s)
text_where_cut true true p q m n k l r s fp fq nr ns e = (refl, refl, e)
text_where_cut true false p q m n k l r s fp fq nr ns e = let bad = subst NoRuns (e ∙ runs_right q n l s) nr in absurd (bad refl)
text_where_cut false true p q m n k l r s fp fq nr ns e = let bad = subst NoRuns (sym e ∙ runs_right p m k r) ns in absurd (bad refl)
text_where_cut false false p q m n k l r s fp fq nr ns e =
    let R = codes " foreign " ++ (decimal k ++ (10 ∷ r)) in
    let S = codes " foreign " ++ (decimal l ++ (10 ∷ s)) in
    let port = number_cut p q (32 ∷ (decimal m ++ R)) (32 ∷ (decimal n ++ S)) fp.port fq.port (omega arith) (omega arith)
    (cancel (codes "runs ") _ _ (sym (runs_right p m k r) ∙ e ∙ runs_right q n l s)) in
    let runs = number_cut m n R S fp.runs fq.runs (omega arith) (omega arith) (tail_same 32 32 _ _ port.1) in
    let foreign = number_cut k l (10 ∷ r) (10 ∷ s) fp.foreign fq.foreign (omega arith) (omega arith)
    (cancel (codes " foreign ") _ _ runs.1) in
    (runs.0, foreign.0, tail_same 10 10 r s foreign.1)

runs_cut : (f g : FlowSum) (r s : List ℕ) → FlowFits f → FlowFits g → NoRuns r → NoRuns s → runs_line f ++ r ≡ runs_line g ++ s
    → (told_of_runs f f.runs ≡ told_of_runs g g.runs)
    × (told_of_runs f f.media.foreign ≡ told_of_runs g g.media.foreign) × (r ≡ s)
unfolding runs_line runs_text
runs_cut f g r s ff fg nr ns e =
    text_where_cut (nat_lt f.runs 2) (nat_lt g.runs 2) f.port g.port f.runs g.runs f.media.foreign g.media.foreign r s
    (record { port = ff.port; runs = ff.runs; foreign = ff.media.foreign })
    (record { port = fg.port; runs = fg.runs; foreign = fg.media.foreign }) nr ns e

-- the lines of a flow, one after another
six_right : (a b c d h g r : List ℕ) → (a ++ b ++ c ++ d ++ h ++ g) ++ r ≡ a ++ (b ++ (c ++ (d ++ (h ++ (g ++ r)))))
six_right a b c d h g r = simp append_assoc

flow_right : (f : FlowSum) (r : List ℕ) → flow_text f ++ r
    ≡ flow_line f ++ (media_line f.port f.media ++ (parity_line (codes "column") f.port f.column
    ++ (parity_line (codes "row") f.port f.row ++ (runs_line f ++ (flat_map (gap_line f.port) f.gaps ++ r)))))
unfolding flow_lines
flow_right f r =
    six_right (flow_line f) (media_line f.port f.media) (parity_line (codes "column") f.port f.column)
    (parity_line (codes "row") f.port f.row) (runs_line f) (flat_map (gap_line f.port) f.gaps) r

-- what follows a flow's runs
gaps_no_runs : (p : ℕ) (gs : List (ℕ × ℕ)) (r : List ℕ) → NoRuns r → NoRuns (flat_map (gap_line p) gs ++ r)
gaps_no_runs p [] r none = none
gaps_no_runs p (g ∷ gs) r none = subst NoRuns (sym (gap_right p g gs r)) (λ e. absurd (omega (arith, e)))

text_cut : (f g : FlowSum) (r s : List ℕ) → FlowFits f → FlowFits g → NoGap r → NoGap s → NoRuns r → NoRuns s
    → flow_text f ++ r ≡ flow_text g ++ s → (told f ≡ told g) × (r ≡ s)
text_cut f g r s ff fg nr ns or os e =
    let own = flow_cut f g _ _ ff fg (sym (flow_right f r) ∙ e ∙ flow_right g s) in
    let media = media_cut f.port g.port f.media g.media _ _ ff.port fg.port ff.media fg.media own.2 in
    let column = parity_cut (codes "column") f.port g.port f.column g.column _ _ ff.port fg.port ff.column fg.column media.1 in
    let row = parity_cut (codes "row") f.port g.port f.row g.row _ _ ff.port fg.port ff.row fg.row column.1 in
    let runs = runs_cut f g _ _ ff fg (gaps_no_runs f.port f.gaps r or) (gaps_no_runs g.port g.gaps s os) row.1 in
    let gaps = gaps_cut f.port g.port f.gaps g.gaps r s ff.port fg.port ff.gaps fg.gaps nr ns runs.2 in
    (told_same f g own.0 own.1 media.0 column.0 row.0 gaps.0 runs.0 runs.1, gaps.1)

-- what a text begins with
first_of : List ℕ → ℕ
first_of [] = 0
first_of (x ∷ xs) = x

flow_first : (f : FlowSum) (r : List ℕ) → first_of (flow_text f ++ r) ≡ 102
unfolding flow_line first_of
flow_first f r = ap first_of (flow_right f r ∙ line_right (codes "flow") f.port (flow_counts f) _)

other_right : (n : ℕ) (t : List ℕ) → other_line n ++ t ≡ codes "other " ++ (decimal n ++ (10 ∷ t))
unfolding other_line
other_right n t = simp append_assoc

other_first : (n : ℕ) (t : List ℕ) → first_of (other_line n ++ t) ≡ 111
unfolding first_of
other_first n t = ap first_of (other_right n t)

no_gap : (t : List ℕ) → first_of t ≢ 103 → NoGap t
unfolding first_of
no_gap [] other = tt
no_gap (x ∷ xs) other = other

no_runs : (t : List ℕ) → first_of t ≢ 114 → NoRuns t
unfolding first_of
no_runs [] other = tt
no_runs (x ∷ xs) other = other

-- what follows a flow
abbrev flows_end : List FlowSum → ℕ → List ℕ → List ℕ
flows_end flows other tail = flat_map flow_text flows ++ (other_line other ++ tail)

more_right : (f : FlowSum) (fs : List FlowSum) (other : ℕ) (tail : List ℕ) → flows_end (f ∷ fs) other tail ≡ flow_text f ++ flows_end fs other tail
more_right f fs other tail = append_assoc (flow_text f) (flat_map flow_text fs) (other_line other ++ tail)

end_no_gap : (fs : List FlowSum) (other : ℕ) (tail : List ℕ) → NoGap (flows_end fs other tail)
end_no_gap [] other tail = no_gap (other_line other ++ tail) (λ e. let first = other_first other tail in absurd (omega (arith, e, first)))
end_no_gap (f ∷ fs) other tail = no_gap (flows_end (f ∷ fs) other tail)
    (λ e. let first = ap first_of (more_right f fs other tail) ∙ flow_first f (flows_end fs other tail) in absurd (omega (arith, e, first)))

end_no_runs : (fs : List FlowSum) (other : ℕ) (tail : List ℕ) → NoRuns (flows_end fs other tail)
end_no_runs [] other tail = no_runs (other_line other ++ tail) (λ e. let first = other_first other tail in absurd (omega (arith, e, first)))
end_no_runs (f ∷ fs) other tail = no_runs (flows_end (f ∷ fs) other tail)
    (λ e. let first = ap first_of (more_right f fs other tail) ∙ flow_first f (flows_end fs other tail) in absurd (omega (arith, e, first)))

-- the end
tail_cut : (tail end : Tail) → TailFits tail → TailFits end → tail_text tail ≡ tail_text end → tail ≡ end
unfolding tail_text
tail_cut Ended Ended ft fe e = refl
tail_cut Ended (Cut b) ft fe e = cc
tail_cut Ended (TooLong b) ft fe e = cc
tail_cut (Cut a) Ended ft fe e = cc
tail_cut (Cut a) (Cut b) ft fe e =
    let cut = number_cut a b (10 ∷ []) (10 ∷ []) ft fe (omega arith) (omega arith)
    (cancel (codes "cut at byte ") (decimal a ++ (10 ∷ [])) (decimal b ++ (10 ∷ []))
    (sym (append_assoc (codes "cut at byte ") (decimal a) (10 ∷ [])) ∙ e ∙ append_assoc (codes "cut at byte ") (decimal b) (10 ∷ []))) in
    ap (λ n. Cut n) cut.0
tail_cut (Cut a) (TooLong b) ft fe e = let first : 99 ≡ 116 = head_same _ _ _ _ e in absurd (omega (arith, first))
tail_cut (TooLong a) Ended ft fe e = cc
tail_cut (TooLong a) (Cut b) ft fe e = let first : 116 ≡ 99 = head_same _ _ _ _ e in absurd (omega (arith, first))
tail_cut (TooLong a) (TooLong b) ft fe e =
    let cut = number_cut a b (10 ∷ []) (10 ∷ []) ft fe (omega arith) (omega arith)
    (cancel (codes "too long at byte ") (decimal a ++ (10 ∷ [])) (decimal b ++ (10 ∷ []))
    (sym (append_assoc (codes "too long at byte ") (decimal a) (10 ∷ [])) ∙ e ∙ append_assoc (codes "too long at byte ") (decimal b) (10 ∷ []))) in
    ap (λ n. TooLong n) cut.0

flows_cut : (fs gs : List FlowSum) (other number : ℕ) (t u : List ℕ) → FlowsFit fs → FlowsFit gs → Fits other → Fits number
    → flows_end fs other t ≡ flows_end gs number u → (map told fs ≡ map told gs) × (other ≡ number) × (t ≡ u)
flows_cut [] [] other number t u ff fg fo fn e =
    let cut = number_cut other number (10 ∷ t) (10 ∷ u) fo fn (omega arith) (omega arith)
    (cancel (codes "other ") _ _ (sym (other_right other t) ∙ e ∙ other_right number u)) in
    (refl, cut.0, tail_same 10 10 t u cut.1)
flows_cut [] (g ∷ gs) other number t u ff fg fo fn e =
    let first : 111 ≡ 102 = sym (other_first other t) ∙ ap first_of (e ∙ more_right g gs number u) ∙ flow_first g (flows_end gs number u) in
    absurd (omega (arith, first))
flows_cut (f ∷ fs) [] other number t u ff fg fo fn e =
    let first : 102 ≡ 111 = sym (flow_first f (flows_end fs other t)) ∙ ap first_of (sym (more_right f fs other t) ∙ e) ∙ other_first number u in
    absurd (omega (arith, first))
flows_cut (f ∷ fs) (g ∷ gs) other number t u ff fg fo fn e =
    let one = text_cut f g (flows_end fs other t) (flows_end gs number u) ff.0 fg.0 (end_no_gap fs other t) (end_no_gap gs number u)
    (end_no_runs fs other t) (end_no_runs gs number u)
    (sym (more_right f fs other t) ∙ e ∙ more_right g gs number u) in
    let rest = flows_cut fs gs other number t u ff.1 fg.1 fo fn one.1 in
    (ap (λ x. x ∷ map told fs) one.0 ∙ ap (λ xs. told g ∷ xs) rest.0, rest.1, rest.2)

pub report_told : TextNamesItsCounts
report_told flows others other number tail end ff fo fn fm ft fe e =
    let cut = flows_cut flows others other number (tail_text tail) (tail_text end) ff fo fn fm
    (sym (append_assoc (flat_map flow_text flows) (other_line other) (tail_text tail)) ∙ e
    ∙ append_assoc (flat_map flow_text others) (other_line number) (tail_text end)) in
    (cut.0, cut.1, tail_cut tail end ft fe cut.2)
