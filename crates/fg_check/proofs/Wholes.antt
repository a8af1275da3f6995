-- The cases that are whole in lines.
use Rattle.std.proofs.Common.{◌≡◌, ◌≢◌, ◌⊎◌, inl, inr, ⊎_elim, ℕ, ◌+◌, ◌-◌, ◌<◌, ◌≤◌, List, [], ◌∷◌, ◌++◌, Option, None, Some, length, take, drop, map, All, get_or, refl, sym, ap, ◌∙◌, subst, arith, append_assoc, append-nil, take-append-drop}
use Rattle.std.specs.List.{Contains, flat_map}
use Rattle.std.proofs.Math.Seq.{take-append-add}
use Rattle.std.proofs.lemmas.Bool.{cases_lt}
use Rattle.std.proofs.lemmas.List.{append_cancel_left, length-append, length-map, map-append, nil_from_length, take-append-le, take-take, take_all}
use Rattle.std.proofs.lemmas.List.Elements.{All-append, All-cons, All-head, All-map, All-nil, All-tail}
use Rattle.fg_proof.specs.declared.case.Case.{Case}
use Rattle.fg_proof.specs.Text.{Line, Head, Known, Rule, Open, End, IsWritable, line_text, lines_of}
use Rattle.fg_check.specs.Line.{FitsFields, IsLine}
use Rattle.fg_check.specs.Split.{AreWhole, Fit, texts_of}
use Rattle.fg_check.specs.Steps.{Stands, front_if, front_of}
use Rattle.fg_check.proofs.Cuts.{in_middle, lacks_cons, lacks_front, lacks_nil, lacks_take, one_cut}
use Rattle.fg_check.proofs.Grammar.{Leads, cases_fit, cases_lead, front_fits, front_if_fits, front_leads, leads_once, stands_lead}
use Rattle.fg_check.proofs.Spelling.{first_byte, first_is, one_line}

-- the first lines of lines that fit, fit
pub fit_front : (lines more : List (List ℕ)) → Fit (lines ++ more) → Fit lines
fit_front lines more h = record { cases = h.cases; more = more ++ h.more; writable = h.writable; are = h.are ∙ append_assoc lines more h.more }

pub fit_take : (n : ℕ) (lines : List (List ℕ)) → Fit lines → Fit (take n lines)
fit_take n lines h = fit_front (take n lines) (drop n lines) (subst Fit (sym (take-append-drop n lines)) h)

-- No line but the last ends a case

end_text : List ℕ
end_text = line_text End

abbrev GoesOn : Line → Type 0
GoesOn line = ¬ (first_byte line ≡ 101)

front_goes_on : (case : Case) → All GoesOn (front_of case)
front_goes_on case =
    All-append GoesOn (Head case.port case.mark case.count ∷ map Known case.known ++ map Rule case.lines) (map Open case.holes)
    (All-append GoesOn (Head case.port case.mark case.count ∷ map Known case.known) (map Rule case.lines)
    (All-cons GoesOn (Head case.port case.mark case.count) (map Known case.known) (λ same. absurd (omega (arith, same)))
    (All-map GoesOn Known case.known (λ k d within same. absurd (omega (arith, same)))))
    (All-map GoesOn Rule case.lines (λ k d within same. absurd (omega (arith, same)))))
    (All-map GoesOn Open case.holes (λ k d within same. absurd (omega (arith, same))))

is_line : (line : Line) → FitsFields line → IsLine (line_text line) line
is_line line h = record { is = refl; fits = h }

no_end : (line : Line) → FitsFields line → GoesOn line → ¬ (line_text line ≡ line_text End)
no_end line fits goes same =
    goes (sym (first_is (line_text line) line (is_line line fits)) ∙ ap (λ (t : List ℕ). get_or t 0 0) same ∙ first_is (line_text End) End (is_line End tt))

lacks_end : (lines : List Line) → All FitsFields lines → All GoesOn lines → ¬ Contains (map line_text lines) (line_text End)
lacks_end [] h k = lacks_nil (line_text End)
lacks_end (line ∷ lines) h k =
    lacks_cons (line_text End) (line_text line) (map line_text lines) (no_end line (All-head FitsFields line lines h) (All-head GoesOn line lines k))
    (lacks_end lines (All-tail FitsFields line lines h) (All-tail GoesOn line lines k))

pub front_lacks_end : (case : Case) → IsWritable case → ¬ Contains (map line_text (front_of case)) (line_text End)
front_lacks_end case h = lacks_end (front_of case) (front_fits case h) (front_goes_on case)

-- Texts tell the lines, and the lines of a case tell it

pub lines_same : (one other : List Line) → All FitsFields one → All FitsFields other → map line_text one ≡ map line_text other → one ≡ other
lines_same [] [] h k same = refl
lines_same [] (line ∷ lines) h k same = absurd (let no = same in cc)
lines_same (line ∷ lines) [] h k same = absurd (let no = same in cc)
lines_same (first ∷ one) (line ∷ other) h k same =
    let text : line_text first ≡ line_text line = cc in
    let tails : map line_text one ≡ map line_text other = cc in
    let mine : IsLine (line_text line) first = record { is = sym text; fits = All-head FitsFields first one h } in
    ap (λ (l : Line). l ∷ one) (one_line (line_text line) first line mine (is_line line (All-head FitsFields line other k)))
    ∙ ap (λ (l : List Line). line ∷ l) (lines_same one other (All-tail FitsFields first one h) (All-tail FitsFields line other k) tails)

pub case_same : (one other : Case) → IsWritable one → IsWritable other → map line_text (front_of one) ≡ map line_text (front_of other) → one ≡ other
case_same one other h k same =
    let lines = lines_same (front_of one) (front_of other) (front_fits one h) (front_fits other k) same in
    let leads : Leads None (front_of other) (Some one) = subst (λ (l : List Line). Leads None l (Some one)) lines (front_leads one h.few) in
    let both : Some one ≡ Some other = leads_once None (Some one) (Some other) (front_of other) leads (front_leads other k.few) in
    cc

-- One list of cases

texts_cons : (case : Case) (cases : List Case) (rest : List (List ℕ)) → texts_of (case ∷ cases) ++ rest ≡ map line_text (front_of case) ++ line_text End ∷ (texts_of cases ++ rest)
texts_cons case cases rest =
    ap (λ (l : List (List ℕ)). l ++ rest) (map-append line_text (lines_of case) (flat_map lines_of cases) ∙ ap (λ (l : List (List ℕ)). l ++ texts_of cases) (map-append line_text (front_of case) (End ∷ [])))
    ∙ append_assoc (map line_text (front_of case) ++ line_text End ∷ []) (texts_of cases) rest
    ∙ append_assoc (map line_text (front_of case)) (line_text End ∷ []) (texts_of cases ++ rest)

wholes : (cases all : List Case) (others left : List (List ℕ)) → All IsWritable cases → All IsWritable all → ¬ Contains left (line_text End)
    → (later : List (List ℕ)) → (texts_of cases ++ others) ++ later ≡ texts_of all ++ left → (more : List Case) × (all ≡ cases ++ more)
wholes [] all others left h k lacks later same = (all, refl)
wholes (case ∷ cases) [] others left h k lacks later same =
    let moved : map line_text (front_of case) ++ line_text End ∷ ((texts_of cases ++ others) ++ later) ≡ left =
    sym (ap (λ (l : List (List ℕ)). l ++ later) (texts_cons case cases others) ∙ append_assoc (map line_text (front_of case)) (line_text End ∷ (texts_of cases ++ others)) later) ∙ same in
    absurd (lacks (subst (λ (l : List (List ℕ)). Contains l (line_text End)) moved (in_middle (line_text End) (map line_text (front_of case)) ((texts_of cases ++ others) ++ later))))
wholes (case ∷ cases) (first ∷ all) others left h k lacks later same =
    let moved : map line_text (front_of case) ++ line_text End ∷ ((texts_of cases ++ others) ++ later) ≡ map line_text (front_of first) ++ line_text End ∷ (texts_of all ++ left) =
    sym (ap (λ (l : List (List ℕ)). l ++ later) (texts_cons case cases others) ∙ append_assoc (map line_text (front_of case)) (line_text End ∷ (texts_of cases ++ others)) later)
    ∙ same ∙ texts_cons first all left in
    let mine = All-head IsWritable case cases h in
    let other = All-head IsWritable first all k in
    let both = one_cut (line_text End) (map line_text (front_of case)) (map line_text (front_of first)) ((texts_of cases ++ others) ++ later) (texts_of all ++ left)
    (front_lacks_end case mine) (front_lacks_end first other) moved in
    let equal : first ≡ case = sym (case_same case first mine other both.0) in
    let tail = wholes cases all others left (All-tail IsWritable case cases h) (All-tail IsWritable first all k) lacks later both.1 in
    (tail.0, ap (λ (c : Case). c ∷ all) equal ∙ ap (λ (l : List Case). case ∷ l) tail.1)

-- the cases that are whole in the first lines are the first of those in more lines
pub whole_front : (lines later : List (List ℕ)) (cases all : List Case) → AreWhole lines cases → AreWhole (lines ++ later) all → (more : List Case) × (all ≡ cases ++ more)
whole_front lines later cases all h k =
    wholes cases all h.others k.others h.writable k.writable k.unended later (ap (λ (l : List (List ℕ)). l ++ later) (sym h.are) ∙ k.are)

pub whole_once : (lines : List (List ℕ)) (one other : List Case) → AreWhole lines one → AreWhole lines other → one ≡ other
whole_once lines one other h k =
    let more = whole_front lines [] one other h (subst (λ (l : List (List ℕ)). AreWhole l other) (sym (append-nil lines)) k) in
    let less = whole_front lines [] other one k (subst (λ (l : List (List ℕ)). AreWhole l one) (sym (append-nil lines)) h) in
    let none : length more.0 ≡ 0 =
    omega (arith, ap (λ (l : List Case). length l) more.1, ap (λ (l : List Case). length l) less.1, length-append one more.0, length-append other less.0) in
    sym (more.1 ∙ ap (λ (l : List Case). one ++ l) (nil_from_length more.0 none) ∙ append-nil one)

pub whole_texts : (cases : List Case) → All IsWritable cases → AreWhole (texts_of cases) cases
whole_texts cases h = record { writable = h; others = []; are = sym (append-nil (texts_of cases)); unended = lacks_nil (line_text End) }

pub fit_texts : (cases : List Case) → All IsWritable cases → Fit (texts_of cases)
fit_texts cases h = record { cases = cases; more = []; writable = h; are = sym (append-nil (texts_of cases)) }

-- Of lines that stand

front_if_lacks : (opened : Option Case) (lines : List (List ℕ)) (cases : List Case) → Stands lines cases opened → ¬ Contains (map line_text (front_if opened)) (line_text End)
front_if_lacks None lines cases h = lacks_nil (line_text End)
front_if_lacks (Some case) lines cases h = front_lacks_end case h.endable

pub stands_whole : (lines : List (List ℕ)) (cases : List Case) (opened : Option Case) → Stands lines cases opened → AreWhole lines cases
stands_whole lines cases opened h = record {
  writable = h.writable;
  others = map line_text (front_if opened);
  are = h.are ∙ map-append line_text (flat_map lines_of cases) (front_if opened);
  unended = front_if_lacks opened lines cases h;
}

-- those of whole cases
pub stands_all : (lines : List (List ℕ)) (cases : List Case) → Stands lines cases None → lines ≡ texts_of cases
stands_all lines cases h = h.are ∙ ap (λ (l : List Line). map line_text l) (append-nil (flat_map lines_of cases))

-- and those that are not
pub stands_open : (lines : List (List ℕ)) (cases : List Case) (case : Case) → Stands lines cases (Some case) → (all : List Case) → All IsWritable all → ¬ (lines ≡ texts_of all)
stands_open lines cases case h all k same =
    let so_far : List Line = flat_map lines_of cases ++ front_of case in
    let equal = lines_same so_far (flat_map lines_of all)
    (All-append FitsFields (flat_map lines_of cases) (front_of case) (cases_fit cases h.writable) (front_fits case h.endable)) (cases_fit all k) (sym h.are ∙ same) in
    let leads : Leads None so_far None = subst (λ (l : List Line). Leads None l None) (sym equal) (cases_lead all k) in
    let both : None ≡ Some case = leads_once None None (Some case) so_far leads (stands_lead lines cases (Some case) h) in
    absurd (let no = both in cc)

-- lines of an open case without the last
whole_take : (n : ℕ) (cases : List Case) (lines others : List (List ℕ)) → All IsWritable cases → lines ≡ texts_of cases ++ others → ¬ Contains others (line_text End) → length (texts_of cases) ≤ n
    → AreWhole (take n lines) cases
whole_take n cases lines others h same lacks past =
    let k : ℕ = n - length (texts_of cases) in
    let split : length (texts_of cases) + k ≡ n = omega arith in
    record {
      writable = h;
      others = take k others;
      are = ap (λ (l : List (List ℕ)). take n l) same ∙ ap (λ m. take m (texts_of cases ++ others)) (sym split) ∙ take-append-add (texts_of cases) others k;
      unended = lacks_take (line_text End) k others lacks;
    }

pub whole_but_last : (lines : List (List ℕ)) (cases : List Case) (case : Case) (n : ℕ) → Stands lines cases (Some case) → n + 1 ≡ length lines → AreWhole (take n lines) cases
whole_but_last lines cases case n h last =
    let same : lines ≡ texts_of cases ++ map line_text (front_of case) = h.are ∙ map-append line_text (flat_map lines_of cases) (front_of case) in
    whole_take n cases lines (map line_text (front_of case)) h.writable same (front_lacks_end case h.endable)
    (omega (arith, last, ap (λ (l : List (List ℕ)). length l) same, length-append (texts_of cases) (map line_text (front_of case))))
