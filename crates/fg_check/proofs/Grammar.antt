-- Which line fits after which.
use Rattle.std.proofs.Common.{◌≡◌, ◌≢◌, ◌↔◌, ◌⊎◌, IsTrue, inl, inr, ⊎_elim, ℕ, ◌+◌, ◌<◌, ◌≤◌, ◌^◌, Bool, true, false, cond, ◌&&◌, ltb, List, [], ◌∷◌, ◌++◌, Option, None, Some, IfSome, length, map, All, refl, sym, ap, ◌∙◌, subst, arith, append_assoc, append-nil}
use Rattle.std.specs.List.{Contains, flat_map}
use Rattle.std.specs.Option.{is_some}
use Rattle.std.proofs.lemmas.Bool.{and_left, and_right, cases_lt, iff_false, lt-ltb, le-ltb}
use Rattle.std.proofs.lemmas.List.{length-append, length-map, map_push, nil_from_length}
use Rattle.std.proofs.lemmas.List.Concat.{flat_map-append}
use Rattle.std.proofs.lemmas.List.Elements.{All-append, All-head, All-tail, All-cons, All-nil, All-push, All-map}
use Rattle.fg_shape.specs.declared.Shape.{Shape}
use Rattle.fg_proof.specs.declared.case.Case.{Case}
use Rattle.fg_proof.specs.Text.{Line, Head, Known, Rule, Open, End, IsWritable, IsWritableRule, IsWritableRun, line_limit, line_text, lines_of, number_limit}
use Rattle.fg_check.specs.Line.{FitsFields, IsLine}
use Rattle.fg_check.specs.Split.{AreWhole, Fit, texts_of}
use Rattle.fg_check.specs.Steps.{Stands, front_if, front_of}
use Rattle.fg_check.proofs.Spelling.{one_line}

abbrev pub is_nil : {A : Type 0} → List A → Bool
is_nil [] = true
is_nil (x ∷ xs) = false

abbrev pub case_of : ℕ → ℕ → ℕ → List (ℕ × ℕ) → List (ℕ × Shape) → List (ℕ × ℕ) → Case
case_of port mark count known lines holes = record { port = port; mark = mark; count = count; known = known; lines = lines; holes = holes }

-- so many lines has a case with these
abbrev pub size : List (ℕ × ℕ) → List (ℕ × Shape) → List (ℕ × ℕ) → ℕ
size known lines holes = length known + length lines + length holes + 2

abbrev pub has_room : Case → Bool
has_room case = ltb (size case.known case.lines case.holes) line_limit

-- The open case after one more line, where that fits.
abbrev pub step : Option Case → Line → Option (Option Case)
step None (Head port mark count) = Some (Some (case_of port mark count [] [] []))
step None (Known run) = None
step None (Rule rule) = None
step None (Open run) = None
step None End = None
step (Some case) (Head port mark count) = None
step (Some case) (Known run) =
    cond (is_nil case.lines && is_nil case.holes && has_room case)
    (Some (Some (case_of case.port case.mark case.count (case.known ++ run ∷ []) case.lines case.holes))) None
step (Some case) (Rule rule) =
    cond (is_nil case.holes && has_room case)
    (Some (Some (case_of case.port case.mark case.count case.known (case.lines ++ rule ∷ []) case.holes))) None
step (Some case) (Open run) =
    cond (has_room case)
    (Some (Some (case_of case.port case.mark case.count case.known case.lines (case.holes ++ run ∷ [])))) None
step (Some case) End = Some None

-- These lines lead from one open case to another.
abbrev pub Leads : Option Case → List Line → Option Case → Type 0
Leads from [] to = from ≡ to
Leads from (line ∷ more) to = (next : Option Case) × (step from line ≡ Some next) × Leads next more to

pub leads_on : (from via to : Option Case) (front rest : List Line) → Leads from front via → Leads via rest to → Leads from (front ++ rest) to
leads_on from via to [] rest h k = subst (λ (o : Option Case). Leads o rest to) (sym h) k
leads_on from via to (line ∷ more) rest h k = (h.0, h.1, leads_on h.0 via to more rest h.2 k)

pub leads_by : (from to : Option Case) (front rest : List Line) → Leads from (front ++ rest) to → (via : Option Case) × Leads from front via × Leads via rest to
leads_by from to [] rest h = (from, refl, h)
leads_by from to (line ∷ more) rest h = let k = leads_by h.0 to more rest h.2 in (k.0, (h.0, h.1, k.1), k.2)

pub leads_once : (from one other : Option Case) (lines : List Line) → Leads from lines one → Leads from lines other → one ≡ other
leads_once from one other [] h k = sym h ∙ k
leads_once from one other (line ∷ more) h k =
    let first : Some h.0 ≡ Some k.0 = sym h.1 ∙ k.1 in
    let same : h.0 ≡ k.0 = cc in
    leads_once k.0 one other more (subst (λ (o : Option Case). Leads o more one) same h.2) k.2

-- The lines of a case lead to it

knowns : (port mark count : ℕ) (known runs : List (ℕ × ℕ)) → size (known ++ runs) [] [] ≤ line_limit
    → Leads (Some (case_of port mark count known [] [])) (map Known runs) (Some (case_of port mark count (known ++ runs) [] []))
knowns port mark count known [] few = ap (λ (l : List (ℕ × ℕ)). Some (case_of port mark count l [] [])) (sym (append-nil known))
knowns port mark count known (run ∷ runs) few =
    let long = length-append known (run ∷ runs) in
    let moved : (known ++ run ∷ []) ++ runs ≡ known ++ run ∷ runs = append_assoc known (run ∷ []) runs in (
      Some (case_of port mark count (known ++ run ∷ []) [] []),
      ap (λ b. cond b (Some (Some (case_of port mark count (known ++ run ∷ []) [] []))) None) (lt-ltb (size known [] []) line_limit (omega (arith, long, few))),
      subst (λ (l : List (ℕ × ℕ)). Leads (Some (case_of port mark count (known ++ run ∷ []) [] [])) (map Known runs) (Some (case_of port mark count l [] []))) moved
          (knowns port mark count (known ++ run ∷ []) runs (subst (λ (l : List (ℕ × ℕ)). size l [] [] ≤ line_limit) (sym moved) few)),
    )

rules : (port mark count : ℕ) (known : List (ℕ × ℕ)) (lines more : List (ℕ × Shape)) → size known (lines ++ more) [] ≤ line_limit
    → Leads (Some (case_of port mark count known lines [])) (map Rule more) (Some (case_of port mark count known (lines ++ more) []))
rules port mark count known lines [] few = ap (λ (l : List (ℕ × Shape)). Some (case_of port mark count known l [])) (sym (append-nil lines))
rules port mark count known lines (rule ∷ more) few =
    let long = length-append lines (rule ∷ more) in
    let moved : (lines ++ rule ∷ []) ++ more ≡ lines ++ rule ∷ more = append_assoc lines (rule ∷ []) more in (
      Some (case_of port mark count known (lines ++ rule ∷ []) []),
      ap (λ b. cond b (Some (Some (case_of port mark count known (lines ++ rule ∷ []) []))) None) (lt-ltb (size known lines []) line_limit (omega (arith, long, few))),
      subst (λ (l : List (ℕ × Shape)). Leads (Some (case_of port mark count known (lines ++ rule ∷ []) [])) (map Rule more) (Some (case_of port mark count known l []))) moved
          (rules port mark count known (lines ++ rule ∷ []) more (subst (λ (l : List (ℕ × Shape)). size known l [] ≤ line_limit) (sym moved) few)),
    )

opens : (port mark count : ℕ) (known : List (ℕ × ℕ)) (lines : List (ℕ × Shape)) (holes runs : List (ℕ × ℕ)) → size known lines (holes ++ runs) ≤ line_limit
    → Leads (Some (case_of port mark count known lines holes)) (map Open runs) (Some (case_of port mark count known lines (holes ++ runs)))
opens port mark count known lines holes [] few = ap (λ (l : List (ℕ × ℕ)). Some (case_of port mark count known lines l)) (sym (append-nil holes))
opens port mark count known lines holes (run ∷ runs) few =
    let long = length-append holes (run ∷ runs) in
    let moved : (holes ++ run ∷ []) ++ runs ≡ holes ++ run ∷ runs = append_assoc holes (run ∷ []) runs in (
      Some (case_of port mark count known lines (holes ++ run ∷ [])),
      ap (λ b. cond b (Some (Some (case_of port mark count known lines (holes ++ run ∷ [])))) None) (lt-ltb (size known lines holes) line_limit (omega (arith, long, few))),
      subst (λ (l : List (ℕ × ℕ)). Leads (Some (case_of port mark count known lines (holes ++ run ∷ []))) (map Open runs) (Some (case_of port mark count known lines l))) moved
          (opens port mark count known lines (holes ++ run ∷ []) runs (subst (λ (l : List (ℕ × ℕ)). size known lines l ≤ line_limit) (sym moved) few)),
    )

-- so many lines a case has
pub lines_count : (case : Case) → length (lines_of case) ≡ size case.known case.lines case.holes
lines_count case =
    simp (length-append, length-map) (omega arith)

pub front_leads : (case : Case) → length (lines_of case) ≤ line_limit → Leads None (front_of case) (Some case)
front_leads case few =
    let p = case.port in
    let m = case.mark in
    let n = case.count in
    let long = lines_count case in
    let start : Option Case = Some (case_of p m n [] [] []) in
    let known = knowns p m n [] case.known (omega (arith, long, few)) in
    let lines = rules p m n case.known [] case.lines (omega (arith, long, few)) in
    let holes = opens p m n case.known case.lines [] case.holes (omega (arith, long, few)) in (
      start,
      refl,
      leads_on start (Some (case_of p m n case.known case.lines [])) (Some case) (map Known case.known ++ map Rule case.lines) (map Open case.holes)
          (leads_on start (Some (case_of p m n case.known [] [])) (Some (case_of p m n case.known case.lines [])) (map Known case.known) (map Rule case.lines) known lines) holes,
    )

pub case_leads : (case : Case) → IsWritable case → Leads None (lines_of case) None
case_leads case h = leads_on None (Some case) None (front_of case) (End ∷ []) (front_leads case h.few) (None, refl, refl)

pub cases_lead : (cases : List Case) → All IsWritable cases → Leads None (flat_map lines_of cases) None
cases_lead [] h = refl
cases_lead (case ∷ more) h =
    leads_on None None None (lines_of case) (flat_map lines_of more) (case_leads case (All-head IsWritable case more h)) (cases_lead more (All-tail IsWritable case more h))

-- Lines that stand

-- all lines of a writable case fit their fields
run_fits : (make : ℕ × ℕ → Line) → ((run : ℕ × ℕ) → IsWritableRun run → FitsFields (make run)) → (runs : List (ℕ × ℕ)) → All IsWritableRun runs → All FitsFields (map make runs)
run_fits make each [] h = All-nil FitsFields
run_fits make each (run ∷ runs) h =
    All-cons FitsFields (make run) (map make runs) (each run (All-head IsWritableRun run runs h)) (run_fits make each runs (All-tail IsWritableRun run runs h))

rule_fits : (rules : List (ℕ × Shape)) → All IsWritableRule rules → All FitsFields (map Rule rules)
rule_fits [] h = All-nil FitsFields
rule_fits (rule ∷ rules) h =
    All-cons FitsFields (Rule rule) (map Rule rules) (All-head IsWritableRule rule rules h) (rule_fits rules (All-tail IsWritableRule rule rules h))

pub front_fits : (case : Case) → IsWritable case → All FitsFields (front_of case)
front_fits case h =
    All-append FitsFields (Head case.port case.mark case.count ∷ map Known case.known ++ map Rule case.lines) (map Open case.holes)
    (All-append FitsFields (Head case.port case.mark case.count ∷ map Known case.known) (map Rule case.lines)
    (All-cons FitsFields (Head case.port case.mark case.count) (map Known case.known) (h.port, h.mark, h.count)
    (run_fits Known (λ run k. k) case.known h.known))
    (rule_fits case.lines h.lines))
    (run_fits Open (λ run k. k) case.holes h.holes)

pub case_fits : (case : Case) → IsWritable case → All FitsFields (lines_of case)
case_fits case h = All-push FitsFields (front_of case) End (front_fits case h) tt

pub cases_fit : (cases : List Case) → All IsWritable cases → All FitsFields (flat_map lines_of cases)
cases_fit [] h = All-nil FitsFields
cases_fit (case ∷ more) h =
    All-append FitsFields (lines_of case) (flat_map lines_of more) (case_fits case (All-head IsWritable case more h)) (cases_fit more (All-tail IsWritable case more h))

pub front_if_fits : (opened : Option Case) → IfSome opened IsWritable → All FitsFields (front_if opened)
front_if_fits None h = All-nil FitsFields
front_if_fits (Some case) h = front_fits case h

pub front_if_leads : (opened : Option Case) → IfSome opened IsWritable → Leads None (front_if opened) opened
front_if_leads None h = refl
front_if_leads (Some case) h = front_leads case h.few

-- texts of lines that fit tell the lines
is_line : (line : Line) → FitsFields line → IsLine (line_text line) line
is_line line h = record { is = refl; fits = h }

pub lines_part : (some all : List Line) (text : List ℕ) (rest : List (List ℕ)) → All FitsFields some → All FitsFields all → map line_text all ≡ map line_text some ++ text ∷ rest
    → (line : Line) × (more : List Line) × (all ≡ some ++ line ∷ more) × IsLine text line
lines_part [] [] text rest h k same = absurd (let no = same in cc)
lines_part [] (line ∷ more) text rest h k same =
    let first : line_text line ≡ text = cc in
    (line, more, refl, record { is = sym first; fits = All-head FitsFields line more k })
lines_part (one ∷ some) [] text rest h k same = absurd (let no = same in cc)
lines_part (one ∷ some) (line ∷ all) text rest h k same =
    let first : line_text line ≡ line_text one = cc in
    let tails : map line_text all ≡ map line_text some ++ text ∷ rest = cc in
    let mine : IsLine (line_text one) one = is_line one (All-head FitsFields one some h) in
    let other : IsLine (line_text one) line = record { is = sym first; fits = All-head FitsFields line all k } in
    let equal : line ≡ one = one_line (line_text one) line one other mine in
    let part = lines_part some all text rest (All-tail FitsFields one some h) (All-tail FitsFields line all k) tails in
    (part.0, part.1, ap (λ (l : List Line). line ∷ l) part.2 ∙ ap (λ (l : Line). l ∷ (some ++ part.0 ∷ part.1)) equal, part.3)

-- What stands, fits

flat_push : (cases : List Case) (case : Case) → flat_map lines_of (cases ++ case ∷ []) ≡ (flat_map lines_of cases ++ front_of case) ++ End ∷ []
flat_push cases case =
    flat_map-append lines_of cases (case ∷ []) ∙ ap (λ (l : List Line). flat_map lines_of cases ++ l) (append-nil (lines_of case))
    ∙ sym (append_assoc (flat_map lines_of cases) (front_of case) (End ∷ []))

pub stands_fit : (lines : List (List ℕ)) (cases : List Case) (opened : Option Case) → Stands lines cases opened → Fit lines
stands_fit lines cases None h = record {
  cases = cases;
  more = [];
  writable = h.writable;
  are = ap (λ (l : List Line). map line_text l) (sym (append-nil (flat_map lines_of cases))) ∙ sym h.are ∙ sym (append-nil lines);
}
stands_fit lines cases (Some case) h = record {
  cases = cases ++ case ∷ [];
  more = line_text End ∷ [];
  writable = All-push IsWritable cases case h.writable h.endable;
  are = ap (λ (l : List Line). map line_text l) (flat_push cases case) ∙ map_push line_text (flat_map lines_of cases ++ front_of case) End
      ∙ ap (λ (l : List (List ℕ)). l ++ line_text End ∷ []) (sym h.are);
}

pub stands_lead : (lines : List (List ℕ)) (cases : List Case) (opened : Option Case) → Stands lines cases opened → Leads None (flat_map lines_of cases ++ front_if opened) opened
stands_lead lines cases opened h =
    leads_on None None opened (flat_map lines_of cases) (front_if opened) (cases_lead cases h.writable) (front_if_leads opened h.endable)

-- a text that is none of the lines that fit next
pub unfit : (lines : List (List ℕ)) (cases : List Case) (opened : Option Case) (text : List ℕ) → Stands lines cases opened
    → ((line : Line) → IsLine text line → step opened line ≡ None) → ¬ Fit (lines ++ text ∷ [])
unfit lines cases opened text h none fit =
    let so_far : List Line = flat_map lines_of cases ++ front_if opened in
    let all : List Line = flat_map lines_of fit.cases in
    let same : map line_text all ≡ map line_text so_far ++ text ∷ fit.more =
    fit.are ∙ append_assoc lines (text ∷ []) fit.more ∙ ap (λ (l : List (List ℕ)). l ++ text ∷ fit.more) h.are in
    let fits : All FitsFields so_far = All-append FitsFields (flat_map lines_of cases) (front_if opened) (cases_fit cases h.writable) (front_if_fits opened h.endable) in
    let part = lines_part so_far all text fit.more fits (cases_fit fit.cases fit.writable) same in
    let line : Line = part.0 in
    let leads : Leads None (so_far ++ line ∷ part.1) None = subst (λ (l : List Line). Leads None l None) part.2 (cases_lead fit.cases fit.writable) in
    let by = leads_by None None so_far (line ∷ part.1) leads in
    let via : by.0 ≡ opened = leads_once None by.0 opened so_far by.1 (stands_lead lines cases opened h) in
    let next = by.2 in
    let goes : step opened line ≡ Some next.0 = subst (λ (o : Option Case). step o line ≡ Some next.0) via next.1 in
    let stays = none line part.3 in
    absurd (let no = sym stays ∙ goes in cc)

-- a line that fits next at no open case but where it does
pub refused : (opened : Option Case) (line : Line) → FitsFields line → step opened line ≡ None
    → (lines : List (List ℕ)) (cases : List Case) → Stands lines cases opened → ¬ Fit (lines ++ line_text line ∷ [])
refused opened line fits none lines cases h =
    unfit lines cases opened (line_text line) h
    (λ (other : Line) (k : IsLine (line_text line) other).
    ap (λ (l : Line). step opened l) (one_line (line_text line) other line k (is_line line fits)) ∙ none)

-- One more line

pushed : (lines : List (List ℕ)) (cases : List Case) (opened next : Option Case) (line : Line) → Stands lines cases opened → front_if next ≡ front_if opened ++ line ∷ []
    → IfSome next IsWritable → Stands (lines ++ line_text line ∷ []) cases next
pushed lines cases opened next line h front endable = record {
  writable = h.writable;
  endable = endable;
  are = ap (λ (l : List (List ℕ)). l ++ line_text line ∷ []) h.are ∙ sym (map_push line_text (flat_map lines_of cases ++ front_if opened) line)
      ∙ ap (λ (l : List Line). map line_text l) (append_assoc (flat_map lines_of cases) (front_if opened) (line ∷ []) ∙ ap (λ (l : List Line). flat_map lines_of cases ++ l) (sym front));
}

at_end : (first : Line) (front : List Line) (line : Line) → first ∷ (((front ++ line ∷ []) ++ []) ++ []) ≡ first ∷ (((front ++ []) ++ []) ++ line ∷ [])
at_end first front line =
    ap (λ (l : List Line). first ∷ l)
    (append-nil ((front ++ line ∷ []) ++ []) ∙ append-nil (front ++ line ∷ []) ∙ ap (λ (l : List Line). l ++ line ∷ []) (sym (append-nil (front ++ []) ∙ append-nil front)))

at_middle : (first : Line) (front more : List Line) (line : Line) → first ∷ ((front ++ (more ++ line ∷ [])) ++ []) ≡ first ∷ (((front ++ more) ++ []) ++ line ∷ [])
at_middle first front more line =
    ap (λ (l : List Line). first ∷ l)
    (append-nil (front ++ (more ++ line ∷ [])) ∙ sym (append_assoc front more (line ∷ [])) ∙ ap (λ (l : List Line). l ++ line ∷ []) (sym (append-nil (front ++ more))))

known_front : (port mark count : ℕ) (known : List (ℕ × ℕ)) (run : ℕ × ℕ) (lines : List (ℕ × Shape)) (holes : List (ℕ × ℕ)) → lines ≡ [] → holes ≡ []
    → front_of (case_of port mark count (known ++ run ∷ []) lines holes) ≡ front_of (case_of port mark count known lines holes) ++ Known run ∷ []
known_front port mark count known run [] [] a b =
    ap (λ (l : List Line). Head port mark count ∷ ((l ++ []) ++ [])) (map_push Known known run) ∙ at_end (Head port mark count) (map Known known) (Known run)
known_front port mark count known run (x ∷ xs) holes a b = absurd (let no = a in cc)
known_front port mark count known run [] (x ∷ xs) a b = absurd (let no = b in cc)

rule_front : (port mark count : ℕ) (known : List (ℕ × ℕ)) (lines : List (ℕ × Shape)) (rule : ℕ × Shape) (holes : List (ℕ × ℕ)) → holes ≡ []
    → front_of (case_of port mark count known (lines ++ rule ∷ []) holes) ≡ front_of (case_of port mark count known lines holes) ++ Rule rule ∷ []
rule_front port mark count known lines rule [] b =
    ap (λ (l : List Line). Head port mark count ∷ ((map Known known ++ l) ++ [])) (map_push Rule lines rule)
    ∙ at_middle (Head port mark count) (map Known known) (map Rule lines) (Rule rule)
rule_front port mark count known lines rule (x ∷ xs) b = absurd (let no = b in cc)

open_front : (case : Case) (run : ℕ × ℕ) → front_of (case_of case.port case.mark case.count case.known case.lines (case.holes ++ run ∷ [])) ≡ front_of case ++ Open run ∷ []
open_front case run =
    ap (λ (l : List Line). Head case.port case.mark case.count ∷ ((map Known case.known ++ map Rule case.lines) ++ l))
    (map_push Open case.holes run)
    ∙ ap (λ (l : List Line). Head case.port case.mark case.count ∷ l) (sym (append_assoc (map Known case.known ++ map Rule case.lines) (map Open case.holes) (Open run ∷ [])))

few_lines : (case : Case) → size case.known case.lines case.holes ≤ line_limit → length (lines_of case) ≤ line_limit
few_lines case few = omega (arith, lines_count case, few)

pub head_more : (port mark count : ℕ) → FitsFields (Head port mark count) → (lines : List (List ℕ)) (cases : List Case) → Stands lines cases None
    → Stands (lines ++ line_text (Head port mark count) ∷ []) cases (Some (case_of port mark count [] [] []))
head_more port mark count fits lines cases h =
    pushed lines cases None (Some (case_of port mark count [] [] [])) (Head port mark count) h refl
    (record {
      port = fits.0;
      mark = fits.1;
      count = fits.2;
      known = All-nil IsWritableRun;
      lines = All-nil IsWritableRule;
      holes = All-nil IsWritableRun;
      few = omega arith;
    })

pub known_more : (case : Case) (run : ℕ × ℕ) → IsWritableRun run → case.lines ≡ [] → case.holes ≡ [] → size case.known case.lines case.holes < line_limit
    → (lines : List (List ℕ)) (cases : List Case) → Stands lines cases (Some case)
    → Stands (lines ++ line_text (Known run) ∷ []) cases (Some (case_of case.port case.mark case.count (case.known ++ run ∷ []) case.lines case.holes))
known_more case run fits no_lines no_holes few lines cases h =
    let more : Case = case_of case.port case.mark case.count (case.known ++ run ∷ []) case.lines case.holes in
    pushed lines cases (Some case) (Some more) (Known run) h (known_front case.port case.mark case.count case.known run case.lines case.holes no_lines no_holes)
    (record {
      port = h.endable.port;
      mark = h.endable.mark;
      count = h.endable.count;
      known = All-push IsWritableRun case.known run h.endable.known fits;
      lines = h.endable.lines;
      holes = h.endable.holes;
      few = omega (arith, lines_count more, lines_count case, length-append case.known (run ∷ []), few);
    })

pub rule_more : (case : Case) (rule : ℕ × Shape) → IsWritableRule rule → case.holes ≡ [] → size case.known case.lines case.holes < line_limit
    → (lines : List (List ℕ)) (cases : List Case) → Stands lines cases (Some case)
    → Stands (lines ++ line_text (Rule rule) ∷ []) cases (Some (case_of case.port case.mark case.count case.known (case.lines ++ rule ∷ []) case.holes))
rule_more case rule fits no_holes few lines cases h =
    let more : Case = case_of case.port case.mark case.count case.known (case.lines ++ rule ∷ []) case.holes in
    pushed lines cases (Some case) (Some more) (Rule rule) h (rule_front case.port case.mark case.count case.known case.lines rule case.holes no_holes)
    (record {
      port = h.endable.port;
      mark = h.endable.mark;
      count = h.endable.count;
      known = h.endable.known;
      lines = All-push IsWritableRule case.lines rule h.endable.lines fits;
      holes = h.endable.holes;
      few = omega (arith, lines_count more, lines_count case, length-append case.lines (rule ∷ []), few);
    })

pub open_more : (case : Case) (run : ℕ × ℕ) → IsWritableRun run → size case.known case.lines case.holes < line_limit
    → (lines : List (List ℕ)) (cases : List Case) → Stands lines cases (Some case)
    → Stands (lines ++ line_text (Open run) ∷ []) cases (Some (case_of case.port case.mark case.count case.known case.lines (case.holes ++ run ∷ [])))
open_more case run fits few lines cases h =
    let more : Case = case_of case.port case.mark case.count case.known case.lines (case.holes ++ run ∷ []) in
    pushed lines cases (Some case) (Some more) (Open run) h (open_front case run)
    (record {
      port = h.endable.port;
      mark = h.endable.mark;
      count = h.endable.count;
      known = h.endable.known;
      lines = h.endable.lines;
      holes = All-push IsWritableRun case.holes run h.endable.holes fits;
      few = omega (arith, lines_count more, lines_count case, length-append case.holes (run ∷ []), few);
    })

pub end_more : (case : Case) (lines : List (List ℕ)) (cases : List Case) → Stands lines cases (Some case) → Stands (lines ++ line_text End ∷ []) (cases ++ case ∷ []) None
end_more case lines cases h = record {
  writable = All-push IsWritable cases case h.writable h.endable;
  endable = tt;
  are = ap (λ (l : List (List ℕ)). l ++ line_text End ∷ []) h.are ∙ sym (map_push line_text (flat_map lines_of cases ++ front_of case) End)
      ∙ ap (λ (l : List Line). map line_text l) (sym (flat_push cases case) ∙ sym (append-nil (flat_map lines_of (cases ++ case ∷ []))));
}

-- Where no line of a kind fits

nil_none : {A : Type 0} (xs : List A) → ¬ (xs ≡ []) → is_nil xs ≡ false
nil_none [] some = absurd (some refl)
nil_none (x ∷ xs) some = refl

none_if : {A : Type 0} (b : Bool) (x : Option A) → b ≡ false → cond b x None ≡ None
none_if b x is = ap (λ t. cond t x None) is

full : (case : Case) → line_limit ≤ size case.known case.lines case.holes → has_room case ≡ false
full case few = le-ltb (size case.known case.lines case.holes) line_limit few

pub known_none : (case : Case) (run : ℕ × ℕ) → (¬ (case.lines ≡ [])) ⊎ ((¬ (case.holes ≡ [])) ⊎ (line_limit ≤ size case.known case.lines case.holes)) → step (Some case) (Known run) ≡ None
known_none case run (inl some) = none_if _ _ (and_left _ _ (and_left _ _ (nil_none case.lines some)))
known_none case run (inr (inl some)) = none_if _ _ (and_left _ _ (and_right _ _ (nil_none case.holes some)))
known_none case run (inr (inr few)) = none_if _ _ (and_right _ _ (full case few))

pub rule_none : (case : Case) (rule : ℕ × Shape) → (¬ (case.holes ≡ [])) ⊎ (line_limit ≤ size case.known case.lines case.holes) → step (Some case) (Rule rule) ≡ None
rule_none case rule (inl some) = none_if _ _ (and_left _ _ (nil_none case.holes some))
rule_none case rule (inr few) = none_if _ _ (and_right _ _ (full case few))

pub open_none : (case : Case) (run : ℕ × ℕ) → line_limit ≤ size case.known case.lines case.holes → step (Some case) (Open run) ≡ None
open_none case run few = none_if _ _ (full case few)

-- What is taken of the open case

pub refused_at : (opened at : Option Case) (line : Line) → opened ≡ at → FitsFields line → step at line ≡ None
    → (lines : List (List ℕ)) (cases : List Case) → Stands lines cases opened → ¬ Fit (lines ++ line_text line ∷ [])
refused_at opened at line is fits none = refused opened line fits (ap (λ (o : Option Case). step o line) is ∙ none)

pub taken_at : (opened next : Option Case) (case after : Case) (line : Line) → opened ≡ Some case → next ≡ Some after
    → ((lines : List (List ℕ)) (cases : List Case) → Stands lines cases (Some case) → Stands (lines ++ line_text line ∷ []) cases (Some after))
    → (lines : List (List ℕ)) (cases : List Case) → Stands lines cases opened → Stands (lines ++ line_text line ∷ []) cases next
taken_at opened next case after line is now more lines cases h =
    subst (λ (o : Option Case). Stands (lines ++ line_text line ∷ []) cases o) (sym now) (more lines cases (subst (λ (o : Option Case). Stands lines cases o) is h))

pub ended_at : (opened next : Option Case) (case : Case) → opened ≡ Some case → next ≡ None
    → (lines : List (List ℕ)) (cases : List Case) → Stands lines cases opened → Stands (lines ++ line_text End ∷ []) (cases ++ case ∷ []) next
ended_at opened next case is now lines cases h =
    subst (λ (o : Option Case). Stands (lines ++ line_text End ∷ []) (cases ++ case ∷ []) o) (sym now)
    (end_more case lines cases (subst (λ (o : Option Case). Stands lines cases o) is h))

pub not_nil : {A : Type 0} (xs : List A) (n : ℕ) → n ≡ length xs → 0 < n → ¬ (xs ≡ [])
not_nil {A = A} xs n count some none = absurd (omega (arith, count, some, ap (λ (l : List A). length l) none))

pub is_empty : {A : Type 0} (xs : List A) (n : ℕ) → n ≡ length xs → n ≤ 0 → xs ≡ []
is_empty xs n count none = nil_from_length xs (omega (arith, count, none))

pub not_full : (b : Bool) (n : ℕ) → (IsTrue b ↔ (line_limit ≤ n)) → b ≡ false → n < line_limit
not_full b n says is =
    ⊎_elim (λ (below : n < line_limit). below) (λ (past : line_limit ≤ n). absurd (iff_false says is past)) (cases_lt n line_limit)

pub head_refused : (opened : Option Case) (port mark count : ℕ) → is_some opened ≡ true → FitsFields (Head port mark count)
    → (lines : List (List ℕ)) (cases : List Case) → Stands lines cases opened → ¬ Fit (lines ++ line_text (Head port mark count) ∷ [])
head_refused None port mark count some fits = absurd (let no = some in cc)
head_refused (Some case) port mark count some fits = refused (Some case) (Head port mark count) fits refl

pub head_begun : (opened : Option Case) (port mark count : ℕ) (known : List (ℕ × ℕ)) (rules : List (ℕ × Shape)) (holes : List (ℕ × ℕ))
    → is_some opened ≡ false → known ≡ [] → rules ≡ [] → holes ≡ [] → FitsFields (Head port mark count)
    → (lines : List (List ℕ)) (cases : List Case) → Stands lines cases opened
    → Stands (lines ++ line_text (Head port mark count) ∷ []) cases (Some (case_of port mark count known rules holes))
head_begun (Some case) port mark count known rules holes none a b d fits lines cases h = absurd (let no = none in cc)
head_begun None port mark count known rules holes none a b d fits lines cases h =
    let of : List (ℕ × ℕ) → List (ℕ × Shape) → List (ℕ × ℕ) → Option Case = λ k r o. Some (case_of port mark count k r o) in
    let same : of known rules holes ≡ of [] [] [] = ap (λ k. of k rules holes) a ∙ ap (λ r. of [] r holes) b ∙ ap (λ o. of [] [] o) d in
    subst (λ (o : Option Case). Stands (lines ++ line_text (Head port mark count) ∷ []) cases o) (sym same)
    (head_more port mark count fits lines cases h)
