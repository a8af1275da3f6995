-- Lines of bytes.
use Rattle.std.proofs.Common.{◌≡◌, ◌≢◌, ◌⊎◌, inl, inr, ⊎_elim, ℕ, suc, ◌+◌, ◌-◌, ◌<◌, ◌≤◌, List, [], ◌∷◌, ◌++◌, length, take, drop, map, All, refl, sym, ap, ◌∙◌, subst, arith, append_assoc, append-nil}
use Rattle.std.specs.List.{Contains, flat_map}
use Rattle.std.proofs.lemmas.Bool.{cases_eq}
use Rattle.std.proofs.lemmas.List.{append_cancel_left, length-append, map-append, take_all, take_at}
use Rattle.std.proofs.lemmas.List.Concat.{flat_map-append}
use Rattle.std.proofs.lemmas.List.Elements.{All-append, All-cons, All-head, All-nil, All-push, All-tail}
use Rattle.fg_proof.specs.declared.case.Case.{Case}
use Rattle.fg_proof.specs.Text.{Line, IsWritable, case_text, cases_text, line_text, lines_of, text_of}
use Rattle.fg_check.specs.Line.{FitsFields, IsLine}
use Rattle.fg_check.specs.Split.{IsSplit, ended, texts_of}
use Rattle.fg_check.proofs.Cuts.{in_middle, lacks_cons, lacks_nil, one_cut}
use Rattle.fg_check.proofs.Grammar.{cases_fit}
use Rattle.fg_check.proofs.Spelling.{line_lacks}

abbrev pub Lack : List ℕ → Type 0
Lack line = ¬ Contains line 10

-- one line before others
one_before : (line more rest : List ℕ) → ((line ++ 10 ∷ []) ++ more) ++ rest ≡ line ++ 10 ∷ (more ++ rest)
one_before line more rest = append_assoc (line ++ 10 ∷ []) more rest ∙ append_assoc line (10 ∷ []) (more ++ rest)

pub ended_append : (lines more : List (List ℕ)) → ended (lines ++ more) ≡ ended lines ++ ended more
ended_append lines more = flat_map-append (λ (line : List ℕ). line ++ 10 ∷ []) lines more

pub ended_push : (lines : List (List ℕ)) (line : List ℕ) → ended (lines ++ line ∷ []) ≡ ended lines ++ (line ++ 10 ∷ [])
ended_push lines line = ended_append lines (line ∷ []) ∙ ap (λ (t : List ℕ). ended lines ++ t) (append-nil (line ++ 10 ∷ []))

-- the lines of bytes that begin with these lines begin with them
pub lines_front : (all lines : List (List ℕ)) (rest more : List ℕ) → All Lack all → Lack rest → All Lack lines → ended all ++ rest ≡ ended lines ++ more
    → (later : List (List ℕ)) × (all ≡ lines ++ later) × (more ≡ ended later ++ rest)
lines_front all [] rest more lack none h same = (all, refl, sym same)
lines_front [] (line ∷ lines) rest more lack none h same =
    let there : Contains (line ++ 10 ∷ (ended lines ++ more)) 10 = in_middle 10 line (ended lines ++ more) in
    absurd (none (subst (λ (t : List ℕ). Contains t 10) (sym (same ∙ one_before line (ended lines) more)) there))
lines_front (first ∷ all) (line ∷ lines) rest more lack none h same =
    let both = one_cut 10 first line (ended all ++ rest) (ended lines ++ more) (All-head Lack first all lack) (All-head Lack line lines h)
    (sym (one_before first (ended all) rest) ∙ same ∙ one_before line (ended lines) more) in
    let tail = lines_front all lines rest more (All-tail Lack first all lack) none (All-tail Lack line lines h) both.1 in
    (tail.0, ap (λ (l : List ℕ). l ∷ all) both.0 ∙ ap (λ (l : List (List ℕ)). line ∷ l) tail.1, tail.2)

none_later : (one other : List (List ℕ)) (rest left : List ℕ) (later : List (List ℕ)) → Lack left → one ≡ other ++ later → left ≡ ended later ++ rest → (one ≡ other) × (rest ≡ left)
none_later one other rest left [] lacks same end = (same ∙ append-nil other, sym end)
none_later one other rest left (line ∷ later) lacks same end =
    absurd (lacks (subst (λ (t : List ℕ). Contains t 10) (sym (end ∙ one_before line (ended later) rest)) (in_middle 10 line (ended later ++ rest))))

-- bytes are split in one way
pub split_once : (bytes : List ℕ) (one other : List (List ℕ)) (rest left : List ℕ) → IsSplit bytes one rest → IsSplit bytes other left → (one ≡ other) × (rest ≡ left)
split_once bytes one other rest left h k =
    let front = lines_front one other rest left h.lines_lack h.rest_lacks k.lines_lack (sym h.is ∙ k.is) in
    none_later one other rest left front.0 k.rest_lacks front.1 front.2

-- bytes are split
split_no : (b : ℕ) (bytes : List ℕ) (lines : List (List ℕ)) (rest : List ℕ) → ¬ (b ≡ 10) → IsSplit bytes lines rest
    → (lines : List (List ℕ)) × (rest : List ℕ) × IsSplit (b ∷ bytes) lines rest
split_no b bytes [] rest other h = (
  [],
  b ∷ rest,
  record {
    is = ap (λ (t : List ℕ). b ∷ t) h.is;
    lines_lack = All-nil Lack;
    rest_lacks = lacks_cons 10 b rest other h.rest_lacks;
  },
)
split_no b bytes (line ∷ lines) rest other h = (
  (b ∷ line) ∷ lines,
  rest,
  record {
    is = ap (λ (t : List ℕ). b ∷ t) h.is;
    lines_lack = All-cons Lack (b ∷ line) lines (lacks_cons 10 b line other (All-head Lack line lines h.lines_lack)) (All-tail Lack line lines h.lines_lack);
    rest_lacks = h.rest_lacks;
  },
)

split_yes : (b : ℕ) (bytes : List ℕ) (lines : List (List ℕ)) (rest : List ℕ) → b ≡ 10 → IsSplit bytes lines rest → IsSplit (b ∷ bytes) ([] ∷ lines) rest
split_yes b bytes lines rest same h = record {
  is = ap (λ (n : ℕ). n ∷ bytes) same ∙ ap (λ (t : List ℕ). 10 ∷ t) h.is;
  lines_lack = All-cons Lack [] lines (lacks_nil 10) h.lines_lack;
  rest_lacks = h.rest_lacks;
}

pub a_split : (bytes : List ℕ) → (lines : List (List ℕ)) × (rest : List ℕ) × IsSplit bytes lines rest
a_split [] = ([], [], record { is = refl; lines_lack = All-nil Lack; rest_lacks = lacks_nil 10 })
a_split (b ∷ bytes) =
    let tail = a_split bytes in
    ⊎_elim (λ (same : b ≡ 10). ([] ∷ tail.0, tail.1, split_yes b bytes tail.0 tail.1 same tail.2))
    (λ (other : ¬ (b ≡ 10)). split_no b bytes tail.0 tail.1 other tail.2) (cases_eq b 10)

pub split_join : (lines more : List (List ℕ)) (bytes rest : List ℕ) → All Lack lines → IsSplit bytes more rest → IsSplit (ended lines ++ bytes) (lines ++ more) rest
split_join lines more bytes rest lack h = record {
  is = ap (λ (t : List ℕ). ended lines ++ t) h.is ∙ sym (append_assoc (ended lines) (ended more) rest) ∙ ap (λ (t : List ℕ). t ++ rest) (sym (ended_append lines more));
  lines_lack = All-append Lack lines more lack h.lines_lack;
  rest_lacks = h.rest_lacks;
}

pub split_end : (lines : List (List ℕ)) (rest : List ℕ) → All Lack lines → Lack rest → IsSplit (ended lines ++ rest) lines rest
split_end lines rest lack lacks = record { is = refl; lines_lack = lack; rest_lacks = lacks }

-- The texts of cases

ended_lines : (lines : List Line) → ended (map line_text lines) ≡ text_of lines
ended_lines [] = refl
ended_lines (line ∷ lines) = ap (λ (t : List ℕ). (line_text line ++ 10 ∷ []) ++ t) (ended_lines lines)

text_append : (lines more : List Line) → text_of (lines ++ more) ≡ text_of lines ++ text_of more
text_append lines more = flat_map-append (λ (line : Line). line_text line ++ 10 ∷ []) lines more

text_all : (cases : List Case) → text_of (flat_map lines_of cases) ≡ cases_text cases
text_all [] = refl
text_all (case ∷ more) = text_append (lines_of case) (flat_map lines_of more) ∙ ap (λ (t : List ℕ). case_text case ++ t) (text_all more)

pub ended_texts : (cases : List Case) → ended (texts_of cases) ≡ cases_text cases
ended_texts cases = ended_lines (flat_map lines_of cases) ∙ text_all cases

-- which hold no line feed but at the ends of lines
pub lines_lack : (lines : List Line) → All FitsFields lines → All Lack (map line_text lines)
lines_lack [] h = All-nil Lack
lines_lack (line ∷ lines) h =
    All-cons Lack (line_text line) (map line_text lines) (line_lacks (line_text line) line (record { is = refl; fits = All-head FitsFields line lines h }))
    (lines_lack lines (All-tail FitsFields line lines h))

pub texts_lack : (cases : List Case) → All IsWritable cases → All Lack (texts_of cases)
texts_lack cases h = lines_lack (flat_map lines_of cases) (cases_fit cases h)

pub texts_split : (cases : List Case) → All IsWritable cases → IsSplit (cases_text cases) (texts_of cases) []
texts_split cases h = record {
  is = sym (ended_texts cases) ∙ sym (append-nil (ended (texts_of cases)));
  lines_lack = texts_lack cases h;
  rest_lacks = lacks_nil 10;
}

-- each line has its line feed
pub few_lines : (lines : List (List ℕ)) → length lines ≤ length (ended lines)
few_lines [] = omega arith
few_lines (line ∷ lines) =
    let fewer = few_lines lines in omega (arith, fewer, length-append (line ++ 10 ∷ []) (ended lines), length-append line (10 ∷ []))
