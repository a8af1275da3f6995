-- The texts of lines, one after another.
use Rattle.std.proofs.Common.{◌≡◌, ℕ, ◌+◌, ◌<◌, List, [], ◌∷◌, ◌++◌, length, take, Some, map, sym, ap, ◌∙◌, append_assoc, append-nil}
use Rattle.std.specs.List.{flat_map}
use Rattle.std.specs.Prelude.{slice_get}
use Rattle.fg_io.proofs.TextLemmas.{flat_map-more}
use Rattle.std.proofs.lemmas.Grind.{flat_map-append}
use Rattle.std.proofs.lemmas.List.Folds.{flat_map-map}
use Rattle.std.proofs.lemmas.Option.{get_or_from_slice_get}
use Rattle.fg_shape.specs.declared.Shape.{Shape}
use Rattle.fg_proof.specs.declared.case.Case.{Case}
use Rattle.fg_proof.specs.Text.{Known, Rule, Open, End, spelled, line_text, text_of, case_text, cases_text}

-- One more line.
pub lines_more :
    {X : Type 0} (f : X → List ℕ) (xs : List X) (i : ℕ) (x : X) (old text text' : List ℕ)
    → i < length xs → slice_get xs i ≡ Some x → text ≡ old ++ flat_map f (take i xs) → text' ≡ text ++ f x
    → text' ≡ old ++ flat_map f (take (i + 1) xs)
lines_more f xs i x old text text' within is so more =
    more ∙ ap (λ (t : List ℕ). t ++ f x) so ∙ append_assoc old (flat_map f (take i xs)) (f x)
    ∙ ap (λ (t : List ℕ). old ++ t)
    (ap (λ (y : _). flat_map f (take i xs) ++ f y) (sym (get_or_from_slice_get xs i x x is)) ∙ sym (flat_map-more f xs i x within))

-- How equations are told.
abbrev pub rule_line : ℕ × Shape → List ℕ
rule_line rule = spelled (108 ∷ 105 ∷ 110 ∷ 101 ∷ []) (rule.0 ∷ rule.1.offset ∷ rule.1.na ∷ []) ++ 10 ∷ []

pub rules_text : (rules : List (ℕ × Shape)) → text_of (map Rule rules) ≡ flat_map rule_line rules
unfolding line_text
rules_text rules = flat_map-map (λ line. line_text line ++ 10 ∷ []) Rule rules

pub known_text : (runs : List (ℕ × ℕ)) → text_of (map Known runs) ≡ flat_map (λ run. spelled (107 ∷ 110 ∷ 111 ∷ 119 ∷ 110 ∷ []) (run.0 ∷ run.1 ∷ []) ++ 10 ∷ []) runs
unfolding line_text
known_text runs = flat_map-map (λ line. line_text line ++ 10 ∷ []) Known runs

pub open_text : (runs : List (ℕ × ℕ)) → text_of (map Open runs) ≡ flat_map (λ run. spelled (111 ∷ 112 ∷ 101 ∷ 110 ∷ []) (run.0 ∷ run.1 ∷ []) ++ 10 ∷ []) runs
unfolding line_text
open_text runs = flat_map-map (λ line. line_text line ++ 10 ∷ []) Open runs

four_parts :
    {X : Type 0} (f : X → List ℕ) (ws xs ys zs : List X)
    → flat_map f (ws ++ xs ++ ys ++ zs) ≡ flat_map f ws ++ (flat_map f xs ++ (flat_map f ys ++ flat_map f zs))
four_parts f ws xs ys zs =
    flat_map-append f (ws ++ xs ++ ys) zs
    ∙ ap (λ (t : List ℕ). t ++ flat_map f zs)
    (flat_map-append f (ws ++ xs) ys ∙ ap (λ (t : List ℕ). t ++ flat_map f ys) (flat_map-append f ws xs))
    ∙ append_assoc (flat_map f ws ++ flat_map f xs) (flat_map f ys) (flat_map f zs)
    ∙ append_assoc (flat_map f ws) (flat_map f xs) (flat_map f ys ++ flat_map f zs)

-- A case's text is that of its parts.
pub case_parts :
    (case : Case)
    → case_text case
    ≡ (spelled (99 ∷ 97 ∷ 115 ∷ 101 ∷ []) (case.port ∷ case.mark ∷ case.count ∷ []) ++ 10 ∷ [])
    ++ (text_of (map Known case.known) ++ (text_of (map Rule case.lines) ++ (text_of (map Open case.holes) ++ (101 ∷ 110 ∷ 100 ∷ 10 ∷ []))))
unfolding line_text
case_parts case =
    ap (λ (t : List ℕ). spelled (99 ∷ 97 ∷ 115 ∷ 101 ∷ []) (case.port ∷ case.mark ∷ case.count ∷ []) ++ 10 ∷ [] ++ t)
    (four_parts (λ line. line_text line ++ 10 ∷ []) (map Known case.known) (map Rule case.lines) (map Open case.holes) (End ∷ []))

regroup : (a b c d e f : List ℕ) → ((((a ++ b) ++ c) ++ d) ++ e) ++ f ≡ a ++ (b ++ (c ++ (d ++ (e ++ f))))
regroup a b c d e f = simp append_assoc

-- Pushed one after another, they are its text.
abbrev pub run_line : List ℕ → ℕ × ℕ → List ℕ
run_line word run = spelled word (run.0 ∷ run.1 ∷ []) ++ 10 ∷ []

pub case_made :
    (case : Case) (old head known rules last : List ℕ)
    → head ≡ old ++ (spelled (99 ∷ 97 ∷ 115 ∷ 101 ∷ []) (case.port ∷ case.mark ∷ case.count ∷ []) ++ 10 ∷ [])
    → known ≡ head ++ flat_map (run_line (107 ∷ 110 ∷ 111 ∷ 119 ∷ 110 ∷ [])) case.known
    → rules ≡ known ++ text_of (map Rule case.lines)
    → last ≡ rules ++ flat_map (run_line (111 ∷ 112 ∷ 101 ∷ 110 ∷ [])) case.holes
    → last ++ (101 ∷ 110 ∷ 100 ∷ 10 ∷ []) ≡ old ++ case_text case
case_made case old head known rules last is_head is_known is_rules is_last =
    let end : List ℕ = 101 ∷ 110 ∷ 100 ∷ 10 ∷ [] in
    let first : List ℕ = spelled (99 ∷ 97 ∷ 115 ∷ 101 ∷ []) (case.port ∷ case.mark ∷ case.count ∷ []) ++ 10 ∷ [] in
    let knowns = flat_map (run_line (107 ∷ 110 ∷ 111 ∷ 119 ∷ 110 ∷ [])) case.known in
    let lines = text_of (map Rule case.lines) in
    let opens = flat_map (run_line (111 ∷ 112 ∷ 101 ∷ 110 ∷ [])) case.holes in
    ap (λ (t : List ℕ). t ++ end) is_last
    ∙ ap (λ (t : List ℕ). (t ++ opens) ++ end) is_rules
    ∙ ap (λ (t : List ℕ). ((t ++ lines) ++ opens) ++ end) is_known
    ∙ ap (λ (t : List ℕ). (((t ++ knowns) ++ lines) ++ opens) ++ end) is_head
    ∙ regroup old first knowns lines opens end
    ∙ ap (λ (t : List ℕ). old ++ (first ++ (t ++ (lines ++ (opens ++ end))))) (sym (known_text case.known))
    ∙ ap (λ (t : List ℕ). old ++ (first ++ (text_of (map Known case.known) ++ (lines ++ (t ++ end))))) (sym (open_text case.holes))
    ∙ ap (λ (t : List ℕ). old ++ t) (sym (case_parts case))

-- The texts of cases that come one after another.
pub cases_text-append : (one other : List Case) → cases_text (one ++ other) ≡ cases_text one ++ cases_text other
cases_text-append one other = flat_map-append case_text one other

pub cases_text-one : (case : Case) → cases_text (case ∷ []) ≡ case_text case
cases_text-one case = append-nil (case_text case)
