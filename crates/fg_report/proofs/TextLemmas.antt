-- What a report's text tells: numbers end where a byte comes that is no digit.
use Rattle.std.proofs.Common.{◌≡◌, ℕ, ◌+◌, ◌%◌, ◌^◌, ◌<◌, ◌≤◌, List, [], ◌∷◌, ◌++◌, codes, refl, sym, ap, ◌∙◌, subst, arith, append_assoc}
use Rattle.std.specs.Fmt.{decimal}
use Rattle.std.proofs.lemmas.Fmt.{decimal_by_steps, decimal_injective}
use Rattle.fg_report.specs.Text.{counts_text, line_of}

-- bytes that may be digits
abbrev pub Digits : List ℕ → Type 0
Digits [] = Unit {0}
Digits (x ∷ xs) = (48 ≤ x) × Digits xs

-- what comes behind a number
abbrev pub Stops : List ℕ → Type 0
Stops [] = Unit {0}
Stops (x ∷ xs) = x < 48

Digits-push : (ds : List ℕ) (d : ℕ) → Digits ds → Digits (ds ++ (48 + d) ∷ [])
Digits-push [] d digits = (omega arith, tt)
Digits-push (x ∷ xs) d digits = (digits.0, Digits-push xs d digits.1)

Digits-decimal : (n : ℕ) → n < 2 ^ 64 → Digits (decimal n)
Digits-decimal n fits =
    decimal_by_steps (λ n ds. Digits ds) (λ n small. (omega arith, tt)) (λ n ds large digits. Digits-push ds (n % 10) digits) n fits

pub head_same : (x y : ℕ) (a b : List ℕ) → x ∷ a ≡ y ∷ b → x ≡ y
head_same x y a b e = cc

pub tail_same : (x y : ℕ) (a b : List ℕ) → x ∷ a ≡ y ∷ b → a ≡ b
tail_same x y a b e = cc

-- the same front
pub cancel : (front a b : List ℕ) → front ++ a ≡ front ++ b → a ≡ b
cancel [] a b e = e
cancel (x ∷ xs) a b e = cancel xs a b (tail_same x x (xs ++ a) (xs ++ b) e)

-- digits, and then what is none
digits_cut : (a b r s : List ℕ) → Digits a → Digits b → Stops r → Stops s → a ++ r ≡ b ++ s → (a ≡ b) × (r ≡ s)
digits_cut [] [] r s da db pr ps e = (refl, e)
digits_cut [] (y ∷ b) [] s da db pr ps e = cc
digits_cut [] (y ∷ b) (x ∷ r) s da db pr ps e = let same : x ≡ y = head_same x y r (b ++ s) e in absurd (omega (arith, db.0))
digits_cut (x ∷ a) [] r [] da db pr ps e = cc
digits_cut (x ∷ a) [] r (y ∷ s) da db pr ps e = let same : x ≡ y = head_same x y (a ++ r) s e in absurd (omega (arith, da.0))
digits_cut (x ∷ a) (y ∷ b) r s da db pr ps e =
    let same : x ≡ y = head_same x y (a ++ r) (b ++ s) e in
    let rest : (a ≡ b) × (r ≡ s) = digits_cut a b r s da.1 db.1 pr ps (tail_same x y (a ++ r) (b ++ s) e) in
    (ap (λ z. z ∷ a) same ∙ ap (λ t. y ∷ t) rest.0, rest.1)

pub number_cut : (m n : ℕ) (r s : List ℕ) → m < 2 ^ 64 → n < 2 ^ 64 → Stops r → Stops s → decimal m ++ r ≡ decimal n ++ s → (m ≡ n) × (r ≡ s)
number_cut m n r s fm fn pr ps e =
    let both : (decimal m ≡ decimal n) × (r ≡ s) = digits_cut (decimal m) (decimal n) r s (Digits-decimal m fm) (Digits-decimal n fn) pr ps e in
    (decimal_injective m n fm fn both.0, both.1)

-- names with their numbers
abbrev pub CountsFit : List (List ℕ × ℕ) → Type 0
CountsFit [] = Unit {0}
CountsFit (c ∷ cs) = (c.1 < 2 ^ 64) × CountsFit cs

abbrev pub SameNames : List (List ℕ × ℕ) → List (List ℕ × ℕ) → Type 0
SameNames [] [] = Unit {0}
SameNames [] (d ∷ ds) = ⊥
SameNames (c ∷ cs) [] = ⊥
SameNames (c ∷ cs) (d ∷ ds) = (c.0 ≡ d.0) × SameNames cs ds

count_parts : (name digits rest r : List ℕ)
    → ((codes " " ++ name ++ codes " " ++ digits) ++ rest) ++ r ≡ 32 ∷ (name ++ (32 ∷ (digits ++ (rest ++ r))))
count_parts name digits rest r = simp append_assoc

count_right : (c : List ℕ × ℕ) (cs : List (List ℕ × ℕ)) (r : List ℕ)
    → counts_text (c ∷ cs) ++ r ≡ 32 ∷ (c.0 ++ (32 ∷ (decimal c.1 ++ (counts_text cs ++ r))))
count_right c cs r = count_parts c.0 (decimal c.1) (counts_text cs) r

counts_stop : (cs : List (List ℕ × ℕ)) (r : List ℕ) → Stops r → Stops (counts_text cs ++ r)
counts_stop [] r stops = stops
counts_stop (c ∷ cs) r stops = subst Stops (sym (count_right c cs r)) (omega arith)

pub counts_cut : (cs ds : List (List ℕ × ℕ)) (r s : List ℕ) → SameNames cs ds → CountsFit cs → CountsFit ds → Stops r → Stops s
    → counts_text cs ++ r ≡ counts_text ds ++ s → (cs ≡ ds) × (r ≡ s)
counts_cut [] [] r s names fc fd pr ps e = (refl, e)
counts_cut [] (d ∷ ds) r s names fc fd pr ps e = absurd names
counts_cut (c ∷ cs) [] r s names fc fd pr ps e = absurd names
counts_cut (c ∷ cs) (d ∷ ds) r s names fc fd pr ps e =
    let R = counts_text cs ++ r in
    let S = counts_text ds ++ s in
    let right : 32 ∷ (c.0 ++ (32 ∷ (decimal c.1 ++ R))) ≡ 32 ∷ (d.0 ++ (32 ∷ (decimal d.1 ++ S))) =
    sym (count_right c cs r) ∙ e ∙ count_right d ds s in
    let named : c.0 ++ (32 ∷ (decimal c.1 ++ R)) ≡ c.0 ++ (32 ∷ (decimal d.1 ++ S)) =
    tail_same 32 32 _ _ right ∙ ap (λ name. name ++ (32 ∷ (decimal d.1 ++ S))) (sym names.0) in
    let number : (c.1 ≡ d.1) × (R ≡ S) = number_cut c.1 d.1 R S fc.0 fd.0 (counts_stop cs r pr) (counts_stop ds s ps)
    (tail_same 32 32 _ _ (cancel c.0 (32 ∷ (decimal c.1 ++ R)) (32 ∷ (decimal d.1 ++ S)) named)) in
    let rest : (cs ≡ ds) × (r ≡ s) = counts_cut cs ds r s names.1 fc.1 fd.1 pr ps number.1 in
    let one : c ≡ d = ap (λ name. (name, c.1)) names.0 ∙ ap (λ n. (d.0, n)) number.0 in
    (ap (λ x. x ∷ cs) one ∙ ap (λ t. d ∷ t) rest.0, rest.1)

-- a line
pub line_right : (kind : List ℕ) (port : ℕ) (cs : List (List ℕ × ℕ)) (r : List ℕ)
    → line_of kind port cs ++ r ≡ kind ++ (32 ∷ (decimal port ++ (counts_text cs ++ (10 ∷ r))))
line_right kind port cs r = simp append_assoc

pub line_cut : (kind : List ℕ) (p q : ℕ) (cs ds : List (List ℕ × ℕ)) (r s : List ℕ) → SameNames cs ds → p < 2 ^ 64 → q < 2 ^ 64
    → CountsFit cs → CountsFit ds → line_of kind p cs ++ r ≡ line_of kind q ds ++ s → (p ≡ q) × (cs ≡ ds) × (r ≡ s)
line_cut kind p q cs ds r s names fp fq fc fd e =
    let R = counts_text cs ++ (10 ∷ r) in
    let S = counts_text ds ++ (10 ∷ s) in
    let right : kind ++ (32 ∷ (decimal p ++ R)) ≡ kind ++ (32 ∷ (decimal q ++ S)) = sym (line_right kind p cs r) ∙ e ∙ line_right kind q ds s in
    let number : (p ≡ q) × (R ≡ S) = number_cut p q R S fp fq (counts_stop cs (10 ∷ r) (omega arith)) (counts_stop ds (10 ∷ s) (omega arith))
    (tail_same 32 32 _ _ (cancel kind (32 ∷ (decimal p ++ R)) (32 ∷ (decimal q ++ S)) right)) in
    let rest : (cs ≡ ds) × (10 ∷ r ≡ 10 ∷ s) = counts_cut cs ds (10 ∷ r) (10 ∷ s) names fc fd (omega arith) (omega arith) number.1 in
    (number.0, rest.0, tail_same 10 10 r s rest.1)
