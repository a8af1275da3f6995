-- How bytes end, and that they end in one way.
use Rattle.std.proofs.Common.{◌≡◌, ◌≢◌, ◌⊎◌, inl, inr, ⊎_elim, ℕ, ◌+◌, ◌-◌, ◌<◌, ◌≤◌, List, [], ◌∷◌, ◌++◌, Option, None, Some, length, take, drop, map, All, refl, sym, ap, ◌∙◌, subst, arith, append_assoc, append-nil, take-append-drop}
use Rattle.std.specs.List.{Contains, flat_map}
use Rattle.std.proofs.lemmas.Bool.{cases_lt, cases_order}
use Rattle.std.proofs.lemmas.List.{length-append, nil_from_length, take-append-le, take_all, take-take}
use Rattle.std.proofs.Math.Seq.{take-append-add}
use Rattle.fg_proof.specs.declared.case.Case.{Case}
use Rattle.fg_proof.specs.Text.{Line, IsWritable, cases_text, line_text, lines_of}
use Rattle.fg_check.specs.Checked.{CheckEnding, Whole, NotCase, TooLong, EndsEarly, IsChecked, IsFirstUnfit, IsNotCase, IsTooLong}
use Rattle.fg_check.specs.Laws.{OneCheck}
use Rattle.fg_check.specs.Split.{AreWhole, Fit, IsSplit, ended, texts_of}
use Rattle.fg_check.specs.Steps.{Stands}
use Rattle.fg_check.proofs.Grammar.{stands_fit}
use Rattle.fg_check.proofs.Splits.{Lack, ended_append, lines_front, split_once, texts_split}
use Rattle.fg_check.proofs.Wholes.{fit_front, fit_take, fit_texts, stands_all, stands_whole, whole_but_last, whole_front, whole_once, whole_texts}

-- A whole text has the lines of its cases

whole_split : (max : ℕ) (bytes : List ℕ) (cases : List Case) → length bytes ≤ max → All IsWritable cases → bytes ≡ cases_text cases → IsSplit (take max bytes) (texts_of cases) []
whole_split max bytes cases few h same =
    subst (λ (t : List ℕ). IsSplit t (texts_of cases) []) (sym (take_all max bytes few ∙ same)) (texts_split cases h)

-- Two endings of a kind

one_whole : (max : ℕ) (bytes : List ℕ) (one other : List Case) → IsChecked max bytes one Whole → IsChecked max bytes other Whole → one ≡ other
one_whole max bytes one other h k =
    let both = split_once (take max bytes) (texts_of one) (texts_of other) [] [] (whole_split max bytes one h.0 h.1 h.2) (whole_split max bytes other k.0 k.1 k.2) in
    whole_once (texts_of one) one other (whole_texts one h.1) (subst (λ (l : List (List ℕ)). AreWhole l other) (sym both.0) (whole_texts other k.1))

-- the first that doesn't fit
unfit_before : (lines : List (List ℕ)) (n k : ℕ) → IsFirstUnfit lines n → Fit (take k lines) → n < k → ⊥
unfit_before lines n k h fit more =
    h.unfit (subst Fit (take-take (n + 1) k lines (omega arith)) (fit_take (n + 1) (take k lines) fit))

unfit_of_all : (lines : List (List ℕ)) (n : ℕ) → IsFirstUnfit lines n → Fit lines → ⊥
unfit_of_all lines n h fit = h.unfit (fit_take (n + 1) lines fit)

one_unfit : (lines : List (List ℕ)) (n k : ℕ) → IsFirstUnfit lines n → IsFirstUnfit lines k → n ≡ k
one_unfit lines n k h other =
    ⊎_elim (λ (same : n ≡ k). same)
    (λ (apart : (n < k) ⊎ (k < n)).
    ⊎_elim (λ (less : n < k). absurd (unfit_before lines n k h other.fit less)) (λ (less : k < n). absurd (unfit_before lines k n other h.fit less)) apart)
    (cases_order n k)

one_early : (lines : List (List ℕ)) (rest : List ℕ) (n k : ℕ) → EndsEarly lines rest n → EndsEarly lines rest k → n ≡ k
one_early lines rest n k h other =
    ⊎_elim
    (λ (mine : (rest ≢ []) × (n ≡ length lines)).
    ⊎_elim (λ (theirs : (rest ≢ []) × (k ≡ length lines)). mine.1 ∙ sym theirs.1)
    (λ (theirs : (rest ≡ []) × (k + 1 ≡ length lines) × ((cases : List Case) → All IsWritable cases → lines ≢ texts_of cases)). absurd (mine.0 theirs.0)) other.last)
    (λ (mine : (rest ≡ []) × (n + 1 ≡ length lines) × ((cases : List Case) → All IsWritable cases → lines ≢ texts_of cases)).
    ⊎_elim (λ (theirs : (rest ≢ []) × (k ≡ length lines)). absurd (theirs.0 mine.0))
    (λ (theirs : (rest ≡ []) × (k + 1 ≡ length lines) × ((cases : List Case) → All IsWritable cases → lines ≢ texts_of cases)).
    let here = mine.1 in let there = theirs.1 in omega (arith, here, there)) other.last)
    h.last

one_number : (max : ℕ) (bytes : List ℕ) (lines : List (List ℕ)) (rest : List ℕ) (n k : ℕ)
    → IsFirstUnfit lines n ⊎ ((length bytes ≤ max) × EndsEarly lines rest n) → IsFirstUnfit lines k ⊎ ((length bytes ≤ max) × EndsEarly lines rest k) → n ≡ k
one_number max bytes lines rest n k (inl h) (inl other) = one_unfit lines n k h other
one_number max bytes lines rest n k (inl h) (inr other) = absurd (unfit_of_all lines n h other.1.fit)
one_number max bytes lines rest n k (inr h) (inl other) = absurd (unfit_of_all lines k other h.1.fit)
one_number max bytes lines rest n k (inr h) (inr other) = one_early lines rest n k h.1 other.1

one_not_case : (max : ℕ) (bytes : List ℕ) (one other : List Case) (n k : ℕ) → IsNotCase max bytes one n → IsNotCase max bytes other k → (one ≡ other) × (n ≡ k)
one_not_case max bytes one other n k h b =
    let both = split_once (take max bytes) b.lines h.lines b.rest h.rest b.split h.split in
    let P : List (List ℕ) → Type 0 = λ l. IsFirstUnfit l k ⊎ ((length bytes ≤ max) × EndsEarly l b.rest k) in
    let Q : List ℕ → Type 0 = λ r. IsFirstUnfit h.lines k ⊎ ((length bytes ≤ max) × EndsEarly h.lines r k) in
    let theirs : Q h.rest = subst Q both.1 (subst P both.0 b.first) in
    let same : n ≡ k = one_number max bytes h.lines h.rest n k h.first theirs in
    let whole : AreWhole (take k h.lines) other = subst (λ (l : List (List ℕ)). AreWhole (take k l) other) both.0 b.whole in
    (whole_once (take k h.lines) one other (subst (λ m. AreWhole (take m h.lines) one) same h.whole) whole, same)

one_too_long : (max : ℕ) (bytes : List ℕ) (one other : List Case) (n k : ℕ) → IsTooLong max bytes one n → IsTooLong max bytes other k → (one ≡ other) × (n ≡ k)
one_too_long max bytes one other n k h b =
    let both = split_once (take max bytes) b.lines h.lines b.rest h.rest b.split h.split in (
      whole_once h.lines one other h.whole (subst (λ (l : List (List ℕ)). AreWhole l other) both.0 b.whole),
      h.place ∙ sym (b.place ∙ ap (λ (l : List (List ℕ)). length (ended l)) both.0),
    )

-- Two endings of two kinds

whole_or_not : (max : ℕ) (bytes : List ℕ) (one other : List Case) (n : ℕ) → IsChecked max bytes one Whole → IsNotCase max bytes other n → ⊥
whole_or_not max bytes one other n h k =
    let both = split_once (take max bytes) k.lines (texts_of one) k.rest [] k.split (whole_split max bytes one h.0 h.1 h.2) in
    let fit : Fit k.lines = subst Fit (sym both.0) (fit_texts one h.1) in
    ⊎_elim (λ (first : IsFirstUnfit k.lines n). unfit_of_all k.lines n first fit)
    (λ (early : (length bytes ≤ max) × EndsEarly k.lines k.rest n).
    ⊎_elim (λ (last : (k.rest ≢ []) × (n ≡ length k.lines)). last.0 both.1)
    (λ (last : (k.rest ≡ []) × (n + 1 ≡ length k.lines) × ((cases : List Case) → All IsWritable cases → k.lines ≢ texts_of cases)). last.2 one h.1 both.0) early.1.last)
    k.first

not_or_long : (max : ℕ) (bytes : List ℕ) (one other : List Case) (n k : ℕ) → IsNotCase max bytes one n → IsTooLong max bytes other k → ⊥
not_or_long max bytes one other n k h b =
    let both = split_once (take max bytes) b.lines h.lines b.rest h.rest b.split h.split in
    let fit : Fit h.lines = subst Fit both.0 b.fit in
    let longer = b.longer in
    ⊎_elim (λ (first : IsFirstUnfit h.lines n). unfit_of_all h.lines n first fit)
    (λ (early : (length bytes ≤ max) × EndsEarly h.lines h.rest n). let few = early.0 in absurd (omega (arith, few, longer))) h.first

pub one_check : OneCheck
one_check max bytes one other Whole Whole h k = (one_whole max bytes one other h k, refl)
one_check max bytes one other Whole (NotCase n) h k = absurd (whole_or_not max bytes one other n h k)
one_check max bytes one other Whole (TooLong n) h k = let few = h.0 in let longer = k.longer in absurd (omega (arith, few, longer))
one_check max bytes one other (NotCase n) Whole h k = absurd (whole_or_not max bytes other one n k h)
one_check max bytes one other (NotCase n) (NotCase m) h k = let both = one_not_case max bytes one other n m h k in (both.0, ap (λ i. NotCase i) both.1)
one_check max bytes one other (NotCase n) (TooLong m) h k = absurd (not_or_long max bytes one other n m h k)
one_check max bytes one other (TooLong n) Whole h k = let few = k.0 in let longer = h.longer in absurd (omega (arith, few, longer))
one_check max bytes one other (TooLong n) (NotCase m) h k = absurd (not_or_long max bytes other one m n k h)
one_check max bytes one other (TooLong n) (TooLong m) h k = let both = one_too_long max bytes one other n m h k in (both.0, ap (λ i. TooLong i) both.1)

-- The cases of the first lines are the first of all

-- lines that are whole within the limit
within : (max : ℕ) (bytes more : List ℕ) (lines : List (List ℕ)) → bytes ≡ ended lines ++ more → length (ended lines) ≤ max → (rest : List ℕ) × (take max bytes ≡ ended lines ++ rest)
within max bytes more lines is few =
    let k : ℕ = max - length (ended lines) in
    let split : length (ended lines) + k ≡ max = omega arith in
    (take k more, ap (λ (t : List ℕ). take max t) is ∙ ap (λ m. take m (ended lines ++ more)) (sym split) ∙ take-append-add (ended lines) more k)

first_of_split : (max : ℕ) (bytes more : List ℕ) (lines all : List (List ℕ)) (rest : List ℕ) → bytes ≡ ended lines ++ more → length (ended lines) ≤ max → All Lack lines → IsSplit (take max bytes) all rest
    → (later : List (List ℕ)) × (all ≡ lines ++ later)
first_of_split max bytes more lines all rest is few lack h =
    let front = within max bytes more lines is few in
    let found = lines_front all lines rest front.0 h.lines_lack h.rest_lacks lack (sym h.is ∙ front.1) in
    (found.0, found.1)

take_front : (n : ℕ) (lines later : List (List ℕ)) → length lines ≤ n → (more : List (List ℕ)) × (take n (lines ++ later) ≡ lines ++ more)
take_front n lines later few =
    let k : ℕ = n - length lines in
    let split : length lines + k ≡ n = omega arith in
    (take k later, ap (λ m. take m (lines ++ later)) (sym split) ∙ take-append-add lines later k)

-- where the lines stand
cases_of_front : (lines later : List (List ℕ)) (cases all : List Case) (opened : Option Case) → Stands lines cases opened → AreWhole (lines ++ later) all → (more : List Case) × (all ≡ cases ++ more)
cases_of_front lines later cases all opened h k = whole_front lines later cases all (stands_whole lines cases opened h) k

not_case_front : (n : ℕ) (lines later : List (List ℕ)) (cases all : List Case) (opened : Option Case) → Stands lines cases opened → length lines ≤ n → AreWhole (take n (lines ++ later)) all
    → (more : List Case) × (all ≡ cases ++ more)
not_case_front n lines later cases all opened h few k =
    let front = take_front n lines later few in
    cases_of_front lines front.0 cases all opened h (subst (λ (l : List (List ℕ)). AreWhole l all) front.1 k)

-- where the last of them is the one at which the text ends
at_last : (n : ℕ) (lines : List (List ℕ)) (cases all : List Case) (opened : Option Case) → Stands lines cases opened → n + 1 ≡ length lines
    → ((cs : List Case) → All IsWritable cs → ¬ (lines ≡ texts_of cs)) → AreWhole (take n lines) all → (more : List Case) × (all ≡ cases ++ more)
at_last n lines cases all None h last other k = absurd (other cases h.writable (stands_all lines cases h))
at_last n lines cases all (Some case) h last other k =
    ([], whole_once (take n lines) all cases k (whole_but_last lines cases case n h last) ∙ sym (append-nil cases))

early_front : (n : ℕ) (lines later : List (List ℕ)) (rest : List ℕ) (cases all : List Case) (opened : Option Case) → Stands lines cases opened → EndsEarly (lines ++ later) rest n
    → AreWhole (take n (lines ++ later)) all → (more : List Case) × (all ≡ cases ++ more)
early_front n lines later rest cases all opened h early k =
    ⊎_elim
    (λ (last : (rest ≢ []) × (n ≡ length (lines ++ later))).
    not_case_front n lines later cases all opened h (let same = last.1 in omega (arith, same, length-append lines later)) k)
    (λ (last : (rest ≡ []) × (n + 1 ≡ length (lines ++ later)) × ((cs : List Case) → All IsWritable cs → (lines ++ later) ≢ texts_of cs)).
    ⊎_elim
    (λ (past : n < length lines).
    let same = last.1 in
    let none : later ≡ [] = nil_from_length later (omega (arith, same, past, length-append lines later)) in
    let all_lines : lines ++ later ≡ lines = ap (λ (l : List (List ℕ)). lines ++ l) none ∙ append-nil lines in
    at_last n lines cases all opened h (omega (arith, same, past, length-append lines later))
    (subst (λ (l : List (List ℕ)). (cs : List Case) → All IsWritable cs → ¬ (l ≡ texts_of cs)) all_lines last.2)
    (subst (λ (l : List (List ℕ)). AreWhole (take n l) all) all_lines k))
    (λ (few : length lines ≤ n). not_case_front n lines later cases all opened h few k)
    (cases_lt n (length lines)))
    early.last

unfit_front : (n : ℕ) (lines later : List (List ℕ)) (cases all : List Case) (opened : Option Case) → Fit lines → Stands lines cases opened → IsFirstUnfit (lines ++ later) n
    → AreWhole (take n (lines ++ later)) all → (more : List Case) × (all ≡ cases ++ more)
unfit_front n lines later cases all opened fit h first k =
    ⊎_elim
    (λ (past : n < length lines).
    absurd (first.unfit (subst Fit (sym (take-append-le (n + 1) lines later (omega (arith, past)))) (fit_take (n + 1) lines fit))))
    (λ (few : length lines ≤ n). not_case_front n lines later cases all opened h few k)
    (cases_lt n (length lines))

pub front_checked : (max : ℕ) (bytes more : List ℕ) (lines : List (List ℕ)) (cases all : List Case) (opened : Option Case) (end : CheckEnding)
    → bytes ≡ ended lines ++ more → length (ended lines) ≤ max → All Lack lines → Stands lines cases opened → IsChecked max bytes all end
    → (later : List Case) × (all ≡ cases ++ later)
front_checked max bytes more lines cases all opened Whole is few lack h k =
    let found = first_of_split max bytes more lines (texts_of all) [] is few lack (whole_split max bytes all k.0 k.1 k.2) in
    cases_of_front lines found.0 cases all opened h (subst (λ (l : List (List ℕ)). AreWhole l all) found.1 (whole_texts all k.1))
front_checked max bytes more lines cases all opened (NotCase n) is few lack h k =
    let found = first_of_split max bytes more lines k.lines k.rest is few lack k.split in
    let whole : AreWhole (take n (lines ++ found.0)) all = subst (λ (l : List (List ℕ)). AreWhole (take n l) all) found.1 k.whole in
    ⊎_elim
    (λ (first : IsFirstUnfit k.lines n). unfit_front n lines found.0 cases all opened (stands_fit lines cases opened h) h (subst (λ (l : List (List ℕ)). IsFirstUnfit l n) found.1 first) whole)
    (λ (early : (length bytes ≤ max) × EndsEarly k.lines k.rest n).
    early_front n lines found.0 k.rest cases all opened h (subst (λ (l : List (List ℕ)). EndsEarly l k.rest n) found.1 early.1) whole)
    k.first
front_checked max bytes more lines cases all opened (TooLong n) is few lack h k =
    let found = first_of_split max bytes more lines k.lines k.rest is few lack k.split in
    cases_of_front lines found.0 cases all opened h (subst (λ (l : List (List ℕ)). AreWhole l all) found.1 k.whole)
