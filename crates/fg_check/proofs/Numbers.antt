-- Lemmas on numbers in decimal.
use Rattle.std.proofs.Common.{◌≡◌, ◌≢◌, ℕ, zero, suc, ◌+◌, ◌-◌, ◌*◌, ◌<◌, ◌≤◌, ◌^◌, List, [], ◌∷◌, ◌++◌, get_or, length, take, All, refl, sym, ap, ◌∙◌, subst, arith}
use Rattle.std.specs.Fmt.{decimal}
use Rattle.std.specs.Int.{IsInRange}
use Rattle.std.specs.List.{Contains}
use Rattle.std.specs.Str.Parse.{AllDigits, digits_value}
use Rattle.std.specs.Char.{digit_value}
use Rattle.std.proofs.lemmas.Str.{digit_value_digit}
use Rattle.std.proofs.lemmas.Str.Parse.{IsNumeralModel, numerals_by_value, tells_digits, digit_at, digits_value_short}
use Rattle.std.proofs.lemmas.Int.Digits.{digits_more, digits_value_more, digits_value-lt}
use Rattle.std.proofs.lemmas.Fmt.{decimal-digits_value, decimal_digit, decimal_injective, digits_decimal, first_decimal, length-decimal-le, decimal_nonempty}
use Rattle.std.proofs.lemmas.List.{length-take, get_or_default}
use Rattle.std.proofs.lemmas.List.Elements.{All-head, All-cons, All-nil}
use Rattle.fg_proof.specs.Text.{number_limit}
use Rattle.fg_check.specs.Line.{AreNumbers, BeginsPlain}

own : IsNumeralModel (AllDigits 10) (digits_value 10)
own = numerals_by_value _ tells_digits

pub fits_word : (n : ℕ) → n < number_limit → n < 2 ^ 64
fits_word n small = omega arith

-- of the digits of a text: one more
pub one_more_digit : (text : List ℕ) (i number digit : ℕ) → i < length text → IsInRange 48 57 (get_or text i 0) → digit + 48 ≡ get_or text i 0
    → AllDigits 10 (take i text) → number ≡ digits_value 10 (take i text)
    → AllDigits 10 (take (i + 1) text) × (number * 10 + digit ≡ digits_value 10 (take (i + 1) text))
one_more_digit text i number digit within is value digits known =
    let same = digit_value_digit (get_or text i 0) is in
    let high = is.1 in
    let small : digit_value (get_or text i 0) < 10 = omega (arith, same, high) in (
      digits_more 10 text i within digits small,
      omega (arith, digits_value_more 10 text i within, same, value, known),
    )

-- at most 18 digits are far below the limit of a word
pub few_digits : (text : List ℕ) (i number : ℕ) → i < length text → length text ≤ 19 → AllDigits 10 (take i text) → number ≡ digits_value 10 (take i text) → number < 10 ^ 18
few_digits text i number within few digits known =
    let short = digits_value_short own (take i text) 18 digits (omega (arith, length-take i text)) in
    omega (arith, short, known)

pub number_read : (text : List ℕ) (number : ℕ) → length text ≤ 19 → BeginsPlain text → AllDigits 10 text → number ≡ digits_value 10 text → AreNumbers text (number ∷ [])
number_read text number few plain digits known =
    let small : digits_value 10 text < number_limit = digits_value_short own text 19 digits few in
    let spelled : decimal (digits_value 10 text) ≡ text = decimal-digits_value own text digits (let some = plain.some in omega arith) plain.zero (fits_word (digits_value 10 text) small) in
    record {
      is = sym spelled ∙ ap decimal (sym known);
      fit = All-cons (λ n. n < number_limit) number [] (omega (arith, small, known)) (All-nil (λ n. n < number_limit));
    }

-- what a number's text is like

first_fits : (text : List ℕ) (number : ℕ) → AreNumbers text (number ∷ []) → number < 2 ^ 64
first_fits text number h = fits_word number (All-head (λ n. n < number_limit) number [] h.fit)

pub number_is_digits : (text : List ℕ) (number : ℕ) → AreNumbers text (number ∷ []) → AllDigits 10 text
number_is_digits text number h = subst (λ (t : List ℕ). AllDigits 10 t) (sym h.is) (digits_decimal own number (first_fits text number h))

pub number_is_short : (text : List ℕ) (number : ℕ) → AreNumbers text (number ∷ []) → length text ≤ 19
number_is_short text number h =
    let short = length-decimal-le 19 number (omega arith) (All-head (λ n. n < number_limit) number [] h.fit) (first_fits text number h) in
    omega (arith, short, ap (λ (t : List ℕ). length t) h.is)

plain_is : (text other : List ℕ) → text ≡ other → BeginsPlain other → BeginsPlain text
plain_is text other same h = let P : List ℕ → Type 0 = λ t. BeginsPlain t in subst P (sym same) h

plain_decimal : (n : ℕ) → n < 2 ^ 64 → BeginsPlain (decimal n)
plain_decimal zero small = plain_is (decimal 0) (48 ∷ []) (decimal_digit 0 (omega arith)) (record { some = omega arith; zero = λ _. refl })
plain_decimal (suc n) small =
    let first : 48 < get_or (decimal (suc n)) 0 0 = first_decimal (suc n) (omega arith) small in
    record {
      some = let some = decimal_nonempty (suc n) small in omega (arith, some);
      zero = λ z. absurd (omega (arith, z, first));
    }

pub number_is_plain : (text : List ℕ) (number : ℕ) → AreNumbers text (number ∷ []) → BeginsPlain text
number_is_plain text number h = plain_is text (decimal number) h.is (plain_decimal number (first_fits text number h))

-- no byte of a number is another than a digit
pub lacks_others : (number other : ℕ) → number < 2 ^ 64 → (¬ IsInRange 48 57 other) → ¬ Contains (decimal number) other
lacks_others number other small out h =
    let digit = digit_at (decimal number) h.0 (digits_decimal own number small) h.1 in
    out (subst (λ n. IsInRange 48 57 n) (get_or_default (decimal number) h.0 0 other h.1 ∙ h.2) digit)

pub number_digit : (text : List ℕ) (number i : ℕ) → AreNumbers text (number ∷ []) → i < length text → IsInRange 48 57 (get_or text i 0)
number_digit text number i h within = digit_at text i (number_is_digits text number h) within

pub one_number : (text : List ℕ) (one other : ℕ) → AreNumbers text (one ∷ []) → AreNumbers text (other ∷ []) → one ≡ other
one_number text one other h k = decimal_injective one other (first_fits text one h) (first_fits text other k) (sym h.is ∙ k.is)
