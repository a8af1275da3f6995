-- Lemmas on the text of a line.
use Rattle.std.proofs.Common.{◌≡◌, ◌≢◌, ◌⊎◌, inl, inr, ℕ, ◌+◌, ◌-◌, ◌<◌, ◌≤◌, ◌^◌, List, [], ◌∷◌, ◌++◌, Option, None, Some, MatchOption, get_or, length, take, drop, All, codes, refl, sym, ap, ◌∙◌, subst, arith, append_assoc}
use Rattle.std.specs.Fmt.{decimal}
use Rattle.std.specs.List.{Contains}
use Rattle.std.proofs.lemmas.List.{append_cancel_left, get_or_append_left, length-append, take_rest}
use Rattle.std.proofs.lemmas.List.Elements.{All-head, All-tail, All-cons, All-nil}
use Rattle.fg_shape.specs.declared.Shape.{Shape}
use Rattle.fg_proof.specs.Text.{Line, Head, Known, Rule, Open, End, line_text, number_limit, spelled}
use Rattle.fg_check.specs.Line.{AreNumbers, FitsFields, IsFirstPlace, IsLine, numbers_text}
use Rattle.fg_check.proofs.Cuts.{cut_alone, cut_there, in_middle, lacks_append, lacks_by, lacks_cons, one_cut}
use Rattle.std.proofs.lemmas.Fmt.{decimal_injective, length-decimal-le}
use Rattle.fg_check.proofs.Numbers.{fits_word, lacks_others, one_number}

-- a number holds no blank
pub no_blank : (number : ℕ) → number < number_limit → ¬ Contains (decimal number) 32
no_blank number small = lacks_others number 32 (fits_word number small) (λ h. let low = h.0 in absurd (omega arith))

one_fits : (number : ℕ) (more : List ℕ) → All (λ n. n < number_limit) (number ∷ more) → number < number_limit
one_fits number more h = All-head (λ n. n < number_limit) number more h

-- a number and those behind a blank are those of the whole
pub numbers_join : (text : List ℕ) (place first second : ℕ) (more : List ℕ) → IsFirstPlace 32 text place
    → AreNumbers (take place text) (first ∷ []) → AreNumbers (drop (place + 1) text) (second ∷ more) → AreNumbers text (first ∷ second ∷ more)
numbers_join text place first second more at front rest = record {
  is = cut_there 32 text place at ∙ ap (λ (t : List ℕ). t ++ 32 ∷ drop (place + 1) text) front.is
      ∙ ap (λ (t : List ℕ). decimal first ++ 32 ∷ t) rest.is;
  fit = All-cons (λ n. n < number_limit) first (second ∷ more) (one_fits first [] front.fit) rest.fit;
}

-- and the whole has no others
pub numbers_part : (text : List ℕ) (place first second : ℕ) (more : List ℕ) → IsFirstPlace 32 text place → AreNumbers text (first ∷ second ∷ more)
    → AreNumbers (take place text) (first ∷ []) × AreNumbers (drop (place + 1) text) (second ∷ more)
numbers_part text place first second more at h =
    let small = one_fits first (second ∷ more) h.fit in
    let both = cut_alone 32 text (decimal first) (numbers_text (second ∷ more)) place at (no_blank first small) h.is in (
      record { is = both.0; fit = All-cons (λ n. n < number_limit) first [] small (All-nil (λ n. n < number_limit)) },
      record { is = both.1; fit = All-tail (λ n. n < number_limit) first (second ∷ more) h.fit },
    )

-- two numbers have a blank between them
pub numbers_blank : (text : List ℕ) (first second : ℕ) (more : List ℕ) → AreNumbers text (first ∷ second ∷ more) → Contains text 32
numbers_blank text first second more h =
    subst (λ (t : List ℕ). Contains t 32) (sym h.is) (in_middle 32 (decimal first) (numbers_text (second ∷ more)))

-- at an answer that is nothing
pub at_none : {A : Type 0} (answer : Option A) (P : Type 0) (Q : A → Type 0) → answer ≡ None → P → MatchOption answer P Q
at_none answer P Q is h = subst (λ o. MatchOption o P Q) (sym is) h

-- the numbers at the end of a text
pub numbers_rest : (text : List ℕ) (n : ℕ) (numbers : List ℕ) → AreNumbers (take (length text - n) (drop n text)) numbers → AreNumbers (drop n text) numbers
numbers_rest text n numbers h = subst (λ (t : List ℕ). AreNumbers t numbers) (take_rest text n) h

pub numbers_back : (text : List ℕ) (n : ℕ) (numbers : List ℕ) → AreNumbers (drop n text) numbers → AreNumbers (take (length text - n) (drop n text)) numbers
numbers_back text n numbers h = subst (λ (t : List ℕ). AreNumbers t numbers) (sym (take_rest text n)) h

-- Lines as words and numbers

head_text : (port mark count : ℕ) → line_text (Head port mark count) ≡ codes "case " ++ numbers_text (port ∷ mark ∷ count ∷ [])
unfolding line_text
head_text port mark count = ap (λ (t : List ℕ). codes "case " ++ t) (append_assoc (decimal port) (32 ∷ decimal mark) (32 ∷ decimal count))

known_text : (run : ℕ × ℕ) → line_text (Known run) ≡ codes "known " ++ numbers_text (run.0 ∷ run.1 ∷ [])
unfolding line_text
known_text run = refl

rule_text : (rule : ℕ × Shape) → line_text (Rule rule) ≡ codes "line " ++ numbers_text (rule.0 ∷ rule.1.offset ∷ rule.1.na ∷ [])
unfolding line_text
rule_text rule = ap (λ (t : List ℕ). codes "line " ++ t) (append_assoc (decimal rule.0) (32 ∷ decimal rule.1.offset) (32 ∷ decimal rule.1.na))

open_text : (run : ℕ × ℕ) → line_text (Open run) ≡ codes "open " ++ numbers_text (run.0 ∷ run.1 ∷ [])
unfolding line_text
open_text run = refl

end_text : line_text End ≡ codes "end"
unfolding line_text
end_text = refl

-- the numbers behind a word
after_word : (word text rest numbers : List ℕ) → text ≡ word ++ rest → text ≡ word ++ numbers_text numbers → All (λ n. n < number_limit) numbers → AreNumbers rest numbers
after_word word text rest numbers there is fit =
    record { is = append_cancel_left word rest (numbers_text numbers) (sym there ∙ is); fit = fit }

all_two : (a b : ℕ) → a < number_limit → b < number_limit → All (λ n. n < number_limit) (a ∷ b ∷ [])
all_two a b one two =
    All-cons (λ n. n < number_limit) a (b ∷ []) one (All-cons (λ n. n < number_limit) b [] two (All-nil (λ n. n < number_limit)))

all_three : (a b c : ℕ) → a < number_limit → b < number_limit → c < number_limit → All (λ n. n < number_limit) (a ∷ b ∷ c ∷ [])
all_three a b c one two three = All-cons (λ n. n < number_limit) a (b ∷ c ∷ []) one (all_two b c two three)

first_of : (numbers : List ℕ) (a : ℕ) → All (λ n. n < number_limit) (a ∷ numbers) → a < number_limit
first_of numbers a h = All-head (λ n. n < number_limit) a numbers h

second_of : (numbers : List ℕ) (a b : ℕ) → All (λ n. n < number_limit) (a ∷ b ∷ numbers) → b < number_limit
second_of numbers a b h = first_of numbers b (All-tail (λ n. n < number_limit) a (b ∷ numbers) h)

pub head_numbers : (text rest : List ℕ) (port mark count : ℕ) → text ≡ codes "case " ++ rest → IsLine text (Head port mark count) → AreNumbers rest (port ∷ mark ∷ count ∷ [])
head_numbers text rest port mark count there h =
    after_word (codes "case ") text rest (port ∷ mark ∷ count ∷ []) there (h.is ∙ head_text port mark count)
    (all_three port mark count (omega (arith, h.fits.0)) h.fits.1 (omega (arith, h.fits.2)))

pub known_numbers : (text rest : List ℕ) (run : ℕ × ℕ) → text ≡ codes "known " ++ rest → IsLine text (Known run) → AreNumbers rest (run.0 ∷ run.1 ∷ [])
known_numbers text rest run there h = after_word (codes "known ") text rest (run.0 ∷ run.1 ∷ []) there (h.is ∙ known_text run) (all_two run.0 run.1 h.fits.0 h.fits.1)

pub rule_numbers : (text rest : List ℕ) (rule : ℕ × Shape) → text ≡ codes "line " ++ rest → IsLine text (Rule rule) → AreNumbers rest (rule.0 ∷ rule.1.offset ∷ rule.1.na ∷ [])
rule_numbers text rest rule there h =
    after_word (codes "line ") text rest (rule.0 ∷ rule.1.offset ∷ rule.1.na ∷ []) there (h.is ∙ rule_text rule)
    (all_three rule.0 rule.1.offset rule.1.na h.fits.0 (omega (arith, h.fits.1)) (omega (arith, h.fits.2)))

pub open_numbers : (text rest : List ℕ) (run : ℕ × ℕ) → text ≡ codes "open " ++ rest → IsLine text (Open run) → AreNumbers rest (run.0 ∷ run.1 ∷ [])
open_numbers text rest run there h = after_word (codes "open ") text rest (run.0 ∷ run.1 ∷ []) there (h.is ∙ open_text run) (all_two run.0 run.1 h.fits.0 h.fits.1)

-- a line begins with its word
pub head_begins : (text : List ℕ) (port mark count : ℕ) → IsLine text (Head port mark count) → text ≡ codes "case " ++ numbers_text (port ∷ mark ∷ count ∷ [])
head_begins text port mark count h = h.is ∙ head_text port mark count

pub known_begins : (text : List ℕ) (run : ℕ × ℕ) → IsLine text (Known run) → text ≡ codes "known " ++ numbers_text (run.0 ∷ run.1 ∷ [])
known_begins text run h = h.is ∙ known_text run

pub rule_begins : (text : List ℕ) (rule : ℕ × Shape) → IsLine text (Rule rule) → text ≡ codes "line " ++ numbers_text (rule.0 ∷ rule.1.offset ∷ rule.1.na ∷ [])
rule_begins text rule h = h.is ∙ rule_text rule

pub open_begins : (text : List ℕ) (run : ℕ × ℕ) → IsLine text (Open run) → text ≡ codes "open " ++ numbers_text (run.0 ∷ run.1 ∷ [])
open_begins text run h = h.is ∙ open_text run

pub end_begins : (text : List ℕ) → IsLine text End → text ≡ codes "end"
end_begins text h = h.is ∙ end_text

-- lines that are read
pub head_read : (text rest : List ℕ) (port mark count : ℕ) → text ≡ codes "case " ++ rest → AreNumbers rest (port ∷ mark ∷ count ∷ []) → port < 2 ^ 16 → count < 2 ^ 32
    → IsLine text (Head port mark count)
head_read text rest port mark count there h small few = record {
  is = there ∙ ap (λ (t : List ℕ). codes "case " ++ t) h.is ∙ sym (head_text port mark count);
  fits = (small, second_of (count ∷ []) port mark h.fit, few);
}

pub known_read : (text rest : List ℕ) (first count : ℕ) → text ≡ codes "known " ++ rest → AreNumbers rest (first ∷ count ∷ []) → IsLine text (Known (first, count))
known_read text rest first count there h = record {
  is = there ∙ ap (λ (t : List ℕ). codes "known " ++ t) h.is ∙ sym (known_text (first, count));
  fits = (first_of (count ∷ []) first h.fit, second_of [] first count h.fit);
}

pub rule_read : (text rest : List ℕ) (base : ℕ) (shape : Shape) → text ≡ codes "line " ++ rest → AreNumbers rest (base ∷ shape.offset ∷ shape.na ∷ []) → shape.offset < 2 ^ 8 → shape.na < 2 ^ 8
    → IsLine text (Rule (base, shape))
rule_read text rest base shape there h offset na = record {
  is = there ∙ ap (λ (t : List ℕ). codes "line " ++ t) h.is ∙ sym (rule_text (base, shape));
  fits = (first_of (shape.offset ∷ shape.na ∷ []) base h.fit, offset, na);
}

pub open_read : (text rest : List ℕ) (first count : ℕ) → text ≡ codes "open " ++ rest → AreNumbers rest (first ∷ count ∷ []) → IsLine text (Open (first, count))
open_read text rest first count there h = record {
  is = there ∙ ap (λ (t : List ℕ). codes "open " ++ t) h.is ∙ sym (open_text (first, count));
  fits = (first_of (count ∷ []) first h.fit, second_of [] first count h.fit);
}

pub end_read : (text : List ℕ) → text ≡ codes "end" → IsLine text End
end_read text is = record { is = is ∙ sym end_text; fits = tt }

-- The first byte of a line tells its kind.
abbrev pub first_byte : Line → ℕ
first_byte (Head port mark count) = 99
first_byte (Known run) = 107
first_byte (Rule rule) = 108
first_byte (Open run) = 111
first_byte End = 101

at_front : (text word rest : List ℕ) → text ≡ word ++ rest → 1 ≤ length word → get_or text 0 0 ≡ get_or word 0 0
at_front text word rest is some = ap (λ (t : List ℕ). get_or t 0 0) is ∙ get_or_append_left word rest 0 0 some

pub first_is : (text : List ℕ) (line : Line) → IsLine text line → get_or text 0 0 ≡ first_byte line
first_is text (Head port mark count) h = at_front text (codes "case ") _ (head_begins text port mark count h) (omega arith)
first_is text (Known run) h = at_front text (codes "known ") _ (known_begins text run h) (omega arith)
first_is text (Rule rule) h = at_front text (codes "line ") _ (rule_begins text rule h) (omega arith)
first_is text (Open run) h = at_front text (codes "open ") _ (open_begins text run h) (omega arith)
first_is text End h = ap (λ (t : List ℕ). get_or t 0 0) (end_begins text h)

pub one_first : (text : List ℕ) (a b d e : ℕ) (more others : List ℕ) → AreNumbers text (a ∷ b ∷ more) → AreNumbers text (d ∷ e ∷ others)
    → (a ≡ d) × (numbers_text (b ∷ more) ≡ numbers_text (e ∷ others))
one_first text a b d e more others h k =
    let small = one_fits a (b ∷ more) h.fit in
    let other = one_fits d (e ∷ others) k.fit in
    let both = one_cut 32 (decimal a) (decimal d) (numbers_text (b ∷ more)) (numbers_text (e ∷ others)) (no_blank a small) (no_blank d other) (sym h.is ∙ k.is) in
    (decimal_injective a d (fits_word a small) (fits_word d other) both.0, both.1)

pub one_pair : (text : List ℕ) (a b d e : ℕ) → AreNumbers text (a ∷ b ∷ []) → AreNumbers text (d ∷ e ∷ []) → (a ≡ d) × (b ≡ e)
one_pair text a b d e h k =
    let both = one_first text a b d e [] [] h k in
    (both.0, decimal_injective b e (fits_word b (second_of [] a b h.fit)) (fits_word e (second_of [] d e k.fit)) both.1)

pub one_triple : (text : List ℕ) (a b c d e f : ℕ) → AreNumbers text (a ∷ b ∷ c ∷ []) → AreNumbers text (d ∷ e ∷ f ∷ []) → (a ≡ d) × (b ≡ e) × (c ≡ f)
one_triple text a b c d e f h k =
    let both = one_first text a b d e (c ∷ []) (f ∷ []) h k in
    let front : AreNumbers (numbers_text (b ∷ c ∷ [])) (b ∷ c ∷ []) = record { is = refl; fit = All-tail (λ n. n < number_limit) a (b ∷ c ∷ []) h.fit } in
    let rest : AreNumbers (numbers_text (b ∷ c ∷ [])) (e ∷ f ∷ []) = record { is = both.1; fit = All-tail (λ n. n < number_limit) d (e ∷ f ∷ []) k.fit } in
    let pair = one_pair (numbers_text (b ∷ c ∷ [])) b c e f front rest in
    (both.0, pair.0, pair.1)

-- no line but one of the kind that its first byte tells
pub known_alone : (text : List ℕ) → get_or text 0 0 ≡ 107 → ((run : ℕ × ℕ) → ¬ IsLine text (Known run)) → (line : Line) → ¬ IsLine text line
known_alone text first none (Head port mark count) h = let other = first_is text (Head port mark count) h in absurd (omega arith)
known_alone text first none (Known run) h = none run h
known_alone text first none (Rule rule) h = let other = first_is text (Rule rule) h in absurd (omega arith)
known_alone text first none (Open run) h = let other = first_is text (Open run) h in absurd (omega arith)
known_alone text first none End h = let other = first_is text End h in absurd (omega arith)

pub rule_alone : (text : List ℕ) → get_or text 0 0 ≡ 108 → ((rule : ℕ × Shape) → ¬ IsLine text (Rule rule)) → (line : Line) → ¬ IsLine text line
rule_alone text first none (Head port mark count) h = let other = first_is text (Head port mark count) h in absurd (omega arith)
rule_alone text first none (Known run) h = let other = first_is text (Known run) h in absurd (omega arith)
rule_alone text first none (Rule rule) h = none rule h
rule_alone text first none (Open run) h = let other = first_is text (Open run) h in absurd (omega arith)
rule_alone text first none End h = let other = first_is text End h in absurd (omega arith)

pub open_alone : (text : List ℕ) → get_or text 0 0 ≡ 111 → ((run : ℕ × ℕ) → ¬ IsLine text (Open run)) → (line : Line) → ¬ IsLine text line
open_alone text first none (Head port mark count) h = let other = first_is text (Head port mark count) h in absurd (omega arith)
open_alone text first none (Known run) h = let other = first_is text (Known run) h in absurd (omega arith)
open_alone text first none (Rule rule) h = let other = first_is text (Rule rule) h in absurd (omega arith)
open_alone text first none (Open run) h = none run h
open_alone text first none End h = let other = first_is text End h in absurd (omega arith)

pub head_alone : (text : List ℕ) → get_or text 0 0 ≡ 99 → ((port mark count : ℕ) → ¬ IsLine text (Head port mark count)) → (line : Line) → ¬ IsLine text line
head_alone text first none (Head port mark count) h = none port mark count h
head_alone text first none (Known run) h = let other = first_is text (Known run) h in absurd (omega arith)
head_alone text first none (Rule rule) h = let other = first_is text (Rule rule) h in absurd (omega arith)
head_alone text first none (Open run) h = let other = first_is text (Open run) h in absurd (omega arith)
head_alone text first none End h = let other = first_is text End h in absurd (omega arith)

pub end_alone : (text : List ℕ) → ¬ (get_or text 0 0 ≡ 99) → ¬ (get_or text 0 0 ≡ 107) → ¬ (get_or text 0 0 ≡ 108) → ¬ (get_or text 0 0 ≡ 111)
    → ¬ IsLine text End → (line : Line) → ¬ IsLine text line
end_alone text c k l o none (Head port mark count) h = c (first_is text (Head port mark count) h)
end_alone text c k l o none (Known run) h = k (first_is text (Known run) h)
end_alone text c k l o none (Rule rule) h = l (first_is text (Rule rule) h)
end_alone text c k l o none (Open run) h = o (first_is text (Open run) h)
end_alone text c k l o none End h = none h

-- an empty text is no line
pub none_empty : (text : List ℕ) → get_or text 0 0 ≡ 0 → (line : Line) → ¬ IsLine text line
none_empty text zero (Head port mark count) h = let other = first_is text (Head port mark count) h in absurd (omega arith)
none_empty text zero (Known run) h = let other = first_is text (Known run) h in absurd (omega arith)
none_empty text zero (Rule rule) h = let other = first_is text (Rule rule) h in absurd (omega arith)
none_empty text zero (Open run) h = let other = first_is text (Open run) h in absurd (omega arith)
none_empty text zero End h = let other = first_is text End h in absurd (omega arith)

pub none_more : {A : Type 0} (answer : Option A) (P R : Type 0) (Q : A → Type 0) → (P → R) → MatchOption answer P Q → MatchOption answer R Q
none_more None P R Q more h = more h
none_more (Some x) P R Q more h = h

-- numbers that don't fit their fields
pub head_out : (text rest : List ℕ) (port mark count : ℕ) → text ≡ codes "case " ++ rest → AreNumbers rest (port ∷ mark ∷ count ∷ []) → (2 ^ 16 ≤ port) ⊎ (2 ^ 32 ≤ count)
    → (p m k : ℕ) → ¬ IsLine text (Head p m k)
head_out text rest port mark count there h (inl out) p m k line =
    let same = one_triple rest port mark count p m k h (head_numbers text rest p m k there line) in
    let fits = line.fits.0 in
    absurd (omega (arith, out, same.0, fits))
head_out text rest port mark count there h (inr out) p m k line =
    let same = one_triple rest port mark count p m k h (head_numbers text rest p m k there line) in
    let fits = line.fits.2 in
    absurd (omega (arith, out, same.2, fits))

pub rule_out : (text rest : List ℕ) (base offset na : ℕ) → text ≡ codes "line " ++ rest → AreNumbers rest (base ∷ offset ∷ na ∷ []) → (2 ^ 8 ≤ offset) ⊎ (2 ^ 8 ≤ na)
    → (rule : ℕ × Shape) → ¬ IsLine text (Rule rule)
rule_out text rest base offset na there h (inl out) rule line =
    let same = one_triple rest base offset na rule.0 rule.1.offset rule.1.na h (rule_numbers text rest rule there line) in
    let fits = line.fits.1 in
    absurd (omega (arith, out, same.1, fits))
rule_out text rest base offset na there h (inr out) rule line =
    let same = one_triple rest base offset na rule.0 rule.1.offset rule.1.na h (rule_numbers text rest rule there line) in
    let fits = line.fits.2 in
    absurd (omega (arith, out, same.2, fits))

-- A text is that of one line

one_head : (text : List ℕ) (port mark count p m k : ℕ) → IsLine text (Head port mark count) → IsLine text (Head p m k) → Head port mark count ≡ Head p m k
one_head text port mark count p m k h other =
    let there = head_begins text port mark count h in
    let rest = numbers_text (port ∷ mark ∷ count ∷ []) in
    let same = one_triple rest port mark count p m k (head_numbers text rest port mark count there h) (head_numbers text rest p m k there other) in
    let first = same.0 in
    let second = same.1 in
    let third = same.2 in
    cc

pub same_pair : {A B : Type 0} (one other : A × B) → one.0 ≡ other.0 → one.1 ≡ other.1 → one ≡ other
same_pair {B = B} one other first second =
    ap (λ a. (a, one.1)) first ∙ ap (λ b. (other.0, b)) second

one_known : (text : List ℕ) (run other : ℕ × ℕ) → IsLine text (Known run) → IsLine text (Known other) → Known run ≡ Known other
one_known text run other h k =
    let there = known_begins text run h in
    let rest = numbers_text (run.0 ∷ run.1 ∷ []) in
    let same = one_pair rest run.0 run.1 other.0 other.1 (known_numbers text rest run there h) (known_numbers text rest other there k) in
    ap (λ (r : ℕ × ℕ). Known r) (same_pair run other same.0 same.1)

one_open : (text : List ℕ) (run other : ℕ × ℕ) → IsLine text (Open run) → IsLine text (Open other) → Open run ≡ Open other
one_open text run other h k =
    let there = open_begins text run h in
    let rest = numbers_text (run.0 ∷ run.1 ∷ []) in
    let same = one_pair rest run.0 run.1 other.0 other.1 (open_numbers text rest run there h) (open_numbers text rest other there k) in
    ap (λ (r : ℕ × ℕ). Open r) (same_pair run other same.0 same.1)

same_shape : (one other : Shape) → one.offset ≡ other.offset → one.na ≡ other.na → one ≡ other
same_shape one other offset na =
    let made : ℕ → ℕ → Shape = λ o n. record { offset = o; na = n } in
    ap (λ o. made o one.na) offset ∙ ap (λ n. made other.offset n) na

one_rule : (text : List ℕ) (rule other : ℕ × Shape) → IsLine text (Rule rule) → IsLine text (Rule other) → Rule rule ≡ Rule other
one_rule text rule other h k =
    let there = rule_begins text rule h in
    let rest = numbers_text (rule.0 ∷ rule.1.offset ∷ rule.1.na ∷ []) in
    let same = one_triple rest rule.0 rule.1.offset rule.1.na other.0 other.1.offset other.1.na (rule_numbers text rest rule there h) (rule_numbers text rest other there k) in
    ap (λ (r : ℕ × Shape). Rule r) (same_pair rule other same.0 (same_shape rule.1 other.1 same.1 same.2))

pub one_line : (text : List ℕ) (one other : Line) → IsLine text one → IsLine text other → one ≡ other
one_line text (Head port mark count) (Head p m k) h k' = one_head text port mark count p m k h k'
one_line text (Known run) (Known other) h k = one_known text run other h k
one_line text (Rule rule) (Rule other) h k = one_rule text rule other h k
one_line text (Open run) (Open other) h k = one_open text run other h k
one_line text End End h k = refl
one_line text one other h k = let first = first_is text one h in let second = first_is text other k in absurd (omega arith)

-- No line holds a line feed, and none is longer than `known` with two numbers of 19 digits

number_lacks : (number : ℕ) → number < number_limit → ¬ Contains (decimal number) 10
number_lacks number small = lacks_others number 10 (fits_word number small) (λ h. let low = h.0 in absurd (omega arith))

two_lack : (a b : ℕ) → a < number_limit → b < number_limit → ¬ Contains (numbers_text (a ∷ b ∷ [])) 10
two_lack a b one two =
    lacks_append 10 (decimal a) (32 ∷ decimal b) (number_lacks a one) (lacks_cons 10 32 (decimal b) (λ same. absurd (omega (arith, same))) (number_lacks b two))

three_lack : (a b c : ℕ) → a < number_limit → b < number_limit → c < number_limit → ¬ Contains (numbers_text (a ∷ b ∷ c ∷ [])) 10
three_lack a b c one two three =
    lacks_append 10 (decimal a) (32 ∷ numbers_text (b ∷ c ∷ [])) (number_lacks a one)
    (lacks_cons 10 32 (numbers_text (b ∷ c ∷ [])) (λ same. absurd (omega (arith, same))) (two_lack b c two three))

lacks_along : (text other : List ℕ) → text ≡ other → ¬ Contains other 10 → ¬ Contains text 10
lacks_along text other same lacks = subst (λ (t : List ℕ). ¬ Contains t 10) (sym same) lacks

pub line_lacks : (text : List ℕ) (line : Line) → IsLine text line → ¬ Contains text 10
line_lacks text (Head port mark count) h =
    lacks_along text _ (head_begins text port mark count h)
    (lacks_append 10 (codes "case ") (numbers_text (port ∷ mark ∷ count ∷ [])) (lacks_by 10 (codes "case ") refl)
    (let fits = h.fits in three_lack port mark count (omega (arith, fits.0)) fits.1 (omega (arith, fits.2))))
line_lacks text (Known run) h =
    lacks_along text _ (known_begins text run h)
    (lacks_append 10 (codes "known ") (numbers_text (run.0 ∷ run.1 ∷ [])) (lacks_by 10 (codes "known ") refl) (two_lack run.0 run.1 h.fits.0 h.fits.1))
line_lacks text (Rule rule) h =
    lacks_along text _ (rule_begins text rule h)
    (lacks_append 10 (codes "line ") (numbers_text (rule.0 ∷ rule.1.offset ∷ rule.1.na ∷ [])) (lacks_by 10 (codes "line ") refl)
    (let fits = h.fits in three_lack rule.0 rule.1.offset rule.1.na fits.0 (omega (arith, fits.1)) (omega (arith, fits.2))))
line_lacks text (Open run) h =
    lacks_along text _ (open_begins text run h)
    (lacks_append 10 (codes "open ") (numbers_text (run.0 ∷ run.1 ∷ [])) (lacks_by 10 (codes "open ") refl) (two_lack run.0 run.1 h.fits.0 h.fits.1))
line_lacks text End h = lacks_along text (codes "end") (end_begins text h) (lacks_by 10 (codes "end") refl)

short : (k number : ℕ) → 0 < k → number < 10 ^ k → number < number_limit → length (decimal number) ≤ k
short k number some small fits = length-decimal-le k number some small (fits_word number fits)

pub line_short : (text : List ℕ) (line : Line) → IsLine text line → length text ≤ 45
line_short text (Head port mark count) h =
    let fits = h.fits in
    let one = short 5 port (omega arith) (omega (arith, fits.0)) (omega (arith, fits.0)) in
    let two = short 19 mark (omega arith) fits.1 fits.1 in
    let three = short 10 count (omega arith) (omega (arith, fits.2)) (omega (arith, fits.2)) in
    omega (
      arith,
      one,
      two,
      three,
      ap (λ (t : List ℕ). length t) (head_begins text port mark count h),
      length-append (decimal port) (32 ∷ numbers_text (mark ∷ count ∷ [])),
      length-append (decimal mark) (32 ∷ decimal count),
    )
line_short text (Known run) h =
    let fits = h.fits in
    let one = short 19 run.0 (omega arith) fits.0 fits.0 in
    let two = short 19 run.1 (omega arith) fits.1 fits.1 in
    omega (arith, one, two, ap (λ (t : List ℕ). length t) (known_begins text run h), length-append (decimal run.0) (32 ∷ decimal run.1))
line_short text (Rule rule) h =
    let fits = h.fits in
    let one = short 19 rule.0 (omega arith) fits.0 fits.0 in
    let two = short 3 rule.1.offset (omega arith) (omega (arith, fits.1)) (omega (arith, fits.1)) in
    let three = short 3 rule.1.na (omega arith) (omega (arith, fits.2)) (omega (arith, fits.2)) in
    omega (
      arith,
      one,
      two,
      three,
      ap (λ (t : List ℕ). length t) (rule_begins text rule h),
      length-append (decimal rule.0) (32 ∷ numbers_text (rule.1.offset ∷ rule.1.na ∷ [])),
      length-append (decimal rule.1.offset) (32 ∷ decimal rule.1.na),
    )
line_short text (Open run) h =
    let fits = h.fits in
    let one = short 19 run.0 (omega arith) fits.0 fits.0 in
    let two = short 19 run.1 (omega arith) fits.1 fits.1 in
    omega (arith, one, two, ap (λ (t : List ℕ). length t) (open_begins text run h), length-append (decimal run.0) (32 ∷ decimal run.1))
line_short text End h = omega (arith, ap (λ (t : List ℕ). length t) (end_begins text h))
