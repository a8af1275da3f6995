-- The rows of the table: names told apart, and values within their ranges.
use Rattle.std.proofs.Common.{◌≡◌, ◌≢◌, ◌⊎◌, inl, inr, ◌||◌, ℕ, zero, suc, ◌^◌, ◌<◌, ◌≤◌, Bool, true, false, cond, nat_eq, List, [], ◌∷◌, ◌++◌, get_or, length, map, refl, ap, ◌∙◌, sym, subst, arith, append_assoc, lit<, lit≤}
use Rattle.std.specs.Fmt.{decimal}
use lib.Pointwise.{pointwise}
use Rattle.std.specs.List.{list_any, position_or_len}
use Rattle.std.proofs.lemmas.Fmt.{decimal_injective}
use Rattle.std.proofs.lemmas.Bool.{eqb-true, eqb-false, eq-eqb, ne_eqb, or_cases}
use Rattle.fg_cli.specs.declared.grammar.Key.{Key}
use Rattle.fg_cli.specs.declared.grammar.Key.TheVariants as key
use Rattle.fg_cli.specs.declared.grammar.Command.{Command}
use Rattle.fg_cli.specs.declared.grammar.Command.TheVariants as command
use Rattle.fg_cli.specs.declared.settings.Setting.{Setting}
use Rattle.fg_cli.specs.Grammar.{row, place, same_key, keys_of, Knows, Either, Allows, value_text, command_text, commands}
use Rattle.fg_cli.specs.Lines.{word_of, setting_text, default_of, IsKnown}
use Rattle.fg_cli.specs.Reading.{greatest_of}
use Rattle.fg_cli.proofs.Lists.{text_equal}

abbrev all_keys : List Key
all_keys = key.Flow ∷ key.Window ∷ key.Depth ∷ key.Hold ∷ key.Workers ∷ key.Max ∷ key.Columns ∷ key.Rows ∷ key.Fec ∷ key.Layout ∷ key.Packets ∷ key.Rate ∷ key.Port ∷ key.Seq ∷ key.Ssrc ∷ key.Stamp ∷ key.Drop ∷ key.Every ∷ key.Seed ∷ key.Datagrams ∷ key.Loss ∷ key.Burst ∷ key.Most ∷ key.PickedFlow ∷ key.PickedPort ∷ key.PickedSource ∷ key.Without ∷ key.From ∷ key.Until ∷ key.Format ∷ []

key_of_place : (k : Key) → get_or all_keys (place k) key.Flow ≡ k
key_of_place key.Flow = refl
key_of_place _ = refl

-- two names with one place are one
pub place_injective : (a b : Key) → place a ≡ place b → a ≡ b
place_injective a b e = sym (key_of_place a) ∙ ap (λ n. get_or all_keys n key.Flow) e ∙ key_of_place b

pub same_is : (a b : Key) → same_key a b ≡ true → a ≡ b
same_is a b e = place_injective a b (eqb-true (place a) (place b) e)

pub same_self : (a : Key) → same_key a a ≡ true
same_self a = eq-eqb (place a) (place a) refl

pub not_same : (a b : Key) → a ≢ b → same_key a b ≡ false
not_same a b apart = ne_eqb (place a) (place b) (λ e. apart (place_injective a b e))

-- the names of one command differ
abbrev same_name : Key → Key → Bool
same_name a b = pointwise nat_eq (row a).name (row b).name

abbrev apart : List Key → Bool
apart [] = true
apart (k ∷ ks) = cond (list_any (same_name k) ks) false (apart ks)

names_apart : (c : Command) → apart (keys_of c) ≡ true
names_apart command.Repair = refl
names_apart _ = refl

or_right : (a b : Bool) → b ≡ true → (a || b) ≡ true
or_right true b e = refl
or_right false b e = e

abbrev Among : Key → List Key → Type 0
Among k ks = list_any (same_key k) ks ≡ true

-- a name is the first of a list, or among the rest
first_or_rest : (k a : Key) (ks : List Key) → Among k (a ∷ ks) → (k ≡ a) ⊎ Among k ks
first_or_rest k a ks h = elim (or_cases (same_key k a) (list_any (same_key k) ks) h) as (λ _. (k ≡ a) ⊎ Among k ks) [ inl first ↦ inl (same_is k a first) | inr rest ↦ inr rest ]

-- a list has one of that name
has_name : (k b : Key) (ks : List Key) → (row k).name ≡ (row b).name → Among b ks → list_any (same_name k) ks ≡ true
has_name k b [] e h = absurd (cc)
has_name k b (a ∷ ks) e h = elim (first_or_rest b a ks h) as (λ _. list_any (same_name k) (a ∷ ks) ≡ true) [
  | inl own ↦ ap (λ t. t || list_any (same_name k) ks) (text_equal (row k).name (row a).name (e ∙ ap (λ j. (row j).name) own))
  | inr rest ↦ or_right (same_name k a) (list_any (same_name k) ks) (has_name k b ks e rest)
]

not_among : (k b : Key) (ks : List Key) → apart (k ∷ ks) ≡ true → (row k).name ≡ (row b).name → ¬ Among b ks
not_among k b ks one e h = (let two = sym (ap (λ t. cond t false (apart ks)) (has_name k b ks e h)) ∙ one in cc)

apart_rest : (k : Key) (ks : List Key) → apart (k ∷ ks) ≡ true → apart ks ≡ true
apart_rest k ks one = elim (list_any (same_name k) ks) as (λ t. cond t false (apart ks) ≡ true → apart ks ≡ true) [ true ↦ λ e. absurd (cc) | false ↦ λ e. e ] one

one_named : (ks : List Key) (a b : Key) → apart ks ≡ true → Among a ks → Among b ks → (row a).name ≡ (row b).name → a ≡ b
one_named [] a b one x y e = absurd (cc)
one_named (k ∷ ks) a b one x y e = elim (first_or_rest a k ks x) as (λ _. a ≡ b) [
  | inl here ↦ elim (first_or_rest b k ks y) as (λ _. a ≡ b) [
    | inl there ↦ here ∙ sym there
    | inr rest ↦ absurd (not_among k b ks one (sym (ap (λ j. (row j).name) here) ∙ e) rest)
  ]
  | inr rest ↦ elim (first_or_rest b k ks y) as (λ _. a ≡ b) [
    | inl there ↦ absurd (not_among k a ks one (sym (ap (λ j. (row j).name) there) ∙ sym e) rest)
    | inr both ↦ one_named ks a b (apart_rest k ks one) rest both e
  ]
]

pub name_injective : (c : Command) (a b : Key) → Knows c a → Knows c b → (row a).name ≡ (row b).name → a ≡ b
name_injective c a b x y e = one_named (keys_of c) a b (names_apart c) x y e

-- no name has an equals sign
abbrev pub no_sign : List ℕ → Bool
no_sign [] = true
no_sign (c ∷ cs) = cond (nat_eq c 61) false (no_sign cs)

pub name_plain : (k : Key) → no_sign (row k).name ≡ true
name_plain key.Flow = refl
name_plain _ = refl

plain_head : (c : ℕ) (cs : List ℕ) → no_sign (c ∷ cs) ≡ true → (nat_eq c 61 ≡ false) × (no_sign cs ≡ true)
plain_head c cs e = elim (nat_eq c 61) as (λ b. nat_eq c 61 ≡ b → (nat_eq c 61 ≡ false) × (no_sign cs ≡ true)) [
  | true ↦ λ sign. (let f = sym (ap (λ b. cond b false (no_sign cs)) sign) ∙ e in absurd (cc))
  | false ↦ λ other. (other, sym (ap (λ b. cond b false (no_sign cs)) other) ∙ e)
] refl

-- a text is cut at its first equals sign in one way
pub cut_once :
    (a b x y : List ℕ) → no_sign a ≡ true → no_sign b ≡ true → a ++ 61 ∷ x ≡ b ++ 61 ∷ y → (a ≡ b) × (x ≡ y)
cut_once [] [] x y p q e = (refl, cc)
cut_once [] (c ∷ b) x y p q e =
    let head : 61 ≡ c = cc in
    absurd (eqb-false c 61 (plain_head c b q).0 (sym head))
cut_once (c ∷ a) [] x y p q e =
    let head : c ≡ 61 = cc in
    absurd (eqb-false c 61 (plain_head c a p).0 head)
cut_once (c ∷ a) (d ∷ b) x y p q e =
    let head : c ≡ d = cc in
    let tail : a ++ 61 ∷ x ≡ b ++ 61 ∷ y = cc in
    let rest = cut_once a b x y (plain_head c a p).1 (plain_head d b q).1 tail in
    let front : a ≡ b = rest.0 in
    (cc, rest.1)

-- the word of a name and a value, as its name, the sign and the rest
pub word_parts : (k : Key) (n : ℕ) → word_of k n ≡ (row k).name ++ 61 ∷ value_text (row k).range n
word_parts k n = append_assoc (row k).name (61 ∷ []) (value_text (row k).range n)

text_of_number : (low high n m : ℕ) → high < 2 ^ 64 → n ≤ high → m ≤ high → decimal n ≡ decimal m → n ≡ m
text_of_number low high n m small x y e = decimal_injective n m (omega (arith, x, small)) (omega (arith, y, small)) e

text_of_two : (first second : List ℕ) (n m : ℕ) → (first ≡ second → ⊥) → n ≤ 1 → m ≤ 1 → value_text (Either first second) n ≡ value_text (Either first second) m → n ≡ m
text_of_two first second zero zero apart x y e = refl
text_of_two first second zero (suc m) apart x y e = absurd (apart e)
text_of_two first second (suc n) zero apart x y e = absurd (apart (sym e))
text_of_two first second (suc n) (suc m) apart x y e = omega (arith, x, y)

-- a value is told by its text
pub text_injective : (k : Key) (n m : ℕ) → Allows (row k).range n → Allows (row k).range m → value_text (row k).range n ≡ value_text (row k).range m → n ≡ m
text_injective key.Fec n m x y e = text_of_two _ _ n m (λ w. (cc)) x y e
text_injective key.Layout n m x y e = text_of_two _ _ n m (λ w. (cc)) x y e
text_injective key.Format n m x y e = text_of_two _ _ n m (λ w. (cc)) x y e
text_injective _ n m x y e = text_of_number 0 _ n m (lit< tt) x.1 y.1 e

text_at : (a b : Key) (n m : ℕ) → a ≡ b → value_text (row a).range n ≡ value_text (row b).range m → Allows (row a).range n → Allows (row b).range m → n ≡ m
text_at a b n m same e x y =
    let P : Key → Type 0 = λ k. value_text (row k).range n ≡ value_text (row b).range m in
    let Q : Key → Type 0 = λ k. Allows (row k).range n in
    text_injective b n m (subst Q same x) y (subst P same e)

-- a setting is told by its word
pub setting_injective : (c : Command) (s t : Setting) → IsKnown c s → IsKnown c t → setting_text s ≡ setting_text t → s ≡ t
setting_injective c s t x y e =
    let whole = sym (word_parts s.key s.value) ∙ e ∙ word_parts t.key t.value in
    let cut = cut_once (row s.key).name (row t.key).name (value_text (row s.key).range s.value) (value_text (row t.key).range t.value) (name_plain s.key) (name_plain t.key) whole in
    let key_same : s.key ≡ t.key = name_injective c s.key t.key x.0 y.0 cut.0 in
    let value_same : s.value ≡ t.value = text_at s.key t.key s.value t.value key_same cut.1 x.1 y.1 in
    λ i. record { key = key_same i; value = value_same i }

-- no value is past the greatest
pub allowed_bound : (k : Key) (n : ℕ) → Allows (row k).range n → n ≤ greatest_of (row k).range
allowed_bound key.Fec n x = x
allowed_bound key.Layout n x = x
allowed_bound key.Format n x = x
allowed_bound _ n x = x.1

pub default_bound : (k : Key) → default_of (row k).absent ≤ greatest_of (row k).range
default_bound key.Flow = lit≤ tt
default_bound _ = lit≤ tt

abbrev command_place_of : List ℕ → ℕ
command_place_of text = position_or_len (λ t. pointwise nat_eq text t) (map command_text commands)

abbrev command_named : List ℕ → Command
command_named text = get_or commands (command_place_of text) command.Repair

pub command_of_text : (c : Command) → command_named (command_text c) ≡ c
command_of_text command.Repair = refl
command_of_text _ = refl

-- each command has its place among all
abbrev pub command_place : Command → ℕ
command_place c = command_place_of (command_text c)

pub command_place_below : (c : Command) → command_place c < length commands
command_place_below command.Repair = lit< tt
command_place_below _ = lit< tt

pub command_injective : (b c : Command) → command_text b ≡ command_text c → b ≡ c
command_injective b c e = sym (command_of_text b) ∙ ap (λ t. command_named t) e ∙ command_of_text c
