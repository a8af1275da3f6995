-- Lines: words that are a command and settings, in one way, and word by word.
use Rattle.std.proofs.Common.{◌≡◌, ℕ, zero, suc, ◌+◌, ◌<◌, ◌≤◌, true, false, List, [], ◌∷◌, ◌++◌, get_or, length, take, drop, map, Option, Some, None, slice_get, refl, ap, ◌∙◌, sym, subst, inl, inr, arith, lit≤, add-one, length-append, append-nil}
use Rattle.std.specs.List.{All}
use Rattle.std.proofs.lemmas.List.{take_more, map-append, take-append-drop, length-take-le}
use Rattle.std.proofs.lemmas.List.Elements.{All-append, All-cons, All-nil, All-take}
use Rattle.fg_cli.specs.declared.grammar.Command.{Command}
use Rattle.fg_cli.specs.declared.grammar.Key.{Key}
use Rattle.fg_cli.specs.declared.grammar.Key.TheVariants as key
use Rattle.fg_cli.specs.declared.settings.Setting.{Setting}
use Rattle.fg_cli.specs.Grammar.{row, same_key, command_text, most_of}
use Rattle.fg_cli.specs.declared.grammar.Command.TheVariants as command
use Rattle.fg_cli.specs.Lines.{setting_text, values_of, IsKnown, AtMost, IsLine, CanBegin}
use Rattle.fg_cli.specs.Reading.{AreBounded, InRanges}
use Rattle.fg_cli.proofs.Keys.{setting_injective, command_injective, allowed_bound, same_is, same_self}
use Rattle.fg_cli.proofs.Lists.{values-append, values-yes, values-no}

pub in_ranges : (c : Command) (ss : List Setting) → All (IsKnown c) ss → InRanges ss
in_ranges c ss known k d below = (known k d below).1

pub bounded : (c : Command) (ss : List Setting) → All (IsKnown c) ss → AreBounded ss
bounded c ss known k d below = allowed_bound (get_or ss k d).key (get_or ss k d).value (known k d below).1

tail_of : {X : Type 0} (P : X → Type 0) (x : X) (xs : List X) → All P (x ∷ xs) → All P xs
tail_of P x xs all k d below = all (suc k) d (omega (arith, below))

head_of : {X : Type 0} (P : X → Type 0) (x : X) (xs : List X) → All P (x ∷ xs) → P x
head_of P x xs all = all 0 x (omega arith)

pub cons_parts : {X : Type 0} (a b : X) (xs ys : List X) → a ∷ xs ≡ b ∷ ys → (a ≡ b) × (xs ≡ ys)
cons_parts a b xs ys e = (cc, cc)

-- settings of one command are told by their words
settings_unique : (c : Command) (xs ys : List Setting) → All (IsKnown c) xs → All (IsKnown c) ys → map setting_text xs ≡ map setting_text ys → xs ≡ ys
settings_unique c [] [] p q e = refl
settings_unique c [] (y ∷ ys) p q e = absurd (cc)
settings_unique c (x ∷ xs) [] p q e = absurd (cc)
settings_unique c (x ∷ xs) (y ∷ ys) p q e =
    let parts = cons_parts (setting_text x) (setting_text y) (map setting_text xs) (map setting_text ys) e in
    let head : x ≡ y = setting_injective c x y (head_of (IsKnown c) x xs p) (head_of (IsKnown c) y ys q) parts.0 in
    let tail : xs ≡ ys = settings_unique c xs ys (tail_of (IsKnown c) x xs p) (tail_of (IsKnown c) y ys q) parts.1 in
    cc

pub one_line : (words : List (List ℕ)) (b c : Command) (xs ys : List Setting) → IsLine words b xs → IsLine words c ys → (b ≡ c) × (xs ≡ ys)
one_line words b c xs ys p q =
    let parts = cons_parts (command_text b) (command_text c) (map setting_text xs) (map setting_text ys) (sym p.spelled ∙ q.spelled) in
    let same : b ≡ c = command_injective b c parts.0 in
    let P : Command → Type 0 = λ x. All (IsKnown x) xs in
    (same, settings_unique c xs ys (subst P same p.known) q.known parts.1)

-- words that are settings and one more are the settings and one more
last_setting :
    (c : Command) (xs ys : List Setting) (w : List ℕ) → All (IsKnown c) xs → All (IsKnown c) ys → map setting_text xs ++ w ∷ [] ≡ map setting_text ys
    → (last : Setting) × (ys ≡ xs ++ last ∷ []) × (w ≡ setting_text last) × IsKnown c last
last_setting c [] [] w p q e = absurd (cc)
last_setting c [] (y ∷ []) w p q e = (y, refl, (cons_parts w (setting_text y) [] [] e).0, head_of (IsKnown c) y [] q)
last_setting c [] (y ∷ z ∷ zs) w p q e =
    let rest = (cons_parts w (setting_text y) [] (setting_text z ∷ map setting_text zs) e).1 in
    absurd (cc)
last_setting c (x ∷ xs) [] w p q e = absurd (cc)
last_setting c (x ∷ xs) (y ∷ ys) w p q e =
    let parts = cons_parts (setting_text x) (setting_text y) (map setting_text xs ++ w ∷ []) (map setting_text ys) e in
    let head : x ≡ y = setting_injective c x y (head_of (IsKnown c) x xs p) (head_of (IsKnown c) y ys q) parts.0 in
    let rest = last_setting c xs ys w (tail_of (IsKnown c) x xs p) (tail_of (IsKnown c) y ys q) parts.1 in
    let tail : ys ≡ xs ++ rest.0 ∷ [] = rest.1 in
    (rest.0, cc, rest.2, rest.3)

at_most_is : (o : Option ℕ) (m n : ℕ) → m ≡ n → AtMost o m → AtMost o n
at_most_is o m n e h = let P : ℕ → Type 0 = λ k. AtMost o k in subst P e h

at_most_le : (o : Option ℕ) (m n : ℕ) → m ≤ n → AtMost o n → AtMost o m
at_most_le None m n le h = tt
at_most_le (Some k) m n le h = omega (arith, le, h)

-- one setting more
count_yes : (k : Key) (ss : List Setting) (s : Setting) → same_key k s.key ≡ true → length (values_of k (ss ++ s ∷ [])) ≡ length (values_of k ss) + 1
count_yes k ss s e =
    ap (λ l. length l) (values-append k ss (s ∷ []) ∙ ap (λ l. values_of k ss ++ l) (values-yes k s [] e)) ∙ length-append (values_of k ss) (s.value ∷ [])

count_no : (k : Key) (ss : List Setting) (s : Setting) → same_key k s.key ≡ false → length (values_of k (ss ++ s ∷ [])) ≡ length (values_of k ss)
count_no k ss s e =
    ap (λ l. length l) (values-append k ss (s ∷ []) ∙ ap (λ l. values_of k ss ++ l) (values-no k s [] e) ∙ append-nil (values_of k ss))

limited_more :
    (c : Command) (ss : List Setting) (s : Setting) → ((k : Key) → AtMost (most_of c k) (length (values_of k ss))) → AtMost (most_of c s.key) (length (values_of s.key ss) + 1)
    → (k : Key) → AtMost (most_of c k) (length (values_of k (ss ++ s ∷ [])))
limited_more c ss s limited more k =
    elim (same_key k s.key) as (λ b. same_key k s.key ≡ b → AtMost (most_of c k) (length (values_of k (ss ++ s ∷ [])))) [
      | true ↦ λ e.
          (let P : Key → Type 0 = λ j. AtMost (most_of c j) (length (values_of j ss) + 1) in
          at_most_is (most_of c k) (length (values_of k ss) + 1) (length (values_of k (ss ++ s ∷ []))) (sym (count_yes k ss s e)) (subst P (sym (same_is k s.key e)) more))
      | false ↦ λ e. at_most_is (most_of c k) (length (values_of k ss)) (length (values_of k (ss ++ s ∷ []))) (sym (count_no k ss s e)) (limited k)
    ] refl

-- a line and a word that is a setting more
pub line_more :
    (words : List (List ℕ)) (c : Command) (ss : List Setting) (i : ℕ) (d : List ℕ) (s : Setting) → i < length words → IsLine (take i words) c ss
    → IsKnown c s → get_or words i d ≡ setting_text s → AtMost (most_of c s.key) (length (values_of s.key ss) + 1) → IsLine (take (i + 1) words) c (ss ++ s ∷ [])
line_more words c ss i d s below line known word more = record {
  spelled = take_more words i d below ∙ ap (λ l. l ++ get_or words i d ∷ []) line.spelled
      ∙ ap (λ w. command_text c ∷ (map setting_text ss ++ w ∷ [])) word
      ∙ ap (λ l. command_text c ∷ l) (sym (map-append setting_text ss (s ∷ [])));
  known = All-append (IsKnown c) ss (s ∷ []) line.known (All-cons (IsKnown c) s [] known (All-nil (IsKnown c)));
  limited = limited_more c ss s line.limited more;
}

-- a line can't go on with a word that is no setting more
pub no_line_more :
    (words : List (List ℕ)) (c : Command) (ss : List Setting) (i : ℕ) (d : List ℕ) → i < length words → IsLine (take i words) c ss
    → ((s : Setting) → IsKnown c s → get_or words i d ≡ setting_text s → AtMost (most_of c s.key) (length (values_of s.key ss) + 1) → ⊥)
    → (b : Command) (ys : List Setting) → IsLine (take (i + 1) words) b ys → ⊥
no_line_more words c ss i d below line none b ys more =
    let w = get_or words i d in
    let whole : command_text c ∷ (map setting_text ss ++ get_or words i d ∷ []) ≡ command_text b ∷ map setting_text ys =
    sym (take_more words i d below ∙ ap (λ l. l ++ get_or words i d ∷ []) line.spelled) ∙ more.spelled in
    let parts = cons_parts (command_text c) (command_text b) (map setting_text ss ++ get_or words i d ∷ []) (map setting_text ys) whole in
    let same : b ≡ c = command_injective b c (sym parts.0) in
    let R : Command → Type 0 = λ x. All (IsKnown x) ss in
    let last = last_setting b ss ys (get_or words i d) (subst R (sym same) line.known) more.known parts.1 in
    let P : Command → Type 0 = λ x. IsKnown x last.0 in
    let Q : List Setting → Type 0 = λ l. AtMost (most_of b last.0.key) (length (values_of last.0.key l)) in
    let few = at_most_is (most_of b last.0.key) (length (values_of last.0.key (ss ++ last.0 ∷ []))) (length (values_of last.0.key ss) + 1)
    (count_yes last.0.key ss last.0 (same_self last.0.key)) (subst Q last.1 (more.limited last.0.key)) in
    let F : Command → Type 0 = λ x. AtMost (most_of x last.0.key) (length (values_of last.0.key ss) + 1) in
    none last.0 (subst P same last.3) last.2 (subst F same few)

-- the front of a line is one
take_map : {X Y : Type 0} (f : X → Y) (i : ℕ) (xs : List X) → take i (map f xs) ≡ map f (take i xs)
take_map f zero xs = refl
take_map f (suc i) [] = refl
take_map f (suc i) (x ∷ xs) = ap (λ l. f x ∷ l) (take_map f i xs)

fewer : (k : Key) (i : ℕ) (ss : List Setting) → length (values_of k (take i ss)) ≤ length (values_of k ss)
fewer k i ss =
    let whole : values_of k ss ≡ values_of k (take i ss) ++ values_of k (drop i ss) = ap (λ l. values_of k l) (sym (take-append-drop i ss)) ∙ values-append k (take i ss) (drop i ss) in
    omega (arith, ap (λ l. length l) whole, length-append (values_of k (take i ss)) (values_of k (drop i ss)))

pub line_begins : (words : List (List ℕ)) (c : Command) (ss : List Setting) (i : ℕ) → IsLine words c ss → CanBegin (take (i + 1) words)
line_begins words c ss i line = inr (
  c,
  take i ss,
  record {
    spelled = ap (λ l. take (i + 1) l) line.spelled ∙ rw add-one (ap (λ l. command_text c ∷ l) (take_map setting_text i ss));
    known = All-take (IsKnown c) i ss line.known;
    limited = λ k. at_most_le (most_of c k) (length (values_of k (take i ss))) (length (values_of k ss)) (fewer k i ss) (line.limited k);
  },
)

-- the command alone is a line
no_values : (k : Key) → AtMost (row k).most 0
no_values key.Flow = tt
no_values _ = lit≤ tt

none_of : (c : Command) (k : Key) → AtMost (most_of c k) 0
none_of command.Prove k = lit≤ tt
none_of _ k = no_values k

pub command_line : (words : List (List ℕ)) (c : Command) → slice_get words 0 ≡ Some (command_text c) → IsLine (take 1 words) c []
command_line [] c e = absurd (cc)
command_line (w ∷ ws) c e =
    let first : w ≡ command_text c = cc in
    record { spelled = ap (λ x. x ∷ []) first; known = All-nil (IsKnown c); limited = λ k. none_of c k }

pub no_command : (w : List ℕ) (ws : List (List ℕ)) → ((c : Command) → w ≡ command_text c → ⊥) → ¬ CanBegin (take 1 (w ∷ ws))
no_command w ws none (inl e) = absurd (cc)
no_command w ws none (inr line) = none line.0 (cons_parts w (command_text line.0) [] (map setting_text line.1) line.2.spelled).0

pub no_beginning : (words : List (List ℕ)) (i : ℕ) → i < length words → ((c : Command) (ss : List Setting) → IsLine (take (i + 1) words) c ss → ⊥) → ¬ CanBegin (take (i + 1) words)
no_beginning words i below none (inl e) =
    let long = length-take-le (i + 1) words (omega arith) in
    absurd (omega (arith, long, ap (λ l. length l) e))
no_beginning words i below none (inr line) = none line.0 line.1 line.2
