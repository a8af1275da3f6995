-- Words break at most one rule first.
use Rattle.std.proofs.Common.{◌≡◌, ℕ, zero, suc, ◌+◌, ◌<◌, ◌≤◌, true, false, List, [], ◌∷◌, length, take, Some, nat_eq, refl, ap, ◌∙◌, sym, subst, inl, inr, arith}
use Rattle.std.proofs.lemmas.Bool.{cases_order}
use Rattle.std.proofs.lemmas.List.{length-take-le}
use Rattle.fg_shape.proofs.LimitLemmas as limits
use Rattle.fg_flows.proofs.FlowLemmas as flows
use Rattle.fg_cli.specs.declared.WordFault.{WordFault}
use Rattle.fg_cli.specs.declared.WordFault.TheVariants as fault
use Rattle.fg_cli.specs.declared.grammar.Command.{Command}
use Rattle.fg_cli.specs.declared.grammar.Command.TheVariants as command
use Rattle.fg_cli.specs.declared.grammar.Key.{Key}
use Rattle.fg_cli.specs.declared.grammar.Key.TheVariants as key
use Rattle.fg_cli.specs.declared.settings.Setting.{Setting}
use Rattle.fg_cli.specs.Grammar.{same_key, Knows, most_of}
use Rattle.fg_cli.specs.Lines.{values_of, number_of, AtMost, IsPlace, IsLine, CanBegin}
use Rattle.fg_cli.specs.Orders.{FirstFault, FirstOfLine, IsDepthWord}
use Rattle.fg_cli.proofs.Keys.{same_self}
use Rattle.fg_cli.proofs.Lines.{line_begins}
use Rattle.fg_cli.proofs.Lists.{values-yes, values-no}
use Rattle.fg_cli.proofs.Readings.{same_fault}

own_key : (s t : Setting) (k : Key) → Some s ≡ Some t → t.key ≡ k → same_key k s.key ≡ true
own_key s t k e own =
    let same : s ≡ t = cc in
    let there : k ≡ s.key = sym own ∙ sym (ap (λ z. z.key) same) in
    ap (λ z. same_key k z) (sym there) ∙ same_self k

values_le : (k : Key) (s : Setting) (ss : List Setting) → length (values_of k ss) ≤ length (values_of k (s ∷ ss))
values_le k s ss =
    elim (same_key k s.key) as (λ b. same_key k s.key ≡ b → length (values_of k ss) ≤ length (values_of k (s ∷ ss))) [
      | true ↦ λ e. omega (arith, ap (λ l. length l) (values-yes k s ss e))
      | false ↦ λ e. omega (arith, ap (λ l. length l) (values-no k s ss e))
    ] refl

-- a name that is set has a value
some_value : (k : Key) (ss : List Setting) (i : ℕ) → IsPlace k ss i → 1 ≤ length (values_of k ss)
some_value k [] zero p = (let e = p.1 in absurd (cc))
some_value k [] (suc i) p = (let e = p.1 in absurd (cc))
some_value k (s ∷ ss) zero p = omega (arith, ap (λ l. length l) (values-yes k s ss (own_key s p.0 k p.1 p.2)))
some_value k (s ∷ ss) (suc i) p = omega (arith, some_value k ss i p, values_le k s ss)

-- a name that stands once stands at one place
place_once : (k : Key) (ss : List Setting) (i j : ℕ) → IsPlace k ss i → IsPlace k ss j → length (values_of k ss) ≤ 1 → i ≡ j
place_once k [] zero j p q few = (let e = p.1 in absurd (cc))
place_once k [] (suc i) j p q few = (let e = p.1 in absurd (cc))
place_once k (s ∷ ss) zero zero p q few = refl
place_once k (s ∷ ss) zero (suc j) p q few =
    absurd (omega (arith, few, some_value k ss j q, ap (λ l. length l) (values-yes k s ss (own_key s p.0 k p.1 p.2))))
place_once k (s ∷ ss) (suc i) zero p q few =
    absurd (omega (arith, few, some_value k ss i p, ap (λ l. length l) (values-yes k s ss (own_key s q.0 k q.1 q.2))))
place_once k (s ∷ ss) (suc i) (suc j) p q few =
    let same = place_once k ss i j p q (omega (arith, few, values_le k s ss)) in
    omega (arith, same)

same_word : (ss : List Setting) (i j : ℕ) → length (values_of key.Depth ss) ≤ 1 → IsDepthWord ss i → IsDepthWord ss j → i ≡ j
same_word ss i j few x y =
    let same = place_once key.Depth ss x.0 y.0 x.2 y.2 few in
    omega (arith, same, x.1, y.1)

-- the depth is set once at most, after every command
depth_once : (c : Command) (n : ℕ) → AtMost (most_of c key.Depth) n → n ≤ 1
depth_once command.Prove n few = few
depth_once _ n few = few

-- no command has both a layout and flow words
no_both : (c : Command) → Knows c key.Columns → Knows c key.Flow → ⊥
no_both command.Repair x y = cc
no_both _ x y = cc

one_of_line : (c : Command) (ss : List Setting) (a b : WordFault) → length (values_of key.Depth ss) ≤ 1 → FirstOfLine c ss a → FirstOfLine c ss b → a ≡ b
one_of_line c ss fault.NoCommand b few x y = absurd x
one_of_line c ss (fault.BadWord i) b few x y = absurd x
one_of_line c ss (fault.Missing m) fault.NoCommand few x y = absurd y
one_of_line c ss (fault.Missing m) (fault.BadWord j) few x y = absurd y
one_of_line c ss (fault.Missing m) (fault.Missing m2) few x y = (let name : m ≡ m2 = cc in ap (λ z. fault.Missing z) name)
one_of_line c ss (fault.Missing m) (fault.Depth i2) few x y = (let some = x in let none = y.0 in absurd (cc))
one_of_line c ss (fault.Missing m) (fault.Layout f2) few x y = (let some = x in let none = y.0.whole in absurd (cc))
one_of_line c ss (fault.Missing m) (fault.Flows g2) few x y = (let some = x in let none = y.0.whole in absurd (cc))
one_of_line c ss (fault.Depth i) fault.NoCommand few x y = absurd y
one_of_line c ss (fault.Depth i) (fault.BadWord j) few x y = absurd y
one_of_line c ss (fault.Depth i) (fault.Missing m2) few x y = (let some = y in let none = x.0 in absurd (cc))
one_of_line c ss (fault.Depth i) (fault.Depth i2) few x y = ap (λ z. fault.Depth z) (same_word ss i i2 few x.2 y.2)
one_of_line c ss (fault.Depth i) (fault.Layout f2) few x y = absurd (y.0.deep x.1)
one_of_line c ss (fault.Depth i) (fault.Flows g2) few x y = absurd (y.0.deep x.1)
one_of_line c ss (fault.Layout f) fault.NoCommand few x y = absurd y
one_of_line c ss (fault.Layout f) (fault.BadWord j) few x y = absurd y
one_of_line c ss (fault.Layout f) (fault.Missing m2) few x y = (let some = y in let none = x.0.whole in absurd (cc))
one_of_line c ss (fault.Layout f) (fault.Depth i2) few x y = absurd (x.0.deep y.1)
one_of_line c ss (fault.Layout f) (fault.Layout f2) few x y = ap (λ z. fault.Layout z) (limits.one_layout_fault (number_of key.Columns ss) (number_of key.Rows ss) (nat_eq (number_of key.Fec ss) 1) f f2 x.2 y.2)
one_of_line c ss (fault.Layout f) (fault.Flows g2) few x y = absurd (no_both c x.1 y.1)
one_of_line c ss (fault.Flows g) fault.NoCommand few x y = absurd y
one_of_line c ss (fault.Flows g) (fault.BadWord j) few x y = absurd y
one_of_line c ss (fault.Flows g) (fault.Missing m2) few x y = (let some = y in let none = x.0.whole in absurd (cc))
one_of_line c ss (fault.Flows g) (fault.Depth i2) few x y = absurd (x.0.deep y.1)
one_of_line c ss (fault.Flows g) (fault.Layout f2) few x y = absurd (no_both c y.1 x.1)
one_of_line c ss (fault.Flows g) (fault.Flows g2) few x y = ap (λ z. fault.Flows z) (flows.one_fault (values_of key.Flow ss) g g2 x.2 y.2)

no_word : (words : List (List ℕ)) (i : ℕ) → words ≡ [] → i < length words → ⊥
no_word words i e below = omega (arith, below, ap (λ l. length l) e)

no_line : (words : List (List ℕ)) (c : Command) (ss : List Setting) → words ≡ [] → IsLine words c ss → ⊥
no_line words c ss e line = (let whole = sym e ∙ line.spelled in cc)

take_twice : {X : Type 0} (m n : ℕ) (xs : List X) → m ≤ n → take m (take n xs) ≡ take m xs
take_twice zero n xs le = refl
take_twice (suc m) zero xs le = absurd (omega (arith, le))
take_twice (suc m) (suc n) [] le = refl
take_twice (suc m) (suc n) (x ∷ xs) le = ap (λ l. x ∷ l) (take_twice m n xs (omega (arith, le)))

-- where a longer front can begin a line, so can a shorter
earlier : (words : List (List ℕ)) (i j : ℕ) → i < j → j < length words → CanBegin (take j words) → CanBegin (take (i + 1) words)
earlier words i j less below (inl e) =
    let long = length-take-le j words (omega arith) in
    absurd (omega (arith, long, ap (λ l. length l) e))
earlier words i j less below (inr line) =
    let P : List (List ℕ) → Type 0 = λ l. CanBegin l in
    subst P (take_twice (i + 1) j words (omega arith)) (line_begins (take j words) line.0 line.1 i line.2)

same_bad : (words : List (List ℕ)) (i j : ℕ) → FirstFault words (fault.BadWord i) → FirstFault words (fault.BadWord j) → i ≡ j
same_bad words i j x y =
    elim (cases_order i j) [
      | inl same ↦ same
      | inr apart ↦ (elim apart [ inl less ↦ absurd (x.2 (earlier words i j less y.0 y.1)) | inr more ↦ absurd (y.2 (earlier words j i more x.0 x.1)) ])
    ]

-- how a fault stands: no word is there, a word can't stand, or the whole line has it
data Standing (words : List (List ℕ)) (f : WordFault) : Type 0 where
  empty : words ≡ [] → f ≡ fault.NoCommand → Standing words f
  bad : (i : ℕ) → FirstFault words (fault.BadWord i) → f ≡ fault.BadWord i → Standing words f
  whole : (c : Command) (xs : List Setting) → IsLine words c xs → FirstOfLine c xs f → Standing words f

standing : (words : List (List ℕ)) (f : WordFault) → FirstFault words f → Standing words f
standing words fault.NoCommand x = empty x refl
standing words (fault.BadWord i) x = bad i x refl
standing words (fault.Missing m) x = whole x.0 x.1 x.2 x.3
standing words (fault.Depth i) x = whole x.0 x.1 x.2 x.3
standing words (fault.Layout f) x = whole x.0 x.1 x.2 x.3
standing words (fault.Flows f) x = whole x.0 x.1 x.2 x.3

one_standing : (words : List (List ℕ)) (a b : WordFault) → Standing words a → Standing words b → a ≡ b
one_standing words a b (empty none e) (empty _ e') = e ∙ sym e'
one_standing words a b (empty none e) (bad j y e') = absurd (no_word words j none y.0)
one_standing words a b (empty none e) (whole d ys line y) = absurd (no_line words d ys none line)
one_standing words a b (bad i x e) (empty none e') = absurd (no_word words i none x.0)
one_standing words a b (bad i x e) (bad j y e') = e ∙ ap (λ z. fault.BadWord z) (same_bad words i j x y) ∙ sym e'
one_standing words a b (bad i x e) (whole d ys line y) = absurd (x.2 (line_begins words d ys i line))
one_standing words a b (whole c xs line x) (empty none e') = absurd (no_line words c xs none line)
one_standing words a b (whole c xs line x) (bad j y e') = absurd (y.2 (line_begins words c xs j line))
one_standing words a b (whole c xs line x) (whole d ys other y) =
    one_of_line c xs a b (depth_once c (length (values_of key.Depth xs)) (line.limited key.Depth)) x (same_fault words c d xs ys b line other y)

pub one_fault : (words : List (List ℕ)) (a b : WordFault) → FirstFault words a → FirstFault words b → a ≡ b
one_fault words a b x y = one_standing words a b (standing words a x) (standing words b y)
