-- Maps and sets of the positions below a limit.
use Rattle.std.proofs.Common.{◌≡◌, ◌==◌, ℕ, zero, suc, Bool, true, false, ◌||◌, Option, Some, None, nat_lt, if◌then◌else◌, refl, sym, ap, ◌∙◌, ⊎_elim, arith}
use Rattle.std.proofs.lemmas.Bool.{cases_lt}
use Rattle.std.proofs.lemmas.Bool.Decides.{Decides-eqb}
use Rattle.std.specs.Cmp.{unsigned_tied, nat_cmp_total}
use Rattle.std.specs.Ordering.{nat_cmp, eq_by_cmp}
use Rattle.std.specs.FinMap as map
use Rattle.std.specs.FinSet as set
use Rattle.fg_words.specs.declared.Word.{Word}
use Rattle.fg_peel.proofs.Maps.{inserted, beside_inserted}
use Rattle.fg_peel.specs.Words.{Words}
use Rattle.fg_buffer.specs.BufferEntries.{words_below, positions_below}
use Rattle.fg_buffer.proofs.Choices.{if-less, if-not_less}

-- a key that is the same, and one that is another
tied_same : (q n : ℕ) → q ≡ n → eq_by_cmp nat_cmp q n ≡ true
tied_same q n same = unsigned_tied q n ∙ (Decides-eqb q n).1 same

not_tied : (q n : ℕ) → (q ≡ n → ⊥) → eq_by_cmp nat_cmp q n ≡ false
not_tied q n other = go (q == n) refl ∙ refl
  where
    go : (b : Bool) → (q == n) ≡ b → eq_by_cmp nat_cmp q n ≡ false
    go true e = absurd (other ((Decides-eqb q n).0 e))
    go false e = unsigned_tied q n ∙ e

-- What stands at a position, of what stands below a limit, where one position more is looked at: there it is the same, but
-- at the limit.
one_more_below :
    {X : Type 0} (f : ℕ → X) (none now before : X) (n q : ℕ) → before ≡ (if nat_lt q n then f q else none)
    → ((q ≡ n → ⊥) → now ≡ before) → (q ≡ n → now ≡ f q) → now ≡ (if nat_lt q (suc n) then f q else none)
one_more_below f none now before n q was beside here =
    ⊎_elim
    (λ below.
    beside (λ same. omega (arith, below, same)) ∙ was ∙ if-less q n (f q) none below
    ∙ sym (if-less q (suc n) (f q) none (omega (arith, below))))
    (λ above.
    ⊎_elim
    (λ at. let same : q ≡ n = omega (arith, at, above) in here same ∙ sym (if-less q (suc n) (f q) none at))
    (λ past.
    beside (λ same. omega (arith, past, same)) ∙ was ∙ if-not_less q n (f q) none above ∙ sym (if-not_less q (suc n) (f q) none past))
    (cases_lt q (suc n)))
    (cases_lt q n)

-- At the limit there was none before.
none_at :
    {X : Type 0} (f : ℕ → X) (none before : X) (n q : ℕ) → before ≡ (if nat_lt q n then f q else none) → q ≡ n → before ≡ none
none_at f none before n q was same = was ∙ if-not_less q n (f q) none (omega (arith, same))

-- what the map of a function has
get_step :
    (m : Words) (n : ℕ) (words : ℕ → Option Word) (q : ℕ) (word : Option Word) → words n ≡ word
    → map.get m q ≡ (if nat_lt q n then words q else None)
    → map.get (elim word as (λ _. Words) [ None ↦ m | Some w ↦ map.insert m n w ]) q
    ≡ (if nat_lt q (suc n) then words q else None)
get_step m n words q None is rest =
    one_more_below words None (map.get m q) (map.get m q) n q rest (λ _. refl)
    (λ same. none_at words None (map.get m q) n q rest same ∙ sym (ap words same ∙ is))
get_step m n words q (Some w) is rest =
    one_more_below words None (map.get (map.insert m n w) q) (map.get m q) n q rest (beside_inserted m n w q)
    (λ same. inserted m n w q same ∙ sym (ap words same ∙ is))

pub get-words_below :
    (n : ℕ) (words : ℕ → Option Word) (q : ℕ) → map.get (words_below n words) q ≡ (if nat_lt q n then words q else None)
unfolding words_below
get-words_below zero words q = map.get-empty nat_cmp q ∙ sym (if-not_less q 0 (words q) None (omega arith))
get-words_below (suc n) words q = get_step (words_below n words) n words q (words n) refl (get-words_below n words q)

-- what the set of a test has
contains_step :
    (s : set.FinSet nat_cmp) (n : ℕ) (test : ℕ → Bool) (q : ℕ) (b : Bool) → test n ≡ b
    → set.contains s q ≡ (if nat_lt q n then test q else false)
    → set.contains (if b then set.insert s n else s) q ≡ (if nat_lt q (suc n) then test q else false)
contains_step s n test q false is rest =
    one_more_below test false (set.contains s q) (set.contains s q) n q rest (λ _. refl)
    (λ same. none_at test false (set.contains s q) n q rest same ∙ sym (ap test same ∙ is))
contains_step s n test q true is rest =
    one_more_below test false (set.contains (set.insert s n) q) (set.contains s q) n q rest
    (λ other. set.contains-insert nat_cmp_total s n q ∙ ap (λ b. b || set.contains s q) (not_tied q n other))
    (λ same.
    set.contains-insert nat_cmp_total s n q ∙ ap (λ b. b || set.contains s q) (tied_same q n same) ∙ sym (ap test same ∙ is))

pub contains-positions_below :
    (n : ℕ) (test : ℕ → Bool) (q : ℕ)
    → set.contains (positions_below n test) q ≡ (if nat_lt q n then test q else false)
unfolding positions_below
contains-positions_below zero test q =
    set.contains-empty nat_cmp q ∙ sym (if-not_less q 0 (test q) false (omega arith))
contains-positions_below (suc n) test q =
    contains_step (positions_below n test) n test q (test n) refl (contains-positions_below n test q)
