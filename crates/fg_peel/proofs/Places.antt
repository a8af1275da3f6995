-- Where fewer equations are live than there are places, a place is free.
use Rattle.std.proofs.Common.{◌≡◌, ◌⊎◌, ◌<◌, ℕ, zero, suc, true, false, eqb, List, [], ◌∷◌, map, length, inl, inr, refl, sym, ap, subst, ◌∙◌, ⊎_elim, arith}
use Rattle.std.proofs.lemmas.Bool.{cases_Bool, cases_eq, true≢false}
use Rattle.std.proofs.lemmas.Cmp.{nat_eq_equiv}
use Rattle.std.proofs.lemmas.Map.Steps.{le-length_from_below}
use Rattle.std.proofs.lemmas.Map.Views.{list_any-from_Contains}
use Rattle.std.specs.List.{Contains, list_any}
use Rattle.std.specs.Ordering.{nat_cmp}
use Rattle.std.specs.FinMap.{FinMap, entries, len, len-entries}
use Rattle.fg_peel.proofs.Lists.{Contains-map}
use Rattle.fg_peel.proofs.Maps.{entry_of_get}
use Rattle.fg_peel.specs.Live.{Live, IsFree}

-- Each number below a limit is listed, or one isn't.
all_or_one :
    (xs : List ℕ) (limit : ℕ)
    → ((n : ℕ) → n < limit → list_any (eqb n) xs ≡ true) ⊎ ((n : ℕ) × (n < limit) × (list_any (eqb n) xs ≡ false))
all_or_one xs zero = inl (λ n below. absurd (omega (arith, below)))
all_or_one xs (suc limit) = ⊎_elim
    (λ each. ⊎_elim
    (λ last. inl (λ n below. ⊎_elim
    (λ same. subst (λ (k : ℕ). list_any (eqb k) xs ≡ true) (sym same) last)
    (λ other. each n (omega (arith, below, other)))
    (cases_eq n limit)))
    (λ none. inr (limit, omega arith, none))
    (cases_Bool (list_any (eqb limit) xs)))
    (λ one. inr (one.0, omega (arith, one.1), one.2))
    (all_or_one xs limit)

-- Fewer numbers than the limit leave out one below it.
left_out : (xs : List ℕ) (limit : ℕ) → length xs < limit → (n : ℕ) × (n < limit) × (Contains xs n → ⊥)
left_out xs limit fewer = ⊎_elim
    (λ each. absurd (let many = le-length_from_below xs limit each in omega (arith, many, fewer)))
    (λ one. (one.0, one.1, λ c. true≢false (sym (list_any-from_Contains nat_eq_equiv one.0 xs c) ∙ one.2)))
    (all_or_one xs limit)

length-places : (es : List (ℕ × Live)) → length (map (λ (e : ℕ × Live). e.1.place) es) ≡ length es
length-places [] = refl
length-places (e ∷ es) = ap suc (length-places es)

pub free_place :
    (equations : FinMap nat_cmp Live) (limit : ℕ) → len equations < limit
    → (place : ℕ) × (place < limit) × IsFree equations place
free_place equations limit fewer =
    let es = entries equations in
    let r = left_out (map (λ (e : ℕ × Live). e.1.place) es) limit (omega (arith, length-places es, len-entries equations, fewer)) in (
      r.0,
      r.1,
      λ serial live is same.
          r.2 (subst (λ (p : ℕ). Contains (map (λ (e : ℕ × Live). e.1.place) es) p) same
          (Contains-map (λ (e : ℕ × Live). e.1.place) es (serial, live) (entry_of_get equations serial live is))),
    )
