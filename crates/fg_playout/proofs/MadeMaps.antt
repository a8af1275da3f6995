-- Maps are made: of a function's values below a limit, and of those values of a map of which something holds.
use Rattle.std.proofs.Common.{◌≡◌, ◌↔◌, ◌+◌, ◌<◌, ◌≤◌, ◌&&◌, ℕ, zero, suc, Bool, true, false, cond, not, ltb, List, [], ◌∷◌, map, Option, Some, None, refl, sym, ap, subst, ◌∙◌, ⊎_elim, arith, lt-ltb, le-ltb}
use Rattle.std.proofs.lemmas.Bool.{cases_lt, cases_eq}
use Rattle.std.proofs.lemmas.Option.{none-some, same_Some}
use Rattle.std.specs.List.{Contains}
use Rattle.std.specs.Ordering.{nat_cmp}
use Rattle.std.specs.FinMap.{FinMap, get, entries, insert, empty, retain_keys, get-empty, get-retain_keys, nat_cmp-IsAntisymmetric}
use Rattle.fg_peel.proofs.Lists.{Contains-cases, Contains-nil, Contains-map}
use Rattle.fg_peel.proofs.Options.{none_or_some}
use Rattle.fg_peel.proofs.Maps.{inserted, beside_inserted, entry_of_get}
use Rattle.fg_playout.proofs.Decided.{IsDecided}

-- All numbers of a list lie below a limit.
pub limit_of : (xs : List ℕ) → (limit : ℕ) × ((x : ℕ) → Contains xs x → x < limit)
limit_of [] = (0, λ x c. absurd (Contains-nil x c))
limit_of (y ∷ xs) =
    let rest = limit_of xs in (
      y + 1 + rest.0,
      λ x c. ⊎_elim
          (λ same. omega (arith, same))
          (λ there. let below = rest.1 x there in omega (arith, below))
          (Contains-cases y xs x c),
    )

module _ {X : Type 0} where
  -- So do all keys of a map.
  pub keys_limit : (m : FinMap nat_cmp X) → (limit : ℕ) × ((k : ℕ) (v : X) → get m k ≡ Some v → k < limit)
  keys_limit m =
      let limit = limit_of (map (λ (e : ℕ × X). e.0) (entries m)) in
      (limit.0, λ k v is. limit.1 k (Contains-map (λ (e : ℕ × X). e.0) (entries m) (k, v) (entry_of_get m k v is)))

  -- The map of a function's values below a limit.
  pub record MadeBelow (f : ℕ → Option X) (limit : ℕ) : Type 0 where
    pub made : FinMap nat_cmp X
    pub below : (k : ℕ) → k < limit → get made k ≡ f k
    pub past : (k : ℕ) → limit ≤ k → get made k ≡ None

  made_more : (f : ℕ → Option X) (limit : ℕ) → MadeBelow f limit → MadeBelow f (suc limit)
  made_more f limit m = ⊎_elim
      (λ none. record {
        made = m.made;
        below = λ k less. ⊎_elim
            (λ same. m.past k (omega (arith, same)) ∙ sym (ap f same ∙ none))
            (λ other. m.below k (omega (arith, less, other)))
            (cases_eq k limit);
        past = λ k beyond. m.past k (omega (arith, beyond));
      })
      (λ some. record {
        made = insert m.made limit some.0;
        below = λ k less. ⊎_elim
            (λ same. inserted m.made limit some.0 k same ∙ sym (ap f same ∙ some.1))
            (λ other. beside_inserted m.made limit some.0 k other ∙ m.below k (omega (arith, less, other)))
            (cases_eq k limit);
        past = λ k beyond. beside_inserted m.made limit some.0 k (λ same. omega (arith, same, beyond)) ∙ m.past k (omega (arith, beyond));
      })
      (none_or_some (f limit))

  pub made_below : (f : ℕ → Option X) (limit : ℕ) → MadeBelow f limit
  made_below f zero = record {
    made = empty;
    below = λ k less. absurd (omega (arith, less));
    past = λ k beyond. get-empty nat_cmp k;
  }
  made_below f (suc limit) = made_more f limit (made_below f limit)

  -- Below a limit, where a test passes.
  pub made_where :
      (f : ℕ → Option X) (test : ℕ → Bool) (limit : ℕ)
      → (m : FinMap nat_cmp X) × ((k : ℕ) → get m k ≡ cond (ltb k limit && test k) (f k) None)
  made_where f test limit =
      let m = made_below (λ k. cond (test k) (f k) None) limit in (
        m.made,
        λ k. ⊎_elim
            (λ less. m.below k less ∙ ap (λ (b : Bool). cond (b && test k) (f k) None) (sym (lt-ltb k limit less)))
            (λ beyond. m.past k beyond ∙ ap (λ (b : Bool). cond (b && test k) (f k) None) (sym (le-ltb k limit beyond)))
            (cases_lt k limit),
      )

  turned : (b : Bool) (o : Option X) → cond (not b) o None ≡ cond b None o
  turned true o = refl
  turned false o = refl

  -- What a map has from a mark on.
  pub left_from : (m : FinMap nat_cmp X) (mark : ℕ) → (n : FinMap nat_cmp X) × ((k : ℕ) → get n k ≡ cond (ltb k mark) None (get m k))
  left_from m mark =
      let test : ℕ → Bool = λ k. not (ltb k mark) in (
        retain_keys m test,
        λ k. get-retain_keys m test k (λ x tied. ap test (sym (nat_cmp-IsAntisymmetric k x tied))) ∙ turned (ltb k mark) (get m k),
      )

  module _ (P : X → Type 0) (each : (x : X) → IsDecided (P x)) where
    -- An option's value, if this holds of it.
    record Picked (o : Option X) : Type 0 where
      result : Option X
      is : (v : X) → (result ≡ Some v) ↔ ((o ≡ Some v) × P v)

    picked : (o : Option X) → Picked o
    picked None = record {
      result = None;
      is = λ v. (λ e. absurd (none-some v e), λ h. absurd (none-some v h.0));
    }
    picked (Some x) = ⊎_elim
        (λ yes. record { result = Some x; is = λ v. (λ e. (e, subst P (same_Some x v e) yes), λ h. h.0) })
        (λ no. record {
          result = None;
          is = λ v. (λ e. absurd (none-some v e), λ h. absurd (no (subst P (sym (same_Some x v h.0)) h.1)));
        })
        (each x)

    -- Those of a map's values of which it holds.
    pub filtered :
        (m : FinMap nat_cmp X)
        → (n : FinMap nat_cmp X) × ((k : ℕ) (v : X) → (get n k ≡ Some v) ↔ ((get m k ≡ Some v) × P v))
    filtered m =
        let limit = keys_limit m in
        let n = made_below (λ k. (picked (get m k)).result) limit.0 in (
          n.made,
          λ k v. (
            λ e. ⊎_elim
                (λ less. ((picked (get m k)).is v).0 (sym (n.below k less) ∙ e))
                (λ beyond. absurd (none-some v (sym (n.past k beyond) ∙ e)))
                (cases_lt k limit.0),
            λ h. n.below k (limit.1 k v h.0) ∙ ((picked (get m k)).is v).1 h,
          ),
        )
