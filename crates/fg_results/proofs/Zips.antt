-- Two lists whose elements are related pair by pair.
use Rattle.std.proofs.Common.{◌≡◌, ◌<◌, ℕ, zero, suc, List, [], ◌∷◌, ◌++◌, length, refl, subst, sym, arith}
use Rattle.std.specs.List.{All, AllZip, Contains, slice_index_or}
use Rattle.std.proofs.lemmas.List.Elements.{All-nil, All-cons}

module _ {A B : Type 0} (R : A → B → Type 0) where
  pub zip_push : (xs : List A) (ys : List B) (x : A) (y : B) → AllZip R xs ys → R x y → AllZip R (xs ++ x ∷ []) (ys ++ y ∷ [])
  zip_push [] [] x y zip one = (one, tt)
  zip_push [] (other' ∷ ys) x y zip one = absurd zip
  zip_push (other ∷ xs) [] x y zip one = absurd zip
  zip_push (other ∷ xs) (other' ∷ ys) x y zip one = (zip.0, zip_push xs ys x y zip.1 one)

  pub zip_length : (xs : List A) (ys : List B) → AllZip R xs ys → length ys ≡ length xs
  zip_length [] [] zip = refl
  zip_length [] (y ∷ ys) zip = absurd zip
  zip_length (x ∷ xs) [] zip = absurd zip
  zip_length (x ∷ xs) (y ∷ ys) zip = (let rest = zip_length xs ys zip.1 in omega (arith, rest))

  pub zip_all : (P : B → Type 0) → ((x : A) (y : B) → R x y → P y) → (xs : List A) (ys : List B) → AllZip R xs ys → All P ys
  zip_all P each [] [] zip = All-nil P
  zip_all P each [] (y ∷ ys) zip = absurd zip
  zip_all P each (x ∷ xs) [] zip = absurd zip
  zip_all P each (x ∷ xs) (y ∷ ys) zip = All-cons P y ys (each x y zip.0) (zip_all P each xs ys zip.1)

  module _ (one : (x : A) (y y' : B) → R x y → R x y' → y ≡ y') where
    pub zip_one : (xs : List A) (ys ys' : List B) → AllZip R xs ys → AllZip R xs ys' → ys ≡ ys'
    zip_one [] [] [] zip zip' = refl
    zip_one [] [] (y' ∷ ys') zip zip' = absurd zip'
    zip_one [] (y ∷ ys) ys' zip zip' = absurd zip
    zip_one (x ∷ xs) [] ys' zip zip' = absurd zip
    zip_one (x ∷ xs) (y ∷ ys) [] zip zip' = absurd zip'
    zip_one (x ∷ xs) (y ∷ ys) (y' ∷ ys') zip zip' =
        let first = one x y y' zip.0 zip'.0 in
        let rest = zip_one xs ys ys' zip.1 zip'.1 in
        λ i. first i ∷ rest i

    -- What is related to more begins with what is related to the first of it.
    pub zip_begins :
        (xs more : List A) (ys ys' : List B) → AllZip R xs ys → AllZip R (xs ++ more) ys'
        → (rest : List B) × (ys' ≡ ys ++ rest) × AllZip R more rest
    zip_begins [] more [] ys' zip zip' = (ys', refl, zip')
    zip_begins [] more (y ∷ ys) ys' zip zip' = absurd zip
    zip_begins (x ∷ xs) more [] ys' zip zip' = absurd zip
    zip_begins (x ∷ xs) more (y ∷ ys) [] zip zip' = absurd zip'
    zip_begins (x ∷ xs) more (y ∷ ys) (y' ∷ ys') zip zip' =
        let first = one x y y' zip.0 zip'.0 in
        let rest = zip_begins xs more ys ys' zip.1 zip'.1 in
        (rest.0, (λ i. sym first i ∷ rest.1 i), rest.2)

-- Where two things hold of each pair, both hold of each element and its own.
module _ {A B : Type 0} (R S : A → B → Type 0) where
  pub zip_at :
      (xs : List A) (ys : List B) (x : A) → AllZip R xs ys → AllZip S xs ys → Contains xs x → (y : B) × R x y × S x y
  zip_at xs ys x r s c = at xs ys c.0 c.1 c.2 r s
    where
      at :
          (xs : List A) (ys : List B) (k : ℕ) → k < length xs → slice_index_or xs k x ≡ x → AllZip R xs ys → AllZip S xs ys
          → (y : B) × R x y × S x y
      at [] ys k within is r s = absurd (omega (arith, within))
      at (x' ∷ xs) [] k within is r s = absurd r
      at (x' ∷ xs) (y ∷ ys) zero within is r s = (y, subst (λ z. R z y) is r.0, subst (λ z. S z y) is s.0)
      at (x' ∷ xs) (y ∷ ys) (suc k) within is r s = at xs ys k (omega (arith, within)) is r.1 s.1
