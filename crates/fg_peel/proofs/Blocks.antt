-- The worked blocks.
use Rattle.std.proofs.Common.{◌≡◌, ◌≢◌, ◌⊎◌, ◌<◌, ℕ, zero, suc, true, List, [], ◌∷◌, Option, IsSome, inl, inr, refl, sym, subst, ◌∙◌, ⊎_elim, arith}
use Rattle.std.proofs.lemmas.Bool.{cases_lt}
use Rattle.std.specs.List.{Contains, AllByRecursion}
use Rattle.fg_words.specs.declared.Word.{Word}
use Rattle.fg_peel.specs.Equation.{Equation, slots}
use Rattle.fg_peel.specs.Closure.{InClosure, given, derived}
use Rattle.fg_peel.specs.Block.{row, column, block, received, ThreeLostFollow, TwoPassesFollow, FourInSquareStay, WrongParityIsUnsolvable}
use Rattle.fg_peel.proofs.Sums.{sum_at-agree}
use Rattle.fg_peel.proofs.Lists.{Contains-nil, Contains-cases}
use Rattle.fg_peel.proofs.Closures.{closure_least}
use Rattle.fg_peel.proofs.Options.{value_of}

-- What holds of each element by recursion holds of what the list has.
pub element : {X : Type 0} (P : X → Type 0) (xs : List X) → AllByRecursion P xs → (x : X) → Contains xs x → P x
element P [] all x c = absurd (Contains-nil x c)
element P (y ∷ ys) all x c = ⊎_elim (λ same. subst P (sym same) all.0) (element P ys all.1 x) (Contains-cases y ys x c)

-- A slot follows where each slot of the equation is that one or in the closure.
follows :
    (known : ℕ → Option Word) (equations : List Equation) (equation : Equation) (p : ℕ) → Contains equations equation
    → Contains (slots equation) p → AllByRecursion (λ q. (q ≡ p) ⊎ InClosure known equations q) (slots equation)
    → InClosure known equations p
follows known equations equation p listed slot rest = derived equation listed slot
    (λ q c n. ⊎_elim (λ same. absurd (n same)) (λ h. h) (element _ (slots equation) rest q c))

-- What holds of each number below n.
abbrev AllBelow : (ℕ → Type 0) → ℕ → Type 0
AllBelow P zero = Unit {0}
AllBelow P (suc n) = AllBelow P n × P n

below : (P : ℕ → Type 0) (n : ℕ) → AllBelow P n → (p : ℕ) → p < n → P p
below P zero all p h = absurd (omega arith)
below P (suc n) all p h = ⊎_elim
    (λ l. below P n all.0 p l)
    (λ g. let e : n ≡ p = omega arith in subst P e all.1)
    (cases_lt p n)

-- Position 5 follows in its column, and then 6 in its row.
module _ (known : ℕ → Option Word) (all : List Equation) where
  in_column :
      (parity : Word) → Contains all (column parity 1) → InClosure known all 1 → InClosure known all 9 → InClosure known all 13
      → InClosure known all 5
  in_column parity listed first third fourth = follows known all (column parity 1) 5 listed (1, omega arith, refl)
      (inr first, (inl refl, (inr third, (inr fourth, tt))))

  in_row :
      (parity : Word) → Contains all (row parity 1) → InClosure known all 4 → InClosure known all 5 → InClosure known all 7
      → InClosure known all 6
  in_row parity listed first second fourth = follows known all (row parity 1) 6 listed (2, omega arith, refl)
      (inr first, (inr second, (inl refl, (inr fourth, tt))))

pub three_lost_follow : ThreeLostFollow
three_lost_follow words across down = below (InClosure known all) 16 (
  (
    (
      (
        (
          (
            (
              (
                ((((((((tt, given refl), given refl), given refl), given refl), given refl), five), six), given refl),
                given refl,
              ),
              nine,
            ),
            given refl,
          ),
          given refl,
        ),
        given refl,
      ),
      given refl,
    ),
    given refl,
  ),
  given refl,
)
  where
    known : ℕ → Option Word
    known = received words (5 ∷ 6 ∷ 9 ∷ [])

    all : List Equation
    all = block across down (0 ∷ 1 ∷ 2 ∷ 3 ∷ []) (0 ∷ 1 ∷ 2 ∷ 3 ∷ [])

    nine : InClosure known all 9
    nine = follows known all (row (across 2) 2) 9 (2, omega arith, refl) (1, omega arith, refl)
        (inr (given refl), (inl refl, (inr (given refl), (inr (given refl), tt))))

    five : InClosure known all 5
    five = in_column known all (down 1) (5, omega arith, refl) (given refl) nine (given refl)

    six : InClosure known all 6
    six = in_row known all (across 1) (1, omega arith, refl) (given refl) five (given refl)

pub two_passes_follow : TwoPassesFollow
two_passes_follow words across down = below (InClosure known all) 16 (
  (
    (
      (
        (
          (
            (
              (
                ((((((((tt, given refl), given refl), given refl), given refl), given refl), five), six), given refl),
                given refl,
              ),
              given refl,
            ),
            ten,
          ),
          eleven,
        ),
        given refl,
      ),
      given refl,
    ),
    given refl,
  ),
  given refl,
)
  where
    known : ℕ → Option Word
    known = received words (5 ∷ 6 ∷ 10 ∷ 11 ∷ [])

    all : List Equation
    all = block across down (0 ∷ 1 ∷ 2 ∷ 3 ∷ []) (0 ∷ 1 ∷ 2 ∷ [])

    five : InClosure known all 5
    five = in_column known all (down 1) (5, omega arith, refl) (given refl) (given refl) (given refl)

    six : InClosure known all 6
    six = in_row known all (across 1) (1, omega arith, refl) (given refl) five (given refl)

    ten : InClosure known all 10
    ten = follows known all (column (down 2) 2) 10 (6, omega arith, refl) (2, omega arith, refl)
        (inr (given refl), (inr six, (inl refl, (inr (given refl), tt))))

    eleven : InClosure known all 11
    eleven = follows known all (row (across 2) 2) 11 (2, omega arith, refl) (3, omega arith, refl)
        (inr (given refl), (inr (given refl), (inr ten, (inl refl, tt))))

-- An equation gives nothing where each slot is known, or has another unknown slot beside it.
abbrev GivesNothing : (ℕ → Option Word) → Equation → Type 0
GivesNothing known equation = AllByRecursion
    (λ p. ((q : ℕ) → Contains (slots equation) q → q ≢ p → IsSome (known q)) → IsSome (known p)) (slots equation)

-- Of four slots the two in the middle are alike, as they are where both are unknown.
two_alike :
    (known : ℕ → Option Word) (equation : Equation) (a b c d : ℕ) → slots equation ≡ a ∷ b ∷ c ∷ d ∷ [] → b ≢ c
    → IsSome (known a) → known b ≡ known c → IsSome (known d) → GivesNothing known equation
two_alike known equation a b c d are differ first same last =
    subst (λ (xs : List ℕ). AllByRecursion (λ p. ((q : ℕ) → Contains xs q → q ≢ p → IsSome (known q)) → IsSome (known p)) xs) (sym are) (
      λ o. first,
      (
        λ o. subst (λ (w : Option Word). IsSome w) (sym same) (o c (2, omega arith, refl) (λ one. differ (sym one))),
        (λ o. subst (λ (w : Option Word). IsSome w) same (o b (1, omega arith, refl) differ), (λ o. last, tt)),
      ),
    )

pub four_in_square_stay : FourInSquareStay
four_in_square_stay words across down q = (
  closure_least known all (λ p. IsSome (known p)) (record {
    given = λ p h. h;
    derived = λ equation p listed slot others.
        element _ (slots equation) (element (GivesNothing known) all nothing equation listed) p slot others;
  }) q,
  λ h. given h,
)
  where
    known : ℕ → Option Word
    known = received words (5 ∷ 6 ∷ 9 ∷ 10 ∷ [])

    all : List Equation
    all = block across down (0 ∷ 1 ∷ 2 ∷ 3 ∷ []) (0 ∷ 1 ∷ 2 ∷ 3 ∷ [])

    row_1 : GivesNothing known (row (across 1) 1)
    row_1 = two_alike known (row (across 1) 1) 4 5 6 7 refl (omega arith) refl refl refl

    row_2 : GivesNothing known (row (across 2) 2)
    row_2 = two_alike known (row (across 2) 2) 8 9 10 11 refl (omega arith) refl refl refl

    column_1 : GivesNothing known (column (down 1) 1)
    column_1 = two_alike known (column (down 1) 1) 1 5 9 13 refl (omega arith) refl refl refl

    column_2 : GivesNothing known (column (down 2) 2)
    column_2 = two_alike known (column (down 2) 2) 2 6 10 14 refl (omega arith) refl refl refl

    nothing : AllByRecursion (GivesNothing known) all
    nothing =
        let r : true ≡ true = refl in
        let row_0 : GivesNothing known (row (across 0) 0) = (λ o. r, (λ o. r, (λ o. r, (λ o. r, tt)))) in
        let row_3 : GivesNothing known (row (across 3) 3) = (λ o. r, (λ o. r, (λ o. r, (λ o. r, tt)))) in
        let column_0 : GivesNothing known (column (down 0) 0) = (λ o. r, (λ o. r, (λ o. r, (λ o. r, tt)))) in
        let column_3 : GivesNothing known (column (down 3) 3) = (λ o. r, (λ o. r, (λ o. r, (λ o. r, tt)))) in
        (row_0, (row_1, (row_2, (row_3, (column_0, (column_1, (column_2, (column_3, tt))))))))

pub wrong_parity_unsolvable : WrongParityIsUnsolvable
wrong_parity_unsolvable words across down differs assigned solution =
    differs (solution.sums (row (across 1) 1) (1, omega arith, refl) (λ q c. given (whole q c))
    ∙ sum_at-agree assigned known (slots (row (across 1) 1)) (λ q c.
    let v = value_of (known q) (whole q c) in solution.keeps q v.0 v.1 ∙ sym v.1))
  where
    known : ℕ → Option Word
    known = received words []

    whole : (q : ℕ) → Contains (slots (row (across 1) 1)) q → IsSome (known q)
    whole = element (λ q. IsSome (known q)) (slots (row (across 1) 1)) (refl, (refl, (refl, (refl, tt))))
