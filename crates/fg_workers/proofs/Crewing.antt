-- Lists that grow together, and lists whose elements change one after another.
use Rattle.std.proofs.Common.{◌≡◌, ℕ, ◌+◌, ◌<◌, ◌≤◌, Option, Some, None, List, [], ◌∷◌, ◌++◌, length, get_or, set, map, refl, sym, ap, subst, ◌∙◌, arith, length-set, get_or-set_same, get_or-set_other, below_more}
use Rattle.std.specs.List.{All}
use Rattle.std.proofs.lemmas.List.{map-append, get_or-map, length-map, get_or_at, length-append}
use Rattle.std.proofs.lemmas.List.Elements.{All-append}
use Rattle.fg_shape.specs.Playout.{Playout}
use Rattle.fg_playout.specs.State.{opening}
use Rattle.fg_core.specs.Board.{BoardState, opened_board}
use Rattle.fg_board.specs.Actors.{AdmitterState, desk_of}

-- A loop over a list has done the first elements, and the others are left.
pub record Reached {A : Type 0} (Done Left : A → Type 0) (count : ℕ) (xs : List A) : Type 0 where
  pub done : (j : ℕ) → j < count → (d : A) → j < length xs → Done (get_or xs j d)
  pub left : (j : ℕ) → count ≤ j → (d : A) → j < length xs → Left (get_or xs j d)

pub reached_none : {A : Type 0} (Done Left : A → Type 0) (xs : List A) → All Left xs → Reached Done Left 0 xs
reached_none Done Left xs all = record { done = λ j below. absurd (omega arith); left = λ j from d. all j d }

pub reached_more :
    {A : Type 0} (Done Left : A → Type 0) (xs : List A) (i : ℕ) (x : A) → i < length xs
    → (((d : A) → Left (get_or xs i d)) → Done x) → Reached Done Left i xs → Reached Done Left (i + 1) (set xs i x)
reached_more {A} Done Left xs i x within step reached = record {
  done = below_more _ _ before
      (λ d in'. subst Done (sym (get_or-set_same xs i x d within)) (step (λ e. reached.left i (omega arith) e within)));
  left = λ j from d in'.
      subst Left (sym (get_or-set_other xs i j x d (omega arith)))
      (reached.left j (omega arith) d (subst (λ n. j < n) (length-set xs i x) in'));
}
  where
    before : (j : ℕ) → j < i → (d : A) → j < length (set xs i x) → Done (get_or (set xs i x) j d)
    before j below d in' =
        subst Done (sym (get_or-set_other xs i j x d (omega arith)))
        (reached.done j below d (subst (λ n. j < n) (length-set xs i x) in'))

pub reached_all :
    {A : Type 0} (Done Left : A → Type 0) (xs : List A) (count : ℕ) → length xs ≤ count → Reached Done Left count xs → All Done xs
reached_all Done Left xs count all reached = λ j d in'. reached.done j (omega arith) d in'

-- What holds of each element of a list holds of the next one,
pub all_next :
    {A : Type 0} (P : A → Type 0) (xs before : List A) (x : A) (after : List A) → All P xs → xs ≡ before ++ x ∷ after → P x
all_next P xs before x after all is =
    let q = subst (All P) is all in
    let within : length before < length (before ++ x ∷ after) =
    subst (λ n. length before < n) (sym (length-append before (x ∷ after))) (omega arith)
    in
    subst P (get_or_at before x after x (length before) refl) (q (length before) x within)

-- of one that is added,
pub all_more :
    {A : Type 0} (P : A → Type 0) (xs ys : List A) (x : A) → ys ≡ xs ++ x ∷ [] → All P xs → P x → All P ys
all_more {A} P xs ys x is all here =
    subst (All P) (sym is) (All-append P xs (x ∷ []) all alone)
  where
    alone : All P (x ∷ [])
    alone k d in' = let at : k ≡ 0 = omega arith in subst (λ j. P (get_or (x ∷ []) j d)) (sym at) here

-- and of those of none.
pub all_none : {A : Type 0} (P : A → Type 0) (xs : List A) → xs ≡ [] → All P xs
all_none P xs none = λ k d in'. absurd (omega (arith, ap length none, in'))

-- Two lists that are read alike still are, once both have one element more that is.
pub alike_more :
    {A B C : Type 0} (f : A → C) (g : B → C) (xs : List A) (ys : List B) (x : A) (y : B) → map f xs ≡ map g ys → f x ≡ g y
    → map f (xs ++ x ∷ []) ≡ map g (ys ++ y ∷ [])
alike_more f g xs ys x y alike same =
    map-append f xs (x ∷ []) ∙ ap (λ zs. zs ++ f x ∷ []) alike ∙ ap (λ z. map g ys ++ z ∷ []) same
    ∙ sym (map-append g ys (y ∷ []))

-- They are as long,
pub alike_long :
    {A B C : Type 0} (f : A → C) (g : B → C) (xs : List A) (ys : List B) → map f xs ≡ map g ys → length xs ≡ length ys
alike_long f g xs ys alike = sym (length-map xs f) ∙ ap length alike ∙ length-map ys g

-- and their elements are read alike.
pub alike_at :
    {A B C : Type 0} (f : A → C) (g : B → C) (xs : List A) (ys : List B) (i : ℕ) (x : A) (y : B) → map f xs ≡ map g ys
    → i < length xs → f (get_or xs i x) ≡ g (get_or ys i y)
alike_at f g xs ys i x y alike within =
    sym (get_or-map f xs i x (f x) within) ∙ ap (λ zs. get_or zs i (f x)) alike
    ∙ get_or-map g ys i y (f x) (subst (λ n. i < n) (alike_long f g xs ys alike) within)

pub alike_next :
    {A B C : Type 0} (f : A → C) (g : B → C) (xs : List A) (ys : List B) (before : List A) (x : A) (after : List A) (i : ℕ) (y : B)
    → map f xs ≡ map g ys → xs ≡ before ++ x ∷ after → length before ≡ i → y ≡ get_or ys i y → f x ≡ g y
alike_next {A} f g xs ys before x after i y alike is at here =
    let within : i < length xs =
    subst (λ (zs : List A). i < length zs) (sym is)
    (subst (λ n. i < n) (sym (length-append before (x ∷ after))) (omega arith))
    in
    sym (ap f (ap (λ (zs : List A). get_or zs i x) is ∙ get_or_at before x after x i at))
    ∙ alike_at f g xs ys i x y alike within ∙ sym (ap g here)

-- The desk of an admitter that has made no call.
pub new_desk :
    (a : AdmitterState) (playout : Playout) → a.seat.left ≡ None → a.playout ≡ playout → desk_of a ≡ opening playout
new_desk a playout none is =
    ap (λ (left : Option BoardState). (elim left as (λ _. BoardState) [
      | None ↦ opened_board a.playout
      | Some board ↦ board
    ]).desk.state) none
    ∙ ap (λ (p : Playout). opening p) is
