-- A list of bytes after a vector was stored in it, and what is zero of it.
use Rattle.std.proofs.Common.{◌≡◌, ℕ, zero, suc, ◌+◌, ◌-◌, ◌*◌, ◌/◌, ◌%◌, ◌<◌, ◌≤◌, ◌↔◌, List, [], ◌∷◌, ◌++◌, length, replicate, take, drop, get_or, bit_xor, bit_or, refl, sym, ap, subst, ⊎_elim, ◌∙◌, arith, length-append, length-drop, below_more}
use Rattle.std.specs.Int.Bits.{or_zero_l}
use Rattle.std.specs.Simd.Lanes.{zip2, fold_l, chunk, put_chunk}
use Rattle.std.proofs.lemmas.Nat.{le_or_l, le_or_r}
use Rattle.std.proofs.lemmas.Bool.{cases_lt}
use Rattle.std.proofs.lemmas.Simd.{length-zip2, get_or-zip2, length-chunk, get_or-chunk, put_chunk_is, length-replicate, get_or-replicate}
use Rattle.std.proofs.lemmas.List.{ext_get_or, get_or_append_left, get_or-append_right, get_or-take, get_or-drop, get_or_past, take_all, drop_all, length-take, append-nil, drop-append-le, drop-drop, take-append-le, take-take}
use borrow.Rule.Slice.PartMut.{put_mid, mid_of}

-- The list with zs in the place of as many elements from the a-th on.
stored_is : (a n : ℕ) (xs zs : List ℕ) → length xs ≡ n → a + length zs ≤ n → put_mid a (n - a) xs (put_chunk 0 (mid_of a (n - a) xs) zs) ≡ take a xs ++ (zs ++ drop (a + length zs) xs)
stored_is a n xs zs long fits =
    let rest : length (drop a xs) ≤ n - a = omega (arith, length-drop a xs) in
    let all : take (n - a) (drop a xs) ≡ drop a xs = take_all (n - a) (drop a xs) rest in
    let none : drop (n - a) (drop a xs) ≡ [] = drop_all (n - a) (drop a xs) rest in
    let room : 0 + length zs ≤ length (drop a xs) = omega (arith, length-drop a xs) in
    let put : put_chunk 0 (drop a xs) zs ≡ zs ++ drop (length zs) (drop a xs) = put_chunk_is 0 (drop a xs) zs room in
    ap (λ (m : List ℕ). take a xs ++ (put_chunk 0 m zs ++ drop (n - a) (drop a xs))) all
    ∙ ap (λ (m : List ℕ). take a xs ++ (put_chunk 0 (drop a xs) zs ++ m)) none
    ∙ ap (λ (m : List ℕ). take a xs ++ m) (append-nil (put_chunk 0 (drop a xs) zs))
    ∙ ap (λ (m : List ℕ). take a xs ++ m) put
    ∙ ap (λ (m : List ℕ). take a xs ++ (zs ++ m)) (drop-drop (length zs) a xs)

stored_below : (a : ℕ) (xs zs ys : List ℕ) (i : ℕ) → i < a → a ≤ length xs → get_or (take a xs ++ (zs ++ ys)) i 0 ≡ get_or xs i 0
stored_below a xs zs ys i lt fits = get_or_append_left (take a xs) (zs ++ ys) 0 i (omega (arith, length-take a xs)) ∙ get_or-take a xs i 0 lt

stored_inside : (a : ℕ) (xs zs ys : List ℕ) (i : ℕ) → a ≤ i → i < a + length zs → a ≤ length xs → get_or (take a xs ++ (zs ++ ys)) i 0 ≡ get_or zs (i - a) 0
stored_inside a xs zs ys i le lt fits =
    let long : length (take a xs) ≡ a = omega (arith, length-take a xs) in
    get_or-append_right (take a xs) (zs ++ ys) a i 0 long le ∙ get_or_append_left zs ys 0 (i - a) (omega arith)

stored_above : (a : ℕ) (xs zs : List ℕ) (i : ℕ) → a + length zs ≤ i → a ≤ length xs → get_or (take a xs ++ (zs ++ drop (a + length zs) xs)) i 0 ≡ get_or xs i 0
stored_above a xs zs i le fits =
    let long : length (take a xs) ≡ a = omega (arith, length-take a xs) in
    let at : a + length zs + (i - a - length zs) ≡ i = omega arith in
    get_or-append_right (take a xs) (zs ++ drop (a + length zs) xs) a i 0 long (omega arith)
    ∙ get_or-append_right zs (drop (a + length zs) xs) (length zs) (i - a) 0 refl (omega arith)
    ∙ get_or-drop (a + length zs) xs (i - a - length zs) 0
    ∙ ap (λ (k : ℕ). get_or xs k 0) at

-- The w bytes from the a-th on, as a vector that is loaded from there.
loaded-length : (a n w : ℕ) (xs : List ℕ) → length xs ≡ n → a + w ≤ n → length (chunk 0 w (mid_of a (n - a) xs)) ≡ w
loaded-length a n w xs long fits = length-chunk 0 w (mid_of a (n - a) xs) (omega (arith, length-take (n - a) (drop a xs), length-drop a xs))

loaded-get_or : (a n w : ℕ) (xs : List ℕ) (j : ℕ) → length xs ≡ n → a + w ≤ n → j < w → get_or (chunk 0 w (mid_of a (n - a) xs)) j 0 ≡ get_or xs (a + j) 0
loaded-get_or a n w xs j long fits lt =
    get_or-chunk 0 w (mid_of a (n - a) xs) j 0 lt
    ∙ ap (λ (k : ℕ). get_or (mid_of a (n - a) xs) k 0) (let e : 0 + j ≡ j = omega arith in e)
    ∙ get_or-take (n - a) (drop a xs) j 0 (omega arith)
    ∙ get_or-drop a xs j 0

-- The XOR of the w bytes from the a-th on, and the list after it was stored there.
abbrev sums : ℕ → ℕ → ℕ → List ℕ → List ℕ → List ℕ
sums a n w xs ys = zip2 bit_xor (chunk 0 w (mid_of a (n - a) xs)) (chunk 0 w (mid_of a (n - a) ys))

abbrev stepped : ℕ → ℕ → ℕ → List ℕ → List ℕ → List ℕ
stepped a n w xs ys = put_mid a (n - a) xs (put_chunk 0 (mid_of a (n - a) xs) (sums a n w xs ys))

-- What a vector's step leaves: the XOR in its w bytes, and all else as it was.
module _ (a n w : ℕ) (xs ys : List ℕ) (long : length xs ≡ n) (other_long : length ys ≡ n) (fits : a + w ≤ n) where
  wide : length (sums a n w xs ys) ≡ w
  wide = length-zip2 bit_xor (chunk 0 w (mid_of a (n - a) xs)) (chunk 0 w (mid_of a (n - a) ys)) (loaded-length a n w xs long fits ∙ sym (loaded-length a n w ys other_long fits)) ∙ loaded-length a n w xs long fits

  stepped-is : stepped a n w xs ys ≡ take a xs ++ ((sums a n w xs ys) ++ drop (a + length (sums a n w xs ys)) xs)
  stepped-is = let e = wide in stored_is a n xs (sums a n w xs ys) long (omega arith)

  pub stepped-inside : (i : ℕ) → a ≤ i → i < a + w → get_or (stepped a n w xs ys) i 0 ≡ bit_xor (get_or xs i 0) (get_or ys i 0)
  stepped-inside i le lt =
      let e = wide in
      let near : i - a < w = omega arith in
      let at : a + (i - a) ≡ i = omega arith in
      ap (λ (l : List ℕ). get_or l i 0) stepped-is
      ∙ stored_inside a xs (sums a n w xs ys) (drop (a + length (sums a n w xs ys)) xs) i le (omega arith) (omega arith)
      ∙ get_or-zip2 bit_xor (chunk 0 w (mid_of a (n - a) xs)) (chunk 0 w (mid_of a (n - a) ys)) (i - a) 0 0 0 (omega (arith, loaded-length a n w xs long fits)) (omega (arith, loaded-length a n w ys other_long fits))
      ∙ ap (λ (k : ℕ). bit_xor k (get_or (chunk 0 w (mid_of a (n - a) ys)) (i - a) 0)) (loaded-get_or a n w xs (i - a) long fits near)
      ∙ ap (λ (k : ℕ). bit_xor (get_or xs (a + (i - a)) 0) k) (loaded-get_or a n w ys (i - a) other_long fits near)
      ∙ ap (λ (k : ℕ). bit_xor (get_or xs k 0) (get_or ys k 0)) at

  pub stepped-below : (i : ℕ) → i < a → get_or (stepped a n w xs ys) i 0 ≡ get_or xs i 0
  stepped-below i lt =
      ap (λ (l : List ℕ). get_or l i 0) stepped-is
      ∙ stored_below a xs (sums a n w xs ys) (drop (a + length (sums a n w xs ys)) xs) i lt (omega arith)

  pub stepped-above : (i : ℕ) → a + w ≤ i → get_or (stepped a n w xs ys) i 0 ≡ get_or xs i 0
  stepped-above i le =
      let e = wide in
      ap (λ (l : List ℕ). get_or l i 0) stepped-is
      ∙ stored_above a xs (sums a n w xs ys) i (omega arith) (omega arith)

  stepped_long : length (stepped a n w xs ys) ≡ n
  stepped_long =
      let e = wide in
      let parts = length-append (take a xs) ((sums a n w xs ys) ++ drop (a + length (sums a n w xs ys)) xs) in
      let back = length-append (sums a n w xs ys) (drop (a + length (sums a n w xs ys)) xs) in
      ap length stepped-is ∙ omega (arith, parts, back, length-take a xs, length-drop (a + length (sums a n w xs ys)) xs)

-- A loop that XORs vectors of w bytes from the front on: done below w * v, and not yet from there on.
pub xor_vectors_more : (v n w : ℕ) (start xs ys : List ℕ) → length xs ≡ n → length ys ≡ n → w * (v + 1) ≤ n →
    ((i : ℕ) → i < w * v → get_or xs i 0 ≡ bit_xor (get_or start i 0) (get_or ys i 0)) →
    ((i : ℕ) → w * v ≤ i → get_or xs i 0 ≡ get_or start i 0) →
    ((i : ℕ) → i < w * (v + 1) → get_or (stepped (w * v) n w xs ys) i 0 ≡ bit_xor (get_or start i 0) (get_or ys i 0))
    × ((i : ℕ) → w * (v + 1) ≤ i → get_or (stepped (w * v) n w xs ys) i 0 ≡ get_or start i 0)
    × (length (stepped (w * v) n w xs ys) ≡ n)
xor_vectors_more v n w start xs ys long other_long fits done ahead =
    let more : w * (v + 1) ≡ w * v + w = omega arith in
    let room : w * v + w ≤ n = omega arith in (
      λ i lt. ⊎_elim
          (λ (below : i < w * v). stepped-below (w * v) n w xs ys long other_long room i below ∙ done i below)
          (λ (from : w * v ≤ i). stepped-inside (w * v) n w xs ys long other_long room i from (omega arith) ∙ ap (λ (k : ℕ). bit_xor k (get_or ys i 0)) (ahead i from))
          (cases_lt i (w * v)),
      λ i le. stepped-above (w * v) n w xs ys long other_long room i (omega arith) ∙ ahead i (omega arith),
      stepped_long (w * v) n w xs ys long other_long room,
    )

-- A part of an XOR is the XOR of the parts.
zip_nothing : (xs : List ℕ) → zip2 bit_xor xs [] ≡ []
zip_nothing [] = refl
zip_nothing (x ∷ xs) = refl

take-zip : (n : ℕ) (xs ys : List ℕ) → take n (zip2 bit_xor xs ys) ≡ zip2 bit_xor (take n xs) (take n ys)
take-zip zero xs ys = refl
take-zip (suc n) [] ys = refl
take-zip (suc n) (x ∷ xs) [] = refl
take-zip (suc n) (x ∷ xs) (y ∷ ys) = ap (λ (l : List ℕ). bit_xor x y ∷ l) (take-zip n xs ys)

drop-zip : (n : ℕ) (xs ys : List ℕ) → drop n (zip2 bit_xor xs ys) ≡ zip2 bit_xor (drop n xs) (drop n ys)
drop-zip zero xs ys = refl
drop-zip (suc n) [] ys = refl
drop-zip (suc n) (x ∷ xs) [] = sym (zip_nothing (drop n xs))
drop-zip (suc n) (x ∷ xs) (y ∷ ys) = drop-zip n xs ys

chunk-zip : (a n w : ℕ) (xs ys : List ℕ)
    → chunk 0 w (mid_of a n (zip2 bit_xor xs ys)) ≡ zip2 bit_xor (chunk 0 w (mid_of a n xs)) (chunk 0 w (mid_of a n ys))
chunk-zip a n w xs ys =
    ap (λ (l : List ℕ). take w (take n l)) (drop-zip a xs ys)
    ∙ ap (λ (l : List ℕ). take w l) (take-zip n (drop a xs) (drop a ys))
    ∙ take-zip w (take n (drop a xs)) (take n (drop a ys))

-- The list after a vector of two lists' XOR was added.
abbrev stored : ℕ → ℕ → ℕ → List ℕ → List ℕ → List ℕ
stored a n w xs both = put_mid a (n - a) xs (put_chunk 0 (mid_of a (n - a) xs) (zip2 bit_xor (chunk 0 w (mid_of a (n - a) xs)) both))

abbrev Steps : ℕ → ℕ → ℕ → List ℕ → List ℕ → List ℕ → Type 0
Steps v n w start ys zs =
    ((i : ℕ) → i < w * (v + 1) → get_or zs i 0 ≡ bit_xor (get_or start i 0) (get_or ys i 0))
    × ((i : ℕ) → w * (v + 1) ≤ i → get_or zs i 0 ≡ get_or start i 0)
    × (length zs ≡ n)

pub xor_pairs_more : (v n w : ℕ) (start xs one other : List ℕ) → length xs ≡ n → length one ≡ n → length other ≡ n → w * (v + 1) ≤ n →
    ((i : ℕ) → i < w * v → get_or xs i 0 ≡ bit_xor (get_or start i 0) (get_or (zip2 bit_xor one other) i 0)) →
    ((i : ℕ) → w * v ≤ i → get_or xs i 0 ≡ get_or start i 0) →
    Steps v n w start (zip2 bit_xor one other)
    (stored (w * v) n w xs (zip2 bit_xor (chunk 0 w (mid_of (w * v) (n - w * v) one)) (chunk 0 w (mid_of (w * v) (n - w * v) other))))
xor_pairs_more v n w start xs one other long one_long other_long fits done ahead =
    subst (λ (both : List ℕ). Steps v n w start (zip2 bit_xor one other) (stored (w * v) n w xs both))
    (chunk-zip (w * v) (n - w * v) w one other)
    (xor_vectors_more v n w start xs (zip2 bit_xor one other) long
    (length-zip2 bit_xor one other (one_long ∙ sym other_long) ∙ one_long) fits done ahead)

-- Zeros are zero at each place.
pub bytes_of_zeros : (n : ℕ) (xs : List ℕ) → xs ≡ replicate n 0 → (i : ℕ) → get_or xs i 0 ≡ 0
bytes_of_zeros n xs e i = ap (λ (l : List ℕ). get_or l i 0) e ∙ ⊎_elim
    (λ (lt : i < n). get_or-replicate n i 0 0 lt)
    (λ (le : n ≤ i). get_or_past (replicate n 0) i 0 (omega (arith, length-replicate {A = ℕ} n 0)))
    (cases_lt i n)

-- A shorter list, padded with zeros.
abbrev pub padded : ℕ → List ℕ → List ℕ
padded n front = front ++ replicate (n - length front) 0

pub padded_long : (n : ℕ) (front : List ℕ) → length front ≤ n → length (padded n front) ≡ n
padded_long n front fits = length-append front (replicate (n - length front) 0) ∙ omega (arith, length-replicate {A = ℕ} (n - length front) 0)

-- The bytes are the same, since a list has zeros past its end.
pub padded_at : (n : ℕ) (front : List ℕ) (i : ℕ) → get_or (padded n front) i 0 ≡ get_or front i 0
padded_at n front i =
    let tail : List ℕ = replicate (n - length front) 0 in
    ⊎_elim
    (λ (inside : i < length front). get_or_append_left front tail 0 i inside)
    (λ (past : length front ≤ i).
    get_or-append_right front tail (length front) i 0 refl past
    ∙ bytes_of_zeros (n - length front) tail refl (i - length front)
    ∙ sym (get_or_past front i 0 past))
    (cases_lt i (length front))

padded_chunk : (a n w : ℕ) (front : List ℕ) → a + w ≤ length front → length front ≤ n → chunk 0 w (mid_of a (n - a) (padded n front)) ≡ chunk a w front
padded_chunk a n w front fits limit =
    let tail : List ℕ = replicate (n - length front) 0 in
    let long = length-drop a front in
    take-take w (n - a) (drop a (padded n front)) (omega arith)
    ∙ ap (λ (l : List ℕ). take w l) (drop-append-le a front tail (omega arith))
    ∙ take-append-le w (drop a front) tail (omega (arith, long))

pub xor_fronts_more : (v n w : ℕ) (start xs front : List ℕ) → length xs ≡ n → length front ≤ n → w * (v + 1) ≤ length front →
    ((i : ℕ) → i < w * v → get_or xs i 0 ≡ bit_xor (get_or start i 0) (get_or front i 0)) →
    ((i : ℕ) → w * v ≤ i → get_or xs i 0 ≡ get_or start i 0) →
    Steps v n w start front (stored (w * v) n w xs (chunk (w * v) w front))
xor_fronts_more v n w start xs front long limit fits done ahead =
    let whole : List ℕ = padded n front in
    let steps : Steps v n w start whole (stored (w * v) n w xs (chunk (w * v) w front)) =
    subst (λ (both : List ℕ). Steps v n w start whole (stored (w * v) n w xs both))
    (padded_chunk (w * v) n w front (omega arith) limit)
    (xor_vectors_more v n w start xs whole long (padded_long n front limit) (omega arith)
    (λ i lt. done i lt ∙ ap (λ (k : ℕ). bit_xor (get_or start i 0) k) (sym (padded_at n front i))) ahead) in (
      λ i lt. steps.0 i lt ∙ ap (λ (k : ℕ). bit_xor (get_or start i 0) k) (padded_at n front i),
      steps.1,
      steps.2,
    )

-- The same of four lists.
abbrev pub all_of : List ℕ → List ℕ → List ℕ → List ℕ → List ℕ
all_of first second third fourth = zip2 bit_xor (zip2 bit_xor first second) (zip2 bit_xor third fourth)

pub all_long : (n : ℕ) (first second third fourth : List ℕ) → length first ≡ n → length second ≡ n → length third ≡ n → length fourth ≡ n
    → length (all_of first second third fourth) ≡ n
all_long n first second third fourth a b c d =
    let one = length-zip2 bit_xor first second (a ∙ sym b) ∙ a in
    let other = length-zip2 bit_xor third fourth (c ∙ sym d) ∙ c in
    length-zip2 bit_xor (zip2 bit_xor first second) (zip2 bit_xor third fourth) (one ∙ sym other) ∙ one

chunk-all : (a n w : ℕ) (first second third fourth : List ℕ)
    → chunk 0 w (mid_of a n (all_of first second third fourth))
    ≡ all_of (chunk 0 w (mid_of a n first)) (chunk 0 w (mid_of a n second)) (chunk 0 w (mid_of a n third)) (chunk 0 w (mid_of a n fourth))
chunk-all a n w first second third fourth =
    chunk-zip a n w (zip2 bit_xor first second) (zip2 bit_xor third fourth)
    ∙ (λ i. zip2 bit_xor (chunk-zip a n w first second i) (chunk-zip a n w third fourth i))

pub xor_fours_more : (v n w : ℕ) (start xs first second third fourth : List ℕ) → length xs ≡ n
    → length first ≡ n → length second ≡ n → length third ≡ n → length fourth ≡ n → w * (v + 1) ≤ n →
    ((i : ℕ) → i < w * v → get_or xs i 0 ≡ bit_xor (get_or start i 0) (get_or (all_of first second third fourth) i 0)) →
    ((i : ℕ) → w * v ≤ i → get_or xs i 0 ≡ get_or start i 0) →
    Steps v n w start (all_of first second third fourth)
    (stored (w * v) n w xs (all_of (chunk 0 w (mid_of (w * v) (n - w * v) first)) (chunk 0 w (mid_of (w * v) (n - w * v) second))
    (chunk 0 w (mid_of (w * v) (n - w * v) third)) (chunk 0 w (mid_of (w * v) (n - w * v) fourth))))
xor_fours_more v n w start xs first second third fourth long a b c d fits done ahead =
    subst (λ (all : List ℕ). Steps v n w start (all_of first second third fourth) (stored (w * v) n w xs all))
    (chunk-all (w * v) (n - w * v) w first second third fourth)
    (xor_vectors_more v n w start xs (all_of first second third fourth) long (all_long n first second third fourth a b c d) fits done ahead)

-- Bytes that are the XOR of two lists' bytes at each place.
pub xor_of_bytes : (n : ℕ) (xs ys zs : List ℕ) → length xs ≡ n → length ys ≡ n → length zs ≡ n →
    ((i : ℕ) → i < n → get_or zs i 0 ≡ bit_xor (get_or xs i 0) (get_or ys i 0)) → zs ≡ zip2 bit_xor xs ys
xor_of_bytes n xs ys zs long other_long result_long each =
    let both : length (zip2 bit_xor xs ys) ≡ n = length-zip2 bit_xor xs ys (long ∙ sym other_long) ∙ long in
    ext_get_or 0 zs (zip2 bit_xor xs ys) (result_long ∙ sym both) (λ i lt.
    let below : i < n = omega arith in
    each i below ∙ sym (get_or-zip2 bit_xor xs ys i 0 0 0 (omega arith) (omega arith)))

-- After the last vector, of the w bytes at the end, all is added.
pub xor_ends : (a n w : ℕ) (start xs ys : List ℕ) → length start ≡ n → length xs ≡ n → length ys ≡ n → a + w ≡ n →
    ((i : ℕ) → i < a → get_or xs i 0 ≡ bit_xor (get_or start i 0) (get_or ys i 0)) →
    ((i : ℕ) → a ≤ i → get_or xs i 0 ≡ get_or start i 0) →
    stepped a n w xs ys ≡ zip2 bit_xor start ys
xor_ends a n w start xs ys start_long long other_long end done ahead =
    let fits : a + w ≤ n = omega arith in
    xor_of_bytes n start ys (stepped a n w xs ys) start_long other_long (stepped_long a n w xs ys long other_long fits) (λ i lt. ⊎_elim
    (λ (below : i < a). stepped-below a n w xs ys long other_long fits i below ∙ done i below)
    (λ (from : a ≤ i). stepped-inside a n w xs ys long other_long fits i from (omega arith) ∙ ap (λ (k : ℕ). bit_xor k (get_or ys i 0)) (ahead i from))
    (cases_lt i a))

pub xor_pairs_end : (a n w : ℕ) (start xs one other : List ℕ) → length start ≡ n → length xs ≡ n → length one ≡ n → length other ≡ n → a + w ≡ n →
    ((i : ℕ) → i < a → get_or xs i 0 ≡ bit_xor (get_or start i 0) (get_or (zip2 bit_xor one other) i 0)) →
    ((i : ℕ) → a ≤ i → get_or xs i 0 ≡ get_or start i 0) →
    stored a n w xs (zip2 bit_xor (chunk 0 w (mid_of a (n - a) one)) (chunk 0 w (mid_of a (n - a) other))) ≡ zip2 bit_xor start (zip2 bit_xor one other)
xor_pairs_end a n w start xs one other start_long long one_long other_long end done ahead =
    subst (λ (both : List ℕ). stored a n w xs both ≡ zip2 bit_xor start (zip2 bit_xor one other))
    (chunk-zip a (n - a) w one other)
    (xor_ends a n w start xs (zip2 bit_xor one other) start_long long (length-zip2 bit_xor one other (one_long ∙ sym other_long) ∙ one_long) end done ahead)

pub xor_fours_end : (a n w : ℕ) (start xs first second third fourth : List ℕ) → length start ≡ n → length xs ≡ n
    → length first ≡ n → length second ≡ n → length third ≡ n → length fourth ≡ n → a + w ≡ n →
    ((i : ℕ) → i < a → get_or xs i 0 ≡ bit_xor (get_or start i 0) (get_or (all_of first second third fourth) i 0)) →
    ((i : ℕ) → a ≤ i → get_or xs i 0 ≡ get_or start i 0) →
    stored a n w xs (all_of (chunk 0 w (mid_of a (n - a) first)) (chunk 0 w (mid_of a (n - a) second))
    (chunk 0 w (mid_of a (n - a) third)) (chunk 0 w (mid_of a (n - a) fourth)))
    ≡ zip2 bit_xor start (all_of first second third fourth)
xor_fours_end a n w start xs first second third fourth start_long long one two three four end done ahead =
    subst (λ (all : List ℕ). stored a n w xs all ≡ zip2 bit_xor start (all_of first second third fourth))
    (chunk-all a (n - a) w first second third fourth)
    (xor_ends a n w start xs (all_of first second third fourth) start_long long (all_long n first second third fourth one two three four) end done ahead)

-- Bytes that are all zero.
pub zeros_of_bytes : (n : ℕ) (xs : List ℕ) → length xs ≡ n → ((i : ℕ) → i < n → get_or xs i 0 ≡ 0) → xs ≡ replicate n 0
zeros_of_bytes n xs long each = ext_get_or 0 xs (replicate n 0) (long ∙ sym (length-replicate {A = ℕ} n 0)) (λ i lt.
    let below : i < n = omega arith in
    each i below ∙ sym (get_or-replicate n i 0 0 below))

-- An OR is zero exactly where both are.
or_zero : (a b : ℕ) → (bit_or a b ≡ 0) ↔ ((a ≡ 0) × (b ≡ 0))
or_zero a b = (λ e. (omega (arith, le_or_l a b), omega (arith, le_or_r a b)), λ p. ap (λ (k : ℕ). bit_or k b) p.0 ∙ or_zero_l b ∙ p.1)

-- The union of all lanes is zero exactly where each lane is.
fold_zero : (a : ℕ) (xs : List ℕ) → (fold_l bit_or a xs ≡ 0) ↔ ((a ≡ 0) × ((j : ℕ) → get_or xs j 0 ≡ 0))
fold_zero a [] = (λ e. (e, λ j. refl), λ p. p.0)
fold_zero a (x ∷ xs) = (
  λ e. let r = (fold_zero (bit_or a x) xs).0 e in
      let both = (or_zero a x).0 r.0 in
      (both.0, λ j. elim j as (λ k. get_or (x ∷ xs) k 0 ≡ 0) [ zero ↦ both.1 | suc k ↦ r.1 k ]),
  λ p. (fold_zero (bit_or a x) xs).1 ((or_zero a x).1 (p.0, p.1 zero), λ j. p.1 (suc j)),
)

-- A loop that unites vectors of w bytes from the front on: a lane of the union is zero exactly where each byte
-- that went into it is.
pub seen_more : (v n w : ℕ) (bytes union : List ℕ) → length bytes ≡ n → length union ≡ w → w * (v + 1) ≤ n →
    ((j : ℕ) → j < w → (get_or union j 0 ≡ 0) ↔ ((k : ℕ) → k < v → get_or bytes (w * k + j) 0 ≡ 0)) →
    (j : ℕ) → j < w →
    (get_or (zip2 bit_or union (chunk 0 w (mid_of (w * v) (n - w * v) bytes))) j 0 ≡ 0) ↔ ((k : ℕ) → k < v + 1 → get_or bytes (w * k + j) 0 ≡ 0)
seen_more v n w bytes union long wide fits seen j lt =
    let room : w * v + w ≤ n = omega arith in
    let next : List ℕ = chunk 0 w (mid_of (w * v) (n - w * v) bytes) in
    let loaded : get_or next j 0 ≡ get_or bytes (w * v + j) 0 = loaded-get_or (w * v) n w bytes j long room lt in
    let lane : get_or (zip2 bit_or union next) j 0 ≡ bit_or (get_or union j 0) (get_or next j 0) = get_or-zip2 bit_or union next j 0 0 0 (omega arith) (omega (arith, loaded-length (w * v) n w bytes long room)) in (
      λ e.
          let both = (or_zero (get_or union j 0) (get_or next j 0)).0 (sym lane ∙ e) in
          below_more (λ (k : ℕ). get_or bytes (w * k + j) 0 ≡ 0) v ((seen j lt).0 both.0) (sym loaded ∙ both.1),
      λ all. lane ∙ (or_zero (get_or union j 0) (get_or next j 0)).1 ((seen j lt).1 (λ k below. all k (omega arith)), loaded ∙ all v (omega arith)),
    )

pub united-length : (v n w : ℕ) (bytes union : List ℕ) → length bytes ≡ n → length union ≡ w → w * (v + 1) ≤ n →
    length (zip2 bit_or union (chunk 0 w (mid_of (w * v) (n - w * v) bytes))) ≡ w
united-length v n w bytes union long wide fits =
    let room : w * v + w ≤ n = omega arith in
    let loaded = loaded-length (w * v) n w bytes long room in
    length-zip2 bit_or union (chunk 0 w (mid_of (w * v) (n - w * v) bytes)) (wide ∙ sym loaded) ∙ wide

pub seen_all : (m v : ℕ) (bytes union : List ℕ) → m ≡ 32 * v → length union ≡ 32 →
    ((j : ℕ) → j < 32 → (get_or union j 0 ≡ 0) ↔ ((k : ℕ) → k < v → get_or bytes (32 * k + j) 0 ≡ 0)) →
    (fold_l bit_or 0 union ≡ 0) ↔ ((i : ℕ) → i < m → get_or bytes i 0 ≡ 0)
seen_all m v bytes union whole wide seen = (
  λ e i lt.
      let lanes = (fold_zero 0 union).0 e in
      let at : 32 * (i / 32) + i % 32 ≡ i = omega arith in
      ap (λ (k : ℕ). get_or bytes k 0) (sym at) ∙ (seen (i % 32) (omega arith)).0 (lanes.1 (i % 32)) (i / 32) (omega arith),
  λ all. (fold_zero 0 union).1 (
    refl,
    λ j. ⊎_elim
        (λ (lt : j < 32). (seen j lt).1 (λ k below. all (32 * k + j) (omega arith)))
        (λ (le : 32 ≤ j). get_or_past union j 0 (omega arith))
        (cases_lt j 32),
  ),
)
