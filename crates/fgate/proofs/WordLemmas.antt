-- Lemmas on the words that are taken.
use Rattle.std.proofs.Common.{◌≡◌, ◌∙◌, ◌+◌, ◌<◌, ◌≤◌, ℕ, Ok, Option, None, Some, IfSome, List, [], ◌∷◌, ◌++◌, length, take, sym, ap, subst, arith, ⊎_elim, length-append, length-take-le}
use Rattle.std.specs.Str.{IsUtf8}
use Rattle.std.proofs.Math.ListN.{get_or-append}
use Rattle.std.proofs.Math.Seq.{get_or-append_seam}
use Rattle.std.specs.List.{SameBelow, slice_index_or}
use Rattle.std.proofs.lemmas.Bool.{cases_lt}
use Rattle.fgate.specs.Words.{word_at, Tells, IsTaken, IsTakenAt, AreTaken}

-- What a buffer of 64 bytes holds is taken as it is where it is text.
taken_at :
    (all : List (List ℕ)) (place size : ℕ) (buffer word : List ℕ) → length buffer ≡ 64 → size ≤ length buffer → Tells all place (Ok size) buffer
    → (IsUtf8 (take size buffer) → word ≡ take size buffer) → ((¬ IsUtf8 (take size buffer)) → word ≡ [])
    → (place < length all) × IsTaken (word_at all place) word
taken_at all place size buffer word room fits tells text no_text =
    let short : length (word_at all place) ≤ 64 = omega (arith, ap length tells.1, length-take-le size buffer fits, room, fits) in (
      tells.0,
      record {
        text = λ _ is. text (subst IsUtf8 tells.1 is) ∙ sym tells.1;
        no_text = ⊎_elim (λ long. absurd (omega (arith, long, short))) (λ not. no_text (λ is. not (subst IsUtf8 (sym tells.1) is)));
      },
    )

pub told_taken :
    (told : Option (List (List ℕ))) (place size : ℕ) (buffer word : List ℕ) → length buffer ≡ 64 → size ≤ length buffer
    → IfSome told (λ all. Tells all place (Ok size) buffer)
    → (IsUtf8 (take size buffer) → word ≡ take size buffer) → ((¬ IsUtf8 (take size buffer)) → word ≡ [])
    → IfSome told (λ all. (place < length all) × IsTaken (word_at all place) word)
told_taken (Some all) place size buffer word room fits tells text no_text = taken_at all place size buffer word room fits tells text no_text
told_taken None place size buffer word room fits tells text no_text = tt

-- What is taken so far, where the next place is asked for.
abbrev pub TakenSoFar : {W : Type 0} → (W → List ℕ) → List (List ℕ) → List W → Type 0
TakenSoFar {W} text all taken = (k : ℕ) (d : W) → k < length taken → (k + 1 < length all) × IsTaken (word_at all (k + 1)) (text (slice_index_or taken k d))

-- one more is taken
taken_more :
    {W : Type 0} (text : W → List ℕ) (all : List (List ℕ)) (taken after : List W) (word : W) → SameBelow taken after (length taken)
    → ((d : W) → slice_index_or after (length taken) d ≡ word) → length after ≡ length taken + 1
    → (length taken + 1 < length all) × IsTaken (word_at all (length taken + 1)) (text word) → TakenSoFar text all taken → TakenSoFar text all after
taken_more text all taken after word below last longer next so_far = λ k d within.
    ⊎_elim
    (λ lt.
    let was = so_far k d lt in
    (was.0, subst (λ w. IsTaken (word_at all (k + 1)) (text w)) (sym (below k d lt)) was.1))
    (λ le.
    let here : k ≡ length taken = omega (arith, le, within, longer) in
    subst (λ n. (n + 1 < length all) × IsTaken (word_at all (n + 1)) (text (slice_index_or after n d))) (sym here)
    (next.0, subst (λ w. IsTaken (word_at all (length taken + 1)) (text w)) (sym (last d)) next.1))
    (cases_lt k (length taken))

pub told_more :
    {W : Type 0} (text : W → List ℕ) (told : Option (List (List ℕ))) (place : ℕ) (taken after : List W) (word : W) → SameBelow taken after (length taken)
    → ((d : W) → slice_index_or after (length taken) d ≡ word) → length after ≡ length taken + 1 → length taken + 1 ≡ place
    → IfSome told (λ all. (place < length all) × IsTaken (word_at all place) (text word)) → IfSome told (λ all. TakenSoFar text all taken) → IfSome told (λ all. TakenSoFar text all after)
told_more text (Some all) place taken after word below last longer at next so_far =
    taken_more text all taken after word below last longer (subst (λ n. (n < length all) × IsTaken (word_at all n) (text word)) (sym at) next) so_far
told_more text None place taken after word below last longer at next so_far = tt

pub told_pushed :
    {W : Type 0} (text : W → List ℕ) (told : Option (List (List ℕ))) (place : ℕ) (taken : List W) (word : W) → length taken + 1 ≡ place
    → IfSome told (λ all. IsTakenAt text all place (Some word)) → IfSome told (λ all. TakenSoFar text all taken) → IfSome told (λ all. TakenSoFar text all (taken ++ word ∷ []))
told_pushed text told place taken word at next so_far =
    told_more text told place taken (taken ++ word ∷ []) word (λ k d lt. get_or-append taken (word ∷ []) d k lt) (λ d. get_or-append_seam taken word [] d)
    (length-append taken (word ∷ [])) at next so_far

-- there is no more
taken_all :
    {W : Type 0} (text : W → List ℕ) (all : List (List ℕ)) (taken : List W) → length all ≤ length taken + 1 → TakenSoFar text all taken → AreTaken text all taken
taken_all text all [] none so_far = record { count = omega (arith, none); each = λ k d within. absurd (omega (arith, within)) }
taken_all text all (word ∷ more) none so_far =
    let last = so_far (length more) word (omega arith) in
    record { count = omega (arith, none, last.0); each = λ k d within. (so_far k d within).1 }

pub told_all :
    {W : Type 0} (text : W → List ℕ) (told : Option (List (List ℕ))) (place : ℕ) (taken : List W) → length taken + 1 ≡ place
    → IfSome told (λ all. length all ≤ place) → IfSome told (λ all. TakenSoFar text all taken) → IfSome told (λ all. AreTaken text all taken)
told_all text (Some all) place taken at none so_far = taken_all text all taken (omega (arith, at, none)) so_far
told_all text None place taken at none so_far = tt
