-- A parity more in a batch.
use Rattle.std.proofs.Common.{◌≡◌, ℕ, ◌+◌, ◌-◌, ◌<◌, ◌≤◌, List, [], ◌∷◌, ◌++◌, length, set, refl, subst, ⊎_elim, arith, length-take}
use Rattle.std.proofs.lemmas.Bool.{cases_lt}
use Rattle.fg_encode.specs.declared.batch.MediaBuffer.{MediaBuffer}
use Rattle.fg_encode.specs.declared.batch.ParityBuffer.{ParityBuffer}
use Rattle.fg_encode.specs.Batch.{media_of, parity_of, records_of}

pub length-records_of : (count : ℕ) (media : MediaBuffer) (parities : List ParityBuffer) → count ≤ 3 → length parities ≡ 2 → length (records_of count media parities) ≡ count
length-records_of count media (p ∷ q ∷ []) limit two = omega (arith, length-take count (media_of media ∷ parity_of p ∷ parity_of q ∷ []))
length-records_of count media parities limit two = absurd (omega arith)

pub one_parity_more : (count : ℕ) (media : MediaBuffer) (parities : List ParityBuffer) (buffer : ParityBuffer) → 1 ≤ count → count < 3 → length parities ≡ 2 →
    records_of (count + 1) media (set parities (count - 1) buffer) ≡ records_of count media parities ++ parity_of buffer ∷ []
one_parity_more count media (p ∷ q ∷ []) buffer some room two = ⊎_elim
    (λ (first : count < 2).
    let one : 1 ≡ count = omega arith in
    subst (λ (n : ℕ). records_of (n + 1) media (set (p ∷ q ∷ []) (n - 1) buffer) ≡ records_of n media (p ∷ q ∷ []) ++ parity_of buffer ∷ []) one refl)
    (λ (second : 2 ≤ count).
    let both : 2 ≡ count = omega arith in
    subst (λ (n : ℕ). records_of (n + 1) media (set (p ∷ q ∷ []) (n - 1) buffer) ≡ records_of n media (p ∷ q ∷ []) ++ parity_of buffer ∷ []) both refl)
    (cases_lt count 2)
one_parity_more count media parities buffer some room two = absurd (omega arith)
