-- Numbers spelled with their highest byte first.
use Rattle.std.proofs.Common.{◌≡◌, ℕ, zero, suc, ◌+◌, ◌<◌, List, [], ◌∷◌, ◌++◌, length, get_or, take, drop, sym, subst, ap, ◌∙◌, arith}
use Rattle.std.specs.Int.{to_be_bytes, from_be_bytes, w16, w64}
use Rattle.std.proofs.lemmas.List.{take-append-drop, length-take-le}
use Rattle.std.proofs.lemmas.Nat.{be_bytes_2, be_bytes_8}

-- the front of bytes is bytes
fits_take : (n : ℕ) (bytes : List ℕ) → ((i : ℕ) → get_or bytes i 0 < 256) → (i : ℕ) → get_or (take n bytes) i 0 < 256
fits_take zero bytes fits i = omega arith
fits_take (suc n) [] fits i = fits i
fits_take (suc n) (b ∷ bytes) fits zero = fits 0
fits_take (suc n) (b ∷ bytes) fits (suc i) = fits_take n bytes (λ j. fits (suc j)) i

-- two bytes and the rest
pub two_bytes : (bytes front rest : List ℕ) (n : ℕ) → ((i : ℕ) → get_or bytes i 0 < 256) → front ≡ take 2 bytes → rest ≡ drop 2 bytes → length rest + 2 ≡ length bytes → n ≡ from_be_bytes w16 front → bytes ≡ to_be_bytes w16 n ++ rest
two_bytes bytes front rest n fits f r size e =
    let two : length front ≡ 2 = ap length f ∙ length-take-le 2 bytes (omega arith) in
    let front_fits : (i : ℕ) → get_or front i 0 < 256 = subst (λ (t : List ℕ). (i : ℕ) → get_or t i 0 < 256) (sym f) (fits_take 2 bytes fits) in
    let spelled : to_be_bytes w16 n ≡ front = be_bytes_2 front n two front_fits e in
    sym (take-append-drop 2 bytes) ∙ ap (λ t. t ++ drop 2 bytes) (sym f ∙ sym spelled) ∙ ap (λ t. to_be_bytes w16 n ++ t) (sym r)

-- eight bytes and the rest
pub eight_bytes : (bytes front rest : List ℕ) (n : ℕ) → ((i : ℕ) → get_or bytes i 0 < 256) → front ≡ take 8 bytes → rest ≡ drop 8 bytes → length rest + 8 ≡ length bytes → n ≡ from_be_bytes w64 front → bytes ≡ to_be_bytes w64 n ++ rest
eight_bytes bytes front rest n fits f r size e =
    let eight : length front ≡ 8 = ap length f ∙ length-take-le 8 bytes (omega arith) in
    let front_fits : (i : ℕ) → get_or front i 0 < 256 = subst (λ (t : List ℕ). (i : ℕ) → get_or t i 0 < 256) (sym f) (fits_take 8 bytes fits) in
    let spelled : to_be_bytes w64 n ≡ front = be_bytes_8 front n eight front_fits e in
    sym (take-append-drop 8 bytes) ∙ ap (λ t. t ++ drop 8 bytes) (sym f ∙ sym spelled) ∙ ap (λ t. to_be_bytes w64 n ++ t) (sym r)
