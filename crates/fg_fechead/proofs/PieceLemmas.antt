-- Pieces that are written one behind another.
use Rattle.std.proofs.Common.{◌≡◌, ℕ, ◌+◌, ◌-◌, ◌++◌, List, length, take, drop, refl, ap, sym, ◌∙◌, append_assoc, arith, length-append}
use Rattle.std.proofs.lemmas.List.{take_at, drop_at, drop-drop}

-- A piece behind what was written: what was there before stands behind both.
pub written_behind : (front piece old now : List ℕ) (at size end : ℕ) → now ≡ front ++ drop at old → length front ≡ at → end ≡ at + size →
    take at now ++ (piece ++ drop (end - at) (drop at now)) ≡ (front ++ piece) ++ drop end old
written_behind front piece old now at size end before here far =
    let left : end - at ≡ size = omega arith in
    ap (λ (l : List ℕ). take at l ++ (piece ++ drop (end - at) (drop at l))) before
    ∙ ap (λ (n : ℕ). take at (front ++ drop at old) ++ (piece ++ drop n (drop at (front ++ drop at old)))) left
    ∙ ap (λ (l : List ℕ). l ++ (piece ++ drop size (drop at (front ++ drop at old)))) (take_at front (drop at old) at here)
    ∙ ap (λ (l : List ℕ). front ++ (piece ++ drop size l)) (drop_at front (drop at old) at here)
    ∙ ap (λ (l : List ℕ). front ++ (piece ++ l)) (drop-drop size at old)
    ∙ sym (append_assoc front piece (drop (at + size) old))
    ∙ ap (λ (n : ℕ). (front ++ piece) ++ drop n old) (sym far)

-- Three pieces, the first two of which are the headers: they are what is written, and nothing behind them changes.
pub three_pieces : (a b p old x y z : List ℕ) (n end : ℕ) → x ≡ a → y ≡ b → z ≡ p → length a ≡ 12 → length b ≡ 16 → length p ≡ n → end ≡ 28 + n →
    let one = x ++ drop 12 old in
    let two = take 12 one ++ (y ++ drop 16 (drop 12 one)) in
    let now = take 28 two ++ (z ++ drop (end - 28) (drop 28 two)) in
    (take end now ≡ (a ++ b) ++ p) × (drop end now ≡ drop end old)
three_pieces a b p old x y z n end xa yb zp la lb lp far =
    let one = x ++ drop 12 old in
    let two = take 12 one ++ (y ++ drop 16 (drop 12 one)) in
    let now = take 28 two ++ (z ++ drop (end - 28) (drop 28 two)) in
    let both : length (a ++ b) ≡ 28 = omega (arith, length-append a b) in
    let all : length ((a ++ b) ++ p) ≡ end = omega (arith, length-append (a ++ b) p) in
    let first : one ≡ a ++ drop 12 old = ap (λ (l : List ℕ). l ++ drop 12 old) xa in
    let second : two ≡ (a ++ b) ++ drop 28 old =
    ap (λ (l : List ℕ). take 12 one ++ (l ++ drop 16 (drop 12 one))) yb ∙ written_behind a b old one 12 16 28 first la refl in
    let whole : now ≡ ((a ++ b) ++ p) ++ drop end old =
    ap (λ (l : List ℕ). take 28 two ++ (l ++ drop (end - 28) (drop 28 two))) zp ∙ written_behind (a ++ b) p old two 28 n end second both far in (
      ap (λ (l : List ℕ). take end l) whole ∙ take_at ((a ++ b) ++ p) (drop end old) end all,
      ap (λ (l : List ℕ). drop end l) whole ∙ drop_at ((a ++ b) ++ p) (drop end old) end all,
    )
