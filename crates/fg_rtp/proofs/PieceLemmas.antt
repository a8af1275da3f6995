-- Two pieces, written one behind the other.
use Rattle.std.proofs.Common.{◌≡◌, ℕ, ◌+◌, ◌-◌, ◌++◌, List, length, take, drop, ap, sym, ◌∙◌, append_assoc, arith}
use Rattle.std.proofs.lemmas.List.{take_at, drop_at, drop-drop}

-- The piece stands behind the front, and what was there before behind both.
pub written_behind : (front piece old first second : List ℕ) (at size : ℕ) → first ≡ front → second ≡ piece → length front ≡ at →
    take at (first ++ drop at old) ++ (second ++ drop (at + size - at) (drop at (first ++ drop at old))) ≡ (front ++ piece) ++ drop (at + size) old
written_behind front piece old first second at size begun more here =
    let left : at + size - at ≡ size = omega arith in
    ap (λ (l : List ℕ). take at (l ++ drop at old) ++ (second ++ drop (at + size - at) (drop at (l ++ drop at old)))) begun
    ∙ ap (λ (l : List ℕ). take at (front ++ drop at old) ++ (l ++ drop (at + size - at) (drop at (front ++ drop at old)))) more
    ∙ ap (λ (n : ℕ). take at (front ++ drop at old) ++ (piece ++ drop n (drop at (front ++ drop at old)))) left
    ∙ ap (λ (l : List ℕ). l ++ (piece ++ drop size (drop at (front ++ drop at old)))) (take_at front (drop at old) at here)
    ∙ ap (λ (l : List ℕ). front ++ (piece ++ drop size l)) (drop_at front (drop at old) at here)
    ∙ ap (λ (l : List ℕ). front ++ (piece ++ l)) (drop-drop size at old)
    ∙ sym (append_assoc front piece (drop (at + size) old))
