-- Lemmas on a piece that is copied from what a source has left.
use Rattle.std.proofs.Common.{◌≡◌, ◌≤◌, ℕ, ◌+◌, ◌-◌, List, ◌++◌, length, take, drop, sym, ap, ◌∙◌, arith}
use Rattle.std.proofs.lemmas.List.{take_at, take_rest, drop-drop, take-append-drop, length-take-le, length-drop}

-- what was copied to the front, and then what is left after it, is what was left before
pub gave : (items seen front back : List ℕ) (at n : ℕ) → seen ≡ items → n ≤ length items - at
    → front ≡ take n (take (length seen - at) (drop at seen)) → drop at items ≡ take n (front ++ back) ++ drop (at + n) items
gave items seen front back at n same fits is =
    let copied : front ≡ take n (drop at items) = rw (same, take_rest) at is in
    let full : length front ≡ n = ap length copied ∙ length-take-le n (drop at items) (omega (arith, length-drop at items)) in
    sym (ap (λ bytes. bytes ++ drop (at + n) items) (take_at front back n full ∙ copied)
    ∙ ap (λ bytes. take n (drop at items) ++ bytes) (sym (drop-drop n at items))
    ∙ take-append-drop n (drop at items))

-- how many bytes are left
pub left_count : (items seen : List ℕ) (at : ℕ) → seen ≡ items → length (take (length seen - at) (drop at seen)) ≡ length items - at
left_count items seen at same = rw (take_rest, same) (length-drop at items)
