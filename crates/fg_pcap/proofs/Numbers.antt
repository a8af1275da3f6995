-- Numbers in either byte order.
use Rattle.std.proofs.Common.{◌≡◌, ℕ, List, ◌++◌, ap, ◌∙◌, append_assoc}

-- four fields one after another
pub four_fields : (bytes a b c d r1 r2 r3 r4 : List ℕ) → bytes ≡ a ++ r1 → r1 ≡ b ++ r2 → r2 ≡ c ++ r3 → r3 ≡ d ++ r4 → bytes ≡ (a ++ b ++ c ++ d) ++ r4
four_fields bytes a b c d r1 r2 r3 r4 e1 e2 e3 e4 =
    let whole : a ++ (b ++ (c ++ (d ++ r4))) ≡ (a ++ b ++ c ++ d) ++ r4 = simp append_assoc in
    e1 ∙ ap (λ t. a ++ t) (e2 ∙ ap (λ t. b ++ t) (e3 ∙ ap (λ t. c ++ t) e4)) ∙ whole
