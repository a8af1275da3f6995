-- Lemmas on the help's text.
use Rattle.std.proofs.Common.{◌≡◌, ◌-◌, ℕ, List, ◌++◌, codes, drop, length, min, ap, ◌∙◌, append_assoc, arith}
use Rattle.std.proofs.Math.ListN.{length-append}
use Rattle.fg_cli.specs.Help.{blanks, padded}

-- blanks behind a text that stands behind another
pub padded-behind : (old text : List ℕ) → (old ++ text) ++ drop (min (length (old ++ text) - length old) 25) blanks ≡ old ++ padded text
padded-behind old text =
    let width : length (old ++ text) - length old ≡ length text = omega (arith, length-append old text) in
    ap (λ n. (old ++ text) ++ drop (min n 25) blanks) width ∙ append_assoc old text (drop (min (length text) 25) blanks)

-- four pieces behind a text
four_behind : (old a b c d : List ℕ) → (((old ++ a) ++ b) ++ c) ++ d ≡ old ++ (((a ++ b) ++ c) ++ d)
four_behind old a b c d =
    ap (λ t. t ++ d) (ap (λ t. t ++ c) (append_assoc old a b) ∙ append_assoc old (a ++ b) c)
    ∙ append_assoc old ((a ++ b) ++ c) d

-- a name's spelling, piece by piece
pub spelled : (old name values indented named equalled valued new : List ℕ) (start : ℕ) → start ≡ length old
    → indented ≡ old ++ codes "  " → named ≡ indented ++ name → equalled ≡ named ++ codes "=" → valued ≡ equalled ++ values
    → new ≡ valued ++ drop (min (length valued - start) 25) blanks → new ≡ old ++ padded (codes "  " ++ name ++ codes "=" ++ values)
spelled old name values indented named equalled valued new start begins one two three four five =
    let whole : valued ≡ old ++ (codes "  " ++ name ++ codes "=" ++ values) =
    four ∙ ap (λ t. t ++ values) (three ∙ ap (λ t. t ++ codes "=") (two ∙ ap (λ t. t ++ name) one))
    ∙ four_behind old (codes "  ") name (codes "=") values in
    five ∙ ap (λ t. t ++ drop (min (length t - start) 25) blanks) whole
    ∙ ap (λ n. (old ++ (codes "  " ++ name ++ codes "=" ++ values))
    ++ drop (min (length (old ++ (codes "  " ++ name ++ codes "=" ++ values)) - n) 25) blanks) begins
    ∙ padded-behind old (codes "  " ++ name ++ codes "=" ++ values)
