-- A line that is written in three pieces.
use Rattle.std.proofs.Common.{◌≡◌, ℕ, List, [], ◌++◌, Option, Result, OnOk, OnErr, sym, ap, ◌∙◌, subst, append_assoc, append-nil}
use Rattle.fg_io.specs.Sink.{Gains, GainsPart}

-- three pieces one after another
three : (a b c middle : List ℕ) → middle ≡ b → a ++ (middle ++ (c ++ [])) ≡ a ++ b ++ c
three a b c middle same =
    ap (λ t. a ++ (t ++ (c ++ []))) same ∙ ap (λ t. a ++ (b ++ t)) (append-nil c) ∙ sym (append_assoc a b c)

-- all three were written
pub whole_of_three : {T E : Type 0} (r : Result T E) (before after : Option (List ℕ)) (a b c middle : List ℕ) → middle ≡ b
    → OnOk r (Gains before (a ++ (middle ++ (c ++ []))) after) → OnOk r (Gains before (a ++ b ++ c) after)
whole_of_three r before after a b c middle same h = subst (λ t. OnOk r (Gains before t after)) (three a b c middle same) h

-- part of them was written
pub part_of_three : {T E : Type 0} (r : Result T E) (before after : Option (List ℕ)) (a b c middle : List ℕ) → middle ≡ b
    → OnErr r (GainsPart before (a ++ (middle ++ (c ++ []))) after) → OnErr r (GainsPart before (a ++ b ++ c) after)
part_of_three r before after a b c middle same h = subst (λ t. OnErr r (GainsPart before t after)) (three a b c middle same) h
