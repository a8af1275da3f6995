use Rattle.std.proofs.Common.{◌≡◌, ℕ, List, Bool, false, get_or, replicate, ap, ◌∙◌, ⊎_elim, arith}
use Rattle.std.proofs.lemmas.Bool.{cases_lt}
use Rattle.std.proofs.lemmas.List.{get_or-replicate, get_or_past, length-replicate}
use Rattle.fg_buffer.proofs.places.Places.new.Goals as goal

all_free : (n place : ℕ) → get_or (replicate n false) place false ≡ false
all_free n place = ⊎_elim
    (λ within. get_or-replicate n place false false within)
    (λ past. get_or_past (replicate n false) place false (omega (arith, past, length-replicate n false)))
    (cases_lt place n)

pub returns-clause-free : goal.returns-clause-free
returns-clause-free c place =
    ap (λ (xs : List Bool). get_or xs place false) (c.in_ok-vec.ensures.items_if_clones_equal (λ y e. e)) ∙ all_free 512 place
