-- Lemmas on packets, which proofs of other crates cite too.
use Rattle.std.proofs.Common.{◌≡◌, ◌<◌, ◌≤◌, ℕ, List, arith, ⊎_elim}
use Rattle.std.proofs.lemmas.Bool.{cases_lt}
use Rattle.fg_ts.specs.Packets.{IsFirstUnsynced}

-- There is one first packet that doesn't begin with the sync byte.
pub one_first : (bytes : List ℕ) (a b : ℕ) → IsFirstUnsynced bytes a → IsFirstUnsynced bytes b → a ≡ b
one_first bytes a b p q = ⊎_elim
    (λ (lt : a < b). absurd (p.unsynced (q.first a lt)))
    (λ (le : b ≤ a). ⊎_elim (λ (lt : b < a). absurd (q.unsynced (p.first b lt))) (λ (ge : a ≤ b). omega arith) (cases_lt b a))
    (cases_lt a b)
