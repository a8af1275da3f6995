-- ASCII bytes are text.
use Rattle.std.proofs.Common.{Result, Ok, Err, IsOk, MatchResult, refl}
use Rattle.std.proofs.lemmas.Str.{IsUtf8-from_ascii}
use Rattle.fg_io.proofs.lane_name.LaneName.as_str.Goals as goal

-- what fails only where a fact doesn't hold succeeds where it does
ok_where : {T E U : Type 0} (P : T → Type 0) (Q : E → Type 0) (r : Result T E) → MatchResult r P (λ e. ¬ U × Q e) → U → IsOk r
ok_where P Q (Ok v) cases holds = refl
ok_where P Q (Err e) cases holds = absurd (cases.0 holds)

pub unwrap-requires : goal.unwrap-requires
unwrap-requires c = ok_where _ _ _ c.from_utf8.ensures.cases (IsUtf8-from_ascii _ c.self.invariant.1)
