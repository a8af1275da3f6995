-- The room that a desk has to change: this project's own.
use Rattle.std.specs.Prelude.{◌<◌, ◌^◌, ℕ, IfSome}
use Rattle.fg_playout.specs.State.{State}

-- The mark and the farthest position are below this where a desk may change, and it was changed by fewer calls than that, so
-- that no number of a desk outgrows 64 bits.
abbrev pub farthest_limit : ℕ
farthest_limit = 2 ^ 61

abbrev pub call_limit : ℕ
call_limit = 2 ^ 62

-- The limits within which a desk may change.
pub record HasRoom (desk : State) : Type 0 where
  pub mark : desk.mark < farthest_limit
  pub top : IfSome desk.top (λ top. top.position < farthest_limit)
  pub calls : desk.calls < call_limit
