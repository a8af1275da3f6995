-- The front of a trace and of a record, as they are read. No public contract cites it.
use Rattle.std.specs.Prelude.{◌≡◌, ◌<◌, ◌^◌, ℕ, List, ◌++◌}
use Rattle.std.specs.Int.{to_be_bytes, w16, w64}
use Rattle.fg_trace.specs.Trace.{magic}

-- The bytes begin with a record's header of these numbers.
pub record IsHeader (bytes : List ℕ) (time port size : ℕ) : Type 0 where
  pub rest : List ℕ
  pub spelled : bytes ≡ to_be_bytes w64 time ++ (to_be_bytes w16 port ++ (to_be_bytes w16 size ++ rest))
  pub time_fits : time < 2 ^ 64
  pub port_fits : port < 2 ^ 16
  pub size_fits : size < 2 ^ 16

-- The bytes begin with the magic.
abbrev pub BeginsMagic : List ℕ → Type 0
BeginsMagic bytes = (rest : List ℕ) × (bytes ≡ magic ++ rest)
