-- A ring of 1,024 numbers by index, or of none.
use Rattle.std.specs.Prelude.{◌%◌, ℕ, List, slice_index_or}

-- The number at an index. Indices that are 1,024 apart share a slot, and a ring of none has 0 at each.
abbrev pub ring_at : List ℕ → ℕ → ℕ
ring_at ring index = slice_index_or ring (index % 1024) 0
