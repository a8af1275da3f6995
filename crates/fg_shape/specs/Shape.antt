-- Which media datagrams one parity datagram protects, after the FEC header of SMPTE ST 2022-1: a base, an offset
-- and a number of datagrams.
use Rattle.std.specs.Prelude.{◌+◌, ◌-◌, ◌*◌, ◌^◌, ◌≤◌, ℕ, List, map}
use Rattle.std.specs.List.{range_with_len}

-- The protected positions, as a whole list: base, base + offset, base + 2 * offset and so on, `na` of them
-- (SMPTE ST 2022-1: SNBase, Offset and NA).
abbrev pub slots_of : ℕ → ℕ → ℕ → List ℕ
slots_of base offset na = map (λ j. base + j * offset) (range_with_len 0 na)

-- The greatest base of an equation whose slots are asked for, and the greatest position wherever positions are added up: so
-- sums of a few of them fit 64 bits. This project's own.
abbrev pub position_limit : ℕ
position_limit = 2 ^ 62

-- The shapes that are read. The limits are this project's profile.
pub record IsShape (offset na : ℕ) : Type 0 where
  pub some_offset : 1 ≤ offset
  pub offset_limit : offset ≤ 20
  pub some_slot : 1 ≤ na
  pub slot_limit : na ≤ 20
  pub span : (na - 1) * offset ≤ 99
