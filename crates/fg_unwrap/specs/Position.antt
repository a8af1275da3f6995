-- Positions: the number of each media datagram in its flow, which counts on where the sequence number wraps.
use Rattle.std.specs.Prelude.{◌≡◌, ℕ, ◌+◌, ◌-◌, ◌%◌, ℤ, pos, ◌+ℤ◌, ◌-ℤ◌, ◌*ℤ◌, ◌≤ℤ◌, ◌<ℤ◌, Option, Some, None, nat_le, if◌then◌else◌}

-- The position of a sequence number, in the manner of RFC 3550's extended sequence number (appendix A.1). It is as far
-- from the top position as the sequence number is from the top's, modulo 65536, and it is the one such number from
-- 32,768 before the top to 32,767 past it. So it may be below 0.
pub record IsPosition (top top_seq seq : ℕ) (position : ℤ) : Type 0 where
  pub least : pos top ≤ℤ (position +ℤ pos 32768)
  pub most : position ≤ℤ (pos top +ℤ pos 32767)
  pub congruent : (turns : ℤ) × ((position -ℤ pos top) ≡ ((pos seq -ℤ pos top_seq) +ℤ (turns *ℤ pos 65536)))

-- The position of a sequence number is below 0.
abbrev pub IsBelowZero : ℕ → ℕ → ℕ → Type 0
IsBelowZero top top_seq seq = (position : ℤ) × (position <ℤ pos 0) × IsPosition top top_seq seq position

-- The position as a function, and none where it is below 0.
abbrev pub position_of : ℕ → ℕ → ℕ → Option ℕ
position_of top top_seq seq =
    let raised = top + (seq + 65536 + 32768 - top_seq) % 65536 in
    (if nat_le 32768 raised then Some (raised - 32768) else None)
