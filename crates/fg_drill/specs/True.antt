-- True datagrams: all that arrives is right, though some of what was sent may be missing. This project's own.
use Rattle.std.specs.Prelude.{◌≡◌, ◌+◌, ◌<◌, ◌≤◌, ◌%◌, ◌^◌, ℕ, ⊤, List, [], ◌∷◌, length, Option, Some, None, IsSomeAnd, MatchOption}
use Rattle.fg_shape.specs.Playout.{Playout, PlayoutFits}
use Rattle.fg_words.specs.declared.Word.{Word}
use Rattle.fg_shape.specs.Shape.{IsShape}
use Rattle.fg_peel.specs.Equation.{AreMedia, IsSettled}
use Rattle.fg_playout.specs.State.{last_slot}
use Rattle.fg_playout.specs.Admission.{Parity, equation_at}
use Rattle.fg_playout.specs.Run.{Arrival, carries, protects, refused}

-- The sequence number of a slot, where slot 0 has the number `seq` (RFC 3550: it has 16 bits, and wraps).
abbrev pub number_of : ℕ → ℕ → ℕ
number_of seq slot = (seq + slot) % 2 ^ 16

-- A parity datagram that is sent with a slot: it has the number of its base, its last slot is this one, each of its slots
-- has a true word, and it is their sum.
pub record IsTrueParity (seq : ℕ) (truth : ℕ → Option Word) (slot : ℕ) (parity : Parity) : Type 0 where
  pub base : ℕ
  pub base_is : parity.base ≡ number_of seq base
  pub shape : IsShape parity.offset parity.count
  pub ends : last_slot (equation_at base parity) ≡ slot
  pub settled : IsSettled truth (equation_at base parity)

-- What arrives for a slot is true: a media datagram has the slot's number and true word, and the SSRC of the one sender (RFC
-- 3550); and a parity datagram is a sum of true words. Nothing is refused. At what time is of no matter.
abbrev pub IsTrueArrival : ℕ → ℕ → (ℕ → Option Word) → ℕ → Arrival → Type 0
IsTrueArrival seq ssrc truth slot (carries time number source word) =
    (number ≡ number_of seq slot) × (source ≡ ssrc) × (truth slot ≡ Some word)
IsTrueArrival seq ssrc truth slot (protects time stream parity) = IsTrueParity seq truth slot parity
IsTrueArrival seq ssrc truth slot (refused time stream) = ⊥

-- It comes for the slot in its turn, where the media datagram of the slot `last` came last, or none so far. The first is the
-- media datagram of slot 0. Never are more than 32,000 media datagrams missing in succession.
abbrev pub ComesInTurn : Option ℕ → ℕ → Arrival → Type 0
ComesInTurn last slot (carries time number source word) =
    MatchOption last (slot ≡ 0) (λ before. (before < slot) × (slot ≤ before + 32001))
ComesInTurn last slot (protects time stream parity) =
    IsSomeAnd last (λ before. (before ≤ slot) × (slot ≤ before + 32000))
ComesInTurn last slot (refused time stream) = ⊥

-- The slot of the last media datagram afterwards.
abbrev pub last_after : Option ℕ → ℕ → Arrival → Option ℕ
last_after last slot (carries time number source word) = Some slot
last_after last slot (protects time stream parity) = last
last_after last slot (refused time stream) = last

-- The datagrams arrive in the order of sending, each true for some slot and in its turn.
abbrev pub AreTrueArrivals : ℕ → ℕ → (ℕ → Option Word) → Option ℕ → List Arrival → Type 0
AreTrueArrivals seq ssrc truth last [] = ⊤
AreTrueArrivals seq ssrc truth last (arrival ∷ arrivals) =
    (slot : ℕ) × IsTrueArrival seq ssrc truth slot arrival × ComesInTurn last slot arrival
    × AreTrueArrivals seq ssrc truth (last_after last slot arrival) arrivals

-- No media datagram is missing: they are those of the slots from `next` on, each once and in order, up to `count`.
abbrev pub AreInFull : ℕ → ℕ → ℕ → ℕ → List Arrival → Type 0
AreInFull seq ssrc count next [] = next ≡ count
AreInFull seq ssrc count next (carries time number source word ∷ arrivals) =
    (number ≡ number_of seq next) × (source ≡ ssrc) × AreInFull seq ssrc count (next + 1) arrivals
AreInFull seq ssrc count next (protects time stream parity ∷ arrivals) = AreInFull seq ssrc count next arrivals
AreInFull seq ssrc count next (refused time stream ∷ arrivals) = AreInFull seq ssrc count next arrivals

-- True datagrams of one flow, all of one sender, and a playout for them. The true words are media words. An SSRC has 32 bits.
pub record AreSentTrue (playout : Playout) (seq ssrc : ℕ) (truth : ℕ → Option Word) (arrivals : List Arrival) : Type 0 where
  pub fits : PlayoutFits playout
  pub source : ssrc < 2 ^ 32
  pub media : AreMedia truth
  pub arrive : AreTrueArrivals seq ssrc truth None arrivals
  pub few : length arrivals < 2 ^ 44
