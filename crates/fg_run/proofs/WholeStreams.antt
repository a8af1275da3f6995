-- A stream of whole packets is cut to its end.
use Rattle.std.proofs.Common.{◌≡◌, ⊎_elim, ℕ, zero, suc, ◌+◌, ◌-◌, ◌*◌, ◌<◌, ◌≤◌, min, None, List, length, map, drop, get_or, refl, sym, ap, ◌∙◌, arith, subst}
use Rattle.std.specs.List.{range_with_len}
use Rattle.std.proofs.Math.Nat.{mul-suc, mul_assoc}
use Rattle.std.proofs.lemmas.Bool.{cases_lt}
use Rattle.std.proofs.lemmas.List.{get_or-take, get_or-drop, length-take, length-drop}
use Rattle.std.proofs.lemmas.List.FromFn.{length-map-range_with_len}
use Rattle.fg_ts.specs.Packets.{ArePackets}
use Rattle.fg_encode.specs.Stream.{payload_of, IsAcceptable}
use Rattle.fg_commands.specs.declared.ended.Why.TheVariants as why
use Rattle.fg_commands.specs.Streams.{IsStreamAnswer}

-- so many payloads are enough, and each of them has a packet
record Covers (packets count payloads : ℕ) : Type 0 where
  pub enough : count ≤ packets * payloads
  pub each : (i : ℕ) → i < payloads → packets * i < count

covers : (packets count : ℕ) → 1 ≤ packets → (payloads : ℕ) × Covers packets count payloads
covers packets zero some = (0, record { enough = omega arith; each = λ i less. absurd (omega (arith, less)) })
covers packets (suc count) some =
    let before = covers packets count some in
    let n = before.0 in
    let h = before.1 in
    ⊎_elim
    (λ (room : count < packets * n). (n, record { enough = omega (arith, room); each = λ i less. let was = h.each i less in omega (arith, was) }))
    (λ (full : packets * n ≤ count). (
      suc n,
      record {
        enough = omega (arith, h.enough, some, mul-suc packets n);
        each = λ i less. ⊎_elim
            (λ (early : i < n). let was = h.each i early in omega (arith, was))
            (λ (late : n ≤ i). let same : n ≡ i = omega (arith, late, less) in subst (λ k. packets * k < suc count) same (omega (arith, full)))
            (cases_lt i n);
      },
    ))
    (cases_lt count (packets * n))

-- a payload of whole packets is whole packets
whole_payload : (packets count i : ℕ) (bytes : List ℕ) → packets * i < count → ArePackets bytes count
    → ArePackets (payload_of packets bytes i) (min packets (count - packets * i))
whole_payload packets count i bytes less h =
    let at : 188 * packets * i ≡ 188 * (packets * i) = mul_assoc 188 packets i in
    record {
      whole = omega (arith, at, less, h.whole, length-take (188 * packets) (drop (188 * packets * i) bytes), length-drop (188 * packets * i) bytes);
      synced = λ number below.
          let place : 188 * packets * i + 188 * number ≡ 188 * (packets * i + number) = omega (arith, at) in
          get_or-take (188 * packets) (drop (188 * packets * i) bytes) (188 * number) 0 (omega (arith, below))
          ∙ get_or-drop (188 * packets * i) bytes (188 * number) 0
          ∙ ap (λ k. get_or bytes k 0) place
          ∙ h.synced (packets * i + number) (omega (arith, below, less));
    }

acceptable : (packets max count i : ℕ) (bytes : List ℕ) → packets * i < count → ArePackets bytes count → length bytes ≤ max → IsAcceptable packets max bytes i
acceptable packets max count i bytes less h within =
    let at : 188 * packets * i ≡ 188 * (packets * i) = mul_assoc 188 packets i in
    record {
      there = omega (arith, at, less, h.whole);
      within = λ past. omega (arith, past.longer, within);
      whole = (min packets (count - packets * i), whole_payload packets count i bytes less h);
    }

pub whole_done : (packets max count : ℕ) (bytes : List ℕ) → 1 ≤ packets → ArePackets bytes count → length bytes ≤ max → IsStreamAnswer packets max bytes why.Done
whole_done packets max count bytes some h within =
    let cover = covers packets count some in
    let n = cover.0 in
    let f = payload_of packets bytes in
    let payloads = map f (range_with_len 0 n) in
    let long : length payloads ≡ n = length-map-range_with_len f 0 n in
    let at : 188 * packets * n ≡ 188 * (packets * n) = mul_assoc 188 packets n in
    let ends : length bytes ≤ 188 * packets * n = omega (arith, at, h.whole, cover.1.enough) in (
      payloads,
      None,
      record {
        first = record {
          cut = ap (λ k. map f (range_with_len 0 k)) (sym long);
          acceptable = λ i less. acceptable packets max count i bytes (cover.1.each i (omega (arith, less, long))) h within;
        };
        ends = subst (λ k. length bytes ≤ 188 * packets * k) (sym long) ends;
      },
      refl,
    )
