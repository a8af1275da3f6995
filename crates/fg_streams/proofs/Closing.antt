-- What is kept of the positions that can't be received any more.
use Rattle.std.proofs.Common.{◌≡◌, ℕ, suc, zero, ◌+◌, ◌-◌, ◌<◌, ◌≤◌, ◌^◌, Option, Some, None, List, [], ◌∷◌, ◌++◌, length, replicate, take, refl, sym, ap, ◌∙◌, subst, append_assoc, append-nil, arith, length-append}
use Rattle.std.proofs.lemmas.List.{length-replicate, replicate-append-replicate}
use Rattle.fg_streams.specs.declared.bursts.Burst.{Burst}
use Rattle.fg_streams.specs.declared.gaps.Gaps.{Gaps}
use Rattle.fg_streams.specs.Bursts.{burst_of, bursts_of, lengths_of, longest_of, placed}
use Rattle.fg_streams.specs.Steps.{LengthsHaveRoom, EndsWith, IsClosed, HasEnded}
use Rattle.fg_streams.proofs.BurstLemmas.{bursts_stop, bursts_none, bursts_end, few_bursts, lengths_have_room}
use Rattle.fg_streams.proofs.Ranking.{longest_more}

lost_at_end : (n : ℕ) → replicate n None ++ None ∷ [] ≡ (let one : List (Option ℕ) = replicate (n + 1) None in one)
lost_at_end n = replicate-append-replicate n 1 None

-- numbers

pub lost_within : (gaps : Gaps) (times : List (Option ℕ)) → IsClosed gaps times → gaps.lost ≤ gaps.slots
lost_within gaps times h =
    let none : Option ℕ = None in
    let all = length-append h.front (replicate gaps.lost none) in
    let lost = length-replicate gaps.lost none in
    let is = ap (λ (t : List (Option ℕ)). length t) h.split in
    omega (arith, all, lost, is, h.slots)

pub room_left : (gaps : Gaps) (times : List (Option ℕ)) → IsClosed gaps times → length times < 2 ^ 60 → LengthsHaveRoom gaps.lengths
room_left gaps times h few =
    let none : Option ℕ = None in
    let all = length-append h.front (replicate gaps.lost none) in
    let is = ap (λ (t : List (Option ℕ)). length t) h.split in
    let bursts = few_bursts 0 h.front in
    subst LengthsHaveRoom (sym h.lengths) (lengths_have_room (bursts_of h.front) (omega (arith, all, is, bursts, few)))

-- more losses

pub closed_lost : (gaps after : Gaps) (times : List (Option ℕ)) (n : ℕ) → IsClosed gaps times
    → after.slots ≡ gaps.slots + n → after.at ≡ gaps.at → after.lost ≡ gaps.lost + n → after.lengths ≡ gaps.lengths → after.longest.items ≡ gaps.longest.items
    → IsClosed after (times ++ replicate n None)
closed_lost gaps after times n h slots at lost lengths longest =
    let none : Option ℕ = None in
    record {
      front = h.front;
      split = ap (λ t. t ++ replicate n none) h.split ∙ append_assoc h.front (replicate gaps.lost none) (replicate n none)
          ∙ ap (λ t. h.front ++ t) (replicate-append-replicate gaps.lost n none) ∙ ap (λ k. h.front ++ replicate k none) (sym lost);
      slots = let all = length-append times (replicate n none) in let more = length-replicate n none in omega (arith, slots, h.slots, all, more);
      ends = subst (λ (t : Option ℕ). EndsWith h.front t) (sym at) h.ends;
      lengths = lengths ∙ h.lengths;
      longest = longest ∙ h.longest;
    }

-- the open burst ends

ended_by : (gaps : Gaps) (times front : List (Option ℕ)) → bursts_of times ≡ bursts_of front → gaps.lengths ≡ lengths_of (bursts_of front) → gaps.longest.items ≡ longest_of (bursts_of front) → HasEnded gaps times
ended_by gaps times front same lengths longest = record {
  lengths = lengths ∙ ap lengths_of (sym same);
  longest = longest ∙ ap longest_of (sym same);
}

pub ended_none : (gaps : Gaps) (times : List (Option ℕ)) → gaps.at ≡ None → IsClosed gaps times → HasEnded gaps times
ended_none gaps times at h =
    let none : Option ℕ = None in
    let empty : h.front ≡ [] = subst (λ (t : Option ℕ). EndsWith h.front t) at h.ends in
    let all : times ≡ replicate gaps.lost none = h.split ∙ ap (λ t. t ++ replicate gaps.lost none) empty in
    ended_by gaps times h.front (ap bursts_of all ∙ bursts_none 0 gaps.lost ∙ ap bursts_of (sym empty)) h.lengths h.longest

pub ended_received : (gaps : Gaps) (times : List (Option ℕ)) → gaps.lost ≡ 0 → IsClosed gaps times → HasEnded gaps times
ended_received gaps times lost h =
    let none : Option ℕ = None in
    let all : times ≡ h.front = h.split ∙ ap (λ n. h.front ++ replicate n none) lost ∙ append-nil h.front in
    ended_by gaps times h.front (ap bursts_of all) h.lengths h.longest

one_burst : (slot at n : ℕ) → 0 < n → burst_of slot at n ≡ (record { slot = slot; length = n; at = at }) ∷ []
one_burst slot at zero h = absurd (omega (arith, h))
one_burst slot at (suc n) h = refl

-- the bursts are those before, and the open one
one_more : (gaps : Gaps) (times : List (Option ℕ)) (at : ℕ) → gaps.at ≡ Some at → 0 < gaps.lost → (h : IsClosed gaps times)
    → bursts_of times ≡ bursts_of h.front ++ (record { slot = gaps.slots - gaps.lost; length = gaps.lost; at = at }) ∷ []
one_more gaps times at is some h =
    let none : Option ℕ = None in
    let ends : EndsWith h.front (Some at) = subst (λ (t : Option ℕ). EndsWith h.front t) is h.ends in
    let all : times ≡ ends.0 ++ Some at ∷ replicate gaps.lost none =
    h.split ∙ ap (λ t. t ++ replicate gaps.lost none) ends.1 ∙ append_assoc ends.0 (Some at ∷ []) (replicate gaps.lost none) in
    let long = length-append ends.0 (Some at ∷ replicate gaps.lost none) in
    let lost = length-replicate gaps.lost none in
    let is_long = ap (λ (t : List (Option ℕ)). length t) all in
    let slot : gaps.slots - gaps.lost ≡ 0 + length ends.0 + 1 = omega (arith, long, lost, is_long, h.slots) in
    ap bursts_of all ∙ bursts_end 0 ends.0 at gaps.lost (gaps.slots - gaps.lost) slot
    ∙ ap (λ b. b ++ burst_of (gaps.slots - gaps.lost) at gaps.lost) (ap bursts_of (sym ends.1))
    ∙ ap (λ b. bursts_of h.front ++ b) (one_burst (gaps.slots - gaps.lost) at gaps.lost some)

pub ended_burst : (gaps after : Gaps) (times : List (Option ℕ)) (at : ℕ) (burst : Burst) → gaps.at ≡ Some at → 0 < gaps.lost
    → burst ≡ (record { slot = gaps.slots - gaps.lost; length = gaps.lost; at = at })
    → ((bursts : List Burst) → gaps.lengths ≡ lengths_of bursts → after.lengths ≡ lengths_of (bursts ++ burst ∷ []))
    → after.longest.items ≡ take 10 (placed burst gaps.longest.items)
    → IsClosed gaps times → HasEnded after times
ended_burst gaps after times at burst is some this lengths longest h =
    let more : bursts_of times ≡ bursts_of h.front ++ burst ∷ [] = one_more gaps times at is some h ∙ ap (λ b. bursts_of h.front ++ b ∷ []) (sym this) in
    record {
      lengths = lengths (bursts_of h.front) h.lengths ∙ ap lengths_of (sym more);
      longest = longest ∙ ap (λ b. take 10 (placed burst b)) h.longest ∙ longest_more burst (bursts_of h.front) ∙ ap longest_of (sym more);
    }

-- one more that was received

pub closed_received : (gaps after : Gaps) (times : List (Option ℕ)) (time : ℕ) → gaps.slots ≡ length times → HasEnded gaps times
    → after.slots ≡ gaps.slots + 1 → after.at ≡ Some time → after.lost ≡ 0 → after.lengths ≡ gaps.lengths → after.longest.items ≡ gaps.longest.items
    → IsClosed after (times ++ Some time ∷ [])
closed_received gaps after times time all h slots at lost lengths longest =
    let none : Option ℕ = None in
    let same : bursts_of (times ++ Some time ∷ []) ≡ bursts_of times = bursts_stop 0 times time in
    record {
      front = times ++ Some time ∷ [];
      split = sym (append-nil (times ++ Some time ∷ [])) ∙ ap (λ n. (times ++ Some time ∷ []) ++ replicate n none) (sym lost);
      slots = let more = length-append times (Some time ∷ []) in omega (arith, slots, all, more);
      ends = subst (λ (t : Option ℕ). EndsWith (times ++ Some time ∷ []) t) (sym at) (times, refl);
      lengths = lengths ∙ h.lengths ∙ ap lengths_of (sym same);
      longest = longest ∙ h.longest ∙ ap longest_of (sym same);
    }

pub nothing_closed : (gaps : Gaps) → gaps.slots ≡ 0 → gaps.at ≡ None → gaps.lost ≡ 0 → gaps.lengths ≡ lengths_of [] → gaps.longest.items ≡ [] → IsClosed gaps []
nothing_closed gaps slots at lost lengths longest =
    let none : Option ℕ = None in
    record {
      front = [];
      split = ap (λ n. replicate n none) (sym lost);
      slots = slots;
      ends = subst (λ (t : Option ℕ). EndsWith [] t) (sym at) refl;
      lengths = lengths;
      longest = longest;
    }
