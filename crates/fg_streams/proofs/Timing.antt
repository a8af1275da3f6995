-- The times that a stream keeps, as positions come.
use Rattle.std.proofs.Common.{◌≡◌, ⊎_elim, ℕ, suc, zero, ◌+◌, ◌-◌, ◌<◌, ◌≤◌, Option, None, List, [], ◌∷◌, ◌++◌, length, replicate, get_or, set, refl, sym, ap, ◌∙◌, append_assoc, arith, length-append}
use Rattle.std.proofs.lemmas.Bool.{cases_lt}
use Rattle.std.proofs.lemmas.List.{length-replicate, length-set, replicate-append-replicate, get_or-append_right}
use Rattle.fg_streams.specs.declared.gaps.Gaps.{Gaps}
use Rattle.fg_streams.specs.Steps.{AreTimes, IsClosed}

pub no_times : (gaps : Gaps) (recent : List (Option ℕ)) → recent ≡ [] → IsClosed gaps [] → AreTimes gaps recent []
no_times gaps recent empty closed = record {
  old = [];
  split = sym empty;
  closed = closed;
  few = let none = ap (λ (t : List (Option ℕ)). length t) empty in omega (arith, none);
  enough = λ less. refl;
}

pub old_few : (gaps : Gaps) (recent all : List (Option ℕ)) → (h : AreTimes gaps recent all) → length h.old ≤ length all
old_few gaps recent all h =
    let parts = length-append h.old recent in
    let is = ap (λ (t : List (Option ℕ)). length t) h.split in
    omega (arith, parts, is)

-- where there is room
pub pushed : (gaps : Gaps) (recent all : List (Option ℕ)) (t : Option ℕ) → length recent < 1024 → AreTimes gaps recent all → AreTimes gaps (recent ++ t ∷ []) (all ++ t ∷ [])
pushed gaps recent all t room h = record {
  old = h.old;
  split = ap (λ s. s ++ t ∷ []) h.split ∙ append_assoc h.old recent (t ∷ []);
  closed = h.closed;
  few = let more = length-append recent (t ∷ []) in omega (arith, more, room);
  enough = λ less. h.enough room;
}

-- where the oldest goes
pub pushed_past : (gaps after : Gaps) (recent rest all : List (Option ℕ)) (x t : Option ℕ) → recent ≡ x ∷ rest → length recent ≡ 1024
    → ((old : List (Option ℕ)) → IsClosed gaps old → IsClosed after (old ++ x ∷ []))
    → AreTimes gaps recent all → AreTimes after (rest ++ t ∷ []) (all ++ t ∷ [])
pushed_past gaps after recent rest all x t is full passes h =
    let less = ap (λ (s : List (Option ℕ)). length s) is in
    let more = length-append rest (t ∷ []) in
    record {
      old = h.old ++ x ∷ [];
      split = ap (λ s. s ++ t ∷ []) (h.split ∙ ap (λ s. h.old ++ s) is ∙ sym (append_assoc h.old (x ∷ []) rest)) ∙ append_assoc (h.old ++ x ∷ []) rest (t ∷ []);
      closed = passes h.old h.closed;
      few = omega (arith, less, more, full);
      enough = λ short. absurd (omega (arith, less, more, full, short));
    }

-- a position that is kept

slot_in : (gaps : Gaps) (recent all : List (Option ℕ)) (behind : ℕ) → (h : AreTimes gaps recent all) → behind < length recent
    → (length all - 1 - behind) - length h.old ≡ length recent - 1 - behind
slot_in gaps recent all behind h within =
    let parts = length-append h.old recent in
    let is = ap (λ (t : List (Option ℕ)). length t) h.split in
    omega (arith, parts, is, within)

pub got : (gaps : Gaps) (recent all : List (Option ℕ)) (behind : ℕ) → behind < length recent → AreTimes gaps recent all
    → get_or recent (length recent - 1 - behind) None ≡ get_or all (length all - 1 - behind) None
got gaps recent all behind within h =
    let parts = length-append h.old recent in
    let is = ap (λ (t : List (Option ℕ)). length t) h.split in
    sym (ap (λ t. get_or t (length all - 1 - behind) None) h.split
    ∙ get_or-append_right h.old recent (length h.old) (length all - 1 - behind) None refl (omega (arith, parts, is, within))
    ∙ ap (λ i. get_or recent i None) (slot_in gaps recent all behind h within))

set_right : (xs ys : List (Option ℕ)) (i j : ℕ) (t : Option ℕ) → i ≡ length xs + j → set (xs ++ ys) i t ≡ xs ++ set ys j t
set_right [] ys i j t is = let same : i ≡ j = omega (arith, is) in ap (λ k. set ys k t) same
set_right (x ∷ xs) ys zero j t is = absurd (omega (arith, is))
set_right (x ∷ xs) ys (suc i) j t is = ap (λ s. x ∷ s) (set_right xs ys i j t (omega (arith, is)))

pub put : (gaps : Gaps) (recent all : List (Option ℕ)) (behind : ℕ) (t : Option ℕ) → behind < length recent → AreTimes gaps recent all
    → AreTimes gaps (set recent (length recent - 1 - behind) t) (set all (length all - 1 - behind) t)
put gaps recent all behind t within h =
    let parts = length-append h.old recent in
    let is = ap (λ (s : List (Option ℕ)). length s) h.split in
    let same = length-set recent (length recent - 1 - behind) t in
    record {
      old = h.old;
      split = ap (λ s. set s (length all - 1 - behind) t) h.split
          ∙ set_right h.old recent (length all - 1 - behind) (length recent - 1 - behind) t (omega (arith, parts, is, within));
      closed = h.closed;
      few = let few = h.few in omega (arith, same, few);
      enough = λ less. h.enough (omega (arith, same, less));
    }

-- many positions at which nothing was received

pub refilled : (gaps : Gaps) (recent all : List (Option ℕ)) (count : ℕ) → 1024 < count → recent ≡ replicate 1024 None
    → IsClosed gaps (all ++ replicate (count - 1024) None) → AreTimes gaps recent (all ++ replicate count None)
refilled gaps recent all count many filled closed =
    let none : Option ℕ = None in
    let long = ap (λ (t : List (Option ℕ)). length t) filled ∙ length-replicate 1024 none in
    let whole : (count - 1024) + 1024 ≡ count = omega (arith, many) in
    record {
      old = all ++ replicate (count - 1024) none;
      split = ap (λ n. all ++ replicate n none) (sym whole) ∙ ap (λ t. all ++ t) (sym (replicate-append-replicate (count - 1024) 1024 none))
          ∙ sym (append_assoc all (replicate (count - 1024) none) (replicate 1024 none)) ∙ ap (λ t. (all ++ replicate (count - 1024) none) ++ t) (sym filled);
      closed = closed;
      few = omega (arith, long);
      enough = λ less. absurd (omega (arith, long, less));
    }

pub one_lost : (all : List (Option ℕ)) (n : ℕ) → (all ++ replicate n None) ++ None ∷ [] ≡ all ++ (let lost : List (Option ℕ) = replicate (n + 1) None in lost)
one_lost all n = append_assoc all (replicate n None) (None ∷ []) ∙ ap (λ t. all ++ t) (replicate-append-replicate n 1 None)

-- a position near the top is kept
pub kept : (gaps : Gaps) (recent all : List (Option ℕ)) (behind : ℕ) → behind < 1024 → behind < length all → AreTimes gaps recent all → behind < length recent
kept gaps recent all behind near within h =
    let parts = length-append h.old recent in
    let is = ap (λ (t : List (Option ℕ)). length t) h.split in
    ⊎_elim
    (λ (less : length recent < 1024). let empty = ap (λ (t : List (Option ℕ)). length t) (h.enough less) in omega (arith, parts, is, empty, within))
    (λ (full : 1024 ≤ length recent). omega (arith, full, near))
    (cases_lt (length recent) 1024)
