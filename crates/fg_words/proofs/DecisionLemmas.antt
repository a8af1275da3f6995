-- Facts that hold or do not, by finite tests; words that are the same or not, and media words or not.
use Rattle.std.proofs.Common.{◌≡◌, ◌⊎◌, ◌*◌, ◌<◌, ◌≤◌, ℕ, zero, suc, List, [], ◌∷◌, length, get_or, inl, inr, refl, ap, subst, ⊎_elim, arith}
use Rattle.std.proofs.lemmas.Bool.{cases_eq, cases_lt}
use Rattle.std.proofs.lemmas.List.{get_or_past}
use Rattle.fg_words.specs.declared.Word.{Word}
use Rattle.fg_words.specs.Word.{IsMedia}
use Rattle.fg_words.proofs.WordLemmas.{word-ext}

abbrev pub IsDecided : Type 0 → Type 0
IsDecided P = P ⊎ (P → ⊥)

module _ (P Q : Type 0) where
  pub decided_both : IsDecided P → IsDecided Q → IsDecided (P × Q)
  decided_both p q = ⊎_elim
      (λ yes. ⊎_elim (λ also. inl (yes, also)) (λ no. inr (λ both. no both.1)) q)
      (λ no. inr (λ both. no both.0))
      p

  pub decided_either : IsDecided P → IsDecided Q → IsDecided (P ⊎ Q)
  decided_either p q = ⊎_elim
      (λ yes. inl (inl yes))
      (λ no. ⊎_elim (λ yes. inl (inr yes)) (λ neither. inr (λ some. ⊎_elim no neither some)) q)
      p

  pub decided_if : IsDecided P → IsDecided Q → IsDecided (P → Q)
  decided_if p q = ⊎_elim
      (λ yes. ⊎_elim (λ then. inl (λ _. then)) (λ no. inr (λ f. no (f yes))) q)
      (λ no. inl (λ yes. absurd (no yes)))
      p

  -- The same fact in other words.
  pub decided_as : (P → Q) → (Q → P) → IsDecided P → IsDecided Q
  decided_as to from p = ⊎_elim (λ yes. inl (to yes)) (λ no. inr (λ q. no (from q))) p

-- Of the numbers below a limit.
module _ (P : ℕ → Type 0) (each : (n : ℕ) → IsDecided (P n)) where
  pub decided_below : (limit : ℕ) → IsDecided ((n : ℕ) → n < limit → P n)
  decided_below zero = inl (λ n below. absurd (omega (arith, below)))
  decided_below (suc limit) = ⊎_elim
      (λ here. ⊎_elim
      (λ rest. inl (λ n below. ⊎_elim
      (λ less. rest n less)
      (λ past. (let same : limit ≡ n = omega (arith, below, past) in subst P same here))
      (cases_lt n limit)))
      (λ no. inr (λ all. no (λ n less. all n (omega (arith, less)))))
      (decided_below limit))
      (λ no. inr (λ all. no (all limit (omega arith))))
      (each limit)

  pub decided_somewhere : (limit : ℕ) → IsDecided ((n : ℕ) × (n < limit) × P n)
  decided_somewhere zero = inr (λ some. (let below = some.1 in omega (arith, below)))
  decided_somewhere (suc limit) = ⊎_elim
      (λ here. inl (limit, omega arith, here))
      (λ no. ⊎_elim
      (λ some. (let below = some.1 in inl (some.0, omega (arith, below), some.2)))
      (λ none. inr (λ some. (let below = some.1 in ⊎_elim
      (λ less. none (some.0, less, some.2))
      (λ past. (let same : some.0 ≡ limit = omega (arith, below, past) in no (subst P same some.2)))
      (cases_lt some.0 limit))))
      (decided_somewhere limit))
      (each limit)

pub decided_less : (m n : ℕ) → IsDecided (m < n)
decided_less m n = ⊎_elim (λ less. inl less) (λ past. inr (λ less. omega (arith, less, past))) (cases_lt m n)

pub decided_most : (m n : ℕ) → IsDecided (m ≤ n)
decided_most m n = ⊎_elim (λ past. inr (λ most. omega (arith, most, past))) (λ most. inl most) (cases_lt n m)

pub decided_numbers : (xs ys : List ℕ) → IsDecided (xs ≡ ys)
decided_numbers [] [] = inl refl
decided_numbers [] (y ∷ ys) = inr (λ e. cc)
decided_numbers (x ∷ xs) [] = inr (λ e. cc)
decided_numbers (x ∷ xs) (y ∷ ys) = ⊎_elim
    (λ same. ⊎_elim
    (λ rest. inl (λ i. same i ∷ rest i))
    (λ no. inr (λ e. no (cc)))
    (decided_numbers xs ys))
    (λ no. inr (λ e. no (cc)))
    (cases_eq x y)

pub decided_words : (a b : Word) → IsDecided (a ≡ b)
decided_words a b =
    let Bytes : Type 0 = a.bytes ≡ b.bytes in
    let Lengths : Type 0 = (a.len ≡ b.len) × Bytes in
    let Times : Type 0 = (a.ts ≡ b.ts) × Lengths in
    decided_as ((a.pt ≡ b.pt) × Times) (a ≡ b)
    (λ f. word-ext a b f.0 f.1.0 f.1.1.0 f.1.1.1)
    (λ e. (
      ap (λ (w : Word). w.pt) e,
      (ap (λ (w : Word). w.ts) e, (ap (λ (w : Word). w.len) e, ap (λ (w : Word). w.bytes) e)),
    ))
    (decided_both (a.pt ≡ b.pt) Times (cases_eq a.pt b.pt)
    (decided_both (a.ts ≡ b.ts) Lengths (cases_eq a.ts b.ts)
    (decided_both (a.len ≡ b.len) Bytes (cases_eq a.len b.len) (decided_numbers a.bytes b.bytes))))

-- From some index on a list has zeros. Past its end each list has.
pub decided_zeros : (xs : List ℕ) (from : ℕ) → IsDecided ((i : ℕ) → from ≤ i → get_or xs i 0 ≡ 0)
decided_zeros xs from =
    let At : ℕ → Type 0 = λ i. from ≤ i → get_or xs i 0 ≡ 0 in
    decided_as ((i : ℕ) → i < length xs → At i) ((i : ℕ) → from ≤ i → get_or xs i 0 ≡ 0)
    (λ all i past. ⊎_elim (λ within. all i within past) (λ beyond. get_or_past xs i 0 beyond) (cases_lt i (length xs)))
    (λ all i below. all i)
    (decided_below At
    (λ i. decided_if (from ≤ i) (get_or xs i 0 ≡ 0) (decided_most from i) (cases_eq (get_or xs i 0) 0))
    (length xs))

module _ (w : Word) where
  abbrev HasPackets : Type 0
  HasPackets = (k : ℕ) × (1 ≤ k) × (k ≤ 7) × (w.len ≡ 188 * k)

  abbrev IsSynced : Type 0
  IsSynced = (i : ℕ) → 188 * i < w.len → get_or w.bytes (188 * i) 0 ≡ 0x47

  abbrev IsPadded : Type 0
  IsPadded = (i : ℕ) → w.len ≤ i → get_or w.bytes i 0 ≡ 0

  decided_packets : IsDecided HasPackets
  decided_packets = decided_as ((k : ℕ) × (k < 8) × ((1 ≤ k) × (w.len ≡ 188 * k))) HasPackets
      (λ s. (let below = s.1 in (s.0, s.2.0, omega (arith, below), s.2.1)))
      (λ s. (let most = s.2 in (s.0, omega (arith, most), (s.1, s.3))))
      (decided_somewhere (λ k. (1 ≤ k) × (w.len ≡ 188 * k))
      (λ k. decided_both (1 ≤ k) (w.len ≡ 188 * k) (decided_most 1 k) (cases_eq w.len (188 * k))) 8)

  decided_synced : IsDecided IsSynced
  decided_synced =
      let At : ℕ → Type 0 = λ i. 188 * i < w.len → get_or w.bytes (188 * i) 0 ≡ 0x47 in
      decided_as ((i : ℕ) → i < w.len → At i) IsSynced
      (λ all i less. all i (omega (arith, less)) less)
      (λ all i below. all i)
      (decided_below At
      (λ i. decided_if (188 * i < w.len) (get_or w.bytes (188 * i) 0 ≡ 0x47) (decided_less (188 * i) w.len)
      (cases_eq (get_or w.bytes (188 * i) 0) 0x47))
      w.len)

  pub decided_media : IsDecided (IsMedia w)
  decided_media =
      let Rest : Type 0 = IsSynced × IsPadded in
      let Room : Type 0 = (length w.bytes ≡ 1316) × Rest in
      let Packets : Type 0 = HasPackets × Room in
      decided_as ((w.pt ≡ 33) × Packets) (IsMedia w)
      (λ f. record { transport = f.0; packets = f.1.0; room = f.1.1.0; synced = f.1.1.1.0; padded = f.1.1.1.1 })
      (λ m. (m.transport, (m.packets, (m.room, (m.synced, m.padded)))))
      (decided_both (w.pt ≡ 33) Packets (cases_eq w.pt 33)
      (decided_both HasPackets Room decided_packets
      (decided_both (length w.bytes ≡ 1316) Rest (cases_eq (length w.bytes) 1316)
      (decided_both IsSynced IsPadded decided_synced (decided_zeros w.bytes w.len)))))
