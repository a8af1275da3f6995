-- Which payloads of a stream are acceptable, as a test; and so the longest front of them.
use Rattle.std.proofs.Common.{◌≡◌, ◌⊎◌, inl, inr, ⊎_elim, ℕ, zero, suc, ◌+◌, ◌-◌, ◌*◌, ◌/◌, ◌%◌, ◌<◌, ◌≤◌, ◌==◌, ◌&&◌, Bool, true, false, cond, not, nat_lt, None, Some, List, [], ◌∷◌, ◌++◌, length, map, slice_index, refl, sym, ap, subst, ◌∙◌, arith, add-zero, append-nil, zero-add}
use Rattle.std.specs.List.{list_all, range_with_len, take_while}
use Rattle.std.proofs.Math.Nat.{mul-le-mul_right}
use Rattle.std.proofs.lemmas.Bool.{cases_lt}
use Rattle.std.proofs.lemmas.Bool.Decides.{nat_tests}
use Rattle.std.proofs.lemmas.List.{map-append}
use Rattle.std.proofs.lemmas.List.FromFn.{length-map-range_with_len}
use Rattle.std.proofs.lemmas.List.Sums.{take_while-cons}
use Rattle.fg_ts.specs.Packets.{ArePackets, HasLength, IsFirstUnsynced}
use Rattle.fg_ts.specs.declared.TsFault.TheVariants.{Ragged, NoSync}
use Rattle.fg_encode.specs.declared.stream.StreamFault.TheVariants.{NotTransport, TooLong}
use Rattle.fg_encode.specs.Stream.{payload_of, HasPayload, IsPastLimit, IsAcceptable, AreFirst, IsCut, StreamEnding, EndsAt}
use Rattle.fg_thin.specs.Payloads.{are_packets, is_past_limit, is_acceptable, payloads_of}
use Rattle.fg_encode.proofs.CutLemmas.{refused}

pub bool_cases : (b : Bool) → (b ≡ true) ⊎ (b ≡ false)
bool_cases true = inl refl
bool_cases false = inr refl

lt_is : (a b : ℕ) → a < b → nat_lt a b ≡ true
lt_is a b h = grind (arith, nat_tests)

lt_not : (a b : ℕ) → b ≤ a → nat_lt a b ≡ false
lt_not a b h = grind (arith, nat_tests)

lt_from : (a b : ℕ) → nat_lt a b ≡ true → a < b
lt_from a b h = grind (arith, nat_tests)

le_from : (a b : ℕ) → nat_lt a b ≡ false → b ≤ a
le_from a b h = grind (arith, nat_tests)

eq_is : (a b : ℕ) → a ≡ b → (a == b) ≡ true
eq_is a b h = grind (arith, nat_tests)

eq_from : (a b : ℕ) → (a == b) ≡ true → a ≡ b
eq_from a b h = grind (arith, nat_tests)

both : (a b : Bool) → a ≡ true → b ≡ true → (a && b) ≡ true
both a b h k = ap (λ x. x && b) h ∙ k

second_false : (a b : Bool) → a ≡ true → b ≡ false → (a && b) ≡ false
second_false a b h k = ap (λ x. x && b) h ∙ k

first_false : (a b : Bool) → a ≡ false → (a && b) ≡ false
first_false a b h = ap (λ x. x && b) h

-- A test of the numbers from a on: it passes each; or there is a first that it refuses.
all_pass : (p : ℕ → Bool) (a n : ℕ) → ((i : ℕ) → a ≤ i → i < a + n → p i ≡ true) → list_all p (range_with_len a n) ≡ true
all_pass p a zero h = refl
all_pass p a (suc n) h = both (p a) _ (h a (omega arith) (omega arith)) (all_pass p (a + 1) n (λ i from to. h i (omega arith) (omega arith)))

first_refused : (p : ℕ → Bool) (a n : ℕ)
    → ((i : ℕ) → a ≤ i → i < a + n → p i ≡ true)
    ⊎ ((j : ℕ) × (a ≤ j) × (j < a + n) × (p j ≡ false) × ((i : ℕ) → a ≤ i → i < j → p i ≡ true))
first_refused p a zero = inl (λ i from to. absurd (omega arith))
first_refused p a (suc n) = elim (bool_cases (p a)) [
  | inr failed ↦ inr (a, omega arith, omega arith, failed, λ i from to. absurd (omega arith))
  | inl passed ↦ elim (first_refused p (a + 1) n) [
    | inl all ↦ inl (λ i from to. ⊎_elim (λ (lt : a < i). all i (omega arith) (omega arith))
        (λ (le : i ≤ a). let here : a ≡ i = omega arith in subst (λ m. p m ≡ true) here passed) (cases_lt a i))
    | inr w ↦ inr (
      w.0,
      omega (arith, w.1),
      omega (arith, w.2),
      w.3,
      λ i from to. ⊎_elim (λ (lt : a < i). w.4 i (omega arith) to)
          (λ (le : i ≤ a). let here : a ≡ i = omega arith in subst (λ m. p m ≡ true) here passed) (cases_lt a i),
    )
  ]
]

refused_all : (p : ℕ → Bool) (a n j : ℕ) → a ≤ j → j < a + n → p j ≡ false → list_all p (range_with_len a n) ≡ false
refused_all p a zero j from to h = absurd (omega arith)
refused_all p a (suc n) j from to h = ⊎_elim
    (λ (lt : a < j). elim (bool_cases (p a)) [
      | inl passed ↦ second_false (p a) _ passed (refused_all p (a + 1) n j (omega arith) (omega arith) h)
      | inr failed ↦ first_false (p a) _ failed
    ])
    (λ (le : j ≤ a). let here : j ≡ a = omega arith in first_false (p a) _ (subst (λ m. p m ≡ false) here h))
    (cases_lt a j)

-- Whether the packet of this number begins with the sync byte.
abbrev sync_at : List ℕ → ℕ → Bool
sync_at bytes number = slice_index bytes (188 * number) == 0x47

packets_pass : (bytes : List ℕ) (count : ℕ) → ArePackets bytes count → are_packets bytes ≡ true
packets_pass bytes count h =
    let whole : length bytes ≡ 188 * count = h.whole in
    both (length bytes % 188 == 0) (list_all (sync_at bytes) (range_with_len 0 (length bytes / 188)))
    (eq_is (length bytes % 188) 0 (omega arith))
    (all_pass (sync_at bytes) 0 (length bytes / 188) (λ i from to. eq_is (slice_index bytes (188 * i)) 0x47 (h.synced i (omega arith))))

-- What isn't whole packets breaks one of the two rules.
not_packets : (bytes : List ℕ) → are_packets bytes ≡ false
    → ((count : ℕ) → HasLength bytes count → ⊥) ⊎ (((count : ℕ) × HasLength bytes count) × ((j : ℕ) × IsFirstUnsynced bytes j))
not_packets bytes refused = elim (bool_cases (length bytes % 188 == 0)) [
  | inr ragged ↦ inl (λ count whole. let is : (length bytes % 188 == 0) ≡ true = eq_is (length bytes % 188) 0 (omega (arith, whole)) in cc)
  | inl whole ↦
      let even : length bytes % 188 ≡ 0 = eq_from (length bytes % 188) 0 whole in
      let size : length bytes ≡ 188 * (length bytes / 188) = omega arith in
      elim (first_refused (sync_at bytes) 0 (length bytes / 188)) [
        | inl all ↦ let right = both (length bytes % 188 == 0) (list_all (sync_at bytes) (range_with_len 0 (length bytes / 188))) whole (all_pass (sync_at bytes) 0 (length bytes / 188) all) in absurd (let a : true ≡ false = sym right ∙ refused in cc)
        | inr w ↦ inr (
          (length bytes / 188, size),
          (
            w.0,
            record {
              within = omega (arith, w.2);
              unsynced = λ is. let a : true ≡ false = sym (eq_is (slice_index bytes (188 * w.0)) 0x47 is) ∙ w.3 in cc;
              first = λ other less. eq_from (slice_index bytes (188 * other)) 0x47 (w.4 other (omega arith) less);
            },
          ),
        )
      ]
]

are_whole : (bytes : List ℕ) → are_packets bytes ≡ true → ArePackets bytes (length bytes / 188)
are_whole bytes h = elim (bool_cases (length bytes % 188 == 0)) [
  | inr failed ↦ absurd (let a : false ≡ true = sym (first_false (length bytes % 188 == 0) _ failed) ∙ h in cc)
  | inl passed ↦
      let even : length bytes % 188 ≡ 0 = eq_from (length bytes % 188) 0 passed in
      elim (first_refused (sync_at bytes) 0 (length bytes / 188)) [
        | inl all ↦ record {
          whole = let size : length bytes ≡ 188 * (length bytes / 188) = omega arith in size;
          synced = λ number less. eq_from (slice_index bytes (188 * number)) 0x47 (all number (omega arith) (omega arith));
        }
        | inr w ↦ absurd (let a : false ≡ true = sym (second_false (length bytes % 188 == 0) (list_all (sync_at bytes) (range_with_len 0 (length bytes / 188))) passed (refused_all (sync_at bytes) 0 (length bytes / 188) w.0 w.1 w.2 w.3)) ∙ h in cc)
      ]
]

past_is : (packets max : ℕ) (bytes : List ℕ) (i : ℕ) → (is_past_limit packets max bytes i ≡ true) → IsPastLimit packets max bytes i
past_is packets max bytes i h = elim (bool_cases (nat_lt max (length bytes))) [
  | inl longer ↦ record {
    longer = lt_from max (length bytes) longer;
    past = lt_from max (188 * packets * i + length (payload_of packets bytes i)) (ap (λ b. b && nat_lt max (188 * packets * i + length (payload_of packets bytes i))) (sym longer) ∙ h);
  }
  | inr failed ↦ absurd (let a : false ≡ true = sym (first_false (nat_lt max (length bytes)) _ failed) ∙ h in cc)
]

is_past : (packets max : ℕ) (bytes : List ℕ) (i : ℕ) → IsPastLimit packets max bytes i → is_past_limit packets max bytes i ≡ true
is_past packets max bytes i h =
    both (nat_lt max (length bytes)) (nat_lt max (188 * packets * i + length (payload_of packets bytes i))) (lt_is max (length bytes) h.longer)
    (lt_is max (188 * packets * i + length (payload_of packets bytes i)) h.past)

not_past : (packets max : ℕ) (bytes : List ℕ) (i : ℕ) → (IsPastLimit packets max bytes i → ⊥) → is_past_limit packets max bytes i ≡ false
not_past packets max bytes i h = elim (bool_cases (is_past_limit packets max bytes i)) [
  | inl passed ↦ absurd (h (past_is packets max bytes i passed))
  | inr failed ↦ failed
]

-- The test passes what is acceptable.
pub accepts : (packets max : ℕ) (bytes : List ℕ) (i : ℕ) → IsAcceptable packets max bytes i → is_acceptable packets max bytes i ≡ true
accepts packets max bytes i h =
    both (nat_lt (188 * packets * i) (length bytes)) (not (is_past_limit packets max bytes i) && are_packets (payload_of packets bytes i)) (lt_is (188 * packets * i) (length bytes) h.there)
    (both (not (is_past_limit packets max bytes i)) (are_packets (payload_of packets bytes i)) (ap not (not_past packets max bytes i h.within))
    (packets_pass (payload_of packets bytes i) h.whole.0 h.whole.1))

-- What the test says of a payload: it is acceptable, or the stream ends there.
pub accepts_or_ends : (packets max : ℕ) (bytes : List ℕ) (i : ℕ)
    → ((is_acceptable packets max bytes i ≡ true) × IsAcceptable packets max bytes i)
    ⊎ ((is_acceptable packets max bytes i ≡ false) × ((end : StreamEnding) × EndsAt end packets max bytes i))
accepts_or_ends packets max bytes i =
    let there = nat_lt (188 * packets * i) (length bytes) in
    let past = is_past_limit packets max bytes i in
    let payload = payload_of packets bytes i in
    elim (bool_cases there) [
      | inr failed ↦ inr (first_false there (not past && are_packets payload) failed, (None, le_from (188 * packets * i) (length bytes) failed))
      | inl passed ↦
          let has : HasPayload packets bytes i = lt_from (188 * packets * i) (length bytes) passed in
          elim (bool_cases past) [
            | inl over ↦ inr (second_false there (not past && are_packets payload) passed (first_false (not past) (are_packets payload) (ap not over)), (Some (TooLong (188 * packets * i)), (has, past_is packets max bytes i over, refl)))
            | inr under ↦
                let within : IsPastLimit packets max bytes i → ⊥ = λ h. let a : true ≡ false = sym (is_past packets max bytes i h) ∙ under in cc in
                elim (bool_cases (are_packets payload)) [
                  | inl all ↦ inl (
                    both there (not past && are_packets payload) passed (both (not past) (are_packets payload) (ap not under) all),
                    record { there = has; within = within; whole = (length payload / 188, are_whole payload all) },
                  )
                  | inr failed ↦
                      let refused = second_false there (not past && are_packets payload) passed (second_false (not past) (are_packets payload) (ap not under) failed) in
                      elim (not_packets payload failed) [
                        | inl ragged ↦ inr (refused, (Some (NotTransport (Ragged (length bytes))), (has, within, (refl, ragged), refl)))
                        | inr w ↦ inr (refused, (Some (NotTransport (NoSync (packets * i + w.1.0))), (has, within, (w.1.0, (w.0, w.1.1), refl))))
                      ]
                ]
          ]
    ]

-- The numbers from a on that the test passes, where it passes the first n.
front : (p : ℕ → Bool) (a n m : ℕ) → n ≤ m → ((i : ℕ) → a ≤ i → i < a + n → p i ≡ true)
    → take_while p (range_with_len a m) ≡ range_with_len a n ++ take_while p (range_with_len (a + n) (m - n))
front p a zero m less h =
    let all : m - zero ≡ m = omega arith in
    sym (ap (λ k. take_while p (range_with_len k (m - zero))) (add-zero a) ∙ ap (λ k. take_while p (range_with_len a k)) all)
front p a (suc n) zero less h = absurd (omega arith)
front p a (suc n) (suc m) less h =
    let here : p a ≡ true = h a (omega arith) (omega arith) in
    let there : a + 1 + n ≡ a + suc n = omega arith in
    let rest : m - n ≡ suc m - suc n = omega arith in
    take_while-cons p a (range_with_len (a + 1) m)
    ∙ ap (λ b. cond b (a ∷ take_while p (range_with_len (a + 1) m)) []) here
    ∙ ap (λ t. a ∷ t) (front p (a + 1) n m (omega arith) (λ i from to. h i (omega arith) (omega arith)))
    ∙ ap (λ k. a ∷ (range_with_len (a + 1) n ++ take_while p (range_with_len k (m - n)))) there
    ∙ ap (λ k. a ∷ (range_with_len (a + 1) n ++ take_while p (range_with_len (a + suc n) k))) rest

-- No more of them, where it refuses the next.
none_next : (p : ℕ → Bool) (a m : ℕ) → (p a ≡ false) → take_while p (range_with_len a m) ≡ []
none_next p a zero h = refl
none_next p a (suc m) h = take_while-cons p a (range_with_len (a + 1) m) ∙ ap (λ b. cond b (a ∷ take_while p (range_with_len (a + 1) m)) []) h

-- A stream has fewer payloads than bytes.
few : (packets max : ℕ) (bytes : List ℕ) (n : ℕ) → 1 ≤ packets → ((i : ℕ) → i < n → IsAcceptable packets max bytes i) → n ≤ length bytes
few packets max bytes zero some h = omega arith
few packets max bytes (suc n) some h =
    let last : 188 * packets * n < length bytes = (h n (omega arith)).there in
    let more : 1 * n ≤ 188 * packets * n = mul-le-mul_right n (omega arith) in
    omega (arith, last, more)

-- First payloads are the first of those that the test passes.
pub first_payloads : (packets max : ℕ) (bytes : List ℕ) (payloads : List (List ℕ)) → 1 ≤ packets → AreFirst packets max bytes payloads
    → payloads_of packets max bytes ≡ payloads ++ map (payload_of packets bytes) (take_while (is_acceptable packets max bytes) (range_with_len (0 + length payloads) (length bytes - length payloads)))
unfolding payloads_of
first_payloads packets max bytes payloads some h =
    let f = payload_of packets bytes in
    let p = is_acceptable packets max bytes in
    let n : ℕ = length payloads in
    ap (map f) (front p 0 n (length bytes) (few packets max bytes n some h.acceptable) (λ i from to. accepts packets max bytes i (h.acceptable i (omega arith))))
    ∙ map-append f (range_with_len 0 n) (take_while p (range_with_len (0 + n) (length bytes - n)))
    ∙ ap (λ t. t ++ map f (take_while p (range_with_len (0 + n) (length bytes - n)))) (sym h.cut)

refuses : (packets max : ℕ) (bytes : List ℕ) (i : ℕ) (end : StreamEnding) → EndsAt end packets max bytes i → is_acceptable packets max bytes i ≡ false
refuses packets max bytes i end h = elim (accepts_or_ends packets max bytes i) [
  | inl w ↦ absurd (refused end packets max bytes i h w.1)
  | inr w ↦ w.0
]

pub cut_payloads : (packets max : ℕ) (bytes : List ℕ) (payloads : List (List ℕ)) (end : StreamEnding) → 1 ≤ packets → IsCut packets max bytes payloads end
    → payloads_of packets max bytes ≡ payloads
cut_payloads packets max bytes payloads end some h =
    let n : ℕ = length payloads in
    let f = payload_of packets bytes in
    first_payloads packets max bytes payloads some h.first
    ∙ ap (λ t. payloads ++ map f t) (none_next (is_acceptable packets max bytes) (0 + n) (length bytes - n) (subst (λ k. is_acceptable packets max bytes k ≡ false) (sym (zero-add n)) (refuses packets max bytes n end h.ends)))
    ∙ append-nil payloads

-- The first number below n, or n, at which the stream ends.
first_end : (packets max : ℕ) (bytes : List ℕ) (n : ℕ)
    → ((i : ℕ) → i < n → IsAcceptable packets max bytes i)
    ⊎ ((m : ℕ) × ((i : ℕ) → i < m → IsAcceptable packets max bytes i) × ((end : StreamEnding) × EndsAt end packets max bytes m))
first_end packets max bytes zero = inl (λ i less. absurd (omega arith))
first_end packets max bytes (suc n) = elim (first_end packets max bytes n) [
  | inr w ↦ inr w
  | inl all ↦ elim (accepts_or_ends packets max bytes n) [
    | inl w ↦ inl (λ i less. ⊎_elim (λ (lt : i < n). all i lt) (λ (le : n ≤ i). let here : n ≡ i = omega arith in subst (λ m. IsAcceptable packets max bytes m) here w.1) (cases_lt i n))
    | inr w ↦ inr (n, all, w.1)
  ]
]

cut_at : (packets max : ℕ) (bytes : List ℕ) (m : ℕ) (end : StreamEnding) → ((i : ℕ) → i < m → IsAcceptable packets max bytes i) → EndsAt end packets max bytes m
    → IsCut packets max bytes (map (payload_of packets bytes) (range_with_len 0 m)) end
cut_at packets max bytes m end all ends =
    let f = payload_of packets bytes in
    let count : length (map f (range_with_len 0 m)) ≡ m = length-map-range_with_len f 0 m in
    record {
      first = record {
        cut = ap (λ n. map f (range_with_len 0 n)) (sym count);
        acceptable = λ i less. all i (omega (arith, count));
      };
      ends = subst (λ n. EndsAt end packets max bytes n) (sym count) ends;
    }

-- Every stream is cut into its payloads.
pub has_cut : (packets max : ℕ) (bytes : List ℕ) → 1 ≤ packets → (end : StreamEnding) × IsCut packets max bytes (payloads_of packets max bytes) end
has_cut packets max bytes some = elim (first_end packets max bytes (suc (length bytes))) [
  | inl all ↦ absurd (omega (arith, few packets max bytes (suc (length bytes)) some all))
  | inr w ↦
      let cut = cut_at packets max bytes w.0 w.2.0 w.1 w.2.1 in
      (w.2.0, subst (λ t. IsCut packets max bytes t w.2.0) (sym (cut_payloads packets max bytes (map (payload_of packets bytes) (range_with_len 0 w.0)) w.2.0 some cut)) cut)
]
