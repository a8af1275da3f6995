-- The payloads that a stream is cut into are whole packets, and its bytes.
use Rattle.std.proofs.Common.{◌≡◌, ⊎_elim, ℕ, zero, suc, ◌+◌, ◌-◌, ◌*◌, ◌<◌, ◌≤◌, min, None, List, [], ◌∷◌, ◌++◌, length, map, take, drop, get_or, refl, sym, ap, ◌∙◌, arith, subst, add-one, zero-add, append-nil, length-append}
use Rattle.std.specs.List.{concat, range_with_len}
use Rattle.std.proofs.Math.Nat.{mul-suc}
use Rattle.std.proofs.Math.Seq.{take-add}
use Rattle.std.proofs.lemmas.Bool.{cases_lt}
use Rattle.std.proofs.lemmas.List.{take-append-drop, take_all, length-take, length-drop}
use Rattle.std.proofs.lemmas.List.Folds.{concat-append}
use Rattle.std.proofs.lemmas.List.FromFn.{get_or-map-range_with_len, map-range_with_len_more}
use Rattle.std.proofs.lemmas.List.Sums.{sum_by-cons}
use Rattle.fg_io.specs.Prefix.{IsPrefix}
use Rattle.fg_ts.specs.Packets.{ArePackets}
use Rattle.fg_encode.specs.Encoding.{payload_at}
use Rattle.fg_encode.specs.Payloads.{total_length, ArePayloads}
use Rattle.fg_encode.specs.Stream.{payload_of, AreFirst, HasPayload, IsCut}

payload_is : (packets max : ℕ) (bytes : List ℕ) (payloads : List (List ℕ)) (slot : ℕ) → AreFirst packets max bytes payloads → slot < length payloads → payload_at payloads slot ≡ payload_of packets bytes slot
payload_is packets max bytes payloads slot h there =
    ap (λ (l : List (List ℕ)). get_or l slot []) h.cut
    ∙ get_or-map-range_with_len (payload_of packets bytes) 0 (length payloads) slot slot [] there (zero-add slot)

-- How long a payload is.
payload_length : (packets : ℕ) (bytes : List ℕ) (i : ℕ) → length (payload_of packets bytes i) ≡ min (188 * packets) (length bytes - 188 * packets * i)
payload_length packets bytes i =
    length-take (188 * packets) (drop (188 * packets * i) bytes) ∙ ap (λ n. min (188 * packets) n) (length-drop (188 * packets * i) bytes)

-- The first payloads, one after another, are the first bytes.
pub joined : (packets : ℕ) (bytes : List ℕ) (n : ℕ) → concat (map (payload_of packets bytes) (range_with_len 0 n)) ≡ take (188 * packets * n) bytes
joined packets bytes zero = let none : 188 * packets * zero ≡ 0 = omega arith in ap (λ k. take k bytes) (sym none)
joined packets bytes (suc n) =
    let f = payload_of packets bytes in
    let size : ℕ = 188 * packets in
    ap (λ k. concat (map f (range_with_len 0 k))) (sym (add-one n))
    ∙ ap concat (map-range_with_len_more f 0 n n (zero-add n))
    ∙ concat-append (map f (range_with_len 0 n)) (f n ∷ [])
    ∙ ap (λ (l : List ℕ). l ++ concat (f n ∷ [])) (joined packets bytes n)
    ∙ ap (λ (l : List ℕ). take (size * n) bytes ++ l) (append-nil (f n))
    ∙ sym (take-add (size * n) size bytes)
    ∙ ap (λ k. take k bytes) (sym (mul-suc size n))

first_bytes : (packets max : ℕ) (bytes : List ℕ) (payloads : List (List ℕ)) → AreFirst packets max bytes payloads → concat payloads ≡ take (188 * packets * length payloads) bytes
first_bytes packets max bytes payloads h = ap concat h.cut ∙ joined packets bytes (length payloads)

total_is : (payloads : List (List ℕ)) → total_length payloads ≡ length (concat payloads)
total_is [] = refl
total_is (p ∷ ps) =
    sum_by-cons {X = List ℕ} (λ payload. length payload) p ps
    ∙ ap (λ n. length p + n) (total_is ps)
    ∙ sym (length-append p (concat ps))

-- The last payload is within the limit, so all are.
within : (size max long last total m n : ℕ) → n ≡ m + 1 → last ≡ min size (long - size * m) → total ≡ min (size * n) long → (max < long → max < size * m + last → ⊥) → total ≤ max
within size max long last total m n follows ends all accepted = ⊎_elim
    (λ (past : max < total).
    let product : size * n ≡ size * m + size = ap (λ k. size * k) follows ∙ omega arith in
    absurd (accepted (omega (arith, past, all)) (omega (arith, past, all, ends, product))))
    (λ (most : total ≤ max). most)
    (cases_lt max total)

total_within : (packets max : ℕ) (bytes : List ℕ) (payloads : List (List ℕ)) → AreFirst packets max bytes payloads → total_length payloads ≤ max
total_within packets max bytes payloads h = ⊎_elim
    (λ (some : 0 < length payloads).
    let m : ℕ = length payloads - 1 in
    let size : ℕ = 188 * packets in
    let last = h.acceptable m (omega arith) in
    within size max (length bytes) (length (payload_of packets bytes m)) (total_length payloads) m (length payloads) (omega arith)
    (payload_length packets bytes m)
    (total_is payloads ∙ ap (λ (l : List ℕ). length l) (first_bytes packets max bytes payloads h) ∙ length-take (size * length payloads) bytes)
    (λ longer past. last.within (record { longer = longer; past = past })))
    (λ (none : length payloads ≤ 0).
    let empty : length payloads ≡ 0 = omega arith in
    let bytes_of = ap (λ (n : ℕ). 188 * packets * n) empty in
    omega (arith, bytes_of, total_is payloads, ap (λ (l : List ℕ). length l) (first_bytes packets max bytes payloads h), length-take (188 * packets * length payloads) bytes))
    (cases_lt 0 (length payloads))

count_within : (packets count : ℕ) (bytes : List ℕ) (i : ℕ) → 1 ≤ packets → HasPayload packets bytes i → length (payload_of packets bytes i) ≡ 188 * count → (1 ≤ count) × (count ≤ packets)
count_within packets count bytes i some there whole =
    let long = payload_length packets bytes i in
    let least : 1 ≤ count = omega (arith, long, there, whole, some) in
    let most : count ≤ packets = omega (arith, long, whole) in
    (least, most)

pub cut_payloads : (packets max : ℕ) (bytes : List ℕ) (payloads : List (List ℕ)) → 1 ≤ packets → AreFirst packets max bytes payloads → ArePayloads packets payloads
cut_payloads packets max bytes payloads some h = record {
  whole = λ slot there.
      let taken = h.acceptable slot there in
      let count = taken.whole.0 in
      let bounds = count_within packets count bytes slot some taken.there taken.whole.1.whole in
      (count, bounds.0, bounds.1, subst (λ p. ArePackets p count) (sym (payload_is packets max bytes payloads slot h there)) taken.whole.1);
  full = λ slot next.
      let after = (h.acceptable (slot + 1) next).there in
      let there : slot < length payloads = omega arith in
      let product : 188 * packets * (slot + 1) ≡ 188 * packets * slot + 188 * packets = omega arith in
      ap (λ (p : List ℕ). length p) (payload_is packets max bytes payloads slot h there)
      ∙ payload_length packets bytes slot
      ∙ omega (arith, after, product);
}

pub cuts_are_payloads : (packets max : ℕ) (bytes : List ℕ) (payloads : List (List ℕ)) → 1 ≤ packets → AreFirst packets max bytes payloads → ArePayloads packets payloads × (total_length payloads ≤ max) × IsPrefix (concat payloads) bytes
cuts_are_payloads packets max bytes payloads some h =
    let n : ℕ = 188 * packets * length payloads in (
      cut_payloads packets max bytes payloads some h,
      total_within packets max bytes payloads h,
      (drop n bytes, sym (take-append-drop n bytes) ∙ ap (λ (l : List ℕ). l ++ drop n bytes) (sym (first_bytes packets max bytes payloads h))),
    )

pub whole_cut_is_all : (packets max : ℕ) (bytes : List ℕ) (payloads : List (List ℕ)) → IsCut packets max bytes payloads None → concat payloads ≡ bytes
whole_cut_is_all packets max bytes payloads h =
    first_bytes packets max bytes payloads h.first ∙ take_all (188 * packets * length payloads) bytes h.ends
