-- Made packets: how long they are, how they begin, and how they go on.
use Rattle.std.proofs.Common.{◌≡◌, ℕ, zero, suc, ◌+◌, ◌*◌, ◌-◌, ◌<◌, ◌≤◌, None, List, [], ◌∷◌, ◌++◌, length, map, get_or, drop, take, refl, sym, ap, ◌∙◌, arith, add-one, add-zero, zero-add, suc-add, mul-suc, append-nil, length-append, length-drop, append_assoc, set, w32}
use Rattle.std.specs.Int.{to_le_bytes}
use Rattle.std.specs.List.{flat_map, range_with_len}
use Rattle.std.proofs.lemmas.List.FromFn.{length-map-range_with_len, length-range_with_len}
use Rattle.std.proofs.Math.Seq.{take-append-add, take-length}
use Rattle.std.proofs.lemmas.List.{drop-drop, drop_all, get_or-drop, get_or-take, get_or_append_left, get_or-append_right, length-take-le, take-append-drop, take-append-le}
use borrow.Rule.Slice.PartMut.{mid_of, post_of, put_mid}
use Rattle.rand_core.specs.Steps.{fill_via_u32, word_bytes}
use Rattle.rand_pcg.specs.Lcg.{Lcg, advance, next, next_state, state_after}
use Rattle.rand_pcg.specs.Pcg.{multiplier_64, pcg32}
use Rattle.fg_ts.specs.Packets.{ArePackets}
use Rattle.fg_encode.specs.Stream.{payload_of, IsCut}
use Rattle.fg_thin.specs.Made.{generator_of, made_packet, made_packets, made_stream}

-- A jump of so many steps and then one is a jump of one more.
after_more : (w m p n s : ℕ) → state_after w m p (suc n) s ≡ next_state w m p (state_after w m p n s)
unfolding state_after
after_more w m p zero s = refl
after_more w m p (suc n) s = after_more w m p n (next_state w m p s)

pub advance_next : (n : ℕ) (g : Lcg) → advance 64 multiplier_64 (n + 1) g ≡ next 64 multiplier_64 (advance 64 multiplier_64 n g)
advance_next n g =
    ap (λ (k : ℕ). advance 64 multiplier_64 k g) (add-one n)
    ∙ ap (λ (s : ℕ). let h : Lcg = record g { state = s } in h) (after_more 64 multiplier_64 g.increment n g.state)

pub advance_none : (g : Lcg) → advance 64 multiplier_64 0 g ≡ g
unfolding state_after
advance_none g = refl

-- Two jumps are one.
after_add : (w m p a b s : ℕ) → state_after w m p (a + b) s ≡ state_after w m p b (state_after w m p a s)
unfolding state_after
after_add w m p zero b s = ap (λ (k : ℕ). state_after w m p k s) (zero-add b)
after_add w m p (suc a) b s =
    ap (λ (k : ℕ). state_after w m p k s) (suc-add a b) ∙ after_add w m p a b (next_state w m p s)

pub advance_add : (a b : ℕ) (g : Lcg) → advance 64 multiplier_64 (a + b) g ≡ advance 64 multiplier_64 b (advance 64 multiplier_64 a g)
advance_add a b g =
    ap (λ (s : ℕ). let h : Lcg = record g { state = s } in h) (after_add 64 multiplier_64 g.increment a b g.state)

-- The words of a packet leave the generator so many steps on, and each has four bytes.
pub words_after : (g : Lcg) (k : ℕ) → (word_bytes (to_le_bytes w32) pcg32 k g).1 ≡ advance 64 multiplier_64 k g
unfolding word_bytes
words_after g zero = sym (advance_none g)
words_after g (suc k) =
    ap (λ (h : Lcg). next 64 multiplier_64 h) (words_after g k)
    ∙ sym (advance_next k g)
    ∙ ap (λ (n : ℕ). advance 64 multiplier_64 n g) (add-one k)

four_bytes : (n : ℕ) → length (to_le_bytes w32 n) ≡ 4
four_bytes n = refl

pub words_length : (g : Lcg) (k : ℕ) → length (word_bytes (to_le_bytes w32) pcg32 k g).0 ≡ 4 * k
unfolding word_bytes
words_length g zero = refl
words_length g (suc k) =
    let before = word_bytes (to_le_bytes w32) pcg32 k g in
    let all = length-append before.0 (to_le_bytes w32 (pcg32 before.1).0) in
    let rest = words_length g k in
    omega (arith, all, rest, four_bytes (pcg32 before.1).0, mul-suc 4 k)

pub packet_length : (g : Lcg) (number : ℕ) → length (made_packet g number) ≡ 188
packet_length g number = let words = words_length g 46 in omega (arith, words)

-- Pieces of 188 bytes, one after another.
pieces_length : (f : ℕ → List ℕ) → ((i : ℕ) → length (f i) ≡ 188) → (xs : List ℕ) → length (flat_map f xs) ≡ 188 * length xs
pieces_length f whole [] = refl
pieces_length f whole (x ∷ xs) =
    omega (arith, length-append (f x) (flat_map f xs), whole x, pieces_length f whole xs, mul-suc 188 (length xs))

pieces_begin : (f : ℕ → List ℕ) (byte : ℕ) → ((i : ℕ) → length (f i) ≡ 188) → ((i : ℕ) → get_or (f i) 0 0 ≡ byte)
    → (xs : List ℕ) (number : ℕ) → number < length xs → get_or (flat_map f xs) (188 * number) 0 ≡ byte
pieces_begin f byte whole begins [] number below = absurd (omega arith)
pieces_begin f byte whole begins (x ∷ xs) zero below =
    let some : 0 < length (f x) = omega (arith, whole x) in
    get_or_append_left (f x) (flat_map f xs) 0 0 some ∙ begins x
pieces_begin f byte whole begins (x ∷ xs) (suc number) below =
    let past : 188 ≤ 188 * suc number = omega (arith, mul-suc 188 number) in
    let rest : 188 * suc number - 188 ≡ 188 * number = omega (arith, mul-suc 188 number) in
    get_or-append_right (f x) (flat_map f xs) 188 (188 * suc number) 0 (whole x) past
    ∙ ap (λ (k : ℕ). get_or (flat_map f xs) k 0) rest
    ∙ pieces_begin f byte whole begins xs number (omega arith)

pub packets_length : (g : Lcg) (first count : ℕ) → length (made_packets g first count) ≡ 188 * count
packets_length g first count =
    pieces_length (λ i. made_packet (advance 64 multiplier_64 (46 * i) g) (first + i)) (λ i. packet_length (advance 64 multiplier_64 (46 * i) g) (first + i)) (range_with_len 0 count)
    ∙ ap (λ (n : ℕ). 188 * n) (length-range_with_len 0 count)

pub are_packets : (g : Lcg) (first count : ℕ) → ArePackets (made_packets g first count) count
are_packets g first count = record {
  whole = packets_length g first count;
  synced = λ number below.
      let all = length-range_with_len 0 count in
      pieces_begin (λ i. made_packet (advance 64 multiplier_64 (46 * i) g) (first + i)) 0x47 (λ i. packet_length (advance 64 multiplier_64 (46 * i) g) (first + i)) (λ i. refl) (range_with_len 0 count) number (omega arith);
}

-- One packet, and then those behind it.
flat_shift : (f h : ℕ → List ℕ) → ((i : ℕ) → f (i + 1) ≡ h i) → (a n : ℕ) → flat_map f (range_with_len (a + 1) n) ≡ flat_map h (range_with_len a n)
flat_shift f h same a zero = refl
flat_shift f h same a (suc n) =
    let head = same a in
    let rest = flat_shift f h same (a + 1) n in
    cc

packet_behind : (g : Lcg) (first i : ℕ)
    → made_packet (advance 64 multiplier_64 (46 * (i + 1)) g) (first + (i + 1))
    ≡ made_packet (advance 64 multiplier_64 (46 * i) (advance 64 multiplier_64 46 g)) (first + 1 + i)
packet_behind g first i =
    let later : 46 * (i + 1) ≡ 46 + 46 * i = omega arith in
    let number : first + (i + 1) ≡ first + 1 + i = omega arith in
    ap (λ (n : ℕ). made_packet (advance 64 multiplier_64 (46 * (i + 1)) g) n) number
    ∙ ap (λ (h : Lcg). made_packet h (first + 1 + i)) (ap (λ (n : ℕ). advance 64 multiplier_64 n g) later ∙ advance_add 46 (46 * i) g)

pub packets_more : (g : Lcg) (first count : ℕ)
    → made_packets g first (suc count) ≡ made_packet g first ++ made_packets (advance 64 multiplier_64 46 g) (first + 1) count
packets_more g first count =
    let f : ℕ → List ℕ = λ i. made_packet (advance 64 multiplier_64 (46 * i) g) (first + i) in
    let h : ℕ → List ℕ = λ i. made_packet (advance 64 multiplier_64 (46 * i) (advance 64 multiplier_64 46 g)) (first + 1 + i) in
    let head : f 0 ≡ made_packet g first =
    ap (λ (n : ℕ). made_packet (advance 64 multiplier_64 0 g) n) (add-zero first) ∙ ap (λ (k : Lcg). made_packet k first) (advance_none g) in
    ap (λ (l : List ℕ). l ++ flat_map f (range_with_len 1 count)) head
    ∙ ap (λ (l : List ℕ). made_packet g first ++ l) (flat_shift f h (packet_behind g first) 0 count)

-- The bytes that are left: of the packet under way, and of those behind it.
pub left_length : (packet : List ℕ) (g : Lcg) (given first count : ℕ) → length packet ≡ 188
    → length (drop given packet ++ made_packets g first count) ≡ 188 - given + 188 * count
left_length packet g given first count whole =
    let held = length-drop given packet in
    let rest = packets_length g first count in
    let all = length-append (drop given packet) (made_packets g first count) in
    omega arith

-- With nothing left of the packet under way, the next one is.
pub next_is_held : (packet : List ℕ) (g : Lcg) (given made packets : ℕ) → length packet ≡ 188 → given ≡ 188 → made < packets
    → drop given packet ++ made_packets g made (packets - made)
    ≡ drop 0 (made_packet g made) ++ made_packets (advance 64 multiplier_64 46 g) (made + 1) (packets - (made + 1))
next_is_held packet g given made packets whole all more =
    let past : length packet ≤ given = omega arith in
    let one : packets - made ≡ suc (packets - (made + 1)) = omega arith in
    ap (λ (l : List ℕ). l ++ made_packets g made (packets - made)) (drop_all given packet past)
    ∙ ap (λ (n : ℕ). made_packets g made n) one
    ∙ packets_more g made (packets - (made + 1))

-- Bytes of the packet under way are given.
pub held_given : (packet rest copy into : List ℕ) (given count : ℕ) → copy ≡ take (given + count - given) (drop given packet) → given + count ≤ length packet
    → drop given packet ++ rest ≡ take count (copy ++ drop count into) ++ (drop (given + count) packet ++ rest)
held_given packet rest copy into given count same within =
    let some : given + count - given ≡ count = omega arith in
    let held = length-drop given packet in
    let enough : count ≤ length (drop given packet) = omega arith in
    let is : copy ≡ take count (drop given packet) = same ∙ ap (λ (n : ℕ). take n (drop given packet)) some in
    let long : length copy ≡ count = ap (λ (l : List ℕ). length l) is ∙ length-take-le count (drop given packet) enough in
    let fits : count ≤ length copy = omega arith in
    let front : take count (copy ++ drop count into) ≡ take count (drop given packet) =
    take-append-le count copy (drop count into) fits
    ∙ ap (λ (n : ℕ). take n copy) (sym long) ∙ take-length copy ∙ is in
    ap (λ (l : List ℕ). l ++ rest) (sym (take-append-drop count (drop given packet)))
    ∙ append_assoc (take count (drop given packet)) (drop count (drop given packet)) rest
    ∙ ap (λ (l : List ℕ). take count (drop given packet) ++ (l ++ rest)) (drop-drop count given packet)
    ∙ ap (λ (l : List ℕ). l ++ (drop (given + count) packet ++ rest)) (sym front)

-- All bytes were given exactly where the packet under way and the others were.
empty : (xs : List ℕ) → length xs ≡ 0 → xs ≡ []
empty [] none = refl
empty (x ∷ xs) none = absurd (omega arith)

pub ended : (packet : List ℕ) (g : Lcg) (given made packets : ℕ) → length packet ≡ 188 → given ≡ 188 → made ≡ packets
    → drop given packet ++ made_packets g made (packets - made) ≡ []
ended packet g given made packets whole all last =
    empty (drop given packet ++ made_packets g made (packets - made)) (let long = left_length packet g given made (packets - made) whole in omega arith)

pub only_ended : (packet : List ℕ) (g : Lcg) (given made packets : ℕ) → length packet ≡ 188 → given ≤ 188 → made ≤ packets
    → drop given packet ++ made_packets g made (packets - made) ≡ [] → (given ≡ 188) × (made ≡ packets)
only_ended packet g given made packets whole held more none =
    let long = left_length packet g given made (packets - made) whole in
    let nothing = ap (λ (l : List ℕ). length l) none in
    let all : given ≡ 188 = omega arith in
    let last : made ≡ packets = omega arith in
    (all, last)

-- A packet is filled in: its head, and then the draws.
pub put_packet : (packet words : List ℕ) (x : ℕ) → length packet ≡ 188
    → put_mid 4 184 (set (set (set (set packet 0 71) 1 1) 2 0) 3 x) words ≡ 71 ∷ 1 ∷ 0 ∷ x ∷ words
put_packet [] words x whole = absurd (omega arith)
put_packet (a ∷ []) words x whole = absurd (omega arith)
put_packet (a ∷ b ∷ []) words x whole = absurd (omega arith)
put_packet (a ∷ b ∷ c ∷ []) words x whole = absurd (omega arith)
put_packet (a ∷ b ∷ c ∷ d ∷ rest) words x whole =
    let past : length rest ≤ 184 = omega arith in
    ap (λ (l : List ℕ). 71 ∷ 1 ∷ 0 ∷ x ∷ (words ++ l)) (drop_all 184 rest past)
    ∙ ap (λ (l : List ℕ). 71 ∷ 1 ∷ 0 ∷ x ∷ l) (append-nil words)

pub filled_words : (words : List ℕ) (g after : Lcg) (n : ℕ) → n ≡ 184 → (let both : List ℕ × Lcg = (words, after) in both) ≡ fill_via_u32 pcg32 n g
    → words ≡ (word_bytes (to_le_bytes w32) pcg32 46 g).0
filled_words words g after n room filled =
    let all = words_length g 46 in
    let long : 184 ≡ length (word_bytes (to_le_bytes w32) pcg32 46 g).0 = omega arith in
    ap (λ (both : List ℕ × Lcg). both.0) (filled ∙ ap (λ (k : ℕ). fill_via_u32 pcg32 k g) room)
    ∙ ap (λ (k : ℕ). take k (word_bytes (to_le_bytes w32) pcg32 46 g).0) long
    ∙ take-length (word_bytes (to_le_bytes w32) pcg32 46 g).0

pub filled_after : (words : List ℕ) (g after : Lcg) (n : ℕ) → n ≡ 184 → (let both : List ℕ × Lcg = (words, after) in both) ≡ fill_via_u32 pcg32 n g
    → after ≡ advance 64 multiplier_64 46 g
filled_after words g after n room filled =
    ap (λ (both : List ℕ × Lcg). both.1) (filled ∙ ap (λ (k : ℕ). fill_via_u32 pcg32 k g) room) ∙ words_after g 46

pub head_room : (packet : List ℕ) (x : ℕ) → length packet ≡ 188
    → length (mid_of 4 184 (set (set (set (set packet 0 71) 1 1) 2 0) 3 x)) ≡ 184
head_room [] x whole = absurd (omega arith)
head_room (a ∷ []) x whole = absurd (omega arith)
head_room (a ∷ b ∷ []) x whole = absurd (omega arith)
head_room (a ∷ b ∷ c ∷ []) x whole = absurd (omega arith)
head_room (a ∷ b ∷ c ∷ d ∷ rest) x whole =
    let enough : 184 ≤ length rest = omega arith in
    length-take-le 184 rest enough

-- Bytes are read behind those that were.
pub read_more : (first left rest into piece : List ℕ) (count more : ℕ) → count ≤ length into → length piece ≡ length (mid_of count (length into - count) into) → more ≤ length piece
    → first ≡ take count into ++ left → left ≡ take more piece ++ rest
    → (count + more ≤ length (put_mid count (length into - count) into piece))
    × (first ≡ take (count + more) (put_mid count (length into - count) into piece) ++ rest)
read_more first left rest into piece count more within room fits before now =
    let behind = post_of count (length into - count) into in
    let front = length-take-le count into within in
    let behind_count = length-drop count into in
    let enough : length into - count ≤ length (drop count into) = omega arith in
    let asked = length-take-le (length into - count) (drop count into) enough in
    let all = length-append (take count into) (piece ++ behind) in
    let back = length-append piece behind in
    let bound : count + more ≤ length (put_mid count (length into - count) into piece) = omega arith in
    let parts : take (count + more) (put_mid count (length into - count) into piece) ≡ take count into ++ take more piece =
    ap (λ (n : ℕ). take (n + more) (take count into ++ (piece ++ behind))) (sym front)
    ∙ take-append-add (take count into) (piece ++ behind) more
    ∙ ap (λ (l : List ℕ). take count into ++ l) (take-append-le more piece behind fits) in (
      bound,
      before ∙ ap (λ (l : List ℕ). take count into ++ l) now
          ∙ sym (append_assoc (take count into) (take more piece) rest)
          ∙ ap (λ (l : List ℕ). l ++ rest) (sym parts),
    )

-- So many whole packets, with so many in each payload, are cut into whole payloads.
payload_packets : (bytes : List ℕ) (n i : ℕ) → ArePackets bytes (7 * n) → i < n → ArePackets (payload_of 7 bytes i) 7
payload_packets bytes n i all below =
    let long = all.whole in
    let behind = length-drop (188 * 7 * i) bytes in
    let enough : 188 * 7 ≤ length (drop (188 * 7 * i) bytes) = omega arith in
    record {
      whole = length-take-le (188 * 7) (drop (188 * 7 * i) bytes) enough;
      synced = λ number less.
          let within : 188 * number < 188 * 7 = omega arith in
          let place : 188 * 7 * i + 188 * number ≡ 188 * (7 * i + number) = omega arith in
          get_or-take (188 * 7) (drop (188 * 7 * i) bytes) (188 * number) 0 within
          ∙ get_or-drop (188 * 7 * i) bytes (188 * number) 0
          ∙ ap (λ (k : ℕ). get_or bytes k 0) place
          ∙ all.synced (7 * i + number) (omega arith);
    }

packets_cut : (bytes : List ℕ) (n max : ℕ) → ArePackets bytes (7 * n) → length bytes ≤ max
    → (length (map (payload_of 7 bytes) (range_with_len 0 n)) ≡ n) × IsCut 7 max bytes (map (payload_of 7 bytes) (range_with_len 0 n)) None
packets_cut bytes n max all most =
    let payloads = map (payload_of 7 bytes) (range_with_len 0 n) in
    let count : length payloads ≡ n = length-map-range_with_len (payload_of 7 bytes) 0 n in
    let long = all.whole in
    let ends : length bytes ≤ 188 * 7 * length payloads = omega arith in (
      count,
      record {
        first = record {
          cut = ap (λ (k : ℕ). map (payload_of 7 bytes) (range_with_len 0 k)) (sym count);
          acceptable = λ i below.
              let less : i < n = omega arith in
              let there : 188 * 7 * i < length bytes = omega arith in
              record {
                there = there;
                within = λ past. let longer = past.longer in omega arith;
                whole = (7, payload_packets bytes n i all less);
              };
        };
        ends = ends;
      },
    )

pub made_cut : (seed datagrams max : ℕ) → length (made_stream seed datagrams) ≤ max
    → (length (map (payload_of 7 (made_stream seed datagrams)) (range_with_len 0 datagrams)) ≡ datagrams)
    × IsCut 7 max (made_stream seed datagrams) (map (payload_of 7 (made_stream seed datagrams)) (range_with_len 0 datagrams)) None
made_cut seed datagrams max most =
    packets_cut (made_stream seed datagrams) datagrams max (are_packets (generator_of seed 54) 0 (7 * datagrams)) most
