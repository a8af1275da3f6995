-- Bytes that keep every rule are a media datagram, and a media datagram keeps them.
use Rattle.std.proofs.Common.{◌≡◌, ℕ, zero, suc, ◌+◌, ◌-◌, ◌*◌, ◌/◌, ◌%◌, ◌^◌, ◌<◌, ◌≤◌, false, eqb, List, [], ◌∷◌, ◌++◌, length, replicate, take, drop, get_or, refl, sym, ap, ⊎_elim, ◌∙◌, arith, lit<, length-append}
use Rattle.std.specs.Int.{to_be_bytes, w16, w32}
use Rattle.std.proofs.lemmas.Bool.{cases_lt, eqb-false}
use Rattle.std.proofs.lemmas.Nat.{be_bytes_2, be_bytes_4}
use Rattle.std.proofs.lemmas.List.{get_or_append_left, get_or-append_right, get_or-take, get_or-replicate, get_or_past, length-take, length-replicate, take_at, drop_at, ext_get_or}
use Rattle.fg_words.specs.declared.Word.{Word}
use Rattle.fg_words.specs.Word.{transport_word, IsMedia}
use Rattle.fg_words.proofs.WordLemmas.{word-ext}
use Rattle.fg_rtp.specs.Header.{header}
use Rattle.fg_rtp.specs.MediaDatagram.{IsMediaDatagram, media_bytes, HasHeader, IsVersionTwo, IsPlain, IsTransport, HasPackets, IsSynced}

-- What is written for a media word is a media datagram of it.
pub written_datagram : (seq ssrc : ℕ) (word : Word) → seq < 2 ^ 16 → word.ts < 2 ^ 32 → ssrc < 2 ^ 32 → IsMedia word → IsMediaDatagram (media_bytes seq ssrc word) seq ssrc word
written_datagram seq ssrc word seq_fits ts_fits ssrc_fits media =
    record { marker = 0; marker_bit = lit< tt; seq_size = seq_fits; ts_size = ts_fits; ssrc_size = ssrc_fits; media = media; spelled = refl }

-- The payload of a media datagram is what follows its header.
pub datagram_payload : (bytes : List ℕ) (seq ssrc : ℕ) (word : Word) → IsMediaDatagram bytes seq ssrc word → (take word.len word.bytes ≡ drop 12 bytes) × (length bytes ≡ 12 + word.len)
datagram_payload bytes seq ssrc word d =
    let payload : List ℕ = take word.len word.bytes in
    let front : List ℕ = 0x80 ∷ (128 * d.marker + 33) ∷ (to_be_bytes w16 seq ++ to_be_bytes w32 word.ts ++ to_be_bytes w32 ssrc) in
    let whole : bytes ≡ front ++ payload = d.spelled in
    let count = d.media.packets in
    let room = d.media.room in (
      sym (ap (λ (l : List ℕ). drop 12 l) whole ∙ drop_at front payload 12 refl),
      ap length whole ∙ length-append front payload ∙ omega (arith, length-take word.len word.bytes, count.2, count.3),
    )

-- Bytes are a media datagram in at most one way.
pub datagram_one_way : (bytes : List ℕ) (seq ssrc seq' ssrc' : ℕ) (word word' : Word) → IsMediaDatagram bytes seq ssrc word → IsMediaDatagram bytes seq' ssrc' word' → (seq ≡ seq') × (ssrc ≡ ssrc') × (word ≡ word')
datagram_one_way bytes seq ssrc seq' ssrc' word word' d e =
    let same = sym d.spelled ∙ e.spelled in
    let at = λ (i : ℕ). ap (λ (l : List ℕ). get_or l i 0) same in
    let seqs : seq ≡ seq' = omega (arith, at 2, at 3) in
    let tss : word.ts ≡ word'.ts = omega (arith, at 4, at 5, at 6, at 7) in
    let ssrcs : ssrc ≡ ssrc' = omega (arith, at 8, at 9, at 10, at 11) in
    let lens : word.len ≡ word'.len = omega (arith, (datagram_payload bytes seq ssrc word d).1, (datagram_payload bytes seq' ssrc' word' e).1) in
    let payloads : take word.len word.bytes ≡ take word'.len word'.bytes = (datagram_payload bytes seq ssrc word d).0 ∙ sym (datagram_payload bytes seq' ssrc' word' e).0 in
    let contents : word.bytes ≡ word'.bytes = ext_get_or 0 word.bytes word'.bytes (d.media.room ∙ sym e.media.room) (λ i _. ⊎_elim
    (λ (inside : i < word.len). sym (get_or-take word.len word.bytes i 0 inside) ∙ ap (λ (l : List ℕ). get_or l i 0) payloads ∙ get_or-take word'.len word'.bytes i 0 (omega arith))
    (λ (past : word.len ≤ i). d.media.padded i past ∙ sym (e.media.padded i (omega arith)))
    (cases_lt i word.len)) in
    (seqs, ssrcs, word-ext word word' (d.media.transport ∙ sym e.media.transport) tss lens contents)

-- A media datagram's packets begin with the sync byte.
pub datagram_is_synced : (bytes : List ℕ) (seq ssrc : ℕ) (word : Word) → IsMediaDatagram bytes seq ssrc word → IsSynced bytes
datagram_is_synced bytes seq ssrc word d i lt =
    let payload : List ℕ = take word.len word.bytes in
    let front : List ℕ = 0x80 ∷ (128 * d.marker + 33) ∷ (to_be_bytes w16 seq ++ to_be_bytes w32 word.ts ++ to_be_bytes w32 ssrc) in
    let whole : bytes ≡ front ++ payload = d.spelled in
    let twelve : length front ≡ 12 = refl in
    let long : length bytes ≡ 12 + length payload = ap length whole ∙ length-append front payload in
    let inside : 188 * i < word.len = omega (arith, length-take word.len word.bytes) in
    let at : 12 + 188 * i - 12 ≡ 188 * i = omega arith in
    ap (λ (l : List ℕ). get_or l (12 + 188 * i) 0) whole
    ∙ get_or-append_right front payload 12 (12 + 188 * i) 0 twelve (omega arith)
    ∙ ap (λ (k : ℕ). get_or payload k 0) at
    ∙ get_or-take word.len word.bytes (188 * i) 0 inside
    ∙ d.media.synced i inside

-- Whole packets, each with its sync byte, make a media word.
pub transport_word-is_media : (ts k : ℕ) (payload : List ℕ) → 1 ≤ k → k ≤ 7 → length payload ≡ 188 * k →
    ((i : ℕ) → 188 * i < length payload → get_or payload (188 * i) 0 ≡ 0x47) → IsMedia (transport_word ts payload)
transport_word-is_media ts k payload some most long synced =
    let tail : List ℕ = replicate (1316 - length payload) 0 in
    record {
      transport = refl;
      packets = (k, some, most, long);
      room = length-append payload tail ∙ omega (arith, length-replicate {A = ℕ} (1316 - length payload) 0);
      synced = λ i lt. get_or_append_left payload tail 0 (188 * i) lt ∙ synced i lt;
      padded = λ i le. get_or-append_right payload tail (length payload) i 0 refl le ∙ ⊎_elim
          (λ (lt : i - length payload < 1316 - length payload). get_or-replicate (1316 - length payload) (i - length payload) 0 0 lt)
          (λ (past : 1316 - length payload ≤ i - length payload). get_or_past tail (i - length payload) 0 (omega (arith, length-replicate {A = ℕ} (1316 - length payload) 0)))
          (cases_lt (i - length payload) (1316 - length payload));
    }

-- The first byte of a plain header of version 2.
first_byte : (b : ℕ) → b / 64 ≡ 2 → eqb (b / 32 % 2) 1 ≡ false → eqb (b / 16 % 2) 1 ≡ false → b % 16 ≡ 0 → b ≡ 0x80
first_byte b v p x s =
    let no_padding = eqb-false (b / 32 % 2) 1 p in
    let no_extension = eqb-false (b / 16 % 2) 1 x in
    omega arith

second_byte : (b : ℕ) → b % 128 ≡ 33 → b ≡ 128 * (b / 128) + 33
second_byte b t = omega arith

two_fit : (a b : ℕ) → a < 256 → b < 256 → (i : ℕ) → get_or (a ∷ b ∷ []) i 0 < 256
two_fit a b p q zero = p
two_fit a b p q (suc zero) = q
two_fit a b p q (suc (suc i)) = lit< tt

four_fit : (a b c d : ℕ) → a < 256 → b < 256 → c < 256 → d < 256 → (i : ℕ) → get_or (a ∷ b ∷ c ∷ d ∷ []) i 0 < 256
four_fit a b c d p q r s zero = p
four_fit a b c d p q r s (suc zero) = q
four_fit a b c d p q r s (suc (suc zero)) = r
four_fit a b c d p q r s (suc (suc (suc zero))) = s
four_fit a b c d p q r s (suc (suc (suc (suc i)))) = lit< tt

-- Bytes that keep every rule are a media datagram, with the header's numbers and the payload's word.
pub datagram_of_rules : (bytes : List ℕ) → ((i : ℕ) → get_or bytes i 0 < 256) → HasHeader bytes → IsVersionTwo bytes → IsPlain bytes → IsTransport bytes → HasPackets bytes → IsSynced bytes →
    IsMediaDatagram bytes (header bytes).seq (header bytes).ssrc (transport_word (header bytes).ts (drop 12 bytes))
datagram_of_rules (b0 ∷ b1 ∷ b2 ∷ b3 ∷ b4 ∷ b5 ∷ b6 ∷ b7 ∷ b8 ∷ b9 ∷ b10 ∷ b11 ∷ payload) fits long two plain transport packets synced =
    let bytes : List ℕ = b0 ∷ b1 ∷ b2 ∷ b3 ∷ b4 ∷ b5 ∷ b6 ∷ b7 ∷ b8 ∷ b9 ∷ b10 ∷ b11 ∷ payload in
    let seq : ℕ = (header bytes).seq in
    let ts : ℕ = (header bytes).ts in
    let ssrc : ℕ = (header bytes).ssrc in
    let word : Word = transport_word ts payload in
    let f1 : b1 < 256 = fits 1 in
    let f2 : b2 < 256 = fits 2 in
    let f3 : b3 < 256 = fits 3 in
    let f4 : b4 < 256 = fits 4 in
    let f5 : b5 < 256 = fits 5 in
    let f6 : b6 < 256 = fits 6 in
    let f7 : b7 < 256 = fits 7 in
    let f8 : b8 < 256 = fits 8 in
    let f9 : b9 < 256 = fits 9 in
    let f10 : b10 < 256 = fits 10 in
    let f11 : b11 < 256 = fits 11 in
    let at_seq : List ℕ = b2 ∷ b3 ∷ [] in
    let at_ts : List ℕ = b4 ∷ b5 ∷ b6 ∷ b7 ∷ [] in
    let at_ssrc : List ℕ = b8 ∷ b9 ∷ b10 ∷ b11 ∷ [] in
    let spells : List ℕ → List ℕ → List ℕ → List ℕ → List ℕ = λ s t c p. 0x80 ∷ (128 * (b1 / 128) + 33) ∷ (s ++ t ++ c ++ p) in
    let seq_spelled : to_be_bytes w16 seq ≡ at_seq = be_bytes_2 at_seq seq refl (two_fit b2 b3 f2 f3) refl in
    let ts_spelled : to_be_bytes w32 ts ≡ at_ts = be_bytes_4 at_ts ts refl (four_fit b4 b5 b6 b7 f4 f5 f6 f7) refl in
    let ssrc_spelled : to_be_bytes w32 ssrc ≡ at_ssrc = be_bytes_4 at_ssrc ssrc refl (four_fit b8 b9 b10 b11 f8 f9 f10 f11) refl in
    let padded : take word.len word.bytes ≡ payload = take_at payload (replicate (1316 - length payload) 0) (length payload) refl in
    let count : ℕ = packets.0 in
    let whole : length payload ≡ 188 * count = omega (arith, packets.3) in
    record {
      marker = b1 / 128;
      marker_bit = omega arith;
      seq_size = omega arith;
      ts_size = omega arith;
      ssrc_size = omega arith;
      media = transport_word-is_media ts count payload packets.1 packets.2 whole (λ i lt.
          let at : get_or bytes (12 + 188 * i) 0 ≡ get_or payload (188 * i) 0 =
          get_or-append_right (b0 ∷ b1 ∷ b2 ∷ b3 ∷ b4 ∷ b5 ∷ b6 ∷ b7 ∷ b8 ∷ b9 ∷ b10 ∷ b11 ∷ []) payload 12 (12 + 188 * i) 0 refl (omega arith)
          ∙ ap (λ (k : ℕ). get_or payload k 0) (let e : 12 + 188 * i - 12 ≡ 188 * i = omega arith in e) in
          sym at ∙ synced i (omega arith));
      spelled =
          ap (λ (b : ℕ). b ∷ b1 ∷ (at_seq ++ at_ts ++ at_ssrc ++ payload)) (first_byte b0 two plain.0 plain.1 plain.2)
          ∙ ap (λ (b : ℕ). 0x80 ∷ b ∷ (at_seq ++ at_ts ++ at_ssrc ++ payload)) (second_byte b1 transport)
          ∙ sym (ap (λ (l : List ℕ). spells l (to_be_bytes w32 ts) (to_be_bytes w32 ssrc) (take word.len word.bytes)) seq_spelled
          ∙ ap (λ (l : List ℕ). spells at_seq l (to_be_bytes w32 ssrc) (take word.len word.bytes)) ts_spelled
          ∙ ap (λ (l : List ℕ). spells at_seq at_ts l (take word.len word.bytes)) ssrc_spelled
          ∙ ap (λ (l : List ℕ). spells at_seq at_ts at_ssrc l) padded);
    }
datagram_of_rules short fits long two plain transport packets synced = absurd (omega arith)
