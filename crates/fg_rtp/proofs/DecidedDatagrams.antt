-- Bytes are a media datagram, or they are none.
use Rattle.std.proofs.Common.{◌≡◌, ◌+◌, ◌-◌, ◌*◌, ◌^◌, ◌<◌, ℕ, List, ◌∷◌, ◌++◌, length, replicate, drop, inl, inr, refl, sym, ap, ◌∙◌, ⊎_elim, arith}
use Rattle.std.specs.Int.{to_be_bytes, w16, w32}
use Rattle.std.proofs.lemmas.List.{get_or-drop, length-drop, take_at}
use Rattle.fg_words.specs.declared.Word.{Word}
use Rattle.fg_words.specs.Word.{IsMedia, transport_word}
use Rattle.fg_words.proofs.DecisionLemmas.{IsDecided, decided_both, decided_somewhere, decided_numbers, decided_media}
use Rattle.fg_rtp.specs.MediaDatagram.{IsMediaDatagram, payload_of}
use Rattle.fg_rtp.specs.Laws.{MediaIsDecided}
use Rattle.fg_rtp.proofs.DatagramLemmas.{datagram_payload, datagram_is_synced, transport_word-is_media}

module _ (bytes : List ℕ) where
  -- The word that the payload makes with a timestamp.
  abbrev word_at : ℕ → Word
  word_at ts = transport_word ts (drop 12 bytes)

  abbrev spelling : ℕ → ℕ → ℕ → ℕ → List ℕ → List ℕ
  spelling seq ssrc ts marker payload =
      0x80 ∷ (128 * marker + 33) ∷ (to_be_bytes w16 seq ++ to_be_bytes w32 ts ++ to_be_bytes w32 ssrc ++ payload)

  abbrev WithMarker : ℕ → ℕ → ℕ → ℕ → Type 0
  WithMarker seq ssrc ts marker = IsMedia (word_at ts) × (bytes ≡ spelling seq ssrc ts marker (payload_of (word_at ts)))

  abbrev WithTime : ℕ → ℕ → ℕ → Type 0
  WithTime seq ssrc ts = (marker : ℕ) × (marker < 2) × WithMarker seq ssrc ts marker

  abbrev WithSource : ℕ → ℕ → Type 0
  WithSource seq ssrc = (ts : ℕ) × (ts < 2 ^ 32) × WithTime seq ssrc ts

  abbrev WithNumber : ℕ → Type 0
  WithNumber seq = (ssrc : ℕ) × (ssrc < 2 ^ 32) × WithSource seq ssrc

  abbrev IsRead : Type 0
  IsRead = (seq : ℕ) × (seq < 2 ^ 16) × WithNumber seq

  -- There are only so many numbers.
  decided_read : IsDecided IsRead
  decided_read =
      decided_somewhere WithNumber (λ seq.
      decided_somewhere (WithSource seq) (λ ssrc.
      decided_somewhere (WithTime seq ssrc) (λ ts.
      decided_somewhere (WithMarker seq ssrc ts) (λ marker.
      decided_both (IsMedia (word_at ts)) (bytes ≡ spelling seq ssrc ts marker (payload_of (word_at ts)))
      (decided_media (word_at ts)) (decided_numbers bytes (spelling seq ssrc ts marker (payload_of (word_at ts)))))
      2)
      (2 ^ 32))
      (2 ^ 32))
      (2 ^ 16)

  abbrev Datagram : Type 0
  Datagram = (seq : ℕ) × (ssrc : ℕ) × (word : Word) × IsMediaDatagram bytes seq ssrc word

  datagram_from_read : IsRead → Datagram
  datagram_from_read r =
      let s = r.2 in
      let t = s.2 in
      let m = t.2 in (
        r.0,
        s.0,
        word_at t.0,
        record {
          marker = m.0;
          marker_bit = m.1;
          seq_size = r.1;
          ts_size = t.1;
          ssrc_size = s.1;
          media = m.2.0;
          spelled = m.2.1;
        },
      )

  -- The payload makes the datagram's word.
  read_from_datagram : (seq ssrc : ℕ) (word : Word) → IsMediaDatagram bytes seq ssrc word → IsRead
  read_from_datagram seq ssrc word d =
      let payload = datagram_payload bytes seq ssrc word d in
      let packets = d.media.packets in
      let long : length (drop 12 bytes) ≡ 188 * packets.0 = omega (arith, length-drop 12 bytes, payload.1, packets.3) in
      let media : IsMedia (word_at word.ts) = transport_word-is_media word.ts packets.0 (drop 12 bytes) packets.1 packets.2 long
      (λ i less.
      get_or-drop 12 bytes (188 * i) 0
      ∙ datagram_is_synced bytes seq ssrc word d i (omega (arith, less, length-drop 12 bytes))) in
      let same : payload_of word ≡ payload_of (word_at word.ts) =
      payload.0 ∙ sym (take_at (drop 12 bytes) (replicate (1316 - length (drop 12 bytes)) 0) (length (drop 12 bytes)) refl) in (
        seq,
        d.seq_size,
        (
          ssrc,
          d.ssrc_size,
          (
            word.ts,
            d.ts_size,
            (
              d.marker,
              d.marker_bit,
              (media, d.spelled ∙ ap (λ (l : List ℕ). spelling seq ssrc word.ts d.marker l) same),
            ),
          ),
        ),
      )

pub media_is_decided : MediaIsDecided
media_is_decided bytes = ⊎_elim
    (λ read. inl (datagram_from_read bytes read))
    (λ none. inr (λ seq ssrc word d. none (read_from_datagram bytes seq ssrc word d)))
    (decided_read bytes)
