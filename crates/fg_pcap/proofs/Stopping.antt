-- Where no record follows, and what the ending is there.
use Rattle.std.proofs.Common.{◌≡◌, ◌⊎◌, inl, inr, ℕ, ◌+◌, ◌<◌, ◌≤◌, Option, None, Some, List, [], ◌∷◌, ◌++◌, length, sym, ap, ◌∙◌, refl, subst, arith, length-append}
use Rattle.fg_io.specs.InputBuffer.{InputState}
use Rattle.fg_pcap.specs.declared.ending.CaptureEnding.{CaptureEnding}
use Rattle.fg_pcap.specs.declared.ending.CaptureEnding.TheVariants.{Ended, NotCapture, Cut, TooLong}
use Rattle.fg_pcap.specs.declared.file_header.ByteOrder.{ByteOrder}
use Rattle.fg_pcap.specs.Capture.{NoneFollows, KeepsTooMuch, most_kept, packet_spelling}
use Rattle.fg_pcap.specs.PacketHeader.{IsPacketHeader}
use Rattle.fg_pcap.specs.Reading.{TellsEnd, Lacks, EndsAt, EndsHere}
use Rattle.fg_pcap.proofs.Packets.{header_length, header_same, length_packet, header_of_packet, header_longer}

-- the place where there is too little for a header
none_short : (order : ByteOrder) (max place : ℕ) (bytes : List ℕ) → (max < place + 16) ⊎ (length bytes < 16) → NoneFollows order max place bytes
none_short order max place bytes (inl past) = λ p after fit e. omega (arith, past, length_packet order p)
none_short order max place bytes (inr short) = λ p after fit e. absurd (omega (arith, short, ap length e, length-append (packet_spelling order p) after, length_packet order p))

may_short : (order : ByteOrder) (max place : ℕ) (bytes : List ℕ) → (max < place + 16) ⊎ (length bytes < 16) → ¬ KeepsTooMuch order max place bytes
may_short order max place bytes (inl past) = λ k. omega (arith, past, k.within)
may_short order max place bytes (inr short) = λ k. omega (arith, short, ap length k.spelled, header_length order k.seconds k.fraction k.kept k.original k.after)

-- a header stands there, and too little behind it
none_cut : (order : ByteOrder) (max place : ℕ) (bytes : List ℕ) (s f kept o : ℕ) → IsPacketHeader order bytes s f kept o → (max < place + (16 + kept)) ⊎ (length bytes < 16 + kept) → NoneFollows order max place bytes
none_cut order max place bytes s f kept o h (inl past) = λ p after fit e. omega (arith, past, length_packet order p, header_of_packet order bytes s f kept o p after h fit e)
none_cut order max place bytes s f kept o h (inr short) = λ p after fit e.
    absurd (omega (arith, short, ap length e, length-append (packet_spelling order p) after, length_packet order p, header_of_packet order bytes s f kept o p after h fit e))

may_cut : (order : ByteOrder) (max place : ℕ) (bytes : List ℕ) (s f kept o : ℕ) → IsPacketHeader order bytes s f kept o → kept ≤ most_kept → ¬ KeepsTooMuch order max place bytes
may_cut order max place bytes s f kept o h few = λ k.
    let same = (header_same order s f kept o k.seconds k.fraction k.kept k.original h.rest k.after h.kept_fits k.fits (sym h.spelled ∙ k.spelled)).2 in
    omega (arith, few, same, k.too_much)

-- what the ending tells
empty : (bytes : List ℕ) → length bytes ≡ 0 → bytes ≡ []
empty [] e = refl
empty (b ∷ bytes) e = absurd (omega (arith, e))

ending_told : (order : ByteOrder) (end : CaptureEnding) (max place : ℕ) (held rest : List ℕ) → TellsEnd end max place (length held) (Some rest) → NoneFollows order max place (held ++ rest) → ¬ KeepsTooMuch order max place (held ++ rest)
    → EndsAt order end max place (held ++ rest)
ending_told order Ended max place held rest h none may = record {
  ending = empty (held ++ rest) (omega (arith, h.0, ap length h.1, length-append held rest));
  none = none;
}
ending_told order (Cut n) max place held rest h none may = record {
  ending = (h.0, may, omega (arith, h.2, ap length h.3, length-append held rest), λ nothing. omega (arith, h.1, ap length nothing, length-append held rest));
  none = none;
}
ending_told order (TooLong n) max place held rest h none may = record {
  ending = (h.0, may, omega (arith, h.1, length-append held rest));
  none = none;
}
ending_told order (NotCapture n) max place held rest h none may = absurd h

why_of : (max place want : ℕ) (held rest : List ℕ) → ((max < place + want) × (max < place + length held)) ⊎ ((length held < want) × (rest ≡ [])) → (max < place + want) ⊎ (length (held ++ rest) < want)
why_of max place want held rest (inl past) = inl past.0
why_of max place want held rest (inr short) = inr (omega (arith, short.0, ap length short.1, length-append held rest))

-- no header is held
pub ends_before : (order : ByteOrder) (end : CaptureEnding) (input : InputState) (left : Option (List ℕ)) → Lacks end input left 16 → EndsHere order end input left
ends_before order end input None h = tt
ends_before order end input (Some rest) h =
    let why = why_of input.max input.place 16 input.held rest h.why in
    ending_told order end input.max input.place input.held rest h.tells (none_short order input.max input.place (input.held ++ rest) why) (may_short order input.max input.place (input.held ++ rest) why)

-- a header is held that was read before more was taken in, and too little behind it
pub ends_inside : (order : ByteOrder) (end : CaptureEnding) (held : List ℕ) (s f kept o want : ℕ) (input : InputState) (left : Option (List ℕ)) (given : List ℕ) → IsPacketHeader order held s f kept o → kept ≤ most_kept → want ≡ 16 + kept
    → input.held ≡ held ++ given → Lacks end input left want → EndsHere order end input left
ends_inside order end held s f kept o want input None given read few is grown h = tt
ends_inside order end held s f kept o want input (Some rest) given read few is grown h =
    let now : IsPacketHeader order input.held s f kept o = subst (λ t. IsPacketHeader order t s f kept o) (sym grown) (header_longer order held given s f kept o read) in
    let longer = header_longer order input.held rest s f kept o now in
    let why = why_of input.max input.place (16 + kept) input.held rest (subst (λ n. ((input.max < input.place + n) × (input.max < input.place + length input.held)) ⊎ ((length input.held < n) × (rest ≡ []))) is h.why) in
    ending_told order end input.max input.place input.held rest h.tells (none_cut order input.max input.place (input.held ++ rest) s f kept o longer why) (may_cut order input.max input.place (input.held ++ rest) s f kept o longer few)

-- the header that is held keeps too much
pub ends_at_header : (order : ByteOrder) (n : ℕ) (s f kept o : ℕ) (input : InputState) (left : Option (List ℕ)) → IsPacketHeader order input.held s f kept o → most_kept < kept → n ≡ input.place → input.place + 16 ≤ input.max
    → EndsHere order (NotCapture n) input left
ends_at_header order n s f kept o input None read much is within = tt
ends_at_header order n s f kept o input (Some rest) read much is within =
    let longer = header_longer order input.held rest s f kept o read in
    record {
      ending = (
        is,
        record { seconds = s; fraction = f; kept = kept; original = o; after = longer.rest; spelled = longer.spelled; within = within; fits = longer.kept_fits; too_much = much },
      );
      none = λ p after fit e. absurd (omega (arith, much, fit.kept, header_of_packet order (input.held ++ rest) s f kept o p after longer fit e));
    }
