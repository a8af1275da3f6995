-- Where the reading of a capture stands, as bytes are taken in and passed.
use Rattle.std.proofs.Common.{◌≡◌, inl, inr, ℕ, ◌+◌, ◌<◌, ◌≤◌, Bool, Option, None, Some, IfSome, List, [], ◌∷◌, ◌++◌, length, take, drop, sym, ap, ◌∙◌, refl, subst, arith, append_assoc, append-nil, length-append}
use Rattle.std.specs.Io.KnownBytes.{IsAtEnd}
use Rattle.std.proofs.lemmas.List.{take-append-drop, take-append-le, drop-drop, length-take-le, length-drop}
use Rattle.fg_io.specs.InputBuffer.{InputState, TakesMore}
use Rattle.fg_io.specs.Source.{Gives}
use Rattle.fg_io.proofs.SourceLemmas.{Gives-trans, Gives-told, Gives-all}
use Rattle.fg_trace.proofs.Records.{same_front}
use Rattle.fg_pcap.specs.declared.ending.CaptureEnding.TheVariants.{NotCapture, TooLong}
use Rattle.fg_pcap.specs.declared.file_header.ByteOrder.{ByteOrder}
use Rattle.fg_pcap.specs.declared.file_header.Format.{Format}
use Rattle.fg_pcap.specs.declared.packet_header.PacketHeader.{PacketHeader}
use Rattle.fg_pcap.specs.Capture.{Packet, Fits, IsFileHeader, IsRefused, BreaksAt, Begins, packet_spelling, header_spelling, spelling_of}
use Rattle.fg_pcap.specs.Reading.{HasRead, StandsAfter, HoldsPacket}
use Rattle.fg_pcap.proofs.Packets.{header_length, length_packet, packet_by_header, spelled_more, all_fit_more}

-- a buffer after bytes were taken in, and after some were passed
abbrev pub takes_in : InputState → List ℕ → Bool → InputState
takes_in input held ended = record input { held = held; ended = ended }

abbrev pub passes : InputState → ℕ → InputState
passes input count = record input { place = input.place + count; held = drop count input.held }

-- What was read

pub read_start : (old new : InputState) (first now : Option (List ℕ)) → old.place ≡ 0 → old.held ≡ [] → TakesMore old.held first new.held now → new ≡ takes_in old new.held new.ended → HasRead new first now
read_start old new first now start none takes same = record {
  read = takes.given;
  gives = takes.gives;
  size = omega (arith, start, ap (λ (t : InputState). t.place) same, ap length takes.grown, ap length none, length-append old.held takes.given);
}

pub read_more : (old new : InputState) (first left now : Option (List ℕ)) → TakesMore old.held left new.held now → new ≡ takes_in old new.held new.ended → HasRead old first left → HasRead new first now
read_more old new first left now takes same h = record {
  read = h.read ++ takes.given;
  gives = Gives-trans first left now h.read takes.given h.gives takes.gives;
  size = omega (arith, h.size, ap (λ (t : InputState). t.place) same, ap length takes.grown, length-append h.read takes.given, length-append old.held takes.given);
}

pub read_passed : (old new : InputState) (count : ℕ) (first now : Option (List ℕ)) → count ≤ length old.held → new ≡ passes old count → HasRead old first now → HasRead new first now
read_passed old new count first now held same h = record {
  read = h.read;
  gives = h.gives;
  size = omega (arith, h.size, held, ap (λ (t : InputState). t.place) same, ap (λ (t : InputState). length t.held) same, length-drop count old.held);
}

pub bounded_passed : (old new : InputState) (count : ℕ) → count ≤ length old.held → new ≡ passes old count → old.place + length old.held ≤ old.max + 1 → new.place + length new.held ≤ new.max + 1
bounded_passed old new count held same few =
    omega (arith, few, held, ap (λ (t : InputState). t.place) same, ap (λ (t : InputState). t.max) same, ap (λ (t : InputState). length t.held) same, length-drop count old.held)

-- The file header

pub given_at_start : (old : InputState) (held : List ℕ) (first now : Option (List ℕ)) → old.held ≡ [] → TakesMore old.held first held now → Gives first held now
given_at_start old held first now none takes = subst (λ t. Gives first t now) (sym (takes.grown ∙ ap (λ t. t ++ takes.given) none)) takes.gives

pub stands_first : (format : Format) (old filled new : InputState) (first now : Option (List ℕ)) → old.place ≡ 0 → old.held ≡ [] → TakesMore old.held first filled.held now → filled ≡ takes_in old filled.held filled.ended
    → 24 ≤ length filled.held → filled.place + 24 ≤ filled.max → new ≡ passes filled 24 → IsFileHeader format.order format.unit (take 24 filled.held) → StandsAfter format new first now []
stands_first format old filled new first now start none takes same enough within step is =
    let split : filled.held ≡ take 24 filled.held ++ ([] ++ new.held) = sym (take-append-drop 24 filled.held) ∙ ap (λ (t : InputState). take 24 filled.held ++ t.held) (sym step) in
    record {
      header = take 24 filled.held;
      is_header = is;
      fit = tt;
      place = omega (arith, start, ap (λ (t : InputState). t.place) same, ap (λ (t : InputState). t.place) step);
      within = omega (arith, within, ap (λ (t : InputState). t.place) step, ap (λ (t : InputState). t.max) step);
      given = subst (λ t. Gives first t now) split (given_at_start old filled.held first now none takes);
    }

pub refuses_field : (max n : ℕ) (held : List ℕ) (first now : Option (List ℕ)) → Gives first held now → 24 ≤ length held → 24 ≤ max → BreaksAt (take 24 held) n → IfSome first (λ bytes. IsRefused bytes max (NotCapture n))
refuses_field max n held None now gives enough limit breaks = tt
refuses_field max n held (Some bytes) now gives enough limit breaks =
    let told = Gives-told (Some bytes) now held bytes gives refl in
    let front : take 24 held ≡ take 24 bytes = sym (ap (take 24) told.2 ∙ take-append-le 24 held told.0 enough) in
    inr (limit, omega (arith, enough, ap length told.2, length-append held told.0), subst (λ t. BreaksAt t n) front breaks)

pub refuses_short : (max n : ℕ) (held : List ℕ) (first now : Option (List ℕ)) → Gives first held now → IsAtEnd now → n ≡ length held → length held < 24 → length held ≤ max → IfSome first (λ bytes. IsRefused bytes max (NotCapture n))
refuses_short max n held None now gives end is few within = tt
refuses_short max n held (Some bytes) now gives end is few within =
    let all : bytes ≡ held = Gives-all (Some bytes) now held gives end in
    inl (is ∙ ap length (sym all), omega (arith, within, ap length all), omega (arith, few, ap length all))

pub refuses_long : (max : ℕ) (held : List ℕ) (first now : Option (List ℕ)) → Gives first held now → max < 24 → max < length held → IfSome first (λ bytes. IsRefused bytes max (TooLong 0))
refuses_long max held None now gives less past = tt
refuses_long max held (Some bytes) now gives less past =
    let told = Gives-told (Some bytes) now held bytes gives refl in
    (refl, less, omega (arith, past, ap length told.2, length-append held told.0))

-- The records

pub stands_taking : (format : Format) (old new : InputState) (first left now : Option (List ℕ)) (packets : List Packet) → TakesMore old.held left new.held now → new ≡ takes_in old new.held new.ended → StandsAfter format old first left packets → StandsAfter format new first now packets
stands_taking format old new first left now packets takes same h =
    let body : List ℕ = spelling_of format.order packets in
    let longer : Gives first ((h.header ++ (body ++ old.held)) ++ takes.given) now = Gives-trans first left now (h.header ++ (body ++ old.held)) takes.given h.given takes.gives in
    let whole : (h.header ++ (body ++ old.held)) ++ takes.given ≡ h.header ++ (body ++ new.held) =
    append_assoc h.header (body ++ old.held) takes.given ∙ ap (λ t. h.header ++ t) (append_assoc body old.held takes.given ∙ ap (λ t. body ++ t) (sym takes.grown)) in
    record {
      header = h.header;
      is_header = h.is_header;
      fit = h.fit;
      place = ap (λ (t : InputState). t.place) same ∙ h.place;
      within = omega (arith, h.within, ap (λ (t : InputState). t.place) same, ap (λ (t : InputState). t.max) same);
      given = subst (λ t. Gives first t now) whole longer;
    }

drop_front : (front rest : List ℕ) (n : ℕ) → length front ≡ n → drop n (front ++ rest) ≡ rest
drop_front front rest n is = (same_front (take n (front ++ rest)) front _ _ (length-take-le n (front ++ rest) (omega (arith, is, length-append front rest)) ∙ sym is) (take-append-drop n (front ++ rest))).1

-- the record at the front
abbrev pub packet_at : PacketHeader → List ℕ → Packet
packet_at header held = record { seconds = header.seconds; fraction = header.fraction; original = header.original; bytes = take header.kept (drop 16 held) }

pub front_packet : (order : ByteOrder) (input : InputState) (header : PacketHeader) → HoldsPacket order input header
    → Fits (packet_at header input.held) × (length (packet_at header input.held).bytes ≡ header.kept) × (input.held ≡ packet_spelling order (packet_at header input.held) ++ drop (16 + header.kept) input.held)
front_packet order input header h =
    let spelled : List ℕ = header_spelling order header.seconds header.fraction header.kept header.original in
    let sixteen : length spelled ≡ 16 = omega (arith, header_length order header.seconds header.fraction header.kept header.original [], ap length (append-nil spelled)) in
    let long : length input.held ≡ 16 + length h.is_header.rest = omega (arith, ap length h.is_header.spelled, length-append spelled h.is_header.rest, sixteen) in
    let behind : drop 16 input.held ≡ h.is_header.rest = ap (drop 16) h.is_header.spelled ∙ drop_front spelled h.is_header.rest 16 sixteen in
    let kept : List ℕ = take header.kept (drop 16 input.held) in
    let counted : length kept ≡ header.kept = length-take-le header.kept (drop 16 input.held) (omega (arith, h.whole, long, ap length behind)) in
    let split : drop 16 input.held ≡ kept ++ drop (16 + header.kept) input.held =
    sym (take-append-drop header.kept (drop 16 input.held)) ∙ ap (λ t. kept ++ t) (drop-drop header.kept 16 input.held) in (
      record { seconds = h.is_header.seconds_fit; fraction = h.is_header.fraction_fits; original = h.is_header.original_fits; kept = omega (arith, counted, h.may) },
      counted,
      h.is_header.spelled ∙ ap (λ t. spelled ++ t) (sym behind ∙ split)
          ∙ ap (λ n. header_spelling order header.seconds header.fraction n header.original ++ (kept ++ drop (16 + header.kept) input.held)) (sym counted)
          ∙ sym (packet_by_header order (packet_at header input.held) (drop (16 + header.kept) input.held)),
    )

pub stands_more : (format : Format) (old new : InputState) (header : PacketHeader) (first now : Option (List ℕ)) (packets : List Packet) → HoldsPacket format.order old header → new ≡ passes old (16 + header.kept)
    → StandsAfter format old first now packets → StandsAfter format new first now (packets ++ packet_at header old.held ∷ [])
stands_more format old new header first now packets k step h =
    let p : Packet = packet_at header old.held in
    let front = front_packet format.order old header k in
    let body : List ℕ = spelling_of format.order packets in
    let one : List ℕ = packet_spelling format.order p in
    let longer : spelling_of format.order (packets ++ p ∷ []) ≡ body ++ one = spelled_more format.order packets p [] ∙ ap (λ t. body ++ t) (append-nil one) in
    let held : old.held ≡ one ++ new.held = front.2 ∙ ap (λ (t : InputState). one ++ t.held) (sym step) in
    let split : h.header ++ (body ++ old.held) ≡ h.header ++ (spelling_of format.order (packets ++ p ∷ []) ++ new.held) =
    ap (λ t. h.header ++ t) (ap (λ t. body ++ t) held ∙ sym (append_assoc body one new.held) ∙ ap (λ t. t ++ new.held) (sym longer)) in
    record {
      header = h.header;
      is_header = h.is_header;
      fit = all_fit_more packets p h.fit front.0;
      place = omega (arith, h.place, ap (λ (t : InputState). t.place) step, front.1, length_packet format.order p, ap length longer, length-append body one);
      within = omega (arith, k.within, ap (λ (t : InputState). t.place) step, ap (λ (t : InputState). t.max) step);
      given = subst (λ t. Gives first t now) split h.given;
    }

-- the records that the buffer stands behind begin the bytes
pub stands_begin : (format : Format) (input : InputState) (bytes : List ℕ) (now : Option (List ℕ)) (packets : List Packet) → StandsAfter format input (Some bytes) now packets
    → (rest : List ℕ) × (now ≡ Some rest) × Begins bytes input.max format.order format.unit packets (input.held ++ rest)
stands_begin format input bytes now packets h =
    let body : List ℕ = spelling_of format.order packets in
    let told = Gives-told (Some bytes) now (h.header ++ (body ++ input.held)) bytes h.given refl in (
      told.0,
      told.1,
      record {
        header = h.header;
        is_header = h.is_header;
        fit = h.fit;
        within = omega (arith, h.place, h.within);
        spelled = told.2 ∙ append_assoc h.header (body ++ input.held) told.0 ∙ ap (λ t. h.header ++ t) (append_assoc body input.held told.0);
      },
    )
