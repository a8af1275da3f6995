-- A capture has one list of records and one ending, and so comes to one trace.
use Rattle.std.proofs.Common.{◌≡◌, ◌⊎◌, inl, inr, ℕ, ◌+◌, ◌≤◌, Option, None, Some, IfSome, List, [], ◌∷◌, ◌++◌, length, map, take, get_or, sym, ap, ◌∙◌, refl, subst, arith, append_assoc, append-nil, length-append}
use Rattle.std.specs.List.{flat_map, AllByRecursion}
use Rattle.std.proofs.lemmas.List.{map-append, take-append-le, take_all}
use Rattle.fg_io.specs.InputBuffer.{InputState}
use Rattle.fg_io.specs.Sink.{GainsPart}
use Rattle.fg_io.proofs.SinkLemmas.{Gains-nil, GainsPart-nil, GainsPart-longer}
use Rattle.fg_trace.specs.Trace.{Record, spelling, trace_of}
use Rattle.fg_trace.proofs.Records.{same_front}
use Rattle.fg_pcap.specs.declared.ending.CaptureEnding.{CaptureEnding}
use Rattle.fg_pcap.specs.declared.ending.CaptureEnding.TheVariants.{Ended, NotCapture, Cut, TooLong}
use Rattle.fg_pcap.specs.declared.file_header.ByteOrder.{ByteOrder}
use Rattle.fg_pcap.specs.declared.file_header.ByteOrder.TheVariants.{HighestFirst, LowestFirst}
use Rattle.fg_pcap.specs.declared.file_header.Format.{Format}
use Rattle.fg_pcap.specs.declared.file_header.TimeUnit.{TimeUnit}
use Rattle.fg_pcap.specs.declared.file_header.TimeUnit.TheVariants.{Microseconds, Nanoseconds}
use Rattle.fg_pcap.specs.Capture.{Packet, Fits, Frame, HasMagic, HasVersion, IsEthernet, IsFileHeader, BreaksAt, Begins, IsLongest, NoneFollows, KeepsTooMuch, IsEnding, IsRefused, four_bytes, magic, frame_of, packet_spelling, spelling_of, place_after}
use Rattle.fg_pcap.specs.Frame.{IsDatagramsOf, CapturedTrace}
use Rattle.fg_pcap.specs.FromCapture.{ComesTo, Converts, ConvertsPart}
use Rattle.fg_pcap.specs.Laws.{OneCapture}
use Rattle.fg_pcap.specs.Reading.{HasPart, StandsAfter}
use Rattle.fg_pcap.proofs.Datagrams.{datagrams_front, one_list}
use Rattle.fg_pcap.proofs.Packets.{header_length, one_packet, spelled_more}
use Rattle.fg_pcap.proofs.Standing.{stands_begin}
use Rattle.fg_trace.proofs.Traces.{trace_more}

-- The file header

-- bytes at one place tell two spellings apart
apart : (a b : List ℕ) (i m n : ℕ) → get_or a i 0 ≡ m → get_or b i 0 ≡ n → (m ≡ n → ⊥) → a ≡ b → ⊥
apart a b i m n e f other same = other (sym e ∙ ap (λ (t : List ℕ). get_or t i 0) same ∙ f)

spelled_apart : (o o' : ByteOrder) (u u' : TimeUnit) → four_bytes o (magic u) ≡ four_bytes o' (magic u') → (o ≡ o') × (u ≡ u')
spelled_apart HighestFirst HighestFirst Microseconds Microseconds e = (refl, refl)
spelled_apart HighestFirst HighestFirst Microseconds Nanoseconds e = absurd (apart _ _ 2 0xc3 0x3c refl refl (λ same. omega (arith, same)) e)
spelled_apart HighestFirst HighestFirst Nanoseconds Microseconds e = absurd (apart _ _ 2 0x3c 0xc3 refl refl (λ same. omega (arith, same)) e)
spelled_apart HighestFirst HighestFirst Nanoseconds Nanoseconds e = (refl, refl)
spelled_apart HighestFirst LowestFirst Microseconds Microseconds e = absurd (apart _ _ 0 0xa1 0xd4 refl refl (λ same. omega (arith, same)) e)
spelled_apart HighestFirst LowestFirst Microseconds Nanoseconds e = absurd (apart _ _ 0 0xa1 0x4d refl refl (λ same. omega (arith, same)) e)
spelled_apart HighestFirst LowestFirst Nanoseconds Microseconds e = absurd (apart _ _ 0 0xa1 0xd4 refl refl (λ same. omega (arith, same)) e)
spelled_apart HighestFirst LowestFirst Nanoseconds Nanoseconds e = absurd (apart _ _ 0 0xa1 0x4d refl refl (λ same. omega (arith, same)) e)
spelled_apart LowestFirst HighestFirst Microseconds Microseconds e = absurd (apart _ _ 0 0xd4 0xa1 refl refl (λ same. omega (arith, same)) e)
spelled_apart LowestFirst HighestFirst Microseconds Nanoseconds e = absurd (apart _ _ 0 0xd4 0xa1 refl refl (λ same. omega (arith, same)) e)
spelled_apart LowestFirst HighestFirst Nanoseconds Microseconds e = absurd (apart _ _ 0 0x4d 0xa1 refl refl (λ same. omega (arith, same)) e)
spelled_apart LowestFirst HighestFirst Nanoseconds Nanoseconds e = absurd (apart _ _ 0 0x4d 0xa1 refl refl (λ same. omega (arith, same)) e)
spelled_apart LowestFirst LowestFirst Microseconds Microseconds e = (refl, refl)
spelled_apart LowestFirst LowestFirst Microseconds Nanoseconds e = absurd (apart _ _ 0 0xd4 0x4d refl refl (λ same. omega (arith, same)) e)
spelled_apart LowestFirst LowestFirst Nanoseconds Microseconds e = absurd (apart _ _ 0 0x4d 0xd4 refl refl (λ same. omega (arith, same)) e)
spelled_apart LowestFirst LowestFirst Nanoseconds Nanoseconds e = (refl, refl)

one_magic : (o o' : ByteOrder) (u u' : TimeUnit) (header : List ℕ) → HasMagic o u header → HasMagic o' u' header → (o ≡ o') × (u ≡ u')
one_magic o o' u u' header h k = spelled_apart o o' u u' (sym h ∙ k)

later : (header : List ℕ) (m n : ℕ) (o o' : ByteOrder) → o ≡ o' → ((m ≡ 4) × (¬ HasVersion o header)) ⊎ ((m ≡ 20) × HasVersion o header × (¬ IsEthernet o header))
    → ((n ≡ 4) × (¬ HasVersion o' header)) ⊎ ((n ≡ 20) × HasVersion o' header × (¬ IsEthernet o' header)) → m ≡ n
later header m n o o' same (inl h) (inl k) = h.0 ∙ sym k.0
later header m n o o' same (inl h) (inr k) = absurd (h.1 (subst (λ (t : ByteOrder). HasVersion t header) (sym same) k.1))
later header m n o o' same (inr h) (inl k) = absurd (k.1 (subst (λ (t : ByteOrder). HasVersion t header) same h.1))
later header m n o o' same (inr h) (inr k) = h.0 ∙ sym k.0

-- one field is the first that is wrong
one_break : (header : List ℕ) (m n : ℕ) → BreaksAt header m → BreaksAt header n → m ≡ n
one_break header m n (inl h) (inl k) = h.0 ∙ sym k.0
one_break header m n (inl h) (inr k) = absurd (h.1 k.0 k.1 k.2)
one_break header m n (inr h) (inl k) = absurd (k.1 h.0 h.1 h.2)
one_break header m n (inr h) (inr k) = later header m n h.0 k.0 (one_magic h.0 k.0 h.1 k.1 header h.2 k.2).0 h.3 k.3

field_holds : (o o' : ByteOrder) (header : List ℕ) (n : ℕ) → o ≡ o' → HasVersion o header → IsEthernet o header → ((n ≡ 4) × (¬ HasVersion o' header)) ⊎ ((n ≡ 20) × HasVersion o' header × (¬ IsEthernet o' header)) → ⊥
field_holds o o' header n same version link (inl k) = k.1 (subst (λ (t : ByteOrder). HasVersion t header) same version)
field_holds o o' header n same version link (inr k) = k.2 (subst (λ (t : ByteOrder). IsEthernet t header) same link)

-- a file header has no field that is wrong
header_holds : (order : ByteOrder) (unit : TimeUnit) (header : List ℕ) (n : ℕ) → IsFileHeader order unit header → BreaksAt header n → ⊥
header_holds order unit header n h (inl k) = k.1 order unit h.magic_is
header_holds order unit header n h (inr k) = field_holds order k.0 header n (one_magic order k.0 unit k.1 header h.magic_is k.2).0 h.version_is h.link_is k.3

-- the bytes that begin with a file header
front_is : (bytes : List ℕ) (max : ℕ) (order : ByteOrder) (unit : TimeUnit) (packets : List Packet) (rest : List ℕ) → (b : Begins bytes max order unit packets rest) → b.header ≡ take 24 bytes
front_is bytes max order unit packets rest b =
    sym (ap (take 24) b.spelled ∙ take-append-le 24 b.header (spelling_of order packets ++ rest) (omega (arith, b.is_header.size)) ∙ take_all 24 b.header (omega (arith, b.is_header.size)))

-- they aren't refused
pub never_refused : (bytes : List ℕ) (max : ℕ) (order : ByteOrder) (unit : TimeUnit) (packets : List Packet) (rest : List ℕ) (end : CaptureEnding) → Begins bytes max order unit packets rest → IsRefused bytes max end → ⊥
never_refused bytes max order unit packets rest Ended b h = h
never_refused bytes max order unit packets rest (Cut n) b h = h
never_refused bytes max order unit packets rest (TooLong n) b h = omega (arith, h.1, b.within)
never_refused bytes max order unit packets rest (NotCapture n) b (inl h) = omega (arith, h.2, ap length b.spelled, length-append b.header (spelling_of order packets ++ rest), b.is_header.size)
never_refused bytes max order unit packets rest (NotCapture n) b (inr h) = header_holds order unit b.header n b.is_header (subst (λ t. BreaksAt t n) (sym (front_is bytes max order unit packets rest b)) h.2)

one_refusal : (bytes : List ℕ) (max : ℕ) (one other : CaptureEnding) → IsRefused bytes max one → IsRefused bytes max other → one ≡ other
one_refusal bytes max Ended other h k = absurd h
one_refusal bytes max (Cut n) other h k = absurd h
one_refusal bytes max (TooLong m) Ended h k = absurd k
one_refusal bytes max (TooLong m) (Cut n) h k = absurd k
one_refusal bytes max (TooLong m) (TooLong n) h k = ap TooLong (h.0 ∙ sym k.0)
one_refusal bytes max (TooLong m) (NotCapture n) h (inl k) = absurd (omega (arith, h.2, k.1))
one_refusal bytes max (TooLong m) (NotCapture n) h (inr k) = absurd (omega (arith, h.1, k.0))
one_refusal bytes max (NotCapture m) Ended h k = absurd k
one_refusal bytes max (NotCapture m) (Cut n) h k = absurd k
one_refusal bytes max (NotCapture m) (TooLong n) (inl h) k = absurd (omega (arith, k.2, h.1))
one_refusal bytes max (NotCapture m) (TooLong n) (inr h) k = absurd (omega (arith, k.1, h.0))
one_refusal bytes max (NotCapture m) (NotCapture n) (inl h) (inl k) = ap NotCapture (h.0 ∙ sym k.0)
one_refusal bytes max (NotCapture m) (NotCapture n) (inl h) (inr k) = absurd (omega (arith, h.2, k.1))
one_refusal bytes max (NotCapture m) (NotCapture n) (inr h) (inl k) = absurd (omega (arith, k.2, h.1))
one_refusal bytes max (NotCapture m) (NotCapture n) (inr h) (inr k) = ap NotCapture (one_break (take 24 bytes) m n h.2 k.2)

-- The records

-- one of two fronts goes on from the other
fronts : (order : ByteOrder) (p q : List Packet) (xs ys : List ℕ) → AllByRecursion Fits p → AllByRecursion Fits q → spelling_of order p ++ xs ≡ spelling_of order q ++ ys
    → ((tail : List Packet) × (p ≡ q ++ tail) × (ys ≡ spelling_of order tail ++ xs) × AllByRecursion Fits tail) ⊎ ((tail : List Packet) × (q ≡ p ++ tail) × (xs ≡ spelling_of order tail ++ ys) × AllByRecursion Fits tail)
fronts order p [] xs ys fp fq e = inl (p, refl, sym e, fp)
fronts order [] (r ∷ q) xs ys fp fq e = inr (r ∷ q, refl, e, fq)
fronts order (s ∷ p) (r ∷ q) xs ys fp fq e =
    let same = one_packet order s r (spelling_of order p ++ xs) (spelling_of order q ++ ys) fp.0 fq.0
    (sym (append_assoc (packet_spelling order s) (spelling_of order p) xs) ∙ e ∙ append_assoc (packet_spelling order r) (spelling_of order q) ys) in
    elim (fronts order p q xs ys fp.1 fq.1 same.1) [
      | inl w ↦ inl (w.0, ap (λ t. s ∷ t) w.1 ∙ ap (λ t. t ∷ (q ++ w.0)) same.0, w.2, w.3)
      | inr w ↦ inr (w.0, ap (λ t. r ∷ t) w.1 ∙ ap (λ t. t ∷ (p ++ w.0)) (sym same.0), w.2, w.3)
    ]

-- the longest list begins with each that begins the bytes
goes_on : (order : ByteOrder) (max : ℕ) (p q tail : List Packet) (xs ys : List ℕ) → NoneFollows order max (place_after order q) ys → place_after order p ≤ max → p ≡ q ++ tail → ys ≡ spelling_of order tail ++ xs → AllByRecursion Fits tail → (p ≡ q) × (xs ≡ ys)
goes_on order max p q [] xs ys none within e f fit = (e ∙ append-nil q, sym f)
goes_on order max p q (r ∷ tail) xs ys none within e f fit =
    let past = none r (spelling_of order tail ++ xs) fit.0 (f ∙ append_assoc (packet_spelling order r) (spelling_of order tail) xs) in
    let longer : length (spelling_of order p) ≡ length (spelling_of order q) + (length (packet_spelling order r) + length (spelling_of order tail)) =
    ap (λ t. length (spelling_of order t)) e ∙ ap length (spelled_more order q r tail) ∙ length-append (spelling_of order q) (packet_spelling order r ++ spelling_of order tail)
    ∙ ap (λ n. length (spelling_of order q) + n) (length-append (packet_spelling order r) (spelling_of order tail)) in
    absurd (omega (arith, past, within, longer))

pub begins_longest : (bytes : List ℕ) (max : ℕ) (o o' : ByteOrder) (u u' : TimeUnit) (p q : List Packet) (xs ys : List ℕ) → Begins bytes max o u p xs → IsLongest bytes max o' u' q ys → (o ≡ o') × (u ≡ u') × ((tail : List Packet) × (q ≡ p ++ tail) × (xs ≡ spelling_of o tail ++ ys))
begins_longest bytes max o o' u u' p q xs ys b k =
    let header : b.header ≡ k.begins.header = front_is bytes max o u p xs b ∙ sym (front_is bytes max o' u' q ys k.begins) in
    let same = one_magic o o' u u' b.header b.is_header.magic_is (subst (λ t. HasMagic o' u' t) (sym header) k.begins.is_header.magic_is) in
    let bodies = (same_front b.header k.begins.header _ _ (ap length header) (sym b.spelled ∙ k.begins.spelled)).1 in
    let bodies' : spelling_of o p ++ xs ≡ spelling_of o q ++ ys = bodies ∙ ap (λ (t : ByteOrder). spelling_of t q ++ ys) (sym same.0) in
    let none : NoneFollows o max (place_after o q) ys = subst (λ (t : ByteOrder). NoneFollows t max (place_after t q) ys) (sym same.0) k.none in (
      same.0,
      same.1,
      elim (fronts o p q xs ys b.fit k.begins.fit bodies') [
        | inl w ↦ let one = goes_on o max p q w.0 xs ys none b.within w.1 w.2 w.3 in ([], sym one.0 ∙ sym (append-nil p), one.1)
        | inr w ↦ (w.0, w.1, w.2)
      ],
    )

no_tail : (order : ByteOrder) (p q tail other : List Packet) (xs ys : List ℕ) → q ≡ p ++ tail → xs ≡ spelling_of order tail ++ ys → p ≡ q ++ other → (p ≡ q) × (xs ≡ ys)
no_tail order p q [] other xs ys e f back = (sym (e ∙ append-nil p), f)
no_tail order p q (r ∷ tail) other xs ys e f back = absurd (omega (arith, ap length e, ap length back, length-append p (r ∷ tail), length-append q other))

one_longest : (bytes : List ℕ) (max : ℕ) (o o' : ByteOrder) (u u' : TimeUnit) (p q : List Packet) (xs ys : List ℕ) → IsLongest bytes max o u p xs → IsLongest bytes max o' u' q ys → (o ≡ o') × (u ≡ u') × (p ≡ q) × (xs ≡ ys)
one_longest bytes max o o' u u' p q xs ys h k =
    let there = begins_longest bytes max o o' u u' p q xs ys h.begins k in
    let back = begins_longest bytes max o' o u' u q p ys xs k.begins h in
    let same = no_tail o p q there.2.0 back.2.0 xs ys there.2.1 there.2.2 back.2.1 in
    (there.0, there.1, same.0, same.1)

-- The ending

some_bytes : (order : ByteOrder) (max place : ℕ) (rest : List ℕ) → KeepsTooMuch order max place rest → rest ≡ [] → ⊥
some_bytes order max place rest k none = omega (arith, ap length k.spelled, ap length none, header_length order k.seconds k.fraction k.kept k.original k.after)

one_ending : (order : ByteOrder) (max place : ℕ) (rest : List ℕ) (e f : CaptureEnding) → place ≤ max → IsEnding order max place rest e → IsEnding order max place rest f → e ≡ f
one_ending order max place rest Ended Ended within h k = refl
one_ending order max place rest Ended (NotCapture n) within h k = absurd (some_bytes order max place rest k.1 h)
one_ending order max place rest Ended (Cut n) within h k = absurd (k.3 h)
one_ending order max place rest Ended (TooLong n) within h k = absurd (omega (arith, within, k.2, ap length h))
one_ending order max place rest (NotCapture m) Ended within h k = absurd (some_bytes order max place rest h.1 k)
one_ending order max place rest (NotCapture m) (NotCapture n) within h k = ap NotCapture (h.0 ∙ sym k.0)
one_ending order max place rest (NotCapture m) (Cut n) within h k = absurd (k.1 h.1)
one_ending order max place rest (NotCapture m) (TooLong n) within h k = absurd (k.1 h.1)
one_ending order max place rest (Cut m) Ended within h k = absurd (h.3 k)
one_ending order max place rest (Cut m) (NotCapture n) within h k = absurd (h.1 k.1)
one_ending order max place rest (Cut m) (Cut n) within h k = ap Cut (h.0 ∙ sym k.0)
one_ending order max place rest (Cut m) (TooLong n) within h k = absurd (omega (arith, h.2, k.2))
one_ending order max place rest (TooLong m) Ended within h k = absurd (omega (arith, within, h.2, ap length k))
one_ending order max place rest (TooLong m) (NotCapture n) within h k = absurd (h.1 k.1)
one_ending order max place rest (TooLong m) (Cut n) within h k = absurd (omega (arith, h.2, k.2))
one_ending order max place rest (TooLong m) (TooLong n) within h k = ap TooLong (h.0 ∙ sym k.0)

-- The trace

abbrev frames_of : TimeUnit → List Packet → List Frame
frames_of unit packets = map (frame_of unit) packets

pub one_captured : (bytes : List ℕ) (max : ℕ) (rs ss : List Record) (e f : CaptureEnding) → CapturedTrace bytes max rs e → CapturedTrace bytes max ss f → (rs ≡ ss) × (e ≡ f)
one_captured bytes max rs ss e f h k =
    let one = h.capture in
    let two = k.capture in
    let same = one_longest bytes max one.order two.order one.unit two.unit one.packets two.packets one.rest two.rest one.longest two.longest in
    let frames : k.frames ≡ h.frames = two.frames_are ∙ ap (λ (ps : List Packet). frames_of two.unit ps) (sym same.2) ∙ ap (λ (u : TimeUnit). frames_of u one.packets) (sym same.1) ∙ sym one.frames_are in
    let orders : IsEnding one.order max (place_after one.order two.packets) two.rest f = subst (λ (t : ByteOrder). IsEnding t max (place_after t two.packets) two.rest f) (sym same.0) two.ending in
    let packets : IsEnding one.order max (place_after one.order one.packets) two.rest f = subst (λ (ps : List Packet). IsEnding one.order max (place_after one.order ps) two.rest f) (sym same.2) orders in
    let ending : IsEnding one.order max (place_after one.order one.packets) one.rest f = subst (λ (t : List ℕ). IsEnding one.order max (place_after one.order one.packets) t f) (sym same.3) packets in (
      one_list h.frames rs ss h.datagrams (subst (λ (fs : List Frame). IsDatagramsOf fs ss) frames k.datagrams),
      one_ending one.order max (place_after one.order one.packets) one.rest e f one.longest.begins.within one.ending ending,
    )

pub one_capture : (bytes : List ℕ) (max : ℕ) (one other : List ℕ) (end end' : CaptureEnding) → ComesTo bytes max one end → ComesTo bytes max other end' → (one ≡ other) × (end ≡ end')
one_capture bytes max one other end end' (inl h) (inl k) = (h.1 ∙ sym k.1, one_refusal bytes max end end' h.0 k.0)
one_capture bytes max one other end end' (inl h) (inr k) = let c = k.1.capture in absurd (never_refused bytes max c.order c.unit c.packets c.rest end c.longest.begins h.0)
one_capture bytes max one other end end' (inr h) (inl k) = let c = h.1.capture in absurd (never_refused bytes max c.order c.unit c.packets c.rest end' c.longest.begins k.0)
one_capture bytes max one other end end' (inr h) (inr k) =
    let same = one_captured bytes max h.0 k.0 end end' h.1 k.1 in
    (h.2 ∙ ap trace_of same.0 ∙ sym k.2, same.1)

-- a front of the trace of records that begin the capture is one of what the bytes come to
part_of_trace : (format : Format) (max : ℕ) (bytes : List ℕ) (before after : Option (List ℕ)) (trace : List ℕ) (end : CaptureEnding) → HasPart format max bytes before after → ComesTo bytes max trace end → GainsPart before trace after
part_of_trace format max bytes before after trace end h (inl k) = absurd (never_refused bytes max format.order format.unit h.packets h.rest end h.begins k.0)
part_of_trace format max bytes before after trace end h (inr k) =
    let two = k.1.capture in
    let on = begins_longest bytes max format.order two.order format.unit two.unit h.packets two.packets h.rest two.rest h.begins two.longest in
    let tail : List Packet = on.2.0 in
    let frames : k.1.frames ≡ frames_of format.unit h.packets ++ frames_of format.unit tail =
    two.frames_are ∙ ap (λ (ps : List Packet). frames_of two.unit ps) on.2.1 ∙ ap (λ (u : TimeUnit). frames_of u (h.packets ++ tail)) (sym on.1) ∙ map-append (frame_of format.unit) h.packets tail in
    let more = datagrams_front (frames_of format.unit h.packets) (frames_of format.unit tail) h.records k.0 h.datagrams (subst (λ (fs : List Frame). IsDatagramsOf fs k.0) frames k.1.datagrams) in
    let whole : trace_of h.records ++ flat_map spelling more.0 ≡ trace = sym (k.2 ∙ ap trace_of more.1 ∙ trace_more h.records more.0) in
    subst (λ t. GainsPart before t after) whole (GainsPart-longer before after (trace_of h.records) (flat_map spelling more.0) h.part)

pub converts_part : (format : Format) (max : ℕ) (first before after : Option (List ℕ)) → IfSome first (λ bytes. HasPart format max bytes before after) → ConvertsPart max first before after
converts_part format max None before after h = tt
converts_part format max (Some bytes) before after h = λ trace end k. part_of_trace format max bytes before after trace end h k

-- Where nothing was written

pub nothing_written : (max : ℕ) (first written : Option (List ℕ)) → ConvertsPart max first written written
nothing_written max None written = tt
nothing_written max (Some bytes) written = λ trace end k. GainsPart-nil written trace

pub refusal_converts : (max n : ℕ) (end : CaptureEnding) (first written : Option (List ℕ)) → n ≡ max → IfSome first (λ bytes. IsRefused bytes n end) → Converts max end first written written
refusal_converts max n end None written same h = record { trace = []; of_input = tt; gained = Gains-nil written }
refusal_converts max n end (Some bytes) written same h = record {
  trace = [];
  of_input = inl (subst (λ m. IsRefused bytes m end) same h, refl);
  gained = Gains-nil written;
}

pub never_refused_after : (P : Type 0) (format : Format) (input : InputState) (first now : Option (List ℕ)) (max : ℕ) → input.max ≡ max → StandsAfter format input first now [] → IfSome first (λ bytes. (end : CaptureEnding) → IsRefused bytes max end → P)
never_refused_after P format input None now max same h = tt
never_refused_after P format input (Some bytes) now max same h = λ end k.
    let begun = stands_begin format input bytes now [] h in
    absurd (never_refused bytes input.max format.order format.unit [] (input.held ++ begun.0) end begun.2 (subst (λ m. IsRefused bytes m end) (sym same) k))

-- The answer is the input's ending

pub exactly : OneCapture → (max : ℕ) (end : CaptureEnding) (first before after : Option (List ℕ)) → Converts max end first before after
    → IfSome first (λ bytes. (trace : List ℕ) (due : CaptureEnding) → ComesTo bytes max trace due → end ≡ due)
exactly law max end None before after h = tt
exactly law max end (Some bytes) before after h = λ trace due k. (law bytes max h.trace trace end due h.of_input k).1
