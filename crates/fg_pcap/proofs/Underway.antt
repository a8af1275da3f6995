-- How far the making of a trace has come, as records are read and sent on.
use Rattle.std.proofs.Common.{◌≡◌, inl, inr, ℕ, ◌+◌, ◌-◌, ◌*◌, ◌<◌, ◌≤◌, ◌^◌, Option, None, Some, IfSome, IfOk, OnErr, Result, Ok, Err, List, [], ◌∷◌, ◌++◌, length, map, take, drop, sym, ap, ◌∙◌, refl, subst, arith, append-nil}
use Rattle.std.specs.Io.KnownBytes.{IsAtEnd}
use Rattle.std.specs.List.{flat_map}
use Rattle.fg_io.proofs.SentLemmas.{part_sent}
use Rattle.fg_io.specs.InputBuffer.{InputState, TakesMore}
use Rattle.fg_io.specs.Sent.{Sent}
use Rattle.fg_io.specs.Sink.{Gains, GainsPart}
use Rattle.fg_io.proofs.SentLemmas.{Sent-then, Sent-part, Sent-whole, Sent-cut}
use Rattle.fg_io.proofs.SourceLemmas.{Gives-told}
use Rattle.fg_io.specs.declared.fault.Fault.{Fault}
use Rattle.fg_trace.proofs.Traces.{trace_more}
use Rattle.fg_trace.specs.Trace.{Record, magic, spelling, trace_of}
use Rattle.fg_pcap.specs.declared.ending.CaptureEnding.{CaptureEnding}
use Rattle.fg_pcap.specs.declared.ending.CaptureEnding.TheVariants.{Ended, NotCapture, Cut, TooLong}
use Rattle.fg_pcap.specs.declared.file_header.ByteOrder.{ByteOrder}
use Rattle.fg_pcap.specs.declared.file_header.Format.{Format}
use Rattle.fg_pcap.specs.declared.file_header.TimeUnit.{TimeUnit}
use Rattle.fg_pcap.specs.declared.packet_header.PacketHeader.{PacketHeader}
use Rattle.fg_pcap.specs.Capture.{Packet, Frame, Begins, frame_of, microseconds, place_after}
use Rattle.fg_pcap.specs.FromCapture.{ComesTo, Converts, ConvertsPart, LeavesNothing, ReachesFor}
use Rattle.fg_pcap.specs.Frame.{IsDatagramsOf}
use Rattle.fg_pcap.specs.Laws.{OneCapture}
use Rattle.fg_pcap.specs.ReadFor.{ending_of}
use Rattle.fg_pcap.specs.Reading.{Breaks, EndsAt, EndsHere, GoesOn, HasEnded, HasPart, HasReached, HasRead, HasSent, HasSentAll, HoldsPacket, IsConverted, IsNew, IsReadTo, IsReading, IsUnderway, SendsFrames, SendsPart, StandsAfter}
use Rattle.fg_pcap.proofs.Captures.{converts_part, exactly}
use Rattle.fg_pcap.proofs.Datagrams.{datagrams_more}
use Rattle.fg_pcap.proofs.ReadFor.{fault_read}
use Rattle.fg_pcap.proofs.Standing.{packet_at, passes, read_more, read_passed, takes_in, stands_more, stands_taking, stands_begin}

-- The frame of a record that is held

pub frame_is : (unit : TimeUnit) (header : PacketHeader) (held : List ℕ) (time size : ℕ) (bytes : List ℕ) → time ≡ header.seconds * 10 ^ 6 + microseconds unit header.fraction → bytes ≡ take (size - 16) (drop 16 held) → size ≡ 16 + header.kept
    → (let one : Frame = record { time = time; bytes = bytes } in one ≡ frame_of unit (packet_at header held))
frame_is unit header held time size bytes when is count =
    let kept : size - 16 ≡ header.kept = omega (arith, count) in
    ap (λ t. let one : Frame = record { time = t; bytes = bytes } in one) when
    ∙ ap (λ b. let one : Frame = record { time = header.seconds * 10 ^ 6 + microseconds unit header.fraction; bytes = b } in one) (is ∙ ap (λ n. take n (drop 16 held)) kept)

map_more : (unit : TimeUnit) (ps : List Packet) (p : Packet) → map (frame_of unit) (ps ++ p ∷ []) ≡ map (frame_of unit) ps ++ frame_of unit p ∷ []
map_more unit [] p = refl
map_more unit (q ∷ ps) p = ap (λ t. frame_of unit q ∷ t) (map_more unit ps p)

-- One record more

more_datagrams : (unit : TimeUnit) (packets : List Packet) (p : Packet) (frame : Frame) (rs ss : List Record) → frame ≡ frame_of unit p → IsDatagramsOf (map (frame_of unit) packets) rs → IsDatagramsOf (frame ∷ []) ss
    → IsDatagramsOf (map (frame_of unit) (packets ++ p ∷ [])) (rs ++ ss)
more_datagrams unit packets p frame rs ss is h k =
    let one : IsDatagramsOf (frame_of unit p ∷ []) ss = subst (λ (f : Frame). IsDatagramsOf (f ∷ []) ss) is k in
    subst (λ (fs : List Frame). IsDatagramsOf fs (rs ++ ss)) (sym (map_more unit packets p)) (datagrams_more (map (frame_of unit) packets) (frame_of unit p ∷ []) rs ss h one)

sent_more : (unit : TimeUnit) (packets : List Packet) (p : Packet) (frame : Frame) (held next : List ℕ) (before at after : Option (List ℕ)) → frame ≡ frame_of unit p → HasSent unit packets held before at → SendsFrames (frame ∷ []) held next at after
    → HasSent unit (packets ++ p ∷ []) next before after
sent_more unit packets p frame held next before at after is h k = record {
  records = h.records ++ k.records;
  datagrams = more_datagrams unit packets p frame h.records k.records is h.datagrams k.datagrams;
  sent = subst (λ t. Sent before t next after) (sym (trace_more h.records k.records)) (Sent-then before at after (trace_of h.records) held (flat_map spelling k.records) next h.sent k.sent);
}

underway_more : (format : Format) (input new : InputState) (header : PacketHeader) (frame : Frame) (first now : Option (List ℕ)) (held next : List ℕ) (before at after : Option (List ℕ)) → HoldsPacket format.order input header → new ≡ passes input (16 + header.kept)
    → frame ≡ frame_of format.unit (packet_at header input.held) → SendsFrames (frame ∷ []) held next at after → IsUnderway format first now input held before at → IsUnderway format first now new next before after
underway_more format input new header frame first now held next before at after holds step is sends h = record {
  packets = h.packets ++ packet_at header input.held ∷ [];
  stands = stands_more format input new header first now h.packets holds step h.stands;
  read = read_passed input new (16 + header.kept) first now holds.whole step h.read;
  sent = sent_more format.unit h.packets (packet_at header input.held) frame held next before at after is h.sent sends;
}

reading_on : (input new : InputState) (count : ℕ) → input.place + count ≤ input.max → new ≡ passes input count → IsReading input → IsReading new
reading_on input new count within step h =
    let next : IsReading (passes input count) = record { longest = h.longest; piece = h.piece; within = within; going = h.going } in
    subst IsReading (sym step) next

pub goes_on : (format : Format) (input new : InputState) (header : PacketHeader) (frame : Frame) (first now : Option (List ℕ)) (held next : List ℕ) (before at after : Option (List ℕ)) → HoldsPacket format.order input header → new ≡ passes input (16 + header.kept)
    → frame ≡ frame_of format.unit (packet_at header input.held) → SendsFrames (frame ∷ []) held next at after → IsReading input → IsUnderway format first now input held before at → GoesOn format next new first now before after
goes_on format input new header frame first now held next before at after holds step is sends reading h = record {
  reading = reading_on input new (16 + header.kept) holds.within step reading;
  underway = underway_more format input new header frame first now held next before at after holds step is sends h;
}

-- one step fewer is left
pub fewer_left : (old input new : InputState) (order : ByteOrder) (header : PacketHeader) → input ≡ takes_in old input.held input.ended → HoldsPacket order input header → new ≡ passes input (16 + header.kept) → new.max - new.place < old.max - old.place
fewer_left old input new order header same holds step =
    omega (arith, holds.within, ap (λ (t : InputState). t.place) same, ap (λ (t : InputState). t.max) same, ap (λ (t : InputState). t.place) step, ap (λ (t : InputState). t.max) step)

-- Parts

part_standing : (format : Format) (input : InputState) (first now : Option (List ℕ)) (packets : List Packet) (records : List Record) (before after : Option (List ℕ)) → StandsAfter format input first now packets → IsDatagramsOf (map (frame_of format.unit) packets) records
    → GainsPart before (trace_of records) after → IfSome first (λ bytes. HasPart format input.max bytes before after)
part_standing format input None now packets records before after stands datagrams part = tt
part_standing format input (Some bytes) now packets records before after stands datagrams part =
    let begun = stands_begin format input bytes now packets stands in
    record { packets = packets; rest = input.held ++ begun.0; begins = begun.2; records = records; datagrams = datagrams; part = part }

-- nothing more was sent
part_here : (format : Format) (input : InputState) (max : ℕ) (first now : Option (List ℕ)) (held : List ℕ) (before at : Option (List ℕ)) → input.max ≡ max → IsUnderway format first now input held before at → IfSome first (λ bytes. HasPart format max bytes before at)
part_here format input max first now held before at limit h =
    subst (λ n. IfSome first (λ bytes. HasPart format n bytes before at)) limit
    (part_standing format input first now h.packets h.sent.records before at h.stands h.sent.datagrams (part_sent before at (trace_of h.sent.records) held h.sent.sent))

-- a front of one more record's datagram was
part_more : (format : Format) (input : InputState) (header : PacketHeader) (frame : Frame) (max : ℕ) (first now : Option (List ℕ)) (held : List ℕ) (before at after : Option (List ℕ)) → input.max ≡ max → HoldsPacket format.order input header
    → frame ≡ frame_of format.unit (packet_at header input.held) → SendsPart (frame ∷ []) held at after → IsUnderway format first now input held before at → IfSome first (λ bytes. HasPart format max bytes before after)
part_more format input header frame max first now held before at after limit holds is sends h =
    let p : Packet = packet_at header input.held in
    let new : InputState = passes input (16 + header.kept) in
    let stands : StandsAfter format new first now (h.packets ++ p ∷ []) = stands_more format input new header first now h.packets holds refl h.stands in
    let text : GainsPart before (trace_of (h.sent.records ++ sends.records)) after = subst (λ t. GainsPart before t after) (sym (trace_more h.sent.records sends.records))
    (Sent-part before at after (trace_of h.sent.records) held (flat_map spelling sends.records) h.sent.sent sends.part) in
    subst (λ n. IfSome first (λ bytes. HasPart format n bytes before after)) limit
    (part_standing format new first now (h.packets ++ p ∷ []) (h.sent.records ++ sends.records) before after stands (more_datagrams format.unit h.packets p frame h.sent.records sends.records is h.sent.datagrams sends.datagrams) text)

-- The end

ends_there : (format : Format) (input : InputState) (first now : Option (List ℕ)) (packets : List Packet) (end : CaptureEnding) → StandsAfter format input first now packets → EndsHere format.order end input now
    → IfSome first (λ bytes. (rest : List ℕ) × Begins bytes input.max format.order format.unit packets rest × EndsAt format.order end input.max (place_after format.order packets) rest)
ends_there format input None now packets end stands ends = tt
ends_there format input (Some bytes) now packets end stands ends =
    let begun = stands_begin format input bytes now packets stands in
    let here : EndsAt format.order end input.max input.place (input.held ++ begun.0) = subst (λ (left : Option (List ℕ)). EndsHere format.order end input left) begun.1 ends in
    (input.held ++ begun.0, begun.2, subst (λ n. EndsAt format.order end input.max n (input.held ++ begun.0)) stands.place here)

sent_all : (format : Format) (input : InputState) (max : ℕ) (first now : Option (List ℕ)) (end : CaptureEnding) (held : List ℕ) (before at : Option (List ℕ)) → input.max ≡ max → EndsHere format.order end input now → IsUnderway format first now input held before at
    → HasSentAll format max first end held before at
sent_all format input max first now end held before at limit ends h = record {
  packets = h.packets;
  sent = h.sent;
  ends = subst (λ n. IfSome first (λ bytes. (rest : List ℕ) × Begins bytes n format.order format.unit h.packets rest × EndsAt format.order end n (place_after format.order h.packets) rest)) limit
      (ends_there format input first now h.packets end h.stands ends);
}

-- bytes were taken in
pub underway_taking : (format : Format) (old new : InputState) (first left now : Option (List ℕ)) (held : List ℕ) (before at : Option (List ℕ)) → TakesMore old.held left new.held now → new ≡ takes_in old new.held new.ended
    → IsUnderway format first left old held before at → IsUnderway format first now new held before at
underway_taking format old new first left now held before at takes same h = record {
  packets = h.packets;
  stands = stands_taking format old new first left now h.packets takes same h.stands;
  read = read_more old new first left now takes same h.read;
  sent = h.sent;
}

-- The magic

pub underway_start : (format : Format) (input : InputState) (first now : Option (List ℕ)) (held next : List ℕ) (before after : Option (List ℕ)) → Sent before (held ++ magic) next after → IsNew format held input first now
    → GoesOn format next input first now before after
underway_start format input first now held next before after sent h = record {
  reading = h.reading;
  underway = record {
    packets = [];
    stands = h.stands;
    read = h.read;
    sent = record { records = []; datagrams = refl; sent = subst (λ t. Sent before t next after) (ap (λ t. t ++ magic) h.empty ∙ sym (append-nil magic)) sent };
  };
}

part_first : (format : Format) (input : InputState) (first now : Option (List ℕ)) (held : List ℕ) (before after : Option (List ℕ)) → held ≡ [] → GainsPart before (held ++ magic) after → StandsAfter format input first now []
    → IfSome first (λ bytes. HasPart format input.max bytes before after)
part_first format input first now held before after none part stands =
    part_standing format input first now [] [] before after stands refl (subst (λ t. GainsPart before t after) (ap (λ t. t ++ magic) none ∙ sym (append-nil magic)) part)

-- What was held at the end is written, or a front of it

part_last : (format : Format) (max : ℕ) (first : Option (List ℕ)) (end : CaptureEnding) (held : List ℕ) (before at after : Option (List ℕ)) → HasSentAll format max first end held before at → GainsPart at held after
    → IfSome first (λ bytes. HasPart format max bytes before after)
part_last format max None end held before at after h part = tt
part_last format max (Some bytes) end held before at after h part = record {
  packets = h.packets;
  rest = h.ends.0;
  begins = h.ends.1;
  records = h.sent.records;
  datagrams = h.sent.datagrams;
  part = Sent-cut before at after (trace_of h.sent.records) held h.sent.sent part;
}

converts : (format : Format) (max : ℕ) (first : Option (List ℕ)) (end : CaptureEnding) (held : List ℕ) (before at after : Option (List ℕ)) → HasSentAll format max first end held before at → Gains at held after
    → Converts max end first before after
converts format max None end held before at after h gained = record {
  trace = trace_of h.sent.records;
  of_input = tt;
  gained = Sent-whole before at after (trace_of h.sent.records) held h.sent.sent gained;
}
converts format max (Some bytes) end held before at after h gained =
    let here = h.ends.2 in
    record {
      trace = trace_of h.sent.records;
      of_input = inr (
        h.sent.records,
        record {
          frames = map (frame_of format.unit) h.packets;
          capture = record {
            order = format.order;
            unit = format.unit;
            packets = h.packets;
            rest = h.ends.0;
            longest = record { begins = h.ends.1; none = here.none };
            ending = here.ending;
            frames_are = refl;
          };
          datagrams = h.sent.datagrams;
        },
        refl,
      );
      gained = Sent-whole before at after (trace_of h.sent.records) held h.sent.sent gained;
    }

-- How far the input is read

reaches : (end : CaptureEnding) (input : InputState) (read rest : List ℕ) → length read ≡ input.place + length input.held → HasReached end input (Some rest) → ReachesFor input.max end read rest
reaches Ended input read rest size h = h
reaches (Cut n) input read rest size h = h
reaches (TooLong n) input read rest size h = omega (arith, size, h)
reaches (NotCapture n) input read rest size h = (
  elim h.0 [ inl near ↦ inl (omega (arith, size, near)) | inr end ↦ inr end ],
  omega (arith, size, h.1),
)

reaches_for : (end : Option CaptureEnding) (input : InputState) (read rest : List ℕ) → length read ≡ input.place + length input.held → IfSome end (λ e. HasReached e input (Some rest)) → IfSome end (λ e. ReachesFor input.max e read rest)
reaches_for None input read rest size h = tt
reaches_for (Some end) input read rest size h = reaches end input read rest size h

pub read_to : (end : Option CaptureEnding) (input : InputState) (first now : Option (List ℕ)) → input.place + length input.held ≤ input.max + 1 → IfSome end (λ e. HasReached e input now) → HasRead input first now → IsReadTo input.max end first now
read_to end input None now bounded reached h = tt
read_to end input (Some bytes) now bounded reached h =
    let told = Gives-told (Some bytes) now h.read bytes h.gives refl in
    record {
      read = h.read;
      rest = told.0;
      now_is = told.1;
      all = told.2;
      reaches = reaches_for end input h.read told.0 h.size (subst (λ (left : Option (List ℕ)). IfSome end (λ e. HasReached e input left)) told.1 reached);
      bounded = omega (arith, bounded, h.size);
    }

pub ends_there_read : (end : CaptureEnding) (input : InputState) (now : Option (List ℕ)) → HasReached end input now → LeavesNothing end → IsAtEnd now
ends_there_read Ended input now h all = h
ends_there_read (Cut n) input now h all = h
ends_there_read (TooLong n) input now h all = absurd all
ends_there_read (NotCapture n) input now h all = absurd all

-- What a fault leaves

pub breaks_at_magic : (format : Format) (input : InputState) (first now : Option (List ℕ)) (held : List ℕ) (before after : Option (List ℕ)) → GainsPart before (held ++ magic) after → IsNew format held input first now
    → Breaks input.max first now before after
breaks_at_magic format input first now held before after part h =
    (converts_part format input.max first before after (part_first format input first now held before after h.empty part h.stands), read_to None input first now h.bounded tt h.read)

pub breaks_at_read : (format : Format) (input : InputState) (max : ℕ) (first now : Option (List ℕ)) (held : List ℕ) (before at : Option (List ℕ)) → input.max ≡ max → input.place + length input.held ≤ input.max + 1
    → IsUnderway format first now input held before at → Breaks max first now before at
breaks_at_read format input max first now held before at limit bounded h = (
  converts_part format max first before at (part_here format input max first now held before at limit h),
  subst (λ n. IsReadTo n None first now) limit (read_to None input first now bounded tt h.read),
)

pub breaks_at_frame : (format : Format) (input : InputState) (header : PacketHeader) (frame : Frame) (max : ℕ) (first now : Option (List ℕ)) (held : List ℕ) (before at after : Option (List ℕ)) → input.max ≡ max → input.place + length input.held ≤ input.max + 1
    → HoldsPacket format.order input header → frame ≡ frame_of format.unit (packet_at header input.held) → SendsPart (frame ∷ []) held at after → IsUnderway format first now input held before at → Breaks max first now before after
breaks_at_frame format input header frame max first now held before at after limit bounded holds is sends h = (
  converts_part format max first before after (part_more format input header frame max first now held before at after limit holds is sends h),
  subst (λ n. IsReadTo n None first now) limit (read_to None input first now bounded tt h.read),
)

pub ended : (format : Format) (input : InputState) (first now : Option (List ℕ)) (end : CaptureEnding) (held : List ℕ) (before at : Option (List ℕ)) → input.place + length input.held ≤ input.max + 1 → EndsHere format.order end input now
    → HasReached end input now → IsUnderway format first now input held before at → HasEnded format held input end first now before at
ended format input first now end held before at bounded ends reached h = record {
  sent = sent_all format input input.max first now end held before at refl ends h;
  read = read_to (Some end) input first now bounded reached h.read;
  at_end = ends_there_read end input now reached;
}

pub breaks_at_end : (format : Format) (input : InputState) (first now : Option (List ℕ)) (end : CaptureEnding) (held : List ℕ) (before at after : Option (List ℕ)) → GainsPart at held after → HasEnded format held input end first now before at
    → Breaks input.max first now before after
breaks_at_end format input first now end held before at after part h =
    (converts_part format input.max first before after (part_last format input.max first end held before at after h.sent part), fault_read (ReachesFor input.max) input.max (Some end) first now h.read)

pub converted : (format : Format) (input : InputState) (first now : Option (List ℕ)) (end : CaptureEnding) (held : List ℕ) (before at after : Option (List ℕ)) → Gains at held after → HasEnded format held input end first now before at
    → IsConverted input.max end first now before after
converted format input first now end held before at after gained h =
    record { converts = converts format input.max first end held before at after h.sent gained; read = h.read; at_end = h.at_end }

-- What the walk comes to, under the limit that the buffer was made with

pub record Comes (max : ℕ) (came : Result CaptureEnding Fault) (first now before after : Option (List ℕ)) : Type 0 where
  pub whole : IfOk came (λ ending. Converts max ending first before after)
  pub exactly : IfOk came (λ ending. IfSome first (λ bytes. (trace : List ℕ) (due : CaptureEnding) → ComesTo bytes max trace due → ending ≡ due))
  pub all_read : IfOk came (λ ending. LeavesNothing ending → IsAtEnd now)
  pub reads : IsReadTo max (ending_of came) first now
  pub part : OnErr came (ConvertsPart max first before after)

pub comes : OneCapture → (New : Option (List ℕ) → Type 0) (found max : ℕ) (came : Result CaptureEnding Fault) (first now before after : Option (List ℕ)) → found ≡ max → New first
    → IfOk came (λ ending. (first : Option (List ℕ)) → New first → IsConverted found ending first now before after)
    → OnErr came ((first : Option (List ℕ)) → New first → Breaks found first now before after)
    → Comes max came first now before after
comes law New found max (Ok ending) first now before after same new h k =
    let all = subst (λ n. IsConverted n ending first now before after) same (h first new) in
    record { whole = all.converts; exactly = exactly law max ending first before after all.converts; all_read = all.at_end; reads = all.read; part = tt }
comes law New found max (Err fault) first now before after same new h k =
    let broken = subst (λ n. Breaks n first now before after) same (k first new) in
    record { whole = tt; exactly = tt; all_read = tt; reads = broken.1; part = broken.0 }
