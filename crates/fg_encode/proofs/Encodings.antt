-- How the payloads of a stream are encoded, from where the reader stands.
use Rattle.std.proofs.Common.{◌≡◌, ◌⊎◌, inl, inr, ⊎_elim, ℕ, ◌+◌, ◌*◌, ◌<◌, ◌≤◌, ◌^◌, true, Option, Some, None, IfSome, IfOk, OnErr, Result, Ok, List, [], ◌∷◌, ◌++◌, length, take, drop, refl, sym, ap, ◌∙◌, subst, arith, append_assoc, append-nil, length-append}
use Rattle.std.specs.List.{flat_map}
use Rattle.std.proofs.lemmas.Bool.{cases_lt}
use Rattle.std.proofs.lemmas.List.{take-append-drop}
use Rattle.std.proofs.lemmas.List.Concat.{flat_map-append}
use Rattle.std.proofs.lemmas.List.FromFn.{take-map-range_with_len}
use Rattle.fg_io.specs.declared.fault.Fault.{Fault}
use Rattle.fg_io.specs.Sent.{Sent}
use Rattle.fg_io.specs.Sink.{Gains, GainsPart}
use Rattle.fg_io.proofs.SentLemmas.{Sent-then, Sent-whole, Sent-cut, Sent-part, Sent-stop}
use Rattle.fg_io.proofs.SinkLemmas.{GainsPart-longer, GainsPart-nil}
use Rattle.fg_shape.specs.declared.encoding.Settings.{Settings}
use Rattle.fg_ts.specs.Packets.{ArePackets}
use Rattle.fg_trace.specs.Trace.{Record, magic, spelling, trace_of}
use Rattle.fg_encode.specs.declared.encoding.Encoding.{Encoding}
use Rattle.fg_encode.specs.declared.stream.StreamStep.TheVariants.{End}
use Rattle.fg_encode.specs.Encode.{EncodesPart}
use Rattle.fg_encode.specs.EncodeSteps.{Breaks, CanGoOn, HasEncoded, IsEncoded, IsNew, IsReadTo, IsUnderway}
use Rattle.fg_encode.specs.Encoder.{EncoderState, StandsAfter as HasTaken}
use Rattle.fg_encode.specs.Encoding.{encoding, records_at}
use Rattle.fg_encode.specs.Laws.{OneMoreAdds}
use Rattle.fg_encode.specs.Reading.{ReadsAsFar, ReadsLittle}
use Rattle.fg_encode.specs.Stream.{payload_of, AreFirst, StreamEnding, IsCut, OneCut}
use Rattle.fg_encode.specs.StreamReader.{StreamState, StandsAfter, Walks, IsPlaced, new_reader}
use Rattle.fg_encode.proofs.ReadLemmas.{any_ending_to, read_so_far, unread_to}
use Rattle.fg_encode.proofs.CutLemmas.{refused}

-- The first payloads, and all

-- the first payloads of a stream are the front of all
first_of_all : (packets max : ℕ) (bytes : List ℕ) (payloads all : List (List ℕ)) (end : StreamEnding) → AreFirst packets max bytes payloads → IsCut packets max bytes all end
    → all ≡ payloads ++ drop (length payloads) all
first_of_all packets max bytes payloads all end h k =
    let few : length payloads ≤ length all = ⊎_elim
    (λ (more : length all < length payloads). absurd (refused end packets max bytes (length all) k.ends (h.acceptable (length all) more)))
    (λ (few : length payloads ≤ length all). few)
    (cases_lt (length all) (length payloads)) in
    let front : take (length payloads) all ≡ payloads =
    ap (take (length payloads)) k.first.cut ∙ take-map-range_with_len (payload_of packets bytes) 0 (length all) (length payloads) few ∙ sym h.cut in
    sym (take-append-drop (length payloads) all) ∙ ap (λ (t : List (List ℕ)). t ++ drop (length payloads) all) front

-- The trace of their encoding

-- one payload more
trace_more : OneMoreAdds → (settings : Settings) (payloads : List (List ℕ)) (payload : List ℕ)
    → trace_of (encoding settings (payloads ++ payload ∷ [])) ≡ trace_of (encoding settings payloads) ++ flat_map spelling (records_at settings (payloads ++ payload ∷ []) (length payloads))
trace_more law settings payloads payload =
    let more = records_at settings (payloads ++ payload ∷ []) (length payloads) in
    ap (λ (rs : List Record). magic ++ flat_map spelling rs) (law settings payloads payload)
    ∙ ap (λ bytes. magic ++ bytes) (flat_map-append spelling (encoding settings payloads) more)
    ∙ sym (append_assoc magic (flat_map spelling (encoding settings payloads)) (flat_map spelling more))

-- more payloads
trace_front : OneMoreAdds → (settings : Settings) (payloads more : List (List ℕ))
    → (rest : List ℕ) × (trace_of (encoding settings (payloads ++ more)) ≡ trace_of (encoding settings payloads) ++ rest)
trace_front law settings payloads [] =
    ([], ap (λ (ps : List (List ℕ)). trace_of (encoding settings ps)) (append-nil payloads) ∙ sym (append-nil (trace_of (encoding settings payloads))))
trace_front law settings payloads (payload ∷ more) =
    let next = trace_front law settings (payloads ++ payload ∷ []) more in
    let added = flat_map spelling (records_at settings (payloads ++ payload ∷ []) (length payloads)) in (
      added ++ next.0,
      ap (λ (ps : List (List ℕ)). trace_of (encoding settings ps)) (sym (append_assoc payloads (payload ∷ []) more))
          ∙ next.1 ∙ ap (λ bytes. bytes ++ next.0) (trace_more law settings payloads payload)
          ∙ append_assoc (trace_of (encoding settings payloads)) added next.0,
    )

-- Parts

-- a prefix of the trace of the first payloads is one of that of all
part_of_all : OneMoreAdds → (settings : Settings) (packets max : ℕ) (first : Option (List ℕ)) (payloads : List (List ℕ)) (before after : Option (List ℕ))
    → settings.packets ≡ packets → IfSome first (λ bytes. AreFirst packets max bytes payloads)
    → GainsPart before (trace_of (encoding settings payloads)) after → EncodesPart settings max first before after
part_of_all law settings packets max None payloads before after same h part = tt
part_of_all law settings packets max (Some bytes) payloads before after same h part = λ all end cut.
    let split = first_of_all packets max bytes payloads all end h (subst (λ n. IsCut n max bytes all end) same cut) in
    let front = trace_front law settings payloads (drop (length payloads) all) in
    subst (λ bytes. GainsPart before bytes after) (sym (ap (λ (ps : List (List ℕ)). trace_of (encoding settings ps)) split ∙ front.1))
    (GainsPart-longer before after (trace_of (encoding settings payloads)) front.0 part)

-- The encoder and the next payload

-- where there is a payload, the encoder can take it, and it begins at the reader's place
pub takes_next : (reader : StreamState) (encoder : EncoderState) (payloads : List (List ℕ)) (payload rest : List ℕ) (count : ℕ)
    → CanGoOn reader encoder payloads → (reader.ended ≡ true → payload ++ rest ≡ reader.held) → 1 ≤ count → ArePackets payload count
    → HasTaken encoder payloads
takes_next reader encoder payloads payload rest count (inl taken) stays some is = taken
takes_next reader encoder payloads payload rest count (inr over) stays some is =
    let none : length (payload ++ rest) ≡ 0 = ap length (stays over.0 ∙ over.1) in
    absurd (omega (arith, none, length-append payload rest, is.whole, some))

placed_next : (reader : StreamState) (count : ℕ) (payload rest : List ℕ) (packets : ℕ)
    → IsPlaced reader count → (reader.ended ≡ true → payload ++ rest ≡ reader.held) → 1 ≤ packets → ArePackets payload packets
    → reader.place ≡ 188 * reader.packets * count
placed_next reader count payload rest packets (inl there) stays some is = there
placed_next reader count payload rest packets (inr past) stays some is =
    let none : length (payload ++ rest) ≡ 0 = ap length (stays past.1 ∙ past.2) in
    absurd (omega (arith, none, length-append payload rest, is.whole, some))

-- all payloads so far are within what an encoder takes
pub within_limit : (reader next : StreamState) (encoder : EncoderState) (payloads : List (List ℕ)) (payload : List ℕ) (count : ℕ)
    → IsPlaced reader (length payloads) → encoder.settings.packets ≡ reader.packets → CanGoOn reader encoder payloads
    → (reader.ended ≡ true → next.payload ++ next.held ≡ reader.held) → 1 ≤ count → ArePackets next.payload count → payload ≡ next.payload
    → next.place ≡ reader.place + length next.payload → next.place ≤ next.max → next.max ≡ reader.max → reader.max ≤ 2 ^ 40
    → 188 * encoder.settings.packets * encoder.taken + length payload ≤ 2 ^ 40
within_limit reader next encoder payloads payload count placed packets goes stays some is same step within max limit =
    let taken = takes_next reader encoder payloads next.payload next.held count goes stays some is in
    let there = placed_next reader (length payloads) next.payload next.held count placed stays some is in
    let size : length payload ≡ length next.payload = ap length same in
    let at : 188 * encoder.settings.packets * encoder.taken ≡ reader.place =
    ap (λ n. 188 * n * encoder.taken) packets ∙ ap (λ n. 188 * reader.packets * n) taken.taken ∙ sym there in
    omega (arith, at, size, step, within, max, limit)

-- Where an encoding stands

-- before the first payload
pub new_here : (work : Encoding) (reader : StreamState) (first : Option (List ℕ)) (settings : Settings) (max : ℕ) → max ≤ 2 ^ 40 → reader ≡ new_reader settings.packets max → StandsAfter reader first first []
    → work.encoder.settings ≡ settings → HasTaken work.encoder [] → work.trace ≡ [] → IsNew work reader first first
new_here work reader first settings max limit new stands same taken trace = record {
  stands = stands;
  read = unread_to reader.max first;
  untold = ap (λ (t : StreamState). t.kept) new;
  limit = subst (λ (t : StreamState). t.max ≤ 2 ^ 40) (sym new) limit;
  packets = ap (λ (s : Settings). s.packets) same ∙ sym (ap (λ (t : StreamState). t.packets) new);
  taken = taken;
  trace = trace;
}

-- the magic was added
sent_first : (trace next : List ℕ) (before after : Option (List ℕ)) → trace ≡ [] → Sent before (trace ++ magic) next after → Sent before magic next after
sent_first trace next before after none sent = subst (λ (t : List ℕ). Sent before (t ++ magic) next after) none sent

-- a part of the magic is
magic_encoded : (settings : Settings) (max : ℕ) (first before after : Option (List ℕ)) → GainsPart before magic after → EncodesPart settings max first before after
magic_encoded settings max None before after part = tt
magic_encoded settings max (Some bytes) before after part = λ payloads ending cut.
    GainsPart-longer before after magic (flat_map spelling (encoding settings payloads)) part

-- the magic is held or written
pub begun : (work : Encoding) (reader : StreamState) (next : List ℕ) (first now before after : Option (List ℕ)) → Sent before (work.trace ++ magic) next after → IsNew work reader first now
    → IsUnderway (record work { trace = next }) reader first now before after
begun work reader next first now before after sent h = record {
  payloads = [];
  stands = h.stands;
  untold = h.untold;
  limit = h.limit;
  packets = h.packets;
  goes_on = inl h.taken;
  sent = sent_first work.trace next before after h.trace sent;
}

-- a part of it is
pub breaks_at_magic : (work : Encoding) (reader : StreamState) (first now before after : Option (List ℕ)) → GainsPart before (work.trace ++ magic) after → IsNew work reader first now
    → Breaks work.encoder.settings reader.max first now before after
breaks_at_magic work reader first now before after part h = (
  magic_encoded work.encoder.settings reader.max first before after (subst (λ trace. GainsPart before (trace ++ magic) after) h.trace part),
  h.read,
)

sent_payload : OneMoreAdds → (settings : Settings) (payloads : List (List ℕ)) (payload held next : List ℕ) (batch : List Record) (before at after : Option (List ℕ))
    → batch ≡ records_at settings (payloads ++ payload ∷ []) (length payloads) → Sent before (trace_of (encoding settings payloads)) held at
    → Sent at (held ++ flat_map spelling batch) next after → Sent before (trace_of (encoding settings (payloads ++ payload ∷ []))) next after
sent_payload law settings payloads payload held next batch before at after is once again =
    subst (λ bytes. Sent before bytes next after)
    (ap (λ (rs : List Record). trace_of (encoding settings payloads) ++ flat_map spelling rs) is ∙ sym (trace_more law settings payloads payload))
    (Sent-then before at after (trace_of (encoding settings payloads)) held (flat_map spelling batch) next once again)

goes_on : (reader : StreamState) (encoder next : EncoderState) (payloads : List (List ℕ)) → encoder.settings.packets ≡ reader.packets
    → (length reader.payload ≡ 188 * reader.packets) ⊎ ((reader.ended ≡ true) × (reader.held ≡ []))
    → (length reader.payload ≡ 188 * encoder.settings.packets → HasTaken next (payloads ++ reader.payload ∷ []))
    → CanGoOn reader next (payloads ++ reader.payload ∷ [])
goes_on reader encoder next payloads packets (inl full) takes = inl (takes (full ∙ ap (λ n. 188 * n) (sym packets)))
goes_on reader encoder next payloads packets (inr last) takes = inr last

-- one payload more
pub underway_more :
    OneMoreAdds → (work next : Encoding) (reader further : StreamState) (first left now before at after : Option (List ℕ)) (batch : List Record) (count : ℕ)
    → ((payloads : List (List ℕ)) → StandsAfter reader first left payloads → StandsAfter further first now (payloads ++ further.payload ∷ []))
    → further.kept ≡ None → further.max ≡ reader.max
    → (reader.ended ≡ true → further.payload ++ further.held ≡ reader.held) → 1 ≤ count → ArePackets further.payload count
    → (length further.payload ≡ 188 * further.packets) ⊎ ((further.ended ≡ true) × (further.held ≡ []))
    → further.packets ≡ reader.packets → next.encoder.settings ≡ work.encoder.settings
    → ((payloads : List (List ℕ)) → HasTaken work.encoder payloads → batch ≡ records_at work.encoder.settings (payloads ++ further.payload ∷ []) (length payloads))
    → ((payloads : List (List ℕ)) → HasTaken work.encoder payloads → length further.payload ≡ 188 * work.encoder.settings.packets → HasTaken next.encoder (payloads ++ further.payload ∷ []))
    → Sent at (work.trace ++ flat_map spelling batch) next.trace after
    → IsUnderway work reader first left before at → IsUnderway next further first now before after
underway_more law work next reader further first left now before at after batch count walks untold max stays some whole last packets settings made takes sent h =
    let taken : HasTaken work.encoder h.payloads = takes_next reader work.encoder h.payloads further.payload further.held count h.goes_on stays some whole in
    record {
      payloads = h.payloads ++ further.payload ∷ [];
      stands = walks h.payloads h.stands;
      untold = untold;
      limit = subst (λ n. n ≤ 2 ^ 40) (sym max) h.limit;
      packets = ap (λ (s : Settings). s.packets) settings ∙ h.packets ∙ sym packets;
      goes_on = goes_on further work.encoder next.encoder h.payloads (h.packets ∙ sym packets) last (takes h.payloads taken);
      sent = subst (λ (s : Settings). Sent before (trace_of (encoding s (h.payloads ++ further.payload ∷ []))) next.trace after) (sym settings)
          (sent_payload law work.encoder.settings h.payloads further.payload work.trace next.trace batch before at after (made h.payloads taken) h.sent sent);
    }

-- a payload whose records are not all written, for a fault
pub breaks_at_payload :
    OneMoreAdds → ReadsAsFar → (work : Encoding) (reader next : StreamState) (first left now before at after : Option (List ℕ)) (batch : List Record) (count : ℕ)
    → ((payloads : List (List ℕ)) → StandsAfter reader first left payloads → StandsAfter next first now (payloads ++ next.payload ∷ []))
    → ReadsLittle next → next.max ≡ reader.max
    → (reader.ended ≡ true → next.payload ++ next.held ≡ reader.held) → 1 ≤ count → ArePackets next.payload count
    → next.packets ≡ reader.packets
    → ((payloads : List (List ℕ)) → HasTaken work.encoder payloads → batch ≡ records_at work.encoder.settings (payloads ++ next.payload ∷ []) (length payloads))
    → GainsPart at (work.trace ++ flat_map spelling batch) after
    → IsUnderway work reader first left before at → Breaks work.encoder.settings reader.max first now before after
breaks_at_payload law far work reader next first left now before at after batch count walks little max stays some whole packets made part h =
    let taken : HasTaken work.encoder h.payloads = takes_next reader work.encoder h.payloads next.payload next.held count h.goes_on stays some whole in
    let settings = work.encoder.settings in
    let stands = walks h.payloads h.stands in (
      subst (λ n. EncodesPart settings n first before after) max
          (part_of_all law settings next.packets next.max first (h.payloads ++ next.payload ∷ []) before after (h.packets ∙ sym packets) stands.cut
          (subst (λ bytes. GainsPart before bytes after)
          (ap (λ (rs : List Record). trace_of (encoding settings h.payloads) ++ flat_map spelling rs) (made h.payloads taken) ∙ sym (trace_more law settings h.payloads next.payload))
          (Sent-part before at after (trace_of (encoding settings h.payloads)) work.trace (flat_map spelling batch) h.sent part))),
      any_ending_to reader.max next.kept first now (read_so_far far next first now (h.payloads ++ next.payload ∷ []) reader.max max stands little),
    )

-- a read that failed
pub breaks_at_read :
    OneMoreAdds → ReadsAsFar → (work : Encoding) (reader next : StreamState) (first left now before at : Option (List ℕ))
    → ((payloads : List (List ℕ)) → StandsAfter reader first left payloads → StandsAfter next first now payloads)
    → ReadsLittle next → next.max ≡ reader.max
    → IsUnderway work reader first left before at → Breaks work.encoder.settings reader.max first now before at
breaks_at_read law far work reader next first left now before at walks little max h =
    let settings = work.encoder.settings in (
      part_of_all law settings reader.packets reader.max first h.payloads before at h.packets h.stands.cut
          (subst (λ bytes. GainsPart before bytes at) (append-nil (trace_of (encoding settings h.payloads)))
          (Sent-stop before at (trace_of (encoding settings h.payloads)) work.trace [] h.sent)),
      any_ending_to reader.max next.kept first now (read_so_far far next first now h.payloads reader.max max (walks h.payloads h.stands) little),
    )

-- the end of the stream
pub encoded : ReadsAsFar → (work : Encoding) (reader next : StreamState) (first left now before at : Option (List ℕ)) (ending : StreamEnding)
    → ((payloads : List (List ℕ)) → StandsAfter reader first left payloads → Walks (Ok (End ending)) next first now payloads)
    → ReadsLittle next → next.kept ≡ Some ending → next.packets ≡ reader.packets
    → IsUnderway work reader first left before at → HasEncoded work next ending first now before at
encoded far work reader next first left now before at ending walks little kept packets h =
    let end = walks h.payloads h.stands in
    record {
      payloads = h.payloads;
      of_input = subst (λ n. IfSome first (λ bytes. IsCut n next.max bytes h.payloads ending)) (packets ∙ sym h.packets) end.1;
      read = subst (λ (e : Option StreamEnding). IsReadTo next.max e first now) kept (read_so_far far next first now h.payloads next.max refl end.0 little);
      at_end = end.2;
      sent = h.sent;
    }

-- All is encoded

pub all_encoded : (work : Encoding) (reader : StreamState) (ending : StreamEnding) (first now before at after : Option (List ℕ))
    → Gains at work.trace after → HasEncoded work reader ending first now before at → IsEncoded work.encoder.settings reader.max ending first now before after
all_encoded work reader ending first now before at after gained h = record {
  encodes = record {
    payloads = h.payloads;
    of_input = h.of_input;
    gained = Sent-whole before at after (trace_of (encoding work.encoder.settings h.payloads)) work.trace h.sent gained;
  };
  read = h.read;
  at_end = h.at_end;
}

-- the last bytes are not all written, for a fault
part_at_end : OneCut → (settings : Settings) (max : ℕ) (first : Option (List ℕ)) (payloads : List (List ℕ)) (ending : StreamEnding) (before after : Option (List ℕ))
    → IfSome first (λ bytes. IsCut settings.packets max bytes payloads ending) → GainsPart before (trace_of (encoding settings payloads)) after
    → EncodesPart settings max first before after
part_at_end law settings max None payloads ending before after cut part = tt
part_at_end law settings max (Some bytes) payloads ending before after cut part = λ all other k.
    subst (λ (ps : List (List ℕ)). GainsPart before (trace_of (encoding settings ps)) after) (law settings.packets max bytes payloads all ending other cut k).0 part

pub breaks_at_end : OneCut → (work : Encoding) (reader : StreamState) (ending : StreamEnding) (first now before at after : Option (List ℕ))
    → GainsPart at work.trace after → HasEncoded work reader ending first now before at → Breaks work.encoder.settings reader.max first now before after
breaks_at_end law work reader ending first now before at after part h =
    let settings = work.encoder.settings in (
      part_at_end law settings reader.max first h.payloads ending before after h.of_input (Sent-cut before at after (trace_of (encoding settings h.payloads)) work.trace h.sent part),
      any_ending_to reader.max (Some ending) first now h.read,
    )

-- nothing is written
pub nothing_encoded : (settings : Settings) (max : ℕ) (first written : Option (List ℕ)) → EncodesPart settings max first written written
nothing_encoded settings max None written = tt
nothing_encoded settings max (Some bytes) written = λ payloads ending cut. GainsPart-nil written (trace_of (encoding settings payloads))

-- As it was set

pub encoded_as : (found settings : Settings) (limit max : ℕ) (came : Result StreamEnding Fault) (first now before after : Option (List ℕ)) → found ≡ settings → limit ≡ max
    → IfOk came (λ ending. IsEncoded found limit ending first now before after) → IfOk came (λ ending. IsEncoded settings max ending first now before after)
encoded_as found settings limit max came first now before after same within h =
    subst (λ n. IfOk came (λ ending. IsEncoded settings n ending first now before after)) within
    (subst (λ (s : Settings). IfOk came (λ ending. IsEncoded s limit ending first now before after)) same h)

pub breaks_as : (found settings : Settings) (limit max : ℕ) (came : Result StreamEnding Fault) (first now before after : Option (List ℕ)) → found ≡ settings → limit ≡ max
    → OnErr came (Breaks found limit first now before after) → OnErr came (Breaks settings max first now before after)
breaks_as found settings limit max came first now before after same within h =
    subst (λ n. OnErr came (Breaks settings n first now before after)) within
    (subst (λ (s : Settings). OnErr came (Breaks s limit first now before after)) same h)
