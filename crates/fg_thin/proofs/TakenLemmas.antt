-- Where a source of a thinned encoding stands, as payloads are taken and sent.
use Rattle.std.proofs.Common.{◌≡◌, ◌⊎◌, inl, inr, ⊎_elim, ℕ, suc, ◌+◌, ◌-◌, ◌*◌, ◌≤◌, Bool, true, false, Option, None, Some, IfSome, List, [], ◌∷◌, ◌++◌, length, take, drop, refl, sym, ap, subst, ◌∙◌, arith, zero-add, append_assoc, append-nil, length-append}
use Rattle.std.specs.Option.{option_map}
use Rattle.std.specs.List.{concat, flat_map}
use Rattle.std.specs.Io.KnownBytes.{IsAtEnd, prepend_known}
use Rattle.std.proofs.Math.Nat.{mul-suc}
use Rattle.std.proofs.Math.Seq.{drop-append-add}
use Rattle.std.proofs.lemmas.Grind.{flat_map-append}
use Rattle.std.proofs.lemmas.List.{take-append-drop, take_all, drop-append-le, drop_all, length-drop}
use Rattle.fg_io.specs.Source.{Gives}
use Rattle.fg_ts.specs.Packets.{ArePackets}
use Rattle.fg_trace.specs.Trace.{Record, magic, spelling, trace_of}
use Rattle.fg_encode.specs.Encoder.{EncoderState, StandsAfter}
use Rattle.fg_shape.specs.Settings.{CanEncode}
use Rattle.fg_encode.specs.Encoding.{encoding, records_at}
use Rattle.fg_encode.specs.Laws.{OneMoreAdds}
use Rattle.fg_encode.specs.Reading.{IsStreamReadFor, ReadsAsFar, ReadsLittle}
use Rattle.fg_encode.specs.Stream.{StreamEnding, AreFirst, IsCut}
use Rattle.fg_encode.specs.StreamReader.{StreamState, IsPlaced, StandsAfter as ReaderStands}
use Rattle.fg_shape.specs.declared.encoding.Settings.{Settings}
use Rattle.fg_shape.specs.declared.encoding.Losses.{Losses}
use Rattle.fg_thin.specs.PayloadLaws.{CutPayloads, FirstPayloads}
use Rattle.fg_thin.specs.Payloads.{payloads_of}
use Rattle.fg_thin.specs.declared.thinned.taking.Taking.{Taking}
use Rattle.fg_thin.specs.Sending.{SenderState, CanGoOn, IsReadOut, IsUnderWay, given_of, trace_so_far}
use Rattle.fg_thin.specs.Taking.{IsWay, KeepsWay, way_stream}
use Rattle.fg_thin.specs.Thinned.{is_lost, thinned, without}
use Rattle.fg_thin.specs.ThinnedSource.{EndsFor, ending_told, whole_stream, thinned_trace}
use Rattle.fg_encode.proofs.StreamPayloadLemmas.{joined}
use Rattle.fg_thin.proofs.WithoutLemmas.{without-append, without_same}

-- Payloads, what is held after them, and the rest of a source that told its bytes, are the bytes.
whole_is : (reader : StreamState) (bytes rest : List ℕ) (payloads : List (List ℕ)) → AreFirst reader.packets reader.max bytes payloads
    → IsPlaced reader (length payloads) → drop reader.place bytes ≡ reader.held ++ rest → (reader.ended ≡ true → rest ≡ [])
    → bytes ≡ (concat payloads ++ reader.held) ++ rest
whole_is reader bytes rest payloads cut (inl there) split end =
    let front : concat payloads ≡ take reader.place bytes = ap concat cut.cut ∙ joined reader.packets bytes (length payloads) ∙ ap (λ n. take n bytes) (sym there) in
    sym (take-append-drop reader.place bytes)
    ∙ ap (λ t. t ++ drop reader.place bytes) (sym front)
    ∙ ap (λ t. concat payloads ++ t) split
    ∙ sym (append_assoc (concat payloads) reader.held rest)
whole_is reader bytes rest payloads cut (inr past) split end =
    let none : rest ≡ [] = end past.1 in
    let left : drop reader.place bytes ≡ [] = split ∙ ap (λ t. t ++ rest) past.2 ∙ none in
    let few : length bytes ≤ reader.place = omega (arith, length-drop reader.place bytes, ap length left) in
    let front : concat payloads ≡ bytes = ap concat cut.cut ∙ joined reader.packets bytes (length payloads) ∙ take_all (188 * reader.packets * length payloads) bytes (omega (arith, past.0)) in
    sym (ap (λ t. (concat payloads ++ reader.held) ++ t) none ∙ append-nil (concat payloads ++ reader.held) ∙ ap (λ t. concat payloads ++ t) past.2 ∙ append-nil (concat payloads) ∙ front)

-- So the whole stream follows from where a reader stands.
pub stream_stays : (reader : StreamState) (first now : Option (List ℕ)) (payloads : List (List ℕ)) → ReaderStands reader first now payloads
    → whole_stream payloads reader.held now ≡ first
stream_stays reader None None payloads h = refl
stream_stays reader None (Some rest) payloads h = let given = h.given in cc
stream_stays reader (Some bytes) None payloads h = let given = h.given in cc
stream_stays reader (Some bytes) (Some rest) payloads h =
    let split : drop reader.place bytes ≡ reader.held ++ rest = (let given = h.given in cc) in
    ap (λ t. Some t) (sym (whole_is reader bytes rest payloads h.cut h.placed split h.at_end))

-- Where a reader stands, it stands after what it says of the whole stream.
pub stands_there : (reader : StreamState) (first now : Option (List ℕ)) (payloads : List (List ℕ)) → ReaderStands reader first now payloads
    → ReaderStands reader (whole_stream payloads reader.held now) now payloads
stands_there reader first now payloads h = subst (λ t. ReaderStands reader t now payloads) (sym (stream_stays reader first now payloads h)) h

-- The trace of one payload more.
pub trace_more : (settings : Settings) (lost : ℕ → Bool) (payloads : List (List ℕ)) (payload : List ℕ) → OneMoreAdds
    → trace_of (thinned settings lost (payloads ++ payload ∷ []))
    ≡ trace_of (thinned settings lost payloads) ++ flat_map spelling (without lost (length (encoding settings payloads)) (records_at settings (payloads ++ payload ∷ []) (length payloads)))
trace_more settings lost payloads payload adds =
    let sent : List Record = encoding settings payloads in
    let more : List Record = records_at settings (payloads ++ payload ∷ []) (length payloads) in
    ap (λ rs. magic ++ flat_map spelling (without lost 0 rs)) (adds settings payloads payload)
    ∙ ap (λ rs. magic ++ flat_map spelling rs) (without-append lost 0 sent more)
    ∙ ap (λ t. magic ++ t) (flat_map-append spelling (without lost 0 sent) (without lost (0 + length sent) more))
    ∙ sym (append_assoc magic (flat_map spelling (without lost 0 sent)) (flat_map spelling (without lost (0 + length sent) more)))
    ∙ ap (λ n. (magic ++ flat_map spelling (without lost 0 sent)) ++ flat_map spelling (without lost n more)) (zero-add (length sent))

-- The trace of further payloads goes on after that of the first.
pub trace_later : (settings : Settings) (lost : ℕ → Bool) (payloads more : List (List ℕ)) → OneMoreAdds
    → (later : List ℕ) × (trace_of (thinned settings lost (payloads ++ more)) ≡ trace_of (thinned settings lost payloads) ++ later)
trace_later settings lost payloads [] adds =
    ([], ap (λ t. trace_of (thinned settings lost t)) (append-nil payloads) ∙ sym (append-nil (trace_of (thinned settings lost payloads))))
trace_later settings lost payloads (p ∷ ps) adds =
    let one = flat_map spelling (without lost (length (encoding settings payloads)) (records_at settings (payloads ++ p ∷ []) (length payloads))) in
    let rest = trace_later settings lost (payloads ++ p ∷ []) ps adds in (
      one ++ rest.0,
      ap (λ t. trace_of (thinned settings lost t)) (sym (append_assoc payloads (p ∷ []) ps))
          ∙ rest.1
          ∙ ap (λ t. t ++ rest.0) (trace_more settings lost payloads p adds)
          ∙ append_assoc (trace_of (thinned settings lost payloads)) one rest.0,
    )

-- The encoder can take a payload that was answered: a shorter one was the last.
pub can_take : (old new : StreamState) (encoder : EncoderState) (payloads : List (List ℕ)) (count : ℕ) → CanGoOn old encoder payloads
    → (old.ended ≡ true → (new.ended ≡ true) × (new.payload ++ new.held ≡ old.held)) → 1 ≤ count → ArePackets new.payload count
    → StandsAfter encoder payloads × (old.place ≡ 188 * old.packets * length payloads)
can_take old new encoder payloads count (inl can) ended some whole = can
can_take old new encoder payloads count (inr over) ended some whole =
    let none : length (new.payload ++ new.held) ≡ 0 = ap length ((ended over.0).1 ∙ over.1) in
    absurd (omega (arith, none, length-append new.payload new.held, whole.whole, some))

-- It can take another one after a whole one.
pub goes_on : (new : StreamState) (old_place taken : ℕ) (encoder after : EncoderState) (payloads : List (List ℕ)) → old_place ≡ 188 * new.packets * length payloads
    → new.packets ≡ encoder.settings.packets → new.place ≡ old_place + length new.payload
    → (length new.payload ≡ 188 * new.packets) ⊎ ((new.ended ≡ true) × (new.held ≡ []))
    → (length new.payload ≡ 188 * encoder.settings.packets → StandsAfter after (payloads ++ new.payload ∷ []))
    → CanGoOn new after (payloads ++ new.payload ∷ [])
goes_on new old_place taken encoder after payloads there packets place (inr last) stands = inr last
goes_on new old_place taken encoder after payloads there packets place (inl whole) stands =
    let more : length (payloads ++ new.payload ∷ []) ≡ suc (length payloads) = omega (arith, length-append payloads (new.payload ∷ [])) in
    let product : 188 * new.packets * suc (length payloads) ≡ 188 * new.packets + 188 * new.packets * length payloads = omega (arith, mul-suc (188 * new.packets) (length payloads)) in
    inl (
      stands (whole ∙ ap (λ n. 188 * n) packets),
      place ∙ ap (λ n. n + length new.payload) there ∙ ap (λ n. 188 * new.packets * length payloads + n) whole
          ∙ (let a : 188 * new.packets * length payloads + 188 * new.packets ≡ 188 * new.packets * suc (length payloads) = omega (arith, product) in a)
          ∙ ap (λ n. 188 * new.packets * n) (sym more),
    )

-- Nothing was answered, so nothing was sent.
pub nothing_taken :
    (old : Taking) (reader : StreamState) (told : Bool) (fault : StreamEnding) (left rest : Option (List ℕ))
    → IsWay old left → old.told ≡ false → old.sender.held ≡ []
    → ReaderStands reader (way_stream old left) rest old.history.payloads
    → reader.payload ≡ [] → reader.packets ≡ old.reader.packets → reader.max ≡ old.reader.max → reader.place ≡ old.reader.place + length reader.payload
    → (old.reader.ended ≡ true → (reader.ended ≡ true) × (reader.payload ++ reader.held ≡ old.reader.held))
    → (told ≡ true → reader.kept ≡ Some fault) → (told ≡ false → (reader.kept ≡ None) × (fault ≡ None))
    → ReadsLittle reader → IsReadOut told fault rest
    → KeepsWay old left (record old { reader = reader; told = told; fault = fault }) rest
nothing_taken old reader told fault left rest h unended empty stands none packets max place ended says quiet little read_out =
    let payloads = old.history.payloads in
    let still : reader.place ≡ old.reader.place = omega (arith, place, ap length none) in
    record {
      way = record {
        stands = stands_there reader (way_stream old left) rest payloads stands;
        fits = h.fits;
        packets = packets ∙ h.packets;
        limit = omega (arith, max, h.limit);
        little = little;
        number = h.number;
        counted = omega (arith, still, h.counted);
        goes_on = ⊎_elim
            (λ (can : StandsAfter old.sender.encoder payloads × (old.reader.place ≡ 188 * old.reader.packets * length payloads)). inl (can.0, still ∙ can.1 ∙ ap (λ n. 188 * n * length payloads) (sym packets)))
            (λ (over : (old.reader.ended ≡ true) × (old.reader.held ≡ [])). let now = ended over.0 in inr (now.0, sym (ap (λ t. t ++ reader.held) none) ∙ now.1 ∙ over.1))
            h.goes_on;
        held = h.held;
        told_all = λ is. (empty, says is);
        untold = quiet;
      };
      read_out = read_out;
      stream = stream_stays reader (way_stream old left) rest payloads stands;
      given = refl;
      settings = refl;
      losses = refl;
      max = max;
    }

-- The trace after a payload that was sent.
counts : (now was held none : ℕ) → now ≡ was + held → none ≡ 0 → now - held ≡ was - none
counts now was held none grown empty = omega arith

trace_sent :
    (sender after : SenderState) (payloads : List (List ℕ)) (payload : List ℕ) → sender.number ≡ length (encoding sender.encoder.settings payloads)
    → after.held ≡ flat_map spelling (without (is_lost sender.losses) sender.number (records_at sender.encoder.settings (payloads ++ payload ∷ []) (length payloads)))
    → after.encoder.settings ≡ sender.encoder.settings → after.losses ≡ sender.losses → OneMoreAdds
    → trace_so_far after (payloads ++ payload ∷ []) ≡ trace_so_far sender payloads ++ after.held
trace_sent sender after payloads payload number held settings losses adds =
    ap (λ s. trace_of (thinned s (is_lost after.losses) (payloads ++ payload ∷ []))) settings
    ∙ ap (λ l. trace_of (thinned sender.encoder.settings (is_lost l) (payloads ++ payload ∷ []))) losses
    ∙ trace_more sender.encoder.settings (is_lost sender.losses) payloads payload adds
    ∙ ap (λ n. trace_so_far sender payloads ++ flat_map spelling (without (is_lost sender.losses) n (records_at sender.encoder.settings (payloads ++ payload ∷ []) (length payloads)))) (sym number)
    ∙ ap (λ t. trace_so_far sender payloads ++ t) (sym held)

-- A payload was answered and sent.
pub payload_sent :
    (old new : StreamState) (sender after : SenderState) (payloads : List (List ℕ)) (told : Bool) (fault : StreamEnding) (left rest : Option (List ℕ)) (count : ℕ)
    → IsUnderWay old sender payloads told fault left → told ≡ false
    → ReaderStands new (whole_stream payloads old.held left) rest (payloads ++ new.payload ∷ [])
    → new.packets ≡ old.packets → new.max ≡ old.max → new.place ≡ old.place + length new.payload → ReadsLittle new → new.kept ≡ None
    → (length new.payload ≡ 188 * new.packets) ⊎ ((new.ended ≡ true) × (new.held ≡ []))
    → old.place ≡ 188 * old.packets * length payloads → 1 ≤ count → ArePackets new.payload count
    → after.held ≡ flat_map spelling (without (is_lost sender.losses) sender.number (records_at sender.encoder.settings (payloads ++ new.payload ∷ []) (length payloads)))
    → after.number ≡ sender.number + length (records_at sender.encoder.settings (payloads ++ new.payload ∷ []) (length payloads))
    → after.number ≤ sender.number + 3
    → (length new.payload ≡ 188 * sender.encoder.settings.packets → StandsAfter after.encoder (payloads ++ new.payload ∷ []))
    → after.encoder.settings ≡ sender.encoder.settings → after.losses ≡ sender.losses → OneMoreAdds
    → IsUnderWay new after (payloads ++ new.payload ∷ []) told fault rest
payload_sent old new sender after payloads told fault left rest count h unended stands packets max place little kept last there some whole held number few goes settings losses adds =
    let all = payloads ++ new.payload ∷ [] in
    let s = sender.encoder.settings in
    let sent : List Record = encoding s payloads in
    let more : List Record = records_at s all (length payloads) in
    record {
      stands = stands_there new (whole_stream payloads old.held left) rest all stands;
      fits = subst CanEncode (sym settings) h.fits;
      packets = packets ∙ h.packets ∙ ap (λ (t : Settings). t.packets) (sym settings);
      limit = omega (arith, max, h.limit);
      little = little;
      number =
          number ∙ ap (λ n. n + length more) h.number ∙ sym (length-append sent more)
          ∙ ap (λ (l : List Record). length l) (sym (adds s payloads new.payload)) ∙ ap (λ t. length (encoding t all)) (sym settings);
      counted = omega (arith, few, h.counted, place, whole.whole, some);
      goes_on = goes_on new old.place (length payloads) sender.encoder after.encoder payloads (there ∙ ap (λ n. 188 * n * length payloads) (sym packets)) (packets ∙ h.packets) place last goes;
      held = (trace_so_far sender payloads, trace_sent sender after payloads new.payload h.number held settings losses adds);
      told_all = λ is. absurd (let a : true ≡ false = sym is ∙ unended in cc);
      untold = λ is. (kept, (h.untold unended).1);
    }

-- None of its bytes was given.
pub none_given :
    (sender after : SenderState) (payloads : List (List ℕ)) (payload : List ℕ) → sender.number ≡ length (encoding sender.encoder.settings payloads) → sender.held ≡ []
    → after.held ≡ flat_map spelling (without (is_lost sender.losses) sender.number (records_at sender.encoder.settings (payloads ++ payload ∷ []) (length payloads)))
    → after.encoder.settings ≡ sender.encoder.settings → after.losses ≡ sender.losses → OneMoreAdds
    → given_of after (payloads ++ payload ∷ []) ≡ given_of sender payloads
none_given sender after payloads payload number empty held settings losses adds =
    let grown = ap (λ (l : List ℕ). length l) (trace_sent sender after payloads payload number held settings losses adds) ∙ length-append (trace_so_far sender payloads) after.held in
    let none : length sender.held ≡ 0 = ap (λ (l : List ℕ). length l) empty in
    let a : length (trace_so_far after (payloads ++ payload ∷ [])) - length after.held ≡ length (trace_so_far sender payloads) - length sender.held = counts (length (trace_so_far after (payloads ++ payload ∷ []))) (length (trace_so_far sender payloads)) (length after.held) (length sender.held) grown none in
    a

-- Some of what is held was given.
pub after_give :
    (reader : StreamState) (sender : SenderState) (payloads : List (List ℕ)) (told : Bool) (fault : StreamEnding) (rest : Option (List ℕ)) (count : ℕ)
    → IsUnderWay reader sender payloads told fault rest → IsUnderWay reader (record sender { held = drop count sender.held }) payloads told fault rest
after_give reader sender payloads told fault rest count h = record {
  stands = h.stands;
  fits = h.fits;
  packets = h.packets;
  limit = h.limit;
  little = h.little;
  number = h.number;
  counted = h.counted;
  goes_on = h.goes_on;
  held = (
    h.held.0 ++ take count sender.held,
    h.held.1 ∙ ap (λ t. h.held.0 ++ t) (sym (take-append-drop count sender.held)) ∙ sym (append_assoc h.held.0 (take count sender.held) (drop count sender.held)),
  );
  told_all = λ is. let all = h.told_all is in (drop_all count sender.held (omega (arith, ap (λ (l : List ℕ). length l) all.0)), all.1);
  untold = h.untold;
}

-- What is given next is the front of what is held.
pub gives_held : (trace gone held later all : List ℕ) (count : ℕ) → all ≡ trace ++ later → trace ≡ gone ++ held → count ≤ length held
    → drop (length trace - length held) all ≡ take count held ++ drop (length trace - length (drop count held)) all
gives_held trace gone held later all count whole split few =
    let back : all ≡ gone ++ (held ++ later) = whole ∙ ap (λ t. t ++ later) split ∙ append_assoc gone held later in
    let size : length trace ≡ length gone + length held = ap length split ∙ length-append gone held in
    let was : length trace - length held ≡ length gone + 0 = omega (arith, size) in
    let is : length trace - length (drop count held) ≡ length gone + count = omega (arith, size, length-drop count held) in
    ap (λ n. drop n all) was ∙ ap (drop (length gone + 0)) back ∙ drop-append-add gone (held ++ later) 0
    ∙ ap (λ t. t ++ later) (sym (take-append-drop count held))
    ∙ append_assoc (take count held) (drop count held) later
    ∙ ap (λ t. take count held ++ t) (sym (
    ap (λ n. drop n all) is ∙ ap (drop (length gone + count)) back ∙ drop-append-add gone (held ++ later) count ∙ drop-append-le count held later few))

-- What is left to be given, of a source that stands so.
abbrev pub left_of : StreamState → SenderState → List (List ℕ) → Option (List ℕ) → Option (List ℕ)
left_of reader sender payloads rest =
    option_map (λ bytes. drop (given_of sender payloads) (thinned_trace sender.encoder.settings sender.losses reader.max bytes)) (whole_stream payloads reader.held rest)

-- The whole trace begins with that of the payloads so far.
begins : (reader : StreamState) (sender : SenderState) (payloads : List (List ℕ)) (bytes : List ℕ) → CanEncode sender.encoder.settings → reader.packets ≡ sender.encoder.settings.packets
    → AreFirst reader.packets reader.max bytes payloads → FirstPayloads → OneMoreAdds
    → (later : List ℕ) × (thinned_trace sender.encoder.settings sender.losses reader.max bytes ≡ trace_so_far sender payloads ++ later)
begins reader sender payloads bytes fits packets cut firsts adds =
    let s = sender.encoder.settings in
    let first = firsts s.packets reader.max bytes payloads fits.packets.0 (subst (λ n. AreFirst n reader.max bytes payloads) packets cut) in
    let later = trace_later s (is_lost sender.losses) payloads first.0 adds in
    (later.0, ap (λ t. trace_of (thinned s (is_lost sender.losses) t)) first.1 ∙ later.1)

given_front :
    (reader : StreamState) (sender : SenderState) (payloads : List (List ℕ)) (stream : Option (List ℕ)) (count : ℕ) → CanEncode sender.encoder.settings → reader.packets ≡ sender.encoder.settings.packets
    → IfSome stream (λ bytes. AreFirst reader.packets reader.max bytes payloads) → (gone : List ℕ) × (trace_so_far sender payloads ≡ gone ++ sender.held)
    → count ≤ length sender.held → FirstPayloads → OneMoreAdds
    → option_map (λ bytes. drop (given_of sender payloads) (thinned_trace sender.encoder.settings sender.losses reader.max bytes)) stream
    ≡ prepend_known (take count sender.held) (option_map (λ bytes. drop (given_of (record sender { held = drop count sender.held }) payloads) (thinned_trace sender.encoder.settings sender.losses reader.max bytes)) stream)
given_front reader sender payloads None count fits packets cut held few firsts adds = refl
given_front reader sender payloads (Some bytes) count fits packets cut held few firsts adds =
    let whole = begins reader sender payloads bytes fits packets cut firsts adds in
    ap (λ t. Some t) (gives_held (trace_so_far sender payloads) held.0 sender.held whole.0 (thinned_trace sender.encoder.settings sender.losses reader.max bytes) count whole.1 held.1 few)

-- What was given is the front of what was left.
pub gives_front :
    (reader : StreamState) (sender : SenderState) (payloads : List (List ℕ)) (told : Bool) (fault : StreamEnding) (rest : Option (List ℕ)) (count : ℕ)
    → IsUnderWay reader sender payloads told fault rest → count ≤ length sender.held → FirstPayloads → OneMoreAdds
    → Gives (left_of reader sender payloads rest) (take count sender.held) (left_of reader (record sender { held = drop count sender.held }) payloads rest)
gives_front reader sender payloads told fault rest count h few firsts adds =
    given_front reader sender payloads (whole_stream payloads reader.held rest) count h.fits h.packets h.stands.cut h.held few firsts adds

-- An ending says so of the payloads that are a function of the stream's bytes.
told_for : (reader : StreamState) (packets : ℕ) (fault : StreamEnding) (stream : Option (List ℕ)) (payloads : List (List ℕ)) → reader.packets ≡ packets → 1 ≤ packets → CutPayloads
    → IfSome stream (λ bytes. IsCut reader.packets reader.max bytes payloads fault)
    → IfSome stream (λ bytes. EndsFor fault packets reader.max bytes × (payloads_of packets reader.max bytes ≡ payloads))
told_for reader packets fault None payloads same some cuts h = tt
told_for reader packets fault (Some bytes) payloads same some cuts h =
    let cut : IsCut packets reader.max bytes payloads fault = subst (λ n. IsCut n reader.max bytes payloads fault) same h in
    let is = cuts packets reader.max bytes payloads fault some cut in
    (subst (λ t. IsCut packets reader.max bytes t fault) (sym is) cut, is)

-- Once the end is told, the stream ends so, and its payloads are those that were taken.
ends_told :
    (reader : StreamState) (sender : SenderState) (payloads : List (List ℕ)) (told : Bool) (fault : StreamEnding) (rest : Option (List ℕ))
    → CutPayloads → IsUnderWay reader sender payloads told fault rest → told ≡ true
    → IfSome (whole_stream payloads reader.held rest) (λ bytes. EndsFor fault sender.encoder.settings.packets reader.max bytes × (payloads_of sender.encoder.settings.packets reader.max bytes ≡ payloads))
ends_told reader sender payloads told fault rest cuts h is =
    told_for reader sender.encoder.settings.packets fault (whole_stream payloads reader.held rest) payloads h.packets h.fits.packets.0 cuts
    (subst (λ (k : Option StreamEnding). IfSome k (λ e. IfSome (whole_stream payloads reader.held rest) (λ bytes. IsCut reader.packets reader.max bytes payloads e))) (h.told_all is).1 h.stands.ending)

fault_of : (stream : Option (List ℕ)) (fault : StreamEnding) (packets max : ℕ) (payloads : List (List ℕ))
    → IfSome stream (λ bytes. EndsFor fault packets max bytes × (payloads_of packets max bytes ≡ payloads)) → IfSome stream (λ bytes. EndsFor fault packets max bytes)
fault_of None fault packets max payloads h = tt
fault_of (Some bytes) fault packets max payloads h = h.0

pub ends_for :
    (reader : StreamState) (sender : SenderState) (payloads : List (List ℕ)) (told : Bool) (fault : StreamEnding) (rest : Option (List ℕ))
    → CutPayloads → IsUnderWay reader sender payloads told fault rest → told ≡ true
    → IfSome (whole_stream payloads reader.held rest) (λ bytes. EndsFor fault sender.encoder.settings.packets reader.max bytes)
ends_for reader sender payloads told fault rest cuts h is =
    fault_of (whole_stream payloads reader.held rest) fault sender.encoder.settings.packets reader.max payloads (ends_told reader sender payloads told fault rest cuts h is)

given_all : (settings : Settings) (losses : Losses) (max given : ℕ) (stream : Option (List ℕ)) (fault : StreamEnding) (payloads : List (List ℕ))
    → IfSome stream (λ bytes. EndsFor fault settings.packets max bytes × (payloads_of settings.packets max bytes ≡ payloads)) → length (trace_of (thinned settings (is_lost losses) payloads)) ≤ given
    → IsAtEnd (option_map (λ bytes. drop given (thinned_trace settings losses max bytes)) stream)
given_all settings losses max given None fault payloads h most = tt
given_all settings losses max given (Some bytes) fault payloads h most =
    ap (λ t. drop given (trace_of (thinned settings (is_lost losses) t))) h.1 ∙ drop_all given (trace_of (thinned settings (is_lost losses) payloads)) most

-- And nothing is left.
pub at_end :
    (reader : StreamState) (sender : SenderState) (payloads : List (List ℕ)) (told : Bool) (fault : StreamEnding) (rest : Option (List ℕ))
    → CutPayloads → IsUnderWay reader sender payloads told fault rest → told ≡ true → IsAtEnd (left_of reader sender payloads rest)
at_end reader sender payloads told fault rest cuts h is =
    given_all sender.encoder.settings sender.losses reader.max (given_of sender payloads) (whole_stream payloads reader.held rest) fault payloads (ends_told reader sender payloads told fault rest cuts h is)
    (omega (arith, ap (λ (l : List ℕ). length l) (h.told_all is).0))

mapped : (o : Option (List ℕ)) (f g : List ℕ → List ℕ) → ((bytes : List ℕ) → f bytes ≡ g bytes) → option_map f o ≡ option_map g o
mapped None f g h = refl
mapped (Some bytes) f g h = ap (λ t. Some t) (h bytes)

-- Nothing was given yet, and the losses tell the same.
pub new_left : (settings settings' : Settings) (losses losses' : Losses) (max max' given : ℕ) (stream left : Option (List ℕ))
    → settings ≡ settings' → ((n : ℕ) → is_lost losses n ≡ is_lost losses' n) → max ≡ max' → given ≡ 0 → stream ≡ left
    → option_map (λ bytes. drop given (thinned_trace settings losses max bytes)) stream ≡ option_map (λ bytes. thinned_trace settings' losses' max' bytes) left
new_left settings settings' losses losses' max max' given stream left same lost most none is =
    let one : (bytes : List ℕ) → thinned_trace settings losses max bytes ≡ thinned_trace settings' losses' max' bytes = λ bytes.
    ap (λ s. thinned_trace s losses max bytes) same ∙ ap (λ n. thinned_trace settings' losses n bytes) most
    ∙ ap (λ rs. trace_of rs) (without_same (is_lost losses) (is_lost losses') lost 0 (encoding settings' (payloads_of settings'.packets max' bytes))) in
    ap (λ n. option_map (λ bytes. drop n (thinned_trace settings losses max bytes)) stream) none
    ∙ ap (λ s. option_map (λ bytes. thinned_trace settings losses max bytes) s) is
    ∙ mapped left (λ bytes. thinned_trace settings losses max bytes) (λ bytes. thinned_trace settings' losses' max' bytes) one

-- What is left stays the same while none of its parts changes.
pub same_left : (settings settings' : Settings) (losses losses' : Losses) (max max' given given' : ℕ) (stream stream' : Option (List ℕ))
    → settings' ≡ settings → losses' ≡ losses → max' ≡ max → given' ≡ given → stream' ≡ stream
    → option_map (λ bytes. drop given (thinned_trace settings losses max bytes)) stream ≡ option_map (λ bytes. drop given' (thinned_trace settings' losses' max' bytes)) stream'
same_left settings settings' losses losses' max max' given given' stream stream' a b c d e =
    sym (
    ap (λ s. option_map (λ bytes. drop given' (thinned_trace s losses' max' bytes)) stream') a
    ∙ ap (λ l. option_map (λ bytes. drop given' (thinned_trace settings l max' bytes)) stream') b
    ∙ ap (λ n. option_map (λ bytes. drop given' (thinned_trace settings losses n bytes)) stream') c
    ∙ ap (λ n. option_map (λ bytes. drop n (thinned_trace settings losses max bytes)) stream') d
    ∙ ap (λ t. option_map (λ bytes. drop given (thinned_trace settings losses max bytes)) t) e)

-- How far the stream was read: as far as the ending needs that was told.
same_told : (told : Bool) (fault : StreamEnding) (kept : Option StreamEnding) → (told ≡ true → kept ≡ Some fault) → (told ≡ false → kept ≡ None) → kept ≡ ending_told told fault
same_told true fault kept says quiet = says refl
same_told false fault kept says quiet = quiet refl

read_first :
    (reader : StreamState) (first rest : Option (List ℕ)) (payloads : List (List ℕ)) → ReadsAsFar → ReaderStands reader first rest payloads
    → ReadsLittle reader → IfSome first (λ bytes. IsStreamReadFor reader.max reader.kept bytes rest)
read_first reader None rest payloads reads stands little = tt
read_first reader (Some bytes) rest payloads reads stands little = reads reader bytes rest payloads stands little

pub read_for :
    (reader : StreamState) (sender : SenderState) (payloads : List (List ℕ)) (told : Bool) (fault : StreamEnding) (rest : Option (List ℕ))
    → ReadsAsFar → IsUnderWay reader sender payloads told fault rest
    → IfSome (whole_stream payloads reader.held rest) (λ bytes. IsStreamReadFor reader.max (ending_told told fault) bytes rest)
read_for reader sender payloads told fault rest reads h =
    let first = whole_stream payloads reader.held rest in
    subst (λ (ending : Option StreamEnding). IfSome first (λ bytes. IsStreamReadFor reader.max ending bytes rest))
    (same_told told fault reader.kept (λ is. (h.told_all is).1) (λ is. (h.untold is).0))
    (read_first reader first rest payloads reads h.stands h.little)
