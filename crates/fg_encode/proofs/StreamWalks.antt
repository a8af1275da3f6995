-- Where a reader of a stream stands, as it takes bytes in, answers payloads, and ends.
use Rattle.std.proofs.Common.{◌≡◌, ◌⊎◌, inl, inr, ⊎_elim, ℕ, suc, ◌+◌, ◌-◌, ◌*◌, ◌/◌, ◌<◌, ◌≤◌, true, Bool, min, Option, None, Some, IfSome, Ok, List, [], ◌∷◌, ◌++◌, length, map, take, drop, refl, sym, ap, ◌∙◌, arith, subst, append-nil, length-append, zero-add}
use Rattle.std.specs.Option.{option_map}
use Rattle.std.specs.List.{range_with_len}
use Rattle.std.specs.Io.KnownBytes.{IsAtEnd}
use Rattle.std.proofs.Math.Nat.{mul-suc, mul_assoc}
use Rattle.std.proofs.lemmas.Bool.{cases_lt}
use Rattle.std.proofs.lemmas.List.{take_all, take-append-le, drop-drop, drop-append-le, drop_all, length-take, length-drop, map-append}
use Rattle.fg_io.specs.Source.{Gives}
use Rattle.fg_ts.specs.declared.TsFault.TheVariants.{Ragged, NoSync}
use Rattle.fg_ts.specs.Packets.{ArePackets, FirstFault}
use Rattle.fg_encode.specs.declared.stream.StreamStep.TheVariants.{End}
use Rattle.fg_encode.specs.declared.stream.StreamFault.TheVariants.{NotTransport, TooLong}
use Rattle.fg_encode.specs.Stream.{payload_of, IsAcceptable, AreFirst, IsCut, LeavesNothing, StreamEnding}
use Rattle.fg_encode.specs.StreamReader.{StreamState, KeepsEnding, IsPlaced, StandsAfter, Walks, EndsHere}
use Rattle.fg_encode.specs.StreamSteps.{TakesIn, HoldsEnough, Accepts, after_payload}
use Rattle.fg_encode.proofs.ListLemmas.{range_more}
use Rattle.fg_io.proofs.SourceLemmas.{Gives-trans}

-- Nothing is kept, so what is kept is right.
keeps_none : (reader : StreamState) (first : Option (List ℕ)) (payloads : List (List ℕ)) → reader.kept ≡ None → KeepsEnding reader first payloads
keeps_none reader first payloads none =
    subst (λ (kept : Option StreamEnding). IfSome kept (λ ending. IfSome first (λ bytes. IsCut reader.packets reader.max bytes payloads ending))) (sym none) tt

still_placed : (old new : StreamState) (left rest : Option (List ℕ)) (count : ℕ) → IsPlaced old count → TakesIn old left new rest → IsPlaced new count
still_placed old new left rest count (inl there) k = inl (subst (λ (t : StreamState). t.place ≡ 188 * t.packets * count) (sym k.same) there)
still_placed old new left rest count (inr past) k =
    let stays = k.stays past.1 in
    inr (subst (λ (t : StreamState). t.place ≤ 188 * t.packets * count) (sym k.same) past.0, stays.0, stays.1 ∙ past.2)

-- Bytes were taken in.
pub after_taking : (old new : StreamState) (first left rest : Option (List ℕ)) (payloads : List (List ℕ)) → StandsAfter old first left payloads → TakesIn old left new rest → StandsAfter new first rest payloads
after_taking old new first left rest payloads h k =
    let place : old.place ≡ new.place = sym (ap (λ (t : StreamState). t.place) k.same) in
    let more : Gives (option_map (drop old.place) first) (old.held ++ k.takes.given) rest =
    Gives-trans (option_map (drop old.place) first) left rest old.held k.takes.given h.given k.takes.gives in
    record {
      cut = subst (λ (t : StreamState). IfSome first (λ bytes. AreFirst t.packets t.max bytes payloads)) (sym k.same) h.cut;
      placed = still_placed old new left rest (length payloads) h.placed k;
      given = subst (λ n. Gives (option_map (drop n) first) new.held rest) place (subst (λ t. Gives (option_map (drop old.place) first) t rest) (sym k.takes.grown) more);
      at_end = λ over. ⊎_elim (λ (was : old.ended ≡ true). subst IsAtEnd (sym (k.stays was).2) (h.at_end was)) (λ end. end) (k.at_end over);
      ending = subst (λ (t : StreamState). KeepsEnding t first payloads) (sym k.same) h.ending;
    }

-- Where there is a next payload, it begins at its place.
pub placed_here : (reader : StreamState) (count : ℕ) → IsPlaced reader count → 1 ≤ length reader.held → reader.place ≡ 188 * reader.packets * count
placed_here reader count (inl there) some = there
placed_here reader count (inr past) some = absurd (omega (arith, some, ap length past.2))

-- The next payload is whole, or the source has come to its end.
whole_or_end : (reader : StreamState) → HoldsEnough reader → reader.place + length (take (188 * reader.packets) reader.held) ≤ reader.max → (188 * reader.packets ≤ length reader.held) ⊎ (reader.ended ≡ true)
whole_or_end reader enough within =
    ⊎_elim
    (λ (short : length reader.held < 188 * reader.packets).
    ⊎_elim (λ (full : 188 * reader.packets ≤ length reader.held). inl full)
    (λ late. ⊎_elim (λ (past : reader.max < reader.place + length reader.held). absurd (omega (arith, length-take (188 * reader.packets) reader.held))) (λ over. inr over) late) enough)
    (λ full. inl full)
    (cases_lt (length reader.held) (188 * reader.packets))

-- The next payload of the stream is the front of what is held.
next_is : (packets place i : ℕ) (bytes held rest : List ℕ) → place ≡ 188 * packets * i → drop place bytes ≡ held ++ rest → (188 * packets ≤ length held) ⊎ (rest ≡ []) → payload_of packets bytes i ≡ take (188 * packets) held
next_is packets place i bytes held rest there split (inl full) =
    ap (λ n. take (188 * packets) (drop n bytes)) (sym there) ∙ ap (take (188 * packets)) split ∙ take-append-le (188 * packets) held rest full
next_is packets place i bytes held rest there split (inr end) =
    ap (λ n. take (188 * packets) (drop n bytes)) (sym there) ∙ ap (take (188 * packets)) (split ∙ ap (λ t. held ++ t) end ∙ append-nil held)

-- How many bytes there are from a place on.
bytes_from : (place : ℕ) (bytes held rest : List ℕ) → drop place bytes ≡ held ++ rest → length bytes - place ≡ length held + length rest
bytes_from place bytes held rest split = sym (length-drop place bytes) ∙ ap length split ∙ length-append held rest

end_or_whole : (reader : StreamState) (rest : List ℕ) → (188 * reader.packets ≤ length reader.held) ⊎ (reader.ended ≡ true) → (reader.ended ≡ true → rest ≡ []) → (188 * reader.packets ≤ length reader.held) ⊎ (rest ≡ [])
end_or_whole reader rest (inl full) end = inl full
end_or_whole reader rest (inr over) end = inr (end over)

-- A list of the first payloads, and the next one.
first_more : (packets max : ℕ) (bytes : List ℕ) (payloads : List (List ℕ)) (payload : List ℕ) → AreFirst packets max bytes payloads → payload ≡ payload_of packets bytes (length payloads) → IsAcceptable packets max bytes (length payloads) → AreFirst packets max bytes (payloads ++ payload ∷ [])
first_more packets max bytes payloads payload h is k =
    let count : length (payloads ++ payload ∷ []) ≡ suc (length payloads) = omega (arith, length-append payloads (payload ∷ [])) in
    let f = payload_of packets bytes in
    record {
      cut =
          ap (λ t. t ++ payload ∷ []) h.cut
          ∙ ap (λ t. map f (range_with_len 0 (length payloads)) ++ t ∷ []) is
          ∙ sym (map-append f (range_with_len 0 (length payloads)) (length payloads ∷ []))
          ∙ ap (λ m. map f (range_with_len 0 (length payloads) ++ m ∷ [])) (sym (zero-add (length payloads)))
          ∙ ap (map f) (sym (range_more 0 (length payloads)))
          ∙ ap (λ n. map f (range_with_len 0 n)) (sym count);
      acceptable = λ i less. ⊎_elim (λ (before : i < length payloads). h.acceptable i before)
          (λ (last : length payloads ≤ i). subst (λ n. IsAcceptable packets max bytes n) (let same : length payloads ≡ i = omega (arith, less, count) in same) k)
          (cases_lt i (length payloads));
    }

-- The next payload of a stream whose bytes are told is acceptable.
first_after : (reader : StreamState) (bytes rest : List ℕ) (payloads : List (List ℕ)) → AreFirst reader.packets reader.max bytes payloads → IsPlaced reader (length payloads) → drop reader.place bytes ≡ reader.held ++ rest → (reader.ended ≡ true → rest ≡ []) → HoldsEnough reader → (k : Accepts reader)
    → AreFirst reader.packets reader.max bytes (payloads ++ take (188 * reader.packets) reader.held ∷ [])
first_after reader bytes rest payloads h placed split end enough k =
    let next = take (188 * reader.packets) reader.held in
    let i = length payloads in
    let few = length-take (188 * reader.packets) reader.held in
    let some : 1 ≤ length reader.held = omega (arith, few, k.whole.whole, k.least) in
    let there : reader.place ≡ 188 * reader.packets * i = placed_here reader i placed some in
    let is : payload_of reader.packets bytes i ≡ next =
    next_is reader.packets reader.place i bytes reader.held rest there split (end_or_whole reader rest (whole_or_end reader enough k.within) end) in
    let long = bytes_from reader.place bytes reader.held rest split in
    let counted : length (payload_of reader.packets bytes i) ≡ length next = ap length is in
    first_more reader.packets reader.max bytes payloads next h (sym is) (record {
      there = omega (arith, long, some, there);
      within = λ past. omega (arith, past.past, counted, there, k.within);
      whole = (k.count, subst (λ t. ArePackets t k.count) (sym is) k.whole);
    })

-- What is held behind the next payload, of which there is so much.
pub behind_next : (size : ℕ) (held : List ℕ) → drop (length (take size held)) held ≡ drop size held
behind_next size held =
    let few = length-take size held in
    ⊎_elim
    (λ (short : length held < size). drop_all (length (take size held)) held (omega (arith, few)) ∙ sym (drop_all size held (omega arith)))
    (λ (full : size ≤ length held). let same : length (take size held) ≡ size = omega (arith, few) in ap (λ n. drop n held) same)
    (cases_lt (length held) size)

-- What a source has given of the bytes from a place on, and from a later one.
given_behind : (place count : ℕ) (held : List ℕ) (first left : Option (List ℕ)) → Gives (option_map (drop place) first) held left → count ≤ length held → Gives (option_map (drop (place + count)) first) (drop count held) left
given_behind place count held None None gives few = refl
given_behind place count held None (Some rest) gives few = let told : None ≡ Some (held ++ rest) = gives in cc
given_behind place count held (Some bytes) None gives few = let told : Some (drop place bytes) ≡ None = gives in cc
given_behind place count held (Some bytes) (Some rest) gives few =
    let told : Some (drop place bytes) ≡ Some (held ++ rest) = gives in
    let split : drop place bytes ≡ held ++ rest = cc in
    ap (λ t. Some t) (sym (drop-drop count place bytes) ∙ ap (drop count) split ∙ drop-append-le count held rest few)

placed_after : (reader : StreamState) (count : ℕ) → IsPlaced reader count → 1 ≤ length reader.held → (188 * reader.packets ≤ length reader.held) ⊎ (reader.ended ≡ true) → IsPlaced (after_payload reader) (suc count)
placed_after reader count placed some enough =
    let there = placed_here reader count placed some in
    let few = length-take (188 * reader.packets) reader.held in
    let more = mul-suc (188 * reader.packets) count in
    ⊎_elim
    (λ (short : length reader.held < 188 * reader.packets).
    ⊎_elim (λ (full : 188 * reader.packets ≤ length reader.held). absurd (omega arith))
    (λ over. inr (omega (arith, few, more, there), over, drop_all (188 * reader.packets) reader.held (omega arith))) enough)
    (λ (full : 188 * reader.packets ≤ length reader.held). inl (omega (arith, few, more, there)))
    (cases_lt (length reader.held) (188 * reader.packets))

cut_after : (reader : StreamState) (first left : Option (List ℕ)) (payloads : List (List ℕ)) → StandsAfter reader first left payloads → HoldsEnough reader → (k : Accepts reader)
    → IfSome first (λ bytes. AreFirst reader.packets reader.max bytes (payloads ++ take (188 * reader.packets) reader.held ∷ []))
cut_after reader None left payloads h enough k = tt
cut_after reader (Some bytes) None payloads h enough k = let told : Some (drop reader.place bytes) ≡ None = h.given in absurd (cc)
cut_after reader (Some bytes) (Some rest) payloads h enough k =
    let told : Some (drop reader.place bytes) ≡ Some (reader.held ++ rest) = h.given in
    let split : drop reader.place bytes ≡ reader.held ++ rest = cc in
    first_after reader bytes rest payloads h.cut h.placed split h.at_end enough k

-- The next payload was answered.
pub after_answer : (reader : StreamState) (first left : Option (List ℕ)) (payloads : List (List ℕ)) → StandsAfter reader first left payloads → reader.kept ≡ None → HoldsEnough reader → (k : Accepts reader)
    → StandsAfter (after_payload reader) first left (payloads ++ take (188 * reader.packets) reader.held ∷ [])
after_answer reader first left payloads h none enough k =
    let next = take (188 * reader.packets) reader.held in
    let few = length-take (188 * reader.packets) reader.held in
    let some : 1 ≤ length reader.held = omega (arith, few, k.whole.whole, k.least) in
    let count : suc (length payloads) ≡ length (payloads ++ next ∷ []) = omega (arith, length-append payloads (next ∷ [])) in
    record {
      cut = cut_after reader first left payloads h enough k;
      placed = subst (IsPlaced (after_payload reader)) count (placed_after reader (length payloads) h.placed some (whole_or_end reader enough k.within));
      given = subst (λ t. Gives (option_map (drop (reader.place + length next)) first) t left) (behind_next (188 * reader.packets) reader.held)
          (given_behind reader.place (length next) reader.held first left h.given (omega (arith, few)));
      at_end = h.at_end;
      ending = keeps_none (after_payload reader) first (payloads ++ next ∷ []) none;
    }

-- The ending that is here is the stream's, where its bytes are told.
ends_told : (ending : StreamEnding) (reader : StreamState) (bytes rest : List ℕ) (payloads : List (List ℕ)) → AreFirst reader.packets reader.max bytes payloads → IsPlaced reader (length payloads) → drop reader.place bytes ≡ reader.held ++ rest → (reader.ended ≡ true → rest ≡ []) → HoldsEnough reader → reader.place ≤ reader.max
    → EndsHere ending reader.packets reader.max reader.place reader.held reader.ended → IsCut reader.packets reader.max bytes payloads ending
ends_told None reader bytes rest payloads h placed split end enough within k =
    let long = bytes_from reader.place bytes reader.held rest split in
    let none = ap length k.0 in
    let over = ap length (end k.1) in
    let there : reader.place ≤ 188 * reader.packets * length payloads = ⊎_elim (λ (e : reader.place ≡ 188 * reader.packets * length payloads). omega (arith, e)) (λ p. p.0) placed in
    record { first = h; ends = omega (arith, long, none, over, there) }
ends_told (Some (TooLong n)) reader bytes rest payloads h placed split end enough within k =
    let i = length payloads in
    let few = length-take (188 * reader.packets) reader.held in
    let some : 1 ≤ length reader.held = omega (arith, few, within, k.1) in
    let there : reader.place ≡ 188 * reader.packets * i = placed_here reader i placed some in
    let long = bytes_from reader.place bytes reader.held rest split in
    let counted : length (payload_of reader.packets bytes i) ≡ min (188 * reader.packets) (length bytes - reader.place) =
    length-take (188 * reader.packets) (drop (188 * reader.packets * i) bytes) ∙ ap (min (188 * reader.packets)) (length-drop (188 * reader.packets * i) bytes ∙ ap (λ m. length bytes - m) (sym there)) in
    record {
      first = h;
      ends = (
        omega (arith, long, some, there),
        record {
          longer = omega (arith, long, few, k.1, within);
          past = omega (arith, counted, long, few, k.1, there);
        },
        k.0 ∙ there,
      );
    }
ends_told (Some (NotTransport (Ragged n))) reader bytes rest payloads h placed split end enough within k =
    let i = length payloads in
    let some : 1 ≤ length reader.held = ⊎_elim (λ (none : length reader.held < 1). absurd (k.4.1 0 (omega arith))) (λ (some : 1 ≤ length reader.held). some) (cases_lt (length reader.held) 1) in
    let there : reader.place ≡ 188 * reader.packets * i = placed_here reader i placed some in
    let long = bytes_from reader.place bytes reader.held rest split in
    let over = ap length (end k.3) in
    let is : payload_of reader.packets bytes i ≡ reader.held = next_is reader.packets reader.place i bytes reader.held rest there split (inr (end k.3)) ∙ take_all (188 * reader.packets) reader.held (omega (arith, k.2)) in
    let counted = ap length is in
    record {
      first = h;
      ends = (
        omega (arith, long, some, there),
        λ past. omega (arith, past.past, counted, there, k.0, k.1),
        subst (λ t. FirstFault (Ragged (length t)) t) (sym is) k.4,
        omega (arith, k.0, long, over, some),
      );
    }
ends_told (Some (NotTransport (NoSync n))) reader bytes rest payloads h placed split end enough within k =
    let i = length payloads in
    let few = length-take (188 * reader.packets) reader.held in
    let fault = k.1.2 in
    let some : 1 ≤ length reader.held = omega (arith, few, fault.1.within) in
    let there : reader.place ≡ 188 * reader.packets * i = placed_here reader i placed some in
    let long = bytes_from reader.place bytes reader.held rest split in
    let is : payload_of reader.packets bytes i ≡ take (188 * reader.packets) reader.held =
    next_is reader.packets reader.place i bytes reader.held rest there split (end_or_whole reader rest (whole_or_end reader enough k.0) end) in
    let counted = ap length is in
    let packets : reader.place / 188 ≡ reader.packets * i = omega (arith, there, mul_assoc 188 reader.packets i) in
    record {
      first = h;
      ends = (
        omega (arith, long, some, there),
        λ past. omega (arith, past.past, counted, there, k.0),
        (k.1.0, subst (FirstFault (NoSync k.1.0)) (sym is) fault, k.1.1 ∙ ap (λ m. m + k.1.0) packets),
      );
    }

ends : (ending : StreamEnding) (reader : StreamState) (first left : Option (List ℕ)) (payloads : List (List ℕ)) → StandsAfter reader first left payloads → HoldsEnough reader → reader.place ≤ reader.max
    → EndsHere ending reader.packets reader.max reader.place reader.held reader.ended → IfSome first (λ bytes. IsCut reader.packets reader.max bytes payloads ending)
ends ending reader None left payloads h enough within k = tt
ends ending reader (Some bytes) None payloads h enough within k = let told : Some (drop reader.place bytes) ≡ None = h.given in absurd (cc)
ends ending reader (Some bytes) (Some rest) payloads h enough within k =
    let told : Some (drop reader.place bytes) ≡ Some (reader.held ++ rest) = h.given in
    let split : drop reader.place bytes ≡ reader.held ++ rest = cc in
    ends_told ending reader bytes rest payloads h.cut h.placed split h.at_end enough within k

-- An ending that leaves nothing is answered where the source has come to its end.
over : (ending : StreamEnding) (packets max place : ℕ) (held : List ℕ) (ended : Bool) → EndsHere ending packets max place held ended → LeavesNothing ending → ended ≡ true
over None packets max place held ended here none = here.1
over (Some (TooLong n)) packets max place held ended here none = absurd none
over (Some (NotTransport (Ragged n))) packets max place held ended here none = here.3
over (Some (NotTransport (NoSync k))) packets max place held ended here none = absurd none

-- What an ending says that is kept.
pub walks_ending : (reader new : StreamState) (first left : Option (List ℕ)) (payloads : List (List ℕ)) (ending : StreamEnding) → StandsAfter reader first left payloads → HoldsEnough reader → reader.place ≤ reader.max
    → EndsHere ending reader.packets reader.max reader.place reader.held reader.ended → new ≡ record reader { kept = Some ending } → Walks (Ok (End ending)) new first left payloads
walks_ending reader new first left payloads ending h enough within k kept =
    let is = ends ending reader first left payloads h enough within k in
    let stands : StandsAfter (record reader { kept = Some ending }) first left payloads = record { cut = h.cut; placed = h.placed; given = h.given; at_end = h.at_end; ending = is } in
    subst (λ (t : StreamState). Walks (Ok (End ending)) t first left payloads) (sym kept)
    (stands, is, λ none. h.at_end (over ending reader.packets reader.max reader.place reader.held reader.ended k none))

-- What a payload says that was answered.
pub walks_payload : (reader new : StreamState) (first left : Option (List ℕ)) (payloads : List (List ℕ)) → StandsAfter reader first left payloads → reader.kept ≡ None → HoldsEnough reader → Accepts reader → new ≡ after_payload reader
    → StandsAfter new first left (payloads ++ new.payload ∷ [])
walks_payload reader new first left payloads h none enough k taken =
    subst (λ (t : StreamState). StandsAfter t first left (payloads ++ t.payload ∷ [])) (sym taken) (after_answer reader first left payloads h none enough k)
