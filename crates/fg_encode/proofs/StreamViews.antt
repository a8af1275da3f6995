-- What contracts see of a reader of a stream, as its buffer changes, and what stands ahead of it.
use Rattle.std.proofs.Common.{◌≡◌, ◌⊎◌, inl, inr, ⊎_elim, ℕ, ◌+◌, ◌*◌, ◌<◌, ◌≤◌, true, Option, Some, List, [], length, take, drop, sym, ap, ◌∙◌, subst, arith}
use Rattle.std.specs.Io.KnownBytes.{IsAtEnd}
use Rattle.std.proofs.lemmas.Bool.{cases_lt}
use Rattle.std.proofs.lemmas.List.{take_all, length-take}
use Rattle.fg_io.specs.declared.input_buffer.Ahead.{Ahead}
use Rattle.fg_io.specs.declared.input_buffer.Ahead.TheVariants.{Whole, EndsHere as NoMore, EndsInside, PastLimit}
use Rattle.fg_io.specs.InputBuffer.{InputState, IsAhead, TakesMore}
use Rattle.fg_encode.specs.declared.stream.StreamFault.TheVariants.{TooLong}
use Rattle.fg_encode.specs.Stream.{StreamEnding}
use Rattle.fg_encode.specs.StreamReader.{StreamState, EndsHere}
use Rattle.fg_encode.specs.StreamSteps.{HoldsEnough, TakesIn, after_payload, reader_at, reader_of}
use Rattle.fg_encode.proofs.StreamWalks.{behind_next}

-- A buffer has taken bytes in, after what was answered was stepped over.
pub taking : (old : StreamState) (input stepped now : InputState) (packets answered : ℕ) (kept : Option StreamEnding) (left rest : Option (List ℕ))
    → reader_of input packets answered kept ≡ old
    → (let next : InputState = record input { place = input.place + answered; held = drop answered input.held } in stepped ≡ next)
    → TakesMore stepped.held left now.held rest
    → (let more : InputState = record stepped { held = now.held; ended = now.ended } in now ≡ more)
    → (stepped.ended ≡ true → (now ≡ stepped) × (rest ≡ left))
    → (now.ended ≡ true → (stepped.ended ≡ true) ⊎ IsAtEnd rest)
    → TakesIn old left (reader_at now packets kept) rest
taking old input stepped now packets answered kept left rest was step takes same stays at_end =
    let held : stepped.held ≡ old.held = ap (λ (t : InputState). t.held) step ∙ ap (λ (t : StreamState). t.held) was in
    let ended : stepped.ended ≡ old.ended = ap (λ (t : InputState). t.ended) step ∙ ap (λ (t : StreamState). t.ended) was in
    record {
      same = ap (λ (t : InputState). reader_at t packets kept) same
          ∙ ap (λ (t : InputState). reader_at (record t { held = now.held; ended = now.ended }) packets kept) step
          ∙ ap (λ (t : StreamState). record t { held = now.held; payload = []; ended = now.ended }) was;
      takes = subst (λ t. TakesMore t left now.held rest) held takes;
      stays = λ over.
          let k = stays (ended ∙ over) in
          (ap (λ (t : InputState). t.ended) k.0 ∙ ended ∙ over, ap (λ (t : InputState). t.held) k.0 ∙ held, k.1);
      at_end = λ over. ⊎_elim (λ (before : stepped.ended ≡ true). inl (sym ended ∙ before)) (λ end. inr end) (at_end over);
    }

-- Where nothing was answered, nothing is stepped over.
pub none_answered : (input : InputState) (packets : ℕ) (kept : Option StreamEnding) → reader_at input packets kept ≡ reader_of input packets 0 kept
none_answered input packets kept =
    let place : input.place ≡ input.place + 0 = omega arith in
    ap (λ p. let next : StreamState = record (reader_at input packets kept) { place = p } in next) place

-- What stands ahead is enough.
pub holds : (ahead : Ahead) (input : InputState) (packets : ℕ) (kept : Option StreamEnding) → IsAhead ahead input (188 * packets) → HoldsEnough (reader_at input packets kept)
holds Whole input packets kept is = inl is.0
holds NoMore input packets kept is = inr (inr is.1)
holds EndsInside input packets kept is = inr (inr is.2)
holds PastLimit input packets kept is = inr (inl is.1)

-- The front of what is held, by how many bytes it has.
front_is : (size : ℕ) (held : List ℕ) → take (length (take size held)) held ≡ take size held
front_is size held =
    let few = length-take size held in
    ⊎_elim
    (λ (short : length held < size). take_all (length (take size held)) held (omega (arith, few)) ∙ sym (take_all size held (omega arith)))
    (λ (full : size ≤ length held). let same : length (take size held) ≡ size = omega (arith, few) in ap (λ n. take n held) same)
    (cases_lt (length held) size)

-- The next payload was answered.
pub answering : (input : InputState) (packets answered : ℕ) (kept : Option StreamEnding) → answered ≡ length (take (188 * packets) input.held)
    → reader_of input packets answered kept ≡ after_payload (reader_at input packets kept)
answering input packets answered kept is =
    let next = take (188 * packets) input.held in
    let make : List ℕ → List ℕ → StreamState = λ held payload. record (reader_at input packets kept) { place = input.place + length next; held = held; payload = payload } in
    ap (λ n. reader_of input packets n kept) is ∙ ap (make (drop (length next) input.held)) (front_is (188 * packets) input.held) ∙ ap (λ t. make t next) (behind_next (188 * packets) input.held)

-- Past the limit.
pub too_long_here : (input : InputState) (packets place : ℕ) → IsAhead PastLimit input (188 * packets) → place ≡ input.place
    → EndsHere (Some (TooLong place)) packets input.max input.place input.held input.ended
too_long_here input packets place is there = (there, omega (arith, is.0, is.1, length-take (188 * packets) input.held))

-- What is held is within the limit, so far as it is the next payload.
pub within_here : (ahead : Ahead) (input : InputState) (packets : ℕ) → (ahead ≡ Whole) ⊎ (ahead ≡ EndsInside) → IsAhead ahead input (188 * packets)
    → input.place + length (take (188 * packets) input.held) ≤ input.max
within_here Whole input packets one is = omega (arith, is.0, is.1, length-take (188 * packets) input.held)
within_here NoMore input packets one is = absurd (⊎_elim (λ (h : NoMore ≡ Whole). let no = h in cc) (λ (h : NoMore ≡ EndsInside). let no = h in cc) one)
within_here EndsInside input packets one is = omega (arith, is.3, length-take (188 * packets) input.held)
within_here PastLimit input packets one is = absurd (⊎_elim (λ (h : PastLimit ≡ Whole). let no = h in cc) (λ (h : PastLimit ≡ EndsInside). let no = h in cc) one)
