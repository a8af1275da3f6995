-- What contracts see of a reader, as its buffer changes.
use Rattle.std.proofs.Common.{◌≡◌, ◌⊎◌, inl, inr, ⊎_elim, ℕ, ◌+◌, ◌-◌, ◌≤◌, Bool, Option, None, Some, IfSome, IfNone, min, List, [], length, take, drop, sym, ap, ◌∙◌, subst, arith}
use Rattle.std.specs.Prelude.{slice_range}
use Rattle.std.proofs.lemmas.List.{drop_all, length-take, length-drop}
use Rattle.std.proofs.lemmas.Slice.{between_is}
use Rattle.fg_io.specs.InputBuffer.{InputState, TakesMore}
use Rattle.fg_trace.specs.Reader.{Answer, ReaderState}
use Rattle.fg_trace.specs.Walk.{TakesIn, Has, Lacks, HoldsEnough, reader_of, reader_at, after_record}

-- the payload is what was answered, without the header, if a record was
pub payload_is : (held : List ℕ) (answered from : ℕ) → from ≡ min 12 answered → slice_range held from answered ≡ drop 12 (take answered held)
payload_is held answered from is =
    between_is held from answered
    ∙ ⊎_elim
    (λ (less : answered ≤ 12). drop_all from (take answered held) (omega (arith, is, length-take answered held))
    ∙ sym (drop_all 12 (take answered held) (omega (arith, length-take answered held))))
    (λ (more : 12 ≤ answered). let header : from ≡ 12 = omega arith in ap (λ n. drop n (take answered held)) header)
    (let cases : (answered ≤ 12) ⊎ (12 ≤ answered) = grind arith in cases)

-- where nothing was answered, nothing is stepped over
pub none_answered : (input : InputState) (answered : ℕ) (started : Bool) (kept : Option Answer) → answered ≡ 0
    → reader_of input answered started kept ≡ reader_at input started kept
none_answered input answered started kept none =
    let place : input.place + 0 ≡ input.place = omega arith in
    ap (λ n. reader_of input n started kept) none ∙ ap (λ p. let next : ReaderState = record (reader_at input started kept) { place = p } in next) place

pub none_stepped : (input : InputState) (answered : ℕ) → answered ≡ 0
    → (let next : InputState = record input { place = input.place + answered; held = drop answered input.held } in input ≡ next)
none_stepped input answered none =
    let place : input.place ≡ input.place + answered = omega arith in
    let held : input.held ≡ drop answered input.held = ap (λ n. drop n input.held) (sym none) in
    ap (λ p. let next : InputState = record input { place = p } in next) place
    ∙ ap (λ t. let next : InputState = record input { place = input.place + answered; held = t } in next) held

-- a buffer has taken bytes in, after what was answered was stepped over
pub taking : (old : ReaderState) (input stepped now : InputState) (answered : ℕ) (started : Bool) (kept : Option Answer) (left rest : Option (List ℕ))
    → reader_of input answered started kept ≡ old → (let next : InputState = record input { place = input.place + answered; held = drop answered input.held } in stepped ≡ next)
    → TakesMore stepped.held left now.held rest → (let more : InputState = record stepped { held = now.held; ended = now.ended } in now ≡ more)
    → TakesIn old left (reader_at now started kept) rest
taking old input stepped now answered started kept left rest was step takes same =
    let held : stepped.held ≡ old.held = ap (λ (t : InputState). t.held) step ∙ ap (λ (t : ReaderState). t.held) was in
    record {
      same = ap (λ (t : InputState). reader_at t started kept) same
          ∙ ap (λ (t : InputState). reader_at (record t { held = now.held }) started kept) step
          ∙ ap (λ (t : ReaderState). record t { held = now.held; payload = [] }) was;
      takes = subst (λ t. TakesMore t left now.held rest) held takes;
    }

-- after what was asked for there is enough
pub enough : (ending : Option Answer) (input : InputState) (left : Option (List ℕ)) (want : ℕ) → IfNone ending (Has input want)
    → IfSome ending (λ answer. Lacks answer input left want) → HoldsEnough input.max input.place input.held left want
enough None input left want has lacks = inl has.enough
enough (Some answer) input left want has lacks = ⊎_elim (λ past. inr (inl past.1)) (λ short. inr (inr short.1)) lacks.why

-- the record at the front was answered
pub answering : (input : InputState) (size n : ℕ) (started : Bool) (kept : Option Answer) → n ≡ size
    → reader_of input (12 + n) started kept ≡ after_record (reader_at input started kept) size
answering input size n started kept is =
    let count : 12 + size - 12 ≡ size = omega arith in
    let payload : drop 12 (take (12 + size) input.held) ≡ take size (drop 12 input.held) =
    sym (between_is input.held 12 (12 + size)) ∙ ap (λ m. take m (drop 12 input.held)) count in
    ap (λ m. reader_of input (12 + m) started kept) is
    ∙ ap (λ t. let next : ReaderState = record (reader_of input (12 + size) started kept) { payload = t } in next) payload

-- its payload has so many bytes
pub payload_length : (held : List ℕ) (size n : ℕ) → n ≡ size → 12 + size ≤ length held → length (drop 12 (take (12 + n) held)) ≡ size
payload_length held size n is whole = omega (arith, length-drop 12 (take (12 + n) held), length-take (12 + n) held)
