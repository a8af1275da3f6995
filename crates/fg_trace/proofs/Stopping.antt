-- Where a reader finds the ending of the trace.
use Rattle.std.proofs.Common.{◌≡◌, ◌⊎◌, inl, inr, ℕ, suc, ◌+◌, ◌<◌, ◌≤◌, Bool, Option, None, Some, IfSome, Ok, Err, List, [], ◌∷◌, ◌++◌, length, sym, ap, ◌∙◌, refl, subst, arith, append_assoc, append-nil, length-append}
use Rattle.std.specs.Prelude.{nat_eq, if◌then◌else◌}
use Rattle.std.specs.List.{flat_map, AllByRecursion}
use Rattle.std.proofs.lemmas.Bool.Decides.{eqb_tells, leb_tells}
use Rattle.std.proofs.lemmas.List.{take-append-le, get_or_append_left}
use Rattle.fg_trace.specs.declared.step.Step.TheVariants.{Datagram, End}
use Rattle.fg_trace.specs.declared.step.TraceFault.TheVariants.{ReadFault, NotTrace as NoMagic, TooLong as PastLimit, Cut as CutShort}
use Rattle.fg_trace.specs.Trace.{Record, Fits, spelling, magic, trace_of, StandsFirst, Begins, IsLongest, DiffersAt, IsTrace, NotTrace}
use Rattle.fg_trace.specs.Reader.{Answer, ReaderState, StandsBefore, StandsAfter, IsEnding, Walks, ending_at}
use Rattle.fg_trace.specs.Walk.{HoldsEnough, HoldsNone}
use Rattle.fg_trace.proofs.Traces.{next_stands}
use Rattle.fg_trace.proofs.Fronts.{traces, begins_front, split_spelling}
use Rattle.fg_trace.proofs.Walking.{trace_more}

-- no list is longer where no record stands next
pub longest_here : (bytes : List ℕ) (max : ℕ) (records : List Record) (rest : List ℕ) → AllByRecursion Fits records → length (trace_of records) ≤ max → bytes ≡ trace_of records ++ rest
    → ((r : Record) (after : List ℕ) → StandsFirst rest r after → max < length (trace_of records) + length (spelling r)) → IsLongest bytes max records
longest_here bytes max records rest fit within spelled none =
    let begun : Begins bytes max records = record { fit = fit; within = within; rest = rest; spelled = spelled } in
    record {
      begins = begun;
      most = λ others b. elim (traces bytes max max records others begun b) [
        | inl w ↦ omega (arith, ap length w.1, length-append others w.0)
        | inr w ↦
            let longer : Begins bytes max (records ++ w.0 ∷ w.1) = subst (Begins bytes max) w.2 b in
            let one = begins_front bytes max records w.0 w.1 longer in
            let stands = next_stands bytes (flat_map spelling records ++ rest) rest records w.0 (length bytes) (spelled ∙ append_assoc magic (flat_map spelling records) rest) refl one in
            let past = none w.0 one.rest stands in
            absurd (omega (
              arith,
              past,
              longer.within,
              ap length (trace_more records w.0),
              length-append (trace_of records) (spelling w.0),
              length-append magic (flat_map spelling (records ++ w.0 ∷ w.1)),
              length-append magic (flat_map spelling (records ++ w.0 ∷ [])),
              ap length (split_spelling records w.0 w.1),
              length-append (flat_map spelling (records ++ w.0 ∷ [])) (flat_map spelling w.1),
            ))
      ];
    }

-- the ending that is here is the trace's
ends_here : (bytes : List ℕ) (max place : ℕ) (records : List Record) (held rest : List ℕ) → IsLongest bytes max records → place ≡ length (trace_of records) → place ≤ max → bytes ≡ trace_of records ++ (held ++ rest)
    → (max < place + length held) ⊎ (rest ≡ []) → IsEnding (ending_at max place (length held)) bytes max records
ends_here bytes max place records held rest longest there within spelled known =
    let long : length bytes ≡ place + (length held + length rest) = omega (arith, ap length spelled, length-append (trace_of records) (held ++ rest), length-append held rest, there) in
    let inside : (place + length held ≤ max) → length rest ≡ 0 = λ few. elim known [ inl past ↦ absurd (omega (arith, few, past)) | inr end ↦ ap length end ] in
    let choose : Bool → Answer = λ b. if b then Err (PastLimit place) else (if nat_eq (length held) 0 then Ok End else Err (CutShort place)) in
    let choose_end : Bool → Answer = λ b. if b then Ok End else Err (CutShort place) in
    let says : Answer → Type 0 = λ a. IsEnding a bytes max records in
    elim (leb_tells (suc max) (place + length held)) [
      | inl past ↦ subst (λ b. says (choose b)) (sym past.0) (omega (arith, past.1, long), longest, there)
      | inr not_past ↦
          let few : place + length held ≤ max = omega (arith, not_past.1) in
          let none : length rest ≡ 0 = inside few in
          subst (λ b. says (choose b)) (sym not_past.0) (elim (eqb_tells (length held) 0) [
            | inl empty ↦ subst (λ b. says (choose_end b)) (sym empty.0) (omega (arith, long, few, none), longest, omega (arith, long, none, empty.1, there))
            | inr some ↦ subst (λ b. says (choose_end b)) (sym some.0) (omega (arith, long, few, none), longest, there, omega (arith, long, some.1))
          ])
    ]

-- where a reader finds no next record, the ending that is here is the trace's
pub ends : (reader : ReaderState) (first left : Option (List ℕ)) (records : List Record) → StandsAfter reader first left records → HoldsNone reader.max reader.place reader.held left
    → IfSome first (λ bytes. IsEnding (ending_at reader.max reader.place (length reader.held)) bytes reader.max records)
ends reader None left records h k = tt
ends reader (Some bytes) None records h k = let told : Some bytes ≡ None = h.given in cc
ends reader (Some bytes) (Some rest) records h k =
    let told : Some bytes ≡ Some ((trace_of records ++ reader.held) ++ rest) = h.given in
    let whole : bytes ≡ (trace_of records ++ reader.held) ++ rest = cc in
    let spelled : bytes ≡ trace_of records ++ (reader.held ++ rest) = whole ∙ append_assoc (trace_of records) reader.held rest in
    let longest = longest_here bytes reader.max records (reader.held ++ rest) h.fit (omega (arith, h.place, h.within)) spelled (λ r after stands. omega (arith, h.place, k.none r after stands)) in
    ends_here bytes reader.max reader.place records reader.held rest longest h.place h.within spelled k.known

-- bytes that differ from the magic do so too where more come behind them
differs_more : (held rest : List ℕ) (n : ℕ) → 8 ≤ length held → DiffersAt held n → DiffersAt (held ++ rest) n
differs_more held rest n enough k = record {
  within = k.within;
  same = take-append-le n held rest (omega (arith, enough, k.within)) ∙ k.same;
  differs = elim k.differs [
    | inl short ↦ absurd (omega (arith, short, enough, k.within))
    | inr other ↦ inr (λ same. other (sym (get_or_append_left held rest 0 n (omega (arith, enough, k.within))) ∙ same))
  ];
}

differs_told : (held rest : List ℕ) (max place n : ℕ) → 8 ≤ max → place ≡ 0 → (8 ≤ length held) ⊎ ((max < place + length held) ⊎ (rest ≡ [])) → DiffersAt held n → DiffersAt (held ++ rest) n
differs_told held rest max place n least zero (inl enough) k = differs_more held rest n enough k
differs_told held rest max place n least zero (inr (inl past)) k = differs_more held rest n (omega (arith, least, past, zero)) k
differs_told held rest max place n least zero (inr (inr end)) k = subst (λ t. DiffersAt t n) (sym (ap (λ t. held ++ t) end ∙ append-nil held)) k

if_some : (first : Option (List ℕ)) (P Q : List ℕ → Type 0) → ((bytes : List ℕ) → P bytes → Q bytes) → IfSome first P → IfSome first Q
if_some None P Q f h = tt
if_some (Some bytes) P Q f h = f bytes h

-- the bytes that the source had differ from the magic
pub differs : (reader : ReaderState) (first left : Option (List ℕ)) (n : ℕ) → StandsBefore reader first left → 8 ≤ reader.max → HoldsEnough reader.max reader.place reader.held left 8 → DiffersAt reader.held n → IfSome first (λ bytes. DiffersAt bytes n)
differs reader None left n h least enough k = tt
differs reader (Some bytes) None n h least enough k = let told : Some bytes ≡ None = h.given in cc
differs reader (Some bytes) (Some rest) n h least enough k =
    let told : Some bytes ≡ Some (reader.held ++ rest) = h.given in
    let whole : bytes ≡ reader.held ++ rest = cc in
    subst (λ t. DiffersAt t n) (sym whole) (differs_told reader.held rest reader.max reader.place n least h.start enough k)

-- an ending is no record
no_record : (max place count time port size : ℕ) → ending_at max place count ≡ Ok (Datagram time port size) → ⊥
no_record max place count time port size e =
    elim (leb_tells (suc max) (place + count)) [
      | inl past ↦ let is : ending_at max place count ≡ Err (PastLimit place) = ap (λ b. if b then Err (PastLimit place) else (if nat_eq count 0 then Ok End else Err (CutShort place))) past.0 in cc
      | inr not_past ↦
          let is : ending_at max place count ≡ (if nat_eq count 0 then Ok End else Err (CutShort place)) = ap (λ b. if b then Err (PastLimit place) else (if nat_eq count 0 then Ok End else Err (CutShort place))) not_past.0 in
          elim (eqb_tells count 0) [
            | inl empty ↦ let end : (if nat_eq count 0 then Ok End else Err (CutShort place)) ≡ Ok End = ap (λ b. if b then Ok End else Err (CutShort place)) empty.0 in cc
            | inr some ↦ let cut : (if nat_eq count 0 then Ok End else Err (CutShort place)) ≡ Err (CutShort place) = ap (λ b. if b then Ok End else Err (CutShort place)) some.0 in cc
          ]
    ]

-- what an answer says that is an ending
says_ending : (answer : Answer) (max place count : ℕ) (new : ReaderState) (first left : Option (List ℕ)) (records : List Record) → answer ≡ ending_at max place count → StandsAfter new first left records → IfSome first (λ bytes. IsEnding answer bytes new.max records) → Walks answer new first left records
says_ending (Ok End) max place count new first left records e h k = (h, k)
says_ending (Ok (Datagram time port size)) max place count new first left records e h k = absurd (no_record max place count time port size (sym e))
says_ending (Err ReadFault) max place count new first left records e h k = h
says_ending (Err (NoMagic n)) max place count new first left records e h k = (h, k)
says_ending (Err (PastLimit n)) max place count new first left records e h k = (h, k)
says_ending (Err (CutShort n)) max place count new first left records e h k = (h, k)

-- what the answer says where no record stands next
pub walks_ending : (reader new : ReaderState) (first left : Option (List ℕ)) (records : List Record) (answer : Answer) → StandsAfter reader first left records → HoldsNone reader.max reader.place reader.held left → answer ≡ ending_at reader.max reader.place (length reader.held) → new ≡ record reader { kept = Some answer } → Walks answer new first left records
walks_ending reader new first left records answer h k told kept =
    let is : IfSome first (λ bytes. IsEnding answer bytes reader.max records) = subst (λ (a : Answer). IfSome first (λ bytes. IsEnding a bytes reader.max records)) (sym told) (ends reader first left records h k) in
    let stands : StandsAfter (record reader { kept = Some answer }) first left records = record { started = h.started; fit = h.fit; place = h.place; within = h.within; given = h.given; ending = is } in
    subst (λ (t : ReaderState). Walks answer t first left records) (sym kept) (says_ending answer reader.max reader.place (length reader.held) (record reader { kept = Some answer }) first left records told stands is)

-- what is said where the bytes differ from the magic
pub keeps_difference : (reader : ReaderState) (first left : Option (List ℕ)) (n : ℕ) → StandsBefore reader first left → 8 ≤ reader.max → HoldsEnough reader.max reader.place reader.held left 8 → DiffersAt reader.held n
    → StandsBefore (record reader { kept = Some (Err (NoMagic n)) }) first left × IfSome first (λ bytes. IsTrace bytes reader.max [] (NotTrace n))
keeps_difference reader first left n h least enough k =
    let told : IfSome first (λ bytes. IsTrace bytes reader.max [] (NotTrace n)) = if_some first (λ bytes. DiffersAt bytes n) (λ bytes. IsTrace bytes reader.max [] (NotTrace n)) (λ bytes d. (refl, d)) (differs reader first left n h least enough k) in
    (record { unstarted = h.unstarted; start = h.start; given = h.given; ending = told }, told)
