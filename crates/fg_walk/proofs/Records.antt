-- How the records of a trace are told, from where the reader stands.
use Rattle.std.proofs.Common.{◌≡◌, ℕ, ◌+◌, ◌<◌, ◌≤◌, Option, Some, None, IfSome, IfOk, OnErr, Result, Ok, Err, List, [], ◌∷◌, ◌++◌, length, take, drop, sym, ap, ◌∙◌, subst, arith, refl}
use Rattle.std.specs.Io.KnownBytes.{IsAtEnd}
use Rattle.std.proofs.lemmas.List.{take-append-drop}
use Rattle.fg_io.specs.declared.fault.Fault.{Fault}
use Rattle.fg_io.specs.declared.fault.Fault.TheVariants.{Read, Write, Memory}
use Rattle.fg_trace.specs.declared.step.Finish.{Finish}
use Rattle.fg_trace.specs.declared.step.Finish.TheVariants as finish
use Rattle.fg_trace.specs.declared.step.Step.TheVariants.{Datagram}
use Rattle.fg_trace.specs.declared.step.TraceFault.{TraceFault}
use Rattle.fg_trace.specs.Finish.{ReadsAll, finish_after, finish_of}
use Rattle.fg_trace.specs.Laws.{AfterIsReadFor, OneTrace, WalksTheFront}
use Rattle.fg_trace.specs.Reached.{IsReadTo}
use Rattle.fg_trace.specs.Reader.{Answer, ReaderState, StandsAfter, Walks, new_reader}
use Rattle.fg_trace.specs.Reading.{HasReached, ReachesFor}
use Rattle.fg_trace.specs.Trace.{Record, Ending, IsTrace, NotTrace, trace_of}
use Rattle.fg_trace.proofs.Opening.{few_spelled, stands_still}
use Rattle.fg_trace.proofs.Reached.{failed_reached, read_to, stands_more}
use Rattle.fg_walk.specs.Steps.{Breaks, HasToldAll, HasWalked, IsOpened, IsUnderway}
use Rattle.fg_walk.specs.Walk.{IsBegun, Walked, WalkedPart}

-- what a teller says of the records that it has told, and of what is gained
abbrev Told : Type 0 → Type 1
Told A = A → List Record → Option (List ℕ) → Option (List ℕ) → Type 0

-- the records that a reader stands after are few
pub few_told : {A : Type 0} {most : ℕ} (HasTold : Told A) (telling : A) (reader : ReaderState) (first now before after : Option (List ℕ)) → (h : IsUnderway most HasTold telling reader first now before after) → length h.records < most
few_told HasTold telling reader first now before after h =
    let limit = h.limit in
    let within : length (trace_of h.records) ≤ reader.max = subst (λ n. n ≤ reader.max) h.stands.place h.stands.within in
    omega (arith, limit, within, few_spelled h.records)

-- How far the trace is read

fault_needs_nothing : (fault : Fault) (max : ℕ) (read rest : List ℕ) → ReachesFor max (finish_after fault) read rest
fault_needs_nothing Read max read rest = tt
fault_needs_nothing Write max read rest = tt
fault_needs_nothing Memory max read rest = tt

-- what was read for an answer is read for a fault
any_fault : (max : ℕ) (answer : Finish) (first now : Option (List ℕ)) → IsReadTo max (Ok answer) first now → (fault : Fault) → IsReadTo max (Err fault) first now
any_fault max answer None now h fault = tt
any_fault max answer (Some bytes) now h fault = record {
  read = h.read;
  rest = h.rest;
  now_is = h.now_is;
  all = h.all;
  reaches = fault_needs_nothing fault max h.read h.rest;
  bounded = h.bounded;
}

read_for_fault : AfterIsReadFor → (max : ℕ) (reader : ReaderState) (first now : Option (List ℕ)) (records : List Record) → reader.max ≡ max → StandsAfter reader first now records → reader.place + length reader.held ≤ reader.max + 1
    → (fault : Fault) → IsReadTo max (Err fault) first now
read_for_fault law max reader first now records same stands few fault = read_to law (Err fault) max reader first now same (records, stands) few (failed_reached (Err fault) reader now refl)

-- of a result that is read for
pub read_of : (max : ℕ) (came : Result Finish Fault) (first now : Option (List ℕ)) → IfOk came (λ answer. IsReadTo max (Ok answer) first now) → OnErr came ((fault : Fault) → IsReadTo max (Err fault) first now) → IsReadTo max came first now
read_of max (Ok answer) first now h k = h
read_of max (Err fault) first now h k = k fault

-- Parts

-- what holds of any records that begin with those the reader stands after holds of the trace's
pub of_front : {G : Type 0} → WalksTheFront → (Part : Told G) (given : G) (first now : Option (List ℕ)) (reader : ReaderState) (records : List Record) (before after : Option (List ℕ)) → StandsAfter reader first now records → ((later : List Record) → Part given (records ++ later) before after) → WalkedPart Part given reader.max first before after
of_front law Part given None now reader records before after stands h = tt
of_front law Part given (Some bytes) now reader records before after stands h = λ all end trace.
    let walked : records ≡ take (length records) all = law reader bytes now records all end stands trace in
    let split : all ≡ records ++ drop (length records) all = sym (take-append-drop (length records) all) ∙ ap (λ t. t ++ drop (length records) all) (sym walked) in
    subst (λ (rs : List Record). Part given rs before after) (sym split) (h (drop (length records) all))

-- what holds of all records holds of the trace's
pub of_any : {G : Type 0} (Part : Told G) (given : G) (max : ℕ) (first before after : Option (List ℕ)) → ((records : List Record) → Part given records before after) → WalkedPart Part given max first before after
of_any Part given max None before after h = tt
of_any Part given max (Some bytes) before after h = λ records end trace. h records

-- what holds of the records that were told holds of the trace's
of_told : {A G : Type 0} {most : ℕ} → OneTrace → (HasTold : Told A) (Part : Told G) (telling : A) (given : G) (reader : ReaderState) (finish : Finish) (first now before at after : Option (List ℕ))
    → (h : HasToldAll most HasTold telling reader finish first now before at) → Part given h.records before after → WalkedPart Part given reader.max first before after
of_told law HasTold Part telling given reader finish None now before at after h part = tt
of_told law HasTold Part telling given reader finish (Some bytes) now before at after h part = λ records end trace.
    subst (λ (rs : List Record). Part given rs before after) (law bytes reader.max h.records records h.end end h.of_input trace).0 part

-- Where no magic is found

pub walked_none : {A : Type 0} (Whole : A → List Record → Ending → Option (List ℕ) → Option (List ℕ) → Type 0) (telling : A) (first : Option (List ℕ)) (found max place : ℕ) (written : Option (List ℕ)) → found ≡ max → IfSome first (λ bytes. IsTrace bytes found [] (NotTrace place)) → Whole telling [] (NotTrace place) written written → Walked Whole telling max (finish.NotTrace place) first written written
walked_none Whole telling first found max place written same h told = record {
  records = [];
  end = NotTrace place;
  answer_is = refl;
  of_input = subst (λ n. IfSome first (λ bytes. IsTrace bytes n [] (NotTrace place))) same h;
  told = told;
}

-- From the first record

-- a reader that was made with this limit stands behind the magic once its start has found it
pub opened_at : {most : ℕ} (max : ℕ) (made reader : ReaderState) (first now : Option (List ℕ)) → made ≡ new_reader max → max ≤ most → reader.max ≡ made.max → reader.kept ≡ made.kept → reader.place + length reader.held ≤ reader.max + 1 → StandsAfter reader first now []
    → IsOpened most reader first now
opened_at {most = most} max made reader first now new limit same kept bounded stands = record {
  stands = stands;
  untold = kept ∙ ap (λ (t : ReaderState). t.kept) new;
  limit = subst (λ n. n ≤ most) (sym (same ∙ ap (λ (t : ReaderState). t.max) new)) limit;
  bounded = bounded;
}

pub begun : {A : Type 0} {most : ℕ} (HasTold : Told A) (telling : A) (reader : ReaderState) (first now before after : Option (List ℕ)) → IsOpened most reader first now → HasTold telling [] before after → IsUnderway most HasTold telling reader first now before after
begun HasTold telling reader first now before after h told = record { records = []; stands = h.stands; untold = h.untold; limit = h.limit; told = told }

pub breaks_at_begin : {G : Type 0} {most : ℕ} → AfterIsReadFor → (Part : Told G) (given : G) (reader : ReaderState) (first now before after : Option (List ℕ)) → IsOpened most reader first now → ((records : List Record) → Part given records before after)
    → Breaks Part given reader.max first now before after
breaks_at_begin law Part given reader first now before after h part = record {
  part = of_any Part given reader.max first before after part;
  read = read_for_fault law reader.max reader first now [] refl h.stands h.bounded;
}

-- A record

pub underway_more :
    {A : Type 0} {most : ℕ} (HasTold : Told A) (telling after_it : A) (reader next : ReaderState) (first left now before at after : Option (List ℕ)) (answer : Answer) (time port size : ℕ)
    → answer ≡ Ok (Datagram time port size) → next.kept ≡ None → next.max ≡ reader.max → ((records : List Record) → StandsAfter reader first left records → Walks answer next first now records)
    → ((records : List Record) → HasTold telling records before at → HasTold after_it (records ++ (record { time = time; port = port; datagram = next.payload }) ∷ []) before after)
    → IsUnderway most HasTold telling reader first left before at → IsUnderway most HasTold after_it next first now before after
underway_more {most = most} HasTold telling after_it reader next first left now before at after answer time port size is untold max walks tell h = record {
  records = h.records ++ (record { time = time; port = port; datagram = next.payload }) ∷ [];
  stands = stands_more reader next first left now h.records answer time port size is walks h.stands;
  untold = untold;
  limit = subst (λ n. n ≤ most) (sym max) h.limit;
  told = tell h.records h.told;
}

pub breaks_at_record :
    {A G : Type 0} {most : ℕ} → WalksTheFront → AfterIsReadFor → (HasTold : Told A) (Part : Told G) (telling : A) (given : G) (reader next : ReaderState) (first left now before at after : Option (List ℕ)) (answer : Answer) (time port size : ℕ)
    → next.max ≡ reader.max → next.place + length next.held ≤ next.max + 1
    → answer ≡ Ok (Datagram time port size) → ((records : List Record) → StandsAfter reader first left records → Walks answer next first now records)
    → ((records later : List Record) → HasTold telling records before at → Part given ((records ++ (record { time = time; port = port; datagram = next.payload }) ∷ []) ++ later) before after)
    → IsUnderway most HasTold telling reader first left before at → Breaks Part given reader.max first now before after
breaks_at_record law far HasTold Part telling given reader next first left now before at after answer time port size max few is walks part h =
    let more : List Record = h.records ++ (record { time = time; port = port; datagram = next.payload }) ∷ [] in
    let stands = stands_more reader next first left now h.records answer time port size is walks h.stands in
    record {
      part = subst (λ n. WalkedPart Part given n first before after) max (of_front law Part given first now next more before after stands (λ later. part h.records later h.told));
      read = read_for_fault far reader.max next first now more max stands few;
    }

-- A read fault

pub breaks_at_fault :
    {A G : Type 0} {most : ℕ} → WalksTheFront → AfterIsReadFor → (HasTold : Told A) (Part : Told G) (telling : A) (given : G) (reader next : ReaderState) (first left now before at : Option (List ℕ)) (why : TraceFault)
    → next.max ≡ reader.max → next.place + length next.held ≤ next.max + 1
    → ((records : List Record) → StandsAfter reader first left records → Walks (Err why) next first now records)
    → ((records later : List Record) → HasTold telling records before at → Part given (records ++ later) before at)
    → IsUnderway most HasTold telling reader first left before at → Breaks Part given reader.max first now before at
breaks_at_fault law far HasTold Part telling given reader next first left now before at why max few walks part h =
    let stands = stands_still next first now h.records why (walks h.records h.stands) in
    record {
      part = subst (λ n. WalkedPart Part given n first before at) max (of_front law Part given first now next h.records before at stands (λ later. part h.records later h.told));
      read = read_for_fault far reader.max next first now h.records max stands few;
    }

-- The end

pub told_all :
    {A : Type 0} {most : ℕ} → AfterIsReadFor → (HasTold : Told A) (telling : A) (reader next : ReaderState) (first left now before at : Option (List ℕ)) (end : Ending) (finish : Finish)
    → next.place + length next.held ≤ next.max + 1 → finish ≡ finish_of end → IsBegun finish → HasReached finish next now → (ReadsAll finish → IsAtEnd now)
    → ((records : List Record) → StandsAfter reader first left records → StandsAfter next first now records × IfSome first (λ bytes. IsTrace bytes next.max records end))
    → IsUnderway most HasTold telling reader first left before at → HasToldAll most HasTold telling next finish first now before at
told_all far HasTold telling reader next first left now before at end finish bounded is begun reached at_end walks h = record {
  records = h.records;
  few = few_told HasTold telling reader first left before at h;
  end = end;
  answer_is = is;
  begun = begun;
  of_input = (walks h.records h.stands).1;
  read = read_to far (Ok finish) next.max next first now refl (h.records, (walks h.records h.stands).0) bounded reached;
  at_end = at_end;
  told = h.told;
}

pub walked_whole :
    {A : Type 0} {most : ℕ} (HasTold : Told A) (Whole : A → List Record → Ending → Option (List ℕ) → Option (List ℕ) → Type 0) (telling ended : A) (reader : ReaderState) (finish : Finish) (first now before at after : Option (List ℕ))
    → (h : HasToldAll most HasTold telling reader finish first now before at) → Whole ended h.records h.end before after → HasWalked Whole reader.max ended finish first now before after
walked_whole HasTold Whole telling ended reader finish first now before at after h whole = record {
  walked = record { records = h.records; end = h.end; answer_is = h.answer_is; of_input = h.of_input; told = whole };
  read = h.read;
  at_end = h.at_end;
}

pub breaks_at_end : {A G : Type 0} {most : ℕ} → OneTrace → (HasTold : Told A) (Part : Told G) (telling : A) (given : G) (reader : ReaderState) (finish : Finish) (first now before at after : Option (List ℕ))
    → (h : HasToldAll most HasTold telling reader finish first now before at) → Part given h.records before after → Breaks Part given reader.max first now before after
breaks_at_end law HasTold Part telling given reader finish first now before at after h part = record {
  part = of_told law HasTold Part telling given reader finish first now before at after h part;
  read = any_fault reader.max finish first now h.read;
}

-- Under the limit that the reader was made with

pub walked_at : {A : Type 0} (Whole : A → List Record → Ending → Option (List ℕ) → Option (List ℕ) → Type 0) (telling : A) (found max : ℕ) (came : Result Finish Fault) (first now before after : Option (List ℕ))
    → found ≡ max → IfOk came (λ answer. HasWalked Whole found telling answer first now before after) → IfOk came (λ answer. HasWalked Whole max telling answer first now before after)
walked_at Whole telling found max came first now before after same h = subst (λ n. IfOk came (λ answer. HasWalked Whole n telling answer first now before after)) same h

pub breaks_as : {G : Type 0} (Part : Told G) (given : G) (found max : ℕ) (came : Result Finish Fault) (first now before after : Option (List ℕ))
    → found ≡ max → OnErr came (Breaks Part given found first now before after) → OnErr came (Breaks Part given max first now before after)
breaks_as Part given found max came first now before after same h = subst (λ n. OnErr came (Breaks Part given n first now before after)) same h
