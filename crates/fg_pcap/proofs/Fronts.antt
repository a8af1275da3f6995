-- Which records of a trace are written, and that they are one list.
use Rattle.std.proofs.Common.{◌≡◌, ◌⊎◌, inl, inr, ℕ, ◌≤◌, List, [], ◌∷◌, ◌++◌, length, slice_index, refl, sym, ap, ◌∙◌, subst, arith, append_assoc, append-nil, length-append}
use Rattle.std.specs.List.{flat_map, AllByRecursion}
use Rattle.std.proofs.lemmas.Grind.{flat_map-append}
use Rattle.std.proofs.lemmas.List.{get_or_append_left}
use Rattle.fg_io.specs.Prefix.{IsPrefix}
use Rattle.fg_trace.specs.Laws.{OneTrace}
use Rattle.fg_trace.specs.Trace as trace
use Rattle.fg_trace.specs.Trace.{Record, Fits, Ending, DiffersAt, StandsFirst, Begins, IsLongest, IsTrace, magic}
use Rattle.fg_trace.proofs.Records.{one_record}
use Rattle.fg_trace.proofs.Traces.{after_magic_same}
use Rattle.fg_pcap.specs.declared.writer.SpellingEnding.{SpellingEnding}
use Rattle.fg_pcap.specs.declared.writer.SpellingEnding.TheVariants.{Done, NotTrace, Unfit, Cut, TooLong}
use Rattle.fg_pcap.specs.Laws.{OneSpelling}
use Rattle.fg_pcap.specs.Spelling.{FitsCapture, capture_of, file_header, spelling}
use Rattle.fg_pcap.specs.ToCapture.{StopsAt, IsSpelled, text_of}

-- Lists at the front of the same bytes

abbrev Compares : List Record → List Record → Type 0
Compares a b = ((more : List Record) × (b ≡ a ++ more)) ⊎ ((more : List Record) × (a ≡ b ++ more))

compare_more : (r s : Record) (a b : List Record) → r ≡ s → Compares a b → Compares (r ∷ a) (s ∷ b)
compare_more r s a b e (inl k) = let same : s ∷ b ≡ r ∷ (a ++ k.0) = ap (λ t. s ∷ t) k.1 ∙ ap (λ x. x ∷ (a ++ k.0)) (sym e) in inl (k.0, same)
compare_more r s a b e (inr k) = let same : r ∷ a ≡ s ∷ (b ++ k.0) = ap (λ t. r ∷ t) k.1 ∙ ap (λ x. x ∷ (b ++ k.0)) e in inr (k.0, same)

compare : (a b : List Record) (xs ys : List ℕ) → AllByRecursion Fits a → AllByRecursion Fits b → flat_map trace.spelling a ++ xs ≡ flat_map trace.spelling b ++ ys → Compares a b
compare [] b xs ys fa fb e = inl (b, refl)
compare (r ∷ a) [] xs ys fa fb e = inr (r ∷ a, refl)
compare (r ∷ a) (s ∷ b) xs ys fa fb e =
    let one : StandsFirst (flat_map trace.spelling (r ∷ a) ++ xs) r (flat_map trace.spelling a ++ xs) = record { fits = fa.0; spelled = append_assoc (trace.spelling r) (flat_map trace.spelling a) xs } in
    let other : StandsFirst (flat_map trace.spelling (r ∷ a) ++ xs) s (flat_map trace.spelling b ++ ys) = record { fits = fb.0; spelled = e ∙ append_assoc (trace.spelling s) (flat_map trace.spelling b) ys } in
    let same = one_record _ r s _ _ one other in
    compare_more r s a b same.0 (compare a b xs ys fa.1 fb.1 same.1)

-- of two lists of records that a trace begins with, one begins with the other
compared : (bytes : List ℕ) (max : ℕ) (a b : List Record) → Begins bytes max a → Begins bytes max b → Compares a b
compared bytes max a b h k =
    compare a b h.rest k.rest h.fit k.fit
    (after_magic_same _ _ (sym (append_assoc magic (flat_map trace.spelling a) h.rest) ∙ sym h.spelled ∙ k.spelled ∙ append_assoc magic (flat_map trace.spelling b) k.rest))

-- Lists with a record that doesn't fit

fits_among : (front : List Record) (next : Record) (later : List Record) → AllByRecursion FitsCapture (front ++ next ∷ later) → FitsCapture next
fits_among [] next later h = h.0
fits_among (r ∷ front) next later h = fits_among front next later h.1

fits_within : (front : List Record) (next : Record) (more whole : List Record) → whole ≡ (front ++ next ∷ []) ++ more → AllByRecursion FitsCapture whole → FitsCapture next
fits_within front next more whole e h =
    fits_among front next more (subst (λ (rs : List Record). AllByRecursion FitsCapture rs) (e ∙ append_assoc front (next ∷ []) more) h)

-- records that fit, at the front of others of which only the last doesn't, are at the front of those before it
before_unfit : (rs more front : List Record) (next : Record) → AllByRecursion FitsCapture rs → (¬ FitsCapture next) → front ++ next ∷ [] ≡ rs ++ more → (later : List Record) × (front ≡ rs ++ later)
before_unfit [] more front next fit unfit e = (front, refl)
before_unfit (r ∷ rs) more [] next fit unfit e = let same : r ≡ next = cc in absurd (unfit (subst FitsCapture same fit.0))
before_unfit (r ∷ rs) more (f ∷ front) next fit unfit e =
    let tail : front ++ next ∷ [] ≡ rs ++ more = cc in
    let head : f ≡ r = cc in
    let inner = before_unfit rs more front next fit.1 unfit tail in
    (inner.0, ap (λ t. f ∷ t) inner.1 ∙ ap (λ x. x ∷ (rs ++ inner.0)) head)

-- the first record that doesn't fit is one
one_unfit : (a b : List Record) (x y : Record) (more : List Record) → AllByRecursion FitsCapture a → AllByRecursion FitsCapture b → (¬ FitsCapture x) → (¬ FitsCapture y) → b ++ y ∷ [] ≡ a ++ x ∷ more → a ≡ b
one_unfit [] [] x y more fa fb ux uy e = refl
one_unfit [] (s ∷ b) x y more fa fb ux uy e = let same : s ≡ x = cc in absurd (ux (subst FitsCapture same fb.0))
one_unfit (r ∷ a) [] x y more fa fb ux uy e = let same : r ≡ y = cc in absurd (uy (subst FitsCapture same fa.0))
one_unfit (r ∷ a) (s ∷ b) x y more fa fb ux uy e =
    let tail : b ++ y ∷ [] ≡ a ++ x ∷ more = cc in
    let head : r ≡ s = cc in
    ap (λ t. r ∷ t) (one_unfit a b x y more fa.1 fb.1 ux uy tail) ∙ ap (λ z. z ∷ b) head

-- What the trace of the bytes has

not_differs : (bytes rest : List ℕ) (n : ℕ) → bytes ≡ magic ++ rest → DiffersAt bytes n → (length bytes ≡ n) ⊎ (slice_index bytes n ≡ slice_index magic n → ⊥) → ⊥
not_differs bytes rest n e h (inl short) = omega (arith, h.within, length-append magic rest, ap length e)
not_differs bytes rest n e h (inr ne) = ne (ap (λ t. slice_index t n) e ∙ get_or_append_left magic rest 0 n h.within)

-- records that a trace begins with aren't those of what is none
never_refused : (bytes : List ℕ) (max : ℕ) (rs : List Record) (n : ℕ) → Begins bytes max rs → DiffersAt bytes n → ⊥
never_refused bytes max rs n h differs =
    not_differs bytes (flat_map trace.spelling rs ++ h.rest) n (h.spelled ∙ append_assoc magic (flat_map trace.spelling rs) h.rest) differs differs.differs

longest_has : (bytes : List ℕ) (max : ℕ) (all rs : List Record) → IsLongest bytes max all → Begins bytes max rs → Compares rs all → (later : List Record) × (all ≡ rs ++ later)
longest_has bytes max all rs h k (inl c) = c
longest_has bytes max all rs h k (inr c) =
    let few : length rs ≤ length all = h.most rs k in
    (([]), none_more all c.0 rs c.1 few ∙ sym (append-nil rs))
  where
    none_more : (all more rs : List Record) → rs ≡ all ++ more → length rs ≤ length all → all ≡ rs
    none_more all [] rs e few = sym (append-nil all) ∙ sym e
    none_more all (m ∷ more) rs e few = absurd (omega (arith, few, ap length e, length-append all (m ∷ more)))

-- all records of a trace begin with those that it begins with
trace_has : (bytes : List ℕ) (max : ℕ) (all rs : List Record) (end : Ending) → IsTrace bytes max all end → Begins bytes max rs → (later : List Record) × (all ≡ rs ++ later)
trace_has bytes max all rs trace.Ended h k = longest_has bytes max all rs h.1 k (compared bytes max rs all k h.1.begins)
trace_has bytes max all rs (trace.Cut n) h k = longest_has bytes max all rs h.1 k (compared bytes max rs all k h.1.begins)
trace_has bytes max all rs (trace.TooLong n) h k = longest_has bytes max all rs h.1 k (compared bytes max rs all k h.1.begins)
trace_has bytes max all rs (trace.NotTrace n) h k = absurd (never_refused bytes max rs n k h.1)

-- The answers by what they say of the trace

abbrev pub answer_for : Ending → SpellingEnding
answer_for trace.Ended = Done
answer_for (trace.NotTrace n) = NotTrace n
answer_for (trace.Cut n) = Cut n
answer_for (trace.TooLong n) = TooLong n

-- all records fit; or the first that doesn't is known
abbrev Stops : SpellingEnding → List ℕ → ℕ → List Record → Type 0
Stops answer bytes max rs =
    ((end : Ending) × (answer ≡ answer_for end) × IsTrace bytes max rs end) ⊎ ((k : ℕ) × (answer ≡ Unfit k) × StopsAt bytes max rs k)

stops : (answer : SpellingEnding) (bytes : List ℕ) (max : ℕ) (rs : List Record) → IsSpelled answer bytes max rs → Stops answer bytes max rs
stops Done bytes max rs h = inl (trace.Ended, refl, h.stops)
stops (NotTrace n) bytes max rs h = inl (trace.NotTrace n, refl, h.stops)
stops (Cut n) bytes max rs h = inl (trace.Cut n, refl, h.stops)
stops (TooLong n) bytes max rs h = inl (trace.TooLong n, refl, h.stops)
stops (Unfit k) bytes max rs h = inr (k, refl, h.stops)

-- One list, and one answer

-- a trace whose records all fit has none that doesn't
all_fit : (bytes : List ℕ) (max : ℕ) (rs front : List Record) (end : Ending) (k : ℕ) → AllByRecursion FitsCapture rs → IsTrace bytes max rs end → StopsAt bytes max front k → ⊥
all_fit bytes max rs front end k fit h stop =
    let has = trace_has bytes max rs (front ++ stop.next ∷ []) end h stop.begins in
    stop.unfit (fits_within front stop.next has.0 rs has.1 fit)

same_stop : (bytes : List ℕ) (max : ℕ) (a b : List Record) (j k : ℕ) → AllByRecursion FitsCapture a → AllByRecursion FitsCapture b → (h : StopsAt bytes max a j) (g : StopsAt bytes max b k) → Compares (a ++ h.next ∷ []) (b ++ g.next ∷ []) → a ≡ b
same_stop bytes max a b j k fa fb h g (inl c) = one_unfit a b h.next g.next c.0 fa fb h.unfit g.unfit (c.1 ∙ append_assoc a (h.next ∷ []) c.0)
same_stop bytes max a b j k fa fb h g (inr c) = sym (one_unfit b a g.next h.next c.0 fb fa g.unfit h.unfit (c.1 ∙ append_assoc b (g.next ∷ []) c.0))

one : OneTrace → (bytes : List ℕ) (max : ℕ) (a b : List Record) (answer answer' : SpellingEnding) → AllByRecursion FitsCapture a → AllByRecursion FitsCapture b → Stops answer bytes max a → Stops answer' bytes max b → (a ≡ b) × (answer ≡ answer')
one law bytes max a b answer answer' fa fb (inl h) (inl g) =
    let same = law bytes max a b h.0 g.0 h.2 g.2 in
    (same.0, h.1 ∙ ap answer_for same.1 ∙ sym g.1)
one law bytes max a b answer answer' fa fb (inl h) (inr g) = absurd (all_fit bytes max a b h.0 g.0 fa h.2 g.2)
one law bytes max a b answer answer' fa fb (inr h) (inl g) = absurd (all_fit bytes max b a g.0 h.0 fb g.2 h.2)
one law bytes max a b answer answer' fa fb (inr h) (inr g) =
    let same = same_stop bytes max a b h.0 g.0 fa fb h.2 g.2 (compared bytes max (a ++ h.2.next ∷ []) (b ++ g.2.next ∷ []) h.2.begins g.2.begins) in
    (same, h.1 ∙ ap Unfit (h.2.number ∙ ap length same ∙ sym g.2.number) ∙ sym g.1)

pub one_spelling : OneTrace → OneSpelling
one_spelling law bytes max a b answer answer' h g = one law bytes max a b answer answer' h.fit g.fit (stops answer bytes max a h) (stops answer' bytes max b g)

-- What is written begins with what was written first

stop_has : (bytes : List ℕ) (max : ℕ) (all rs : List Record) (k : ℕ) → AllByRecursion FitsCapture rs → (h : StopsAt bytes max all k) → Compares rs (all ++ h.next ∷ []) → (later : List Record) × (all ≡ rs ++ later)
stop_has bytes max all rs k fit h (inl c) = before_unfit rs c.0 all h.next fit h.unfit c.1
stop_has bytes max all rs k fit h (inr c) = absurd (h.unfit (fits_within all h.next c.0 rs c.1 fit))

capture_front : (rs later all : List Record) → all ≡ rs ++ later → IsPrefix (capture_of rs) (capture_of all)
capture_front rs later all e = (
  flat_map spelling later,
  ap (λ t. file_header ++ flat_map spelling t) e ∙ ap (λ t. file_header ++ t) (flat_map-append spelling rs later)
      ∙ sym (append_assoc file_header (flat_map spelling rs) (flat_map spelling later)),
)

-- a trace's text by its ending
text_front : (bytes : List ℕ) (max : ℕ) (all rs : List Record) (end : Ending) → IsTrace bytes max all end → Begins bytes max rs → IsPrefix (capture_of rs) (text_of (answer_for end) all)
text_front bytes max all rs trace.Ended h k = let has = trace_has bytes max all rs trace.Ended h k in capture_front rs has.0 all has.1
text_front bytes max all rs (trace.Cut n) h k = let has = trace_has bytes max all rs (trace.Cut n) h k in capture_front rs has.0 all has.1
text_front bytes max all rs (trace.TooLong n) h k = let has = trace_has bytes max all rs (trace.TooLong n) h k in capture_front rs has.0 all has.1
text_front bytes max all rs (trace.NotTrace n) h k = absurd (never_refused bytes max rs n k h.1)

front_of : (bytes : List ℕ) (max : ℕ) (all rs : List Record) (answer : SpellingEnding) → AllByRecursion FitsCapture rs → Begins bytes max rs → Stops answer bytes max all → IsPrefix (capture_of rs) (text_of answer all)
front_of bytes max all rs answer fit k (inl h) = subst (λ a. IsPrefix (capture_of rs) (text_of a all)) (sym h.1) (text_front bytes max all rs h.0 h.2 k)
front_of bytes max all rs answer fit k (inr h) =
    let has = stop_has bytes max all rs h.0 fit h.2 (compared bytes max rs (all ++ h.2.next ∷ []) k h.2.begins) in
    subst (λ a. IsPrefix (capture_of rs) (text_of a all)) (sym h.1) (capture_front rs has.0 all has.1)

-- the capture of records that fit, and that a trace begins with, is at the front of what is written of it
pub written_front : (bytes : List ℕ) (max : ℕ) (all rs : List Record) (answer : SpellingEnding) → AllByRecursion FitsCapture rs → Begins bytes max rs → IsSpelled answer bytes max all → IsPrefix (capture_of rs) (text_of answer all)
written_front bytes max all rs answer fit k h = front_of bytes max all rs answer fit k (stops answer bytes max all h)
