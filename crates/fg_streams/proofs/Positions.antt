-- When the positions of a stream were received, as datagrams come.
use Rattle.std.proofs.Common.{◌≡◌, ◌≢◌, ⊎_elim, ℕ, ◌+◌, ◌-◌, ◌<◌, ◌≤◌, max, true, false, cond, eqb, ltb, Option, Some, None, IfSome, List, [], ◌∷◌, ◌++◌, length, replicate, get_or, set, refl, sym, ap, ◌∙◌, subst, arith, length-append}
use Rattle.std.specs.Option.{option_or}
use Rattle.std.proofs.lemmas.Bool.{cases_eq, cases_lt, le-ltb, lt-ltb, ne_eqb}
use Rattle.std.proofs.lemmas.Bool.Decides.{eqb_tells}
use Rattle.std.proofs.lemmas.List.{ext_get_or, get_or_append_left, get_or-append_right, get_or-replicate, get_or-set_same, get_or-set_other, length-replicate, length-set}
use Rattle.std.proofs.lemmas.List.FromFn.{get_or-map-range_with_len, length-map-range_with_len}
use Rattle.fg_streams.specs.declared.fates.Fate.TheVariants.{Behind, Ahead}
use Rattle.fg_streams.specs.declared.span.Span.{Span}
use Rattle.fg_streams.specs.Arrival.{Arrival, position_after, position_in, raised, span_of, time_at, time_if_at}
use Rattle.fg_streams.specs.Bursts.{times_in, times_of}
use Rattle.fg_streams.specs.Fates.{fate_after, fate_at, fate_in}
use Rattle.fg_streams.specs.Steps.{fate_by, received_at, times_after}

-- one position, or another

pub here : (p q time : ℕ) → p ≡ q → time_if_at (Some p) time q ≡ Some time
here p q time same = ⊎_elim
    (λ (yes : (eqb p q ≡ true) × (p ≡ q)). ap (λ b. cond b (Some time) None) yes.0)
    (λ (no : (eqb p q ≡ false) × (p ≢ q)). absurd (no.1 same))
    (eqb_tells p q)

elsewhere : (p q time : ℕ) → p ≢ q → time_if_at (Some p) time q ≡ None
elsewhere p q time other = let none : Option ℕ = None in ap (λ b. cond b (Some time) none) (ne_eqb p q other)

pub or_none : (t : Option ℕ) → option_or t None ≡ t
or_none None = refl
or_none (Some t) = refl

-- What is past the top was not received

rises : (s : Span) (seq : ℕ) (pos : Option ℕ) → s.top ≤ (raised (Some s) seq pos).top
rises s seq None = omega arith
rises s seq (Some p) = omega arith

past : (s : Span) (seq time q : ℕ) (pos t : Option ℕ) → (raised (Some s) seq pos).top < q → t ≡ None → option_or t (time_if_at pos time q) ≡ None
past s seq time q None t above none = or_none t ∙ none
past s seq time q (Some p) t above none =
    ap (λ o. option_or o (time_if_at (Some p) time q)) none ∙ elsewhere p q time (λ same. absurd (omega (arith, above, same)))

pub none_past : (h : List Arrival) (q : ℕ) → IfSome (span_of h) (λ s. s.top < q) → time_at h q ≡ None
none_past [] q above = refl
none_past (a ∷ []) q above = elsewhere a.seq q a.time (λ same. absurd (omega (arith, above, same)))
none_past (a ∷ b ∷ h) q above =
    let s = raised (span_of h) b.seq (position_in (span_of h) b.seq) in
    let more = rises s a.seq (position_in (Some s) a.seq) in
    past s a.seq a.time q (position_in (Some s) a.seq) (time_at (b ∷ h) q) above (none_past (b ∷ h) q (omega (arith, above, more)))

pub none_above : (h : List Arrival) (s : Span) (q : ℕ) → Some s ≡ span_of h → s.top < q → time_at h q ≡ None
none_above h s q is above = none_past h q (subst (λ (o : Option Span). IfSome o (λ s. s.top < q)) is above)

-- The first position is no greater than the top

kept_order : (s : Span) (seq : ℕ) (pos : Option ℕ) → s.first ≤ s.top → (raised (Some s) seq pos).first ≤ (raised (Some s) seq pos).top
kept_order s seq None h = h
kept_order s seq (Some p) h = omega (arith, h)

pub in_order : (h : List Arrival) → IfSome (span_of h) (λ s. s.first ≤ s.top)
in_order [] = tt
in_order (a ∷ []) = omega arith
in_order (a ∷ b ∷ h) =
    let s = raised (span_of h) b.seq (position_in (span_of h) b.seq) in
    kept_order s a.seq (position_in (Some s) a.seq) (in_order (b ∷ h))

pub ordered : (h : List Arrival) (s : Span) → Some s ≡ span_of h → s.first ≤ s.top
ordered h s is = subst (λ (o : Option Span). IfSome o (λ s. s.first ≤ s.top)) (sym is) (in_order h)

-- The times

abbrev many : Span → ℕ
many s = s.top - s.first + 1

pub time_in : (h : List Arrival) (s : Span) (i q : ℕ) → i < many s → s.first + i ≡ q → get_or (times_in h (Some s)) i None ≡ time_at h q
time_in h s i q within is =
    let none : Option ℕ = None in
    get_or-map-range_with_len (λ slot. time_at h (s.first + slot)) 0 (many s) i i none within (omega arith) ∙ ap (λ k. time_at h k) is

pub how_many : (h : List Arrival) (s : Span) → length (times_in h (Some s)) ≡ many s
how_many h s = length-map-range_with_len (λ slot. time_at h (s.first + slot)) 0 (many s)

pub all_times : (h : List Arrival) (s : Span) → Some s ≡ span_of h → times_of h ≡ times_in h (Some s)
all_times h s is = ap (λ (o : Option Span). times_in h o) (sym is)

-- of a datagram that changes nothing

pub same_times : (a : Arrival) (h : List Arrival) (s s' : Span) → s'.first ≡ s.first → s'.top ≡ s.top → ((q : ℕ) → time_at (a ∷ h) q ≡ time_at h q) → times_in (a ∷ h) (Some s') ≡ times_in h (Some s)
same_times a h s s' first top same =
    let none : Option ℕ = None in
    let one = how_many (a ∷ h) s' in
    let other = how_many h s in
    ext_get_or none (times_in (a ∷ h) (Some s')) (times_in h (Some s)) (omega (arith, one, other, first, top))
    (λ i within. time_in (a ∷ h) s' i (s.first + i) (omega (arith, within, one)) (omega (arith, first)) ∙ same (s.first + i) ∙ sym (time_in h s i (s.first + i) (omega (arith, within, one, first, top)) refl))

module _ (a : Arrival) (h : List Arrival) (s : Span) (p : ℕ) (known : Some s ≡ span_of h) (place : position_after h a ≡ Some p) where
  abbrev none : Option ℕ
  none = None

  abbrev all : List (Option ℕ)
  all = times_in h (Some s)

  abbrev after : Span
  after = record { first = s.first; top = max s.top p }

  other_stays : (q : ℕ) → p ≢ q → time_at (a ∷ h) q ≡ time_at h q
  other_stays q other = ap (λ o. option_or (time_at h q) (time_if_at o a.time q)) place ∙ ap (λ o. option_or (time_at h q) o) (elsewhere p q a.time other) ∙ or_none (time_at h q)

  place_filled : (q : ℕ) → p ≡ q → time_at h q ≡ None → time_at (a ∷ h) q ≡ Some a.time
  place_filled q same free =
      ap (λ o. option_or (time_at h q) (time_if_at o a.time q)) place ∙ ap (λ o. option_or (time_at h q) o) (here p q a.time same)
      ∙ ap (λ o. option_or o (Some a.time)) free

  place_stays : (t : ℕ) (q : ℕ) → time_at h q ≡ Some t → time_at (a ∷ h) q ≡ time_at h q
  place_stays t q taken = ap (λ o. option_or o (time_if_at (position_after h a) a.time q)) taken ∙ sym taken

  -- a duplicate
  pub times_taken : (t : ℕ) → p ≤ s.top → time_at h p ≡ Some t → times_in (a ∷ h) (Some after) ≡ all
  times_taken t within taken = same_times a h s after refl (omega (arith, within)) (λ q. ⊎_elim
      (λ (same : p ≡ q). place_stays t q (ap (λ k. time_at h k) (sym same) ∙ taken))
      (λ (other : p ≢ q). other_stays q other)
      (cases_eq p q))

  -- received behind the top
  pub times_behind : s.first ≤ p → p ≤ s.top → time_at h p ≡ None → times_in (a ∷ h) (Some after) ≡ set all (p - s.first) (Some a.time)
  times_behind from within free =
      let one = how_many (a ∷ h) after in
      let old = how_many h s in
      let same_length = length-set all (p - s.first) (Some a.time) in
      ext_get_or none (times_in (a ∷ h) (Some after)) (set all (p - s.first) (Some a.time)) (omega (arith, one, old, same_length, within))
      (λ i inside. ⊎_elim
      (λ (same : i ≡ p - s.first).
      time_in (a ∷ h) after i p (omega (arith, inside, one)) (omega (arith, same, from)) ∙ place_filled p refl free
      ∙ sym (ap (λ k. get_or (set all (p - s.first) (Some a.time)) k none) same ∙ get_or-set_same all (p - s.first) (Some a.time) none (omega (arith, old, from, within))))
      (λ (other : i ≢ p - s.first).
      time_in (a ∷ h) after i (s.first + i) (omega (arith, inside, one)) refl ∙ other_stays (s.first + i) (λ same. other (omega (arith, same)))
      ∙ sym (get_or-set_other all (p - s.first) i (Some a.time) none other ∙ time_in h s i (s.first + i) (omega (arith, inside, one, within)) refl))
      (cases_eq i (p - s.first)))

  abbrev lost : List (Option ℕ)
  lost = replicate (p - s.top - 1) None

  -- received past the top
  pub times_past : s.first ≤ s.top → s.top < p → times_in (a ∷ h) (Some after) ≡ (all ++ lost) ++ Some a.time ∷ []
  times_past order above =
      let one = how_many (a ∷ h) after in
      let old = how_many h s in
      let between = length-replicate (p - s.top - 1) none in
      let front = length-append all lost in
      let whole = length-append (all ++ lost) (Some a.time ∷ []) in
      ext_get_or none (times_in (a ∷ h) (Some after)) ((all ++ lost) ++ Some a.time ∷ []) (omega (arith, one, old, between, front, whole, order, above))
      (λ i inside. ⊎_elim
      (λ (early : i < many s).
      time_in (a ∷ h) after i (s.first + i) (omega (arith, inside, one)) refl ∙ other_stays (s.first + i) (λ same. absurd (omega (arith, same, early, above, order)))
      ∙ sym (get_or_append_left (all ++ lost) (Some a.time ∷ []) none i (omega (arith, early, old, front)) ∙ get_or_append_left all lost none i (omega (arith, early, old)) ∙ time_in h s i (s.first + i) early refl))
      (λ (later : many s ≤ i). ⊎_elim
      (λ (gap : i < many s + (p - s.top - 1)).
      time_in (a ∷ h) after i (s.first + i) (omega (arith, inside, one)) refl ∙ other_stays (s.first + i) (λ same. absurd (omega (arith, same, gap, above, order)))
      ∙ none_above h s (s.first + i) known (omega (arith, later, order))
      ∙ sym (get_or_append_left (all ++ lost) (Some a.time ∷ []) none i (omega (arith, gap, old, front, between)) ∙ get_or-append_right all lost (many s) i none old later
      ∙ get_or-replicate (p - s.top - 1) (i - many s) none none (omega (arith, gap, later))))
      (λ (last : many s + (p - s.top - 1) ≤ i).
      let at : i ≡ many s + (p - s.top - 1) = omega (arith, last, inside, one, above, order) in
      time_in (a ∷ h) after i p (omega (arith, inside, one)) (omega (arith, at, order, above)) ∙ place_filled p refl (none_above h s p known above)
      ∙ sym (get_or-append_right (all ++ lost) (Some a.time ∷ []) (many s + (p - s.top - 1)) i none (omega (arith, front, old, between)) last
      ∙ ap (λ k. get_or (Some a.time ∷ []) k none) (let zero_left : i - (many s + (p - s.top - 1)) ≡ 0 = omega (arith, at) in zero_left)))
      (cases_lt i (many s + (p - s.top - 1))))
      (cases_lt i (many s)))

-- By the times that are kept

test_past : (a b : ℕ) → a < b → ltb a b ≡ true
test_past a b h = lt-ltb a b h

test_not : (a b : ℕ) → b ≤ a → ltb a b ≡ false
test_not a b h = le-ltb a b h

module _ (s : Span) (p : ℕ) (times : List (Option ℕ)) where
  abbrev slot : Option ℕ
  slot = get_or times (p - s.first) None

  pub fate_ahead : s.top < p → fate_by s p times ≡ Ahead (p - s.top)
  fate_ahead above = ap (λ b. cond b (Ahead (p - s.top)) (fate_at s p slot)) (test_past s.top p above)

  pub fate_here : (o : Option ℕ) → p ≤ s.top → slot ≡ o → fate_by s p times ≡ fate_at s p o
  fate_here o within is = ap (λ b. cond b (Ahead (p - s.top)) (fate_at s p slot)) (test_not s.top p within) ∙ ap (λ t. fate_at s p t) is

  pub times_ahead : (time : ℕ) → s.top < p → times_after s p time times ≡ (times ++ (let lost : List (Option ℕ) = replicate (p - s.top - 1) None in lost)) ++ Some time ∷ []
  times_ahead time above =
      let none : Option ℕ = None in
      ap (λ b. cond b ((times ++ replicate (p - s.top - 1) none) ++ Some time ∷ []) (received_at (p - s.first) time times slot)) (test_past s.top p above)

  pub times_here : (time : ℕ) (o : Option ℕ) → p ≤ s.top → slot ≡ o → times_after s p time times ≡ received_at (p - s.first) time times o
  times_here time o within is =
      let none : Option ℕ = None in
      ap (λ b. cond b ((times ++ replicate (p - s.top - 1) none) ++ Some time ∷ []) (received_at (p - s.first) time times slot)) (test_not s.top p within)
      ∙ ap (λ t. received_at (p - s.first) time times t) is

pub fate_behind : (s : Span) (p : ℕ) → p < s.top → fate_at s p None ≡ Behind (s.top - p)
fate_behind s p below = ap (λ b. cond b (Behind (s.top - p)) (Ahead (p - s.top))) (test_past p s.top below)

pub fate_level : (s : Span) (p : ℕ) → s.top ≤ p → fate_at s p None ≡ Ahead (p - s.top)
fate_level s p above = ap (λ b. cond b (Behind (s.top - p)) (Ahead (p - s.top))) (test_not p s.top above)

-- A datagram has come

module _ (before : List Arrival) (a : Arrival) (s : Span) (p : ℕ) (known : Some s ≡ span_of before) (place : Some p ≡ position_in (Some s) a.seq) (from : s.first ≤ p) where
  abbrev was : List (Option ℕ)
  was = times_in before (Some s)

  abbrev now : Span
  now = record { first = s.first; top = max s.top p }

  placed : position_after before a ≡ Some p
  placed = ap (λ (o : Option Span). position_in o a.seq) (sym known) ∙ sym place

  pub now_is : Some now ≡ span_of (a ∷ before)
  now_is = ap (λ (o : Option ℕ). Some (raised (Some s) a.seq o)) place ∙ ap (λ (o : Option Span). Some (raised o a.seq (position_in o a.seq))) known

  slot_is : p ≤ s.top → get_or was (p - s.first) None ≡ time_at before p
  slot_is within = time_in before s (p - s.first) p (omega (arith, from, within)) (omega (arith, from))

  by_slot : (o : Option ℕ) → p ≤ s.top → time_at before p ≡ o → times_in (a ∷ before) (Some now) ≡ received_at (p - s.first) a.time was o
  by_slot None within is = times_behind a before s p known placed from within is
  by_slot (Some t) within is = times_taken a before s p known placed t within is

  pub times_then : times_of (a ∷ before) ≡ times_after s p a.time was
  times_then = ap (λ (o : Option Span). times_in (a ∷ before) o) (sym now_is) ∙ ⊎_elim
      (λ (above : s.top < p). times_past a before s p known placed (ordered before s known) above ∙ sym (times_ahead s p was a.time above))
      (λ (within : p ≤ s.top). by_slot (time_at before p) within refl ∙ sym (times_here s p was a.time (time_at before p) within (slot_is within)))
      (cases_lt s.top p)

  fated : fate_after before a ≡ fate_at s p (time_at before p)
  fated = ap (λ (o : Option Span). fate_in before o (position_after before a)) (sym known) ∙ ap (λ (o : Option ℕ). fate_in before (Some s) o) placed

  pub fate_then : fate_after before a ≡ fate_by s p was
  fate_then = fated ∙ ⊎_elim
      (λ (above : s.top < p). ap (λ t. fate_at s p t) (none_above before s p known above) ∙ fate_level s p (omega (arith, above)) ∙ sym (fate_ahead s p was above))
      (λ (within : p ≤ s.top). sym (fate_here s p was (time_at before p) within (slot_is within)))
      (cases_lt s.top p)
