-- Datagrams whose positions rise are received, each ahead of the top.
use Rattle.std.proofs.Common.{◌≡◌, ℕ, ◌-◌, ◌<◌, max, Bool, true, false, cond, Option, Some, None, List, [], ◌∷◌, length, refl, sym, ap, ◌∙◌, arith}
use Rattle.std.specs.Bool.{⊤}
use Rattle.std.specs.List.{count_by}
use Rattle.std.proofs.lemmas.Bool.{le-ltb}
use Rattle.fg_streams.specs.declared.fates.Fate.{Fate}
use Rattle.fg_streams.specs.declared.fates.Fate.TheVariants.{Behind, Ahead}
use Rattle.fg_streams.specs.declared.span.Span.{Span}
use Rattle.fg_streams.specs.Arrival.{Arrival, position_in, raised, span_of, time_at}
use Rattle.fg_streams.specs.Fates.{counts_of, deepest_of, fate_after, fate_at, fate_in, fates_of, is_duplicate, is_late, is_received, is_reordered}
use Rattle.fg_streams.proofs.Positions.{none_above}
use Rattle.fg_surveyed.proofs.Counting.{count_cons, one_if}

-- One datagram more

module _ (h : List Arrival) (a : Arrival) (s : Span) (p : ℕ) (known : span_of h ≡ Some s) (place : position_in (Some s) a.seq ≡ Some p) (above : s.top < p) where
  none_there : time_at h p ≡ None
  none_there = none_above h s p (sym known) above

  pub fate_is : fate_after h a ≡ Ahead (p - s.top)
  fate_is =
      ap (λ (o : Option Span). fate_in h o (position_in o a.seq)) known ∙ ap (λ (o : Option ℕ). fate_in h (Some s) o) place
      ∙ ap (λ (t : Option ℕ). fate_at s p t) none_there
      ∙ ap (λ (b : Bool). cond b (Behind (s.top - p)) (Ahead (p - s.top))) (le-ltb p s.top (omega (arith, above)))

  pub span_is : span_of (a ∷ h) ≡ Some (record { first = s.first; top = p })
  span_is =
      let highest : max s.top p ≡ p = omega (arith, above) in
      ap (λ (o : Option Span). Some (raised o a.seq (position_in o a.seq))) known
      ∙ ap (λ (o : Option ℕ). Some (raised (Some s) a.seq o)) place
      ∙ ap (λ (t : ℕ). Some (record { first = s.first; top = t })) highest

-- What they count

abbrev pub AllAhead : List Fate → Type 0
AllAhead [] = ⊤
AllAhead (f ∷ fs) = ((by : ℕ) × (f ≡ Ahead by)) × AllAhead fs

pub many_fates : (h : List Arrival) → length (fates_of h) ≡ length h
many_fates [] = refl
many_fates (a ∷ h) = omega (arith, many_fates h)

counted : (p : Fate → Bool) (b : Bool) → ((by : ℕ) → p (Ahead by) ≡ b) → (f : Fate) → ((by : ℕ) × (f ≡ Ahead by)) → p f ≡ b
counted p b always f is = ap p is.1 ∙ always is.0

count_all : (p : Fate → Bool) → ((by : ℕ) → p (Ahead by) ≡ true) → (fs : List Fate) → AllAhead fs → count_by p fs ≡ length fs
count_all p always [] all = refl
count_all p always (f ∷ fs) all =
    let here = ap one_if (counted p true always f all.0) in
    let rest = count_all p always fs all.1 in
    let both = count_cons p f fs in
    omega (arith, here, rest, both)

count_none : (p : Fate → Bool) → ((by : ℕ) → p (Ahead by) ≡ false) → (fs : List Fate) → AllAhead fs → count_by p fs ≡ 0
count_none p never [] all = refl
count_none p never (f ∷ fs) all =
    let here = ap one_if (counted p false never f all.0) in
    let rest = count_none p never fs all.1 in
    let both = count_cons p f fs in
    omega (arith, here, rest, both)

none_deep : (fs : List Fate) → AllAhead fs → deepest_of fs ≡ 0
none_deep [] all = refl
none_deep (f ∷ fs) all =
    let rest = none_deep fs all.1 in
    ap (λ (g : Fate). deepest_of (g ∷ fs)) all.0.1 ∙ (let none : max 0 (deepest_of fs) ≡ 0 = omega (arith, rest) in none)

pub record OnlyReceived (h : List Arrival) : Type 0 where
  pub received : (counts_of (fates_of h)).received ≡ length h
  pub duplicate : (counts_of (fates_of h)).duplicate ≡ 0
  pub late : (counts_of (fates_of h)).late ≡ 0
  pub reordered : (counts_of (fates_of h)).reordered ≡ 0
  pub deepest : (counts_of (fates_of h)).deepest ≡ 0

pub only_received : (h : List Arrival) → AllAhead (fates_of h) → OnlyReceived h
only_received h all = record {
  received = count_all is_received (λ by. refl) (fates_of h) all ∙ many_fates h;
  duplicate = count_none is_duplicate (λ by. refl) (fates_of h) all;
  late = count_none is_late (λ by. refl) (fates_of h) all;
  reordered = count_none is_reordered (λ by. refl) (fates_of h) all;
  deepest = none_deep (fates_of h) all;
}
