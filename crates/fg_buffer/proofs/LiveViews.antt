-- A line stands in one of the two slabs exactly where it is live under its serial number, and in the second exactly where
-- its number is one of the settled.
use Rattle.std.proofs.Common.{◌≡◌, ◌+◌, ◌++◌, ℕ, Bool, true, false, List, length, Option, Some, inl, inr, refl, sym, ap, subst, ◌∙◌, ⊎_elim}
use Rattle.std.proofs.lemmas.List.{length-append}
use Rattle.std.proofs.lemmas.List.Elements.{Contains-append_left, Contains-append_right, Contains-append_cases}
use Rattle.std.specs.List.{Contains}
use Rattle.std.specs.Cmp.{nat_cmp_total}
use Rattle.std.specs.FinMap as map
use Rattle.std.specs.FinSet as set
use Rattle.slab.specs.Slab.{Slab, get, slab_len}
use Rattle.fg_peel.specs.declared.Line.{Line}
use Rattle.fg_peel.specs.Slots.{lines_of}
use Rattle.fg_peel.proofs.Options.{same_options}
use Rattle.fg_peel.specs.Live.{Live}
use Rattle.fg_buffer.specs.LiveEquations.{IsLiveLine, live_of}
use Rattle.fg_buffer.specs.LiveInside.{state_of, Holds, Stands, IsOneEach}
use Rattle.fg_buffer.proofs.LiveLists.{AreApart, AreApart-joined, line_of, live_here, len-live_in, line_of_serial, serial_here, slot_of, listed_slot, apart_slots, length-lines_from}

abbrev pub serial_of : Line → ℕ
serial_of line = line.serial

abbrev pub place_of : Line → ℕ
place_of line = line.place

pub held : (lines : Slab Line) (line : Line) → Contains (lines_of lines) line → Holds lines line
held lines line c = slot_of 0 lines.slots line c

pub listed : (lines : Slab Line) (line : Line) → Holds lines line → Contains (lines_of lines) line
listed lines line h = listed_slot 0 lines.slots h.0 line h.1

-- what one slab has at a key
pub one_value : (o : Option Line) (one other : Line) → o ≡ Some one → o ≡ Some other → one ≡ other
one_value o one other is is' = let e : Some one ≡ Some other = sym is ∙ is' in cc

-- the same line under one number
pub same_held :
    (lines : Slab Line) (number : Line → ℕ)
    → ((key key' : ℕ) (one other : Line) → get lines key ≡ Some one → get lines key' ≡ Some other
    → number one ≡ number other → key ≡ key')
    → (one other : Line) → Holds lines one → Holds lines other → number one ≡ number other → one ≡ other
same_held lines number each one other a b same =
    let key : a.0 ≡ b.0 = each a.0 b.0 one other a.1 b.1 same in
    one_value (get lines b.0) one other (ap (get lines) (sym key) ∙ a.1) b.1

module _ (first second : Slab Line) (each : IsOneEach serial_of first second) where
  joined : List Line
  joined = lines_of first ++ lines_of second

  apart : AreApart (lines_of first ++ lines_of second)
  apart =
      AreApart-joined (lines_of first) (lines_of second)
      (apart_slots 0 first.slots each.in_first)
      (apart_slots 0 second.slots each.in_second)
      (λ one other c d.
      let a = held first one c in let b = held second other d in each.apart a.0 b.0 one other a.1 b.1)

  pub live_standing :
      (line : Line) → Stands first second line → IsLiveLine (state_of first second) line
  live_standing line stands =
      live_here (lines_of first ++ lines_of second) apart line
      (⊎_elim
      (λ a. Contains-append_left (lines_of first) (lines_of second) line (listed first line a))
      (λ b. Contains-append_right (lines_of first) (lines_of second) line (listed second line b))
      stands)

  pub count_live : map.len (state_of first second).live ≡ slab_len first + slab_len second
  count_live =
      len-live_in (lines_of first ++ lines_of second) apart
      ∙ (length-append (lines_of first) (lines_of second)
      ∙ (ap (λ n. n + length (lines_of second)) (length-lines_from 0 first.slots)
      ∙ ap (λ n. slab_len first + n) (length-lines_from 0 second.slots)))

module _ (first second : Slab Line) where
  pub standing_of :
      (serial : ℕ) (live : Live) → map.get (state_of first second).live serial ≡ Some live
      → (line : Line) × Stands first second line × (line.serial ≡ serial) × (live ≡ live_of line)
  standing_of serial live is =
      let r = line_of (lines_of first ++ lines_of second) serial live is in (
        r.0,
        ⊎_elim
            (λ a. inl (held first r.0 a))
            (λ b. inr (held second r.0 b))
            (Contains-append_cases (lines_of first) (lines_of second) r.0 r.1),
        r.2,
        r.3,
      )

  pub settled_of :
      (serial : ℕ) → set.contains (state_of first second).settled serial ≡ true
      → (line : Line) × Holds second line × (line.serial ≡ serial)
  settled_of serial is =
      let r = line_of_serial (lines_of second) serial is in (r.0, held second r.0 r.1, r.2)

  pub settled_here :
      (line : Line) → Holds second line → set.contains (state_of first second).settled line.serial ≡ true
  settled_here line h = serial_here (lines_of second) line (listed second line h)

  -- where a serial number stands for a line, under whatever name
  pub live_under :
      IsOneEach serial_of first second → (line : Line) → Stands first second line → (serial : ℕ) → line.serial ≡ serial
      → map.get (state_of first second).live serial ≡ Some (live_of line)
  live_under each line stands serial same =
      subst (λ (s : ℕ). map.get (state_of first second).live s ≡ Some (live_of line)) same
      (live_standing first second each line stands)

  pub settled_under :
      (line : Line) → Holds second line → (serial : ℕ) → line.serial ≡ serial
      → set.contains (state_of first second).settled serial ≡ true
  settled_under line h serial same =
      subst (λ (s : ℕ). set.contains (state_of first second).settled s ≡ true) same (settled_here line h)

  -- a line of the first slab isn't settled
  pub not_settled :
      IsOneEach serial_of first second → (line : Line) → Holds first line
      → set.contains (state_of first second).settled line.serial ≡ false
  not_settled each line h = go (set.contains (state_of first second).settled line.serial) refl
    where
      go : (b : Bool) → set.contains (state_of first second).settled line.serial ≡ b
          → set.contains (state_of first second).settled line.serial ≡ false
      go false e = e
      go true e =
          let r = settled_of line.serial e in
          absurd (each.apart h.0 r.1.0 line r.0 h.1 r.1.1 (sym r.2))

  -- a live line is one that stands, as it is but for its count of allocations: it has the place and the equation
  pub live_is :
      IsOneEach serial_of first second → (line : Line) → Stands first second line → (live : Live)
      → map.get (state_of first second).live line.serial ≡ Some live → live ≡ live_of line
  live_is each line stands live is =
      let e : Some live ≡ Some (live_of line) = sym is ∙ live_standing first second each line stands in cc

-- Where the same lines stand, the same are live.
pub same_live :
    (first second first' second' : Slab Line) → IsOneEach serial_of first second → IsOneEach serial_of first' second'
    → ((line : Line) → Stands first' second' line → Stands first second line)
    → ((line : Line) → Stands first second line → Stands first' second' line)
    → (state_of first' second').live ≡ (state_of first second).live
same_live first second first' second' each each' to from =
    map.same_map nat_cmp_total map.nat_cmp-IsAntisymmetric (state_of first' second').live (state_of first second).live
    (λ serial. same_options (map.get (state_of first' second').live serial) (map.get (state_of first second).live serial)
    (λ live is.
    let r = standing_of first' second' serial live is in
    live_under first second each r.0 (to r.0 r.1) serial r.2 ∙ ap Some (sym r.3))
    (λ live is.
    let r = standing_of first second serial live is in
    live_under first' second' each' r.0 (from r.0 r.1) serial r.2 ∙ ap Some (sym r.3)))

-- The slabs change places.
pub swapped : (number : Line → ℕ) (first second : Slab Line) → IsOneEach number first second → IsOneEach number second first
swapped number first second each = record {
  in_first = each.in_second;
  in_second = each.in_first;
  apart = λ key key' one other a b same. each.apart key' key other one b a (sym same);
}

-- Where fewer lines stand they still differ.
pub fewer_each :
    (number : Line → ℕ) (first second first' second' : Slab Line)
    → ((key : ℕ) (line : Line) → get first' key ≡ Some line → get first key ≡ Some line)
    → ((key : ℕ) (line : Line) → get second' key ≡ Some line → get second key ≡ Some line)
    → IsOneEach number first second → IsOneEach number first' second'
fewer_each number first second first' second' one two each = record {
  in_first = λ key key' a b at_a at_b. each.in_first key key' a b (one key a at_a) (one key' b at_b);
  in_second = λ key key' a b at_a at_b. each.in_second key key' a b (two key a at_a) (two key' b at_b);
  apart = λ key key' a b at_a at_b. each.apart key key' a b (one key a at_a) (two key' b at_b);
}
