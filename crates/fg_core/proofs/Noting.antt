-- Which equations are noted, by the notes at their places.
use Rattle.std.proofs.Common.{◌≡◌, ◌≢◌, ◌⊎◌, ◌<◌, ◌≤◌, ◌&&◌, ◌||◌, ◌==◌, not, ℕ, zero, suc, Bool, true, false, true≢false, cond, if◌then◌else◌, List, length, set, Option, Some, None, inl, inr, refl, sym, ap, subst, ◌∙◌, ⊎_elim, arith, eq-eqb, ne_eqb}
use Rattle.std.proofs.lemmas.Bool.{cases_eq, and_parts, and_from}
use Rattle.std.proofs.lemmas.Bool.Decides.{Decides-eqb}
use Rattle.std.proofs.lemmas.Option.{same_Some}
use Rattle.std.proofs.lemmas.List.{get_or-set_same, get_or-set_other}
use Rattle.std.specs.Ordering.{nat_cmp}
use Rattle.std.specs.Cmp.{unsigned_tied, nat_cmp_total}
use Rattle.std.specs.FinMap.{get}
use Rattle.std.specs.FinSet as set_of
use Rattle.std.specs.FinSet.{FinSet, contains, contains-insert, contains-remove, contains-empty, same_set, nat_cmp-IsAntisymmetric}
use Rattle.fg_peel.proofs.Maps.{was_or_inserted}
use Rattle.fg_peel.proofs.Options.{value_of, has_value}
use Rattle.fg_playout.specs.State.{Live}
use Rattle.fg_playout.specs.Facts.{Holds}
use Rattle.fg_buffer.specs.BufferEntries.{positions_below}
use Rattle.fg_desk.specs.Contents.{Contents}
use Rattle.fg_core.specs.Board.{KeepsNotes, AreNotesAfter}
use Rattle.fg_core.specs.Flow.{no_note, note_at, says, is_noted, noted, is_vouched, is_handed_out, board_of, AreKept}
use Rattle.fg_core.specs.declared.notes.Note.{Note}
use Rattle.fg_core.proofs.Follows.{Follows}

-- A set with one more number, or with one less.
abbrev pub with_number : Bool → FinSet nat_cmp → ℕ → FinSet nat_cmp
with_number more s k = (if more then set_of.insert s k else set_of.remove s k)

pub has_number : (more : Bool) (s : FinSet nat_cmp) (k q : ℕ) → q ≡ k → contains (with_number more s k) q ≡ more
has_number true s k q same =
    contains-insert nat_cmp_total s k q ∙ ap (λ b. b || contains s q) (unsigned_tied q k ∙ eq-eqb q k same)
has_number false s k q same =
    contains-remove nat_cmp_total s k q ∙ ap (λ b. not b && contains s q) (unsigned_tied q k ∙ eq-eqb q k same)

pub beside_number : (more : Bool) (s : FinSet nat_cmp) (k q : ℕ) → q ≢ k → contains (with_number more s k) q ≡ contains s q
beside_number true s k q other =
    contains-insert nat_cmp_total s k q ∙ ap (λ b. b || contains s q) (unsigned_tied q k ∙ ne_eqb q k other)
beside_number false s k q other =
    contains-remove nat_cmp_total s k q ∙ ap (λ b. not b && contains s q) (unsigned_tied q k ∙ ne_eqb q k other)

stays_in : (s : FinSet nat_cmp) (k q : ℕ) → contains s q ≡ true → contains (set_of.insert s k) q ≡ true
stays_in s k q is = ⊎_elim (λ same. has_number true s k q same) (λ other. beside_number true s k q other ∙ is) (cases_eq q k)

-- The positions below a limit that pass a test.
of_below : (n : ℕ) (test : ℕ → Bool) (q : ℕ) → contains (positions_below n test) q ≡ true → (q < n) × (test q ≡ true)
unfolding positions_below
of_below zero test q is = absurd (true≢false (sym is ∙ contains-empty nat_cmp q))
of_below (suc n) test q is = go (test n) refl is (of_below n test q)
  where
    go : (b : Bool) → test n ≡ b → contains (cond b (set_of.insert (positions_below n test) n) (positions_below n test)) q ≡ true
        → (contains (positions_below n test) q ≡ true → (q < n) × (test q ≡ true)) → (q < suc n) × (test q ≡ true)
    go false e has rest = let r = rest has in (omega (arith, r.0), r.1)
    go true e has rest = ⊎_elim
        (λ same. (omega (arith, same), ap test same ∙ e))
        (λ was. let r = rest was in (omega (arith, r.0), r.1))
        (was_or_inserted (positions_below n test) n q has)

in_below : (n : ℕ) (test : ℕ → Bool) (q : ℕ) → q < n → test q ≡ true → contains (positions_below n test) q ≡ true
unfolding positions_below
in_below zero test q less is = absurd (omega (arith, less))
in_below (suc n) test q less is = go (test n) refl (in_below n test q)
  where
    go : (b : Bool) → test n ≡ b → (q < n → test q ≡ true → contains (positions_below n test) q ≡ true)
        → contains (cond b (set_of.insert (positions_below n test) n) (positions_below n test)) q ≡ true
    go false e rest = ⊎_elim
        (λ same. absurd (true≢false (sym is ∙ ap test same ∙ e)))
        (λ other. rest (omega (arith, less, other)) is)
        (cases_eq q n)
    go true e rest = ⊎_elim
        (λ same. has_number true (positions_below n test) n q same)
        (λ other. stays_in (positions_below n test) n q (rest (omega (arith, less, other)) is))
        (cases_eq q n)

pub same_bool : (a b : Bool) → (a ≡ true → b ≡ true) → (b ≡ true → a ≡ true) → a ≡ b
same_bool true b to from = sym (to refl)
same_bool false true to from = from refl
same_bool false false to from = refl

-- A note is of an equation and says so.
pub said : (which : Note → Bool) (epoch serial : ℕ) (note : Note) → says which epoch serial note ≡ true
    → (note.serial ≡ serial) × (note.epoch ≡ epoch) × (which note ≡ true)
said which epoch serial note is =
    let both = and_parts (note.serial == serial && note.epoch == epoch) (which note) is in
    let own = and_parts (note.serial == serial) (note.epoch == epoch) both.0 in
    ((Decides-eqb note.serial serial).0 own.0, (Decides-eqb note.epoch epoch).0 own.1, both.1)

pub to_say : (which : Note → Bool) (epoch serial : ℕ) (note : Note) → note.serial ≡ serial → note.epoch ≡ epoch
    → which note ≡ true → says which epoch serial note ≡ true
to_say which epoch serial note own now is =
    and_from (note.serial == serial && note.epoch == epoch) (which note)
    (and_from (note.serial == serial) (note.epoch == epoch) (eq-eqb note.serial serial own) (eq-eqb note.epoch epoch now)) is

noted_live : (which : Note → Bool) (notes : List Note) (epoch serial : ℕ) (o : Option Live)
    → is_noted which notes epoch serial o ≡ true
    → (live : Live) × (o ≡ Some live) × (says which epoch serial (note_at notes live.place) ≡ true)
noted_live which notes epoch serial None is = absurd (true≢false (sym is))
noted_live which notes epoch serial (Some live) is = (live, refl, is)

module _ (which : Note → Bool) (notes : List Note) (desk : Contents) where
  -- A noted equation is live, and the note at its place says so.
  pub of_noted : (serial : ℕ) → contains (noted which notes desk) serial ≡ true
      → (live : Live) × (get desk.state.equations serial ≡ Some live)
      × (says which desk.epoch serial (note_at notes live.place) ≡ true)
  of_noted serial is =
      let r = of_below desk.state.admitted (λ s. is_noted which notes desk.epoch s (get desk.state.equations s)) serial is in
      noted_live which notes desk.epoch serial (get desk.state.equations serial) r.1

  pub in_noted : (serial : ℕ) (live : Live) → serial < desk.state.admitted → get desk.state.equations serial ≡ Some live
      → says which desk.epoch serial (note_at notes live.place) ≡ true → contains (noted which notes desk) serial ≡ true
  in_noted serial live below is is_said =
      in_below desk.state.admitted (λ s. is_noted which notes desk.epoch s (get desk.state.equations s)) serial below
      (ap (is_noted which notes desk.epoch serial) is ∙ is_said)

  pub noted_is : (serial : ℕ) (live : Live) → serial < desk.state.admitted → get desk.state.equations serial ≡ Some live
      → contains (noted which notes desk) serial ≡ says which desk.epoch serial (note_at notes live.place)
  noted_is serial live below is =
      same_bool (contains (noted which notes desk) serial) (says which desk.epoch serial (note_at notes live.place))
      (λ has.
      let r = of_noted serial has in
      ap (λ (l : Live). says which desk.epoch serial (note_at notes l.place)) (same_Some live r.0 (sym is ∙ r.1)) ∙ r.2)
      (λ is_said. in_noted serial live below is is_said)

-- Notes stay as they are through each call of the admitter.
module _ (notes : List Note) (old new : Contents) (kept : AreKept old notes) (follows : Follows old new) where
  notes_stay : (which : Note → Bool)
      → ((note : Note) → which note ≡ true → (note.vouched ≡ true) ⊎ (note.handed_out ≡ true))
      → AreNotesAfter (board_of old notes) (board_of new notes) (noted which notes old) (noted which notes new)
  notes_stay which tells serial = (
    λ has. (
        let r = of_noted which notes new serial has in
        let own = said which new.epoch serial (note_at notes r.0.place) r.2 in
        let past = kept.past r.0.place (tells (note_at notes r.0.place) own.2) in
        let below : serial < old.state.admitted = omega (arith, past.0, own.0) in
        let same : new.epoch ≡ old.epoch = omega (arith, past.1, own.1, follows.epoch) in (
          in_noted which notes old serial r.0 below (follows.lives serial r.0 below r.1)
              (to_say which old.epoch serial (note_at notes r.0.place) own.0 (own.1 ∙ same) own.2),
          same,
          has_value (get new.state.equations serial) r.0 r.1,
        )
        ),
    λ was. (
        let r = of_noted which notes old serial was.0 in
        let own = said which old.epoch serial (note_at notes r.0.place) r.2 in
        let past = kept.past r.0.place (tells (note_at notes r.0.place) own.2) in
        let below : serial < old.state.admitted = omega (arith, past.0, own.0) in
        let now = value_of (get new.state.equations serial) was.2 in
        let same : now.0 ≡ r.0 = same_Some now.0 r.0 (sym (follows.lives serial now.0 below now.1) ∙ r.1) in
        let rises = follows.admitted in
        in_noted which notes new serial now.0 (omega (arith, below, rises)) now.1
        (ap (λ (l : Live). says which new.epoch serial (note_at notes l.place)) same
        ∙ to_say which new.epoch serial (note_at notes r.0.place) own.0 (own.1 ∙ sym was.1) own.2)
        ),
  )

  pub keeps_notes : KeepsNotes (board_of old notes) (board_of new notes)
  keeps_notes = record {
    vouched = notes_stay is_vouched (λ note is. inl is);
    handed_out = notes_stay is_handed_out (λ note is. inr is);
  }

  pub are_kept : AreKept new notes
  are_kept = record {
    past = λ place is. (
        let past = kept.past place is in
        let a = follows.admitted in
        let e = follows.epoch in
        (omega (arith, past.0, a), omega (arith, past.1, e))
        );
    bare = follows.bare;
  }

-- A note is put at the place of a live equation, in the desk's epoch.
module _
    (desk : Contents) (notes : List Note) (facts : Holds desk.state) (count : length notes ≡ 512) (serial : ℕ) (live : Live)
    (is : get desk.state.equations serial ≡ Some live) (note : Note) (own : note.serial ≡ serial) (now : note.epoch ≡ desk.epoch) where
  new_notes : List Note
  new_notes = set notes live.place note

  at_place : note_at (set notes live.place note) live.place ≡ note
  at_place =
      let placed = (facts.live serial live is).placed in
      get_or-set_same notes live.place note no_note (omega (arith, placed, count))

  put_here : (which : Note → Bool) → contains (noted which (set notes live.place note) desk) serial ≡ which note
  put_here which =
      noted_is which (set notes live.place note) desk serial live (facts.live serial live is).numbered is
      ∙ ap (says which desk.epoch serial) at_place
      ∙ ap (λ b. b && which note)
      (and_from (note.serial == serial) (note.epoch == desk.epoch) (eq-eqb note.serial serial own) (eq-eqb note.epoch desk.epoch now))

  elsewhere : (other : ℕ) (live' : Live) → other ≢ serial → get desk.state.equations other ≡ Some live'
      → note_at (set notes live.place note) live'.place ≡ note_at notes live'.place
  elsewhere other live' differs is' =
      get_or-set_other notes live.place live'.place note no_note
      (λ same. (facts.apart other serial live' live is' is differs).places same)

  put_there : (which : Note → Bool) (other : ℕ) → other ≢ serial
      → contains (noted which (set notes live.place note) desk) other ≡ contains (noted which notes desk) other
  put_there which other differs =
      same_bool (contains (noted which (set notes live.place note) desk) other) (contains (noted which notes desk) other)
      (λ has.
      let r = of_noted which (set notes live.place note) desk other has in
      in_noted which notes desk other r.0 (facts.live other r.0 r.1).numbered r.1
      (ap (says which desk.epoch other) (sym (elsewhere other r.0 differs r.1)) ∙ r.2))
      (λ had.
      let r = of_noted which notes desk other had in
      in_noted which (set notes live.place note) desk other r.0 (facts.live other r.0 r.1).numbered r.1
      (ap (says which desk.epoch other) (elsewhere other r.0 differs r.1) ∙ r.2))

  -- What the note says as before stays, and else the equation comes or goes.
  pub put_same : (which : Note → Bool) → which note ≡ says which desk.epoch serial (note_at notes live.place)
      → noted which (set notes live.place note) desk ≡ noted which notes desk
  put_same which as_before =
      same_set nat_cmp_total nat_cmp-IsAntisymmetric (noted which (set notes live.place note) desk) (noted which notes desk)
      (λ q. ⊎_elim
      (λ same.
      ap (contains (noted which (set notes live.place note) desk)) same ∙ put_here which ∙ as_before
      ∙ sym (noted_is which notes desk serial live (facts.live serial live is).numbered is)
      ∙ ap (contains (noted which notes desk)) (sym same))
      (λ other. put_there which q other)
      (cases_eq q serial))

  pub put_as : (says_so : Bool) (which : Note → Bool) → which note ≡ says_so
      → noted which (set notes live.place note) desk ≡ with_number says_so (noted which notes desk) serial
  put_as says_so which is_so =
      same_set nat_cmp_total nat_cmp-IsAntisymmetric (noted which (set notes live.place note) desk)
      (with_number says_so (noted which notes desk) serial)
      (λ q. ⊎_elim
      (λ same.
      ap (contains (noted which (set notes live.place note) desk)) same ∙ put_here which ∙ is_so
      ∙ sym (has_number says_so (noted which notes desk) serial q same))
      (λ other. put_there which q other ∙ sym (beside_number says_so (noted which notes desk) serial q other))
      (cases_eq q serial))

  pub put_kept : AreKept desk notes → AreKept desk (set notes live.place note)
  put_kept kept = record {
    past = λ place tells. ⊎_elim
        (λ same. (
        let here : note_at (set notes live.place note) place ≡ note = ap (note_at (set notes live.place note)) same ∙ at_place in
        let numbered = (facts.live serial live is).numbered in
        let s = ap (λ (m : Note). m.serial) here in
        let e = ap (λ (m : Note). m.epoch) here in
        (omega (arith, s, own, numbered), omega (arith, e, now))
        ))
        (λ other. (
        let there : note_at (set notes live.place note) place ≡ note_at notes place =
        get_or-set_other notes live.place place note no_note other in
        subst (λ (m : Note). (m.serial < desk.state.admitted) × (m.epoch ≤ desk.epoch)) (sym there)
        (kept.past place (subst (λ (m : Note). (m.vouched ≡ true) ⊎ (m.handed_out ≡ true)) there tells))
        ))
        (cases_eq place live.place);
    bare = kept.bare;
  }
