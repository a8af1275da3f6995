-- What the calls tell of the live equations, and what they leave.
use Rattle.std.proofs.Common.{◌≡◌, ◌⊎◌, ◌↔◌, ℕ, Bool, true, false, not, List, Option, Some, IsTrue, MatchBool, inl, inr, refl, sym, ap, subst, ◌∙◌, ⊎_elim, arith, Bor, IfSome, IfNone, None}
use Rattle.std.proofs.lemmas.Bool.{false≢true}
use Rattle.std.proofs.Math.Bool.{beq}
use Rattle.std.specs.FinMap as map
use Rattle.std.specs.FinSet as set
use Rattle.slab.specs.Slab.{Slab}
use Rattle.fg_peel.specs.declared.Line.{Line}
use Rattle.fg_peel.specs.Slots.{equation_of}
use Rattle.fg_peel.specs.Equation.{IsComplete}
use Rattle.fg_words.specs.declared.Word.{Word}
use Rattle.fg_peel.proofs.Options.{has_value, value_of}
use Rattle.fg_peel.specs.Live.{Live, Survives, IsFree}
use Rattle.fg_peel.specs.Words.{Words}
use Rattle.fg_buffer.specs.LiveEquations.{LiveState, AreLive, AreOpen, AreSettled, IsLiveLine, SettlesAt, Reopens, Retires, SettledAreBased, live_of}
use Rattle.fg_buffer.specs.LiveInside.{state_of, Holds, Stands, IsOneEach, IsWithin, AreSound, Moves, IsCompleteAs, IsBased, Drops}
use Rattle.fg_buffer.proofs.LiveViews.{serial_of, place_of, held, listed, same_held, live_standing, count_live, standing_of, settled_of, settled_here, live_under, settled_under, not_settled, live_is, same_live, swapped, fewer_each}

-- A line is told by its serial number and by what is live under it.
abbrev line_with : ℕ → Live → Line
line_with serial live = record {
  base = live.equation.base;
  shape = record { offset = live.equation.offset; na = live.equation.count };
  parity = live.equation.parity;
  serial = serial;
  place = live.place;
}

pub same_line : (one other : Line) → one.serial ≡ other.serial → live_of one ≡ live_of other → one ≡ other
same_line one other serial live = ap (λ n. line_with n (live_of one)) serial ∙ ap (line_with other.serial) live

pub same_standing :
    (number : Line → ℕ) (first second : Slab Line) → IsOneEach number first second → (one other : Line)
    → Stands first second one → Stands first second other → number one ≡ number other → one ≡ other
same_standing number first second each one other a b same = ⊎_elim
    (λ x. ⊎_elim
    (λ y. same_held first number each.in_first one other x y same)
    (λ y. absurd (each.apart x.0 y.0 one other x.1 y.1 same))
    b)
    (λ x. ⊎_elim
    (λ y. absurd (each.apart y.0 x.0 other one y.1 x.1 (sym same)))
    (λ y. same_held second number each.in_second one other x y same)
    b)
    a

module _ (first second : Slab Line) (places : List Bool) (sound : AreSound first second places) where
  within : (line : Line) → Stands first second line → IsWithin line
  within line stands =
      ⊎_elim (λ a. sound.open_within a.0 line a.1) (λ b. sound.settled_within b.0 line b.1) stands

  -- a live line stands
  pub stands_live : (line : Line) → IsLiveLine (state_of first second) line → Stands first second line
  stands_live line is =
      let r = standing_of first second line.serial (live_of line) is in
      let same : r.0 ≡ line = same_line r.0 line r.2 (sym r.3) in
      subst (λ (l : Line). Stands first second l) same r.1

  pub are_open : AreOpen (state_of first second) first
  are_open line = (
    λ c.
        let h = held first line c in
        (live_standing first second sound.serials line (inl h), not_settled first second sound.serials line h),
    λ is. ⊎_elim
        (λ a. listed first line a)
        (λ b. (let e : false ≡ true = sym is.1 ∙ settled_here first second line b in absurd (cc)))
        (stands_live line is.0),
  )

  pub are_settled : AreSettled (state_of first second) second
  are_settled line = (
    λ c.
        let h = held second line c in
        (live_standing first second sound.serials line (inr h), settled_here first second line h),
    λ is. ⊎_elim
        (λ a. (let e : false ≡ true = sym (not_settled first second sound.serials line a) ∙ is.1 in absurd (cc)))
        (λ b. listed second line b)
        (stands_live line is.0),
  )

  pub are_live : AreLive (state_of first second)
  are_live = record {
    few = (let n = count_live first second sound.serials in let few = sound.few in omega (arith, n, few));
    shape = λ serial live is.
        (let r = standing_of first second serial live is in
        let w = (within r.0 r.1).shape in rw r.3 w);
    base = λ serial live is.
        (let r = standing_of first second serial live is in
        let w = (within r.0 r.1).base in rw r.3 w);
    place = λ serial live is.
        (let r = standing_of first second serial live is in
        let w = (within r.0 r.1).place in rw r.3 w);
    apart = λ serial serial' one other is is' same.
        (let r = standing_of first second serial one is in
        let r' = standing_of first second serial' other is' in
        let p : r.0.place ≡ r'.0.place =
        sym (ap (λ (l : Live). l.place) r.3) ∙ same ∙ ap (λ (l : Live). l.place) r'.3 in
        let e = same_standing place_of first second sound.numbers r.0 r'.0 r.1 r'.1 p in
        sym r.2 ∙ ap (λ (l : Line). l.serial) e ∙ r'.2);
    settled = λ serial is.
        (let r = settled_of first second serial is in
        has_value (map.get (state_of first second).live serial) (live_of r.0)
        (live_under first second sound.serials r.0 (inr r.1) serial r.2));
  }

  -- no line has a place where none of either slab has it
  pub free_place_of :
      (place : ℕ) → ((line : Line) → Stands first second line → line.place ≡ place → ⊥)
      → IsFree (state_of first second).live place
  free_place_of place none serial live is same =
      let r = standing_of first second serial live is in
      none r.0 r.1 (sym (ap (λ (l : Live). l.place) r.3) ∙ same)

  -- a pass that settles
  module _ (IsGone : Live → Type 0) (first' second' : Slab Line)
      (moves : Moves (λ line. IsGone (live_of line) → ⊥) (λ line. IsGone (live_of line)) first second first' second') where
    pub to : (line : Line) → Stands first' second' line → Stands first second line
    to line stands = ⊎_elim
        (λ a. inl (moves.left line a).0)
        (λ b. ⊎_elim (λ old. inr old) (λ new. inl new.0) (moves.over.gone line b))
        stands

    pub settles_sound : AreSound first' second' places
    settles_sound = record {
      serials = moves.over.each serial_of sound.serials;
      numbers = moves.over.each place_of sound.numbers;
      open_within = λ key line is. within line (to line (inl (key, is)));
      settled_within = λ key line is. within line (to line (inr (key, is)));
      count = sound.count;
      taken = λ line stands. sound.taken line (to line stands);
      by_line = λ place t. (let r = sound.by_line place t in (r.0, moves.over.every r.0 r.1, r.2));
      few = (let few = sound.few in let count = moves.over.count in omega (arith, few, count));
      open_room = (let room = sound.open_room in let same = moves.over.source_capacity in omega (arith, room, same));
      settled_room = (let room = sound.settled_room in let same = moves.over.target_capacity in omega (arith, room, same));
    }

    pub moved_live : (state_of first' second').live ≡ (state_of first second).live
    moved_live = same_live first second first' second' sound.serials (moves.over.each serial_of sound.serials) to moves.over.every

    pub moved_settled :
        (serial : ℕ) → IsTrue (set.contains (state_of first' second').settled serial)
        ↔ (IsTrue (set.contains (state_of first second).settled serial)
        ⊎ ((live : Live) × (map.get (state_of first second).live serial ≡ Some live) × IsGone live))
    moved_settled serial = (
      λ is.
          (let r = settled_of first' second' serial is in
          ⊎_elim
          (λ old. inl (settled_under first second r.0 old serial r.2))
          (λ new. inr (live_of r.0, live_under first second sound.serials r.0 (inl new.0) serial r.2, new.1))
          (moves.over.gone r.0 r.1)),
      λ was. ⊎_elim
          (λ old.
          let r = settled_of first second serial old in
          settled_under first' second' r.0 (moves.over.kept r.0 r.1) serial r.2)
          (λ new.
          let r = standing_of first second serial new.0 new.1 in
          let goes : IsGone (live_of r.0) = subst IsGone r.3 new.2 in
          ⊎_elim
          (λ a. absurd ((moves.left r.0 a).1 goes))
          (λ b. settled_under first' second' r.0 b serial r.2)
          (moves.over.every r.0 r.1))
          was,
    )

  pub settles_at :
      (place : ℕ) (first' second' : Slab Line)
      → Moves (λ line. line.place ≡ place → ⊥) (λ line. line.place ≡ place) first second first' second'
      → SettlesAt place (state_of first second) (state_of first' second')
  settles_at place first' second' moves =
      let IsGone : Live → Type 0 = λ live. live.place ≡ place in
      record { live = moved_live IsGone first' second' moves; settled = moved_settled IsGone first' second' moves }

  -- a pass that opens again
  module _ (words : ℕ → Option Word) (first' second' : Slab Line)
      (moves : Moves (IsCompleteAs true words) (IsCompleteAs false words) second first second' first') where
    pub to_reopened : (line : Line) → Stands first' second' line → Stands first second line
    to_reopened line stands = ⊎_elim
        (λ a. ⊎_elim (λ old. inl old) (λ new. inr new.0) (moves.over.gone line a))
        (λ b. inr (moves.left line b).0)
        stands

    from_reopened : (line : Line) → Stands first second line → Stands first' second' line
    from_reopened line stands = ⊎_elim
        (λ a. inl (moves.over.kept line a))
        (λ b. ⊎_elim (λ old. inr old) (λ new. inl new) (moves.over.every line (inl b)))
        stands

    each_reopened : (number : Line → ℕ) → IsOneEach number first second → IsOneEach number first' second'
    each_reopened number each = swapped number second' first' (moves.over.each number (swapped number first second each))

    pub reopens_sound : AreSound first' second' places
    reopens_sound = record {
      serials = each_reopened serial_of sound.serials;
      numbers = each_reopened place_of sound.numbers;
      open_within = λ key line is. within line (to_reopened line (inl (key, is)));
      settled_within = λ key line is. within line (to_reopened line (inr (key, is)));
      count = sound.count;
      taken = λ line stands. sound.taken line (to_reopened line stands);
      by_line = λ place t. (let r = sound.by_line place t in (r.0, from_reopened r.0 r.1, r.2));
      few = (let few = sound.few in let count = moves.over.count in omega (arith, few, count));
      open_room = (let room = sound.open_room in let same = moves.over.target_capacity in omega (arith, room, same));
      settled_room = (let room = sound.settled_room in let same = moves.over.source_capacity in omega (arith, room, same));
    }

    pub reopens : Reopens words (state_of first second) (state_of first' second')
    reopens = record {
      live = same_live first second first' second' sound.serials (each_reopened serial_of sound.serials) to_reopened from_reopened;
      settled = λ serial. (
        λ is.
            (let r = settled_of first' second' serial is in
            let was = moves.left r.0 r.1 in (
              settled_under first second r.0 was.0 serial r.2,
              (live_of r.0, live_under first second sound.serials r.0 (inr was.0) serial r.2, was.1),
            )),
        λ was.
            (let r = settled_of first second serial was.0 in
            let at : map.get (state_of first second).live r.0.serial ≡ Some was.1.0 =
            ap (map.get (state_of first second).live) r.2 ∙ was.1.1 in
            let same = live_is first second sound.serials r.0 (inr r.1) was.1.0 at in
            let complete : IsComplete words (equation_of r.0) =
            subst (λ (l : Live). IsComplete words l.equation) same was.1.2 in
            ⊎_elim
            (λ b. settled_under first' second' r.0 b serial r.2)
            (λ a. ⊎_elim
            (λ old. absurd (sound.serials.apart old.0 r.1.0 r.0 r.0 old.1 r.1.1 refl))
            (λ new. absurd (new.1 complete))
            (moves.over.gone r.0 a))
            (moves.over.every r.0 (inl r.1))),
      );
    }

  -- a pass over both that retires
  module _ (mark : ℕ) (kept : Words) (first' second' : Slab Line) (places' places'' : List Bool)
      (one : Drops (λ line. Survives mark kept (equation_of line)) first first' places places')
      (two : Drops (λ line. Survives mark kept (equation_of line)) second second' places' places'') where
    pub to_retired : (line : Line) → Stands first' second' line
        → Stands first second line × Survives mark kept (equation_of line)
    to_retired line stands = ⊎_elim
        (λ a. let r = (one.left a.0 line).0 a.1 in (inl (a.0, r.0), r.1))
        (λ b. let r = (two.left b.0 line).0 b.1 in (inr (b.0, r.0), r.1))
        stands

    from_retired : (line : Line) → Stands first second line → Survives mark kept (equation_of line)
        → Stands first' second' line
    from_retired line stands survives = ⊎_elim
        (λ a. inl (a.0, (one.left a.0 line).1 (a.1, survives)))
        (λ b. inr (b.0, (two.left b.0 line).1 (b.1, survives)))
        stands

    each_retired : (number : Line → ℕ) → IsOneEach number first second → IsOneEach number first' second'
    each_retired number each =
        fewer_each number first second first' second'
        (λ key line is. ((one.left key line).0 is).0) (λ key line is. ((two.left key line).0 is).0) each

    pub retires_sound : AreSound first' second' places''
    retires_sound = record {
      serials = each_retired serial_of sound.serials;
      numbers = each_retired place_of sound.numbers;
      open_within = λ key line is. within line (to_retired line (inl (key, is))).0;
      settled_within = λ key line is. within line (to_retired line (inr (key, is))).0;
      count = two.count ∙ one.count ∙ sound.count;
      taken = λ line stands.
          (let r = to_retired line stands in
          let same = λ (other : Line) (h : Stands first second other) (e : other.place ≡ line.place).
          same_standing place_of first second sound.numbers other line h r.0 e in
          let stays = λ (other : Line) (h : Stands first second other) (e : other.place ≡ line.place).
          subst (λ (l : Line). Survives mark kept (equation_of l)) (sym (same other h e)) r.1 in
          (two.freed line.place).1 (
            (one.freed line.place).1 (sound.taken line r.0, λ other h e. stays other (inl h) e),
            λ other h e. stays other (inr h) e,
          ));
      by_line = λ place t.
          (let late = (two.freed place).0 t in
          let early = (one.freed place).0 late.0 in
          let r = sound.by_line place early.0 in
          let survives = ⊎_elim (λ a. early.1 r.0 a r.2) (λ b. late.1 r.0 b r.2) r.1 in
          (r.0, from_retired r.0 r.1 survives, r.2));
      few = (let few = sound.few in let a = one.fewer in let b = two.fewer in omega (arith, few, a, b));
      open_room = (let room = sound.open_room in let same = one.capacity in omega (arith, room, same));
      settled_room = (let room = sound.settled_room in let same = two.capacity in omega (arith, room, same));
    }

    pub retires : Retires mark kept (state_of first second) (state_of first' second')
    retires = record {
      live = λ serial live. (
        λ is.
            (let r = standing_of first' second' serial live is in
            let was = to_retired r.0 r.1 in (
              live_under first second sound.serials r.0 was.0 serial r.2 ∙ ap Some (sym r.3),
              subst (λ (l : Live). Survives mark kept l.equation) (sym r.3) was.1,
            )),
        λ was.
            (let r = standing_of first second serial live was.0 in
            let survives = subst (λ (l : Live). Survives mark kept l.equation) r.3 was.1 in
            live_under first' second' (each_retired serial_of sound.serials) r.0 (from_retired r.0 r.1 survives) serial r.2
            ∙ ap Some (sym r.3)),
      );
      settled = λ serial. (
        λ is.
            (let r = settled_of first' second' serial is in
            let was = (two.left r.1.0 r.0).0 r.1.1 in (
              settled_under first second r.0 (r.1.0, was.0) serial r.2,
              has_value (map.get (state_of first' second').live serial) (live_of r.0)
                  (live_under first' second' (each_retired serial_of sound.serials) r.0 (inr r.1) serial r.2),
            )),
        λ was.
            (let r = settled_of first second serial was.0 in
            let v = value_of (map.get (state_of first' second').live serial) was.1 in
            let s = standing_of first' second' serial v.0 v.1 in
            let back = to_retired s.0 s.1 in
            let same = same_standing serial_of first second sound.serials s.0 r.0 back.0 (inr r.1) (s.2 ∙ sym r.2) in
            let survives = subst (λ (l : Line). Survives mark kept (equation_of l)) same back.1 in
            settled_under first' second' r.0 (r.1.0, (two.left r.1.0 r.0).1 (r.1.1, survives)) serial r.2),
      );
    }

  -- the words are kept of a settled line
  pub based_settled :
      (mark : ℕ) (kept : Words) → SettledAreBased mark kept (state_of first second) → (line : Line) → Holds second line
      → IsBased mark kept (equation_of line)
  based_settled mark kept based line h =
      based line.serial (live_of line) (settled_here first second line h)
      (live_standing first second sound.serials line (inr h))

-- which lines a test of completeness tells
pub stays_of : (r complete : Bool) (P : Type 0) → (IsTrue r ↔ P) → beq r complete ≡ false → MatchBool (not complete) P (P → ⊥)
stays_of true true P h e = absurd (false≢true (sym e))
stays_of true false P h e = h.0 refl
stays_of false true P h e = λ p. absurd (false≢true (h.1 p))
stays_of false false P h e = absurd (false≢true (sym e))

-- what a search in both slabs tells
module _ (first second : Slab Line) (places : List Bool) (sound : AreSound first second places) (IsSought : Line → Type 0) where
  pub found_first : (line : Line) → Holds first line × IsSought line → IsLiveLine (state_of first second) line × IsSought line
  found_first line found = (live_standing first second sound.serials line (inl found.0), found.1)

  pub found_second : (line : Line) → Holds second line × IsSought line → IsLiveLine (state_of first second) line × IsSought line
  found_second line found = (live_standing first second sound.serials line (inr found.0), found.1)

  pub found_none :
      ((line : Line) → Holds first line → IsSought line → ⊥) → ((line : Line) → Holds second line → IsSought line → ⊥)
      → (line : Line) → IsLiveLine (state_of first second) line → IsSought line → ⊥
  found_none none none' line is =
      ⊎_elim (λ a. none line a) (λ b. none' line b) (stands_live first second places sound line is)

-- What was found among some lines is told of them all.
pub told_some :
    (IsSought IsTold : Line → Type 0) (lines : Slab Line) (found : Option (Bor Line))
    → ((line : Line) → Holds lines line × IsSought line → IsTold line)
    → IfSome found (λ (line : Bor Line). Holds lines line.now × IsSought line.now) → IfSome found (λ (line : Bor Line). IsTold line.now)
told_some IsSought IsTold lines None f h = h
told_some IsSought IsTold lines (Some line) f h = f line.now h

pub told_none : (P Q : Type 0) (found : Option (Bor Line)) → (P → Q) → IfNone found P → IfNone found Q
told_none P Q None f h = f h
told_none P Q (Some line) f h = h

-- Those found among the settled lines are live.
pub told_settled :
    (open_lines settled_lines : Slab Line) (places : List Bool) (now : LiveState) → state_of open_lines settled_lines ≡ now
    → (sound : AreSound open_lines settled_lines places) (IsSought : Line → Type 0) (found : Option (Bor Line))
    → IfSome found (λ (line : Bor Line). Holds settled_lines line.now × IsSought line.now)
    → IfSome found (λ (line : Bor Line). IsLiveLine now line.now × IsSought line.now)
told_settled open_lines settled_lines places now is sound IsSought found =
    told_some IsSought (λ (line : Line). IsLiveLine now line × IsSought line) settled_lines found
    (λ line there.
    subst (λ (s : LiveState). IsLiveLine s line × IsSought line) is
    (found_second open_lines settled_lines places sound IsSought line there))
