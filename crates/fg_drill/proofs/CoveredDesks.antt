-- What a desk of a stream with covered losses has: all that was received and not played, what was shown last, and the column of each
-- lost slot that isn't played once that column was sent. So what it plays is whole, and it has that after each call.
use Rattle.std.proofs.Common.{◌≡◌, ◌≢◌, ◌+◌, ◌-◌, ◌*◌, ◌<◌, ◌≤◌, ◌&&◌, ◌==◌, ℕ, Bool, true, false, cond, ltb, leb, List, Option, Some, None, IsSome, MatchOption, inl, inr, refl, sym, ap, subst, ◌∙◌, ⊎_elim, arith, lt-ltb, le-ltb, le-leb, eq-eqb, ne_eqb}
use Rattle.std.proofs.lemmas.Bool.{cases_lt, cases_eq, cond-true, cond-false, false≢true}
use Rattle.std.proofs.lemmas.Option.{same_Some, MatchOption-at_some}
use Rattle.std.proofs.Math.Nat.{mul-le-mul_right}
use Rattle.std.specs.List.{Contains}
use Rattle.std.specs.FinMap.{get}
use Rattle.fg_words.specs.declared.Word.{Word}
use Rattle.fg_shape.specs.declared.layouts.Layout.{Layout}
use Rattle.fg_shape.specs.Playout.{Playout, PlayoutFits}
use Rattle.fg_shape.specs.Shape.{slots_of}
use Rattle.fg_shape.proofs.LayoutLemmas.{column_last}
use Rattle.fg_shape.proofs.ShapeLemmas.{number_of_slot}
use Rattle.fg_peel.specs.Equation.{Equation, slots}
use Rattle.fg_peel.specs.Live.{Live, HasSlots, last_slot}
use Rattle.fg_peel.proofs.Options.{none_has_no_value, some_and, value_of}
use Rattle.fg_encode.proofs.ListLemmas.{bool_cases}
use Rattle.fg_playout.specs.declared.reply.Reply.{Reply}
use Rattle.fg_playout.specs.declared.reply.Reply.TheVariants.{Admitted, Duplicate, Conflict, Late, NotStarted, BeforeStart, Ahead, Crowded, Foreign}
use Rattle.fg_playout.specs.declared.reply.Outcome.{Outcome}
use Rattle.fg_playout.specs.declared.reply.Outcome.TheVariants.{Repaired}
use Rattle.fg_playout.specs.State.{State, Top, known, live_equations}
use Rattle.fg_playout.specs.Admission.{Parity, Sender, former, own, another, sender_of, position_on, run_by, run_on, with_media, IsAfterMedia, IsAfterParity, IsEquationReply, IsFresh, IsLate, IsLeastFree, AdmitsMedia, AdmitsParity, base_on, counted, equation_at, with_equation}
use Rattle.fg_playout.specs.Solution.{InClosure, IsSolution, given, derived}
use Rattle.fg_playout.specs.Play.{Play, Decides, IsPlay, Survives}
use Rattle.fg_playout.specs.Facts.{Holds}
use Rattle.fg_playout.specs.Laws.{LiveStandUnderSerials, MediaAdds, ParityAdds}
use Rattle.fg_playout.proofs.Following.{media_keeps_mark, parity_keeps_mark}
use Rattle.fg_playout.proofs.Orderly.{known_ahead, known_below}
use Rattle.fg_drill.specs.Covered.{AreCovered, HasInColumn, is_gone}
use Rattle.fg_drill.proofs.LiveLines.{IsLine, never_crowded}

both_tests : (a b : Bool) → a ≡ true → b ≡ true → (a && b) ≡ true
both_tests a b first second = λ i. first i && second i

slots_are : (base offset count : ℕ) (equation : Equation) → HasSlots base offset count equation → slots equation ≡ slots_of base offset count
slots_are base offset count equation is =
    ap (λ (b : ℕ). slots_of b equation.offset equation.count) is.base_is
    ∙ ap (λ (o : ℕ). slots_of base o equation.count) is.offset_is
    ∙ ap (λ (n : ℕ). slots_of base offset n) is.count_is

last_is_at : (base offset count : ℕ) (equation : Equation) → HasSlots base offset count equation → last_slot equation ≡ base + (count - 1) * offset
last_is_at base offset count equation is =
    ap (λ (b : ℕ). b + (equation.count - 1) * equation.offset) is.base_is
    ∙ ap (λ (n : ℕ). base + (n - 1) * equation.offset) is.count_is
    ∙ ap (λ (o : ℕ). base + (count - 1) * o) is.offset_is

-- A run that goes on or begins is played as before.
run_keeps_playout : (old : State) (sender : Sender) → (run_by old sender).playout ≡ old.playout
run_keeps_playout old former = refl
run_keeps_playout old (own top) = refl
run_keeps_playout old another = refl

media_keeps_playout :
    (old new : State) (seq ssrc : ℕ) (word : Word) → IsAfterMedia old seq ssrc word Admitted new → new.playout ≡ old.playout
media_keeps_playout old new seq ssrc word after =
    let a = some_and (position_on old seq ssrc) (λ p. new ≡ with_media (run_on old ssrc) seq ssrc p word) after in
    ap (λ (s : State). s.playout) a.2 ∙ run_keeps_playout old (sender_of old ssrc)

parity_keeps_playout :
    (old new : State) (parity : Parity) (reply : Reply) → IsAfterParity old parity reply new → new.playout ≡ old.playout
parity_keeps_playout old new parity Admitted after =
    let a = some_and (base_on old parity.base)
    (λ position. (place : ℕ) × IsLeastFree old.equations place × (new ≡ with_equation old place (equation_at position parity))) after in
    ap (λ (s : State). s.playout) a.2.2
parity_keeps_playout old new parity reply after = ap (λ (s : State). s.playout) after

module _ (layout : Layout) (count : ℕ) (lost : ℕ → Bool) (covered : AreCovered layout count lost) where
  abbrev pub gone : ℕ → Bool
  gone = is_gone layout lost

  -- A slot of a column lies near its ends.
  pub record IsWithinColumn (base slot : ℕ) : Type 0 where
    pub first : base ≤ slot
    pub last : slot ≤ base + (layout.d - 1) * layout.l
    pub span : (layout.d - 1) * layout.l ≤ 99

  pub within_column : (base slot : ℕ) → Contains (slots_of base layout.l layout.d) slot → IsWithinColumn base slot
  within_column base slot at =
      let n = number_of_slot base layout.l layout.d slot at in
      let within = n.1 in
      let is = n.2 in
      let few : n.0 ≤ layout.d - 1 = omega (arith, within) in
      let product : n.0 * layout.l ≤ (layout.d - 1) * layout.l = mul-le-mul_right layout.l few in
      let height = layout.accepted.height.0 in
      let some = layout.accepted.columns.0 in
      let size = layout.accepted.product in
      let d : layout.d - 1 + 1 ≡ layout.d = omega (arith, height) in
      let all : (layout.d - 1 + 1) * layout.l ≡ layout.d * layout.l = ap (λ n. n * layout.l) d in
      record {
        first = omega (arith, is);
        last = omega (arith, is, product);
        span = omega (arith, all, some, size);
      }

  -- The column that begins there is live.
  pub record HasColumn (desk : State) (base : ℕ) : Type 0 where
    pub equation : Equation
    pub listed : Contains (live_equations desk) equation
    pub slots : HasSlots base layout.l layout.d equation

  -- Of the slots before `next` the media datagrams that aren't lost have come, and those columns that were sent. Live equations are of
  -- the layout and end before a bound. All that was shown lately was whole.
  pub record IsBacked (playout : Playout) (next bound : ℕ) (Sent : ℕ → Type 0) (desk : State) : Type 0 where
    pub playout_is : desk.playout ≡ playout
    pub received : (slot : ℕ) → desk.mark ≤ slot → slot < next → gone slot ≡ false → IsSome (known desk slot)
    pub kept : (slot : ℕ) → slot < desk.mark → desk.mark ≤ slot + 100 → slot < count → IsSome (known desk slot)
    pub columns :
        (base slot : ℕ) → Sent base → Contains (slots_of base layout.l layout.d) slot → gone slot ≡ true → desk.mark ≤ slot
        → slot < count → HasColumn desk base
    pub lines :
        (equation : Equation) → Contains (live_equations desk) equation → IsLine layout equation × (last_slot equation < bound)

  -- The column of a slot was sent, and ended before the next one.
  abbrev pub WasSent : ℕ → (ℕ → Type 0) → ℕ → Type 0
  WasSent next Sent slot = (last : ℕ) × (base : ℕ) × HasInColumn layout last base slot × Sent base × (last < next)

  -- A slot that isn't lost, or whose column was sent, is in the closure.
  pub in_closure :
      (playout : Playout) (next bound : ℕ) (Sent : ℕ → Type 0) (desk : State) (slot : ℕ) → IsBacked playout next bound Sent desk
      → next ≤ count → desk.mark ≤ slot → slot < next → (gone slot ≡ true → WasSent next Sent slot) → InClosure desk slot
  in_closure playout next bound Sent desk slot backed few ahead below sent = ⊎_elim
      (λ (lost_here : gone slot ≡ true).
      let s = sent lost_here in
      let base : ℕ = s.1 in
      let in_column = s.2 in
      let has = backed.columns base slot s.3 in_column.1 lost_here ahead (omega (arith, below, few)) in
      let same = slots_are base layout.l layout.d has.equation has.slots in
      let end = column_last layout s.0 base in_column.0 in
      let near = within_column base slot in_column.1 in
      let before = s.4 in
      derived has.equation has.listed (subst (λ (xs : List ℕ). Contains xs slot) (sym same) in_column.1) ahead
      (λ other at differ.
      let at_column : Contains (slots_of base layout.l layout.d) other = subst (λ (xs : List ℕ). Contains xs other) same at in
      let there = within_column base other at_column in
      given (⊎_elim
      (λ (lost_there : gone other ≡ true).
      absurd (differ (covered.one s.0 base other slot (in_column.0, at_column) in_column lost_there lost_here)))
      (λ (kept_there : gone other ≡ false). ⊎_elim
      (λ (played : other < desk.mark).
      backed.kept other played (omega (arith, ahead, near.last, near.span, there.first))
      (omega (arith, there.last, end, before, few)))
      (λ (later : desk.mark ≤ other). backed.received other later (omega (arith, there.last, end, before)) kept_there)
      (cases_lt other desk.mark))
      (bool_cases (gone other)))))
      (λ (kept_here : gone slot ≡ false). given (backed.received slot ahead below kept_here))
      (bool_cases (gone slot))

  module _ (stand : LiveStandUnderSerials) where
    -- A repaired play of slots that are in the closure leaves such a desk.
    module _
        (playout : Playout) (next bound : ℕ) (Sent : ℕ → Type 0) (size : ℕ) (old : State) (play : Play) (new : State)
        (is : IsPlay size old play new) (repaired : play.outcome ≡ Repaired) (backed : IsBacked playout next bound Sent old)
        (inside : (slot : ℕ) → old.mark ≤ slot → slot < old.mark + size → slot < count → InClosure old slot) where
      shown_is_kept :
          (slot : ℕ) → slot < new.mark → new.mark ≤ slot + 100 → slot < count → IsSome (get new.kept slot)
      shown_is_kept slot below near within =
          let mark = is.mark in
          let solution : IsSolution old is.words = subst (λ (o : Outcome). Decides old o is.words) repaired is.decides in
          let words : ℕ → Option Word = is.words in
          let here : get new.kept slot ≡ cond (ltb slot old.mark) (get old.kept slot) (words slot) =
          is.kept slot
          ∙ cond-true (ltb slot new.mark && leb new.mark (slot + 100))
          (cond (ltb slot old.mark) (get old.kept slot) (words slot)) None
          (both_tests (ltb slot new.mark) (leb new.mark (slot + 100)) (lt-ltb slot new.mark below)
          (le-leb new.mark (slot + 100) near)) in
          subst (λ (o : Option Word). IsSome o) (sym here)
          (⊎_elim
          (λ (played : slot < old.mark).
          subst (λ (o : Option Word). IsSome o)
          (known_below old slot played
          ∙ sym (cond-true (ltb slot old.mark) (get old.kept slot) (words slot) (lt-ltb slot old.mark played)))
          (backed.kept slot played (omega (arith, mark, near)) within))
          (λ (ahead : old.mark ≤ slot).
          subst (λ (o : Option Word). IsSome o)
          (sym (cond-false (ltb slot old.mark) (get old.kept slot) (words slot) (le-ltb slot old.mark ahead)))
          ((solution.domain slot).1 (inside slot ahead (omega (arith, mark, below)) within)))
          (cases_lt slot old.mark))

      survives :
          (base slot : ℕ) (equation : Equation) → HasSlots base layout.l layout.d equation
          → Contains (slots_of base layout.l layout.d) slot → new.mark ≤ slot → slot < count
          → Survives new.mark new.kept equation
      survives base slot equation has at ahead within =
          let near = within_column base slot at in
          let last = last_is_at base layout.l layout.d equation has in
          record {
            reaches = omega (arith, last, near.last, ahead);
            based = λ other there below.
                (let other_near = within_column base other
                (subst (λ (xs : List ℕ). Contains xs other) (slots_are base layout.l layout.d equation has) there) in
                shown_is_kept other below (omega (arith, other_near.first, near.last, near.span, ahead))
                (omega (arith, below, ahead, within)));
          }

      pub play_leaves_backed : IsBacked playout next bound Sent new
      play_leaves_backed = record {
        playout_is = ap (λ (s : State). s.playout) is.rest ∙ backed.playout_is;
        received = λ slot ahead below kept_there.
            (let mark = is.mark in
            let same : known new slot ≡ known old slot =
            known_ahead new slot ahead ∙ is.media slot
            ∙ cond-false (ltb slot new.mark) None (get old.media slot) (le-ltb slot new.mark ahead)
            ∙ sym (known_ahead old slot (omega (arith, mark, ahead))) in
            subst (λ (o : Option Word). IsSome o) (sym same)
            (backed.received slot (omega (arith, mark, ahead)) below kept_there));
        kept = λ slot below near within.
            subst (λ (o : Option Word). IsSome o) (sym (known_below new slot below)) (shown_is_kept slot below near within);
        columns = λ base slot sent at lost_there ahead within.
            (let mark = is.mark in
            let has = backed.columns base slot sent at lost_there (omega (arith, mark, ahead)) within in
            let r = (stand old has.equation).0 has.listed in
            let live_has : HasSlots base layout.l layout.d r.1.equation =
            subst (λ (e : Equation). HasSlots base layout.l layout.d e) (sym r.3) has.slots in
            record {
              equation = has.equation;
              listed = (stand new has.equation).1 (
                r.0,
                r.1,
                (is.equations r.0 r.1).1 (r.2, repaired, survives base slot r.1.equation live_has at ahead within),
                r.3,
              );
              slots = has.slots;
            });
        lines = λ equation listed.
            (let r = (stand new equation).0 listed in
            backed.lines equation ((stand old equation).1 (r.0, r.1, ((is.equations r.0 r.1).0 r.2).0, r.3)));
      }

    -- Where a call adds lines of the layout at most, and changes nothing else.
    adds_backed :
        (playout : Playout) (next bound : ℕ) (Sent : ℕ → Type 0) (old new : State) → new.mark ≡ old.mark → known new ≡ known old
        → new.playout ≡ old.playout
        → ((equation : Equation) → Contains (live_equations old) equation → Contains (live_equations new) equation)
        → ((equation : Equation) → Contains (live_equations new) equation → IsLine layout equation × (last_slot equation < bound))
        → IsBacked playout next bound Sent old → IsBacked playout next bound Sent new
    adds_backed playout next bound Sent old new same_mark same_known same_playout more lines backed = record {
      playout_is = same_playout ∙ backed.playout_is;
      received = λ slot ahead below kept_there.
          subst (λ (f : ℕ → Option Word). IsSome (f slot)) (sym same_known)
          (backed.received slot (omega (arith, same_mark, ahead)) below kept_there);
      kept = λ slot below near within.
          subst (λ (f : ℕ → Option Word). IsSome (f slot)) (sym same_known)
          (backed.kept slot (omega (arith, same_mark, below)) (omega (arith, same_mark, near)) within);
      columns = λ base slot sent at lost_there ahead within.
          (let has = backed.columns base slot sent at lost_there (omega (arith, same_mark, ahead)) within in
          record { equation = has.equation; listed = more has.equation has.listed; slots = has.slots });
      lines = lines;
    }

    -- More is known of what was sent, or less is told.
    pub weaker_backed :
        (playout : Playout) (next next' bound bound' : ℕ) (Sent Sent' : ℕ → Type 0) (desk : State) → bound ≤ bound'
        → ((slot : ℕ) → next ≤ slot → slot < next' → gone slot ≡ true)
        → ((base : ℕ) → Sent' base → Sent base) → IsBacked playout next bound Sent desk → IsBacked playout next' bound' Sent' desk
    weaker_backed playout next next' bound bound' Sent Sent' desk wider between sent backed = record {
      playout_is = backed.playout_is;
      received = λ slot ahead below kept_there. ⊎_elim
          (λ (early : slot < next). backed.received slot ahead early kept_there)
          (λ (late : next ≤ slot). absurd (false≢true (sym kept_there ∙ between slot late below)))
          (cases_lt slot next);
      kept = backed.kept;
      columns = λ base slot is at lost_there ahead within. backed.columns base slot (sent base is) at lost_there ahead within;
      lines = λ equation listed. (let line = backed.lines equation listed in let below = line.1 in (line.0, omega (arith, below, wider)));
    }

    -- A media datagram that is admitted comes to the known ones.
    pub media_leaves_backed :
        (playout : Playout) (bound : ℕ) (Sent : ℕ → Type 0) (slot : ℕ) (old new : State) (number ssrc : ℕ) (word : Word)
        → MediaAdds → Holds old → ¬ IsFresh old ssrc → position_on old number ssrc ≡ Some slot
        → AdmitsMedia old number ssrc word Admitted new → IsBacked playout slot bound Sent old
        → (new.mark ≡ old.mark) × IsBacked playout (slot + 1) bound Sent new
    media_leaves_backed playout bound Sent slot old new number ssrc word adds holds stale at admits backed =
        let m = adds old new number ssrc word holds (λ fresh. absurd (stale fresh)) admits in
        let same : m.0 ≡ slot = same_Some m.0 slot (sym m.1 ∙ at) in
        let mark : new.mark ≡ old.mark = media_keeps_mark old new number ssrc word Admitted admits.after in
        let beside : (position : ℕ) → position ≢ m.0 → known new position ≡ known old position =
        λ position other. m.4 position
        ∙ cond-false (position == m.0) (Some word) (known old position) (ne_eqb position m.0 other) in
        let equations = m.6 stale in (
          mark,
          record {
            playout_is = media_keeps_playout old new number ssrc word admits.after ∙ backed.playout_is;
            received = λ position ahead below kept_there. ⊎_elim
                (λ here. subst (λ (o : Option Word). IsSome o)
                (sym (m.4 position
                ∙ cond-true (position == m.0) (Some word) (known old position) (eq-eqb position m.0 here))) refl)
                (λ other. subst (λ (o : Option Word). IsSome o) (sym (beside position other))
                (backed.received position (omega (arith, mark, ahead)) (omega (arith, same, below, other)) kept_there))
                (cases_eq position m.0);
            kept = λ position below near within.
                (let ahead = m.2 in
                let other : position ≢ m.0 = λ here. omega (arith, here, below, mark, ahead) in
                subst (λ (o : Option Word). IsSome o) (sym (beside position other))
                (backed.kept position (omega (arith, mark, below)) (omega (arith, mark, near)) within));
            columns = λ base slot' sent there lost_there ahead within.
                (let has = backed.columns base slot' sent there lost_there (omega (arith, mark, ahead)) within in
                record {
                  equation = has.equation;
                  listed = subst (λ (es : List Equation). Contains es has.equation) (sym equations) has.listed;
                  slots = has.slots;
                });
            lines = λ equation listed.
                backed.lines equation (subst (λ (es : List Equation). Contains es equation) equations listed);
          },
        )

    -- A parity datagram adds its line at most.
    pub parity_leaves_backed :
        (playout : Playout) (next bound : ℕ) (Sent : ℕ → Type 0) (old new : State) (parity : Parity) (reply : Reply) (base : ℕ)
        → ParityAdds → Holds old → base_on old parity.base ≡ Some base
        → IsLine layout (equation_at base parity) → last_slot (equation_at base parity) < bound
        → AdmitsParity old parity reply new → IsBacked playout next bound Sent old
        → (new.mark ≡ old.mark) × IsBacked playout next bound Sent new
    parity_leaves_backed playout next bound Sent old new parity Admitted base adds holds at line below admits backed =
        let a = adds old new parity holds admits in
        let mark = parity_keeps_mark old new parity Admitted admits.after in
        let same : a.0 ≡ base = same_Some a.0 base (sym a.1 ∙ at) in (
          mark,
          adds_backed playout next bound Sent old new mark a.3 (parity_keeps_playout old new parity Admitted admits.after)
              (λ equation listed. (a.2 equation).1 (inl listed))
              (λ equation listed. ⊎_elim
              (λ before. backed.lines equation before)
              (λ here.
              subst (λ (e : Equation). IsLine layout e × (last_slot e < bound))
              (sym (here ∙ ap (λ (b : ℕ). equation_at b parity) same)) (line, below))
              ((a.2 equation).0 listed))
              backed,
        )
    parity_leaves_backed playout next bound Sent old new parity reply base adds holds at line below admits backed =
        let after : new ≡ counted old = admits.after in (
          ap (λ (s : State). s.mark) after,
          adds_backed playout next bound Sent old new (ap (λ (s : State). s.mark) after) (ap (λ (s : State). known s) after)
              (ap (λ (s : State). s.playout) after)
              (λ equation listed. subst (λ (s : State). Contains (live_equations s) equation) (sym after) listed)
              (λ equation listed. backed.lines equation (subst (λ (s : State). Contains (live_equations s) equation) after listed))
              backed,
        )

    -- A datagram that is received lies less than the depth past the mark.
    pub received_is_near :
        (playout : Playout) (next bound : ℕ) (Sent : ℕ → Type 0) (desk : State) (slot : ℕ) → Holds desk
        → IsBacked playout next bound Sent desk → slot < next → gone slot ≡ false → slot < desk.mark + desk.playout.depth
    received_is_near playout next bound Sent desk slot holds backed below kept_there = ⊎_elim
        (λ (played : slot < desk.mark). omega (arith, played))
        (λ (ahead : desk.mark ≤ slot).
        let w = value_of (known desk slot) (backed.received slot ahead below kept_there) in
        (holds.media slot w.0 (sym (known_ahead desk slot ahead) ∙ w.1)).near)
        (cases_lt slot desk.mark)

    -- The parity of a column whose last slot is little past a received one is neither late nor ahead where a lost slot of it isn't
    -- played, and there is room for it. So then it is live.
    module _
        (playout : Playout) (next bound : ℕ) (Sent : ℕ → Type 0) (old new : State) (parity : Parity) (base before slot : ℕ)
        (fits : PlayoutFits playout) (adds : ParityAdds) (holds : Holds old) (at : base_on old parity.base ≡ Some base)
        (has : HasSlots base layout.l layout.d (equation_at base parity)) (backed : IsBacked playout next bound Sent old)
        (within_bound : last_slot (equation_at base parity) < bound) (within : last_slot (equation_at base parity) < count)
        (close : bound ≤ before + 1 + 2 * layout.l) (was_received : before < next) (kept_there : gone before ≡ false)
        (there : Contains (slots_of base layout.l layout.d) slot) (ahead : old.mark ≤ slot) where
      abbrev equation : Equation
      equation = equation_at base parity

      not_late : ¬ IsLate old equation
      not_late late =
          let near = within_column base slot there in
          let last = last_is_at base layout.l layout.d equation has in
          ⊎_elim
          (λ played. omega (arith, played, last, near.last, ahead))
          (λ forgotten.
          let other : ℕ = forgotten.0 in
          let other_at = subst (λ (xs : List ℕ). Contains xs other) (slots_are base layout.l layout.d equation has) forgotten.1 in
          let other_near = within_column base other other_at in
          let below = forgotten.2 in
          none_has_no_value (get old.kept other) forgotten.3
          (subst (λ (o : Option Word). IsSome o) (known_below old other below)
          (backed.kept other below (omega (arith, other_near.first, near.last, near.span, ahead))
          (omega (arith, other_near.last, last, within)))))
          late

      near_mark : before < old.mark + old.playout.depth
      near_mark = received_is_near playout next bound Sent old before holds backed was_received kept_there

      -- One of the same slots was there already.
      twin_is_live :
          (serial : ℕ) (live : Live) → get old.equations serial ≡ Some live
          → HasSlots equation.base equation.offset equation.count live.equation → new ≡ counted old → HasColumn new base
      twin_is_live serial live is same after = record {
        equation = live.equation;
        listed = subst (λ (s : State). Contains (live_equations s) live.equation) (sym after)
            ((stand old live.equation).1 (serial, live, is, refl));
        slots = record {
          base_is = same.base_is;
          offset_is = same.offset_is ∙ has.offset_is;
          count_is = same.count_is ∙ has.count_is;
        };
      }

      -- It is among the live ones after it came.
      live_after : (reply : Reply) → IsEquationReply old equation reply → AdmitsParity old parity reply new → HasColumn new base
      live_after Admitted replies admits =
          let a = adds old new parity holds admits in
          let same : a.0 ≡ base = same_Some a.0 base (sym a.1 ∙ at) in
          record {
            equation = equation;
            listed = (a.2 equation).1 (inr (ap (λ (b : ℕ). equation_at b parity) (sym same)));
            slots = has;
          }
      live_after Duplicate replies admits =
          let twin = replies.1 in twin_is_live twin.0 twin.1 twin.2 twin.3 admits.after
      live_after Conflict replies admits =
          let twin = replies.1 in twin_is_live twin.0 twin.1 twin.2 twin.3 admits.after
      live_after Late replies admits = absurd (not_late replies)
      live_after NotStarted replies admits = absurd replies
      live_after BeforeStart replies admits = absurd replies
      live_after Ahead replies admits =
          let far = replies.1 in
          let near = near_mark in
          let few = layout.accepted.columns.1 in
          absurd (omega (arith, far, near, within_bound, close, few))
      live_after Crowded replies admits =
          let full = replies.2 in
          let near = near_mark in
          let shallow = fits.depth.1 in
          let depth : old.playout.depth ≡ playout.depth = ap (λ (p : Playout). p.depth) backed.playout_is in
          let few = never_crowded layout old (before + 2 * layout.l) holds (omega (arith, near, depth, shallow))
          (λ serial live is.
          let line = backed.lines live.equation ((stand old live.equation).1 (serial, live, is, refl)) in
          let below = line.1 in
          (line.0, omega (arith, below, close))) in
          absurd (omega (arith, few, full))
      live_after Foreign replies admits = absurd replies

      pub column_is_live :
          (reply : Reply) (top : Top) → old.top ≡ Some top → AdmitsParity old parity reply new → HasColumn new base
      column_is_live reply top topped admits =
          let at_base = MatchOption-at_some (reply ≡ NotStarted)
          (λ (t : Top). MatchOption (base_on old parity.base) (reply ≡ BeforeStart)
          (λ position. IsEquationReply old (equation_at position parity) reply)) top topped admits.reply_is in
          let replies = MatchOption-at_some (reply ≡ BeforeStart)
          (λ (position : ℕ). IsEquationReply old (equation_at position parity) reply) base at at_base in
          live_after reply replies admits
