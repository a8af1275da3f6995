-- Windows that show nothing, one after another, come to one step of the desk.
use Rattle.std.proofs.Common.{◌≡◌, ◌≢◌, ◌+◌, ◌-◌, ◌*◌, ◌<◌, ◌≤◌, ◌&&◌, ℕ, zero, suc, Bool, true, false, cond, ltb, leb, min, max, is_some, not, List, [], Option, None, IsSome, IsSomeAnd, refl, sym, ap, subst, ◌∙◌, ⊎_elim, arith, lt-ltb, le-ltb, le-leb, leb-true}
use Rattle.std.proofs.lemmas.Bool.{cases_lt, cond-true, cond-false}
use Rattle.std.proofs.lemmas.Option.{none-some}
use Rattle.std.proofs.lemmas.List.{length-replicate, get_or-replicate}
use Rattle.std.specs.List.{Contains}
use Rattle.std.specs.Ordering.{nat_cmp}
use Rattle.std.specs.Cmp.{nat_cmp_total}
use Rattle.std.specs.FinMap.{get, get-empty, same_map, nat_cmp-IsAntisymmetric}
use Rattle.fg_words.specs.declared.Word.{Word}
use Rattle.fg_unwrap.specs.Position.{position_of}
use Rattle.fg_peel.specs.Equation.{Equation}
use Rattle.fg_peel.proofs.Lists.{Contains-nil}
use Rattle.fg_peel.proofs.Options.{none_or_some, none_has_no_value, some_and, some_and_from, has_value}
use Rattle.fg_playout.specs.State.{State, Top, Words, known, live_equations}
use Rattle.fg_playout.specs.Admission.{kept_count, counted, IsDue}
use Rattle.fg_playout.specs.Solution.{InClosure, IsSolution, given, derived}
use Rattle.fg_playout.specs.Play.{Shown, IsPlay, IsFlushStep, shown_at, nothing_shown}
use Rattle.fg_playout.specs.Held.{at_time, IsHeld, IsGreatest, IsHeldPlay}
use Rattle.fg_playout.specs.Facts.{Holds}
use Rattle.fg_playout.specs.Laws.{AreHeldSteps}
use Rattle.fg_playout.specs.Existence.{PeelingLaws}
use Rattle.fg_playout.specs.Empty.{empty_play, empty_plays, IsEmptyBefore, Skips, EmptyWindowsKeep, EmptyWindowsAreDue, EmptyWindowsAreFlushed, EmptyWindowsAreHeld}
use Rattle.fg_playout.proofs.Equations.{live_at}
use Rattle.fg_playout.proofs.MadeMaps.{made_where}
use Rattle.fg_playout.proofs.Orderly.{known_ahead, orderly_from_holds}
use Rattle.fg_playout.proofs.DecidedSolutions.{highest_or_none}
use Rattle.fg_playout.proofs.Held.{at_time_holds, held_is_received}
use Rattle.fg_playout.proofs.PlayKeeps.{play_holds}

-- Where no equation is live, the words that are kept and received are the closure and the solution.
module _ (desk : State) (none : live_equations desk ≡ []) where
  no_equation : (equation : Equation) → Contains (live_equations desk) equation → ⊥
  no_equation equation listed = Contains-nil equation (subst (λ (l : List Equation). Contains l equation) none listed)

  closure_is_known : (position : ℕ) → InClosure desk position → IsSome (known desk position)
  closure_is_known position (given some) = some
  closure_is_known position (derived equation listed slot ahead others) = absurd (no_equation equation listed)

  known_solves : IsSolution desk (known desk)
  known_solves = record {
    domain = λ p. (λ some. given some, closure_is_known p);
    agrees = λ p w is. is;
    media = λ p w unknown is. absurd (none-some w (sym unknown ∙ is));
    sums = λ equation listed _. absurd (no_equation equation listed);
  }

-- One window.
module _ (old : State) (holds : Holds old) (none : live_equations old ≡ [])
    (clear : (other : ℕ) → other < old.mark + old.playout.window → get old.media other ≡ None) where
  abbrev after : ℕ
  after = old.mark + old.playout.window

  abbrev left : Words
  left = (made_where (λ p. cond (ltb p old.mark) (get old.kept p) (known old p)) (λ p. leb after (p + kept_count)) after).0

  abbrev one_on : State
  one_on = record (counted old) { mark = after; kept = left }

  left_is : (p : ℕ) → get left p ≡ cond (ltb p after && leb after (p + kept_count)) (cond (ltb p old.mark) (get old.kept p) (known old p)) None
  left_is = (made_where (λ p. cond (ltb p old.mark) (get old.kept p) (known old p)) (λ p. leb after (p + kept_count)) after).1

  no_time : (p : ℕ) → p < after → get old.times p ≡ None
  no_time p below = ⊎_elim (λ is. is)
      (λ some. absurd (none_has_no_value (get old.media p) (clear p below)
      (sym (holds.timed p) ∙ has_value (get old.times p) some.0 some.1)))
      (none_or_some (get old.times p))

  shows_nothing : (i : ℕ) → i < old.playout.window → nothing_shown ≡ shown_at old (known old) (old.mark + i)
  shows_nothing i below =
      let p : ℕ = old.mark + i in
      let unknown : known old p ≡ None = known_ahead old p (omega arith) ∙ clear p (omega (arith, below)) in
      ap (λ (o : Option Word). (let s : Shown = record { word = o; repaired = is_some o && not (is_some (get old.media p)) } in s)) (sym unknown)

  one_play : IsPlay old.playout.window old (empty_play old.playout.window old.mark) one_on
  one_play = record {
    words = known old;
    decides = known_solves old none;
    first = refl;
    length_is = length-replicate old.playout.window nothing_shown;
    shows = λ i below. get_or-replicate old.playout.window i nothing_shown nothing_shown below ∙ shows_nothing i below;
    mark = refl;
    kept = left_is;
    media = λ p. ⊎_elim
        (λ below. clear p below ∙ sym (cond-true (ltb p after) None (get old.media p) (lt-ltb p after below)))
        (λ past. sym (cond-false (ltb p after) None (get old.media p) (le-ltb p after past)))
        (cases_lt p after);
    times = λ p. ⊎_elim
        (λ below. no_time p below ∙ sym (cond-true (ltb p after) None (get old.times p) (lt-ltb p after below)))
        (λ past. sym (cond-false (ltb p after) None (get old.times p) (le-ltb p after past)))
        (cases_lt p after);
    equations = λ s live. (
      λ is. absurd (no_equation old none live.equation (live_at old s live is)),
      λ l. l.0,
    );
    rest = refl;
  }

  -- What is kept then of the 100 positions before some later mark was kept before.
  left_near : (p : ℕ) → after ≤ p + kept_count → get left p ≡ get old.kept p
  left_near p near = left_is p ∙ ap (λ (b : Bool). cond (ltb p after && b) (cond (ltb p old.mark) (get old.kept p) (known old p)) None) (le-leb after (p + kept_count) near)
      ∙ ⊎_elim
      (λ before.
      ap (λ (b : Bool). cond (b && true) (cond (ltb p old.mark) (get old.kept p) (known old p)) None) (lt-ltb p after (omega (arith, before)))
      ∙ cond-true (ltb p old.mark) (get old.kept p) (known old p) (lt-ltb p old.mark before))
      (λ ahead. ⊎_elim
      (λ below.
      ap (λ (b : Bool). cond (b && true) (cond (ltb p old.mark) (get old.kept p) (known old p)) None) (lt-ltb p after below)
      ∙ cond-false (ltb p old.mark) (get old.kept p) (known old p) (le-ltb p old.mark ahead)
      ∙ known_ahead old p ahead ∙ clear p below ∙ sym (nothing_kept p ahead))
      (λ past.
      ap (λ (b : Bool). cond (b && true) (cond (ltb p old.mark) (get old.kept p) (known old p)) None) (le-ltb p after past)
      ∙ sym (nothing_kept p ahead))
      (cases_lt p after))
      (cases_lt p old.mark)
    where
      nothing_kept : (p : ℕ) → old.mark ≤ p → get old.kept p ≡ None
      nothing_kept p ahead = ⊎_elim (λ is. is)
          (λ some. (let below = (holds.kept p some.0 some.1).below in absurd (omega (arith, below, ahead))))
          (none_or_some (get old.kept p))

  -- The others follow it.
  others_follow : (count : ℕ) (new : State) → Skips (suc count) old new → Skips count one_on new
  others_follow count new skips =
      let mark = skips.mark in
      let far : after ≤ new.mark = omega (arith, mark) in record {
        mark = omega (arith, mark);
        kept = λ p. skips.kept p ∙ go p far (leb new.mark (p + kept_count)) (λ is. leb-true new.mark (p + kept_count) is);
        rest = skips.rest ∙ ap (λ (c : ℕ). record old { mark = new.mark; kept = new.kept; calls = c }) (omega arith);
      }
    where
      go : (p : ℕ) {limit : ℕ} → after ≤ limit → (b : Bool) → (b ≡ true → limit ≤ p + kept_count)
          → cond b (get old.kept p) None ≡ cond b (get left p) None
      go p far true near = (let within = near refl in sym (left_near p (omega (arith, far, within))))
      go p far false near = refl

  -- And the facts hold then.
  one_holds : old.top ≢ None → Holds one_on
  one_holds opened = play_holds old.playout.window old (empty_play old.playout.window old.mark) one_on one_play holds opened

-- No window leaves a desk as it is.
none_skipped : (old new : State) → Holds old → Skips 0 old new → new ≡ old
none_skipped old new holds skips =
    let mark = skips.mark in
    let at : new.mark ≡ old.mark = omega (arith, mark) in
    let calls : old.calls + 0 ≡ old.calls = omega arith in
    let kept : new.kept ≡ old.kept = same_map nat_cmp_total nat_cmp-IsAntisymmetric new.kept old.kept
    (λ p. skips.kept p ∙ still p at) in
    skips.rest ∙ (λ i. record old { mark = at i; kept = kept i; calls = calls i })
  where
    either : (b : Bool) (o : Option Word) → o ≡ None → cond b o None ≡ o
    either true o is = refl
    either false o is = sym is

    still : (p : ℕ) → new.mark ≡ old.mark → cond (leb new.mark (p + kept_count)) (get old.kept p) None ≡ get old.kept p
    still p at = ⊎_elim
        (λ is. either (leb new.mark (p + kept_count)) (get old.kept p) is)
        (λ some. (let near = (holds.kept p some.0 some.1).near in
        cond-true (leb new.mark (p + kept_count)) (get old.kept p) None (le-leb new.mark (p + kept_count) (omega (arith, near, at)))))
        (none_or_some (get old.kept p))

-- What of some windows holds of the first and of the others.
past_one : (count : ℕ) (old new : State) → Skips (suc count) old new → old.mark + old.playout.window ≤ new.mark
past_one count old new skips = let mark = skips.mark in omega (arith, mark)

module _ (count : ℕ) (old new : State) (skips : Skips (suc count) old new) (empty : IsEmptyBefore old new.mark) where
  clear_one : (other : ℕ) → other < old.mark + old.playout.window → get old.media other ≡ None
  clear_one other below = (let far = past_one count old new skips in empty.media other (omega (arith, below, far)))

-- The facts hold then

pub empty_windows_keep : EmptyWindowsKeep
empty_windows_keep zero old new holds opened empty skips = subst Holds (sym (none_skipped old new holds skips)) holds
empty_windows_keep (suc count) old new holds opened empty skips =
    let clear = clear_one count old new skips empty in
    empty_windows_keep count (one_on old holds empty.equations clear) new
    (one_holds old holds empty.equations clear opened)
    opened
    (record { equations = empty.equations; media = empty.media })
    (others_follow old holds empty.equations clear count new skips)

-- Windows that are due

due_sooner :
    (old : State) (mark other seq ssrc : ℕ) → mark ≤ other → IsDue (record old { mark = other }) seq ssrc
    → IsDue (record old { mark = mark }) seq ssrc
due_sooner old mark other seq ssrc sooner due =
    let Far : ℕ → ℕ → Type 0 = λ from position. from + old.playout.depth ≤ position in
    let Due : ℕ → Top → Type 0 = λ from top. (top.ssrc ≡ ssrc) × IsSomeAnd (position_of top.position top.seq seq) (Far from) in
    let t = some_and old.top (Due other) due in
    let p = some_and (position_of t.0.position t.0.seq seq) (Far other) t.2.1 in
    let far : other + old.playout.depth ≤ p.0 = p.2 in
    some_and_from old.top (Due mark) t.0 t.1
    (t.2.0, some_and_from (position_of t.0.position t.0.seq seq) (Far mark) p.0 p.1 (omega (arith, far, sooner)))

due_opens : (old : State) (seq ssrc : ℕ) → IsDue old seq ssrc → old.top ≢ None
due_opens old seq ssrc due none =
    let Far : ℕ → Type 0 = λ position. old.mark + old.playout.depth ≤ position in
    let Due : Top → Type 0 = λ top. (top.ssrc ≡ ssrc) × IsSomeAnd (position_of top.position top.seq seq) Far in
    let t = some_and old.top Due due in none-some t.0 (sym none ∙ t.1)

last_of : (count window mark : ℕ) → count ≢ 0 → mark + window + (count - 1) * window ≡ mark + (suc count - 1) * window
last_of zero window mark some = absurd (some refl)
last_of (suc count) window mark some =
    let here : suc count - 1 ≡ count = omega arith in
    let there : suc (suc count) - 1 ≡ suc count = omega arith in
    ap (λ (n : ℕ). mark + window + n * window) here ∙ omega arith ∙ ap (λ (n : ℕ). mark + n * window) (sym there)

pub empty_windows_are_due : EmptyWindowsAreDue
empty_windows_are_due zero seq ssrc old new holds empty skips last = none_skipped old new holds skips
empty_windows_are_due (suc count) seq ssrc old new holds empty skips last =
    let window : ℕ = old.playout.window in
    let clear = clear_one count old new skips empty in
    let first : IsDue old seq ssrc =
    due_sooner old old.mark (old.mark + (suc count - 1) * window) seq ssrc (omega arith) (last (λ none. omega (arith, none))) in
    let next : State = one_on old holds empty.equations clear in (
      first,
      (
        next,
        one_play old holds empty.equations clear,
        empty_windows_are_due count seq ssrc next new
            (one_holds old holds empty.equations clear (due_opens old seq ssrc first))
            (record { equations = empty.equations; media = empty.media })
            (others_follow old holds empty.equations clear count new skips)
            (λ some. subst (λ (m : ℕ). IsDue (record old { mark = m }) seq ssrc) (sym (last_of count window old.mark some))
            (last (λ none. omega (arith, none)))),
      ),
    )

-- Steps of a flush

received_opens : (old : State) (position : ℕ) → Holds old → get old.media position ≢ None → old.top ≢ None
received_opens old position holds some none =
    let u = holds.unopened none in
    some (ap (λ (m : Words). get m position) u.1 ∙ get-empty nat_cmp position)

module _ (laws : PeelingLaws) where
  pub empty_windows_are_flushed : EmptyWindowsAreFlushed
  empty_windows_are_flushed zero position old new holds empty skips ahead received = none_skipped old new holds skips
  empty_windows_are_flushed (suc count) position old new holds empty skips ahead received =
      let clear = clear_one count old new skips empty in
      let opened : old.top ≢ None = received_opens old position holds (λ none. none_has_no_value (get old.media position) none received) in
      let next : State = one_on old holds empty.equations clear in (
        next,
        step (past_one count old new skips) clear,
        empty_windows_are_flushed count position next new
            (one_holds old holds empty.equations clear opened)
            (record { equations = empty.equations; media = empty.media })
            (others_follow old holds empty.equations clear count new skips)
            ahead received,
      )
    where
      follows : old.mark ≤ position → InClosure old position
      follows after = given (subst (λ (o : Option Word). IsSome o) (sym (known_ahead old position after)) received)

      step : (far : old.mark + old.playout.window ≤ new.mark)
          → (clear : (other : ℕ) → other < old.mark + old.playout.window → get old.media other ≡ None)
          → IsFlushStep old (empty_play old.playout.window old.mark) (one_on old holds empty.equations clear)
      step far clear = ⊎_elim
          (λ h.
          let highest : ℕ = h.0 in
          let most : position ≤ highest = h.1.greatest position (follows (omega (arith, far, ahead))) in
          let whole : old.playout.window ≡ min old.playout.window (highest + 1 - old.mark) = omega (arith, far, ahead, most) in record {
            highest = highest;
            highest_is = h.1;
            more = omega (arith, far, ahead, most);
            plays = subst (λ (n : ℕ). IsPlay n old (empty_play old.playout.window old.mark) (one_on old holds empty.equations clear)) whole
                (one_play old holds empty.equations clear);
          })
          (λ none. absurd (none position (follows (omega (arith, far, ahead)))))
          (highest_or_none laws old (orderly_from_holds old holds))

-- Held plays

module _ (greatest : ℕ) (old : State) (holds : Holds old) (is : IsGreatest (IsHeld old) greatest) where
  held_opens : old.top ≢ None
  held_opens = received_opens old greatest holds (held_is_received old greatest holds is.inside)

  module _ (count : ℕ) (new : State) (skips : Skips (suc count) old new) (empty : IsEmptyBefore old new.mark) (ahead : new.mark ≤ greatest) where
    abbrev held_on : State
    held_on = one_on old holds empty.equations (clear_one count old new skips empty)

    first_held : IsHeldPlay old (empty_play old.playout.window old.mark) held_on
    first_held =
        let far = past_one count old new skips in
        let whole : old.playout.window ≡ min old.playout.window (greatest + 1 - old.mark) = omega (arith, far, ahead) in record {
          greatest = greatest;
          greatest_is = is;
          plays = subst (λ (n : ℕ). IsPlay n old (empty_play old.playout.window old.mark) held_on) whole
              (one_play old holds empty.equations (clear_one count old new skips empty));
        }

    still_greatest : IsGreatest (IsHeld held_on) greatest
    still_greatest =
        let far = past_one count old new skips in record {
          inside = (is.inside.0, omega (arith, far, ahead), is.inside.2);
          greatest = λ q held. (let later : old.mark + old.playout.window ≤ q = held.1 in is.greatest q (held.0, omega (arith, later), held.2));
        }

-- Once the time is told, no step changes the clock.
then_held :
    (count time greatest : ℕ) (now new : State) → at_time now time ≡ now → Holds now → IsEmptyBefore now new.mark → Skips count now new
    → new.mark ≤ greatest → IsGreatest (IsHeld now) greatest
    → AreHeldSteps now time (empty_plays count now.playout.window now.mark) new
then_held zero time greatest now new told holds empty skips ahead is = none_skipped now new holds skips
then_held (suc count) time greatest now new told holds empty skips ahead is =
    let clear = clear_one count now new skips empty in
    let next : State = held_on greatest now holds is count new skips empty ahead in (
      next,
      subst (λ (s : State). IsHeldPlay s (empty_play now.playout.window now.mark) next) (sym told)
          (first_held greatest now holds is count new skips empty ahead),
      then_held count time greatest next new
          (ap (λ (s : State). record next { clock = s.clock }) told)
          (one_holds now holds empty.equations clear (held_opens greatest now holds is))
          (record { equations = empty.equations; media = empty.media })
          (others_follow now holds empty.equations clear count new skips)
          ahead
          (still_greatest greatest now holds is count new skips empty ahead),
    )

pub empty_windows_are_held : EmptyWindowsAreHeld
empty_windows_are_held zero time greatest old new holds empty skips some ahead is = absurd (some refl)
empty_windows_are_held (suc count) time greatest old new holds empty skips some ahead is =
    let now : State = at_time old time in
    let holds' : Holds now = at_time_holds old time holds in
    let empty' : IsEmptyBefore now new.mark = record { equations = empty.equations; media = empty.media } in
    let clear = clear_one count now new skips empty' in
    let next : State = held_on greatest now holds' is count new skips empty' ahead in (
      next,
      first_held greatest now holds' is count new skips empty' ahead,
      then_held count time greatest next new
          (told old next)
          (one_holds now holds' empty'.equations clear (held_opens greatest now holds' is))
          (record { equations = empty.equations; media = empty.media })
          (others_follow now holds' empty'.equations clear count new skips)
          ahead
          (still_greatest greatest now holds' is count new skips empty' ahead),
    )
  where
    twice : (clock : ℕ) → max (max clock time) time ≡ max clock time
    twice clock = omega arith

    told : (old next : State) → at_time (record next { clock = max old.clock time }) time ≡ record next { clock = max old.clock time }
    told old next = ap (λ (c : ℕ). record next { clock = c }) (twice old.clock)
