-- Which open lines survive a play, and what they watch after it.
use Rattle.std.proofs.Common.{◌≡◌, ◌+◌, ◌<◌, ◌&&◌, ℕ, Bool, true, false, cond, ltb, leb, Option, Some, None, IsSome, inr, refl, sym, subst, ◌∙◌, ⊎_elim, arith}
use Rattle.std.proofs.lemmas.Bool.{cases_lt}
use Rattle.std.specs.FinMap.{get}
use Rattle.std.specs.FinSet as fset
use Rattle.fg_words.specs.declared.Word.{Word}
use Rattle.fg_peel.specs.Look.{LacksTwo}
use Rattle.fg_peel.proofs.Options.{none_has_no_value, has_value}
use Rattle.fg_peel.proofs.SlotRange.{slot_is_near}
use Rattle.fg_playout.specs.State.{Live}
use Rattle.fg_playout.specs.Admission.{kept_count}
use Rattle.std.proofs.lemmas.Bool.{and_from, cond-true}
use Rattle.fg_buffer.specs.PlayoutBuffer.{BufferState, buffer_words, Advances}
use Rattle.fg_buffer.specs.LiveEquations.{LiveState, Retires, SurviveAsWatched}
use Rattle.fg_buffer.specs.Watches.{WatchState, Closes, first_of, second_of}
use Rattle.fg_desk.specs.Storage.{AreInBuffer}
use Rattle.fg_desk.specs.Watched.{EachWatched, NoneIsQueued}
use Rattle.fg_desk.proofs.Advancing.{words_below, words_ahead}
use Rattle.std.proofs.Common.{lt-ltb, le-leb}

no_choice : (b : Bool) (o : Option Word) → o ≡ None → cond b o None ≡ None
no_choice true o none = none
no_choice false o none = refl

module _
    (count : ℕ) (old new : BufferState) (advances : Advances count old new) (lines : LiveState) (within : AreInBuffer old lines)
    (watches : WatchState) (each : EachWatched watches (buffer_words old) lines) (idle : NoneIsQueued watches) where
  lacks :
      (serial : ℕ) (live : Live) → get lines.live serial ≡ Some live → fset.contains lines.settled serial ≡ false
      → LacksTwo (buffer_words old) live.equation (first_of watches live.place) (second_of watches live.place)
  lacks serial live is open_still =
      ⊎_elim (λ queued. absurd (idle live.place queued)) (λ two. two) (each serial live is open_still).1

  -- One survives exactly where its first slot without a word isn't before the mark.
  pub survive_as_watched : SurviveAsWatched new.mark new.kept watches lines
  survive_as_watched serial live is open_still =
      let two = lacks serial live is open_still in
      let first = first_of watches live.place in
      let shape = (within serial live is).shape in (
        λ survives. ⊎_elim
            (λ (below : first < new.mark).
            let none : get new.kept first ≡ None =
            advances.kept first
            ∙ no_choice (ltb first new.mark && leb new.mark (first + kept_count)) (buffer_words old first) two.first_lacks in
            absurd (none_has_no_value (get new.kept first) none (survives.based first two.first_slot below)))
            (λ from. from)
            (cases_lt first new.mark),
        λ from.
            let near = slot_is_near live.equation first shape two.first_slot in
            let last = near.last in
            let span = near.span in
            record {
              reaches = omega (arith, last, from);
              based = λ slot c below.
                  (let begin = (slot_is_near live.equation slot shape c).first in
                  let kept : get new.kept slot ≡ buffer_words old slot =
                  advances.kept slot
                  ∙ cond-true (ltb slot new.mark && leb new.mark (slot + kept_count)) (buffer_words old slot) None
                  (and_from (ltb slot new.mark) (leb new.mark (slot + kept_count)) (lt-ltb slot new.mark below)
                  (le-leb new.mark (slot + kept_count) (omega (arith, begin, last, span, from, below, two.filled slot c)))) in
                  subst (λ (o : Option Word). IsSome o) (sym kept) (two.filled slot c (omega (arith, below, from))));
            },
      )

  -- Those that are left watch what they watched.
  pub watched_after :
      (then : WatchState) → Closes new.mark watches then → (left : LiveState) → Retires new.mark new.kept lines left
      → EachWatched then (buffer_words new) left
  watched_after then closes left retires serial live is open_still =
      let r = (retires.live serial live).0 is in
      let was_open = open_before (fset.contains lines.settled serial) refl in
      let two = lacks serial live r.0 was_open in
      let first = first_of watches live.place in
      let second = second_of watches live.place in
      let from = (survive_as_watched serial live r.0 was_open).0 r.1 in
      let before = two.before in
      let here : LacksTwo (buffer_words new) live.equation first second = record {
        first_slot = two.first_slot;
        second_slot = two.second_slot;
        before = two.before;
        first_lacks = words_ahead count old new advances first from ∙ two.first_lacks;
        second_lacks = words_ahead count old new advances second (omega (arith, from, before)) ∙ two.second_lacks;
        filled = λ slot c below. ⊎_elim
            (λ (played : slot < new.mark).
            subst (λ (o : Option Word). IsSome o) (sym (words_below count old new advances slot played)) (r.1.based slot c played))
            (λ ahead.
            subst (λ (o : Option Word). IsSome o) (sym (words_ahead count old new advances slot ahead)) (two.filled slot c below))
            (cases_lt slot new.mark);
      } in (
        (each serial live r.0 was_open).0,
        inr (subst (λ (p : ℕ). LacksTwo (buffer_words new) live.equation p (second_of then live.place))
            (sym (closes.first live.place from))
            (subst (λ (q : ℕ). LacksTwo (buffer_words new) live.equation first q) (sym (closes.second live.place from)) here)),
      )
    where
      open_before : (b : Bool) → fset.contains lines.settled serial ≡ b → fset.contains lines.settled serial ≡ false
      open_before false same = same
      open_before true same =
          let e : false ≡ true =
          sym open_still ∙ (retires.settled serial).1 (same, has_value (get left.live serial) live is) in absurd (cc)
