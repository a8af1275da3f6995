-- What a flush step plays, and what is left where none is defined.
use Rattle.std.proofs.Common.{◌≡◌, ◌+◌, ◌-◌, ◌<◌, ◌≤◌, ◌^◌, ℕ, min, Bool, None, sym, ap, subst, ◌∙◌, ⊎_elim, arith}
use Rattle.std.proofs.Math.Nat.{le-min}
use Rattle.std.proofs.lemmas.Bool.{cases_lt}
use Rattle.std.specs.FinMap.{get}
use Rattle.fg_peel.specs.Laws.{FoundKeepsClosure, MaximalPeelingsEndAtClosure, PeelingsKeepWords}
use Rattle.fg_peel.proofs.Options.{none_has_no_value, value_of, has_value}
use Rattle.fg_playout.specs.State.{Words, live_equations}
use Rattle.fg_playout.specs.Play.{IsHighest, HasMore}
use Rattle.fg_desk.specs.Inside.{AreLimited, Parts, AreSound, state_of}
use Rattle.fg_buffer.specs.PlayoutBuffer.{BufferState, buffer_received, buffer_known, buffer_words, IsBuffer, IsHighestWord}
use Rattle.fg_desk.specs.Storage.{IsRecovered}
use Rattle.fg_desk.proofs.DeskPlays.{with_found, sound_without_found}
use Rattle.fg_desk.proofs.Limits.{one_call_more}
use Rattle.fg_desk.proofs.DeskRecovers.{has_closure, words_kept}
use Rattle.fg_desk.proofs.DeskWords.{or_cases, or_neither, received_ahead, unsolved_below, uncached_below}
use Rattle.fg_playout.proofs.Opened.{counted_holds}
use Rattle.fg_desk.proofs.SettledWords.{settled_keeps}

-- No position at the mark or past it has a word.
abbrev pub HasNoneAhead : BufferState → Type 0
HasNoneAhead buffer = (position : ℕ) → buffer.mark ≤ position → buffer_words buffer position ≡ None

-- The desk after one more call, with other found words.
abbrev pub counted_with : Parts → BufferState → Parts
counted_with parts buffer = record parts { buffer = buffer; calls = parts.calls + 1 }

module _
    (parts : Parts) (sound : AreSound parts) (cached : Words) (answer : Bool)
    (recovered : IsRecovered (live_equations (state_of parts)) parts.buffer (with_found parts cached) answer)
    (is_buffer : IsBuffer (with_found parts cached)) (none : HasNoneAhead (with_found parts cached)) where
  no_solved : (q : ℕ) → get parts.buffer.solved q ≡ None
  no_solved q = ⊎_elim
      (λ below. unsolved_below (with_found parts cached) is_buffer q below)
      (λ ahead.
      let none_known = (or_neither (buffer_known parts.buffer q) (get cached q) (none q ahead)).0 in
      (or_neither (buffer_received parts.buffer q) (get parts.buffer.solved q) none_known).1)
      (cases_lt q parts.buffer.mark)

  no_found : (q : ℕ) → get cached q ≡ None
  no_found q = ⊎_elim
      (λ below. uncached_below (with_found parts cached) is_buffer q below)
      (λ ahead. (or_neither (buffer_known parts.buffer q) (get cached q) (none q ahead)).1)
      (cases_lt q parts.buffer.mark)

  sound_at : PeelingsKeepWords → parts.calls < 2 ^ 62 → AreSound (counted_with parts (with_found parts cached))
  sound_at keep calls =
      let limits : AreLimited (counted_with parts (with_found parts cached)) =
      one_call_more parts parts.admitted sound.limits (omega arith) calls
      in
      sound_without_found (counted_with parts (with_found parts cached)) limits (counted_holds (state_of parts) sound.facts)
      no_solved no_found
      (λ serial live is settled.
      settled_keeps (buffer_words parts.buffer) (buffer_words (with_found parts cached)) live.equation
      (words_kept parts sound (with_found parts cached) answer recovered keep) (sound.settled serial live is settled))
      sound.rooms

module _
    (parts : Parts) (sound : AreSound parts) (buffer : BufferState) (answer : Bool)
    (recovered : IsRecovered (live_equations (state_of parts)) parts.buffer buffer answer) where
  pub sound_with_none :
      PeelingsKeepWords → IsBuffer buffer → parts.calls < 2 ^ 62 → HasNoneAhead buffer → AreSound (counted_with parts buffer)
  sound_with_none keep is_buffer calls none =
      let again : IsRecovered (live_equations (state_of parts)) parts.buffer (with_found parts buffer.cached) answer =
      subst (λ (r : BufferState). IsRecovered (live_equations (state_of parts)) parts.buffer r answer) recovered.rest recovered in
      subst (λ (r : BufferState). AreSound (counted_with parts r)) (sym recovered.rest)
      (sound_at parts sound buffer.cached answer again (subst IsBuffer recovered.rest is_buffer) (subst HasNoneAhead recovered.rest none) keep
      calls)

  pub mark_stays : buffer.mark ≡ parts.buffer.mark
  mark_stays = ap (λ (r : BufferState). r.mark) recovered.rest

  pub has_no_more : FoundKeepsClosure → MaximalPeelingsEndAtClosure → HasNoneAhead buffer → ¬ HasMore (state_of parts)
  has_no_more found filled none more =
      let same = mark_stays in
      let ahead = more.2 in
      none_has_no_value (buffer_words buffer more.0) (none more.0 (omega (arith, same, ahead)))
      ((has_closure parts sound buffer answer recovered found filled more.0).1 more.1)

  pub highest_of : FoundKeepsClosure → MaximalPeelingsEndAtClosure → (highest : ℕ) → IsHighestWord buffer highest → IsHighest (state_of parts) highest
  highest_of found filled highest is = record {
    inside = (has_closure parts sound buffer answer recovered found filled highest).0 is.1.inside;
    greatest = λ other inside. is.1.greatest other ((has_closure parts sound buffer answer recovered found filled other).1 inside);
  }

  pub more_of : (highest : ℕ) → IsHighestWord buffer highest → parts.buffer.mark ≤ highest
  more_of highest is = let same = mark_stays in let ahead = is.0 in omega (arith, same, ahead)

-- Positions of words are below 2^62.
pub highest_limit : (buffer : BufferState) → IsBuffer buffer → (highest : ℕ) → IsHighestWord buffer highest → highest < 2 ^ 62
highest_limit buffer facts highest is =
    let limit = facts.limit in
    let word = value_of (buffer_words buffer highest) is.1.inside in
    ⊎_elim
    (λ known. ⊎_elim
    (λ received.
    let near = (facts.media highest (has_value (get buffer.media highest) word.0 (sym (received_ahead buffer highest is.0) ∙ received))).1 in
    omega (arith, near, limit))
    (λ solved. let near = (facts.solved highest (has_value (get buffer.solved highest) word.0 solved.1)).1 in omega (arith, near, limit))
    (or_cases (buffer_received buffer highest) (get buffer.solved highest) word.0 known))
    (λ found. let near = (facts.cached highest (has_value (get buffer.cached highest) word.0 found.1)).1 in omega (arith, near, limit))
    (or_cases (buffer_known buffer highest) (get buffer.cached highest) word.0 word.1)

-- A flush step plays at least one position, and at most a window.
pub some_played : (window highest mark : ℕ) → 1 ≤ window → mark ≤ highest → 1 ≤ min window (highest + 1 - mark)
some_played window highest mark one ahead = le-min one (omega (arith, ahead))
