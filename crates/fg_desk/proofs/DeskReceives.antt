-- A desk after a word is received is sound.
use Rattle.std.proofs.Common.{◌≡◌, ◌≢◌, ◌+◌, ◌<◌, ◌≤◌, ◌^◌, ◌==◌, ℕ, Bool, true, false, ltb, cond, Option, Some, None, IsSome, refl, sym, ap, subst, ◌∙◌, ⊎_elim, arith, eq-eqb, ne_eqb}
use Rattle.std.proofs.lemmas.Bool.{cases_eq, cond-true, cond-false}
use Rattle.std.proofs.lemmas.Option.{none-some, same_Some}
use Rattle.std.specs.Cmp.{nat_cmp_total}
use Rattle.std.specs.FinMap.{FinMap, get, insert, remove, empty, get-empty, same_map, nat_cmp-IsAntisymmetric}
use Rattle.std.specs.Ordering.{nat_cmp}
use Rattle.fg_words.specs.declared.Word.{Word}
use Rattle.fg_peel.specs.Equation.{AreMedia}
use Rattle.fg_peel.specs.Laws.{PeelingsTakeWords}
use Rattle.fg_peel.proofs.Options.{or_first, or_second, some_and, none_has_no_value}
use Rattle.fg_peel.proofs.Maps.{beside_inserted, removed, beside_removed}
use Rattle.fg_playout.specs.State.{State, Top, Live, known, live_equations}
use Rattle.fg_playout.specs.Admission.{farther, with_media}
use Rattle.fg_desk.specs.Contents.{GivesWay}
use Rattle.fg_playout.specs.Facts.{Holds}
use Rattle.fg_desk.specs.Inside.{AreLimited, Parts, AreSound, SettledComeOut, state_of, contents_of, raised}
use Rattle.fg_buffer.specs.PlayoutBuffer.{BufferState, buffer_received, buffer_known, buffer_words, receives}
use Rattle.fg_buffer.specs.LiveEquations.{LiveState, Reopens}
use Rattle.fg_desk.specs.Storage.{MakesWay, without_cached, without_found}
use Rattle.fg_playout.proofs.AdmissionsAdd.{known_with_media}
use Rattle.fg_desk.proofs.DeskOneWord.{IsWith, with_removed, words_stay, peeled_with_known}
use Rattle.fg_desk.proofs.DeskPlays.{ComeByPeeling, StandBeside, HaveRoom, sound_from}
use Rattle.fg_desk.proofs.DeskWays.{Agrees, with_buffer, sound_without_cached, sound_without_all, agrees_uncached, agrees_unfound}
use Rattle.fg_desk.proofs.DeskWords.{or_neither, received_ahead}
use Rattle.fg_desk.proofs.SettledWords.{settled_keeps}

-- The parts after the call.
abbrev pub taken : Parts → ℕ → ℕ → ℕ → Word → BufferState → LiveState → ℕ → Parts
taken parts position seq ssrc word between left epoch = record parts {
  top = farther parts.top (record { position = position; seq = seq; ssrc = ssrc });
  buffer = receives between position word;
  times = insert parts.times position parts.clock;
  lines = left;
  calls = parts.calls + 1;
  epoch = epoch;
}

farther_within :
    (limit : ℕ) (new : Top) (old : Option Top) → new.position < limit → ((top : Top) → old ≡ Some top → top.position < limit)
    → (top : Top) → farther old new ≡ Some top → top.position < limit
farther_within limit new None near before top is = subst (λ (t : Top). t.position < limit) (same_Some new top is) near
farther_within limit new (Some first) near before top is = go (ltb first.position new.position) is
  where
    go : (b : Bool) → cond b (Some new) (Some first) ≡ Some top → top.position < limit
    go true e = subst (λ (t : Top). t.position < limit) (same_Some new top e) near
    go false e = before top e

pub raised_within : (epoch calls : ℕ) (answer : Bool) → epoch ≤ calls → raised epoch answer ≤ calls + 1
raised_within epoch calls true limit = omega (arith, limit)
raised_within epoch calls false limit = omega (arith, limit)

-- Nothing is removed from an empty map.
nothing_removed : (k : ℕ) → remove (empty {X = Word} {R = nat_cmp}) k ≡ empty
nothing_removed k = same_map nat_cmp_total nat_cmp-IsAntisymmetric (remove (empty {X = Word} {R = nat_cmp}) k) empty
    (λ q. ⊎_elim
    (λ here. removed empty k q here ∙ sym (get-empty nat_cmp q))
    (λ beside. beside_removed empty k q beside)
    (cases_eq q k))

-- What holds of the words and the equations of a desk's parts.
pub record AreFound (parts : Parts) : Type 0 where
  pub cached : AreMedia (get parts.buffer.cached)
  pub solved : ComeByPeeling parts (buffer_known parts.buffer)
  pub peeled : ComeByPeeling parts (buffer_words parts.buffer)
  pub beside : StandBeside parts
  pub settled : SettledComeOut parts
  pub rooms : HaveRoom parts

found_in : (parts : Parts) → AreSound parts → AreFound parts
found_in parts sound = record {
  cached = sound.cached;
  solved = sound.solved;
  peeled = sound.peeled;
  beside = sound.beside;
  settled = sound.settled;
  rooms = sound.rooms;
}

module _
    (parts : Parts) (found : AreFound parts) (position seq ssrc : ℕ) (word : Word) (ahead : parts.buffer.mark ≤ position)
    (none : get parts.buffer.media position ≡ None) (take : PeelingsTakeWords) (epoch : ℕ)
    (agrees : Agrees position word (buffer_words parts.buffer)) where
  -- What is known then, what is solved beside, and all words.
  received_is : IsWith position word (buffer_received parts.buffer) (buffer_received (receives parts.buffer position word))
  received_is = record {
    here = λ q here.
        (known_with_media (state_of parts) seq ssrc position word ahead q
        ∙ cond-true (q == position) (Some word) (known (state_of parts) q) (eq-eqb q position here));
    beside = λ q beside.
        (known_with_media (state_of parts) seq ssrc position word ahead q
        ∙ cond-false (q == position) (Some word) (known (state_of parts) q) (ne_eqb q position beside));
  }

  known_is : IsWith position word (buffer_known parts.buffer) (buffer_known (receives parts.buffer position word))
  known_is = with_removed position word (buffer_received parts.buffer) (buffer_received (receives parts.buffer position word)) parts.buffer.solved received_is

  words_are : IsWith position word (buffer_words parts.buffer) (buffer_words (receives parts.buffer position word))
  words_are = with_removed position word (buffer_known parts.buffer) (buffer_known (receives parts.buffer position word)) parts.buffer.cached known_is

  unknown : known (state_of parts) position ≡ None
  unknown = received_ahead parts.buffer position ahead ∙ none

  cached_media : AreMedia (get (remove parts.buffer.cached position))
  cached_media q other is = ⊎_elim
      (λ here. absurd (none-some other (sym (removed parts.buffer.cached position q here) ∙ is)))
      (λ beside. found.cached q other (sym (beside_removed parts.buffer.cached position q beside) ∙ is))
      (cases_eq q position)

  solved_beside : StandBeside (taken parts position seq ssrc word parts.buffer parts.lines epoch)
  solved_beside q some = ⊎_elim
      (λ here.
      absurd (none_has_no_value (get (remove parts.buffer.solved position) q) (removed parts.buffer.solved position q here) some))
      (λ beside.
      let was = found.beside q (subst (λ (o : Option Word). IsSome o) (beside_removed parts.buffer.solved position q beside)
      some) in
      (was.0, beside_inserted parts.buffer.media position word q beside ∙ was.1))
      (cases_eq q position)

  pub sound_with_word :
      AreLimited (taken parts position seq ssrc word parts.buffer parts.lines epoch)
      → Holds (with_media (state_of parts) seq ssrc position word)
      → AreSound (taken parts position seq ssrc word parts.buffer parts.lines epoch)
  sound_with_word limited facts =
      sound_from (taken parts position seq ssrc word parts.buffer parts.lines epoch) limited facts cached_media
      (peeled_with_known take (live_equations (state_of parts)) (known (state_of parts))
      (known (with_media (state_of parts) seq ssrc position word)) (buffer_known parts.buffer)
      (buffer_known (receives parts.buffer position word))
      position word unknown received_is known_is
      (λ other is. agrees other (or_first (buffer_known parts.buffer position) (get parts.buffer.cached position) other is))
      found.solved)
      (peeled_with_known take (live_equations (state_of parts)) (known (state_of parts))
      (known (with_media (state_of parts) seq ssrc position word)) (buffer_words parts.buffer)
      (buffer_words (receives parts.buffer position word))
      position word unknown received_is words_are agrees found.peeled)
      (λ serial live is settled.
      settled_keeps (buffer_words parts.buffer) (buffer_words (receives parts.buffer position word)) live.equation
      (words_stay position word (buffer_words parts.buffer) (buffer_words (receives parts.buffer position word)) words_are agrees)
      (found.settled serial live is settled))
      found.rooms solved_beside

module _
    (parts : Parts) (sound : AreSound parts) (position seq ssrc : ℕ) (word : Word) (ahead : parts.buffer.mark ≤ position)
    (none : get parts.buffer.media position ≡ None) where
  -- The equations that were opened are live as before.
  holds_reopened :
      Holds (with_media (state_of parts) seq ssrc position word) → (left : LiveState) → left.live ≡ parts.lines.live
      → Holds (record (with_media (state_of parts) seq ssrc position word) { equations = left.live })
  holds_reopened facts left same =
      subst (λ (m : FinMap nat_cmp Live). Holds (record (with_media (state_of parts) seq ssrc position word) { equations = m }))
      (sym same) facts

  -- No number outgrows its limit.
  limited :
      position < 2 ^ 61 + 2 ^ 16 → parts.calls < 2 ^ 62 → (between : BufferState) (left : LiveState) (epoch : ℕ)
      → epoch ≤ parts.calls + 1
      → between.mark ≡ parts.buffer.mark → between.reach ≡ parts.buffer.reach
      → AreLimited (taken parts position seq ssrc word between left epoch)
  limited limit calls between left epoch epoch_limit mark reach =
      let runs = sound.limits.runs_limit in
      let admitted = sound.limits.admitted_limit in
      let mark_limit = sound.limits.mark_limit in
      record {
        depth_limit = sound.limits.depth_limit;
        reach_is = reach ∙ sound.limits.reach_is;
        mark_limit = omega (arith, mark_limit, mark);
        top_limit = farther_within (2 ^ 61 + 2 ^ 16) (record { position = position; seq = seq; ssrc = ssrc }) parts.top limit
            sound.limits.top_limit;
        runs_limit = omega (arith, runs);
        admitted_limit = omega (arith, admitted);
        calls_limit = omega (arith, calls);
        epoch_limit = epoch_limit;
      }

  -- Whatever way is made, the desk is sound then.
  pub takes_sound :
      Holds (with_media (state_of parts) seq ssrc position word) → position < 2 ^ 61 + 2 ^ 16 → parts.calls < 2 ^ 62
      → PeelingsTakeWords → (answer : Bool) (between : BufferState) (left : LiveState) (epoch : ℕ) → epoch ≤ parts.calls + 1
      → MakesWay answer position word parts.buffer between parts.lines left
      → AreSound (taken parts position seq ssrc word between left epoch)
  takes_sound facts limit calls take true between left epoch epoch_limit way =
      let reopens : Reopens (buffer_words (without_found parts.buffer)) parts.lines left =
      subst (λ (r : BufferState). Reopens (buffer_words r) parts.lines left) way.buffer_is way.lines_are in
      subst (λ (r : BufferState). AreSound (taken parts position seq ssrc word r left epoch)) (sym way.buffer_is)
      (sound_with_word (with_buffer parts (without_found parts.buffer) left)
      (found_in (with_buffer parts (without_found parts.buffer) left) (sound_without_all parts sound left reopens))
      position seq ssrc word ahead none take epoch
      (agrees_unfound parts.buffer position word (received_ahead parts.buffer position ahead ∙ none))
      (limited limit calls (without_found parts.buffer) left epoch epoch_limit refl refl)
      (holds_reopened facts left reopens.live))
  takes_sound facts limit calls take false between left epoch epoch_limit way = ⊎_elim
      (λ same.
      subst (λ (r : BufferState). AreSound (taken parts position seq ssrc word r left epoch)) (sym same.buffer_is)
      (subst (λ (l : LiveState). AreSound (taken parts position seq ssrc word parts.buffer l epoch)) (sym same.lines_are)
      (sound_with_word parts (found_in parts sound) position seq ssrc word ahead none take epoch same.agrees
      (limited limit calls parts.buffer parts.lines epoch epoch_limit refl refl) facts)))
      (λ anew.
      let reopens : Reopens (buffer_words (without_cached parts.buffer)) parts.lines left =
      subst (λ (r : BufferState). Reopens (buffer_words r) parts.lines left) anew.buffer_is anew.lines_are in
      subst (λ (r : BufferState). AreSound (taken parts position seq ssrc word r left epoch)) (sym anew.buffer_is)
      (sound_with_word (with_buffer parts (without_cached parts.buffer) left)
      (found_in (with_buffer parts (without_cached parts.buffer) left) (sound_without_cached parts sound left reopens))
      position seq ssrc word ahead none take epoch (agrees_uncached parts.buffer position word anew.unknown)
      (limited limit calls (without_cached parts.buffer) left epoch epoch_limit refl refl)
      (holds_reopened facts left reopens.live)))
      way

  -- The state has the word, and nothing else of it changes.
  pub takes_state :
      (answer : Bool) (between : BufferState) (left : LiveState) (epoch : ℕ)
      → MakesWay answer position word parts.buffer between parts.lines left
      → state_of (taken parts position seq ssrc word between left epoch) ≡ with_media (state_of parts) seq ssrc position word
  takes_state true between left epoch way =
      ap (λ (r : BufferState). state_of (taken parts position seq ssrc word r left epoch)) way.buffer_is
      ∙ ap (λ (m : FinMap nat_cmp Live). record (with_media (state_of parts) seq ssrc position word) { equations = m })
      way.lines_are.live
  takes_state false between left epoch way = ⊎_elim
      (λ same.
      ap (λ (r : BufferState). state_of (taken parts position seq ssrc word r left epoch)) same.buffer_is
      ∙ ap (λ (l : LiveState). record (with_media (state_of parts) seq ssrc position word) { equations = l.live })
      same.lines_are)
      (λ anew.
      ap (λ (r : BufferState). state_of (taken parts position seq ssrc word r left epoch)) anew.buffer_is
      ∙ ap (λ (m : FinMap nat_cmp Live). record (with_media (state_of parts) seq ssrc position word) { equations = m })
      anew.lines_are.live)
      way

  -- What was solved gives way.
  pub takes_give_way :
      (answer : Bool) (between : BufferState) (left : LiveState) (epoch : ℕ) → epoch ≡ raised parts.epoch answer
      → MakesWay answer position word parts.buffer between parts.lines left
      → GivesWay (contents_of parts) position word (contents_of (taken parts position seq ssrc word between left epoch))
  takes_give_way true between left epoch is way =
      subst (λ (r : BufferState). GivesWay (contents_of parts) position word
      (contents_of (taken parts position seq ssrc word r left epoch)))
      (sym way.buffer_is)
      (record {
        withdrawn = λ _. (
            let state : State = state_of (taken parts position seq ssrc word (without_found parts.buffer) left epoch) in
            let e = nothing_removed position in
            λ i. record {
              state = state;
              solved = e i;
              bare = parts.buffer.bare;
              repaired = parts.buffer.repaired;
              epoch = is i;
            });
        agreed = λ not. absurd (not way.contradicts);
      })
  takes_give_way false between left epoch is way = ⊎_elim
      (λ same.
      subst (λ (r : BufferState). GivesWay (contents_of parts) position word
      (contents_of (taken parts position seq ssrc word r left epoch)))
      (sym same.buffer_is)
      (record {
        withdrawn = λ contradicted. (
            let s = some_and (get parts.buffer.solved position) (λ other. other ≢ word) contradicted in
            absurd (s.2 (same.agrees s.0
            (or_first (buffer_known parts.buffer position) (get parts.buffer.cached position) s.0
            (or_second (buffer_received parts.buffer position) (get parts.buffer.solved position)
            (received_ahead parts.buffer position ahead ∙ none) ∙ s.1)))));
        agreed = λ _. (
            let state : State = state_of (taken parts position seq ssrc word parts.buffer left epoch) in
            λ i. record {
              state = state;
              solved = remove parts.buffer.solved position;
              bare = parts.buffer.bare;
              repaired = parts.buffer.repaired;
              epoch = is i;
            });
      }))
      (λ anew.
      subst (λ (r : BufferState). GivesWay (contents_of parts) position word
      (contents_of (taken parts position seq ssrc word r left epoch)))
      (sym anew.buffer_is)
      (record {
        withdrawn = λ contradicted. (
            let s = some_and (get parts.buffer.solved position) (λ other. other ≢ word) contradicted in
            let unsolved = (or_neither (buffer_received parts.buffer position) (get parts.buffer.solved position) anew.unknown).1 in
            absurd (none-some s.0 (sym unsolved ∙ s.1)));
        agreed = λ _. (
            let state : State = state_of (taken parts position seq ssrc word (without_cached parts.buffer) left epoch) in
            λ i. record {
              state = state;
              solved = remove parts.buffer.solved position;
              bare = parts.buffer.bare;
              repaired = parts.buffer.repaired;
              epoch = is i;
            });
      }))
      way
