-- What a play is, and what it leaves.
use Rattle.std.proofs.Common.{◌≡◌, ◌+◌, ◌<◌, ◌≤◌, ◌^◌, ◌&&◌, ℕ, Bool, cond, ltb, leb, not, is_some, List, [], filter, Option, Some, None, IsSome, IsTrue, refl, sym, ap, subst, ◌∙◌, ⊎_elim, arith}
use Rattle.std.specs.Prelude.{nat_le}
use Rattle.std.proofs.lemmas.Bool.{cases_lt}
use Rattle.std.proofs.lemmas.Option.{none-some}
use Rattle.std.proofs.lemmas.List.FromFn.{length-map-range_with_len}
use Rattle.std.specs.FinMap.{FinMap, get, get-empty}
use Rattle.std.specs.Ordering.{nat_cmp}
use Rattle.fg_words.specs.declared.Word.{Word}
use Rattle.fg_words.specs.Word.{HasRoom}
use Rattle.fg_peel.specs.Equation.{AreMedia, IsComplete}
use Rattle.fg_peel.specs.Peeling.{Step, ArePeeled, end_of}
use Rattle.fg_peel.specs.Laws.{FoundKeepsSolutions, PeelingsAppend, PeelingsKeepWords, SolutionsKeepPeelings}
use Rattle.fg_peel.proofs.Options.{none_has_no_value, passed_over}
use Rattle.fg_peel.proofs.Maps.{nothing_in_empty}
use Rattle.fg_playout.specs.declared.reply.Outcome.{Outcome}
use Rattle.fg_playout.specs.declared.reply.Outcome.TheVariants.{Repaired, Inconsistent}
use Rattle.fg_playout.specs.State.{Live, Words, known, live_equations}
use Rattle.fg_playout.specs.Admission.{kept_count}
use Rattle.fg_playout.specs.Facts.{Holds}
use Rattle.fg_desk.specs.Contents.{epoch_after, kept_shown}
use Rattle.fg_playout.specs.Solution.{IsSolution}
use Rattle.fg_playout.specs.Play.{IsPlay}
use Rattle.fg_playout.specs.Laws.{SolvedStaysPeeled}
use Rattle.fg_desk.specs.Inside.{AreLimited, Parts, AreSound, SettledComeOut, state_of}
use Rattle.fg_buffer.specs.PlayoutBuffer.{BufferState, buffer_received, buffer_known, buffer_words, IsBuffer, Advances}
use Rattle.fg_buffer.specs.LiveEquations.{LiveState, no_equations}
use Rattle.fg_desk.specs.Storage.{IsRecovered, Keeps, without_found}
use Rattle.fg_desk.proofs.Advancing.{unsolved_below, known_below as known_in_new, known_ahead, words_below, words_ahead, words_before, shows_kept, none_solved, none_found}
use Rattle.fg_desk.proofs.DeskRecovers.{desk_solution, desk_solvable, all_peeled}
use Rattle.fg_desk.proofs.DeskWords.{shown_in, known_unsolved, words_unfound, received_ahead, found_is_word, words_in_play}
use Rattle.fg_playout.proofs.Equations.{live_at}
use Rattle.fg_playout.proofs.Orderly.{orderly_from_holds, known_below}
use Rattle.fg_playout.proofs.Plays.{words_are_media}
use Rattle.fg_buffer.proofs.Choices.{if-not_less}
use Rattle.fg_desk.proofs.SettledWords.{settled_back}

-- The parts after a play.
abbrev pub played : Parts → Outcome → BufferState → FinMap nat_cmp ℕ → LiveState → Parts
played parts outcome new times left = record parts {
  buffer = new;
  times = times;
  lines = left;
  calls = parts.calls + 1;
  epoch = epoch_after parts.epoch outcome;
}

abbrev pub with_found : Parts → Words → BufferState
with_found parts cached = record parts.buffer { cached = cached }

-- The parity words of the live equations have room.
abbrev pub HaveRoom : Parts → Type 0
HaveRoom parts =
    (serial : ℕ) (live : Live) → get parts.lines.live serial ≡ Some live → HasRoom live.equation.parity

-- Solved words stand at the mark and past it, where none was received.
abbrev pub StandBeside : Parts → Type 0
StandBeside parts =
    (position : ℕ) → IsSome (get parts.buffer.solved position)
    → (parts.buffer.mark ≤ position) × (get parts.buffer.media position ≡ None)

-- Words come from a peeling of the desk.
abbrev pub ComeByPeeling : Parts → (ℕ → Option Word) → Type 0
ComeByPeeling parts words = ArePeeled (live_equations (state_of parts)) (known (state_of parts)) words

pub sound_from :
    (parts : Parts) → AreLimited parts → Holds (state_of parts) → AreMedia (get parts.buffer.cached)
    → ComeByPeeling parts (buffer_known parts.buffer) → ComeByPeeling parts (buffer_words parts.buffer) → SettledComeOut parts
    → HaveRoom parts → StandBeside parts → AreSound parts
sound_from parts limits facts cached solved peeled settled rooms beside = search

-- Without solved and found words a desk is sound.
pub sound_without_found :
    (parts : Parts) → AreLimited parts → Holds (state_of parts) → ((q : ℕ) → get parts.buffer.solved q ≡ None)
    → ((q : ℕ) → get parts.buffer.cached q ≡ None) → SettledComeOut parts → HaveRoom parts → AreSound parts
sound_without_found parts limits facts unsolved uncached settled rooms =
    sound_from parts limits facts (λ q w is. absurd (none-some w (sym (uncached q) ∙ is)))
    ([], tt, known_unsolved parts.buffer unsolved) ([], tt, words_unfound parts.buffer unsolved uncached) settled rooms
    (λ q some. absurd (none_has_no_value (get parts.buffer.solved q) (unsolved q) some))

epoch_rises : (outcome : Outcome) (epoch calls : ℕ) → epoch ≤ calls → epoch_after epoch outcome ≤ calls + 1
epoch_rises Repaired epoch calls limit = omega (arith, limit)
epoch_rises Inconsistent epoch calls limit = omega (arith, limit)

module _
    (parts : Parts) (sound : AreSound parts) (cached : Words) (answer : Bool)
    (recovered : IsRecovered (live_equations (state_of parts)) parts.buffer (with_found parts cached) answer)
    (found : FoundKeepsSolutions) (keep : PeelingsKeepWords) (kept : SolutionsKeepPeelings)
    (is_buffer : IsBuffer (with_found parts cached)) (count : ℕ) (new : BufferState) (left : LiveState) (times : FinMap nat_cmp ℕ)
    (times_are : (position : ℕ) → get times position ≡ cond (ltb position new.mark) None (get parts.times position)) where
  limited :
      (outcome : Outcome) → parts.buffer.mark < 2 ^ 61 → parts.calls < 2 ^ 62 → count ≤ 100 → new.mark ≡ parts.buffer.mark + count
      → new.reach ≡ parts.buffer.reach → AreLimited (played parts outcome new times left)
  limited outcome mark calls most mark_is reach_is =
      let runs = sound.limits.runs_limit in
      let admitted = sound.limits.admitted_limit in
      record {
        depth_limit = sound.limits.depth_limit;
        reach_is = reach_is ∙ sound.limits.reach_is;
        mark_limit = omega (arith, mark, most, mark_is);
        top_limit = sound.limits.top_limit;
        runs_limit = omega (arith, runs);
        admitted_limit = omega (arith, admitted);
        calls_limit = omega (arith, calls);
        epoch_limit = epoch_rises outcome parts.epoch parts.calls sound.limits.epoch_limit;
      }

  module _ (advances : Advances count (with_found parts cached) new) (most : count ≤ 100)
      (keeps : Keeps (buffer_words (with_found parts cached)) new.mark new.kept parts.lines left) (solved : IsTrue answer) where
    pub repaired_play :
        IsPlay count (state_of parts) (record { first = parts.buffer.mark; shown = shown_in new parts.buffer.mark count; outcome = Repaired })
        (state_of (played parts Repaired new times left))
    repaired_play = record {
      words = buffer_words (with_found parts cached);
      decides = desk_solution parts sound (with_found parts cached) answer recovered found keep solved;
      first = refl;
      length_is = length-map-range_with_len (kept_shown (buffer_received new) new.repaired) parts.buffer.mark count;
      shows = shows_kept count (with_found parts cached) new advances most;
      mark = advances.mark;
      kept = λ q.
          (advances.kept q
          ∙ ap (λ (o : Option Word). cond (ltb q new.mark && leb new.mark (q + kept_count)) o None)
          (words_in_play (with_found parts cached) is_buffer q));
      media = advances.media;
      times = times_are;
      equations = λ serial live. (
        λ is. (let r = (keeps.live serial live).0 is in (r.0, refl, r.1)),
        λ r. (keeps.live serial live).1 (r.0, r.2),
      );
      rest = refl;
    }

    solution : IsSolution (state_of parts) (buffer_words (with_found parts cached))
    solution = desk_solution parts sound (with_found parts cached) answer recovered found keep solved

    repaired_media : AreMedia (get new.cached)
    repaired_media q word is =
        let was = passed_over (ltb q new.mark) (get cached q) word (sym (advances.cached q) ∙ is) in
        words_are_media (state_of parts) Repaired (buffer_words (with_found parts cached)) (orderly_from_holds (state_of parts) sound.facts)
        solution q word (found_is_word (with_found parts cached) is_buffer q word was.1)

    -- What a peeling found is found by one still.
    later_peeled :
        SolvedStaysPeeled → (words later : ℕ → Option Word) → ComeByPeeling parts words
        → ((q : ℕ) → q < new.mark → later q ≡ get new.kept q) → ((q : ℕ) → new.mark ≤ q → later q ≡ words q)
        → ComeByPeeling (played parts Repaired new times left) later
    later_peeled stays words later all below_is ahead_is =
        let s = stays count (state_of parts) (state_of (played parts Repaired new times left))
        (record { first = parts.buffer.mark; shown = shown_in new parts.buffer.mark count; outcome = Repaired }) all.0 sound.facts repaired_play refl all.1 in
        let rest : List Step = filter (λ (step : Step). nat_le new.mark step.position) all.0 in
        let same : (q : ℕ) → later q ≡ end_of (known (state_of (played parts Repaired new times left))) rest q =
        λ q. ⊎_elim
        (λ below.
        below_is q below ∙ sym (known_below (state_of (played parts Repaired new times left)) q below) ∙ sym (s.2 q below))
        (λ ahead. ahead_is q ahead ∙ ap (λ (f : ℕ → Option Word). f q) all.2 ∙ sym (s.1 q ahead))
        (cases_lt q new.mark) in
        (rest, s.0, λ i q. same q i)

    repaired_solved : SolvedStaysPeeled → ComeByPeeling (played parts Repaired new times left) (buffer_known new)
    repaired_solved stays =
        later_peeled stays (buffer_known parts.buffer) (buffer_known new) sound.solved
        (known_in_new count (with_found parts cached) new advances) (known_ahead count (with_found parts cached) new advances)

    repaired_peeled : PeelingsAppend → SolvedStaysPeeled → ComeByPeeling (played parts Repaired new times left) (buffer_words new)
    repaired_peeled append stays =
        later_peeled stays (buffer_words (with_found parts cached)) (buffer_words new)
        (all_peeled parts sound (with_found parts cached) answer recovered append)
        (words_below count (with_found parts cached) new advances) (words_ahead count (with_found parts cached) new advances)

    -- Each word of a settled equation is there still.
    left_complete :
        (serial : ℕ) (live : Live) → get left.live serial ≡ Some live → IsComplete (buffer_words (with_found parts cached)) live.equation
        → IsComplete (buffer_words new) live.equation
    left_complete serial live is complete q c = ⊎_elim
        (λ below.
        subst (λ (o : Option Word). IsSome o) (sym (words_below count (with_found parts cached) new advances q below))
        (((keeps.live serial live).0 is).1.based q c below))
        (λ ahead.
        subst (λ (o : Option Word). IsSome o) (sym (words_ahead count (with_found parts cached) new advances q ahead))
        (complete q c))
        (cases_lt q new.mark)

    repaired_settled : SettledComeOut (played parts Repaired new times left)
    repaired_settled serial live is settled =
        let complete = keeps.settled serial live is settled in
        let listed = live_at (state_of parts) serial live ((keeps.live serial live).0 is).0 in
        settled_back (buffer_words new) (buffer_words (with_found parts cached)) live.equation
        (words_before count (with_found parts cached) new advances) (left_complete serial live is complete)
        (complete, solution.sums live.equation listed (λ q c. (solution.domain q).0 (complete q c)))

    pub repaired_sound :
        PeelingsAppend → SolvedStaysPeeled → parts.buffer.mark < 2 ^ 61 → parts.calls < 2 ^ 62
        → Holds (state_of (played parts Repaired new times left)) → AreSound (played parts Repaired new times left)
    repaired_sound append stays mark calls facts =
        sound_from (played parts Repaired new times left)
        (limited Repaired mark calls most advances.mark advances.reach)
        facts repaired_media (repaired_solved stays) (repaired_peeled append stays) repaired_settled
        (λ serial live is. sound.rooms serial live ((keeps.live serial live).0 is).0)
        (λ q some. ⊎_elim
        (λ below. absurd (none_has_no_value (get new.solved q) (unsolved_below count (with_found parts cached) new advances q below) some))
        (λ ahead. (
          ahead,
          advances.media q ∙ if-not_less q new.mark None (get parts.buffer.media q) ahead
              ∙ (sound.beside q (subst (λ (o : Option Word). IsSome o)
              (advances.solved q ∙ if-not_less q new.mark None (get parts.buffer.solved q) ahead) some)).1,
        ))
        (cases_lt q new.mark))

  module _ (advances : Advances count (without_found (with_found parts cached)) new) (most : count ≤ 100) (none_left : left ≡ no_equations)
      (unsolved : ¬ IsTrue answer) where
    nothing_left : (serial : ℕ) (live : Live) → get left.live serial ≡ Some live → ⊥
    nothing_left serial live is =
        nothing_in_empty serial live (sym (ap (λ (l : LiveState). get l.live serial) none_left) ∙ is)

    all_received : buffer_words (without_found (with_found parts cached)) ≡ buffer_received parts.buffer
    all_received = words_unfound (without_found (with_found parts cached)) (get-empty nat_cmp) (get-empty nat_cmp)

    pub received_play :
        IsPlay count (state_of parts) (record { first = parts.buffer.mark; shown = shown_in new parts.buffer.mark count; outcome = Inconsistent })
        (state_of (played parts Inconsistent new times left))
    received_play = record {
      words = get parts.buffer.media;
      decides = (
        λ solution is. unsolved (desk_solvable parts sound (with_found parts cached) answer recovered found kept solution is),
        refl,
      );
      first = refl;
      length_is = length-map-range_with_len (kept_shown (buffer_received new) new.repaired) parts.buffer.mark count;
      shows = λ i less.
          (let q = parts.buffer.mark + i in
          shows_kept count (without_found (with_found parts cached)) new advances most i less
          ∙ ap (λ (o : Option Word). record { word = o; repaired = is_some o && not (is_some (get parts.buffer.media q)) })
          (ap (λ (f : ℕ → Option Word). f q) all_received ∙ received_ahead (without_found (with_found parts cached)) q (omega arith)));
      mark = advances.mark;
      kept = λ q.
          (advances.kept q
          ∙ ap (λ (o : Option Word). cond (ltb q new.mark && leb new.mark (q + kept_count)) o None)
          (ap (λ (f : ℕ → Option Word). f q) all_received));
      media = advances.media;
      times = times_are;
      equations = λ serial live. (
        λ is. absurd (nothing_left serial live is),
        λ r. (let never : Inconsistent ≡ Repaired = r.1 in absurd (cc)),
      );
      rest = refl;
    }

    pub received_sound :
        parts.buffer.mark < 2 ^ 61 → parts.calls < 2 ^ 62
        → Holds (state_of (played parts Inconsistent new times left)) → AreSound (played parts Inconsistent new times left)
    received_sound mark calls facts =
        sound_without_found (played parts Inconsistent new times left)
        (limited Inconsistent mark calls most advances.mark advances.reach) facts
        (none_solved count (without_found (with_found parts cached)) new advances refl)
        (none_found count (without_found (with_found parts cached)) new advances refl)
        (λ serial live is settled. absurd (nothing_left serial live is))
        (λ serial live is. absurd (nothing_left serial live is))
