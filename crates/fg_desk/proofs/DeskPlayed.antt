-- A play, whatever its outcome.
use Rattle.std.proofs.Common.{◌≡◌, ◌+◌, ◌<◌, ◌≤◌, ◌^◌, ◌↔◌, ◌&&◌, ℕ, Bool, cond, not, is_some, ltb, leb, Option, Some, None, IsTrue, refl, sym, ap, subst, ◌∙◌, ⊎_elim}
use Rattle.std.proofs.lemmas.Bool.{cases_lt}
use Rattle.std.specs.Prelude.{nat_lt, if◌then◌else◌}
use Rattle.std.specs.Cmp.{nat_cmp_total}
use Rattle.std.specs.Ordering.{nat_cmp}
use Rattle.std.specs.FinMap.{FinMap, get, empty, get-empty, same_map, nat_cmp-IsAntisymmetric}
use Rattle.std.specs.FinSet.{contains}
use Rattle.fg_words.specs.declared.Word.{Word}
use Rattle.fg_peel.specs.Laws.{FoundKeepsSolutions, PeelingsAppend, PeelingsKeepWords, SolutionsKeepPeelings}
use Rattle.fg_peel.proofs.Options.{chosen}
use Rattle.fg_playout.specs.declared.reply.Outcome.{Outcome}
use Rattle.fg_playout.specs.declared.reply.Outcome.TheVariants.{Repaired, Inconsistent}
use Rattle.fg_playout.specs.State.{live_equations}
use Rattle.fg_playout.specs.Admission.{kept_count}
use Rattle.fg_playout.specs.Facts.{Holds}
use Rattle.fg_desk.specs.Contents.{ChangesInPlay, epoch_after}
use Rattle.fg_playout.specs.Play.{IsPlay}
use Rattle.fg_playout.specs.Laws.{SolvedStaysPeeled}
use Rattle.fg_desk.specs.Inside.{Parts, AreSound, state_of, contents_of}
use Rattle.fg_buffer.specs.PlayoutBuffer.{BufferState, buffer_words, IsBuffer, Advances}
use Rattle.fg_buffer.specs.LiveEquations.{LiveState}
use Rattle.fg_desk.specs.Storage.{IsRecovered, Closes, without_found}
use Rattle.fg_desk.proofs.Advancing.{none_solved}
use Rattle.fg_desk.proofs.DeskPlays.{played, with_found, repaired_play, repaired_sound, received_play, received_sound}
use Rattle.fg_desk.proofs.DeskWords.{shown_in, received_ahead, words_unfound}
use Rattle.fg_buffer.proofs.Choices.{if-less, if-not_less}

-- Where each kept word was received, no position is bare, whatever was solved.
bare_where_received :
    (kept received one other : Option Word) → ((word : Word) → kept ≡ Some word → received ≡ Some word)
    → (is_some kept && (not (is_some received) && not (is_some one)))
    ≡ (is_some kept && (not (is_some received) && not (is_some other)))
bare_where_received None received one other all = refl
bare_where_received (Some word) received one other all =
    let e = all word refl in
    ap (λ (o : Option Word). not (is_some o) && not (is_some one)) e
    ∙ sym (ap (λ (o : Option Word). not (is_some o) && not (is_some other)) e)

module _
    (parts : Parts) (sound : AreSound parts) (buffer : BufferState) (answer : Bool)
    (recovered : IsRecovered (live_equations (state_of parts)) parts.buffer buffer answer)
    (found : FoundKeepsSolutions) (keep : PeelingsKeepWords) (kept : SolutionsKeepPeelings) (is_buffer : IsBuffer buffer)
    (count : ℕ) (new : BufferState) (left : LiveState) (times : FinMap nat_cmp ℕ)
    (times_are : (position : ℕ) → get times position ≡ cond (ltb position new.mark) None (get parts.times position)) where
  again : IsRecovered (live_equations (state_of parts)) parts.buffer (with_found parts buffer.cached) answer
  again = subst (λ (r : BufferState). IsRecovered (live_equations (state_of parts)) parts.buffer r answer) recovered.rest recovered

  buffer_again : IsBuffer (with_found parts buffer.cached)
  buffer_again = subst IsBuffer recovered.rest is_buffer

  closed : (outcome : Outcome) → Closes outcome count buffer parts.lines new left
      → Closes outcome count (with_found parts buffer.cached) parts.lines new left
  closed outcome closes = subst (λ (r : BufferState). Closes outcome count r parts.lines new left) recovered.rest closes

  unsolved : ((Inconsistent ≡ Repaired) ↔ IsTrue answer) → ¬ IsTrue answer
  unsolved tells solved = let never : Inconsistent ≡ Repaired = tells.1 solved in absurd (cc)

  pub closed_play :
      (outcome : Outcome) → count ≤ 100 → Closes outcome count buffer parts.lines new left
      → ((outcome ≡ Repaired) ↔ IsTrue answer) → IsPlay count (state_of parts) (record { first = parts.buffer.mark; shown = shown_in new parts.buffer.mark count; outcome = outcome })
      (state_of (played parts outcome new times left))
  closed_play Repaired most closes tells =
      let at = closed Repaired closes in
      repaired_play parts sound buffer.cached answer again found keep kept buffer_again count new left times times_are at.0 most at.1 (tells.0 refl)
  closed_play Inconsistent most closes tells =
      let at = closed Inconsistent closes in
      received_play parts sound buffer.cached answer again found keep kept buffer_again count new left times times_are at.0 most at.1 (unsolved tells)

  pub closed_sound :
      PeelingsAppend → SolvedStaysPeeled → parts.buffer.mark < 2 ^ 61 → parts.calls < 2 ^ 62 → count ≤ 100
      → (outcome : Outcome) → Closes outcome count buffer parts.lines new left → ((outcome ≡ Repaired) ↔ IsTrue answer)
      → Holds (state_of (played parts outcome new times left)) → AreSound (played parts outcome new times left)
  closed_sound append stays mark calls most Repaired closes tells facts =
      let at = closed Repaired closes in
      repaired_sound parts sound buffer.cached answer again found keep kept buffer_again count new left times times_are at.0 most at.1 (tells.0 refl) append stays mark
      calls facts
  closed_sound append stays mark calls most Inconsistent closes tells facts =
      let at = closed Inconsistent closes in
      received_sound parts sound buffer.cached answer again found keep kept buffer_again count new left times times_are at.0 most at.1 (unsolved tells) mark calls
      facts

  -- What a play makes of the rest of the desk.
  repaired_changes :
      (epoch : ℕ) → epoch ≡ parts.epoch → Closes Repaired count buffer parts.lines new left
      → ChangesInPlay Repaired (contents_of parts) (contents_of (record (played parts Repaired new times left) { epoch = epoch }))
  repaired_changes epoch is closes =
      let a = (closed Repaired closes).0 in
      record { bare = a.bare; repaired = a.repaired; solved = a.solved; epoch = is }

  -- Of the positions played then those have words that were received.
  received_bare :
      Advances count (without_found (with_found parts buffer.cached)) new → (q : ℕ)
      → contains new.bare q
      ≡ (is_some (get new.kept q)
      && (if nat_lt q parts.buffer.mark then contains parts.buffer.bare q
      else (not (is_some (get parts.buffer.media q)) && not (is_some (get parts.buffer.solved q)))))
  received_bare a q = ⊎_elim
      (λ before.
      a.bare q
      ∙ ap (λ (b : Bool). is_some (get new.kept q) && b)
      (if-less q parts.buffer.mark (contains parts.buffer.bare q) (not (is_some (get parts.buffer.media q)) && not (is_some (get (empty {X = Word} {R = nat_cmp}) q))) before
      ∙ sym (if-less q parts.buffer.mark (contains parts.buffer.bare q) (not (is_some (get parts.buffer.media q)) && not (is_some (get parts.buffer.solved q))) before)))
      (λ from.
      a.bare q
      ∙ ap (λ (b : Bool). is_some (get new.kept q) && b)
      (if-not_less q parts.buffer.mark (contains parts.buffer.bare q) (not (is_some (get parts.buffer.media q)) && not (is_some (get (empty {X = Word} {R = nat_cmp}) q))) from)
      ∙ bare_where_received (get new.kept q) (get parts.buffer.media q) (get (empty {X = Word} {R = nat_cmp}) q) (get parts.buffer.solved q)
      (λ word is.
      let was = chosen (ltb q new.mark && leb new.mark (q + kept_count)) (buffer_words (without_found (with_found parts buffer.cached)) q) word
      (sym (a.kept q) ∙ is) in
      sym (ap (λ (f : ℕ → Option Word). f q)
      (words_unfound (without_found (with_found parts buffer.cached)) (get-empty nat_cmp) (get-empty nat_cmp))
      ∙ received_ahead (without_found (with_found parts buffer.cached)) q from) ∙ was.1)
      ∙ ap (λ (b : Bool). is_some (get new.kept q) && b)
      (sym (if-not_less q parts.buffer.mark (contains parts.buffer.bare q) (not (is_some (get parts.buffer.media q)) && not (is_some (get parts.buffer.solved q))) from)))
      (cases_lt q parts.buffer.mark)

  received_changes :
      (epoch : ℕ) → epoch ≡ parts.epoch + 1 → Closes Inconsistent count buffer parts.lines new left
      → ChangesInPlay Inconsistent (contents_of parts) (contents_of (record (played parts Inconsistent new times left) { epoch = epoch }))
  received_changes epoch is closes =
      let a = (closed Inconsistent closes).0 in
      record {
        bare = received_bare a;
        repaired = a.repaired;
        solved = same_map nat_cmp_total nat_cmp-IsAntisymmetric new.solved empty
            (λ q. none_solved count (without_found (with_found parts buffer.cached)) new a refl q ∙ sym (get-empty nat_cmp q));
        epoch = is;
      }

  pub closed_changes :
      (outcome : Outcome) (epoch : ℕ) → epoch ≡ epoch_after parts.epoch outcome → Closes outcome count buffer parts.lines new left
      → ChangesInPlay outcome (contents_of parts) (contents_of (record (played parts outcome new times left) { epoch = epoch }))
  closed_changes Repaired epoch is closes = repaired_changes epoch is closes
  closed_changes Inconsistent epoch is closes = received_changes epoch is closes

  -- The epoch as the desk has it.
  pub sound_with_epoch :
      (outcome : Outcome) (epoch : ℕ) → epoch ≡ epoch_after parts.epoch outcome → AreSound (played parts outcome new times left)
      → AreSound (record (played parts outcome new times left) { epoch = epoch })
  sound_with_epoch outcome epoch is after =
      subst (λ (e : ℕ). AreSound (record (played parts outcome new times left) { epoch = e })) (sym is) after
