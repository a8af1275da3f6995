-- The words of a buffer whose mark moves on.
use Rattle.std.proofs.Common.{◌≡◌, ◌+◌, ◌<◌, ◌≤◌, ◌&&◌, ℕ, Bool, not, is_some, cond, get_or, ltb, leb, lt-ltb, le-leb, Option, None, refl, sym, ap, ◌∙◌, ⊎_elim, arith}
use Rattle.std.proofs.lemmas.Bool.{cases_lt}
use Rattle.std.specs.Option.{option_or}
use Rattle.std.specs.FinMap.{get, empty, get-empty}
use Rattle.std.specs.Ordering.{nat_cmp}
use Rattle.std.specs.FinSet.{contains}
use Rattle.std.proofs.lemmas.List.FromFn.{get_or-map-range_with_len}
use Rattle.fg_words.specs.declared.Word.{Word}
use Rattle.fg_peel.specs.Equation.{Keeps}
use Rattle.fg_peel.proofs.Options.{chosen}
use Rattle.fg_playout.specs.Admission.{kept_count}
use Rattle.fg_desk.specs.Contents.{kept_shown}
use Rattle.fg_playout.specs.Play.{nothing_shown}
use Rattle.fg_buffer.specs.PlayoutBuffer.{BufferState, buffer_received, buffer_known, buffer_words, Advances}
use Rattle.fg_playout.specs.State.{Words}
use Rattle.fg_desk.proofs.DeskWords.{shown_in, received_below, received_ahead, known_kept, words_kept}
use Rattle.fg_buffer.proofs.Choices.{if-less, if-not_less}

module _ (count : ℕ) (old new : BufferState) (advances : Advances count old new) where
  pub rises : old.mark ≤ new.mark
  rises = let m = advances.mark in omega (arith, m)

  pub unsolved_below : (q : ℕ) → q < new.mark → get new.solved q ≡ None
  unsolved_below q below = advances.solved q ∙ if-less q new.mark None (get old.solved q) below

  uncached_below : (q : ℕ) → q < new.mark → get new.cached q ≡ None
  uncached_below q below = advances.cached q ∙ if-less q new.mark None (get old.cached q) below

  pub known_below : (q : ℕ) → q < new.mark → buffer_known new q ≡ get new.kept q
  known_below q below = known_kept new q below (unsolved_below q below)

  pub words_below : (q : ℕ) → q < new.mark → buffer_words new q ≡ get new.kept q
  words_below q below = words_kept new q below (unsolved_below q below) (uncached_below q below)

  pub received_stays : (q : ℕ) → new.mark ≤ q → buffer_received new q ≡ buffer_received old q
  received_stays q ahead =
      let up = rises in
      received_ahead new q ahead ∙ advances.media q ∙ if-not_less q new.mark None (get old.media q) ahead
      ∙ sym (received_ahead old q (omega (arith, up, ahead)))

  pub known_ahead : (q : ℕ) → new.mark ≤ q → buffer_known new q ≡ buffer_known old q
  known_ahead q ahead =
      ap (λ (o : Option Word). option_or o (get new.solved q)) (received_stays q ahead)
      ∙ ap (option_or (buffer_received old q)) (advances.solved q ∙ if-not_less q new.mark None (get old.solved q) ahead)

  pub words_ahead : (q : ℕ) → new.mark ≤ q → buffer_words new q ≡ buffer_words old q
  words_ahead q ahead =
      ap (λ (o : Option Word). option_or o (get new.cached q)) (known_ahead q ahead)
      ∙ ap (option_or (buffer_known old q)) (advances.cached q ∙ if-not_less q new.mark None (get old.cached q) ahead)

  -- Each word was there before.
  pub words_before : Keeps (buffer_words new) (buffer_words old)
  words_before q word is = ⊎_elim
      (λ below.
      (chosen (ltb q new.mark && leb new.mark (q + kept_count)) (buffer_words old q) word
      (sym (advances.kept q) ∙ sym (words_below q below) ∙ is)).1)
      (λ ahead. sym (words_ahead q ahead) ∙ is)
      (cases_lt q new.mark)

  -- The words at the positions that were played are kept.
  pub shows_kept :
      count ≤ 100 → (i : ℕ) → i < count
      → get_or (shown_in new old.mark count) i nothing_shown
      ≡ record {
        word = buffer_words old (old.mark + i);
        repaired = is_some (buffer_words old (old.mark + i)) && not (is_some (get old.media (old.mark + i)));
      }
  shows_kept most i less =
      let q = old.mark + i in
      let m = advances.mark in
      let below : q < new.mark = omega (arith, m, less) in
      let near : new.mark ≤ q + kept_count = omega (arith, m, less, most) in
      let kept : get new.kept q ≡ buffer_words old q =
      advances.kept q ∙ ap (λ (b : Bool). cond (b && leb new.mark (q + kept_count)) (buffer_words old q) None) (lt-ltb q new.mark below)
      ∙ ap (λ (b : Bool). cond b (buffer_words old q) None) (le-leb new.mark (q + kept_count) near) in
      let word : buffer_received new q ≡ buffer_words old q = received_below new q below ∙ kept in
      let repaired : contains new.repaired q ≡ (is_some (buffer_words old q) && not (is_some (get old.media q))) =
      advances.repaired q
      ∙ ap (λ (b : Bool). is_some (get new.kept q) && b)
      (if-not_less q old.mark (contains old.repaired q) (not (is_some (get old.media q))) (omega arith))
      ∙ ap (λ (o : Option Word). is_some o && not (is_some (get old.media q))) kept in
      get_or-map-range_with_len (kept_shown (buffer_received new) new.repaired) old.mark count i q nothing_shown less refl
      ∙ (λ k. record { word = word k; repaired = repaired k })

  -- Where nothing was solved, nothing is, and so it is with what was found.
  none_of : (words later : Words) → words ≡ empty → ((q : ℕ) → get later q ≡ cond (ltb q new.mark) None (get words q))
      → (q : ℕ) → get later q ≡ None
  none_of words later none is q = ⊎_elim
      (λ below. is q ∙ if-less q new.mark None (get words q) below)
      (λ ahead.
      is q ∙ if-not_less q new.mark None (get words q) ahead ∙ ap (λ (m : Words). get m q) none ∙ get-empty nat_cmp q)
      (cases_lt q new.mark)

  pub none_solved : old.solved ≡ empty → (q : ℕ) → get new.solved q ≡ None
  none_solved none = none_of old.solved new.solved none advances.solved

  pub none_found : old.cached ≡ empty → (q : ℕ) → get new.cached q ≡ None
  none_found none = none_of old.cached new.cached none advances.cached
