-- What passes bring: it follows from what they were told, and from what jobs tell.
use Rattle.std.proofs.Common.{◌≡◌, ◌↔◌, ℕ, Bool, List, [], ◌∷◌, ◌++◌, map, filter_map, true, false, Option, Some, None, IsSome, IsTrue, refl, sym, ap, subst, ◌∙◌, ⊎_elim}
use Rattle.std.proofs.lemmas.List.{length-replicate, map-append}
use Rattle.std.proofs.lemmas.List.Elements.{All-contains, All-weaker, All-contains_itself, Contains-append_right}
use Rattle.std.proofs.lemmas.Simd.{length-zip2}
use Rattle.std.specs.Prelude.{bit_xor, Result, Ok, Err, IfOk}
use Rattle.std.specs.List.{All, Contains, cons_option}
use Rattle.std.specs.FinMap.{get, entries}
use Rattle.fg_words.specs.declared.Word.{Word}
use Rattle.fg_words.specs.Word.{zero_word, word_xor, word_sum, HasRoom}
use Rattle.fg_words.specs.Laws.{XorAssociates, XorCommutes, XorHasZero, XorUndoesItself}
use Rattle.fg_peel.specs.declared.span.Missing.TheVariants.{One}
use Rattle.fg_peel.specs.Equation.{Equation, slots, others, sum_at, IsComplete, IsSettled}
use Rattle.fg_peel.specs.Slots.{IsMissing}
use Rattle.fg_peel.proofs.Lists.{Contains-here, Contains-there, Contains-map, others-head_dropped, others-kept, same_or_not}
use Rattle.fg_peel.proofs.Options.{value_of}
use Rattle.fg_peel.proofs.Maps.{entry_of_get}
use Rattle.fg_playout.specs.State.{Live}
use Rattle.fg_turn.specs.Standing.{Standing}
use Rattle.fg_desk.specs.Contents.{CanFill, known_in}
use Rattle.fg_core.specs.Board.{BoardState, JobState, IsCurrent, job_sum}
use Rattle.fg_core.specs.Core.{take, CanDo}
use Rattle.fg_core.specs.declared.fate.Fate.{Fate}
use Rattle.fg_board.specs.Deeds.{brings, checks}
use Rattle.fg_core.specs.Views.{Told, word_at, equation_is, seen_of, IsWorked, IsChecked, told_of_job}
use Rattle.fg_core.specs.Codes.{Entry, told_code, told_from, IsOwnedBy, GrowsFrom, ToldIsReadBack}
use Rattle.fg_core.specs.Laws.{WorkedWordsFollow, CheckedComeOut}
use Rattle.fg_board.specs.Actors.{TakenJob, WasTold, IsLater, TakesTurn, IsWorkedBy}
use Rattle.fg_core.specs.declared.key.Key.{Key}
use Rattle.fg_board.proofs.Later.{still_told}
use Rattle.fg_board.proofs.OneTurn.{owning, told_back}

-- For a seat that has seen these calls and was told this, on the board that it entered

module _ (calls told : List Entry) (board : BoardState) (owned : IsOwnedBy calls board) (grows : GrowsFrom told board) (key : Key) where
  -- a word that follows from what was told is one that the live equation gives,
  pub word_follows :
      WorkedWordsFollow → (slot : ℕ) (word : Word) → (equation : Equation) × IsWorked (map told_from told) key equation slot word
      → (live : Live) → IsCurrent board key live → known_in board.desk slot ≡ None → CanFill board.desk live.equation slot word
  word_follows follow slot word worked live current unknown =
      let o = owning calls board owned in
      follow o.playout o.calls board (map told_from told) key live worked.0 slot word o.owned grows current worked.1
      unknown

  -- and a check that follows from it holds.
  pub check_follows :
      CheckedComeOut → (comes : Bool) → (equation : Equation) × IsChecked (map told_from told) key equation comes → IsTrue comes
      → (live : Live) → IsCurrent board key live → IsSettled (known_in board.desk) live.equation
  check_follows come_out comes checked is live current =
      let o = owning calls board owned in
      come_out o.playout o.calls board (map told_from told) key live checked.0 comes o.owned grows current checked.1 is

-- Sums

-- A slot without a word adds nothing to a sum.
pub without_slot :
    (words : ℕ → Option Word) (slot : ℕ) → words slot ≡ None → (xs : List ℕ)
    → filter_map words (others slot xs) ≡ filter_map words xs
without_slot words slot none [] = refl
without_slot words slot none (x ∷ xs) = ⊎_elim
    (λ same.
    ap (filter_map words) (others-head_dropped slot x xs same)
    ∙ without_slot words slot none xs
    ∙ ap (λ (o : Option Word). cons_option o (filter_map words xs)) (sym (ap words same ∙ none)))
    (λ other.
    ap (filter_map words) (others-kept slot x xs other) ∙ ap (cons_option (words x)) (without_slot words slot none xs))
    (same_or_not x slot)

-- Sums of words with room have room.
cons_has_room :
    (o : Option Word) (ws : List Word) → ((w : Word) → o ≡ Some w → HasRoom w) → HasRoom (word_sum ws)
    → HasRoom (word_sum (cons_option o ws))
cons_has_room None ws room rest = rest
cons_has_room (Some w) ws room rest =
    length-zip2 bit_xor w.bytes (word_sum ws).bytes (room w refl ∙ sym rest) ∙ room w refl

sum_has_room :
    (words : ℕ → Option Word) → ((slot : ℕ) (w : Word) → words slot ≡ Some w → HasRoom w) → (xs : List ℕ)
    → HasRoom (sum_at words xs)
sum_has_room words room [] = length-replicate {A = ℕ} 1316 0
sum_has_room words room (x ∷ xs) = cons_has_room (words x) (filter_map words xs) (room x) (sum_has_room words room xs)

-- Two words whose XOR is the zero word are equal.
pub record XorLaws : Type 0 where
  pub commutes : XorCommutes
  pub associates : XorAssociates
  pub has_zero : XorHasZero
  pub undoes_itself : XorUndoesItself

xor_is_zero : XorLaws → (a b : Word) → HasRoom a → HasRoom b → word_xor a b ≡ zero_word → a ≡ b
xor_is_zero laws a b room room' is =
    sym (laws.has_zero a room)
    ∙ ap (word_xor a) (sym (laws.undoes_itself b room'))
    ∙ sym (laws.associates a b b)
    ∙ ap (λ (w : Word). word_xor w b) is
    ∙ laws.commutes zero_word b
    ∙ laws.has_zero b room'

-- Jobs

-- What a take tells is told afterwards.
pub taken_told :
    ToldIsReadBack → (job : JobState) (old new : Standing BoardState) → TakesTurn (take (Some job)) old new
    → WasTold (record { taken = new; job = job })
taken_told back job old new turn =
    let seen = seen_of turn.left in
    let all : map told_from new.told ≡ map told_from old.told ++ (seen ∷ told_of_job job) =
    ap (map told_from) turn.told_is
    ∙ map-append told_from old.told (map told_code (seen ∷ turn.told))
    ∙ ap (λ (ts : List Told). map told_from old.told ++ ts) (told_back back (seen ∷ turn.told) ∙ ap (λ (ts : List Told). seen ∷ ts) turn.tells) in
    subst (λ (ts : List Told). All (Contains ts) (told_of_job job)) (sym all)
    (All-weaker (Contains (told_of_job job)) (Contains (map told_from old.told ++ (seen ∷ told_of_job job)))
    (λ one c.
    Contains-append_right (map told_from old.told) (seen ∷ told_of_job job) one (Contains-there seen (told_of_job job) one c))
    (told_of_job job) (All-contains_itself (told_of_job job)))

module _
    (taken : TakenJob) (was : WasTold taken) (later : Standing BoardState) (goes_on : IsLater taken.taken later) where
  -- What a job tells its pass was told, and later still.
  job_still_told : (one : Told) → Contains (told_of_job taken.job) one → Contains (map told_from later.told) one
  job_still_told one c =
      still_told taken.taken later goes_on one
      (All-contains (Contains (map told_from taken.taken.told)) (told_of_job taken.job) one was c)

  equation_still_told : Contains (map told_from later.told) (equation_is taken.job.key.serial taken.job.equation)
  equation_still_told =
      job_still_told (equation_is taken.job.key.serial taken.job.equation)
      (Contains-here (equation_is taken.job.key.serial taken.job.equation)
      (map (λ entry. word_at taken.job.key.epoch entry.0 entry.1) (entries taken.job.inputs)))

  -- The word of a slot that has one.
  input_still_told :
      (slot : ℕ) → IsSome (get taken.job.inputs slot)
      → (known : Word) × (get taken.job.inputs slot ≡ Some known)
      × Contains (map told_from later.told) (word_at taken.job.key.epoch slot known)
  input_still_told slot some =
      let v = value_of (get taken.job.inputs slot) some in
      let tell : ℕ × Word → Told = λ entry. word_at taken.job.key.epoch entry.0 entry.1 in (
        v.0,
        v.1,
        job_still_told (word_at taken.job.key.epoch slot v.0)
            (Contains-there (equation_is taken.job.key.serial taken.job.equation) (map tell (entries taken.job.inputs))
            (word_at taken.job.key.epoch slot v.0)
            (Contains-map tell (entries taken.job.inputs) (slot, v.0) (entry_of_get taken.job.inputs slot v.0 v.1))),
      )

  -- So the word that a job's others give follows from what was told,
  pub job_worked :
      (slot : ℕ) (word : Word) → IsMissing (get taken.job.inputs) taken.job.equation (One slot) → word ≡ job_sum taken.job
      → IsWorked (map told_from later.told) taken.job.key taken.job.equation slot word
  job_worked slot word missing is = record {
    equation_told = equation_still_told;
    slot_is = missing.0;
    words = get taken.job.inputs;
    words_told = λ other c differs. input_still_told other (missing.2 other c differs);
    word_is = is ∙ ap (λ (ws : List Word). word_xor taken.job.equation.parity (word_sum ws))
        (sym (without_slot (get taken.job.inputs) slot missing.1 (slots taken.job.equation)));
  }

  -- and whether it comes out, where none is missing.
  pub job_checked :
      XorLaws → (comes : Bool) → IsComplete (get taken.job.inputs) taken.job.equation
      → (IsTrue comes ↔ (job_sum taken.job ≡ zero_word)) → HasRoom taken.job.equation.parity
      → ((slot : ℕ) (w : Word) → get taken.job.inputs slot ≡ Some w → HasRoom w)
      → IsChecked (map told_from later.told) taken.job.key taken.job.equation comes
  job_checked laws comes complete says room rooms = record {
    equation_told = equation_still_told;
    words = get taken.job.inputs;
    words_told = λ other c. input_still_told other (complete other c);
    zero_is = λ is.
        xor_is_zero laws taken.job.equation.parity (sum_at (get taken.job.inputs) (slots taken.job.equation)) room
        (sum_has_room (get taken.job.inputs) rooms (slots taken.job.equation)) (says.0 is);
  }

-- So it is with what a job answers as its word.
pub job_worked_by :
    {E : Type 0} (taken : TakenJob) → WasTold taken → (answer : Result Word E) → IfOk answer (λ word. word ≡ job_sum taken.job)
    → IfOk answer (λ word. (slot : ℕ) → IsMissing (get taken.job.inputs) taken.job.equation (One slot) → IsWorkedBy taken slot word)
job_worked_by taken was (Ok word) is = λ slot missing later goes_on.
    (taken.job.equation, job_worked taken was later goes_on slot word missing is)
job_worked_by taken was (Err error) is = is

-- What is brought may be brought, by who holds the job and by another one.
pub can_bring :
    (holds_job : Bool) (told : List Told) (key : Key) (slot : ℕ) (word : Word) (fate : Fate)
    → (equation : Equation) × IsWorked told key equation slot word → CanDo told (brings holds_job key slot word fate)
can_bring true told key slot word fate worked = worked
can_bring false told key slot word fate worked = worked

pub can_check :
    (holds_job : Bool) (told : List Told) (key : Key) (zero : Bool) (fate : Fate)
    → (equation : Equation) × IsChecked told key equation zero → CanDo told (checks holds_job key zero fate)
can_check true told key zero fate checked = checked
can_check false told key zero fate checked = checked
