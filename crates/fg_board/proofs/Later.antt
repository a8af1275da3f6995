-- Later standings of a pass, and what it finds there of what it was told.
use Rattle.std.proofs.Common.{◌≡◌, ◌==◌, ◌++◌, ◌∷◌, [], ℕ, List, map, Some, refl, sym, ap, subst, ◌∙◌, append-nil, append_assoc, ⊎_elim, eq-eqb}
use Rattle.std.proofs.lemmas.Bool.{cond-true}
use Rattle.std.proofs.lemmas.List.{map-append}
use Rattle.std.proofs.lemmas.List.Elements.{Contains-append_left}
use Rattle.std.specs.List.{Contains}
use Rattle.fg_words.specs.declared.Word.{Word}
use Rattle.fg_peel.specs.Equation.{Equation, slots}
use Rattle.fg_peel.proofs.Lists.{Contains-here, Contains-there}
use Rattle.fg_turn.specs.Standing.{Standing}
use Rattle.fg_core.specs.Board.{BoardState, IsHeld, Looks}
use Rattle.fg_core.specs.Codes.{Entry, told_code, told_from, ToldIsReadBack}
use Rattle.fg_core.specs.Core.{Event, publish, look, offer, with_told, CanDo, IsEvent}
use Rattle.fg_core.specs.Laws.{WordsOfEquationsAreFound}
use Rattle.fg_core.specs.Views.{Told, word_at, equation_is, seen_of, IsWorked}
use Rattle.fg_core.specs.declared.key.Key.{Key}
use Rattle.fg_core.specs.declared.fate.Fate.TheVariants.{Done}
use Rattle.fg_core.specs.declared.fate.Look.{Look}
use Rattle.fg_core.specs.declared.fate.Look.TheVariants as looked
use Rattle.fg_board.specs.Actors.{IsLater, TakesTurn}
use Rattle.fg_board.specs.Laws.{EachIsLater, TurnsGoOn, NoTurnsGoOn, TurnsAreOfTheCore, FindsOrIsGone, BroughtWordsAreFound}
use Rattle.fg_board.proofs.OneTurn.{owning, told_after, is_told}

pub each_is_later : EachIsLater
each_is_later standing = record { turn = refl; number = refl; told = ([], append-nil standing.told) }

-- A standing that has the same place and was told more.
goes_on :
    (first old new : Standing BoardState) (more : List Entry) → IsLater first old → new.turn ≡ old.turn
    → new.number ≡ old.number → new.told ≡ old.told ++ more → IsLater first new
goes_on first old new more later turn number told = record {
  turn = turn ∙ later.turn;
  number = number ∙ later.number;
  told = (
    later.told.0 ++ more,
    sym (append_assoc first.told later.told.0 more)
        ∙ ap (λ (entries : List Entry). entries ++ more) later.told.1
        ∙ sym told,
  );
}

pub turns_go_on : TurnsGoOn
turns_go_on event first old new later turn =
    goes_on first old new (map told_code (seen_of turn.left ∷ turn.told)) later turn.turn turn.number turn.told_is

pub no_turns_go_on : NoTurnsGoOn
no_turns_go_on first old new later turn =
    goes_on first old new [] later turn.turn turn.number (turn.told ∙ sym (append-nil old.told))

-- What was told is still told later.
pub still_told :
    (first later : Standing BoardState) → IsLater first later → (one : Told) → Contains (map told_from first.told) one
    → Contains (map told_from later.told) one
still_told first later on one c =
    subst (λ (ts : List Told). Contains ts one) (sym (map-append told_from first.told on.told.0) ∙ ap (map told_from) on.told.1)
    (Contains-append_left (map told_from first.told) (map told_from on.told.0) one c)

-- A turn is a step of the core.
pub turns_are_of_the_core : ToldIsReadBack → TurnsAreOfTheCore
turns_are_of_the_core back event old new turn world board view =
    let told = seen_of turn.left ∷ turn.told in
    let views = with_told world.views old.number told in (
      record world { board = turn.left; views = views },
      (
        turn.told,
        subst (λ (ts : List Told). CanDo ts event) (sym view) turn.can,
        subst (λ (b : BoardState). IsEvent b event turn.left) (sym board) turn.event_is,
        turn.tells,
        refl,
      ),
      refl,
      cond-true (old.number == old.number) (world.views old.number ++ told) (world.views old.number)
          (eq-eqb old.number old.number refl)
          ∙ ap (λ (ts : List Told). ts ++ told) view
          ∙ sym (told_after back old.told told)
          ∙ sym (ap (map told_from) turn.told_is),
    )

-- A word that was taken

-- It was told to its pass, and so was an equation with its slot.
record WasBrought (key : Key) (slot : ℕ) (word : Word) (new : Standing BoardState) : Type 0 where
  equation : Equation
  slot_is : Contains (slots equation) slot
  equation_told : Contains (map told_from new.told) (equation_is key.serial equation)
  word_told : Contains (map told_from new.told) (word_at key.epoch slot word)

was_brought :
    ToldIsReadBack → (event : Event) (key : Key) (slot : ℕ) (word : Word) (old new : Standing BoardState)
    → (turn : TakesTurn event old new) → (equation : Equation) × IsWorked (map told_from old.told) key equation slot word
    → turn.told ≡ word_at key.epoch slot word ∷ [] → WasBrought key slot word new
was_brought back event key slot word old new turn worked tells =
    let told = seen_of turn.left ∷ turn.told in
    let word_is = word_at key.epoch slot word in
    record {
      equation = worked.0;
      slot_is = worked.1.slot_is;
      equation_told = still_told old new (turns_go_on event old old new (each_is_later old) turn)
          (equation_is key.serial worked.0) worked.1.equation_told;
      word_told = subst (λ (entries : List Entry). Contains (map told_from entries) word_is) (sym turn.told_is)
          (is_told back old.told told word_is (Contains-there (seen_of turn.left) turn.told word_is
          (subst (λ (ts : List Told). Contains ts word_is) (sym tells) (Contains-here word_is []))));
    }

-- What a look answers that finds the word, as long as the equation is there.
finds_or_is_gone :
    (board new : BoardState) (key : Key) (slot : ℕ) (word : Word) (answer : Look) → Looks board key (Some slot) answer new
    → (IsHeld board key → answer ≡ looked.Known word) → FindsOrIsGone word answer
finds_or_is_gone board new key slot word (looked.Gone mark epoch) looks found = tt
finds_or_is_gone board new key slot word looked.Unknown looks found = let no = found looks.0 in absurd (cc)
finds_or_is_gone board new key slot word (looked.Known other) looks found = let is = found looks.0 in (cc)

brought_is_found :
    WordsOfEquationsAreFound → (key : Key) (slot : ℕ) (word : Word) (answer : Look) (new later last : Standing BoardState)
    → WasBrought key slot word new → IsLater new later → TakesTurn (look key (Some slot) answer) later last
    → FindsOrIsGone word answer
brought_is_found found key slot word answer new later last brought on turn =
    let o = owning last.calls turn.entered turn.owned in
    finds_or_is_gone turn.entered turn.left key slot word answer turn.event_is
    (found o.playout o.calls turn.entered turn.left (map told_from later.told) key brought.equation slot word answer
    o.owned turn.grows (still_told new later on (equation_is key.serial brought.equation) brought.equation_told)
    brought.slot_is (still_told new later on (word_at key.epoch slot word) brought.word_told) turn.event_is)

pub brought_words_are_found : WordsOfEquationsAreFound → ToldIsReadBack → BroughtWordsAreFound
brought_words_are_found found back key slot word answer old new later last taken on turn =
    brought_is_found found key slot word answer new later last
    (⊎_elim
    (λ published. was_brought back (publish key slot word Done) key slot word old new published published.can published.tells)
    (λ offered. was_brought back (offer key slot word Done) key slot word old new offered offered.can offered.tells)
    taken)
    on turn
