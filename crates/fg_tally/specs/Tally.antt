-- A tally as contracts see it, what is true of it whenever its lock is free, and what its calls do. This project's own.
use Rattle.std.specs.Prelude.{◌≡◌, ◌+◌, ◌≤◌, ◌↔◌, ℕ, Bool, List, [], ◌∷◌, Option, Some, None, IfSome, IsSomeAnd, IsTrue, IsSome, Result, Ok, Err, ⊤}
use Rattle.std.specs.List.{Contains}
use Rattle.std.specs.FinMap.{get}
use Rattle.std.specs.FinSet.{contains}
use Rattle.fg_words.specs.Word.{zero_word}
use Rattle.fg_shape.specs.Shape.{IsShape, position_limit}
use Rattle.fg_peel.specs.Equation.{slots}
use Rattle.fg_playout.specs.State.{Words, Live}
use Rattle.fg_turn.specs.Standing.{TurnId, Standing}
use Rattle.fg_core.specs.Board.{BoardState, JobState, IsCurrent, job_sum}
use Rattle.fg_core.specs.Core.{look, offer, attest}
use Rattle.fg_core.specs.declared.key.Key.{Key}
use Rattle.fg_core.specs.declared.fate.Fate.{Fate}
use Rattle.fg_core.specs.declared.fate.Look.{Look}
use Rattle.fg_core.specs.declared.fate.Look.TheVariants as looked
use Rattle.fg_board.specs.Actors.{TakesTurn, WasTold, AdmitterState}
use Rattle.fg_board.specs.Laws.{HaveRoom}
use Rattle.fg_tally.specs.Folding.{FoldingState, nothing_folded, with_folded, missing_of, Tells, Shows}
use Rattle.fg_tally.specs.declared.answers.Begun.{Begun}
use Rattle.fg_tally.specs.declared.answers.Begun.TheVariants as begun
use Rattle.fg_tally.specs.declared.answers.Folded.{Folded}
use Rattle.fg_tally.specs.declared.answers.Folded.TheVariants.{Stale, Unknown}
use Rattle.fg_tally.specs.declared.answers.Held.{Held}

-- A tally: which board it is of, how its pass stands, and what it holds.
pub record TallyState : Type 0 where
  pub board : TurnId
  pub pass : Standing BoardState
  pub held : Option FoldingState

-- What is true whenever its lock is free

-- The equation with a word at each folded slot, as a job.
abbrev pub job_with : FoldingState → Words → JobState
job_with state inputs = record { key = state.key; equation = state.equation; inputs = inputs }

-- What is held is a part of the sum of the key's equation. A pass that stands so was told the equation, and one word at each
-- folded slot, in the key's epoch; the remainder is the XOR of the parity word and these words.
pub record IsPartOfSum (pass : Standing BoardState) (state : FoldingState) : Type 0 where
  pub shape : IsShape state.equation.offset state.equation.count
  pub near : state.equation.base ≤ position_limit
  pub slots_are : (slot : ℕ) → IsTrue (contains state.folded slot) → Contains (slots state.equation) slot
  pub inputs : Words
  pub inputs_are : (slot : ℕ) → IsTrue (contains state.folded slot) ↔ IsSome (get inputs slot)
  pub told : WasTold (record { taken = pass; job = job_with state inputs })
  pub room : HaveRoom (job_with state inputs)
  pub remainder_is : state.remainder ≡ job_sum (job_with state inputs)

-- The pass is one of the tally's board, and what is held is a part of its equation's sum.
pub record IsTally (tally : TallyState) : Type 0 where
  pub pass : tally.pass.turn ≡ tally.board.name
  pub sum : IfSome tally.held (IsPartOfSum tally.pass)

-- Starts

-- A start asks for the key's equation by a look that gives no word.
abbrev pub asked_of : Begun → Look
asked_of begun.Held = looked.Unknown
asked_of (begun.Gone mark epoch) = looked.Gone mark epoch

-- On the board that was entered, the key's equation is the one that is held afterwards, with nothing folded. Where it is
-- gone, nothing is held.
abbrev pub Begins : BoardState → Key → Begun → Option FoldingState → Type 0
Begins board key begun.Held held =
    (live : Live) × IsCurrent board key live × (held ≡ Some (nothing_folded key live.equation))
Begins board key (begun.Gone mark epoch) held = held ≡ None

pub record Starts (old : TallyState) (key : Key) (answer : Begun) (new : TallyState) : Type 0 where
  pub board : new.board ≡ old.board
  pub turn : TakesTurn (look key None (asked_of answer)) old.pass new.pass
  pub begins : IsSomeAnd new.pass.entered (λ board. Begins board key answer new.held)

-- Folds

-- The key is the one held.
abbrev pub IsOf : Key → Option FoldingState → Type 0
IsOf key None = ⊥
IsOf key (Some state) = state.key ≡ key

-- The tally doesn't hold the key. Then it stays as it is, and the board isn't asked.
abbrev pub IsLeft : TallyState → Key → TallyState → Type 0
IsLeft old key new = (¬ IsOf key old.held) × (new ≡ old)

-- What is answered, and what is held afterwards, by what the board answered to a look at the slot.
abbrev pub Folds : FoldingState → ℕ → Look → Folded → FoldingState → Type 0
Folds old slot (looked.Known word) answer new = Tells new answer × (new ≡ with_folded old slot word)
Folds old slot looked.Unknown answer new = (answer ≡ Unknown) × (new ≡ old)
Folds old slot (looked.Gone mark epoch) answer new = (answer ≡ Stale) × (new ≡ old)

-- The tally holds the key: one look, by its pass.
pub record FoldsBy (old : TallyState) (key : Key) (slot : ℕ) (answer : Folded) (new : TallyState) : Type 0 where
  pub state : FoldingState
  pub state_is : old.held ≡ Some state
  pub key_is : state.key ≡ key
  pub looked : Look
  pub turn : TakesTurn (look key (Some slot) looked) old.pass new.pass
  pub after : FoldingState
  pub after_is : new ≡ record old { pass = new.pass; held = Some after }
  pub folds : Folds state slot looked answer after

-- Settles

-- One slot is missing, and the remainder is offered for it; none is, and it is attested whether the remainder is zero; or
-- more are, and nothing is done. Want of memory is answered in the first case alone, and takes no turn.
abbrev pub Settles : {E : Type 0} → FoldingState → List ℕ → Result (Option Fate) E → Standing BoardState → Standing BoardState → Type 0
Settles state [] (Ok (Some fate)) old new =
    (comes_out : Bool) × (IsTrue comes_out ↔ (state.remainder ≡ zero_word))
    × TakesTurn (attest state.key comes_out fate) old new
Settles state (slot ∷ []) (Ok (Some fate)) old new = TakesTurn (offer state.key slot state.remainder fate) old new
Settles state (slot ∷ []) (Err error) old new = new ≡ old
Settles state (slot ∷ other ∷ others) (Ok None) old new = new ≡ old
Settles state _ _ old new = ⊥

-- The tally holds the key, and holds afterwards what it held.
pub record SettlesBy {E : Type 0} (old : TallyState) (key : Key) (answer : Result (Option Fate) E) (new : TallyState) : Type 0 where
  pub state : FoldingState
  pub state_is : old.held ≡ Some state
  pub key_is : state.key ≡ key
  pub after_is : new ≡ record old { pass = new.pass }
  pub settles : Settles state (missing_of state) answer old.pass new.pass

-- What is held is shown, and nothing where nothing is.
abbrev pub ShowsHeld : Option FoldingState → Option Held → Type 0
ShowsHeld None None = ⊤
ShowsHeld (Some state) (Some held) = Shows state held
ShowsHeld _ _ = ⊥

-- An admitter that has made so many passes more.
abbrev pub with_passes : AdmitterState → ℕ → AdmitterState
with_passes admitter count = record admitter {
  seat = record admitter.seat { made = admitter.seat.made + count; seated = admitter.seat.seated + count };
}
