-- The laws of the core: whatever passes do, the admitter's calls make of the board what they make of a desk of its own.
use Rattle.std.specs.Prelude.{◌≡◌, ◌≤◌, ◌+◌, ℕ, Bool, List, [], ◌∷◌, ◌++◌, Some, None, IsTrue}
use Rattle.std.specs.List.{Contains}
use Rattle.fg_words.specs.declared.Word.{Word}
use Rattle.fg_shape.specs.Playout.{Playout}
use Rattle.fg_peel.specs.Equation.{Equation, slots, IsSettled}
use Rattle.fg_playout.specs.State.{State, Live, opening}
use Rattle.fg_desk.specs.Contents.{CanFill, known_in}
use Rattle.fg_core.specs.Board.{BoardState, IsCurrent, IsHeld, Looks, opened_board}
use Rattle.fg_core.specs.Views.{Told, word_at, equation_is, Grows, seen_of, IsWorked, IsChecked}
use Rattle.fg_core.specs.Core.{Call, Event, World, Turn, opened_world, IsOwned, CanCall, IsCall, CanDo, IsEvent, Tells, IsRun, AreCallsOn}
use Rattle.fg_core.specs.declared.key.Key.{Key}
use Rattle.fg_core.specs.declared.fate.Look.{Look}
use Rattle.fg_core.specs.declared.fate.Look.TheVariants as looked

-- A new board is what no calls make of it.
abbrev pub OpeningIsOwned : Type 0
OpeningIsOwned =
    (playout : Playout) → 1 ≤ playout.window → playout.window ≤ 100 → playout.window ≤ playout.depth
    → IsOwned playout [] (opened_board playout)

-- A call of the admitter extends its calls, and keeps what was told.

abbrev pub CallsExtend : Type 0
CallsExtend =
    (playout : Playout) (calls : List Call) (call : Call) (old new : BoardState) → IsOwned playout calls old
    → CanCall old call → IsCall old call new → IsOwned playout (calls ++ call ∷ []) new

abbrev pub CallsKeepTold : Type 0
CallsKeepTold =
    (playout : Playout) (calls : List Call) (call : Call) (old new : BoardState) (told : List Told)
    → IsOwned playout calls old → CanCall old call → IsCall old call new → Grows told old → Grows told new

-- An event of a pass keeps what the admitter's calls make of the board, if the pass may rest on what it was told.

abbrev pub EventsKeepOwned : Type 0
EventsKeepOwned =
    (playout : Playout) (calls : List Call) (event : Event) (old new : BoardState) (told : List Told)
    → IsOwned playout calls old → Grows told old → CanDo told event → IsEvent old event new
    → IsOwned playout calls new

-- It keeps what anybody was told.
abbrev pub EventsKeepTold : Type 0
EventsKeepTold =
    (playout : Playout) (calls : List Call) (event : Event) (old new : BoardState) (told others : List Told)
    → IsOwned playout calls old → Grows told old → CanDo told event → IsEvent old event new
    → Grows others old → Grows others new

-- It changes nothing of the desk that plays and replies go by.
abbrev pub EventsLeaveTheState : Type 0
EventsLeaveTheState =
    (event : Event) (old new : BoardState) → IsEvent old event new
    → (new.desk.state ≡ old.desk.state) × (new.desk.epoch ≡ old.desk.epoch)

-- What its answer tells holds.
abbrev pub AnswersHold : Type 0
AnswersHold =
    (playout : Playout) (calls : List Call) (event : Event) (old new : BoardState) (told : List Told)
    → IsOwned playout calls old → IsEvent old event new → Tells new event told → Grows (seen_of new ∷ told) new

-- The law of the core. After every run the board is what the admitter's calls make of it, and each view holds.
abbrev pub CoreHolds : Type 0
CoreHolds =
    (playout : Playout) (turns : List Turn) (world : World)
    → 1 ≤ playout.window → playout.window ≤ 100 → playout.window ≤ playout.depth
    → IsRun (opened_world playout) turns world
    → IsOwned playout world.calls world.board × Grows world.own world.board
    × ((pass : ℕ) → Grows (world.views pass) world.board)

-- Later turns change nothing of the admitter's calls before them: what was replied and shown stays, and so does the desk
-- over which it was.
abbrev pub LaterTurnsKeepCalls : Type 0
LaterTurnsKeepCalls =
    (playout : Playout) (earlier later : List Turn) (new : World) → IsRun (opened_world playout) (earlier ++ later) new
    → (between : World) × (calls : List Call) × IsRun (opened_world playout) earlier between
    × IsRun between later new × (new.calls ≡ between.calls ++ calls)
    × AreCallsOn (opening playout) between.calls between.board.desk.state
    × AreCallsOn between.board.desk.state calls new.board.desk.state

-- Who was told a word of a slot of a live equation, in the epoch of its key, finds it there as long as the key isn't gone.
abbrev pub ToldWordsAreFound : Type 0
ToldWordsAreFound =
    (playout : Playout) (calls : List Call) (board new : BoardState) (told : List Told) (key : Key) (slot : ℕ) (word : Word)
    (answer : Look)
    → IsOwned playout calls board → Grows told board → Contains told (word_at key.epoch slot word)
    → board.desk.state.mark ≤ slot + 100 → Looks board key (Some slot) answer new → IsHeld board key
    → answer ≡ looked.Known word

-- So does who was told the key's equation and, in the epoch of the key, a word of one of its slots, wherever the mark is.
abbrev pub WordsOfEquationsAreFound : Type 0
WordsOfEquationsAreFound =
    (playout : Playout) (calls : List Call) (board new : BoardState) (told : List Told) (key : Key) (equation : Equation)
    (slot : ℕ) (word : Word) (answer : Look)
    → IsOwned playout calls board → Grows told board → Contains told (equation_is key.serial equation)
    → Contains (slots equation) slot → Contains told (word_at key.epoch slot word)
    → Looks board key (Some slot) answer new → IsHeld board key → answer ≡ looked.Known word

-- What follows from what a pass was told follows from a board that has grown from it, as long as the key isn't gone: a
-- word is one that the equation gives at the one slot where none is known,
abbrev pub WorkedWordsFollow : Type 0
WorkedWordsFollow =
    (playout : Playout) (calls : List Call) (board : BoardState) (told : List Told) (key : Key) (live : Live)
    (equation : Equation) (slot : ℕ) (word : Word)
    → IsOwned playout calls board → Grows told board → IsCurrent board key live
    → IsWorked told key equation slot word → known_in board.desk slot ≡ None → CanFill board.desk live.equation slot word

-- and an equation that was found to come out does so by the words known at its slots.
abbrev pub CheckedComeOut : Type 0
CheckedComeOut =
    (playout : Playout) (calls : List Call) (board : BoardState) (told : List Told) (key : Key) (live : Live)
    (equation : Equation) (zero : Bool)
    → IsOwned playout calls board → Grows told board → IsCurrent board key live
    → IsChecked told key equation zero → IsTrue zero → IsSettled (known_in board.desk) live.equation

-- The admitter's calls and their answers make one desk.
abbrev pub CallsMakeOneDesk : Type 0
CallsMakeOneDesk =
    (playout : Playout) (calls : List Call) (one other : State)
    → 1 ≤ playout.window → playout.window ≤ 100 → playout.window ≤ playout.depth
    → AreCallsOn (opening playout) calls one → AreCallsOn (opening playout) calls other → one ≡ other
