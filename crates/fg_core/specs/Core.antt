-- The core events of a board, the calls of its admitter, and runs of the core. This project's own.
use Rattle.std.specs.Prelude.{◌≡◌, ◌≢◌, ◌≤◌, ◌==◌, ⊤, ℕ, Bool, true, List, [], ◌∷◌, ◌++◌, length, Option, Some, None, IsSome, if◌then◌else◌}
use Rattle.std.specs.List.{All}
use Rattle.std.specs.FinMap.{get}
use Rattle.std.specs.FinSet.{contains}
use Rattle.fg_words.specs.declared.Word.{Word}
use Rattle.fg_words.specs.Word.{IsMedia}
use Rattle.fg_shape.specs.Shape.{IsShape}
use Rattle.fg_shape.specs.Playout.{Playout}
use Rattle.fg_peel.specs.Equation.{Equation, IsSettled}
use Rattle.fg_playout.specs.declared.reply.Reply.{Reply}
use Rattle.fg_desk.specs.declared.desk.Played.{Played}
use Rattle.fg_playout.specs.State.{State, Live, opening}
use Rattle.fg_playout.specs.Admission.{Parity, AdmitsMedia, AdmitsParity, IsDue, IsFresh}
use Rattle.fg_playout.specs.Room.{HasRoom}
use Rattle.fg_desk.specs.Contents.{AreSolved, known_in}
use Rattle.fg_playout.specs.Facts.{Holds}
use Rattle.fg_playout.specs.Play.{Play, Shown, IsPlay, Flushes, HasMore}
use Rattle.fg_playout.specs.Held.{IsHeldStep}
use Rattle.fg_core.specs.Board.{BoardState, JobState, IsLive, opened_board, GivesKey, AdmitsMediaOn, AdmitsParityOn, PlaysOn, FlushesOn, PlaysHeldOn, Takes, Publishes, Offers, Vouches, Attests, GivesBack, Looks}
use Rattle.fg_core.specs.Skipping.{Passes, PassesOn}
use Rattle.fg_core.specs.Views.{Told, word_at, equation_is, seen_of, IsWorked, IsChecked, told_of_job}
use Rattle.fg_core.specs.declared.key.Key.{Key}
use Rattle.fg_core.specs.declared.fate.Fate.{Fate}
use Rattle.fg_core.specs.declared.fate.Fate.TheVariants.{Done, Beaten, Gone}
use Rattle.fg_core.specs.declared.fate.Look.{Look}
use Rattle.fg_core.specs.declared.fate.Look.TheVariants as looked

-- The admitter's calls

-- A call of the admitter, with its arguments and its answer: a media datagram of a sequence number and an SSRC, a parity
-- datagram, a play, a flush step, a held step at a time; and how many windows that show nothing were passed at once, at a time
-- where one is told.
pub data Call : Type 0 where
  media : ℕ → ℕ → Word → Reply → Call
  parity : Parity → Reply → Option Key → Call
  play : Played → Call
  flush : Option Played → Call
  held : ℕ → Option Played → Call
  skip : Option ℕ → ℕ → Call

-- A play, as its answer and what it shows tell it.
abbrev pub play_of : Played → List Shown → Play
play_of played shown = record { first = played.first; shown = shown; outcome = played.verdict }

abbrev pub CountIs : Played → List Shown → Type 0
CountIs played shown = played.count ≡ length shown

-- What a call makes of a desk that nobody else touches.
abbrev pub IsCallOn : State → Call → State → Type 0
IsCallOn old (media seq ssrc word reply) new = AdmitsMedia old seq ssrc word reply new
IsCallOn old (parity given reply key) new = AdmitsParity old given reply new × GivesKey old reply key new
IsCallOn old (play played) new =
    (shown : List Shown) × IsPlay old.playout.window old (play_of played shown) new × CountIs played shown
IsCallOn old (flush None) new = Flushes old None new
IsCallOn old (flush (Some played)) new =
    (shown : List Shown) × Flushes old (Some (play_of played shown)) new × CountIs played shown
IsCallOn old (held time None) new = IsHeldStep old time None new
IsCallOn old (held time (Some played)) new =
    (shown : List Shown) × IsHeldStep old time (Some (play_of played shown)) new × CountIs played shown
IsCallOn old (skip time count) new = Passes time count old new

-- The conditions of a call. A datagram of a fresh SSRC begins a run, so nothing may be left to be shown. Held steps are made where
-- a word may not wait for ever, and windows are passed within a run.
abbrev pub CanCallOn : State → Call → Type 0
CanCallOn desk (media seq ssrc word reply) =
    HasRoom desk × (¬ IsDue desk seq ssrc) × (IsFresh desk ssrc → ¬ HasMore desk) × IsMedia word
CanCallOn desk (parity given reply key) = HasRoom desk × IsShape given.offset given.count
CanCallOn desk (play played) = HasRoom desk × IsSome desk.top
CanCallOn desk (flush played) = HasRoom desk
CanCallOn desk (held time played) = HasRoom desk × (desk.playout.hold ≢ 0)
CanCallOn desk (skip time count) = IsSome desk.top

-- What calls make of it one after another, each where its conditions are met.
abbrev pub AreCallsOn : State → List Call → State → Type 0
AreCallsOn old [] new = new ≡ old
AreCallsOn old (call ∷ calls) new =
    (next : State) × (CanCallOn old call × IsCallOn old call next) × AreCallsOn next calls new

-- The key that a call gave was not given in a later epoch.
abbrev pub KeyIsOf : ℕ → Call → Type 0
KeyIsOf epoch (media seq ssrc word reply) = ⊤
KeyIsOf epoch (parity given reply None) = ⊤
KeyIsOf epoch (parity given reply (Some key)) = key.epoch ≤ epoch
KeyIsOf epoch (play played) = ⊤
KeyIsOf epoch (flush played) = ⊤
KeyIsOf epoch (held time played) = ⊤
KeyIsOf epoch (skip time count) = ⊤

-- What the admitter's calls make of a board, whatever passes did between them.
pub record IsOwned (playout : Playout) (calls : List Call) (board : BoardState) : Type 0 where
  -- The desk is the one that the calls make of an empty one, with these answers.
  pub desk : AreCallsOn (opening playout) calls board.desk.state
  pub facts : Holds board.desk.state
  -- What is solved is a peeling of it.
  pub solved : AreSolved board.desk
  -- Each equation that was vouched for is live, its slots all have words, and it comes out.
  pub vouched :
      (serial : ℕ) → contains board.vouched serial ≡ true
      → (live : Live) × IsLive board serial live × IsSettled (known_in board.desk) live.equation
  pub handed_out : (serial : ℕ) → contains board.handed_out serial ≡ true → IsSome (get board.desk.state.equations serial)
  pub bare : (position : ℕ) → contains board.desk.bare position ≡ true → IsSome (get board.desk.state.kept position)
  pub keys : All (KeyIsOf board.desk.epoch) calls
  pub epoch : board.desk.epoch ≤ length calls

-- A call's conditions are those on the desk.
abbrev pub CanCall : BoardState → Call → Type 0
CanCall board = CanCallOn board.desk.state

-- What a call does to a board.
abbrev pub IsCall : BoardState → Call → BoardState → Type 0
IsCall old (media seq ssrc word reply) new = AdmitsMediaOn old seq ssrc word reply new
IsCall old (parity given reply key) new = AdmitsParityOn old given reply key new
IsCall old (play played) new =
    (shown : List Shown) × PlaysOn old (play_of played shown) new × CountIs played shown
IsCall old (flush None) new = FlushesOn old None new
IsCall old (flush (Some played)) new =
    (shown : List Shown) × FlushesOn old (Some (play_of played shown)) new × CountIs played shown
IsCall old (held time None) new = PlaysHeldOn old time None new
IsCall old (held time (Some played)) new =
    (shown : List Shown) × PlaysHeldOn old time (Some (play_of played shown)) new × CountIs played shown
IsCall old (skip time count) new = PassesOn old time count new

-- The passes' events

-- An event of a pass, with its arguments and its answer.
pub data Event : Type 0 where
  take : Option JobState → Event
  publish : Key → ℕ → Word → Fate → Event
  vouch : Key → Bool → Fate → Event
  give_back : Key → Fate → Event
  look : Key → Option ℕ → Look → Event
  offer : Key → ℕ → Word → Fate → Event
  attest : Key → Bool → Fate → Event

-- The conditions of an event, for who was told this. What is brought follows from what was told.
abbrev pub CanDo : List Told → Event → Type 0
CanDo told (take job) = ⊤
CanDo told (publish key slot word fate) = (equation : Equation) × IsWorked told key equation slot word
CanDo told (vouch key zero fate) = (equation : Equation) × IsChecked told key equation zero
CanDo told (give_back key fate) = ⊤
CanDo told (look key slot answer) = ⊤
CanDo told (offer key slot word fate) = (equation : Equation) × IsWorked told key equation slot word
CanDo told (attest key zero fate) = (equation : Equation) × IsChecked told key equation zero

-- What an event does to a board.
abbrev pub IsEvent : BoardState → Event → BoardState → Type 0
IsEvent old (take job) new = Takes old job new
IsEvent old (publish key slot word fate) new = Publishes old key slot word fate new
IsEvent old (vouch key zero fate) new = Vouches old key zero fate new
IsEvent old (give_back key fate) new = GivesBack old key fate new
IsEvent old (look key slot answer) new = Looks old key slot answer new
IsEvent old (offer key slot word fate) new = Offers old key slot word fate new
IsEvent old (attest key zero fate) new = Attests old key zero fate new

-- What an answer tells beside the three numbers: a job its equation and its words, a look the key's equation and the
-- word that it gives, and a word that was taken itself.
abbrev pub told_of_fate : Key → ℕ → Word → Fate → List Told
told_of_fate key slot word Done = word_at key.epoch slot word ∷ []
told_of_fate key slot word (Beaten other) = []
told_of_fate key slot word (Gone mark epoch) = []

abbrev pub TellsOfLook : BoardState → Key → Option ℕ → Look → List Told → Type 0
TellsOfLook board key slot (looked.Gone mark epoch) told = told ≡ []
TellsOfLook board key slot looked.Unknown told =
    (live : Live) × IsLive board key.serial live × (told ≡ equation_is key.serial live.equation ∷ [])
TellsOfLook board key None (looked.Known word) told = ⊥
TellsOfLook board key (Some slot) (looked.Known word) told =
    (live : Live) × IsLive board key.serial live
    × (told ≡ equation_is key.serial live.equation ∷ word_at key.epoch slot word ∷ [])

abbrev pub Tells : BoardState → Event → List Told → Type 0
Tells new (take None) told = told ≡ []
Tells new (take (Some job)) told = told ≡ told_of_job job
Tells new (publish key slot word fate) told = told ≡ told_of_fate key slot word fate
Tells new (vouch key zero fate) told = told ≡ []
Tells new (give_back key fate) told = told ≡ []
Tells new (look key slot answer) told = TellsOfLook new key slot answer told
Tells new (offer key slot word fate) told = told ≡ told_of_fate key slot word fate
Tells new (attest key zero fate) told = told ≡ []

-- Runs of the core

-- A world: a board, the admitter's calls so far and what it was told, and what each pass was told.
pub record World : Type 0 where
  pub board : BoardState
  pub calls : List Call
  pub own : List Told
  pub views : ℕ → List Told

abbrev pub opened_world : Playout → World
opened_world playout =
    record { board = opened_board playout; calls = []; own = []; views = λ number. [] }

-- What one pass was told more.
abbrev pub with_told : (ℕ → List Told) → ℕ → List Told → ℕ → List Told
with_told views pass told other = (if other == pass then views other ++ told else views other)

-- One turn: a call of the admitter, or an event of a pass.
pub data Turn : Type 0 where
  admitter : Call → Turn
  pass : ℕ → Event → Turn

abbrev pub IsTurn : World → Turn → World → Type 0
IsTurn old (admitter call) new =
    CanCall old.board call × IsCall old.board call new.board
    × (new ≡ record old {
      board = new.board;
      calls = old.calls ++ call ∷ [];
      own = old.own ++ seen_of new.board ∷ [];
    })
IsTurn old (pass number event) new =
    (told : List Told) × CanDo (old.views number) event × IsEvent old.board event new.board
    × Tells new.board event told
    × (new ≡ record old { board = new.board; views = with_told old.views number (seen_of new.board ∷ told) })

-- A run of the core: turns of anybody, one after another.
abbrev pub IsRun : World → List Turn → World → Type 0
IsRun old [] new = new ≡ old
IsRun old (turn ∷ turns) new = (next : World) × IsTurn old turn next × IsRun next turns new
