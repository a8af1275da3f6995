-- The state of a board, and what each event does to it and answers. This project's own.
use Rattle.std.specs.Prelude.{◌≡◌, ◌⊎◌, ◌≤◌, ◌↔◌, ℕ, Bool, true, false, Option, Some, None, IsSome, IfSome, IsTrue, ⊤, if◌then◌else◌}
use Rattle.std.specs.List.{Contains}
use Rattle.std.specs.Ordering.{nat_cmp}
use Rattle.std.specs.FinMap.{get}
use Rattle.std.specs.FinSet.{FinSet, contains, insert, remove, empty}
use Rattle.fg_words.specs.declared.Word.{Word}
use Rattle.fg_words.specs.Word.{word_xor}
use Rattle.fg_shape.specs.declared.Shape.{Shape}
use Rattle.fg_shape.specs.Shape.{IsShape, position_limit}
use Rattle.fg_shape.specs.Playout.{Playout}
use Rattle.fg_peel.specs.declared.span.Missing.TheVariants.{One}
use Rattle.fg_peel.specs.Equation.{Equation, slots, sum_at, IsComplete}
use Rattle.fg_peel.specs.Slots.{IsMissing}
use Rattle.fg_playout.specs.declared.reply.Reply.{Reply}
use Rattle.fg_playout.specs.declared.reply.Reply.TheVariants as reply
use Rattle.fg_playout.specs.State.{State, Live, Words}
use Rattle.fg_playout.specs.Admission.{Parity, AdmitsMedia, AdmitsParity}
use Rattle.fg_desk.specs.Contents.{Contents, opened, known_in, filled, IsAfterArrival, ChangesInPlay}
use Rattle.fg_playout.specs.Play.{Play, IsPlay, IsFlushStep, Flushes}
use Rattle.fg_playout.specs.Held.{IsHeldStep}
use Rattle.fg_core.specs.declared.key.Key.{Key}
use Rattle.fg_core.specs.declared.fate.Fate.{Fate}
use Rattle.fg_core.specs.declared.fate.Fate.TheVariants.{Done, Beaten, Gone}
use Rattle.fg_core.specs.declared.fate.Look.{Look}
use Rattle.fg_core.specs.declared.fate.Look.TheVariants as looked
use Rattle.fg_core.specs.declared.fate.Seen.{Seen}
use Rattle.fg_core.specs.declared.fate.Seen.TheVariants as seen
use Rattle.fg_core.specs.declared.fate.Asked.{Asked}
use Rattle.fg_core.specs.declared.fate.Asked.TheVariants as asked

-- A board: its desk, and which live equations were found to come out, and which are handed out, by their serial numbers.
pub record BoardState : Type 0 where
  pub desk : Contents
  pub vouched : FinSet nat_cmp
  pub handed_out : FinSet nat_cmp

-- A board at first.
abbrev pub opened_board : Playout → BoardState
opened_board playout = record { desk = opened playout; vouched = empty; handed_out = empty }

-- The first position that isn't played yet.
abbrev pub mark_of : BoardState → ℕ
mark_of board = board.desk.state.mark

-- An equation is live under a serial number.
abbrev pub IsLive : BoardState → ℕ → Live → Type 0
IsLive board serial live = get board.desk.state.equations serial ≡ Some live

-- Keys

-- The key's equation is live, and no solved word was withdrawn since the key was given.
pub record IsCurrent (board : BoardState) (key : Key) (live : Live) : Type 0 where
  pub live_is : IsLive board key.serial live
  pub place_is : live.place ≡ key.place
  pub epoch_is : key.epoch ≡ board.desk.epoch

-- There is such an equation, or none.
abbrev pub IsHeld : BoardState → Key → Type 0
IsHeld board key = (live : Live) × IsCurrent board key live

abbrev pub IsGone : BoardState → Key → Type 0
IsGone board key = (live : Live) → ¬ IsCurrent board key live

-- The notes that stay: those of equations that are still live, and none where the epoch rose.
abbrev pub AreNotesAfter : BoardState → BoardState → FinSet nat_cmp → FinSet nat_cmp → Type 0
AreNotesAfter old new notes notes' =
    (serial : ℕ) → IsTrue (contains notes' serial)
    ↔ (IsTrue (contains notes serial) × (new.desk.epoch ≡ old.desk.epoch)
    × IsSome (get new.desk.state.equations serial))

pub record KeepsNotes (old new : BoardState) : Type 0 where
  pub vouched : AreNotesAfter old new old.vouched new.vouched
  pub handed_out : AreNotesAfter old new old.handed_out new.handed_out

-- What the admitter does

-- It admits a media datagram.
pub record AdmitsMediaOn (old : BoardState) (seq ssrc : ℕ) (word : Word) (reply : Reply) (new : BoardState) : Type 0 where
  pub state : AdmitsMedia old.desk.state seq ssrc word reply new.desk.state
  pub solved : IsAfterArrival old.desk seq ssrc word reply new.desk
  pub notes : KeepsNotes old new

-- A key is given with an equation that is admitted, and with no other reply: of its serial number and its place.
abbrev pub GivesKey : State → Reply → Option Key → State → Type 0
GivesKey old reply.Admitted None new = ⊥
GivesKey old reply.Admitted (Some key) new =
    (key.serial ≡ old.admitted)
    × ((live : Live) × (get new.equations key.serial ≡ Some live) × (live.place ≡ key.place))
GivesKey old _ None new = ⊤
GivesKey old _ (Some key) new = ⊥

-- It admits a parity datagram.
pub record AdmitsParityOn (old : BoardState) (parity : Parity) (reply : Reply) (key : Option Key) (new : BoardState) : Type 0 where
  pub state : AdmitsParity old.desk.state parity reply new.desk.state
  pub solved : new.desk ≡ record old.desk { state = new.desk.state }
  pub key_is : GivesKey old.desk.state reply key new.desk.state
  pub key_epoch : IfSome key (λ key. key.epoch ≡ new.desk.epoch)
  pub notes : KeepsNotes old new

-- It plays a window.
pub record PlaysOn (old : BoardState) (play : Play) (new : BoardState) : Type 0 where
  pub state : IsPlay old.desk.state.playout.window old.desk.state play new.desk.state
  pub changes : ChangesInPlay play.outcome old.desk new.desk
  pub notes : KeepsNotes old new

-- It makes a flush step, where one is defined.
abbrev pub FlushesOn : BoardState → Option Play → BoardState → Type 0
FlushesOn old None new =
    Flushes old.desk.state None new.desk.state × (new.desk ≡ record old.desk { state = new.desk.state })
    × KeepsNotes old new
FlushesOn old (Some play) new =
    IsFlushStep old.desk.state play new.desk.state × ChangesInPlay play.outcome old.desk new.desk × KeepsNotes old new

-- It tells the desk a time, and makes a held play, where one is defined.
abbrev pub PlaysHeldOn : BoardState → ℕ → Option Play → BoardState → Type 0
PlaysHeldOn old time None new =
    IsHeldStep old.desk.state time None new.desk.state × (new.desk ≡ record old.desk { state = new.desk.state })
    × KeepsNotes old new
PlaysHeldOn old time (Some play) new =
    IsHeldStep old.desk.state time (Some play) new.desk.state × ChangesInPlay play.outcome old.desk new.desk
    × KeepsNotes old new

-- What passes do

-- An equation is open: live and not handed out, with a share at each slot that has a word, and either one slot has none
-- or all have one and it wasn't found to come out.
pub record IsOpen (board : BoardState) (serial : ℕ) (live : Live) : Type 0 where
  pub live_is : IsLive board serial live
  pub free : contains board.handed_out serial ≡ false
  pub shared : (slot : ℕ) → Contains (slots live.equation) slot → contains board.desk.bare slot ≡ false
  pub work :
      ((slot : ℕ) × IsMissing (known_in board.desk) live.equation (One slot))
      ⊎ (IsComplete (known_in board.desk) live.equation × (contains board.vouched serial ≡ false))

-- Each live equation that was found to come out has words at all its slots. So it isn't open.
abbrev pub VouchedAreComplete : BoardState → Type 0
VouchedAreComplete board =
    (serial : ℕ) (live : Live) → IsLive board serial live → contains board.vouched serial ≡ true
    → IsComplete (known_in board.desk) live.equation

-- A job: an equation that is handed out, with the words known at its slots.
pub record JobState : Type 0 where
  pub key : Key
  pub equation : Equation
  pub inputs : Words

-- The XOR of its parity word and its inputs.
abbrev pub job_sum : JobState → Word
job_sum job = word_xor job.equation.parity (sum_at (get job.inputs) (slots job.equation))

-- It is the job of a live equation.
pub record IsJobOf (board : BoardState) (live : Live) (job : JobState) : Type 0 where
  pub current : IsCurrent board job.key live
  pub equation_is : job.equation ≡ live.equation
  pub inputs_are : (slot : ℕ) → Contains (slots live.equation) slot → get job.inputs slot ≡ known_in board.desk slot
  pub only : (slot : ℕ) → IsSome (get job.inputs slot) → Contains (slots live.equation) slot

-- A take gives the job of the open equation of the least serial number, and none exactly where none is open.
abbrev pub Takes : BoardState → Option JobState → BoardState → Type 0
Takes old None new = ((serial : ℕ) (live : Live) → ¬ IsOpen old serial live) × (new ≡ old)
Takes old (Some job) new =
    ((live : Live) × IsOpen old job.key.serial live × IsJobOf old live job)
    × ((serial : ℕ) (live : Live) → IsOpen old serial live → job.key.serial ≤ serial)
    × (new ≡ record old { handed_out = insert old.handed_out job.key.serial })

-- An answer that the key's equation is gone, with the mark and the epoch of the board.
pub record TellsGone (old : BoardState) (key : Key) (mark epoch : ℕ) (new : BoardState) : Type 0 where
  pub gone : IsGone old key
  pub mark_is : mark ≡ mark_of old
  pub epoch_is : epoch ≡ old.desk.epoch
  pub same : new ≡ old

-- The board with one more solved word, and with one more equation that was found to come out.
abbrev pub with_word : BoardState → ℕ → Word → BoardState
with_word board slot word = record board { desk = filled board.desk slot word }

abbrev pub with_vouched : BoardState → ℕ → BoardState
with_vouched board serial = record board { vouched = insert board.vouched serial }

-- The board after an equation that was handed out is given back.
abbrev pub with_back : BoardState → ℕ → BoardState
with_back board serial = record board { handed_out = remove board.handed_out serial }

-- A word is offered for a slot of the key's equation.
abbrev pub Offers : BoardState → Key → ℕ → Word → Fate → BoardState → Type 0
Offers old key slot word (Gone mark epoch) new = TellsGone old key mark epoch new
Offers old key slot word (Beaten other) new =
    IsHeld old key × (other ≡ slot) × IsSome (known_in old.desk slot) × (new ≡ old)
Offers old key slot word Done new =
    IsHeld old key × (known_in old.desk slot ≡ None) × (new ≡ with_word old slot word)

-- It is published by who holds the job. Then the equation is handed out no more.
abbrev pub Publishes : BoardState → Key → ℕ → Word → Fate → BoardState → Type 0
Publishes old key slot word (Gone mark epoch) new = Offers old key slot word (Gone mark epoch) new
Publishes old key slot word (Beaten other) new =
    (offered : BoardState) × Offers old key slot word (Beaten other) offered × (new ≡ with_back offered key.serial)
Publishes old key slot word Done new =
    (offered : BoardState) × Offers old key slot word Done offered × (new ≡ with_back offered key.serial)

-- It is attested that the key's equation comes out, or that it doesn't.
abbrev pub Attests : BoardState → Key → Bool → Fate → BoardState → Type 0
Attests old key zero (Gone mark epoch) new = TellsGone old key mark epoch new
Attests old key zero (Beaten other) new = ⊥
Attests old key zero Done new =
    IsHeld old key × (new ≡ (if zero then with_vouched old key.serial else old))

-- It is vouched by who holds the job. An equation that comes out is handed out no more. One that doesn't stays so.
abbrev pub Vouches : BoardState → Key → Bool → Fate → BoardState → Type 0
Vouches old key zero (Gone mark epoch) new = TellsGone old key mark epoch new
Vouches old key zero (Beaten other) new = ⊥
Vouches old key zero Done new =
    IsHeld old key
    × (new ≡ (if zero then with_back (with_vouched old key.serial) key.serial else old))

-- A job is given back.
abbrev pub GivesBack : BoardState → Key → Fate → BoardState → Type 0
GivesBack old key (Gone mark epoch) new = TellsGone old key mark epoch new
GivesBack old key (Beaten other) new = ⊥
GivesBack old key Done new = IsHeld old key × (new ≡ with_back old key.serial)

-- A look at any position, by who has the key of a live equation. Without a position it is for the equation alone, and
-- gives no word.
abbrev pub Looks : BoardState → Key → Option ℕ → Look → BoardState → Type 0
Looks old key slot (looked.Gone mark epoch) new = TellsGone old key mark epoch new
Looks old key None looked.Unknown new = IsHeld old key × (new ≡ old)
Looks old key (Some slot) looked.Unknown new = IsHeld old key × (known_in old.desk slot ≡ None) × (new ≡ old)
Looks old key None (looked.Known word) new = ⊥
Looks old key (Some slot) (looked.Known word) new = IsHeld old key × (known_in old.desk slot ≡ Some word) × (new ≡ old)

-- What was seen is told: a share that was lent as the word.
abbrev pub look_seen : Seen → Look
look_seen (seen.Lent word) = looked.Known word
look_seen (seen.Told look) = look

-- What is asked is answered by a look without a position: that the key's equation is gone, or no word.
abbrev pub look_of : Asked → Look
look_of (asked.Live base shape parity) = looked.Unknown
look_of (asked.Gone mark epoch) = looked.Gone mark epoch

-- An equation as an answer spells it.
abbrev pub equation_with : ℕ → Shape → Word → Equation
equation_with base shape parity = record { base = base; offset = shape.offset; count = shape.na; parity = parity }

-- Where an equation is answered, it is the key's.
abbrev pub TellsEquation : BoardState → Key → Asked → Type 0
TellsEquation board key (asked.Live base shape parity) =
    (live : Live) × IsCurrent board key live × (live.equation ≡ equation_with base shape parity)
TellsEquation board key (asked.Gone mark epoch) = ⊤

-- And its shape is one that is read, and its base at most 2^62.
abbrev pub TellsReadable : Asked → Type 0
TellsReadable (asked.Live base shape parity) = IsShape shape.offset shape.na × (base ≤ position_limit)
TellsReadable (asked.Gone mark epoch) = ⊤

-- The key's equation is asked for.
pub record Asks (old : BoardState) (key : Key) (answer : Asked) (new : BoardState) : Type 0 where
  pub looks : Looks old key None (look_of answer) new
  pub equation : TellsEquation old key answer
