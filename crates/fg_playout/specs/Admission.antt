-- Which reply a datagram gets, and what the desk is then. This project's own.
use Rattle.std.specs.Prelude.{◌≡◌, ◌≢◌, ◌+◌, ◌==◌, ◌<◌, ◌≤◌, ◌⊎◌, ℕ, ⊤, Bool, false, Option, Some, None, MatchOption, IsSomeAnd, nat_lt, if◌then◌else◌}
use Rattle.std.specs.List.{Contains}
use Rattle.std.specs.FinMap.{get, insert, len, empty}
use Rattle.fg_words.specs.declared.Word.{Word}
use Rattle.fg_unwrap.specs.Position.{position_of}
use Rattle.fg_peel.specs.Equation.{Equation, slots}
pub use Rattle.fg_peel.specs.Words.{kept_count}
pub use Rattle.fg_peel.specs.Live.{live_limit, HasSlots, IsFree, IsLeastFree}
use Rattle.fg_playout.specs.declared.reply.Reply.{Reply}
use Rattle.fg_playout.specs.declared.reply.Reply.TheVariants.{Admitted, Duplicate, Conflict, Late, NotStarted, BeforeStart, Ahead, Crowded, Foreign}
use Rattle.fg_playout.specs.State.{State, Top, Live, current, last_slot}

-- The desk after a call that changed nothing else.
abbrev pub counted : State → State
counted desk = record desk { calls = desk.calls + 1 }

-- Media datagrams

-- Whose a media datagram is: the sender's of the run before; the current run's, whose farthest datagram this is; or another
-- one's, with whom a run begins.
pub data Sender : Type 0 where
  former : Sender
  own : Top → Sender
  another : Sender

-- A number that may be there is this one.
abbrev pub is_number : Option ℕ → ℕ → Bool
is_number None number = false
is_number (Some other) number = other == number

abbrev pub sender_beside : Option Top → ℕ → Sender
sender_beside None ssrc = another
sender_beside (Some top) ssrc = (if top.ssrc == ssrc then own top else another)

-- Who sends with an SSRC. Before the first media datagram any SSRC is another one's.
abbrev pub sender_of : State → ℕ → Sender
sender_of desk ssrc = (if is_number desk.previous ssrc then former else sender_beside desk.top ssrc)

-- The SSRC is fresh: there is a current run, and the SSRC is neither its own nor that of the run before.
abbrev pub IsFresh : State → ℕ → Type 0
IsFresh desk ssrc = IsSomeAnd desk.top (λ top. top.ssrc ≢ ssrc) × (desk.previous ≢ Some ssrc)

-- A datagram makes a play due: it is of the current run, and lies `depth` past the mark, or farther.
abbrev pub IsDue : State → ℕ → ℕ → Type 0
IsDue desk seq ssrc =
    IsSomeAnd desk.top (λ top.
    (top.ssrc ≡ ssrc)
    × IsSomeAnd (position_of top.position top.seq seq) (λ position. desk.mark + desk.playout.depth ≤ position))

-- The reply to a word that comes for a position: the first of these rules that applies. The position is played; the
-- same word is there; another word is there; and else it is admitted.
abbrev pub IsReplyAt : State → ℕ → Word → Reply → Type 0
IsReplyAt desk position word Late = position < desk.mark
IsReplyAt desk position word Duplicate = (desk.mark ≤ position) × (get desk.media position ≡ Some word)
IsReplyAt desk position word Conflict =
    (desk.mark ≤ position) × IsSomeAnd (get desk.media position) (λ other. other ≢ word)
IsReplyAt desk position word Admitted = (desk.mark ≤ position) × (get desk.media position ≡ None)
IsReplyAt desk position word NotStarted = ⊥
IsReplyAt desk position word BeforeStart = ⊥
IsReplyAt desk position word Ahead = ⊥
IsReplyAt desk position word Crowded = ⊥
IsReplyAt desk position word Foreign = ⊥

-- The reply to a media datagram by its sender. One of the run before is foreign. One of the current run is answered at its
-- position, and late below position 0. With another sender a run begins.
abbrev pub IsReplyBy : State → ℕ → Word → Reply → Sender → Type 0
IsReplyBy desk seq word reply former = reply ≡ Foreign
IsReplyBy desk seq word reply (own top) =
    MatchOption (position_of top.position top.seq seq) (reply ≡ Late) (λ position.
    IsReplyAt desk position word reply)
IsReplyBy desk seq word reply another = reply ≡ Admitted

abbrev pub IsMediaReply : State → ℕ → ℕ → Word → Reply → Type 0
IsMediaReply desk seq ssrc word reply = IsReplyBy desk seq word reply (sender_of desk ssrc)

-- The position of a media datagram by its sender, where it has one. The first of a run has the mark.
abbrev pub position_by : State → ℕ → Sender → Option ℕ
position_by desk seq former = None
position_by desk seq (own top) = position_of top.position top.seq seq
position_by desk seq another = Some desk.mark

abbrev pub position_on : State → ℕ → ℕ → Option ℕ
position_on desk seq ssrc = position_by desk seq (sender_of desk ssrc)

-- The desk where a run begins: at the mark, with no datagram yet and without the equations of the run before. Kept words stay.
abbrev pub begun : State → State
begun desk = record desk {
  top = None;
  previous = current desk;
  origin = desk.mark;
  runs = desk.runs + 1;
  equations = empty;
}

-- The desk in the run of this sender: another one begins it.
abbrev pub run_by : State → Sender → State
run_by desk former = desk
run_by desk (own top) = desk
run_by desk another = begun desk

abbrev pub run_on : State → ℕ → State
run_on desk ssrc = run_by desk (sender_of desk ssrc)

-- The farther of the top and a datagram at this position.
abbrev pub farther : Option Top → Top → Option Top
farther None new = Some new
farther (Some top) new = (if nat_lt top.position new.position then Some new else Some top)

-- The desk with a word at a position, which comes at the time of its clock.
abbrev pub with_media : State → ℕ → ℕ → ℕ → Word → State
with_media desk seq ssrc position word = record desk {
  top = farther desk.top (record { position = position; seq = seq; ssrc = ssrc });
  media = insert desk.media position word;
  times = insert desk.times position desk.clock;
  calls = desk.calls + 1;
}

-- The desk after a media datagram of this sender was admitted.
abbrev pub IsTakenBy : State → ℕ → ℕ → Word → State → Sender → Type 0
IsTakenBy old seq ssrc word new sender =
    IsSomeAnd (position_by old seq sender) (λ position. new ≡ with_media (run_by old sender) seq ssrc position word)

-- The desk after a media datagram that got this reply.
abbrev pub IsAfterMedia : State → ℕ → ℕ → Word → Reply → State → Type 0
IsAfterMedia old seq ssrc word Admitted new = IsTakenBy old seq ssrc word new (sender_of old ssrc)
IsAfterMedia old seq ssrc word _ new = new ≡ counted old

pub record AdmitsMedia (old : State) (seq ssrc : ℕ) (word : Word) (reply : Reply) (new : State) : Type 0 where
  pub reply_is : IsMediaReply old seq ssrc word reply
  pub after : IsAfterMedia old seq ssrc word reply new

-- Parity datagrams

-- It comes too late: all its slots are played, or the word at one of those that are isn't kept.
abbrev pub IsLate : State → Equation → Type 0
IsLate desk equation =
    (last_slot equation < desk.mark)
    ⊎ ((slot : ℕ) × Contains (slots equation) slot × (slot < desk.mark) × (get desk.kept slot ≡ None))

-- It reaches too far: its last slot is 100 positions past the depth, or farther.
abbrev pub IsAhead : State → Equation → Type 0
IsAhead desk equation = desk.mark + desk.playout.depth + kept_count ≤ last_slot equation

-- Two equations have the same base and shape.
abbrev pub HaveSameSlots : Equation → Equation → Type 0
HaveSameSlots one other = HasSlots other.base other.offset other.count one

-- A live equation of the same base and shape, with a parity word of which this holds.
abbrev pub HasTwin : State → Equation → (Word → Type 0) → Type 0
HasTwin desk equation P =
    (serial : ℕ) × (live : Live) × (get desk.equations serial ≡ Some live)
    × HaveSameSlots live.equation equation × P live.equation.parity

-- The equation is neither late nor ahead.
abbrev pub IsTimely : State → Equation → Type 0
IsTimely desk equation = (¬ IsLate desk equation) × (¬ IsAhead desk equation)

-- The reply to an equation: the first of these rules that applies.
abbrev pub IsEquationReply : State → Equation → Reply → Type 0
IsEquationReply desk equation Late = IsLate desk equation
IsEquationReply desk equation Ahead = (¬ IsLate desk equation) × IsAhead desk equation
IsEquationReply desk equation Duplicate =
    IsTimely desk equation × HasTwin desk equation (λ parity. parity ≡ equation.parity)
IsEquationReply desk equation Conflict =
    IsTimely desk equation × HasTwin desk equation (λ parity. parity ≢ equation.parity)
IsEquationReply desk equation Crowded =
    IsTimely desk equation × (¬ HasTwin desk equation (λ _. ⊤)) × (live_limit ≤ len desk.equations)
IsEquationReply desk equation Admitted =
    IsTimely desk equation × (¬ HasTwin desk equation (λ _. ⊤)) × (len desk.equations < live_limit)
IsEquationReply desk equation NotStarted = ⊥
IsEquationReply desk equation BeforeStart = ⊥
IsEquationReply desk equation Foreign = ⊥

-- A parity datagram as it is read: the sequence number of its base, its shape and its word.
pub record Parity : Type 0 where
  pub base : ℕ
  pub offset : ℕ
  pub count : ℕ
  pub word : Word

-- Its equation, where its base has this position.
abbrev pub equation_at : ℕ → Parity → Equation
equation_at position parity = record {
  base = position;
  offset = parity.offset;
  count = parity.count;
  parity = parity.word;
}

-- A position, where it lies at this one or past it.
abbrev pub not_before : ℕ → Option ℕ → Option ℕ
not_before origin None = None
not_before origin (Some position) = (if nat_lt position origin then None else Some position)

-- The position of a parity datagram's base in the current run. It carries no SSRC that can be used, so it is told by its sequence
-- number alone. None where it lies before the run.
abbrev pub base_on : State → ℕ → Option ℕ
base_on desk base =
    elim desk.top as (λ _. Option ℕ) [
      | None ↦ None
      | Some top ↦ not_before desk.origin (position_of top.position top.seq base)
    ]

-- The reply to a parity datagram: before any media datagram it isn't started, and before the run's first position before the
-- start.
abbrev pub IsParityReply : State → Parity → Reply → Type 0
IsParityReply desk parity reply =
    MatchOption desk.top (reply ≡ NotStarted) (λ _.
    MatchOption (base_on desk parity.base) (reply ≡ BeforeStart) (λ position.
    IsEquationReply desk (equation_at position parity) reply))

-- The desk with one more equation.
abbrev pub with_equation : State → ℕ → Equation → State
with_equation desk place equation = record desk {
  equations = insert desk.equations desk.admitted (record { place = place; equation = equation });
  admitted = desk.admitted + 1;
  calls = desk.calls + 1;
}

-- The desk after a parity datagram that got this reply.
abbrev pub IsAfterParity : State → Parity → Reply → State → Type 0
IsAfterParity old parity Admitted new =
    IsSomeAnd (base_on old parity.base) (λ position.
    (place : ℕ) × IsLeastFree old.equations place × (new ≡ with_equation old place (equation_at position parity)))
IsAfterParity old parity _ new = new ≡ counted old

pub record AdmitsParity (old : State) (parity : Parity) (reply : Reply) (new : State) : Type 0 where
  pub reply_is : IsParityReply old parity reply
  pub after : IsAfterParity old parity reply new
