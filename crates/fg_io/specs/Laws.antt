-- What shows that the definitions of this crate are right, and what calls in a row come to.
use Rattle.std.specs.Prelude.{◌≡◌, ℕ, ◌<◌, ◌≤◌, Option, List, ◌++◌, IfSome}
use Rattle.std.specs.Io.KnownBytes.{IsAtEnd}
use Rattle.fg_io.specs.Faults.{last_count, CountsFault}
use Rattle.fg_io.specs.declared.input_buffer.Ahead.{Ahead}
use Rattle.fg_io.specs.InputBuffer.{InputState, IsAhead}
use Rattle.fg_io.specs.Outlet.{Lanes, lane_of, LaneGains, Puts, PutsPart}
use Rattle.fg_io.specs.Sink.{Gains, GainsPart}
use Rattle.fg_io.specs.Source.{Gives}

-- a count below its last value that stands still has counted no fault
abbrev pub StandingCountsNone : Type 0
StandingCountsNone = (count : ℕ) → count < last_count → ¬ CountsFault count count

-- two reads in a row give what one read gives that gives both
abbrev pub ReadsJoin : Type 0
ReadsJoin = (first second third : Option (List ℕ)) (given more : List ℕ)
    → Gives first given second → Gives second more third → Gives first (given ++ more) third

-- what a source has left follows from what it had left and what it gave
abbrev pub OneRest : Type 0
OneRest = (before after other : Option (List ℕ)) (given : List ℕ)
    → Gives before given after → Gives before given other → other ≡ after

-- a source that is at its end has given all that it had
abbrev pub EndGaveAll : Type 0
EndGaveAll = (before after : Option (List ℕ)) (given : List ℕ)
    → Gives before given after → IsAtEnd after → IfSome before (λ bytes. bytes ≡ given)

-- of a buffer that stands within its limit, and a number of bytes that is asked for, at most one answer is true
abbrev pub OneAhead : Type 0
OneAhead = (input : InputState) (want : ℕ) (one other : Ahead)
    → input.place ≤ input.max → 1 ≤ want → IsAhead one input want → IsAhead other input want → one ≡ other

-- two writes in a row write what one write writes that writes both
abbrev pub WritesJoin : Type 0
WritesJoin = (first second third : Option (List ℕ)) (piece more : List ℕ)
    → Gains first piece second → Gains second more third → Gains first (piece ++ more) third

-- a sink that gained nothing has gained a prefix of anything
abbrev pub NoneIsPart : Type 0
NoneIsPart = (written : Option (List ℕ)) (piece : List ℕ) → GainsPart written piece written

-- a sink that gained the piece has gained a prefix of it
abbrev pub AllIsPart : Type 0
AllIsPart = (before after : Option (List ℕ)) (piece : List ℕ)
    → Gains before piece after → GainsPart before piece after

-- a sink that gained a prefix of the first of two pieces has gained a prefix of both
abbrev pub PartOfMore : Type 0
PartOfMore = (before after : Option (List ℕ)) (piece more : List ℕ)
    → GainsPart before piece after → GainsPart before (piece ++ more) after

-- so has one that gained the first and then a prefix of the second
abbrev pub PartJoins : Type 0
PartJoins = (first second third : Option (List ℕ)) (piece more : List ℕ)
    → Gains first piece second → GainsPart second more third → GainsPart first (piece ++ more) third

-- two puts in a row to a port leave what one put leaves that puts both
abbrev pub PutsJoin : Type 0
PutsJoin = (first second third : Option Lanes) (port : ℕ) (piece more : List ℕ)
    → Puts first port piece second → Puts second port more third → Puts first port (piece ++ more) third

-- lanes to which nothing was put have gained a prefix of anything
abbrev pub NonePutIsPart : Type 0
NonePutIsPart = (lanes : Option Lanes) (port : ℕ) (piece : List ℕ) → PutsPart lanes port piece lanes

-- a lane that gained the piece has gained a prefix of it
abbrev pub AllPutIsPart : Type 0
AllPutIsPart = (before after : Option Lanes) (port : ℕ) (piece : List ℕ)
    → Puts before port piece after → PutsPart before port piece after

-- a lane that gained a prefix of the first of two pieces has gained a prefix of both
abbrev pub PutPartOfMore : Type 0
PutPartOfMore = (before after : Option Lanes) (port : ℕ) (piece more : List ℕ)
    → PutsPart before port piece after → PutsPart before port (piece ++ more) after

-- so has one that gained the first and then a prefix of the second
abbrev pub PutPartJoins : Type 0
PutPartJoins = (first second third : Option Lanes) (port : ℕ) (piece more : List ℕ)
    → Puts first port piece second → PutsPart second port more third
    → PutsPart first port (piece ++ more) third

-- what each lane is follows from what it was, the port and the piece
abbrev pub OneLane : Type 0
OneLane = (before after other : Lanes) (port : ℕ) (piece : List ℕ)
    → LaneGains before port piece after → LaneGains before port piece other
    → (any : ℕ) → lane_of other any ≡ lane_of after any
