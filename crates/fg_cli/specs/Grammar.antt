-- The words of the command line, as a manual page has them: for each command the names that may stand after
-- it, and for each name the values that it takes, what holds where it isn't there, and how often it may
-- stand. All of it is this project's own.
use Rattle.std.specs.Prelude.{◌≤◌, ◌∷◌, [], ℕ, zero, suc, Bool, List, Option, Some, None, IsTrue, codes, nat_eq}
use Rattle.std.specs.Fmt.{decimal}
use Rattle.std.specs.List.{list_any}
use Rattle.fg_shape.specs.declared.kind.TheConstants.{LAST_PORT}
use Rattle.fg_cli.specs.declared.Name.TheVariants as name
use Rattle.fg_cli.specs.declared.grammar.Command.{Command}
use Rattle.fg_cli.specs.declared.grammar.Command.TheVariants as command
use Rattle.fg_cli.specs.declared.grammar.Key.{Key}
use Rattle.fg_cli.specs.declared.grammar.Key.TheVariants as key
use Rattle.fg_cli.specs.declared.grammar.Absent.{Absent}
use Rattle.fg_cli.specs.declared.grammar.Absent.TheVariants.{Needed, Default, Nothing}

-- The values that a name takes, each a number: the numbers from a least to a greatest, or one of two words,
-- of which the first stands for 0 and the second for 1.
pub data Range : Type 0 where
  Number : ℕ → ℕ → Range
  Either : List ℕ → List ℕ → Range

abbrev pub Allows : Range → ℕ → Type 0
Allows (Number least greatest) n = (least ≤ n) × (n ≤ greatest)
Allows (Either first second) n = n ≤ 1

-- How a value is written: in decimal digits, without a leading zero but for 0 itself; or as its word.
abbrev pub value_text : Range → ℕ → List ℕ
value_text (Number least greatest) n = decimal n
value_text (Either first second) zero = first
value_text (Either first second) (suc n) = second

-- A name, its values, what holds where it isn't there, and how often it may stand (as often as one likes
-- where there is no number).
pub record TableRow : Type 0 where
  pub name : List ℕ
  pub range : Range
  pub absent : Absent
  pub most : Option ℕ

-- A name that must be there, once; one that may be left out; and one that may be left out for nothing, and stands so often.
abbrev pub needed : List ℕ → Range → Absent → TableRow
needed name range absent = record { name = name; range = range; absent = absent; most = Some 1 }

abbrev pub optional : List ℕ → Range → ℕ → TableRow
optional name range default = record { name = name; range = range; absent = Default default; most = Some 1 }

abbrev pub named : List ℕ → Range → ℕ → TableRow
named name range most = record { name = name; range = range; absent = Nothing; most = Some most }

-- The table, a row for each name. `flow`, `port` and `ssrc` say something else after `pick`, and have a row of their own there.
abbrev pub row : Key → TableRow
row key.Flow = record { name = codes "flow"; range = Number 1 LAST_PORT; absent = Needed name.Flow; most = None }
row key.Window = optional (codes "window") (Number 1 100) 100
row key.Depth = optional (codes "depth") (Number 1 1000) 400
row key.Hold = named (codes "hold") (Number 1 3600000000) 1
row key.Workers = optional (codes "workers") (Number 0 16) 4
row key.Max = optional (codes "max") (Number 8 1099511627776) 1099511627776
row key.Columns = needed (codes "columns") (Number 0 255) (Needed name.Columns)
row key.Rows = needed (codes "rows") (Number 0 255) (Needed name.Rows)
row key.Fec = optional (codes "fec") (Either (codes "column") (codes "both")) 1
row key.Layout = optional (codes "layout") (Either (codes "block") (codes "staggered")) 0
row key.Packets = optional (codes "packets") (Number 1 7) 7
row key.Rate = optional (codes "rate") (Number 1 10000000000) 10000000
row key.Port = optional (codes "port") (Number 1 LAST_PORT) 5000
row key.Seq = optional (codes "seq") (Number 0 65535) 0
row key.Ssrc = optional (codes "ssrc") (Number 0 4294967295) 0
row key.Stamp = optional (codes "stamp") (Number 0 4294967295) 0
row key.Drop = named (codes "drop") (Number 1 9999999999999) 1000
row key.Every = named (codes "every") (Number 2 9999999999999) 1
row key.Seed = needed (codes "seed") (Number 0 9999999999999) (Needed name.Seed)
row key.Datagrams = optional (codes "datagrams") (Number 1 20000) 1000
row key.Loss = optional (codes "loss") (Number 0 20) 3
row key.Burst = needed (codes "burst") (Number 1 20) (Needed name.Burst)
row key.Most = needed (codes "most") (Number 1 100) (Needed name.Most)
row key.PickedFlow = named (codes "flow") (Number 1 LAST_PORT) 64
row key.PickedPort = named (codes "port") (Number 0 65535) 64
row key.PickedSource = named (codes "ssrc") (Number 0 4294967295) 16
row key.Without = named (codes "without") (Number 0 4294967295) 16
row key.From = optional (codes "from") (Number 0 18446744073709551615) 0
row key.Until = named (codes "until") (Number 0 18446744073709551615) 1
row key.Format = optional (codes "format") (Either (codes "lines") (codes "json")) 0

-- How often a name may stand after a command: as often as its row says, but once after `prove`, which is of one flow.
abbrev pub most_of : Command → Key → Option ℕ
most_of command.Prove key = Some 1
most_of command key = (row key).most

-- A name's row as the help tells it: the table takes any number of columns, rows and flows, and leaves it to the layout and to
-- the flows' own table, which take these at most.
abbrev pub told_row : Key → TableRow
told_row key.Flow = record (row key.Flow) { most = Some 64 }
told_row key.Columns = needed (codes "columns") (Number 1 20) (Needed name.Columns)
told_row key.Rows = needed (codes "rows") (Number 4 20) (Needed name.Rows)
told_row key = row key

-- The same of a name that stands after a command.
abbrev pub told_after : Command → Key → TableRow
told_after command.Prove key = record (told_row key) { most = Some 1 }
told_after command key = told_row key

-- All commands, in the order in which the help tells them.
abbrev pub commands : List Command
commands =
    command.Repair ∷ command.Encode ∷ command.Drill ∷ command.Inspect ∷ command.Sample ∷ command.FromCapture ∷ command.ToCapture
    ∷ command.Monitor ∷ command.Prove ∷ command.Check ∷ command.ChooseMatrix ∷ command.Survey ∷ command.Pick ∷ []

-- A command's word, and what the help says of it.
abbrev pub command_told : Command → List ℕ × List ℕ
command_told command.Repair = (codes "repair", codes "writes each flow of a trace, repaired, to PORT.ts")
command_told command.Encode = (codes "encode", codes "encodes a transport stream with parity")
command_told command.Drill = (codes "drill", codes "encodes a stream, drops records, and repairs it")
command_told command.Inspect = (codes "inspect", codes "writes a line for each record of a trace")
command_told command.Sample = (codes "sample", codes "makes a stream, drops records, and repairs it")
command_told command.FromCapture = (codes "fromcap", codes "writes the trace of the datagrams in a capture")
command_told command.ToCapture = (codes "tocap", codes "writes a capture of the records of a trace")
command_told command.Monitor = (codes "monitor", codes "writes a line for each break in a stream's continuity")
command_told command.Prove = (codes "prove", codes "writes a case for each window that shows a gap")
command_told command.Check = (codes "check", codes "judges cases of gaps, a line for each")
command_told command.ChooseMatrix = (codes "plan", codes "writes the least matrix that brings a burst back")
command_told command.Survey = (codes "survey", codes "tells what a trace holds: ports, streams, losses, matrix")
command_told command.Pick = (codes "pick", codes "writes the trace of some of a trace's records")

abbrev pub command_text : Command → List ℕ
command_text command = (command_told command).0

abbrev pub command_about : Command → List ℕ
command_about command = (command_told command).1

-- What the help says of a name.
abbrev pub about : Key → List ℕ
about key.Flow = codes "media port P, with P+2 and P+4"
about key.Window = codes "positions that are played at once"
about key.Depth = codes "a datagram so far ahead plays them"
about key.Hold = codes "microseconds that a datagram may wait"
about key.Workers = codes "further threads that recover words"
about key.Max = codes "most bytes of the input"
about key.Columns = codes "columns of a matrix, with fec=both at least 4"
about key.Rows = codes "rows of a matrix, of at most 100 datagrams"
about key.Fec = codes "parity of columns, or of rows too"
about key.Layout = codes "where the columns begin"
about key.Packets = codes "transport packets in a datagram"
about key.Rate = codes "transport bits a second"
about key.Port = codes "the media port P, with P+2 and P+4"
about key.Seq = codes "the first RTP sequence number"
about key.Ssrc = codes "the RTP synchronization source"
about key.Stamp = codes "the first RTP timestamp"
about key.Drop = codes "a record left out"
about key.Every = codes "its multiples are left out"
about key.Seed = codes "what the stream is made from"
about key.Datagrams = codes "media datagrams of the stream"
about key.Loss = codes "records of a hundred left out"
about key.Burst = codes "datagrams that are lost in succession"
about key.Most = codes "percent of parity at most"
about key.PickedFlow = codes "ports P, P+2 and P+4"
about key.PickedPort = codes "a further port"
about key.PickedSource = codes "only this source's media"
about key.Without = codes "not this source's media"
about key.From = codes "first time, in microseconds"
about key.Until = codes "first time left out, microseconds"
about key.Format = codes "lines of words, or of JSON"

-- The names that may stand after a command. Where several that must be there aren't, the first is told.
abbrev pub keys_of : Command → List Key
keys_of command.Repair = key.Flow ∷ key.Window ∷ key.Depth ∷ key.Hold ∷ key.Workers ∷ key.Max ∷ []
keys_of command.Encode =
    key.Max ∷ key.Columns ∷ key.Rows ∷ key.Fec ∷ key.Layout ∷ key.Packets ∷ key.Rate ∷ key.Port ∷ key.Seq
    ∷ key.Ssrc ∷ key.Stamp ∷ []
keys_of command.Drill =
    key.Window ∷ key.Depth ∷ key.Hold ∷ key.Workers ∷ key.Max ∷ key.Columns ∷ key.Rows ∷ key.Fec ∷ key.Layout
    ∷ key.Packets ∷ key.Rate ∷ key.Port ∷ key.Seq ∷ key.Ssrc ∷ key.Stamp ∷ key.Drop ∷ key.Every ∷ []
keys_of command.Inspect = key.Flow ∷ key.Max ∷ []
keys_of command.Sample = key.Workers ∷ key.Seed ∷ key.Datagrams ∷ key.Loss ∷ []
keys_of command.FromCapture = key.Max ∷ []
keys_of command.ToCapture = key.Max ∷ []
keys_of command.Monitor = key.Max ∷ []
keys_of command.Prove = key.Flow ∷ key.Window ∷ key.Depth ∷ key.Hold ∷ key.Max ∷ []
keys_of command.Check = key.Max ∷ []
keys_of command.ChooseMatrix = key.Burst ∷ key.Most ∷ key.Fec ∷ []
keys_of command.Survey = key.Max ∷ key.Format ∷ []
keys_of command.Pick =
    key.PickedFlow ∷ key.PickedPort ∷ key.PickedSource ∷ key.Without ∷ key.From ∷ key.Until ∷ key.Max ∷ []

-- The place of a name's row, by which names are told apart.
abbrev pub place : Key → ℕ
place key.Flow = 0
place key.Window = 1
place key.Depth = 2
place key.Hold = 3
place key.Workers = 4
place key.Max = 5
place key.Columns = 6
place key.Rows = 7
place key.Fec = 8
place key.Layout = 9
place key.Packets = 10
place key.Rate = 11
place key.Port = 12
place key.Seq = 13
place key.Ssrc = 14
place key.Stamp = 15
place key.Drop = 16
place key.Every = 17
place key.Seed = 18
place key.Datagrams = 19
place key.Loss = 20
place key.Burst = 21
place key.Most = 22
place key.PickedFlow = 23
place key.PickedPort = 24
place key.PickedSource = 25
place key.Without = 26
place key.From = 27
place key.Until = 28
place key.Format = 29

abbrev pub same_key : Key → Key → Bool
same_key a b = nat_eq (place a) (place b)

-- The name may stand after the command.
abbrev pub Knows : Command → Key → Type 0
Knows command key = IsTrue (list_any (same_key key) (keys_of command))
