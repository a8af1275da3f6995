-- The streams of a trace: what came of each sender on each port. At most 256 are told; the limit is this project's own.
use Rattle.std.specs.Prelude.{ℕ, ◌+◌, ◌==◌, ◌&&◌, ◌||◌, Bool, nat_le, if◌then◌else◌, Option, None, Some, List, [], ◌∷◌, ◌++◌, drop, length}
use Rattle.std.specs.List.{flat_map, list_any}
use Rattle.fg_rtp.specs.Header.{header_length}
use Rattle.fg_streams.specs.Arrival.{Arrival}
use Rattle.fg_survey.specs.declared.reading.Reading.{Reading}
use Rattle.fg_survey.specs.declared.reading.Reading.TheVariants.{Media, Parity, Other}
use Rattle.fg_survey.specs.declared.senders.Sender.{Sender}
use Rattle.fg_survey.specs.Heard.{Heard}

-- The most streams.
abbrev pub senders_limit : ℕ
senders_limit = 256

abbrev pub same_sender : Sender → Sender → Bool
same_sender one other = one.port == other.port && one.ssrc == other.ssrc

-- The sender of a media datagram: its port and its synchronization source.
abbrev pub sender_in : ℕ → Reading → Option Sender
sender_in port (Media seq ts ssrc) = Some (record { port = port; ssrc = ssrc })
sender_in port (Parity base offset number) = None
sender_in port Other = None

abbrev pub sender_of : Heard → Option Sender
sender_of x = sender_in x.port x.reading

abbrev pub listed : List Sender → Sender → Bool
listed senders sender = list_any (same_sender sender) senders

-- One that isn't there goes to the end, where there is room.
abbrev pub with_sender : List Sender → Option Sender → List Sender
with_sender senders None = senders
with_sender senders (Some sender) =
    (if listed senders sender || nat_le senders_limit (length senders) then senders else senders ++ sender ∷ [])

-- The senders, in the order in which they were first heard.
abbrev pub senders_of : List Heard → List Sender
senders_of [] = []
senders_of (x ∷ before) = with_sender (senders_of before) (sender_of x)

-- What one datagram adds to a sender's stream.
abbrev pub arrival_by : Sender → ℕ → ℕ → List ℕ → Reading → List Arrival
arrival_by sender time port datagram (Media seq ts ssrc) =
    (if port == sender.port && ssrc == sender.ssrc
    then (record { time = time; seq = seq; ts = ts; payload = drop header_length datagram }) ∷ []
    else [])
arrival_by sender time port datagram (Parity base offset number) = []
arrival_by sender time port datagram Other = []

abbrev pub arrival_in : Sender → Heard → List Arrival
arrival_in sender x = arrival_by sender x.time x.port x.datagram x.reading

-- The stream of a sender.
abbrev pub arrivals_of : Sender → List Heard → List Arrival
arrivals_of sender heard = flat_map (arrival_in sender) heard

abbrev pub one_unlisted : List Sender → Option Sender → ℕ
one_unlisted senders None = 0
one_unlisted senders (Some sender) = if listed senders sender then 0 else 1

-- How many media datagrams are of no stream that is told.
abbrev pub unlisted : List Heard → ℕ
unlisted [] = 0
unlisted (x ∷ before) = one_unlisted (senders_of (x ∷ before)) (sender_of x) + unlisted before
