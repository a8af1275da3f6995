-- How far the reading of a capture has come. No public contract cites what stands here.
use Rattle.std.specs.Prelude.{◌≡◌, ◌+◌, ◌<◌, ◌≤◌, ◌⊎◌, ℕ, false, Option, None, Some, IfSome, List, [], ◌++◌, length, map}
use Rattle.std.specs.Io.KnownBytes.{IsAtEnd}
use Rattle.std.specs.List.{flat_map, AllByRecursion}
use Rattle.fg_io.specs.InputBuffer.{InputState}
use Rattle.fg_io.specs.Sent.{Sent}
use Rattle.fg_io.specs.Texts.{ReadTexts}
use Rattle.fg_io.specs.Sink.{GainsPart}
use Rattle.fg_io.specs.Source.{Gives}
use Rattle.fg_trace.specs.Trace.{Record, spelling, trace_of}
use Rattle.fg_pcap.specs.declared.ending.CaptureEnding.{CaptureEnding}
use Rattle.fg_pcap.specs.declared.ending.CaptureEnding.TheVariants.{Ended, NotCapture, Cut, TooLong}
use Rattle.fg_pcap.specs.declared.file_header.ByteOrder.{ByteOrder}
use Rattle.fg_pcap.specs.declared.file_header.Format.{Format}
use Rattle.fg_pcap.specs.declared.file_header.TimeUnit.{TimeUnit}
use Rattle.fg_pcap.specs.declared.capture_reader.TheConstants.{LONGEST, PIECE}
use Rattle.fg_pcap.specs.declared.packet_header.PacketHeader.{PacketHeader}
use Rattle.fg_pcap.specs.Capture.{Packet, Fits, Frame, IsFileHeader, Begins, NoneFollows, IsEnding, frame_of, spelling_of, place_after, most_kept, record_header_length}
use Rattle.fg_pcap.specs.Frame.{IsDatagramsOf}
use Rattle.fg_pcap.specs.FromCapture.{Converts, ConvertsPart, LeavesNothing, ReachesFor, most_held}
use Rattle.fg_pcap.specs.PacketHeader.{IsPacketHeader}
use Rattle.fg_pcap.specs.ReadFor.{IsReadFor}

-- The buffer that a capture is read through, while its source isn't known to be at its end.
pub record IsReading (input : InputState) : Type 0 where
  pub longest : input.longest ≡ LONGEST
  pub piece : input.piece ≡ PIECE
  pub within : input.place ≤ input.max
  pub going : input.ended ≡ false

-- The source, which had `first`, has given as many bytes as the buffer has passed and holds.
pub record HasRead (input : InputState) (first now : Option (List ℕ)) : Type 0 where
  pub read : List ℕ
  pub gives : Gives first read now
  pub size : length read ≡ input.place + length input.held

-- The buffer stands behind these records: the source has given a file header, them, and then what is held.
pub record StandsAfter (format : Format) (input : InputState) (first now : Option (List ℕ)) (packets : List Packet) : Type 0 where
  pub header : List ℕ
  pub is_header : IsFileHeader format.order format.unit header
  pub fit : AllByRecursion Fits packets
  pub place : input.place ≡ place_after format.order packets
  pub within : input.place ≤ input.max
  pub given : Gives first (header ++ (spelling_of format.order packets ++ input.held)) now

-- So many bytes are held, and within the limit.
pub record Has (input : InputState) (want : ℕ) : Type 0 where
  pub enough : want ≤ length input.held
  pub within : input.place + want ≤ input.max
  pub going : input.ended ≡ false

-- So end so many bytes from this place on, behind which the source has no more, or that go past the limit.
abbrev pub TellsEnd : CaptureEnding → ℕ → ℕ → ℕ → Option (List ℕ) → Type 0
TellsEnd Ended max place count left = (count ≡ 0) × IsAtEnd left
TellsEnd (Cut n) max place count left = (n ≡ place) × (1 ≤ count) × (place + count ≤ max) × IsAtEnd left
TellsEnd (TooLong n) max place count left = (n ≡ place) × (max < place + count)
TellsEnd (NotCapture n) max place count left = ⊥

-- So many aren't held: the source goes past the limit before, or it ends before.
pub record Lacks (end : CaptureEnding) (input : InputState) (left : Option (List ℕ)) (want : ℕ) : Type 0 where
  pub why : ((input.max < input.place + want) × (input.max < input.place + length input.held))
      ⊎ ((length input.held < want) × IsAtEnd left)
  pub tells : TellsEnd end input.max input.place (length input.held) left

-- A record with this header is held whole, within the limit.
pub record HoldsPacket (order : ByteOrder) (input : InputState) (header : PacketHeader) : Type 0 where
  pub is_header : IsPacketHeader order input.held header.seconds header.fraction header.kept header.original
  pub may : header.kept ≤ most_kept
  pub whole : record_header_length + header.kept ≤ length input.held
  pub within : input.place + (record_header_length + header.kept) ≤ input.max

-- No record follows at this place, where these bytes are, and this is the ending there.
pub record EndsAt (order : ByteOrder) (end : CaptureEnding) (max place : ℕ) (rest : List ℕ) : Type 0 where
  pub ending : IsEnding order max place rest end
  pub none : NoneFollows order max place rest

-- The same of what is held, and what the source has left behind it.
abbrev pub EndsHere : ByteOrder → CaptureEnding → InputState → Option (List ℕ) → Type 0
EndsHere order end input left = IfSome left (λ rest. EndsAt order end input.max input.place (input.held ++ rest))

-- The input was read as far as this ending needs, whether or not its source tells its bytes.
abbrev pub HasReached : CaptureEnding → InputState → Option (List ℕ) → Type 0
HasReached Ended input left = IsAtEnd left
HasReached (Cut n) input left = IsAtEnd left
HasReached (TooLong n) input left = input.max < input.place + length input.held
HasReached (NotCapture n) input left =
    ((n < input.place + length input.held) ⊎ IsAtEnd left) × (input.place + length input.held ≤ n + most_held)

-- The datagrams of some frames, spelled behind what is held, are sent on; or a front of them is written.
pub record SendsFrames (frames : List Frame) (held next : List ℕ) (before after : Option (List ℕ)) : Type 0 where
  pub records : List Record
  pub datagrams : IsDatagramsOf frames records
  pub sent : Sent before (held ++ flat_map spelling records) next after

pub record SendsPart (frames : List Frame) (held : List ℕ) (before after : Option (List ℕ)) : Type 0 where
  pub records : List Record
  pub datagrams : IsDatagramsOf frames records
  pub part : GainsPart before (held ++ flat_map spelling records) after

-- The datagrams of these records are sent on behind the magic: the sink has gained a front of that trace, and the rest is held.
pub record HasSent (unit : TimeUnit) (packets : List Packet) (held : List ℕ) (before after : Option (List ℕ)) : Type 0 where
  pub records : List Record
  pub datagrams : IsDatagramsOf (map (frame_of unit) packets) records
  pub sent : Sent before (trace_of records) held after

-- The input, which had `first`, was read as far as an ending needs, once one is told.
abbrev pub IsReadTo : ℕ → Option CaptureEnding → Option (List ℕ) → Option (List ℕ) → Type 0
IsReadTo max ending first now = IfSome first (λ bytes. IsReadFor (ReachesFor max) max ending bytes now)

-- The buffer stands behind the file header, and nothing is sent on.
pub record IsNew (format : Format) (held : List ℕ) (input : InputState) (first now : Option (List ℕ)) : Type 0 where
  pub stands : StandsAfter format input first now []
  pub reading : IsReading input
  pub read : HasRead input first now
  pub bounded : input.place + length input.held ≤ input.max + 1
  pub empty : held ≡ []

-- The buffer stands behind the records whose datagrams are sent on.
pub record IsUnderway
    (format : Format) (first now : Option (List ℕ)) (input : InputState) (held : List ℕ) (before after : Option (List ℕ)) : Type 0 where
  pub packets : List Packet
  pub stands : StandsAfter format input first now packets
  pub read : HasRead input first now
  pub sent : HasSent format.unit packets held before after

-- And its source isn't known to be at its end.
pub record GoesOn
    (format : Format) (held : List ℕ) (input : InputState) (first now before after : Option (List ℕ)) : Type 0 where
  pub reading : IsReading input
  pub underway : IsUnderway format first now input held before after

-- All datagrams of the capture are, and this is its ending.
pub record HasSentAll
    (format : Format) (max : ℕ) (first : Option (List ℕ)) (end : CaptureEnding) (held : List ℕ) (before after : Option (List ℕ)) : Type 0 where
  pub packets : List Packet
  pub sent : HasSent format.unit packets held before after
  pub ends : IfSome first (λ bytes. (rest : List ℕ) × Begins bytes max format.order format.unit packets rest
      × EndsAt format.order end max (place_after format.order packets) rest)

-- And the input was read for it.
pub record HasEnded
    (format : Format) (held : List ℕ) (input : InputState) (end : CaptureEnding) (first now before after : Option (List ℕ)) : Type 0 where
  pub sent : HasSentAll format input.max first end held before after
  pub read : IsReadTo input.max (Some end) first now
  pub at_end : LeavesNothing end → IsAtEnd now

-- The whole trace is written, and the input was read for the capture's ending.
pub record IsConverted (max : ℕ) (end : CaptureEnding) (first now before after : Option (List ℕ)) : Type 0 where
  pub converts : Converts max end first before after
  pub read : IsReadTo max (Some end) first now
  pub at_end : LeavesNothing end → IsAtEnd now

-- What a fault leaves: a prefix of the trace is written, and the input was read no further than a byte past the limit.
abbrev pub Breaks : ℕ → ReadTexts
Breaks max first now before after = ConvertsPart max first before after × IsReadTo max None first now

-- The sink has gained a front of the trace of some records that begin the capture.
pub record HasPart (format : Format) (max : ℕ) (bytes : List ℕ) (before after : Option (List ℕ)) : Type 0 where
  pub packets : List Packet
  pub rest : List ℕ
  pub begins : Begins bytes max format.order format.unit packets rest
  pub records : List Record
  pub datagrams : IsDatagramsOf (map (frame_of format.unit) packets) records
  pub part : GainsPart before (trace_of records) after
