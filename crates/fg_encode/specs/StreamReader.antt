-- What contracts see of a reader of a stream, and where it stands: this project's own rule.
use Rattle.std.specs.Prelude.{◌≡◌, ◌+◌, ◌*◌, ◌/◌, ◌<◌, ◌≤◌, ◌⊎◌, ℕ, Bool, true, false, Option, None, Some, IfSome, Result, Ok, Err, List, [], ◌∷◌, ◌++◌, length, take, drop}
use Rattle.std.specs.Option.{option_map}
use Rattle.std.specs.Io.KnownBytes.{IsAtEnd}
use Rattle.fg_io.specs.declared.fault.Fault.{Fault}
use Rattle.fg_io.specs.Source.{Gives}
use Rattle.fg_ts.specs.declared.TsFault.TheVariants.{Ragged, NoSync}
use Rattle.fg_ts.specs.Packets.{FirstFault, packet_length}
use Rattle.fg_encode.specs.declared.stream.StreamStep.{StreamStep}
use Rattle.fg_encode.specs.declared.stream.StreamStep.TheVariants.{Payload, End}
use Rattle.fg_encode.specs.declared.stream.StreamFault.TheVariants.{NotTransport, TooLong}
use Rattle.fg_encode.specs.Stream.{AreFirst, IsCut, LeavesNothing, StreamEnding}

-- What a call for the next payload answers.
abbrev pub Answer : Type 0
Answer = Result StreamStep Fault

-- How many packets a payload has; the most bytes that the stream may have; the place of the first byte that belongs to no
-- answered payload; the bytes that were read from there on; the payload answered last; whether the source has come to its
-- end; and the stream's ending, once it was answered.
pub record StreamState : Type 0 where
  pub packets : ℕ
  pub max : ℕ
  pub place : ℕ
  pub held : List ℕ
  pub payload : List ℕ
  pub ended : Bool
  pub kept : Option StreamEnding

-- A reader that has read nothing.
abbrev pub new_reader : ℕ → ℕ → StreamState
new_reader packets max =
    record { packets = packets; max = max; place = 0; held = []; payload = []; ended = false; kept = None }

-- An ending that was answered is the stream's, where its source tells its bytes.
abbrev pub KeepsEnding : StreamState → Option (List ℕ) → List (List ℕ) → Type 0
KeepsEnding reader first payloads =
    IfSome reader.kept (λ ending. IfSome first (λ bytes. IsCut reader.packets reader.max bytes payloads ending))

-- The place is that of the next whole payload; or the last payload was a shorter one, and nothing is left.
abbrev pub IsPlaced : StreamState → ℕ → Type 0
IsPlaced reader count =
    (reader.place ≡ packet_length * reader.packets * count)
    ⊎ ((reader.place ≤ packet_length * reader.packets * count) × (reader.ended ≡ true) × (reader.held ≡ []))

-- The reader stands after these payloads: they are the first of those that the source, which had `first` left, is cut into,
-- and it has given what the reader holds from its place on.
pub record StandsAfter (reader : StreamState) (first now : Option (List ℕ)) (payloads : List (List ℕ)) : Type 0 where
  pub cut : IfSome first (λ bytes. AreFirst reader.packets reader.max bytes payloads)
  pub placed : IsPlaced reader (length payloads)
  pub given : Gives (option_map (drop reader.place) first) reader.held now
  pub at_end : reader.ended ≡ true → IsAtEnd now
  pub ending : KeepsEnding reader first payloads

-- What an answer to `next` says, after these payloads: they go on with this one; or they are all, and the stream ends so, of
-- which nothing is left where the ending leaves nothing; or a read failed, and nothing is lost.
abbrev pub Walks : Answer → StreamState → Option (List ℕ) → Option (List ℕ) → List (List ℕ) → Type 0
Walks (Ok Payload) reader first now payloads = StandsAfter reader first now (payloads ++ reader.payload ∷ [])
Walks (Ok (End ending)) reader first now payloads =
    StandsAfter reader first now payloads
    × IfSome first (λ bytes. IsCut reader.packets reader.max bytes payloads ending) × (LeavesNothing ending → IsAtEnd now)
Walks (Err fault) reader first now payloads = StandsAfter reader first now payloads

-- The ending that an answer tells, if it tells one: each later call tells it again.
abbrev pub ending_told : Answer → Option StreamEnding
ending_told (Ok Payload) = None
ending_told (Ok (End ending)) = Some ending
ending_told (Err fault) = None

-- What an ending says of a reader that gives it, also where the source doesn't tell its bytes: of the place, of the bytes
-- held from there on, and of the next payload, which is their front.
abbrev pub EndsHere : StreamEnding → ℕ → ℕ → ℕ → List ℕ → Bool → Type 0
EndsHere None packets max place held ended = (held ≡ []) × (ended ≡ true)
EndsHere (Some (TooLong n)) packets max place held ended =
    (n ≡ place) × (max < place + length (take (packet_length * packets) held))
EndsHere (Some (NotTransport (Ragged n))) packets max place held ended =
    (n ≡ place + length held) × (n ≤ max) × (length held < packet_length * packets) × (ended ≡ true)
    × FirstFault (Ragged (length held)) held
EndsHere (Some (NotTransport (NoSync k))) packets max place held ended =
    (place + length (take (packet_length * packets) held) ≤ max)
    × ((j : ℕ) × (k ≡ place / packet_length + j) × FirstFault (NoSync j) (take (packet_length * packets) held))
