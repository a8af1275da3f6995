-- Laws that show the definitions of requests and answers to be right.
use Rattle.std.specs.Prelude.{◌≡◌, ◌≤◌, ℕ, List, length}
use Rattle.fg_ts.specs.Packets.{ArePackets}
use Rattle.fg_commands.specs.declared.ended.Why.{Why}
use Rattle.fg_commands.specs.declared.ended.Why.TheVariants.{Done}
use Rattle.fg_commands.specs.Streams.{IsStreamAnswer}
use Rattle.fg_run.specs.declared.request.Request.{Request}
use Rattle.fg_run.specs.Request.{Asks}
use Rattle.fg_run.specs.Behaviours.{behaviour_of}

-- Words ask for at most one request.
abbrev pub OneRequest : Type 0
OneRequest =
    (words : List (List ℕ)) (one other : Request) → Asks words one → Asks words other → one ≡ other

-- A request has at most one answer over the bytes of an input.
abbrev pub OneAnswer : Type 0
OneAnswer =
    (request : Request) (bytes : List ℕ) (one other : Why)
    → (behaviour_of request).is_answer bytes one → (behaviour_of request).is_answer bytes other → one ≡ other

-- A stream of whole packets within the limit ends with its last payload.
abbrev pub WholeStreamsAreDone : Type 0
WholeStreamsAreDone =
    (packets max count : ℕ) (bytes : List ℕ)
    → 1 ≤ packets → ArePackets bytes count → length bytes ≤ max → IsStreamAnswer packets max bytes Done
