-- What comes back of a thinned encoding that is repaired. This project's own.
use Rattle.std.specs.Prelude.{◌≡◌, ◌≤◌, ◌^◌, ℕ, Bool, false, List, length}
use Rattle.std.specs.List.{Contains, flat_map}
use Rattle.fg_shape.specs.Playout.{Playout, PlayoutFits}
use Rattle.fg_shape.specs.declared.layouts.Layout.{Layout}
use Rattle.fg_shape.specs.declared.encoding.Settings.{Settings}
use Rattle.fg_trace.specs.Trace.{Record, Ending, Ended, IsTrace, trace_of}
use Rattle.fg_shape.specs.Settings.{CanEncode}
use Rattle.fg_encode.specs.Encoding.{encoding}
use Rattle.fg_encode.specs.Payloads.{total_length, ArePayloads}
use Rattle.fg_results.specs.Flow.{FlowResult, IsFlowResult}
use Rattle.fg_drill.specs.Repaired.{Peels, stream_shown}
use Rattle.fg_thin.specs.Thinned.{AreFew, thinned}

-- The payloads of a stream one after another.
abbrev pub stream_of : List (List ℕ) → List ℕ
stream_of payloads = flat_map (λ payload. payload) payloads

-- Payloads that are encoded, what is lost of them, and the playout with which the rest is repaired, all within
-- the limits.
pub record CanComeBack
    (playout : Playout) (settings : Settings) (payloads : List (List ℕ)) (lost : ℕ → Bool) : Type 0 where
  pub can : CanEncode settings
  pub whole : ArePayloads settings.packets payloads
  pub few : AreFew settings.layout (length payloads) lost
  pub limit : total_length payloads ≤ 2 ^ 40
  pub fits : PlayoutFits playout

-- A repair of a thinned encoding has no inconsistent play.
abbrev pub NothingIsInconsistent : Type 0
NothingIsInconsistent =
    (playout : Playout) (settings : Settings) (payloads : List (List ℕ)) (lost : ℕ → Bool) (result : FlowResult)
    → CanComeBack playout settings payloads lost
    → IsFlowResult playout (thinned settings lost payloads) settings.port result → result.sum.inconsistent ≡ 0

-- Its lane is the stream without the slots that no play shows.
abbrev pub WhatIsShownComesBack : Type 0
WhatIsShownComesBack =
    (playout : Playout) (settings : Settings) (payloads : List (List ℕ)) (lost : ℕ → Bool) (result : FlowResult)
    → CanComeBack playout settings payloads lost
    → (is : IsFlowResult playout (thinned settings lost payloads) settings.port result)
    → result.lane ≡ stream_shown payloads is.plays

-- It is the whole stream where the thinned encoding peels.
abbrev pub PeelingBringsAllBack : Type 0
PeelingBringsAllBack =
    (playout : Playout) (settings : Settings) (payloads : List (List ℕ)) (lost : ℕ → Bool) (result : FlowResult)
    → CanComeBack playout settings payloads lost
    → IsFlowResult playout (thinned settings lost payloads) settings.port result
    → Peels playout settings.port (thinned settings lost payloads) (length payloads)
    → result.lane ≡ stream_of payloads

-- What comes back of a thinned encoding, as one fact of its flow's result.
pub record FlowComesBack
    (playout : Playout) (settings : Settings) (payloads : List (List ℕ)) (lost : ℕ → Bool) (result : FlowResult)
    : Type 0 where
  pub is : IsFlowResult playout (thinned settings lost payloads) settings.port result
  pub consistent : result.sum.inconsistent ≡ 0
  pub shown : result.lane ≡ stream_shown payloads is.plays
  pub peels :
      Peels playout settings.port (thinned settings lost payloads) (length payloads) → result.lane ≡ stream_of payloads

-- The bytes are exactly the trace of a thinned encoding, within the limit on their number, and its flow is one of those that
-- are repaired.
pub record IsThinnedTrace
    (playout : Playout) (flows : List ℕ) (max : ℕ) (bytes : List ℕ) (settings : Settings) (payloads : List (List ℕ))
    (lost : ℕ → Bool) : Type 0 where
  pub can : CanComeBack playout settings payloads lost
  pub flow : Contains flows settings.port
  pub spelled : bytes ≡ trace_of (thinned settings lost payloads)
  pub within : length bytes ≤ max

-- It is read as the records of the thinned encoding, and as nothing else.
abbrev pub ThinnedTraceIsRead : Type 0
ThinnedTraceIsRead =
    (playout : Playout) (max : ℕ) (flows bytes : List ℕ) (settings : Settings) (payloads : List (List ℕ)) (lost : ℕ → Bool)
    → IsThinnedTrace playout flows max bytes settings payloads lost
    → IsTrace bytes max (thinned settings lost payloads) Ended
    × ((records : List Record) (end : Ending) → IsTrace bytes max records end
    → (records ≡ thinned settings lost payloads) × (end ≡ Ended))

-- So what its records give the flow comes back.
abbrev pub ThinnedTraceComesBack : Type 0
ThinnedTraceComesBack =
    (playout : Playout) (max : ℕ) (flows bytes : List ℕ) (settings : Settings) (payloads : List (List ℕ)) (lost : ℕ → Bool)
    (records : List Record) (end : Ending) (result : FlowResult)
    → IsThinnedTrace playout flows max bytes settings payloads lost → IsTrace bytes max records end
    → IsFlowResult playout records settings.port result → FlowComesBack playout settings payloads lost result

-- No loss at all is few losses.
abbrev pub NothingLostIsFew : Type 0
NothingLostIsFew =
    (layout : Layout) (count : ℕ) (lost : ℕ → Bool) → ((number : ℕ) → lost number ≡ false) → AreFew layout count lost

-- An encoding of which nothing was left out peels, at every playout.
abbrev pub NothingLostPeels : Type 0
NothingLostPeels =
    (playout : Playout) (settings : Settings) (payloads : List (List ℕ)) (lost : ℕ → Bool)
    → CanComeBack playout settings payloads lost → ((number : ℕ) → lost number ≡ false)
    → Peels playout settings.port (thinned settings lost payloads) (length payloads)

-- What is sent of it is all of it.
abbrev pub NothingLostIsAll : Type 0
NothingLostIsAll =
    (settings : Settings) (payloads : List (List ℕ)) (lost : ℕ → Bool)
    → ((number : ℕ) → lost number ≡ false) → thinned settings lost payloads ≡ encoding settings payloads

-- So a repair of a whole encoding gives the whole stream.
abbrev pub EncodingComesBack : Type 0
EncodingComesBack =
    (playout : Playout) (settings : Settings) (payloads : List (List ℕ)) (result : FlowResult)
    → CanComeBack playout settings payloads (λ _. false)
    → IsFlowResult playout (encoding settings payloads) settings.port result → result.lane ≡ stream_of payloads
