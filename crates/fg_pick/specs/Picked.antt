-- Which records of a trace are picked: this project's own. A flow's three ports are those of SMPTE ST 2022-1, and a media
-- datagram's synchronization source is that of RFC 3550.
use Rattle.std.specs.Prelude.{◌≡◌, ◌⊎◌, ◌↔◌, ◌<◌, ◌≤◌, ℕ, Bool, IsTrue, IfSome, List, [], filter}
use Rattle.std.specs.List.{Contains}
use Rattle.fg_words.specs.declared.Word.{Word}
use Rattle.fg_shape.specs.declared.kind.Kind.{Kind}
use Rattle.fg_shape.specs.Kind.{port_of}
use Rattle.fg_flows.specs.declared.selection.Selection.{Selection}
use Rattle.fg_rtp.specs.MediaDatagram.{IsMediaDatagram}
use Rattle.fg_trace.specs.Trace.{Record}

-- The port is one of the three of a flow that is named.
pub record IsOnFlow (flows : List ℕ) (port : ℕ) : Type 0 where
  pub flow : ℕ
  pub named : Contains flows flow
  pub kind : Kind
  pub is : port_of flow kind ≡ port

-- Neither flows nor ports are named, or the port is one of a flow's that is named, or is named itself.
abbrev pub PicksPort : Selection → ℕ → Type 0
PicksPort selection port =
    ((selection.flows ≡ []) × (selection.ports ≡ [])) ⊎ (IsOnFlow selection.flows port ⊎ Contains selection.ports port)

-- The source is one of those that alone are left, where any are named, and none of those that are left out.
pub record PicksSource (selection : Selection) (ssrc : ℕ) : Type 0 where
  pub left : (selection.sources ≡ []) ⊎ Contains selection.sources ssrc
  pub kept : ¬ Contains selection.without ssrc

-- The record is to be picked: by its port; by its source, where its datagram is a media datagram, on whatever port; and by
-- its time, the first of those asked for included and the last not.
pub record Fits (selection : Selection) (r : Record) : Type 0 where
  pub port : PicksPort selection r.port
  pub source : (seq ssrc : ℕ) (word : Word) → IsMediaDatagram r.datagram seq ssrc word → PicksSource selection ssrc
  pub from : selection.from ≤ r.time
  pub until : IfSome selection.until (λ end. r.time < end)

-- These are the records that fit, in their order.
pub record IsPicked (selection : Selection) (records picked : List Record) : Type 0 where
  pub fits : Record → Bool
  pub right : (r : Record) → IsTrue (fits r) ↔ Fits selection r
  pub picked_are : picked ≡ filter fits records
