-- How the records of a flow are read: in one way each.
use Rattle.std.proofs.Common.{◌≡◌, ◌≢◌, ℕ, List, [], Option, Some, None, refl}
use Rattle.fg_fechead.specs.declared.Parity.{Parity as ParityRead}
use Rattle.fg_fechead.specs.ParityDatagram.{IsParityDatagram}
use Rattle.fg_shape.specs.declared.kind.Kind.{Kind}
use Rattle.fg_shape.specs.declared.kind.Kind.TheVariants.{Media}
use Rattle.fg_playout.specs.declared.reply.Reply.{Reply}
use Rattle.fg_playout.specs.State.{State}
use Rattle.fg_playout.specs.Admission.{AdmitsParity}
use Rattle.fg_playout.specs.Run.{Arrival, protects, refused, time_of, TakesThen}
use Rattle.fg_results.proofs.FlowRecords.{as_parity}
use Rattle.fg_results.specs.Flow.{IsReadAs, parity_of}

pub parity_is_read :
    (kind : Kind) (time : ℕ) (bytes : List ℕ) (parity : ParityRead) → kind ≢ Media → IsParityDatagram bytes parity
    → IsReadAs kind bytes (protects time kind (parity_of parity))
parity_is_read kind time bytes parity other is =
    as_parity kind bytes (protects time kind (parity_of parity)) other (refl, (parity, is, refl))

parity_is_refused :
    (kind : Kind) (time : ℕ) (bytes : List ℕ) → kind ≢ Media → ((parity : ParityRead) → ¬ IsParityDatagram bytes parity)
    → IsReadAs kind bytes (refused time kind)
parity_is_refused kind time bytes other none = as_parity kind bytes (refused time kind) other (refl, none)

-- A datagram on a parity port that was read so, and does so.
abbrev ParityTakes : State → Kind → ℕ → List ℕ → Option Reply → State → Type 0
ParityTakes old kind time bytes reply new =
    (arrival : Arrival) × (time_of arrival ≡ time) × IsReadAs kind bytes arrival × TakesThen old arrival [] reply new

pub refused_takes :
    (old : State) (bytes : List ℕ) → ((parity : ParityRead) → ¬ IsParityDatagram bytes parity)
    → (kind : Kind) (time : ℕ) → kind ≢ Media → ParityTakes old kind time bytes None old
refused_takes old bytes none kind time other = (refused time kind, refl, parity_is_refused kind time bytes other none, (refl, refl))

pub parity_takes :
    (old : State) (bytes : List ℕ) (parity : ParityRead) (reply : Reply) (new : State)
    → IsParityDatagram bytes parity → AdmitsParity old (parity_of parity) reply new
    → (kind : Kind) (time : ℕ) → kind ≢ Media → ParityTakes old kind time bytes (Some reply) new
parity_takes old bytes parity reply new is admits kind time other = (
  protects time kind (parity_of parity),
  refl,
  parity_is_read kind time bytes parity other is,
  (refl, admits),
)
