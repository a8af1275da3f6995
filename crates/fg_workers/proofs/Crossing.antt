-- What workers share of the tallies crosses threads.
use denote.Param.Send.{IsSync, sendable}
use denote.Ref.{NamedLft}
use Rattle.std.proofs.Crossing.{crosses}
use Rattle.fg_tally.proofs.Crossing.{tallies_sync}
use Rattle.fg_workers.specs.contracts.places.FlowTallies as flow_tallies

pub flow_tallies_sync : (ℓ : NamedLft) → IsSync (flow_tallies.the_row ℓ)
flow_tallies_sync ℓ = search (sendable, crosses, tallies_sync) depth 40
