use Rattle.std.proofs.Common.{refl, sym, subst}
use Rattle.fg_survey.specs.declared.lanes.Lane.{Lane}
use Rattle.fg_survey.specs.Lanes.{IsLane}
use Rattle.fg_survey.proofs.LaneLemmas.{lanes_at, places_stay, ports_stay}
use Rattle.fg_survey.proofs.lanes.Lanes.take_media.Goals as goal

pub returns-in-Some : goal.returns-in-Some
returns-in-Some c = λ before datagram keeps h.
    let lanes = c.args.self.now.lanes.items in
    let lane = c.index_mut-lane.result.now in
    let place = c.in-Some.place in
    let found = c.in-Some.ensures.found in
    let was = subst (λ (l : Lane). IsLane l before) (sym c.index_mut-lane.ensures.value) (h.are.each place lane found.within) in
    let now : Lane = record { port = lane.port; ssrc = c.args.media.sender.ssrc; near = c.args.streams.now.near; tally = lane.tally } in
    record {
      are = lanes_at lanes before c.args.media datagram h.are place lane now found c.index_mut-lane.ensures.value refl refl was.tally_is;
      places = places_stay c.args.self.now.places.items lanes _ (ports_stay lanes place lane now found.within c.index_mut-lane.ensures.value refl) h.places;
    }
