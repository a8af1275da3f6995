use Rattle.std.proofs.Common.{ℕ, List, sym, ◌∙◌, subst}
use Rattle.fg_survey.specs.Lanes.{ArePlaces}
use Rattle.fg_survey.proofs.LaneLemmas.{lanes_parity_both, places_stay, rest_below}
use Rattle.fg_survey.proofs.lanes.Lanes.take_parity.Goals as goal

pub take_below-requires-2-clause-few : goal.take_below-requires-2-clause-few
take_below-requires-2-clause-few c =
    let known = c.requires.few in
    let first = c.take_below.ensures in
    (known.0, rest_below c.args.self.now.lanes.items c.take_below.new.self.lanes.items c.args.port known.0 first.ports first.others known.1.are.each, known.2)

pub returns : goal.returns
returns c = λ before time datagram keeps h.
    let first = c.take_below.ensures in
    let second = c.take_below-2.ensures in
    let old = c.args.self.now in
    let mid = c.take_below.new.self in
    let new = c.take_below-2.new.self in
    record {
      are = lanes_parity_both old.lanes.items mid.lanes.items new.lanes.items before time c.args.port datagram c.args.parity.base c.args.parity.offset c.args.parity.number
          first.ports second.ports first.others (first.own before time datagram keeps) second.others (second.own before time datagram keeps) h.are;
      places = subst (λ (t : List ℕ). ArePlaces t new.lanes.items) (sym (second.places ∙ first.places))
          (places_stay old.places.items old.lanes.items new.lanes.items (second.ports ∙ first.ports) h.places);
    }
