use Rattle.std.proofs.Common.{◌≡◌, ◌+◌, ◌∷◌, refl, arith}
use Rattle.fg_survey.specs.declared.reading.Reading.TheVariants.{Parity}
use Rattle.fg_survey.specs.Lanes.{heard_as}
use Rattle.fg_survey.proofs.LaneLemmas.{below_goes, none_below, ports_stay}
use Rattle.fg_survey.proofs.lanes.Lanes.take_below.Goals as goal

pub returns-in-Some-find-clause-ports : goal.returns-in-Some-find-clause-ports
returns-in-Some-find-clause-ports c =
    ports_stay c.args.self.now.lanes.items c.in-Some-find.place c.index_mut.result.now c.take.new.self c.in-Some-find.ensures.found.within c.index_mut.ensures.value c.take.ensures.port

pub returns-in-Some-find-clause-own : goal.returns-in-Some-find-clause-own
returns-in-Some-find-clause-own c = λ before time datagram keeps h.
    let parity = c.args.parity in
    let now = heard_as time c.args.port datagram (Parity parity.base parity.offset parity.number) ∷ before in
    let port_is : c.args.port ≡ c.in-Some.media + c.args.below = grind arith in
    below_goes c.args.self.now.lanes.items c.in-Some-find.place c.args.below c.args.port c.in-Some.media c.index_mut.result.now c.take.new.self before now c.requires.apart c.in-Some-find.ensures.found port_is
    c.index_mut.ensures.value (c.take.ensures.lane before time datagram keeps) h

pub returns-in_default-find-clause-own : goal.returns-in_default-find-clause-own
returns-in_default-find-clause-own c = λ before time datagram keeps h.
    let parity = c.args.parity in
    let now = heard_as time c.args.port datagram (Parity parity.base parity.offset parity.number) ∷ before in
    let port_is : c.args.port ≡ c.in-Some.media + c.args.below = grind arith in
    none_below c.args.self.now.lanes.items c.args.below c.args.port c.in-Some.media now (c.in_default-find.ensures.none refl) port_is
