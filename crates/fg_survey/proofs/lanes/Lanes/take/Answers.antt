use Rattle.std.proofs.Common.{◌∷◌, sym, subst}
use Rattle.std.proofs.lemmas.Result.{on_ok_weaker}
use Rattle.fg_survey.specs.declared.reading.Reading.{Reading}
use Rattle.fg_survey.specs.declared.streams.Media.{Media}
use Rattle.fg_survey.specs.Lanes.{KeepsLanes, heard_as}
use Rattle.fg_survey.specs.Steps.{KeepsStreams, media_heard}
use Rattle.fg_survey.proofs.LaneLemmas.{lanes_other, stays_kept}
use Rattle.fg_survey.proofs.lanes.Lanes.take.Goals as goal

pub returns-in-Parity : goal.returns-in-Parity
returns-in-Parity c = λ before datagram keeps h.
    let read = subst (λ (r : Reading). KeepsStreams c.args.streams.now (heard_as c.args.time c.args.port datagram r ∷ before)) c.in-Parity.is keeps in
    subst (λ (r : Reading). KeepsLanes c.take_parity.new.self (heard_as c.args.time c.args.port datagram r ∷ before)) (sym c.in-Parity.is)
    (c.take_parity.ensures before c.args.time datagram (stays_kept c.args.streams.now before c.args.time c.args.port datagram c.in-Parity.base c.in-Parity.offset c.in-Parity.number read) h)

pub returns-in-Other : goal.returns-in-Other
returns-in-Other c = λ before datagram keeps h.
    let lanes = c.args.self.now in
    subst (λ (r : Reading). KeepsLanes lanes (heard_as c.args.time c.args.port datagram r ∷ before)) (sym c.in-Other.is)
    (record { are = lanes_other lanes.lanes.items before c.args.time c.args.port datagram h.are; places = h.places })

pub returns-in-Media : goal.returns-in-Media
returns-in-Media c = on_ok_weaker c.take_media.result (λ f before datagram keeps h.
    let read = subst (λ (r : Reading). KeepsStreams c.args.streams.now (heard_as c.args.time c.args.port datagram r ∷ before)) c.in-Media.is keeps in
    let seen = subst (λ (m : Media). KeepsStreams c.args.streams.now (media_heard m datagram ∷ before)) (sym c.new-media.ensures) read in
    subst (λ (r : Reading). KeepsLanes c.take_media.new.self (heard_as c.args.time c.args.port datagram r ∷ before)) (sym c.in-Media.is)
    (subst (λ (m : Media). KeepsLanes c.take_media.new.self (media_heard m datagram ∷ before)) c.new-media.ensures (f before datagram seen h))) c.take_media.ensures
