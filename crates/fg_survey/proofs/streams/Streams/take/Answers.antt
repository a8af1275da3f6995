use Rattle.std.proofs.Common.{◌∷◌, sym, subst}
use Rattle.std.proofs.lemmas.Result.{on_ok_weaker}
use Rattle.fg_survey.specs.declared.reading.Reading.{Reading}
use Rattle.fg_survey.specs.declared.streams.Media.{Media}
use Rattle.fg_survey.specs.Steps.{IsNoMedia, KeepsStreams, media_heard}
use Rattle.fg_survey.proofs.Streaming.{stays}
use Rattle.fg_survey.proofs.streams.Streams.take.Goals as goal

pub returns-in-Media : goal.returns-in-Media
returns-in-Media c = on_ok_weaker c.take_media.result (λ f before h.
    subst (λ (r : Reading). KeepsStreams c.take_media.new.self ((record { time = c.args.time; port = c.args.port; datagram = c.args.datagram.now; reading = r }) ∷ before)) (sym c.in-Media.is)
    (subst (λ (m : Media). KeepsStreams c.take_media.new.self (media_heard m c.args.datagram.now ∷ before)) c.new-media.ensures (f before h))) c.take_media.ensures

pub returns-in-Parity : goal.returns-in-Parity
returns-in-Parity c = λ before h.
    let s = c.args.self.now in
    stays s.senders.items s.streams.items s.more c.args.time c.args.port c.args.datagram.now c.args.reading before (subst (λ (r : Reading). IsNoMedia r) (sym c.in-Parity.is) tt) h

pub returns-in-Other : goal.returns-in-Other
returns-in-Other c = λ before h.
    let s = c.args.self.now in
    stays s.senders.items s.streams.items s.more c.args.time c.args.port c.args.datagram.now c.args.reading before (subst (λ (r : Reading). IsNoMedia r) (sym c.in-Other.is) tt) h
