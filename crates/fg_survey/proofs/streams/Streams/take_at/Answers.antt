use Rattle.std.proofs.Common.{ℕ, List, ◌∷◌, get_or, sym, subst, arith}
use Rattle.std.proofs.lemmas.Result.{on_ok_weaker}
use Rattle.fg_streams.specs.Steps.{IsStreamOf, StreamState}
use Rattle.fg_survey.specs.declared.senders.Sender.{Sender}
use Rattle.fg_survey.specs.Senders.{arrivals_of}
use Rattle.fg_survey.proofs.Streaming.{few_arrivals, taken_at}
use Rattle.fg_survey.proofs.streams.Streams.take_at.Goals as goal

pub take-requires : goal.take-requires
take-requires c =
    let known = c.requires.few in
    let h = known.1 in
    let place = c.args.place in
    let none : Sender = record { port = 0; ssrc = 0 } in
    let d = c.index_mut.result.now in
    let arrivals = arrivals_of (get_or c.args.self.now.senders.items place none) known.0 in
    let few = few_arrivals (get_or c.args.self.now.senders.items place none) known.0 in
    (arrivals, subst (λ (t : StreamState). IsStreamOf t arrivals) (sym c.index_mut.ensures.value) (h.each place d none c.requires.found.within), omega (arith, few, known.2))

pub returns : goal.returns
returns c = on_ok_weaker c.take.result (λ takes before h.
    let s = c.args.self.now in
    taken_at s.senders.items s.streams.items s.more c.args.media c.args.datagram.now before h c.args.place c.index_mut.result.now c.take.new.self c.requires.found c.index_mut.ensures.value
    (λ arrivals was. subst (λ (b : List ℕ). IsStreamOf c.take.new.self ((record { time = c.args.media.time; seq = c.args.media.seq; ts = c.args.media.ts; payload = b }) ∷ arrivals)) c.payload.ensures.rest (takes arrivals was))) c.take.ensures
