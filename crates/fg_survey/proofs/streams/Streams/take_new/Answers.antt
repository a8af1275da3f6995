use Rattle.std.proofs.Common.{◌<◌, List, [], ◌∷◌, ◌++◌, length, sym, subst, arith}
use Rattle.fg_streams.specs.Steps.{StreamState}
use Rattle.fg_survey.specs.declared.senders.Sender.{Sender}
use Rattle.fg_survey.specs.Steps.{AreStreams, media_heard}
use Rattle.fg_survey.proofs.Streaming.{few_unlisted, taken_more, taken_new}
use Rattle.fg_survey.proofs.streams.Streams.take_new.Goals as goal

pub overflow_add-self : goal.overflow_add-self
overflow_add-self c =
    let known = c.requires.few in
    let h = known.1 in
    let few = few_unlisted known.0 in
    omega (arith, few, h.more_is, known.2)

pub returns-then-len-ge-MOST : goal.returns-then-len-ge-MOST
returns-then-len-ge-MOST c = λ before h.
    let s = c.args.self.now in
    taken_more s.senders.items s.streams.items s.more c.args.media c.args.datagram.now before h c.requires.new (omega (arith, c.len.ensures, c.if-len-ge-MOST.true))

pub returns : goal.returns
returns c = λ before h.
    let s = c.args.self.now in
    let room : length s.senders.items < 256 = omega (arith, c.len.ensures, c.if-len-ge-MOST.false) in
    subst (λ (t : List Sender). AreStreams t c.push-2.new.self.items s.more (media_heard c.args.media c.args.datagram.now ∷ before)) (sym c.in_ok-push.ensures.items)
    (subst (λ (t : List StreamState). AreStreams (s.senders.items ++ c.args.media.sender ∷ []) t s.more (media_heard c.args.media c.args.datagram.now ∷ before)) (sym c.in_ok-push-2.ensures.items)
    (taken_new s.senders.items s.streams.items s.more c.args.media c.args.datagram.now before h c.in_ok-stream.stream c.requires.new room c.in_ok-stream.ensures))
