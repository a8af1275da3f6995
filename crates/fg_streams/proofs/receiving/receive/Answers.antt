use Rattle.std.proofs.Common.{◌≡◌, ℕ, Option, None, Some, List, length, sym, ap, ◌∙◌, subst, arith}
use Rattle.std.proofs.lemmas.Result.{IfOk-weaker}
use Rattle.fg_streams.specs.declared.fates.Fate.TheVariants.{Ahead}
use Rattle.fg_streams.specs.declared.span.Span.{Span}
use Rattle.fg_streams.specs.Arrival.{Arrival, span_of}
use Rattle.fg_streams.specs.Bursts.{times_in, times_of}
use Rattle.fg_streams.specs.Steps.{HasReceived, Keeps}
use Rattle.fg_streams.proofs.Received.{was_first}
use Rattle.fg_streams.proofs.receiving.receive.Goals as goal

pub push-requires : goal.push-requires
push-requires c =
    let known = c.requires.known in
    let none : None ≡ span_of known.0 = sym c.in-None.is ∙ known.1 in
    let few = ap (λ (o : Option Span). length (times_in known.0 o)) none in
    (times_of known.0, known.2, omega (arith, few))

pub returns-in_ok-push-in-None-clause-received : goal.returns-in_ok-push-in-None-clause-received
returns-in_ok-push-in-None-clause-received c = λ before ts payload is keeps.
    let a : Arrival = record { time = c.args.time; seq = c.args.seq; ts = ts; payload = payload } in
    subst (λ (n : ℕ). HasReceived before a (Some (record { first = n; top = n })) c.push.new.self (Ahead 0)) (sym c.from-first.ensures)
    (was_first before a c.push.new.self (sym c.in-None.is ∙ is) (λ all same. c.in_ok-push-in-None.ensures all (subst (λ (t : List (Option ℕ)). Keeps c.args.times.now t) (sym same) keeps)))

pub receive_later-requires-clause-known : goal.receive_later-requires-clause-known
receive_later-requires-clause-known c = let known = c.requires.known in (known.0, sym c.in-Some.is ∙ known.1, known.2)

pub returns-in-Some-clause-received : goal.returns-in-Some-clause-received
returns-in-Some-clause-received c = IfOk-weaker c.receive_later.result _ _ (λ fate f before ts payload is keeps. f before ts payload (sym c.in-Some.is ∙ is) keeps) c.receive_later.ensures.received
