use Rattle.std.proofs.Common.{◌≡◌, ℕ, ◌-◌, ◌+◌, Option, Some, List, length, sym, ap, ◌∙◌, subst}
use Rattle.fg_streams.specs.declared.fates.Fate.TheVariants.{Late}
use Rattle.fg_streams.specs.declared.span.Span.{Span}
use Rattle.fg_streams.specs.Arrival.{Arrival, span_of}
use Rattle.fg_streams.specs.Bursts.{times_of}
use Rattle.fg_streams.specs.Steps.{HasReceived}
use Rattle.fg_streams.proofs.Positions.{all_times, how_many, ordered}
use Rattle.fg_streams.proofs.Received.{received, was_late}
use Rattle.fg_streams.proofs.receiving.receive_later.Goals as goal

long : (h : List Arrival) (s : Span) → Some s ≡ span_of h → length (times_of h) ≡ s.top - s.first + 1
long h s is = ap (λ (t : List (Option ℕ)). length t) (all_times h s is) ∙ how_many h s

pub receive_at-requires-clause-rises : goal.receive_at-requires-clause-rises
receive_at-requires-clause-rises c = let known = c.requires.known in ordered known.0 c.args.known known.1

pub receive_at-requires-clause-known : goal.receive_at-requires-clause-known
receive_at-requires-clause-known c = let known = c.requires.known in (times_of known.0, known.2, long known.0 c.args.known known.1)

pub returns-in-None-clause-received : goal.returns-in-None-clause-received
returns-in-None-clause-received c = λ before ts payload known keeps.
    let a : Arrival = record { time = c.args.time; seq = c.args.seq; ts = ts; payload = payload } in
    subst (λ (o : Option Span). HasReceived before a o c.args.times.now Late) (sym c.requires.is)
    (was_late before a c.args.known c.args.times.now known (sym c.in-None.is ∙ c.place.ensures.value) keeps)

pub returns-in_ok-fate-in-Some-clause-received : goal.returns-in_ok-fate-in-Some-clause-received
returns-in_ok-fate-in-Some-clause-received c = λ before ts payload known keeps.
    let a : Arrival = record { time = c.args.time; seq = c.args.seq; ts = ts; payload = payload } in
    let many = long before c.args.known known in
    received before a c.args.known c.raise.result c.in-Some.place _ _ known (sym c.in-Some.is ∙ c.place.ensures.value) c.in-Some.ensures.within c.raise.ensures
    (c.in_ok-fate-in-Some.ensures.times (times_of before) keeps many) (c.in_ok-fate-in-Some.ensures.fate (times_of before) keeps many)
