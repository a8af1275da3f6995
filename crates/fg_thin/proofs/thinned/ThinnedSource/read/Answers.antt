use Rattle.std.proofs.Common.{◌≡◌, ⊎_elim, ℕ, ◌<◌, true, List, length, take, drop, sym, ap, subst, ◌∙◌, arith}
use Rattle.std.specs.Io.KnownBytes.{IsAtEnd, prepend_known}
use Rattle.fg_thin.specs.Sending.{SenderState, IsUnderWay, given_of}
use Rattle.fg_thin.specs.Taking.{way_stream}
use Rattle.fg_thin.specs.ThinnedSource.{ThinnedState, trace_left}
use Rattle.fg_thin.proofs.TakenLemmas.{after_give, at_end, gives_front, left_of, same_left}
use Rattle.fg_thin.proofs.thinned.ThinnedSource.read.Goals as goal

pub invariant_of-self : goal.invariant_of-self
invariant_of-self g c =
    let taking = c.fill.new.taking in
    let rest = g.S.Source.left c.fill.new.from in (
      subst (λ (s : SenderState). IsUnderWay taking.reader s taking.history.payloads taking.told taking.fault rest) (sym c.give.ensures.left)
          (after_give taking.reader taking.sender taking.history.payloads taking.told taking.fault rest c.give.result c.fill.ensures.keeps.way),
      c.fill.ensures.keeps.read_out,
    )

pub returns-in-Ok-clause-gives : goal.returns-in-Ok-clause-gives
returns-in-Ok-clause-gives g c =
    let was = c.self.inside.taking in
    let taking = c.fill.new.taking in
    let before = g.S.Source.left c.self.inside.inner in
    let rest = g.S.Source.left c.fill.new.from in
    let keeps = c.fill.ensures.keeps in
    let count = c.give.result in
    let piece : List ℕ = take count c.give.new.into in
    sym (ap (λ (s : ThinnedState _). trace_left s) c.self.view_is)
    ∙ same_left was.sender.encoder.settings taking.sender.encoder.settings was.sender.losses taking.sender.losses was.reader.max taking.reader.max
    (given_of was.sender was.history.payloads) (given_of taking.sender taking.history.payloads) (way_stream was before) (way_stream taking rest)
    keeps.settings keeps.losses keeps.max keeps.given keeps.stream
    ∙ gives_front taking.reader taking.sender taking.history.payloads taking.told taking.fault rest count keeps.way (omega (arith, c.give.ensures.count))
    c.first_payloads_are_taken_first.ensures c.a_payload_more_adds_its_records.ensures.adds
    ∙ ap (λ (t : List ℕ). prepend_known t (left_of taking.reader (record taking.sender { held = drop count taking.sender.held }) taking.history.payloads rest)) (sym c.give.ensures.bytes)
    ∙ ap (λ (s : SenderState). prepend_known piece (left_of taking.reader s taking.history.payloads rest)) (sym c.give.ensures.left)

pub returns-in-Ok-clause-end : goal.returns-in-Ok-clause-end
returns-in-Ok-clause-end g c = λ zero room.
    let taking = c.fill.new.taking in
    let rest = g.S.Source.left c.fill.new.from in
    let told : taking.told ≡ true = ⊎_elim (λ (is : taking.told ≡ true). is)
    (λ (some : 0 < length taking.sender.held). absurd (omega (arith, zero, room, some, c.give.ensures.count, c.give.auto.into)))
    c.in-Ok.ensures.filled in
    subst (λ (s : SenderState). IsAtEnd (left_of taking.reader s taking.history.payloads rest)) (sym c.give.ensures.left)
    (at_end taking.reader (record taking.sender { held = drop c.give.result taking.sender.held }) taking.history.payloads taking.told taking.fault rest c.payloads_are_the_cut.ensures.cut
    (after_give taking.reader taking.sender taking.history.payloads taking.told taking.fault rest c.give.result c.fill.ensures.keeps.way) told)
