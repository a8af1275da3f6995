use Rattle.std.proofs.Common.{◌≡◌, ◌<◌, List, length, get_or, refl, sym, ap, ◌∙◌, subst, arith}
use Rattle.std.proofs.lemmas.List.{get_or-set_other, length-set}
use Rattle.fg_streams.specs.Steps.{IsStreamOf, StreamState}
use Rattle.fg_streams.specs.Summary.{summary_of}
use Rattle.fg_survey.specs.declared.senders.Sender.{Sender}
use Rattle.fg_survey.specs.Senders.{arrivals_of}
use Rattle.fg_survey.proofs.Streaming.{ended_next, few_arrivals}
use Rattle.fg_survey.proofs.streams.Streams.finish.Goals as goal

pub loop-i-init : goal.loop-i-init
loop-i-init c = record {
  ended = λ heard h k d e less. absurd (omega (arith, less));
  rest = λ heard h k d e from inside. h.each k d e inside;
  many = refl;
  senders = refl;
  more = refl;
}

pub finish-requires : goal.finish-requires
finish-requires c =
    let known = c.requires in
    let h = known.1 in
    let i = c.loop-i.i in
    let none : Sender = record { port = 0; ssrc = 0 } in
    let d = c.index_mut.result.now in
    let sender = get_or c.args.self.now.senders.items i none in
    let inside : i < length c.args.self.now.senders.items = omega (arith, c.loop-i-test.true, c.len-i-end.ensures, h.as_many) in
    let few = few_arrivals sender known.0 in
    (arrivals_of sender known.0, subst (λ (t : StreamState). IsStreamOf t (arrivals_of sender known.0)) (sym c.index_mut.ensures.value) (c.loop-i.invariant.rest known.0 h i d none (omega arith) inside), omega (arith, few, known.2))

pub loop-i-preserved : goal.loop-i-preserved
loop-i-preserved c =
    let i = c.loop-i.i in
    let old = c.args.self.now in
    let streams = c.loop-i.self.streams.items in
    let new = c.finish.new.self in
    let d0 = c.index_mut.result.now in
    let within : i < length streams = omega (arith, c.loop-i-test.true, c.len-i-end.ensures, c.loop-i.invariant.many) in
    record {
      ended = λ heard h k d e less.
          let arrivals = arrivals_of (get_or old.senders.items k e) heard in
          ended_next streams new i k d (summary_of arrivals) within
          (λ same.
          let inside : k < length old.senders.items = omega (arith, same, within, c.loop-i.invariant.many, h.as_many) in
          let was : IsStreamOf d0 arrivals = subst (λ (t : StreamState). IsStreamOf t arrivals) (ap (λ j. get_or streams j d0) same ∙ sym c.index_mut.ensures.value) (c.loop-i.invariant.rest heard h k d0 e (omega (arith, same)) inside) in
          c.in_ok-finish.ensures arrivals was)
          (λ other. c.loop-i.invariant.ended heard h k d e (omega (arith, less, other)));
      rest = λ heard h k d e from inside.
          subst (λ (t : StreamState). IsStreamOf t (arrivals_of (get_or old.senders.items k e) heard)) (sym (get_or-set_other streams i k new d (λ same. absurd (omega (arith, same, from)))))
          (c.loop-i.invariant.rest heard h k d e (omega (arith, from)) inside);
      many = length-set streams i new ∙ c.loop-i.invariant.many;
      senders = c.loop-i.invariant.senders;
      more = c.loop-i.invariant.more;
    }

pub returns-clause-ended : goal.returns-clause-ended
returns-clause-ended c = λ heard h.
    let old = c.args.self.now in
    let now = c.loop-i.self in
    let same : now.senders.items ≡ old.senders.items = ap (λ v. v.items) c.loop-i.invariant.senders in
    let as_many = ap (λ (t : List Sender). length t) same in
    record {
      senders_are = same ∙ h.senders_are;
      as_many = c.loop-i.invariant.many ∙ h.as_many ∙ sym as_many;
      each = λ i d e inside.
          c.loop-i.invariant.ended heard h i d e (omega (arith, inside, as_many, h.as_many, c.loop-i-test.false, c.len-i-end.ensures))
          ∙ ap (λ (t : List Sender). summary_of (arrivals_of (get_or t i e) heard)) (sym same);
    }
