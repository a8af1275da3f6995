use Rattle.std.proofs.Common.{◌≡◌, true, false, cond, Option, List, get_or, sym, ap, ◌∙◌, subst, arith}
use Rattle.fg_streams.specs.declared.span.Span.{Span}
use Rattle.fg_streams.specs.Arrival.{span_of}
use Rattle.fg_streams.specs.Steps.{IsStreamOf, StreamState}
use Rattle.fg_survey.specs.declared.senders.Sender.{Sender}
use Rattle.fg_survey.specs.Matrix.{ahead_of}
use Rattle.fg_survey.specs.Senders.{arrivals_of, listed, senders_of}
use Rattle.fg_survey.specs.Steps.{IsFoundAt}
use Rattle.fg_survey.proofs.Streaming.{listed_at}
use Rattle.fg_survey.proofs.lanes.ahead_by.Goals as goal

pub index-requires : goal.index-requires
index-requires c =
    let found = subst (λ (l : List Sender). IsFoundAt l c.args.sender c.in-Some.place) c.deref.ensures.value c.in-Some.ensures.found in
    let h = c.requires.1 in
    omega (arith, found.within, h.as_many, c.args.streams.now.streams.ok.0)

pub returns-in-Some : goal.returns-in-Some
returns-in-Some c = λ heard h.
    let sender = c.args.sender in
    let place = c.in-Some.place in
    let senders = c.args.streams.now.senders.items in
    let stream = c.index.result.now in
    let found = subst (λ (l : List Sender). IsFoundAt l sender place) c.deref.ensures.value c.in-Some.ensures.found in
    let here : listed (senders_of heard) sender ≡ true = ap (λ (l : List Sender). listed l sender) (sym h.senders_are) ∙ listed_at senders sender place sender found.within (found.there sender) in
    let own : IsStreamOf stream (arrivals_of sender heard) =
    subst (λ (u : Sender). IsStreamOf stream (arrivals_of u heard)) (found.there sender)
    (subst (λ (t : StreamState). IsStreamOf t (arrivals_of (get_or senders place sender) heard)) (sym c.index.ensures) (h.each place stream sender found.within)) in
    c.ahead_of.ensures ∙ ap (λ (o : Option Span). ahead_of c.args.base o) (c.span.ensures ∙ own.span)
    ∙ sym (ap (λ b. cond b (ahead_of c.args.base (span_of (arrivals_of sender heard))) 0) here)

pub returns-in-None : goal.returns-in-None
returns-in-None c = λ heard h.
    let sender = c.args.sender in
    let unlisted : listed (senders_of heard) sender ≡ false =
    ap (λ (l : List Sender). listed l sender) (sym h.senders_are ∙ sym c.deref.ensures.value) ∙ c.find_near.ensures.none c.in-None.is in
    sym (ap (λ b. cond b (ahead_of c.args.base (span_of (arrivals_of sender heard))) 0) unlisted)
