use Rattle.std.proofs.Common.{◌≡◌, true, List, ◌∷◌, sym, ap, ◌∙◌, subst}
use Rattle.fg_survey.specs.declared.lanes.Lane.{Lane}
use Rattle.fg_survey.specs.declared.senders.Sender.{Sender}
use Rattle.fg_survey.specs.Lanes.{AreLanes}
use Rattle.fg_survey.specs.Senders.{listed, senders_of}
use Rattle.fg_survey.specs.Steps.{IsFoundAt, media_heard}
use Rattle.fg_survey.proofs.LaneLemmas.{lanes_new, lanes_untold}
use Rattle.fg_survey.proofs.Streaming.{listed_at}
use Rattle.fg_survey.proofs.lanes.Lanes.take_first.Goals as goal

pub returns-in-None : goal.returns-in-None
returns-in-None c = λ before datagram keeps h. record {
  are = lanes_untold c.args.self.now.lanes.items before c.args.media datagram h.are c.requires.none
      (ap (λ (l : List Sender). listed l c.args.media.sender) (sym keeps.senders_are ∙ sym c.deref.ensures.value) ∙ c.find_near.ensures.none c.in-None.is);
  places = h.places;
}

pub returns-in_ok-add-in-Some : goal.returns-in_ok-add-in-Some
returns-in_ok-add-in-Some c = λ before datagram keeps h.
    let sender = c.args.media.sender in
    let place = c.in-Some.near in
    let lane = c.in_ok-lane-in-Some.lane in
    let found = subst (λ (l : List Sender). IsFoundAt l sender place) c.deref.ensures.value c.in-Some.ensures.found in
    let here : listed (senders_of (media_heard c.args.media datagram ∷ before)) sender ≡ true =
    ap (λ (l : List Sender). listed l sender) (sym keeps.senders_are) ∙ listed_at c.args.streams.now.senders.items sender place sender found.within (found.there sender) in
    record {
      are = subst (λ (l : List Lane). AreLanes l (media_heard c.args.media datagram ∷ before)) (sym c.in_ok-add-in-Some.ensures.lanes)
          (lanes_new c.args.self.now.lanes.items before c.args.media datagram h.are lane c.requires.none here c.in_ok-lane-in-Some.ensures.port c.in_ok-lane-in-Some.ensures.ssrc c.in_ok-lane-in-Some.ensures.tally);
      places = c.in_ok-add-in-Some.ensures.places;
    }
