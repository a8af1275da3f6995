-- A fresh SSRC begins a run, as the first media datagram does, and no other datagram does.
use Rattle.std.proofs.Common.{◌≡◌, ◌≢◌, ℕ, refl, sym, ap, subst, ◌∙◌, ⊎_elim}
use Rattle.fg_words.specs.declared.Word.{Word}
use Rattle.fg_unwrap.specs.Position.{position_of}
use Rattle.fg_peel.proofs.Options.{some_and}
use Rattle.fg_playout.specs.declared.reply.Reply.{Reply}
use Rattle.fg_playout.specs.declared.reply.Reply.TheVariants.{Admitted}
use Rattle.fg_playout.specs.State.{State, Top}
use Rattle.fg_playout.specs.Admission.{Sender, former, own, another, sender_of, IsReplyBy, IsTakenBy, IsAfterMedia, AdmitsMedia, begun, with_media}
use Rattle.fg_playout.specs.Laws.{FreshBegins, FirstBegins, OthersGoOn}
use Rattle.fg_playout.proofs.Senders.{fresh_is_another, first_is_another, goes_on}

-- The datagram of another sender begins a run.
begins :
    (old new : State) (seq ssrc : ℕ) (word : Word) (reply : Reply) → sender_of old ssrc ≡ another
    → AdmitsMedia old seq ssrc word reply new
    → (reply ≡ Admitted) × (new ≡ with_media (begun old) seq ssrc old.mark word)
begins old new seq ssrc word reply is admits =
    let admitted : reply ≡ Admitted = subst (λ (s : Sender). IsReplyBy old seq word reply s) is admits.reply_is in
    let after : IsTakenBy old seq ssrc word new (sender_of old ssrc) =
    subst (λ (r : Reply). IsAfterMedia old seq ssrc word r new) admitted admits.after in
    (admitted, subst (λ (s : Sender). IsTakenBy old seq ssrc word new s) is after)

pub fresh_begins : FreshBegins
fresh_begins old new seq ssrc word reply fresh admits =
    begins old new seq ssrc word reply (fresh_is_another old ssrc fresh) admits

pub first_begins : FirstBegins
first_begins old new seq ssrc word reply holds none admits =
    begins old new seq ssrc word reply (first_is_another old ssrc none (holds.unopened none).5) admits

pub others_go_on : OthersGoOn
others_go_on old new seq ssrc word reply stale opened admits = go reply admits.after
  where
    taken :
        (sender : Sender) → sender ≢ another → IsTakenBy old seq ssrc word new sender
        → (new.runs ≡ old.runs) × (new.origin ≡ old.origin) × (new.previous ≡ old.previous)
    taken former differ t = absurd t
    taken another differ t = absurd (differ refl)
    taken (own top) differ t =
        let a = some_and (position_of top.position top.seq seq) (λ p. new ≡ with_media old seq ssrc p word) t in
        (ap (λ (s : State). s.runs) a.2, ap (λ (s : State). s.origin) a.2, ap (λ (s : State). s.previous) a.2)

    not_another : sender_of old ssrc ≢ another
    not_another is = ⊎_elim
        (λ before. not_both (sym before ∙ is))
        (λ own_one. not_own own_one.0 (sym own_one.3 ∙ is))
        (goes_on old ssrc stale opened)
      where
        not_both : former ≢ another
        not_both e = cc

        not_own : (top : Top) → own top ≢ another
        not_own top e = cc

    go : (reply : Reply) → IsAfterMedia old seq ssrc word reply new
        → (new.runs ≡ old.runs) × (new.origin ≡ old.origin) × (new.previous ≡ old.previous)
    go Admitted after = taken (sender_of old ssrc) not_another after
    go other after = (ap (λ (s : State). s.runs) after, ap (λ (s : State). s.origin) after, ap (λ (s : State). s.previous) after)
