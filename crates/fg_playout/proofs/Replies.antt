-- A datagram gets one reply.
use Rattle.std.proofs.Common.{◌≡◌, ◌≢◌, ℕ, Option, Some, None, IsSomeAnd, MatchOption, refl, sym, ap, ◌∙◌, ⊎_elim, arith}
use Rattle.std.proofs.lemmas.Bool.{cases_eq}
use Rattle.std.proofs.lemmas.Option.{none-some, same_Some}
use Rattle.std.specs.FinMap.{get}
use Rattle.fg_words.specs.declared.Word.{Word}
use Rattle.fg_unwrap.specs.Position.{position_of}
use Rattle.fg_peel.specs.Equation.{Equation}
use Rattle.fg_peel.proofs.Options.{some_and}
use Rattle.fg_playout.specs.declared.reply.Reply.{Reply}
use Rattle.fg_playout.specs.declared.reply.Reply.TheVariants.{Admitted, Duplicate, Conflict, Late, NotStarted, BeforeStart, Ahead, Crowded, Foreign}
use Rattle.fg_playout.specs.State.{State, Top, Live}
use Rattle.fg_playout.specs.Admission.{Parity, Sender, former, own, another, sender_of, IsReplyAt, IsReplyBy, IsMediaReply, IsEquationReply, IsParityReply, HasTwin, base_on, equation_at}
use Rattle.fg_playout.proofs.Orderly.{IsOrderly}

module _ (desk : State) (position : ℕ) (word : Word) where
  same_and_other : get desk.media position ≡ Some word → IsSomeAnd (get desk.media position) (λ other. other ≢ word) → ⊥
  same_and_other same differs =
      let r = some_and (get desk.media position) (λ other. other ≢ word) differs in
      r.2 (same_Some r.0 word (sym r.1 ∙ same))

  none_and_other : get desk.media position ≡ None → IsSomeAnd (get desk.media position) (λ other. other ≢ word) → ⊥
  none_and_other none differs =
      let r = some_and (get desk.media position) (λ other. other ≢ word) differs in
      none-some r.0 (sym none ∙ r.1)

  one_reply_at : (one other : Reply) → IsReplyAt desk position word one → IsReplyAt desk position word other → one ≡ other
  one_reply_at NotStarted other a b = absurd a
  one_reply_at BeforeStart other a b = absurd a
  one_reply_at Ahead other a b = absurd a
  one_reply_at Crowded other a b = absurd a
  one_reply_at Foreign other a b = absurd a
  one_reply_at Late Late a b = refl
  one_reply_at Late Duplicate a b = absurd (omega (arith, a, b.0))
  one_reply_at Late Conflict a b = absurd (omega (arith, a, b.0))
  one_reply_at Late Admitted a b = absurd (omega (arith, a, b.0))
  one_reply_at Duplicate Late a b = absurd (omega (arith, a.0, b))
  one_reply_at Duplicate Duplicate a b = refl
  one_reply_at Duplicate Conflict a b = absurd (same_and_other a.1 b.1)
  one_reply_at Duplicate Admitted a b = absurd (none-some word (sym b.1 ∙ a.1))
  one_reply_at Conflict Late a b = absurd (omega (arith, a.0, b))
  one_reply_at Conflict Duplicate a b = absurd (same_and_other b.1 a.1)
  one_reply_at Conflict Conflict a b = refl
  one_reply_at Conflict Admitted a b = absurd (none_and_other b.1 a.1)
  one_reply_at Admitted Late a b = absurd (omega (arith, a.0, b))
  one_reply_at Admitted Duplicate a b = absurd (none-some word (sym a.1 ∙ b.1))
  one_reply_at Admitted Conflict a b = absurd (none_and_other a.1 b.1)
  one_reply_at Admitted Admitted a b = refl
  one_reply_at one other a b = absurd b

pub one_media_reply :
    (desk : State) (seq ssrc : ℕ) (word : Word) (one other : Reply) → IsMediaReply desk seq ssrc word one
    → IsMediaReply desk seq ssrc word other → one ≡ other
one_media_reply desk seq ssrc word one other a b = go (sender_of desk ssrc) a b
  where
    at_position :
        (o : Option ℕ) → MatchOption o (one ≡ Late) (λ position. IsReplyAt desk position word one)
        → MatchOption o (other ≡ Late) (λ position. IsReplyAt desk position word other) → one ≡ other
    at_position None a b = a ∙ sym b
    at_position (Some position) a b = one_reply_at desk position word one other a b

    go : (sender : Sender) → IsReplyBy desk seq word one sender → IsReplyBy desk seq word other sender → one ≡ other
    go former a b = a ∙ sym b
    go (own top) a b = at_position (position_of top.position top.seq seq) a b
    go another a b = a ∙ sym b

module _ (desk : State) (orderly : IsOrderly desk) (equation : Equation) where
  -- All live equations of these slots are one.
  twins_agree : (P Q : Word → Type 0) (a : HasTwin desk equation P) (b : HasTwin desk equation Q) → a.1 ≡ b.1
  twins_agree P Q a b = ⊎_elim
      (λ same. same_Some a.1 b.1 (sym a.2 ∙ ap (λ (s : ℕ). get desk.equations s) same ∙ b.2))
      (λ differ. absurd (orderly.apart a.0 b.0 a.1 b.1 a.2 b.2 differ
      (record { base_is = a.3.base_is ∙ sym b.3.base_is; offset_is = a.3.offset_is ∙ sym b.3.offset_is; count_is = a.3.count_is ∙ sym b.3.count_is })))
      (cases_eq a.0 b.0)

  two_parities : HasTwin desk equation (λ parity. parity ≡ equation.parity) → HasTwin desk equation (λ parity. parity ≢ equation.parity) → ⊥
  two_parities a b =
      let same : a.1 ≡ b.1 = twins_agree (λ parity. parity ≡ equation.parity) (λ parity. parity ≢ equation.parity) a b in
      b.4 (ap (λ (l : Live). l.equation.parity) (sym same) ∙ a.4)

  one_equation_reply : (one other : Reply) → IsEquationReply desk equation one → IsEquationReply desk equation other → one ≡ other
  one_equation_reply NotStarted other a b = absurd a
  one_equation_reply BeforeStart other a b = absurd a
  one_equation_reply Foreign other a b = absurd a
  one_equation_reply Late Late a b = refl
  one_equation_reply Late Ahead a b = absurd (b.0 a)
  one_equation_reply Late Duplicate a b = absurd (b.0.0 a)
  one_equation_reply Late Conflict a b = absurd (b.0.0 a)
  one_equation_reply Late Crowded a b = absurd (b.0.0 a)
  one_equation_reply Late Admitted a b = absurd (b.0.0 a)
  one_equation_reply Ahead Late a b = absurd (a.0 b)
  one_equation_reply Ahead Ahead a b = refl
  one_equation_reply Ahead Duplicate a b = absurd (b.0.1 a.1)
  one_equation_reply Ahead Conflict a b = absurd (b.0.1 a.1)
  one_equation_reply Ahead Crowded a b = absurd (b.0.1 a.1)
  one_equation_reply Ahead Admitted a b = absurd (b.0.1 a.1)
  one_equation_reply Duplicate Late a b = absurd (a.0.0 b)
  one_equation_reply Duplicate Ahead a b = absurd (a.0.1 b.1)
  one_equation_reply Duplicate Duplicate a b = refl
  one_equation_reply Duplicate Conflict a b = absurd (two_parities a.1 b.1)
  one_equation_reply Duplicate Crowded a b = absurd (b.1 (a.1.0, a.1.1, a.1.2, a.1.3, tt))
  one_equation_reply Duplicate Admitted a b = absurd (b.1 (a.1.0, a.1.1, a.1.2, a.1.3, tt))
  one_equation_reply Conflict Late a b = absurd (a.0.0 b)
  one_equation_reply Conflict Ahead a b = absurd (a.0.1 b.1)
  one_equation_reply Conflict Duplicate a b = absurd (two_parities b.1 a.1)
  one_equation_reply Conflict Conflict a b = refl
  one_equation_reply Conflict Crowded a b = absurd (b.1 (a.1.0, a.1.1, a.1.2, a.1.3, tt))
  one_equation_reply Conflict Admitted a b = absurd (b.1 (a.1.0, a.1.1, a.1.2, a.1.3, tt))
  one_equation_reply Crowded Late a b = absurd (a.0.0 b)
  one_equation_reply Crowded Ahead a b = absurd (a.0.1 b.1)
  one_equation_reply Crowded Duplicate a b = absurd (a.1 (b.1.0, b.1.1, b.1.2, b.1.3, tt))
  one_equation_reply Crowded Conflict a b = absurd (a.1 (b.1.0, b.1.1, b.1.2, b.1.3, tt))
  one_equation_reply Crowded Crowded a b = refl
  one_equation_reply Crowded Admitted a b = absurd (omega (arith, a.2, b.2))
  one_equation_reply Admitted Late a b = absurd (a.0.0 b)
  one_equation_reply Admitted Ahead a b = absurd (a.0.1 b.1)
  one_equation_reply Admitted Duplicate a b = absurd (a.1 (b.1.0, b.1.1, b.1.2, b.1.3, tt))
  one_equation_reply Admitted Conflict a b = absurd (a.1 (b.1.0, b.1.1, b.1.2, b.1.3, tt))
  one_equation_reply Admitted Crowded a b = absurd (omega (arith, a.2, b.2))
  one_equation_reply Admitted Admitted a b = refl
  one_equation_reply one other a b = absurd b

abbrev AtBase : State → Parity → Reply → Type 0
AtBase desk parity reply =
    MatchOption (base_on desk parity.base) (reply ≡ BeforeStart) (λ position. IsEquationReply desk (equation_at position parity) reply)

pub one_parity_reply :
    (desk : State) → IsOrderly desk → (parity : Parity) (one other : Reply) → IsParityReply desk parity one → IsParityReply desk parity other → one ≡ other
one_parity_reply desk orderly parity one other a b = at_top desk.top a b
  where
    at_position :
        (o : Option ℕ) → MatchOption o (one ≡ BeforeStart) (λ position. IsEquationReply desk (equation_at position parity) one)
        → MatchOption o (other ≡ BeforeStart) (λ position. IsEquationReply desk (equation_at position parity) other) → one ≡ other
    at_position None a b = a ∙ sym b
    at_position (Some position) a b = one_equation_reply desk orderly (equation_at position parity) one other a b

    at_top :
        (o : Option Top) → MatchOption o (one ≡ NotStarted) (λ _. AtBase desk parity one) → MatchOption o (other ≡ NotStarted) (λ _. AtBase desk parity other)
        → one ≡ other
    at_top None a b = a ∙ sym b
    at_top (Some top) a b = at_position (base_on desk parity.base) a b
