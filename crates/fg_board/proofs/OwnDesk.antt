-- What a call of the admitter does to its own desk.
use Rattle.std.proofs.Common.{◌≡◌, ◌<◌, ℕ, Option, Some, None, refl, sym, ap, subst, ◌∙◌}
use Rattle.std.specs.Prelude.{IsSomeAnd}
use Rattle.std.specs.FinMap.{get}
use Rattle.fg_words.specs.declared.Word.{Word}
use Rattle.fg_playout.specs.declared.reply.Reply.{Reply}
use Rattle.fg_playout.specs.declared.reply.Reply.TheVariants.{Admitted}
use Rattle.fg_playout.specs.State.{State, Live}
use Rattle.fg_playout.specs.Admission.{Parity, AdmitsMedia, AdmitsParity, live_limit}
use Rattle.fg_playout.specs.Facts.{Holds}
use Rattle.fg_core.specs.declared.key.Key.{Key}
use Rattle.fg_core.specs.Board.{BoardState, opened_board}
use Rattle.fg_core.specs.Core.{Call, media, parity}
use Rattle.fg_board.specs.Actors.{AdmitterState, MakesCall, board_of, desk_of, GivesKeyOf}
use Rattle.fg_board.proofs.OneTurn.{owning}

module _ (call : Call) (old new : AdmitterState) (makes : MakesCall call old new) where
  -- The board of an admitter is the one that it left.
  pub left_is_board : makes.left ≡ board_of new
  left_is_board =
      sym (ap (λ (o : Option BoardState). elim o as (λ _. BoardState) [
        | None ↦ opened_board new.playout
        | Some left ↦ left
      ]) makes.left_is)

  pub left_is_desk : makes.left.desk.state ≡ desk_of new
  left_is_desk = ap (λ (board : BoardState). board.desk.state) left_is_board

  -- The facts hold of it.
  left_holds : Holds makes.left.desk.state
  left_holds = (owning new.seat.calls makes.left makes.left_owned).owned.facts

-- It admits as a desk alone does.
pub media_by_desk :
    (seq ssrc : ℕ) (word : Word) (reply : Reply) (old new : AdmitterState) → MakesCall (media seq ssrc word reply) old new
    → AdmitsMedia (desk_of old) seq ssrc word reply (desk_of new)
media_by_desk seq ssrc word reply old new makes =
    subst (λ (desk : State). AdmitsMedia (desk_of old) seq ssrc word reply desk) (left_is_desk (media seq ssrc word reply) old new makes)
    (subst (λ (desk : State). AdmitsMedia desk seq ssrc word reply makes.left.desk.state) makes.own makes.call_is.state)

pub parity_by_desk :
    (given : Parity) (reply : Reply) (key : Option Key) (old new : AdmitterState) → MakesCall (parity given reply key) old new
    → AdmitsParity (desk_of old) given reply (desk_of new)
parity_by_desk given reply key old new makes =
    subst (λ (desk : State). AdmitsParity (desk_of old) given reply desk) (left_is_desk (parity given reply key) old new makes)
    (subst (λ (desk : State). AdmitsParity desk given reply makes.left.desk.state) makes.own makes.call_is.state)

-- A key is that of the equation that was admitted.
pub key_is_given :
    (given : Parity) (reply : Reply) (key : Option Key) (old new : AdmitterState) → MakesCall (parity given reply key) old new
    → GivesKeyOf old reply key new
key_is_given given Admitted None old new makes = absurd makes.call_is.key_is
key_is_given given Admitted (Some key) old new makes =
    let call = parity given Admitted (Some key) in
    let is = makes.call_is.key_is in
    let live = is.1.0 in (
      refl,
      record {
        serial = is.0 ∙ ap (λ (desk : State). desk.admitted) makes.own;
        live = subst (λ (desk : State). IsSomeAnd (get desk.equations key.serial) (λ live. live.place ≡ key.place))
            (left_is_desk call old new makes)
            (subst (λ (o : Option Live). IsSomeAnd o (λ live. live.place ≡ key.place)) (sym is.1.1) is.1.2);
        place = subst (λ (n : ℕ). n < live_limit) is.1.2 ((left_holds call old new makes).live key.serial live is.1.1).placed;
        epoch = makes.call_is.key_epoch ∙ ap (λ (board : BoardState). board.desk.epoch) (left_is_board call old new makes);
      },
    )
key_is_given given _ None old new makes = λ same. cc
key_is_given given _ (Some key) old new makes = absurd makes.call_is.key_is
