use Rattle.std.proofs.Common.{◌++◌, ◌∷◌, [], ap, sym, subst}
use Rattle.std.specs.Prelude.{List, Some}
use Rattle.fg_turn.specs.Standing.{Standing}
use Rattle.fg_core.specs.Steps.{IsStep}
use Rattle.fg_core.specs.Board.{BoardState}
use Rattle.fg_core.specs.Codes.{Entry, call_code, IsOwnedBy}
use Rattle.fg_board.specs.Deeds.{call_of, Makes}
use Rattle.fg_board.specs.declared.admitter.own_seat.OwnSeat.{OwnSeat}
use Rattle.fg_board.proofs.OneTurn.{some_and_weaker, some_and_of}
use Rattle.fg_board.proofs.OneCall.{call_steps, call_owned, seen_grows}
use Rattle.fg_board.proofs.admitter.own_seat.OwnSeat.leave.Goals as goal

pub tell_owner-requires-clause-step : goal.tell_owner-requires-clause-step
tell_owner-requires-clause-step c =
    let call = call_of c.args.made in
    let owner = c.args.self.now.owner in
    some_and_weaker owner.entered (λ old. Makes owner call old c.args.flow) (λ old. IsStep (Some (call_code call)) old c.args.flow)
    (call_steps c.calls_extend.ensures c.calls_keep_told.ensures c.codes_are_read_back.ensures.calls owner call c.args.flow)
    c.requires.makes

pub tell_owner-requires-clause-grows : goal.tell_owner-requires-clause-grows
tell_owner-requires-clause-grows c = seen_grows c.codes_are_read_back.ensures.told c.args.flow

pub returns : goal.returns
returns c =
    let call = call_of c.args.made in
    let owner = c.args.self.now.owner in record {
      left_owned = subst (λ (calls : List Entry). IsOwnedBy calls c.args.flow)
          (sym (ap (λ (s : Standing BoardState). s.calls) c.tell_owner.ensures))
          (some_and_of owner.entered (λ old. Makes owner call old c.args.flow)
          (IsOwnedBy (owner.calls ++ call_code call ∷ []) c.args.flow)
          (λ old _ makes.
          call_owned c.calls_extend.ensures c.calls_keep_told.ensures c.codes_are_read_back.ensures.calls owner call c.args.flow
          old makes)
          c.requires.makes);
      new_is = ap (λ (o : Standing BoardState). record c.args.self.now { owner = o }) c.tell_owner.ensures;
    }
