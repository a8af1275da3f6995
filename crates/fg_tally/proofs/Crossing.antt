-- Tallies are shared by threads: a tally passes from one to another, with its lock.
use denote.Hole.{as_row}
use denote.Param.Send.{IsSend, IsSync, sendable, shr_send, view_send}
use denote.Param.SendFields.{declared_send, as_row_send}
use denote.Ref.{NamedLft}
use denote.Struct.Declared as declared
use denote.Struct.Field.{shr_ref_field}
use Rattle.std.proofs.Crossing.{crosses}
use Rattle.std.specs.contracts.option.Option as option
use Rattle.fg_board.specs.contracts.board.Board as board
use Rattle.fg_board.specs.contracts.pass.Pass as pass
use Rattle.fg_board.proofs.board.Board.TheSendSync.{the_sync}
use Rattle.fg_board.proofs.pass.Pass.TheSendSync.{the_send}
use Rattle.fg_tally.specs.contracts.folding.Folding as folding
use Rattle.fg_tally.specs.contracts.tally.Tally as tally
use Rattle.fg_tally.specs.contracts.tally.Tally.TheInside.{the_type}
use Rattle.fg_tally.specs.contracts.tallies.Tallies as tallies

board_sends : (ℓ : NamedLft) → IsSend (as_row (shr_ref_field ℓ board.the_row tt))
board_sends ℓ = as_row_send (shr_ref_field ℓ board.the_row tt) (shr_send _ _ _ the_sync)

pass_sends : IsSend (as_row pass.the_field)
pass_sends = as_row_send pass.the_field the_send

folding_sends : IsSend (as_row (option.the_field folding.the_row))
folding_sends = as_row_send (option.the_field folding.the_row) (search (sendable, crosses) depth 40)

fields_send : (ℓ : NamedLft) → IsSend (declared.row (the_type ℓ))
fields_send ℓ = declared_send (the_type ℓ) (board_sends ℓ, (pass_sends, (folding_sends, tt)))

pub tally_send : (ℓ : NamedLft) → IsSend (tally.the_row ℓ)
tally_send ℓ = view_send _ _ _ _ _ (fields_send ℓ)

pub tallies_sync : (ℓ : NamedLft) → IsSync (tallies.the_row ℓ)
tallies_sync ℓ = search (sendable, crosses, tally_send) depth 40
