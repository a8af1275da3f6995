use Rattle.fg_io.proofs.FaultLemmas.{on_err}
use Rattle.fg_pick.specs.declared.walk.Picking.{Picking}
use Rattle.fg_pick.specs.Steps.{HasGained}
use Rattle.fg_walk.proofs.Given.{walked_by}
use Rattle.fg_pick.proofs.Walking.{picks, picks_none, picks_part, refused}
use Rattle.fg_pick.proofs.walk.pick_trace.Goals as goal

pub returns-in_err-table-clause-part : goal.returns-in_err-table-clause-part
returns-in_err-table-clause-part g c = on_err _ _ (picks_none c.args.selection.now c.args.max _ (g.K.Sink.written c.args.out.now))

pub returns-in_err-held-clause-part : goal.returns-in_err-held-clause-part
returns-in_err-held-clause-part g c = on_err _ _ (picks_none c.args.selection.now c.args.max _ (g.K.Sink.written c.args.out.now))

pub walk_trace-requires-clause-new : goal.walk_trace-requires-clause-new
walk_trace-requires-clause-new g c = record { table = c.in_ok-table.ensures; empty = c.in_ok-held.ensures }

pub returns-clause-whole : goal.returns-clause-whole
returns-clause-whole g c =
    let told = walked_by HasGained (λ (w : Picking). w.selection.now) c.walk_trace.new.telling c.args.selection.now c.args.max _ _ _ c.walk_trace.result c.walk_trace.ensures.given c.walk_trace.ensures.whole in
    picks c.args.selection.now c.args.max _ _ _ c.walk_trace.result told

pub returns-clause-part : goal.returns-clause-part
returns-clause-part g c = picks_part c.args.selection.now c.args.max _ _ _ c.walk_trace.result (refused g.K.Sink.written _ _ c.args.max _ c.walk_trace.ensures.refused) c.walk_trace.ensures.part
