use Rattle.std.proofs.Common.{◌≡◌, ◌∙◌, List, [], ◌∷◌, ◌++◌, length, map, sym, ap, subst}
use Rattle.fg_flows.specs.Sheaf.{SheafState}
use Rattle.fg_engine.specs.declared.shelved.Shelved.{Shelved}
use Rattle.fg_batches.specs.Batches.{CanRunAll, WaitFor, nothing_waits}
use Rattle.fg_batches.specs.Stages.{HavePlayed, HaveShown, RunsBatches}
use Rattle.fg_batches.proofs.Rows.{played_can_run, played_row, played_short, written}
use Rattle.fg_batches.proofs.Runs.{where_ok}
use Rattle.fg_batches.proofs.playing.BatchPlayerMakerBatchRow.turn.Goals as goal

pub play-ran-requires-clause-can : goal.play-ran-requires-clause-can
play-ran-requires-clause-can g c =
    let had = c.requires.underway in
    let now = c.args.self.now in
    subst (λ (sheaf : SheafState). CanRunAll sheaf (g.L.Flows.seen now.flows)) (sym c.item.view_is)
    (played_can_run g.P.Tabled.table (g.L.Flows.seen had.0.flows) (g.L.Flows.seen now.flows) had.1 had.2 now.starved c.requires.going had.3.1 c.args.item.now had.4)

pub returns-then-is_err-clause-stops : goal.returns-then-is_err-clause-stops
returns-then-is_err-clause-stops g c = λ first took made turned may.
    let now = c.args.self.now in (
      turned.0,
      played_short g.P.Tabled.table (g.L.Flows.seen first.flows) (g.L.Flows.seen now.flows) took made now.starved c.requires.going turned.1 c.args.item.now
          (g.L.Flows.seen c.play-ran.new.flows),
    )

pub returns-clause-makes : goal.returns-clause-makes
returns-clause-makes g c = λ first took made turned may.
    let table = g.P.Tabled.table in
    let now = c.args.self.now in
    let old = g.L.Flows.seen first.flows in
    let flows = g.L.Flows.seen now.flows in
    let new = g.L.Flows.seen c.play-ran.new.flows in
    let row = c.play-ran.new.shelves in
    let inside = c.into.inside.shelves in
    let same : length row ≡ length inside.items = c.play-ran.auto.shelves ∙ ap (λ (shelves : List Shelved). length shelves) c.deref_mut.ensures.value in
    let lent : c.deref_mut.result.now ≡ map nothing_waits table = c.deref_mut.ensures.value ∙ c.into.view_is ∙ c.requires.blank in
    let ran : HaveShown c.item.inside.sheaf flows new c.deref_mut.result.now row = where_ok c.play-ran.result _ (sym c.is_err.ensures.value ∙ c.if-is_err.false) c.play-ran.ensures in
    let shown : HaveShown c.args.item.now flows new (map nothing_waits table) row =
    subst (λ (sheaf : SheafState). HaveShown sheaf flows new (map nothing_waits table) row) c.item.view_is
    (subst (λ (shelves : List Shelved). HaveShown c.item.inside.sheaf flows new shelves row) lent ran)
    in
    let all = played_row table old flows took made now.starved c.requires.going turned.1 c.one_flow_has_a_port.ensures c.args.item.now row new shown in
    subst (λ (shelves : List Shelved). (RunsBatches g.L.Flows.seen g.F.Fn now.run × HavePlayed table old new (took ++ c.args.item.now ∷ []) (made ++ shelves ∷ []) now.starved) × WaitFor table shelves)
    (sym (written inside.len row inside.items inside.ok.0 same)) ((turned.0, all.0), all.1)
