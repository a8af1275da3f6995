use Rattle.std.proofs.Common.{◌≡◌, ◌∙◌, List, [], ◌∷◌, ◌++◌, length, map, sym, ap, subst}
use Rattle.std.proofs.lemmas.Bool.{OnTrue_from, false≢true}
use Rattle.fg_flows.specs.declared.Plan.{Plan}
use Rattle.fg_flows.specs.Plan.{PlanFits}
use Rattle.fg_engine.specs.declared.shelved.Shelved.{Shelved}
use Rattle.fg_engine.specs.Engine.{GrowAll}
use Rattle.fg_batches.specs.declared.putting.RowPutter.{RowPutter}
use Rattle.fg_batches.specs.Batches.{BreaksEmptying, WaitFor, emptied, waiting}
use Rattle.fg_batches.specs.Stages.{PutsRows}
use Rattle.fg_batches.proofs.Rows.{emptied_row, puts_more, puts_part, written}
use Rattle.fg_batches.proofs.putting.RowPutterStorerRow.store.Goals.{in-Ok, in-Err}
use Rattle.fg_batches.proofs.putting.RowPutterStorerRow.store.Goals as goal

pub returns-clause-stores : goal.returns-clause-stores
returns-clause-stores g c = λ first place rows had on.
    let table = g.P.Tabled.table in
    let row : List Shelved = c.args.item.now in
    let lent : c.deref_mut.result.now ≡ row = c.deref_mut.ensures.value ∙ c.item.view_is in
    let before = g.O.Outlet.lanes place in
    let now = g.O.Outlet.lanes c.args.to.now in
    let after = g.O.Outlet.lanes c.empty_shelves.new.lanes in
    let count = g.O.Outlet.faults c.args.to.now in
    let next = g.O.Outlet.faults c.empty_shelves.new.lanes in
    let broken = c.args.self.now.broken in
    elim c.match-empty_shelves.branch [
      | in-Ok w ↦
          subst (λ (putter : RowPutter). PutsRows table before after (g.O.Outlet.faults place, next) (rows ++ row ∷ []) putter.broken) (sym w.self-is)
          (puts_more table before now after (g.O.Outlet.faults place) count next rows row broken c.requires.going on had
          (subst (λ (shelves : List Shelved). (plan : Plan) → PlanFits plan → WaitFor plan.table shelves → GrowAll now plan.table (waiting shelves) after) lent w.in-Ok.ensures.puts)
          (w.in-Ok.ensures.faults.no_write (λ e. e)))
      | in-Err w ↦
          subst (λ (putter : RowPutter). PutsRows table before after (g.O.Outlet.faults place, next) (rows ++ row ∷ []) putter.broken) (sym w.self-is)
          (puts_part table before now after (g.O.Outlet.faults place) count next rows row broken c.requires.going on had
          (subst (λ (shelves : List Shelved). (plan : Plan) → PlanFits plan → WaitFor plan.table shelves → BreaksEmptying plan.table shelves now after) lent w.in-Err.ensures.part)
          (w.in-Err.ensures.faults.write w.in-Err.ensures.fault) w.in-Err.ensures.faults.sinks_rise)
    ]

pub returns-clause-spent : goal.returns-clause-spent
returns-clause-spent g c =
    let table = g.P.Tabled.table in
    let new = c.empty_shelves.new.shelves in
    let inside = c.item.inside.shelves in
    elim c.match-empty_shelves.branch [
      | in-Ok w ↦
          OnTrue_from c.match-empty_shelves.result _ (λ e.
          written inside.len new inside.items inside.ok.0 (c.empty_shelves.auto.shelves ∙ ap (λ (shelves : List Shelved). length shelves) c.deref_mut.ensures.value)
          ∙ w.in-Ok.ensures.empty ∙ ap (λ (shelves : List Shelved). map emptied shelves) (c.deref_mut.ensures.value ∙ c.item.view_is)
          ∙ emptied_row table c.args.item.now c.requires.underway.4)
      | in-Err w ↦ OnTrue_from c.match-empty_shelves.result _ (λ e. absurd (false≢true (sym w.result-is ∙ e)))
    ]
