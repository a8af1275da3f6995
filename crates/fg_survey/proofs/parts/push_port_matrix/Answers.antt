use Rattle.std.proofs.Common.{◌+◌, ◌++◌, sym, ap, ◌∙◌, subst, arith, append-nil}
use Rattle.std.proofs.lemmas.Result.{on_ok_weaker}
use Rattle.fg_survey.specs.declared.lanes.Lane.{Lane}
use Rattle.fg_survey.specs.Lanes.{IsLane}
use Rattle.fg_survey.specs.Matrix.{columns_on, rows_on}
use Rattle.fg_survey.specs.Text.{matrix_text}
use Rattle.fg_survey.proofs.LaneLemmas.{few_protections}
use Rattle.fg_survey.proofs.MatrixTexts.{its_matrix, no_matrix}
use Rattle.fg_survey.proofs.parts.push_port_matrix.Goals as goal

pub returns-in-None : goal.returns-in-None
returns-in-None c = λ heard lanes ended.
    let text = c.args.text.now.items in
    sym (append-nil text) ∙ ap (λ t. text ++ t) (sym (no_matrix c.args.json c.args.lanes.now heard c.args.port (c.find_lane.ensures.none c.in-None.is) lanes))

pub push_matrix-requires : goal.push_matrix-requires
push_matrix-requires c =
    let heard = c.requires.0 in
    let lane = c.index-lanes-place.result in
    let k = subst (λ (l : Lane). IsLane l heard) (sym c.index-lanes-place.is) (c.requires.1.each c.in-Some.place lane c.in-Some.ensures.found.within) in
    let columns = few_protections lane.port (lane.port + 2) heard in
    let rows = few_protections lane.port (lane.port + 4) heard in
    (columns_on lane.port heard, rows_on lane.port heard, k.tally_is, omega (arith, columns, rows, c.requires.3))

pub returns-in-Some : goal.returns-in-Some
returns-in-Some c = on_ok_weaker c.push_matrix.result (λ pushed heard lanes ended.
    let text = c.args.text.now.items in
    let lane = c.index-lanes-place.result in
    let columns = columns_on lane.port heard in
    let rows = rows_on lane.port heard in
    let k = subst (λ (l : Lane). IsLane l heard) (sym c.index-lanes-place.is) (lanes.each c.in-Some.place lane c.in-Some.ensures.found.within) in
    pushed columns rows k.tally_is ∙ ap (λ n. text ++ matrix_text c.args.json lane.port n columns rows) (c.deepest.ensures heard ended)
    ∙ ap (λ t. text ++ t) (its_matrix c.args.json c.args.lanes.now heard c.args.port c.in-Some.place lane c.in-Some.ensures.found c.index-lanes-place.is lanes)) c.push_matrix.ensures
