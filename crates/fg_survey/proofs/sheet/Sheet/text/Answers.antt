use Rattle.std.proofs.Common.{◌++◌, List, length, map, refl, sym, ap, ◌∙◌, subst, arith}
use Rattle.fg_streams.specs.Steps.{StreamState, told}
use Rattle.std.specs.List.{flat_map, range_with_len}
use Rattle.fg_survey.specs.declared.lanes.Lane.{Lane}
use Rattle.fg_survey.specs.declared.rows.Row.{Row}
use Rattle.fg_survey.specs.declared.senders.Sender.{Sender}
use Rattle.fg_survey.specs.Text.{port_matrix, rows_text, streams_text}
use Rattle.fg_survey.specs.Lanes.{AreLanes}
use Rattle.fg_survey.specs.Rows.{ports}
use Rattle.fg_survey.proofs.Counting.{all_ports, as_many}
use Rattle.fg_survey.proofs.Sections.{whole_text}
use Rattle.fg_survey.proofs.sheet.Sheet.text.Goals as goal

pub finish-requires : goal.finish-requires
finish-requires c =
    let h = c.requires.1 in
    let many = as_many h.heard c.requires.0 h.read in
    (h.heard, h.streams, omega (arith, many, c.requires.2))

pub push_rows-requires : goal.push_rows-requires
push_rows-requires c = ap (λ (t : List Row). length t) c.deref.ensures.value ∙ c.requires.1.rows.all ∙ all_ports

pub push_matrices-requires : goal.push_matrices-requires
push_matrices-requires c =
    let h = c.requires.1 in
    let many = as_many h.heard c.requires.0 h.read in
    (h.heard, subst (λ (l : List Lane). AreLanes l h.heard) (sym c.deref-4.ensures.value) h.lanes.are, c.in_ok-finish.ensures.ended h.heard h.streams, omega (arith, many, c.requires.2))

pub returns : goal.returns
returns c = λ records sheet.
    let ended = c.in_ok-finish.ensures.ended sheet.heard sheet.streams in
    let old = c.args.self.now in
    let now = c.finish.new.self in
    let start = old.totals.first in
    let t1 = c.push_trace_line.new.text.items in
    let t2 = c.push_rows.new.text.items in
    whole_text c.args.json sheet.heard c.args.tail old.totals start now.more old.rows.items now.senders.items now.streams.items (flat_map (port_matrix c.args.json sheet.heard) (range_with_len 0 ports))
    c.new-text.result.items t1 t2 c.push_streams.new.text.items c.push_matrices.new.text.items c.push_more_line.new.text.items c.push_tail_line.new.text.items
    sheet.totals refl sheet.rows ended.senders_are ended.as_many ended.each (c.finish.ensures.more ∙ sheet.streams.more_is) refl
    c.new-text.ensures.items c.in_ok-push_trace_line.ensures
    (c.in_ok-push_rows.ensures ∙ ap (λ (t : List Row). t1 ++ rows_text c.args.json start 0 t) c.deref.ensures.value)
    (c.in_ok-push_streams.ensures ∙ ap (λ (t : List Sender). t2 ++ streams_text c.args.json start t (map told c.deref-3.result.now)) c.deref-2.ensures.value
    ∙ ap (λ (t : List StreamState). t2 ++ streams_text c.args.json start now.senders.items (map told t)) c.deref-3.ensures.value)
    (c.in_ok-push_matrices.ensures sheet.heard (subst (λ (l : List Lane). AreLanes l sheet.heard) (sym c.deref-4.ensures.value) sheet.lanes.are) ended)
    c.in_ok-push_more_line.ensures c.in_ok-push_tail_line.ensures
