use Rattle.std.proofs.Common.{List, ◌∷◌, length, drop, refl, sym, ◌∙◌, subst, arith}
use Rattle.std.proofs.lemmas.List.{take_at}
use Rattle.fg_survey.specs.declared.rows.Row.{Row}
use Rattle.fg_survey.specs.Heard.{Heard}
use Rattle.fg_survey.specs.Steps.{ArePorts}
use Rattle.fg_survey.proofs.Counting.{as_many, bytes_bound, totals_have_room}
use Rattle.fg_survey.proofs.Sheets.{fits_counts, sheet_more}
use Rattle.fg_survey.proofs.sheet.Sheet.take.Goals as goal

pub take-requires : goal.take-requires
take-requires c =
    let h = c.requires.few.1 in
    let many = as_many h.heard c.requires.few.0 h.read in
    totals_have_room c.args.self.now.totals h.heard h.totals h.sizes (omega (arith, many, c.requires.few.2))

pub take_row-requires : goal.take_row-requires
take_row-requires c =
    let h = c.requires.few.1 in
    let many = as_many h.heard c.requires.few.0 h.read in
    let bytes = bytes_bound h.heard h.sizes in
    (h.heard, subst (λ (t : List Row). ArePorts t h.heard) (sym c.deref_mut.ensures.value) h.rows, omega (arith, many, c.requires.few.2), omega (arith, many, c.requires.few.2, bytes))

pub take-requires-2 : goal.take-requires-2
take-requires-2 c =
    let h = c.requires.few.1 in
    let many = as_many h.heard c.requires.few.0 h.read in
    (h.heard, h.streams, omega (arith, many, c.requires.few.2))

pub take-requires-3-clause-fits : goal.take-requires-3-clause-fits
take-requires-3-clause-fits c = fits_counts c.args.datagram.now c.read-reading.result c.read-reading.ensures

pub take-requires-3-clause-few : goal.take-requires-3-clause-few
take-requires-3-clause-few c =
    let h = c.requires.few.1 in
    let many = as_many h.heard c.requires.few.0 h.read in
    (h.heard, h.lanes, omega (arith, many, c.requires.few.2))

pub take-requires-3-clause-known : goal.take-requires-3-clause-known
take-requires-3-clause-known c =
    let h = c.requires.few.1 in
    let x : Heard = record { time = c.args.time; port = c.args.port; datagram = c.args.datagram.now; reading = c.read-reading.result } in
    (x ∷ h.heard, c.in_ok-take.ensures h.heard h.streams)

pub returns : goal.returns
returns c = λ records h.
    let reading = c.read-reading.result in
    let x : Heard = record { time = c.args.time; port = c.args.port; datagram = c.args.datagram.now; reading = reading } in
    let rows = c.args.self.now.rows in
    let now = c.take_row.new.rows in
    let after : ArePorts now (x ∷ h.heard) = c.take_row.ensures h.heard x refl refl c.requires.size refl (subst (λ (t : List Row). ArePorts t h.heard) (sym c.deref_mut.ensures.value) h.rows) in
    let same = take_at now (drop (length now) rows.items) rows.len (after.all ∙ sym h.rows.all ∙ sym rows.ok.0) in
    let streams = c.in_ok-take.ensures h.heard h.streams in
    sheet_more c.args.self.now _ records c.args.time c.args.port c.args.datagram.now reading c.read-reading.ensures (omega (arith, c.requires.size, c.ranges.size.fits)) h
    (c.take.ensures h.heard x refl c.requires.size h.totals) (subst (λ (t : List Row). ArePorts t (x ∷ h.heard)) (sym same) after) streams
    (c.in_ok-take-2.ensures h.heard c.args.datagram.now streams h.lanes)
