use Rattle.std.proofs.Common.{◌∙◌, ◌^◌, Some, List, ℕ, ap}
use Rattle.fg_shape.specs.declared.encoding.Settings.{Settings}
use Rattle.fg_thin.specs.Drawn.{drawn_drops, sample_settings}
use Rattle.fg_thin.specs.Made.{made_stream}
use Rattle.fg_thin.specs.ThinnedSource.{thinned_trace}
use Rattle.fg_drill.proofs.Samples.{line_is, may_be_made}
use Rattle.fg_run.proofs.sample.make.Goals as goal

pub returns-clause-line : goal.returns-clause-line
returns-clause-line c =
    line_is c.samples_are_traces.ensures.counted c.args.draw.seed c.args.draw.datagrams c.args.draw.loss c.in_ok-records.records c.count-lost.result c.in_ok-records.losses.drops c.in_ok-line.line.items
    c.in_ok-records.ensures.records c.in_ok-records.ensures.drops c.count-lost.ensures c.in_ok-line.ensures

pub returns-clause-sends : goal.returns-clause-sends
returns-clause-sends c =
    let losses = c.in_ok-records.losses in (
      thinned_trace sample_settings losses (2 ^ 40) (made_stream c.args.draw.seed c.args.draw.datagrams),
      c.in_ok-source.ensures.left ∙ ap (λ (s : Settings). Some (thinned_trace s losses (2 ^ 40) c.new-made.result)) c.sample_settings.ensures
          ∙ ap (λ (made : List ℕ). Some (thinned_trace sample_settings losses (2 ^ 40) made)) c.new-made.ensures,
      c.samples_are_traces.ensures.trace c.args.draw.seed c.args.draw.datagrams c.args.draw.loss losses c.requires.datagrams.1
          (c.in_ok-records.ensures.drops ∙ ap (λ n. drawn_drops c.args.draw.seed c.args.draw.loss n) c.in_ok-records.ensures.records) c.in_ok-records.ensures.every,
    )

pub returns-clause-may_lose : goal.returns-clause-may_lose
returns-clause-may_lose c =
    may_be_made c.samples_are_traces.ensures.counted c.args.draw.seed c.args.draw.datagrams c.args.draw.loss c.in_ok-records.records c.in_ok-records.losses
    c.in_ok-records.ensures.records c.in_ok-records.ensures.drops c.in_ok-records.ensures.every c.in_ok-records.ensures.few
