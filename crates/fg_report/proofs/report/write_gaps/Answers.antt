use Rattle.std.proofs.Common.{◌∙◌, refl}
use Rattle.fg_report.specs.Text.{gap_line}
use Rattle.fg_io.proofs.SentLemmas.{Sent-more, Sent-at}
use Rattle.fg_report.proofs.SentLemmas.{on_err}
use Rattle.fg_report.proofs.report.write_gaps.Goals as goal

pub returns-in_err-write_gap-clause-part : goal.returns-in_err-write_gap-clause-part
returns-in_err-write_gap-clause-part g c =
    on_err _ (Sent-at (gap_line c.args.port) c.args.gaps.now c.loop-gap.gap-index (0, 0) _ _ _ _ c.args.held.now _
    c.loop-gap-test.true refl c.loop-gap.invariant.sent c.in_err-write_gap.ensures.part)

pub loop-gap-preserved : goal.loop-gap-preserved
loop-gap-preserved g c = record {
  sent = Sent-more (gap_line c.args.port) c.args.gaps.now c.loop-gap.gap-index (0, 0) _ _ _ _ c.args.held.now _ _
      c.loop-gap-test.true refl c.loop-gap.invariant.sent c.in_ok-write_gap.ensures.sent;
  faults = c.in_ok-write_gap.ensures.faults.no_write (λ h. h) ∙ c.loop-gap.invariant.faults;
}
