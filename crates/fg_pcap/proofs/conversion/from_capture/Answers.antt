use Rattle.std.proofs.Common.{◌≡◌, ◌∙◌, ap}
use Rattle.fg_io.proofs.FaultLemmas.{on_err}
use Rattle.fg_io.specs.InputBuffer.{InputState}
use Rattle.fg_pcap.specs.Reading.{IsNew}
use Rattle.fg_pcap.proofs.Captures.{exactly, nothing_written, refusal_converts, never_refused_after}
use Rattle.fg_pcap.proofs.Underway.{comes}
use Rattle.fg_pcap.proofs.conversion.from_capture.Goals as goal
use Rattle.fg_pcap.proofs.conversion.from_capture.Goals.{In-Ok}

pub returns-in_err-trace-clause-part : goal.returns-in_err-trace-clause-part
returns-in_err-trace-clause-part g c = on_err _ _ (nothing_written c.args.max _ _)

pub returns-in_err-format-clause-part : goal.returns-in_err-format-clause-part
returns-in_err-format-clause-part g c = on_err _ _ (nothing_written c.args.max _ _)

-- the file header is read, and nothing of the trace is held
new : (g : _) (c : In-Ok g) → IsNew c.in-Ok.format c.in_ok-trace.trace c.open.new.input (g.S.Source.left c.args.input.now) (g.S.Source.left c.open.new.from)
new g c = record {
  stands = rw c.in-Ok.is at c.in_ok-format.ensures.opens;
  reading = rw c.in-Ok.is at c.in_ok-format.ensures.reading;
  read = c.open.ensures.read;
  bounded = c.open.ensures.bounded;
  empty = c.in_ok-trace.ensures;
}

pub walk-requires : goal.walk-requires
walk-requires g c = (g.S.Source.left c.args.input.now, new g (goal.at.walk-requires g c).In-Ok)

pub returns-in-Ok : goal.returns-in-Ok
returns-in-Ok g c =
    let limit : c.open.new.input.max ≡ c.args.max = c.open.ensures.max ∙ ap (λ (t : InputState). t.max) c.in_ok-buffer.ensures in
    let begun = new g (goal.at.returns-in-Ok g c).In-Ok in
    let came = comes c.one_capture.ensures (λ first. IsNew c.in-Ok.format c.in_ok-trace.trace c.open.new.input first _) c.open.new.input.max c.args.max c.walk.result _ _ _ _ limit begun c.walk.ensures.whole c.walk.ensures.part in
    record {
      whole = came.whole;
      exactly = came.exactly;
      all_read = came.all_read;
      reads = came.reads;
      refused = never_refused_after _ c.in-Ok.format c.open.new.input _ _ c.args.max limit begun.stands;
      part = came.part;
      faults = rw (c.in_ok-format.ensures.faults.no_read (λ none. none)) at c.walk.ensures.faults;
    }

pub returns-clause-whole : goal.returns-clause-whole
returns-clause-whole g c =
    let limit : c.open.new.input.max ≡ c.args.max = c.open.ensures.max ∙ ap (λ (t : InputState). t.max) c.in_ok-buffer.ensures in
    refusal_converts c.args.max c.open.new.input.max c.in-Err.ending _ _ limit (rw c.in-Err.is at c.in_ok-format.ensures.refuses)

pub returns-clause-exactly : goal.returns-clause-exactly
returns-clause-exactly g c = exactly c.one_capture.ensures c.args.max c.in-Err.ending _ _ _ (returns-clause-whole g c)
