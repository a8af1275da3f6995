use Rattle.std.proofs.Common.{◌∙◌, sym}
use Rattle.std.proofs.lemmas.Option.{slice_get_within, get_or_from_slice_get}
use Rattle.fg_io.proofs.SentLemmas.{Sent-at, Sent-more}
use Rattle.fg_trace.specs.Trace.{Record, spelling}
use Rattle.fg_io.proofs.FaultLemmas.{on_err}
use Rattle.fg_encode.proofs.encoding.add_all.Goals as goal

pub returns-in_err-add-clause-part : goal.returns-in_err-add-clause-part
returns-in_err-add-clause-part g c =
    let r : Record = record { time = c.item-time.result.0; port = c.item-time.result.1; datagram = c.item-time.result.2.now } in
    let batch = c.args.batch.now in
    on_err _ _ (Sent-at spelling batch c.loop-i.i r r _ _ _ c.args.trace.now _
    (slice_get_within batch c.loop-i.i r c.item-time.ensures.item) (sym (get_or_from_slice_get batch c.loop-i.i r r c.item-time.ensures.item))
    c.loop-i.invariant.sent c.in_err-add.ensures.part)

pub loop-i-preserved : goal.loop-i-preserved
loop-i-preserved g c =
    let r : Record = record { time = c.item-time.result.0; port = c.item-time.result.1; datagram = c.item-time.result.2.now } in
    let batch = c.args.batch.now in
    record {
      sent = Sent-more spelling batch c.loop-i.i r r _ _ _ c.args.trace.now _ _
          (slice_get_within batch c.loop-i.i r c.item-time.ensures.item) (sym (get_or_from_slice_get batch c.loop-i.i r r c.item-time.ensures.item))
          c.loop-i.invariant.sent c.in_ok-add.ensures.sent;
      faults = c.in_ok-add.ensures.faults.no_write (λ no. no) ∙ c.loop-i.invariant.faults;
    }
