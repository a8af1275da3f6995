use Rattle.std.proofs.Common.{◌<◌, List, [], ◌++◌, length, take, get_or, sym, ap, ◌∙◌, arith}
use Rattle.std.proofs.lemmas.Option.{slice_get-get_or}
use Rattle.fg_trace.specs.Trace.{Record, spelling}
use Rattle.fg_thin.specs.Thinned.{is_lost}
use Rattle.fg_thin.proofs.WithoutLemmas.{one_kept_more, one_lost_more}
use Rattle.fg_thin.proofs.thinned.outgoing.spell_all.Goals as goal
use Rattle.fg_thin.proofs.thinned.outgoing.spell_all.Goals.{then-not-has, else-not-has}

no_record : Record
no_record = record { time = 0; port = 0; datagram = [] }

pub loop-i-preserved : goal.loop-i-preserved
loop-i-preserved c =
    let records : List Record = c.args.batch.now in
    let lost = is_lost c.args.lost.now in
    let i = c.loop-i.i in
    let there : i < length records = omega (arith, c.count-i-end.ensures.count) in
    elim c.if-not-has.branch [
      | then-not-has w ↦ record {
        length = omega (arith, c.if-not-has.auto.into, c.loop-i.invariant.length);
        within = omega (arith, w.end-is, w.spell-end.ensures.within, c.loop-i.invariant.within);
        spelled =
            ap (λ n. take n c.if-not-has.into) w.end-is ∙ ap (take w.spell-end.result) w.into-is
            ∙ w.spell-end.ensures.spelled (get_or records i no_record) (slice_get-get_or records i no_record there)
            ∙ ap (λ t. t ++ spelling (get_or records i no_record)) c.loop-i.invariant.spelled
            ∙ sym (one_kept_more lost c.args.first i records no_record there (sym c.has.ensures ∙ w.if-not-has.true));
      }
      | else-not-has w ↦ record {
        length = omega (arith, c.if-not-has.auto.into, c.loop-i.invariant.length);
        within = omega (arith, w.end-is, c.loop-i.invariant.within);
        spelled =
            ap (λ n. take n c.if-not-has.into) w.end-is ∙ ap (take c.loop-i.end) w.into-is
            ∙ c.loop-i.invariant.spelled
            ∙ sym (one_lost_more lost c.args.first i records no_record there (sym c.has.ensures ∙ w.if-not-has.false));
      }
    ]
