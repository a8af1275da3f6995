use Rattle.std.proofs.Common.{◌≡◌, ◌∙◌, ℕ, Ok, Err, IsNone, ap, refl, subst, sym, rules}
use Rattle.std.specs.Prelude.{IsOk}
use Rattle.std.proofs.lemmas.Result.{IfOk-weaker}
use Rattle.fg_io.proofs.FaultLemmas.{err_more, on_err}
use Rattle.fg_trace.specs.declared.step.Finish.{Finish}
use Rattle.fg_trace.specs.declared.step.Finish.TheVariants as finish
use Rattle.fg_trace.specs.Reader.{ReaderState}
use Rattle.fg_trace.specs.Reached.{IsReadTo}
use Rattle.fg_trace.proofs.Opening.{never_refused}
use Rattle.fg_trace.proofs.Reached.{differs_at, failed_at}
use Rattle.fg_walk.specs.Walk.{Walked, WalkedPart}
use Rattle.fg_walk.proofs.Records.{breaks_as, of_any, opened_at, read_of, walked_at, walked_none}
use Rattle.fg_walk.proofs.trace.walk_trace.Goals as goal

pub returns-in_err-reader-clause-part : goal.returns-in_err-reader-clause-part
returns-in_err-reader-clause-part g c =
    let written = g.K.Sink.written c.args.out.now in
    let part : WalkedPart g.T.Telling.part (g.T.Telling.given c.args.telling.now) c.args.max (g.S.Source.left c.args.input.now) written written =
    of_any g.T.Telling.part (g.T.Telling.given c.args.telling.now) c.args.max _ _ _ (λ records. c.stops.ensures.none c.requires.new records written) in
    on_err _ _ part

pub walk-requires : goal.walk-requires
walk-requires g c =
    let left = g.S.Source.left c.args.input.now in
    (left, (c.requires.new, opened_at c.args.max c.in_ok-reader.reader c.start.new.self left _ c.in_ok-reader.ensures.new c.requires.limit c.start.ensures.max (c.start.ensures.kept (subst IsOk (sym c.in-Ok.is) refl)) c.start.ensures.bounded (c.in-Ok.ensures.opens left (c.in_ok-reader.ensures.opening left))))

pub returns-in-Ok : goal.returns-in-Ok
returns-in-Ok g c =
    let given = g.T.Telling.given c.args.telling.now in
    let left = g.S.Source.left c.args.input.now in
    let opened = opened_at c.args.max c.in_ok-reader.reader c.start.new.self left _ c.in_ok-reader.ensures.new c.requires.limit c.start.ensures.max (c.start.ensures.kept (subst IsOk (sym c.in-Ok.is) refl)) c.start.ensures.bounded (c.in-Ok.ensures.opens left (c.in_ok-reader.ensures.opening left)) in
    let max : c.start.new.self.max ≡ c.args.max = c.start.ensures.max ∙ ap (λ (t : ReaderState). t.max) c.in_ok-reader.ensures.new in
    let all = walked_at g.T.Telling.whole c.walk.new.walking _ c.args.max c.walk.result left _ _ _ max (IfOk-weaker c.walk.result _ _ (λ answer h. h left (c.requires.new, opened)) c.walk.ensures.whole) in
    let broken = breaks_as g.T.Telling.part given _ c.args.max c.walk.result left _ _ _ max (err_more c.walk.result _ _ (λ h. h left (c.requires.new, opened)) c.walk.ensures.part) in
    record {
      whole = IfOk-weaker c.walk.result _ _ (λ answer h. h.walked) all;
      all_read = IfOk-weaker c.walk.result _ _ (λ answer h. h.at_end) all;
      part = err_more c.walk.result _ _ (λ h. h.part) broken;
      refused = never_refused _ left _ c.start.new.self c.args.max opened.stands;
      given = ap (λ (t : g.T.Telling.Given × ℕ). t.0) c.walk.ensures.given;
      reached = read_of c.args.max c.walk.result left _ (IfOk-weaker c.walk.result _ _ (λ answer h. h.read) all) (err_more c.walk.result _ _ (λ h. h.read) broken);
      faults = search rules;
      fixed = c.walk.ensures.fixed ∙ c.start.ensures.fixed;
    }

pub returns-in-Err-NotTrace-clause-whole : goal.returns-in-Err-NotTrace-clause-whole
returns-in-Err-NotTrace-clause-whole g c =
    let left = g.S.Source.left c.args.input.now in
    let max : c.start.new.self.max ≡ c.args.max = c.start.ensures.max ∙ ap (λ (t : ReaderState). t.max) c.in_ok-reader.ensures.new in
    let opens = rw c.in-Err-NotTrace.field-0-is at (c.in-Err-NotTrace.ensures.opens left (c.in_ok-reader.ensures.opening left)) in
    let written = g.K.Sink.written c.args.out.now in
    subst (λ (f : Finish). Walked g.T.Telling.whole c.args.telling.now c.args.max f left written written) (sym (ap finish.NotTrace c.in-Err-NotTrace.place-is))
    (walked_none g.T.Telling.whole c.args.telling.now left c.start.new.self.max c.args.max c.in-Err-NotTrace.place written max opens.1 (c.stops.ensures.nothing c.requires.new c.in-Err-NotTrace.place written))

pub returns-in-Err-NotTrace-clause-reached : goal.returns-in-Err-NotTrace-clause-reached
returns-in-Err-NotTrace-clause-reached g c =
    let left = g.S.Source.left c.args.input.now in
    let max : c.start.new.self.max ≡ c.args.max = c.start.ensures.max ∙ ap (λ (t : ReaderState). t.max) c.in_ok-reader.ensures.new in
    let unkept : IsNone c.in_ok-reader.reader.kept = subst (λ (t : ReaderState). IsNone t.kept) (sym c.in_ok-reader.ensures.new) refl in
    let opens = rw c.in-Err-NotTrace.field-0-is at (c.in-Err-NotTrace.ensures.opens left (c.in_ok-reader.ensures.opening left)) in
    subst (λ (f : Finish). IsReadTo c.args.max (Ok f) left (g.S.Source.left c.start.new.from)) (sym (ap finish.NotTrace c.in-Err-NotTrace.place-is))
    (differs_at c.read_as_far_as_needed.ensures.before c.args.max c.start.new.self left _ c.in-Err-NotTrace.place max opens c.start.ensures.bounded c.start.ensures.few
    (c.start.ensures.differs unkept c.in-Err-NotTrace.place (c.in-Err-NotTrace.is ∙ ap Err c.in-Err-NotTrace.field-0-is)))

pub returns-in-Err-ReadFault-clause-part : goal.returns-in-Err-ReadFault-clause-part
returns-in-Err-ReadFault-clause-part g c = of_any g.T.Telling.part (g.T.Telling.given c.args.telling.now) c.args.max _ _ _ (λ records. c.stops.ensures.none c.requires.new records (g.K.Sink.written c.args.out.now))

pub returns-in-Err-ReadFault-clause-reached : goal.returns-in-Err-ReadFault-clause-reached
returns-in-Err-ReadFault-clause-reached g c =
    let left = g.S.Source.left c.args.input.now in
    let max : c.start.new.self.max ≡ c.args.max = c.start.ensures.max ∙ ap (λ (t : ReaderState). t.max) c.in_ok-reader.ensures.new in
    let opens = rw c.in-Err-ReadFault.field-0-is at (c.in-Err-ReadFault.ensures.opens left (c.in_ok-reader.ensures.opening left)) in
    failed_at c.read_as_far_as_needed.ensures.before c.args.max c.start.new.self left _ max opens c.start.ensures.bounded
