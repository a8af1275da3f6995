-- What was held and the piece are written one after the other.
use Rattle.std.proofs.Common.{◌≡◌, Option, Result, Ok, Err, OnOk, ℕ, List, [], ◌++◌, refl, ◌∙◌, sym, subst}
use Rattle.fg_io.specs.Sent.{Sent}
use Rattle.fg_io.specs.Sink.{Gains}
use Rattle.fg_io.proofs.FaultLemmas.{on_err}
use Rattle.fg_io.proofs.SentLemmas.{Sent-all}
use Rattle.fg_io.proofs.SinkLemmas.{Gains-trans, GainsPart-longer}
use Rattle.fg_io.proofs.output_buffer.OutputBuffer.add_after_flush.Goals as goal

both : {T E : Type 0} (result : Result T E) (first second third : Option (List ℕ)) (held piece next : List ℕ)
    → Gains first held second → OnOk result (Gains second piece third) → next ≡ [] → OnOk result (Sent first (held ++ piece) next third)
both (Ok _) first second third held piece next once again none =
    subst (λ left. Sent first (held ++ piece) left third) (sym none)
    (Sent-all first third (held ++ piece) (Gains-trans first second third held piece once again))
both (Err _) first second third held piece next once again none = tt

pub returns-in_err-flush-clause-part : goal.returns-in_err-flush-clause-part
returns-in_err-flush-clause-part g c = on_err _ _ (GainsPart-longer _ _ c.args.self.now c.args.piece.now c.in_err-flush.ensures.part)

pub returns-clause-sent : goal.returns-clause-sent
returns-clause-sent g c =
    both c.write_all.result _ _ _ c.args.self.now c.args.piece.now c.hold.new.self c.in_ok-flush.ensures.whole
    c.write_all.ensures.whole (c.if-hold.ensures.kept refl ∙ c.in_ok-flush.ensures.empty)
