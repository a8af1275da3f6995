use Rattle.std.proofs.Common.{◌≡◌, ◌+◌, List, [], ◌∷◌, ◌++◌, length, ap, subst, ◌∙◌}
use Rattle.std.specs.List.{flat_map}
use Rattle.fg_trace.specs.Trace.{Record, spelling}
use Rattle.fg_encode.specs.Encoder.{StandsAfter}
use Rattle.fg_encode.specs.Encoding.{records_at}
use Rattle.fg_thin.specs.Sending.{SenderState}
use Rattle.fg_thin.specs.Thinned.{is_lost, without}
use Rattle.fg_thin.proofs.thinned.sender.Sender.send.Goals as goal

pub returns-clause-held : goal.returns-clause-held
returns-clause-held c = λ payloads.
    let payload = c.args.payload.now in
    let P : SenderState → Type 0 = λ s. StandsAfter s.encoder payloads → c.fill.new.self
    ≡ flat_map spelling (without (is_lost s.losses) s.number (records_at s.encoder.settings (payloads ++ payload ∷ []) (length payloads))) in
    subst P c.self.view_is (λ h. c.fill.ensures
    ∙ ap (λ (rs : List Record). flat_map spelling (without (is_lost c.self.inside.lost) c.self.inside.number rs)) (c.push.ensures.batch payloads h))

pub returns-clause-number : goal.returns-clause-number
returns-clause-number c = λ payloads.
    let payload = c.args.payload.now in
    let P : SenderState → Type 0 = λ s. StandsAfter s.encoder payloads → c.self.inside.number + c.count.result
    ≡ s.number + length (records_at s.encoder.settings (payloads ++ payload ∷ []) (length payloads)) in
    subst P c.self.view_is (λ h. ap (λ n. c.self.inside.number + n) (c.count.ensures.count
    ∙ ap (λ (rs : List Record). length rs) (c.push.ensures.batch payloads h)))
