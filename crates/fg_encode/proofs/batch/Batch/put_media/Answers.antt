use Rattle.std.proofs.Common.{◌≡◌, ℕ, ◌-◌, [], ◌∷◌, ◌++◌, List, length, take, drop, replicate, refl, sym, ap, ◌∙◌, arith, length-append}
use Rattle.std.proofs.lemmas.List.{take_at}
use Rattle.fg_rtp.specs.Header.{plain_header}
use Rattle.fg_trace.specs.Trace.{Record}
use Rattle.fg_encode.proofs.batch.Batch.put_media.Goals as goal

pub returns : goal.returns
returns c =
    let header : List ℕ = plain_header 33 c.args.seq c.args.ts c.args.ssrc in
    let payload : List ℕ = c.args.payload.now in
    let size : ℕ = c.write_payload-self-inside.result in
    let old : List ℕ = c.self.inside.media.bytes in
    let long : length (header ++ payload) ≡ size = omega (arith, c.write_payload-self-inside.ensures.size, length-append header payload) in
    let front : take size c.write_payload-self-inside.new.into ≡ header ++ payload =
    ap (λ (l : List ℕ). take size l) c.write_payload-self-inside.ensures.written ∙ take_at (header ++ payload) (drop size old) size long in
    let all : payload ≡ take (length payload) (payload ++ replicate (1316 - length payload) 0) = sym (take_at payload (replicate (1316 - length payload) 0) (length payload) refl) in
    ap (λ (d : List ℕ). (let r : Record = record { time = c.args.time; port = c.args.port; datagram = d } in r) ∷ []) (front ∙ ap (λ (l : List ℕ). header ++ l) all)
