use Rattle.std.proofs.Common.{ℕ, ◌<◌, ◌≤◌, List, [], ◌∷◌, ◌++◌, length, ap, ◌∙◌, arith}
use Rattle.fg_trace.specs.Trace.{Record}
use Rattle.fg_encode.specs.declared.batch.ParityBuffer.{ParityBuffer}
use Rattle.fg_encode.specs.Batch.{parity_of}
use Rattle.fg_encode.proofs.BatchLemmas.{length-records_of, one_parity_more}
use Rattle.fg_encode.proofs.batch.Batch.put_parity.Goals as goal

pub returns : goal.returns
returns c =
    let inside = c.self.inside in
    let buffer : ParityBuffer = record { time = c.args.time; port = c.args.port; size = c.write-buffer.result; bytes = c.write-buffer.new.into } in
    let count = length-records_of inside.count inside.media inside.parities.items c.self.invariant.count_limit c.self.invariant.two in
    let seen = ap (λ (l : List Record). length l) c.self.view_is in
    let some : 1 ≤ inside.count = omega (arith, count, seen, c.requires.some) in
    let room : inside.count < 3 = omega (arith, count, seen, c.requires.room) in
    one_parity_more inside.count inside.media inside.parities.items buffer some room c.self.invariant.two
    ∙ ap (λ (l : List Record). l ++ parity_of buffer ∷ []) c.self.view_is
    ∙ ap (λ (d : List ℕ). c.args.self.now ++ (let r : Record = record { time = c.args.time; port = c.args.port; datagram = d } in r) ∷ []) c.write-buffer.ensures.written
