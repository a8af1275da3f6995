-- The header is written, and the datagram behind it.
use Rattle.std.proofs.Common.{◌≡◌, ℕ, ◌+◌, List, ◌++◌, length, take, drop, sym, ap, ◌∙◌, arith, append_assoc}
use Rattle.std.proofs.Math.Seq.{drop-append-add}
use Rattle.std.proofs.lemmas.List.{take_at, drop-drop}
use Rattle.fg_trace.proofs.write.write_datagram.Goals as goal

-- a piece behind what was written
piece_more : (front piece old now next : List ℕ) (at end : ℕ) → now ≡ front ++ drop at old → at ≡ length front → end ≡ at + length piece → next ≡ take at now ++ (piece ++ drop end now)
    → next ≡ (front ++ piece) ++ drop end old
piece_more front piece old now next at end before here there written =
    let start : take at now ≡ front = ap (take at) before ∙ take_at front (drop at old) at (sym here) in
    let far : end ≡ length front + length piece = omega arith in
    let rest : drop end now ≡ drop end old = ap (drop end) before ∙ ap (λ n. drop n (front ++ drop at old)) far ∙ drop-append-add front (drop at old) (length piece) ∙ drop-drop (length piece) at old ∙ ap (λ n. drop n old) (sym there) in
    written ∙ ap (λ t. t ++ (piece ++ drop end now)) start ∙ ap (λ t. front ++ (piece ++ t)) rest ∙ sym (append_assoc front piece (drop end old))

pub returns-clause-spelled : goal.returns-clause-spelled
returns-clause-spelled c =
    piece_more c.record_header.result c.args.payload.now c.args.into.now c.put-end.new.into c.put.new.into c.put-end.result c.put.result
    c.put-end.ensures.written (omega (arith, c.put-end.ensures.end)) c.put.ensures.end c.put.ensures.written
    ∙ ap (λ t. (t ++ c.args.payload.now) ++ drop c.put.result c.args.into.now) c.record_header.ensures
