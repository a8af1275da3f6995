-- The header that was read before the datagram stands there after it.
use Rattle.std.proofs.Common.{◌+◌, IfSome, sym, subst, arith}
use Rattle.fg_trace.specs.Header.{IsHeader}
use Rattle.fg_trace.specs.Walk.{Has}
use Rattle.fg_trace.proofs.Walking.{header_longer}
use Rattle.fg_trace.proofs.reader.look.Goals as goal

pub returns-clause-finds : goal.returns-clause-finds
returns-clause-finds g c =
    let h = c.unwrap-header.result in
    let read : IsHeader c.held.result.now h.time h.port h.size = subst (λ found. IfSome found (λ header. IsHeader c.held.result.now header.time header.port header.size)) c.unwrap-header.ensures c.read_header.ensures.found in
    let first : IsHeader c.ask.new.input.held h.time h.port h.size = subst (λ t. IsHeader t h.time h.port h.size) c.held.ensures.value read in
    let has : Has c.ask-2.new.input (12 + c.from.result) = rw c.in_default-2.is at c.in_ok-answer-2.ensures.has in (
      record {
        header = subst (λ t. IsHeader t h.time h.port h.size) (sym c.in_ok-answer-2.ensures.takes.grown) (header_longer c.ask.new.input.held c.in_ok-answer-2.ensures.takes.given _ _ _ first);
        whole = omega (arith, has.enough, c.from.ensures);
        within = omega (arith, has.within, c.from.ensures);
      },
      has.going,
    )
