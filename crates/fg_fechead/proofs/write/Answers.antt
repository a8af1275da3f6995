use Rattle.std.proofs.Common.{◌≡◌, ℕ, ◌+◌, List, [], ◌∷◌, length, take, refl, sym, ◌∙◌, subst, arith, length-take}
use Rattle.fg_rtp.specs.Header.{plain_header}
use Rattle.fg_fechead.specs.FecHeader.{header_of}
use Rattle.fg_fechead.specs.ParityDatagram.{IsParityDatagram}
use Rattle.fg_fechead.proofs.DatagramLemmas.{written_datagram}
use Rattle.fg_fechead.proofs.PieceLemmas.{three_pieces}
use Rattle.fg_fechead.proofs.write.Goals as goal

pub returns-clause-written : goal.returns-clause-written
returns-clause-written c =
    let parity = c.args.parity.now in
    let front : List ℕ = take c.args.size parity.word.bytes in
    let long : length front ≡ c.from-end.result = omega (arith, length-take c.args.size parity.word.bytes, c.from-end.ensures, c.front.ensures.room) in
    (three_pieces (plain_header 96 c.args.seq c.args.ts 0) (header_of parity (0 ∷ 0 ∷ 0 ∷ []) 0) front c.args.into.now c.copy_from_slice.new.self c.copy_from_slice-2.new.self c.copy_from_slice-3.new.self c.from-end.result (28 + c.from-end.result)
    (c.copy_from_slice.ensures.after ∙ c.header_bytes-rtp.ensures) (c.copy_from_slice-2.ensures.after ∙ c.fec_header-fec.ensures.header) (c.copy_from_slice-3.ensures.after ∙ c.front.ensures.front) refl refl long refl).0

pub returns-clause-behind : goal.returns-clause-behind
returns-clause-behind c =
    let parity = c.args.parity.now in
    let front : List ℕ = take c.args.size parity.word.bytes in
    let long : length front ≡ c.from-end.result = omega (arith, length-take c.args.size parity.word.bytes, c.from-end.ensures, c.front.ensures.room) in
    (three_pieces (plain_header 96 c.args.seq c.args.ts 0) (header_of parity (0 ∷ 0 ∷ 0 ∷ []) 0) front c.args.into.now c.copy_from_slice.new.self c.copy_from_slice-2.new.self c.copy_from_slice-3.new.self c.from-end.result (28 + c.from-end.result)
    (c.copy_from_slice.ensures.after ∙ c.header_bytes-rtp.ensures) (c.copy_from_slice-2.ensures.after ∙ c.fec_header-fec.ensures.header) (c.copy_from_slice-3.ensures.after ∙ c.front.ensures.front) refl refl long refl).1

pub returns-clause-datagram : goal.returns-clause-datagram
returns-clause-datagram c =
    let parity = c.args.parity.now in
    subst (λ (l : List ℕ). IsParityDatagram l parity) (sym (returns-clause-written c))
    (written_datagram c.args.seq c.args.ts parity c.args.size c.requires c.fec_header-fec.ensures.base c.fec_header-fec.ensures.length c.fec_header-fec.ensures.timestamp c.front.ensures.room)
