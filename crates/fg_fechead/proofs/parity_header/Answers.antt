use Rattle.std.proofs.Common.{ℕ, ◌<◌, sym, subst, get_or, drop}
use Rattle.fg_shape.specs.Shape.{IsShape}
use Rattle.fg_fechead.specs.declared.Parity.{Parity}
use Rattle.fg_fechead.specs.FecHeader.{HasShape}
use Rattle.fg_fechead.specs.ParityDatagram.{IsParityDatagram, header_in, HasHeaders, IsVersionTwo}
use Rattle.fg_fechead.proofs.DatagramLemmas.{datagram_keeps_rules, datagram_of_rules}
use Rattle.fg_fechead.proofs.parity_header.Goals as goal

pub returns-then-header-ne1-clause-refused : goal.returns-then-header-ne1-clause-refused
returns-then-header-ne1-clause-refused c p d = c.if-header-ne1.true (datagram_keeps_rules _ p d).2

pub returns-then-not-is_plain_xor-clause-refused : goal.returns-then-not-is_plain_xor-clause-refused
returns-then-not-is_plain_xor-clause-refused c p d =
    let plain = c.is_plain_xor.ensures.1 (datagram_keeps_rules _ p d).3 in
    let other = c.if-not-is_plain_xor.true in
    cc

pub returns-then-not-shape_ok-clause-refused : goal.returns-then-not-shape_ok-clause-refused
returns-then-not-shape_ok-clause-refused c p d =
    let header = header_in c.args.bytes.now in
    let shape = subst (λ (o : ℕ). IsShape o c.shape_of.result.na) (sym c.shape_of.ensures.offset)
    (subst (λ (n : ℕ). IsShape (get_or header 13 0) n) (sym c.shape_of.ensures.na) (datagram_keeps_rules _ p d).4) in
    let ok = c.shape_ok.ensures.1 shape in
    let other = c.if-not-shape_ok.true in
    cc

pub returns-clause-ok : goal.returns-clause-ok
returns-clause-ok c =
    let bytes = c.args.bytes.now in
    let header = header_in bytes in
    let long : HasHeaders bytes = c.if-bytes-lt-HEADERS_LENGTH.false in
    let two : IsVersionTwo bytes = c.if-bytes-ne-RTP_VERSION.false in
    let plain = c.is_plain_xor.ensures.0 c.if-not-is_plain_xor.false in
    let shape : HasShape header = subst (λ (o : ℕ). IsShape o (get_or header 14 0)) c.shape_of.ensures.offset
    (subst (λ (n : ℕ). IsShape c.shape_of.result.offset n) c.shape_of.ensures.na (c.shape_ok.ensures.0 c.if-not-shape_ok.false)) in
    let sized = c.has_payload.ensures.0 c.if-not-has_payload.false in
    let fits : (i : ℕ) → get_or bytes i 0 < 256 = λ i. (c.type_inv.bytes i).fits in
    subst (λ (p : Parity). IsParityDatagram bytes p) (sym (c.fields.ensures (drop 28 bytes)))
    (datagram_of_rules bytes fits long two c.if-header-ne1.false plain shape sized)
