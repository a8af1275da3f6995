use Rattle.std.proofs.Common.{◌≡◌, ◌-◌, ◌/◌, ◌%◌, ◌<◌, length, arith}
use Rattle.std.proofs.lemmas.Bool.{eqb-true, eq-eqb}
use Rattle.fg_rtp.proofs.media.has_whole_packets.Goals as goal

-- src/media.rt:73:1
pub returns-then-length-le-PAYLOAD_LIMIT : goal.returns-then-length-le-PAYLOAD_LIMIT
returns-then-length-le-PAYLOAD_LIMIT c =
    let payload = length c.args.bytes.now - 12 in
    let long : 0 < payload = grind arith in
    let most : payload < 1317 = omega arith in (
      λ t. let whole : payload % 188 ≡ 0 = eqb-true _ _ t in
          (payload / 188, omega arith, omega arith, omega arith),
      λ p. eq-eqb _ _ (omega (arith, p.3)),
    )
