use Rattle.std.proofs.Common.{inl, inr, refl, drop, arith}
use Rattle.std.proofs.lemmas.List.{take_all, length-drop}
use Rattle.fg_pcap.proofs.frame.packet_of.Goals as goal

pub returns-then-has-clause-found : goal.returns-then-has-clause-found
returns-then-has-clause-found c =
    (14, inl (refl, c.if-has.ensures.same.0 refl), take_all _ (drop 14 c.args.frame.now) (omega (arith, length-drop 14 c.args.frame.now)))

pub returns-then-has-3-clause-found : goal.returns-then-has-3-clause-found
returns-then-has-3-clause-found c =
    (18, inr (refl, c.if-has-2.ensures.same.0 refl, c.if-has-3.ensures.same.0 refl), take_all _ (drop 18 c.args.frame.now) (omega (arith, length-drop 18 c.args.frame.now)))
