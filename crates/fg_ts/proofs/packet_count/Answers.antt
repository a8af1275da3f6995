use Rattle.std.proofs.Common.{◌≡◌, ◌/◌, ℕ, Err, Result, length, arith, ap, subst}
use Rattle.fg_ts.specs.declared.TsFault.{TsFault}
use Rattle.fg_ts.specs.declared.TsFault.TheVariants.{Ragged, NoSync}
use Rattle.fg_ts.specs.Packets.{IsFirstUnsynced}
use Rattle.fg_ts.proofs.PacketLemmas.{one_first}
use Rattle.fg_ts.proofs.packet_count.Goals as goal

-- The length is a whole number of packets.
pub returns-in-Some-clause-faults : goal.returns-in-Some-clause-faults
returns-in-Some-clause-faults c (Ragged long) =
    (λ e. absurd (cc), λ f. absurd (f.1 (length c.args.bytes.now / 188) (omega arith)))
returns-in-Some-clause-faults c (NoSync number) =
    let first : IsFirstUnsynced c.args.bytes.now c.in-Some.number = c.in-Some.ensures in (
      λ e. let same : c.in-Some.number ≡ number = cc in
          ((length c.args.bytes.now / 188, omega arith), subst (λ (n : ℕ). IsFirstUnsynced c.args.bytes.now n) same first),
      λ f. let same : c.in-Some.number ≡ number = one_first _ _ _ first f.1 in
          ap (λ (n : ℕ). (let r : Result ℕ TsFault = Err (NoSync n) in r)) same,
    )

pub returns-in-None-clause-faults : goal.returns-in-None-clause-faults
returns-in-None-clause-faults c (Ragged long) =
    (λ e. absurd (cc), λ f. absurd (f.1 (length c.args.bytes.now / 188) (omega arith)))
returns-in-None-clause-faults c (NoSync number) =
    (λ e. absurd (cc), λ f. let within = f.1.within in absurd (f.1.unsynced (c.in-None.ensures number (omega arith))))
