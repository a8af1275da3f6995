use Rattle.std.proofs.Common.{arith}
use Rattle.fg_cli.proofs.Ranges.{packets_in, rate_in, port_in}
use Rattle.fg_cli.proofs.making.encoding.Goals as goal

pub returns-clause-fits : goal.returns-clause-fits
returns-clause-fits c =
    let packets = packets_in c.args.settings.now c.requires.ranges in
    let rate = rate_in c.args.settings.now c.requires.ranges in
    let port = port_in c.args.settings.now c.requires.ranges in
    record {
      can = record {
        packets = (omega (arith, packets, c.number-packets.ensures.value), omega (arith, packets, c.number-packets.ensures.value));
        rate = (omega (arith, rate, c.number-rate.ensures.value), omega (arith, rate, c.number-rate.ensures.value));
        port = omega (arith, port, c.number-port.ensures.value);
      };
      some_port = omega (arith, port, c.number-port.ensures.value);
    }
