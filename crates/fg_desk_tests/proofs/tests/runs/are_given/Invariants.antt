use Rattle.std.proofs.Common.{take}
use Rattle.std.specs.List.{All}
use Rattle.fg_plain.specs.Datagrams.{IsGiven}
use Rattle.fg_desk_tests.proofs.tests.runs.are_given.Given as goal

abbrev pub invariant-loop-datagram : goal.invariant-loop-datagram
invariant-loop-datagram l = All IsGiven (take l.datagram-index l.datagrams)
