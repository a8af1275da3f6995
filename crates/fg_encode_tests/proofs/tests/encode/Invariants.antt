use Rattle.std.proofs.Common.{◌≡◌, ◌≤◌, ℕ, List}
use Rattle.fg_encode.specs.Encoder.{StandsAfter}
use Rattle.fg_encode_tests.proofs.tests.encode.Given as goal

abbrev pub invariant-loop-done : goal.invariant-loop-done
invariant-loop-done l = record {
  stands : (payloads : List (List ℕ)) × StandsAfter l.encoder payloads;
  packets : l.encoder.settings.packets ≡ l.packets;
  taken : l.encoder.taken ≤ l.done;
}
