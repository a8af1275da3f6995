use Rattle.std.proofs.Common.{◌≡◌, ◌-◌, ◌≤◌, List, ℕ, length}
use Rattle.fg_encode.specs.StreamReader.{StandsAfter}
use Rattle.fg_encode_tests.proofs.tests.streams.count_payloads.Given as goal

abbrev pub invariant-loop-reader : goal.invariant-loop-reader
invariant-loop-reader g l =
    (l.reader.max ≡ l.max) × (l.reader.packets ≡ l.packets) × (l.count ≤ l.reader.place) × (payloads : List (List ℕ)) × (l.count ≡ length payloads) × StandsAfter l.reader (g.S.Source.left l.fn.from) (g.S.Source.left l.from) payloads

abbrev pub decreases-loop-reader : goal.decreases-loop-reader
decreases-loop-reader g l = l.reader.max - l.reader.place
