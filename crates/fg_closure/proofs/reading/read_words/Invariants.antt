use Rattle.std.proofs.Common.{◌≡◌, ◌+◌, ◌<◌, ◌≤◌, ℕ, false, is_some, get_or}
use Rattle.fg_playout.specs.State.{known}
use Rattle.fg_closure.proofs.reading.read_words.Given as goal

abbrev pub invariant-loop-k : goal.invariant-loop-k
invariant-loop-k l = record {
  read : (k : ℕ) → k < l.k → get_or l.flags k false ≡ is_some (known l.desk.state (l.first + k));
  unread : (k : ℕ) → l.k ≤ k → get_or l.flags k false ≡ false;
}
