use Rattle.std.proofs.Common.{◌≡◌, ℕ, ◌<◌, ◌≤◌, List, get_or, length}
use Rattle.fg_streams.specs.Steps.{IsStreamOf, StreamState, told}
use Rattle.fg_streams.specs.Summary.{summary_of}
use Rattle.fg_survey.specs.declared.senders.Sender.{Sender}
use Rattle.fg_survey.specs.Heard.{Heard}
use Rattle.fg_survey.specs.Senders.{arrivals_of}
use Rattle.fg_survey.specs.Steps.{KeepsStreams}
use Rattle.fg_survey.proofs.streams.Streams.finish.Given as goal

abbrev pub invariant-loop-i : goal.invariant-loop-i
invariant-loop-i l = record {
  ended : (heard : List Heard) → KeepsStreams l.fn.self heard → (k : ℕ) (d : StreamState) (e : Sender) → k < l.i
      → told (get_or l.self.streams.items k d) ≡ summary_of (arrivals_of (get_or l.fn.self.senders.items k e) heard);
  rest : (heard : List Heard) → KeepsStreams l.fn.self heard → (k : ℕ) (d : StreamState) (e : Sender) → l.i ≤ k → k < length l.fn.self.senders.items
      → IsStreamOf (get_or l.self.streams.items k d) (arrivals_of (get_or l.fn.self.senders.items k e) heard);
  many : length l.self.streams.items ≡ length l.fn.self.streams.items;
  senders : l.self.senders ≡ l.fn.self.senders;
  more : l.self.more ≡ l.fn.self.more;
}
