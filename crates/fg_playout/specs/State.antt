-- What a desk is: one flow's window state. This project's own, but for what a parity datagram says of a flow's words,
-- which is SMPTE ST 2022-1's.
use Rattle.std.specs.Prelude.{ℕ, List, map, Option, None, option_map}
use Rattle.std.specs.Ordering.{nat_cmp}
use Rattle.std.specs.FinMap.{FinMap, entries, empty}
use Rattle.fg_words.specs.declared.Word.{Word}
use Rattle.fg_shape.specs.Playout.{Playout}
use Rattle.fg_peel.specs.Equation.{Equation}
pub use Rattle.fg_peel.specs.Words.{Words, words_around}
pub use Rattle.fg_peel.specs.Live.{Live, last_slot}

-- The farthest media datagram of a run: its position, its sequence number, and the SSRC of its sender (RFC 3550), which is the
-- run's.
pub record Top : Type 0 where
  pub position : ℕ
  pub seq : ℕ
  pub ssrc : ℕ

pub record State : Type 0 where
  -- How many positions a play closes, and how far past the mark a datagram makes one due.
  pub playout : Playout
  -- The farthest datagram of the current run. None before the first one.
  pub top : Option Top
  -- The SSRC of the run before, where there was one.
  pub previous : Option ℕ
  -- The position at which the current run begins.
  pub origin : ℕ
  -- How many runs were begun.
  pub runs : ℕ
  -- The first position that isn't played yet.
  pub mark : ℕ
  -- The shown words at the 100 positions before the mark.
  pub kept : Words
  -- The received words at the mark and past it.
  pub media : Words
  -- The greatest time of a datagram that was told so far, in microseconds.
  pub clock : ℕ
  -- The clock at the admission of each of the received words.
  pub times : FinMap nat_cmp ℕ
  -- The live equations by their serial numbers. That is how many were admitted before, so they stand in the order of
  -- admission.
  pub equations : FinMap nat_cmp Live
  -- How many equations were ever admitted.
  pub admitted : ℕ
  -- How many calls were made that may change a desk: admissions, plays, flush steps and held steps, whatever they answered.
  pub calls : ℕ

-- The desk at first.
abbrev pub opening : Playout → State
opening playout = record {
  playout = playout;
  top = None;
  previous = None;
  origin = 0;
  runs = 0;
  mark = 0;
  kept = empty;
  media = empty;
  clock = 0;
  times = empty;
  equations = empty;
  admitted = 0;
  calls = 0;
}

-- The SSRC of the current run.
abbrev pub current : State → Option ℕ
current desk = option_map (λ top. top.ssrc) desk.top

-- The words that need no equation: those kept, and those received.
abbrev pub known : State → ℕ → Option Word
known desk = words_around desk.mark desk.kept desk.media

-- What the live equations say, in the order of admission.
abbrev pub live_equations : State → List Equation
live_equations desk = map (λ entry. entry.1.equation) (entries desk.equations)
