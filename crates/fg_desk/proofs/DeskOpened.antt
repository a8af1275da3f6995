-- A desk at first is sound.
use Rattle.std.proofs.Common.{◌≡◌, ◌+◌, ◌≤◌, ℕ, None, refl, sym, ap, subst, ◌∙◌, arith}
use Rattle.std.proofs.lemmas.Option.{none-some}
use Rattle.std.specs.FinMap.{empty, get-empty}
use Rattle.std.specs.Ordering.{nat_cmp}
use Rattle.fg_shape.specs.Playout.{Playout}
use Rattle.fg_peel.proofs.Maps.{nothing_in_empty}
use Rattle.fg_desk.specs.Inside.{Parts, AreSound}
use Rattle.fg_buffer.specs.LiveEquations.{LiveState, no_equations}
use Rattle.fg_buffer.specs.PlayoutBuffer.{BufferState, opened_buffer}
use Rattle.fg_hold.specs.Waiting.{WaitingState, Waits, since}
use Rattle.fg_desk.specs.Holding.{AreTimed, times_in}
use Rattle.fg_desk.proofs.Times.{times_of_nothing}
use Rattle.fg_desk.proofs.DeskPlays.{sound_without_found}
use Rattle.fg_playout.proofs.Opened.{opening_holds}

abbrev pub opened_parts : Playout → Parts
opened_parts playout = record {
  playout = playout;
  top = None;
  previous = None;
  origin = 0;
  runs = 0;
  buffer = opened_buffer (playout.depth + 100);
  clock = 0;
  times = empty;
  lines = no_equations;
  admitted = 0;
  calls = 0;
  epoch = 0;
}

pub opened_sound :
    (playout : Playout) → 1 ≤ playout.window → playout.window ≤ 100 → playout.window ≤ playout.depth → playout.depth ≤ 1000 → AreSound (opened_parts playout)
opened_sound playout one most fits limit =
    sound_without_found (opened_parts playout)
    (record {
      depth_limit = limit;
      reach_is = refl;
      mark_limit = omega arith;
      top_limit = λ top is. absurd (none-some top is);
      runs_limit = omega arith;
      admitted_limit = omega arith;
      calls_limit = omega arith;
      epoch_limit = omega arith;
    })
    (opening_holds playout one most fits) (get-empty nat_cmp) (get-empty nat_cmp)
    (λ serial live is settled. absurd (nothing_in_empty serial live is))
    (λ serial live is. absurd (nothing_in_empty serial live is))

-- The parts of a new desk, as the fields have them.
abbrev pub first_parts : ℕ → ℕ → WaitingState → BufferState → LiveState → Parts
first_parts window depth waiting buffer lines = record {
  playout = record { window = window; depth = depth; hold = waiting.hold };
  top = None;
  previous = None;
  origin = 0;
  runs = 0;
  buffer = buffer;
  clock = waiting.clock;
  times = times_in waiting buffer.media;
  lines = lines;
  admitted = 0;
  calls = 0;
  epoch = 0;
}

module _
    (window depth hold : ℕ) (waiting : WaitingState) (buffer : BufferState) (lines : LiveState) (hold_is : waiting.hold ≡ hold)
    (clock : waiting.clock ≡ 0) (none_came : (position : ℕ) → since waiting position ≡ 0) (waits : Waits waiting 0 empty)
    (buffer_is : buffer ≡ opened_buffer (depth + 100)) (lines_are : lines ≡ no_equations) where
  abbrev playout : Playout
  playout = record { window = window; depth = depth; hold = hold }

  pub first_parts_are : first_parts window depth waiting buffer lines ≡ opened_parts playout
  first_parts_are =
      let times = ap (λ (b : BufferState). times_in waiting b.media) buffer_is ∙ times_of_nothing (since waiting) in
      λ i. record {
        playout = record { window = window; depth = depth; hold = hold_is i };
        top = None;
        previous = None;
        origin = 0;
        runs = 0;
        buffer = buffer_is i;
        clock = clock i;
        times = times i;
        lines = lines_are i;
        admitted = 0;
        calls = 0;
        epoch = 0;
      }

  pub first_sound :
      1 ≤ window → window ≤ 100 → window ≤ depth → depth ≤ 1000 → AreSound (first_parts window depth waiting buffer lines)
  first_sound one most fits limit = subst AreSound (sym first_parts_are) (opened_sound playout one most fits limit)

  pub first_timed : AreTimed waiting buffer.mark buffer.media
  first_timed = subst (λ (b : BufferState). AreTimed waiting b.mark b.media) (sym buffer_is) (record {
    near = λ p w is. absurd (nothing_in_empty p w is);
    limited = λ some. subst (Waits waiting 0) (sym (times_of_nothing (since waiting))) waits;
    unlimited = λ none. (clock, none_came);
  })
