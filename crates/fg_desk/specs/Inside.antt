-- What a desk is made of, and what holds of its parts. No public contract cites it.
use Rattle.std.specs.Prelude.{◌≡◌, ◌⊎◌, ◌+◌, ◌-◌, ◌*◌, ◌<◌, ◌≤◌, ◌^◌, ℕ, Bool, true, false, Option, Some, None, IsSome, IsTrue, refl}
use Rattle.std.specs.List.{Contains}
use Rattle.std.specs.Coded.{Coded, code_by, coded×, coded_ℕ, coded_option}
use Rattle.std.specs.Ordering.{nat_cmp}
use Rattle.std.specs.FinMap as map
use Rattle.std.specs.FinMap.{get}
use Rattle.std.specs.FinSet as set
use Rattle.fg_words.specs.Word.{HasRoom}
use Rattle.fg_shape.specs.Shape.{slots_of}
use Rattle.fg_shape.specs.Playout.{Playout}
use Rattle.fg_peel.specs.Equation.{AreMedia, IsSettled}
use Rattle.fg_peel.specs.Peeling.{ArePeeled}
use Rattle.fg_playout.specs.State.{State, Top, Live, Words, known, live_equations}
use Rattle.fg_playout.specs.Facts.{Holds}
use Rattle.fg_playout.specs.Room.{farthest_limit, call_limit}
use Rattle.fg_desk.specs.Contents.{Contents}
use Rattle.fg_buffer.specs.PlayoutBuffer.{BufferState, buffer_known, buffer_words}
use Rattle.fg_buffer.specs.BufferEntries.{words_code}
use Rattle.fg_buffer.specs.LiveEquations.{LiveState}
use Rattle.fg_buffer.specs.LiveInside.{live_code}

-- How contents are told apart.
abbrev pub top_code : Coded Top
top_code =
    code_by (ℕ × (ℕ × ℕ)) (coded× coded_ℕ (coded× coded_ℕ coded_ℕ)) (λ t. (t.position, (t.seq, t.ssrc)))
    (λ p. record { position = p.0; seq = p.1.0; ssrc = p.1.1 }) (λ _. refl)

abbrev pub playout_code : Coded Playout
playout_code =
    code_by (ℕ × (ℕ × ℕ)) (coded× coded_ℕ (coded× coded_ℕ coded_ℕ)) (λ p. (p.window, (p.depth, p.hold)))
    (λ p. record { window = p.0; depth = p.1.0; hold = p.1.1 }) (λ _. refl)

abbrev pub contents_code : Coded Contents
contents_code =
    code_by (Playout × (Option Top × (Option ℕ × (ℕ × (ℕ × (ℕ × (Words × (Words × (ℕ × (map.FinMap nat_cmp ℕ × (map.FinMap nat_cmp Live × (ℕ × (ℕ × (Words × (set.FinSet nat_cmp × (set.FinSet nat_cmp × ℕ))))))))))))))))
    (coded× playout_code (coded× (coded_option top_code) (coded× (coded_option coded_ℕ) (coded× coded_ℕ (coded× coded_ℕ (coded× coded_ℕ (coded× words_code (coded× words_code (coded× coded_ℕ (coded× (map.code coded_ℕ coded_ℕ) (coded× (map.code coded_ℕ live_code) (coded× coded_ℕ (coded× coded_ℕ (coded× words_code (coded× (set.code coded_ℕ) (coded× (set.code coded_ℕ) coded_ℕ))))))))))))))))
    (λ c. (c.state.playout, (c.state.top, (c.state.previous, (c.state.origin, (c.state.runs, (c.state.mark, (c.state.kept, (c.state.media, (c.state.clock, (c.state.times, (c.state.equations, (c.state.admitted, (c.state.calls, (c.solved, (c.bare, (c.repaired, c.epoch)))))))))))))))))
    (λ p. record { state = record { playout = p.0; top = p.1.0; previous = p.1.1.0; origin = p.1.1.1.0; runs = p.1.1.1.1.0; mark = p.1.1.1.1.1.0; kept = p.1.1.1.1.1.1.0; media = p.1.1.1.1.1.1.1.0; clock = p.1.1.1.1.1.1.1.1.0; times = p.1.1.1.1.1.1.1.1.1.0; equations = p.1.1.1.1.1.1.1.1.1.1.0; admitted = p.1.1.1.1.1.1.1.1.1.1.1.0; calls = p.1.1.1.1.1.1.1.1.1.1.1.1.0 }; solved = p.1.1.1.1.1.1.1.1.1.1.1.1.1.0; bare = p.1.1.1.1.1.1.1.1.1.1.1.1.1.1.0; repaired = p.1.1.1.1.1.1.1.1.1.1.1.1.1.1.1.0; epoch = p.1.1.1.1.1.1.1.1.1.1.1.1.1.1.1.1 })
    (λ _. refl)

-- The parts of a desk.
pub record Parts : Type 0 where
  pub playout : Playout
  pub top : Option Top
  pub previous : Option ℕ
  pub origin : ℕ
  pub runs : ℕ
  pub buffer : BufferState
  pub clock : ℕ
  pub times : map.FinMap nat_cmp ℕ
  pub lines : LiveState
  pub admitted : ℕ
  pub calls : ℕ
  pub epoch : ℕ

-- The state that they make.
abbrev pub state_of : Parts → State
state_of parts = record {
  playout = parts.playout;
  top = parts.top;
  previous = parts.previous;
  origin = parts.origin;
  runs = parts.runs;
  mark = parts.buffer.mark;
  kept = parts.buffer.kept;
  media = parts.buffer.media;
  clock = parts.clock;
  times = parts.times;
  equations = parts.lines.live;
  admitted = parts.admitted;
  calls = parts.calls;
}

abbrev pub contents_of : Parts → Contents
contents_of parts = record {
  state = state_of parts;
  solved = parts.buffer.solved;
  bare = parts.buffer.bare;
  repaired = parts.buffer.repaired;
  epoch = parts.epoch;
}

-- A settled equation is complete in the buffer's words, and comes out.
abbrev pub SettledComeOut : Parts → Type 0
SettledComeOut parts =
    (serial : ℕ) (live : Live) → get parts.lines.live serial ≡ Some live
    → IsTrue (set.contains parts.lines.settled serial) → IsSettled (buffer_words parts.buffer) live.equation

-- What keeps numbers within their limits, whatever words and equations there are.
pub record IsLimited (playout : Playout) (reach mark : ℕ) (top : Option Top) (runs admitted calls epoch : ℕ) : Type 0 where
  pub depth_limit : playout.depth ≤ 1000
  pub reach_is : reach ≡ playout.depth + 100
  pub mark_limit : mark < farthest_limit + 200
  pub top_limit : (farthest : Top) → top ≡ Some farthest → farthest.position < farthest_limit + 2 ^ 16
  pub runs_limit : runs ≤ calls
  pub admitted_limit : admitted ≤ calls
  pub calls_limit : calls ≤ call_limit
  pub epoch_limit : epoch ≤ calls

abbrev pub AreLimited : Parts → Type 0
AreLimited parts =
    IsLimited parts.playout parts.buffer.reach parts.buffer.mark parts.top parts.runs parts.admitted parts.calls parts.epoch

-- What holds of the parts between calls.
pub record AreSound (parts : Parts) : Type 0 where
  pub facts : Holds (state_of parts)
  pub limits : AreLimited parts
  -- Words that were found and not told are media words. Those that were solved need not be.
  pub cached : AreMedia (get parts.buffer.cached)
  -- What was solved, and all that was found, come from peelings of the words received and kept.
  pub solved : ArePeeled (live_equations (state_of parts)) (known (state_of parts)) (buffer_known parts.buffer)
  pub peeled : ArePeeled (live_equations (state_of parts)) (known (state_of parts)) (buffer_words parts.buffer)
  -- They stand at the mark and past it, where none was received.
  pub beside :
      (position : ℕ) → IsSome (get parts.buffer.solved position)
      → (parts.buffer.mark ≤ position) × (get parts.buffer.media position ≡ None)
  pub settled : SettledComeOut parts
  -- So an equation comes out once it has given a word.
  pub rooms :
      (serial : ℕ) (live : Live) → get parts.lines.live serial ≡ Some live → HasRoom live.equation.parity

-- The epoch after a call that withdrew solved words, or did not.
abbrev pub raised : ℕ → Bool → ℕ
raised epoch true = epoch + 1
raised epoch false = epoch

-- An equation of this base and shape comes too late. Its parity word is of no account.
abbrev pub IsLateAt : State → ℕ → ℕ → ℕ → Type 0
IsLateAt desk base offset count =
    (base + (count - 1) * offset < desk.mark)
    ⊎ ((slot : ℕ) × Contains (slots_of base offset count) slot × (slot < desk.mark) × (get desk.kept slot ≡ None))
