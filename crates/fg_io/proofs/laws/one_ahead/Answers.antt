-- Of two different answers one is false.
use Rattle.std.proofs.Common.{◌≡◌, ℕ, ◌≤◌, length, refl, ap, arith}
use Rattle.fg_io.specs.declared.input_buffer.Ahead.{Ahead}
use Rattle.fg_io.specs.declared.input_buffer.Ahead.TheVariants.{Whole, EndsHere, EndsInside, PastLimit}
use Rattle.fg_io.specs.InputBuffer.{InputState, IsAhead}
use Rattle.fg_io.proofs.laws.one_ahead.Goals as goal

module _ (input : InputState) (want : ℕ) (within : input.place ≤ input.max) (some : 1 ≤ want) where
  none : IsAhead EndsHere input want → length input.held ≡ 0
  none ends = ap (λ bytes. length bytes) ends.0

  one_of : (one other : Ahead) → IsAhead one input want → IsAhead other input want → one ≡ other
  one_of Whole Whole p q = refl
  one_of EndsHere EndsHere p q = refl
  one_of EndsInside EndsInside p q = refl
  one_of PastLimit PastLimit p q = refl
  one_of Whole EndsHere p q = absurd (omega (arith, p.0, none q))
  one_of Whole EndsInside p q = absurd (omega (arith, p.0, q.1))
  one_of Whole PastLimit p q = absurd (omega (arith, p.1, q.0))
  one_of EndsHere Whole p q = absurd (omega (arith, q.0, none p))
  one_of EndsHere EndsInside p q = absurd (omega (arith, q.0, none p))
  one_of EndsHere PastLimit p q = absurd (omega (arith, q.1, none p))
  one_of EndsInside Whole p q = absurd (omega (arith, q.0, p.1))
  one_of EndsInside EndsHere p q = absurd (omega (arith, p.0, none q))
  one_of EndsInside PastLimit p q = absurd (omega (arith, p.3, q.1))
  one_of PastLimit Whole p q = absurd (omega (arith, q.1, p.0))
  one_of PastLimit EndsHere p q = absurd (omega (arith, p.1, none q))
  one_of PastLimit EndsInside p q = absurd (omega (arith, q.3, p.1))

pub returns : goal.returns
returns c input want one other within some = one_of input want within some one other
