-- What is held of a source that is read under a limit on its bytes: this project's own rule.
use Rattle.std.specs.Prelude.{◌≡◌, ◌+◌, ◌-◌, ◌*◌, ◌/◌, ◌<◌, ◌≤◌, ◌^◌, ℕ, Bool, true, false, Option, List, [], ◌++◌, length}
use Rattle.fg_io.specs.declared.input_buffer.Ahead.{Ahead}
use Rattle.fg_io.specs.declared.input_buffer.Ahead.TheVariants.{Whole, EndsHere, EndsInside, PastLimit}
use Rattle.fg_io.specs.Source.{Gives}

-- The most bytes that the source may have; the place of the first byte that was not stepped over, counted from the source's
-- first; the bytes that were read from there on; whether the source has come to its end; the most bytes that are asked for at
-- once; and how many the source is asked for at once.
pub record InputState : Type 0 where
  pub max : ℕ
  pub place : ℕ
  pub held : List ℕ
  pub ended : Bool
  pub longest : ℕ
  pub piece : ℕ

-- Nothing was read.
abbrev pub new_input : ℕ → ℕ → ℕ → InputState
new_input max longest piece =
    record { max = max; place = 0; held = []; ended = false; longest = longest; piece = piece }

-- Where a whole piece is put in a buffer for so many bytes at once: at the next multiple of a cache line of 64 bytes.
abbrev pub front_of : ℕ → ℕ
front_of longest = 64 * ((longest + 63) / 64)

-- The most bytes that are held.
abbrev pub most_held : ℕ → ℕ → ℕ
most_held longest piece = front_of longest + piece

-- What stands ahead, where so many bytes are asked for: they are held, and within the limit; the source ends here; it ends
-- inside them, and within the limit; or they aren't within the limit, and a byte past it was read.
abbrev pub IsAhead : Ahead → InputState → ℕ → Type 0
IsAhead Whole input want = (want ≤ length input.held) × (input.place + want ≤ input.max)
IsAhead EndsHere input want = (input.held ≡ []) × (input.ended ≡ true)
IsAhead EndsInside input want =
    (1 ≤ length input.held) × (length input.held < want) × (input.ended ≡ true)
    × (input.place + length input.held ≤ input.max)
IsAhead PastLimit input want =
    (input.max < input.place + want) × (input.max < input.place + length input.held)

-- Bytes that the source gave are held behind those that were.
pub record TakesMore (held : List ℕ) (left : Option (List ℕ)) (after : List ℕ) (rest : Option (List ℕ)) : Type 0 where
  pub given : List ℕ
  pub gives : Gives left given rest
  pub grown : after ≡ held ++ given

-- The parts of a buffer in which these bytes are held. No public contract cites it.
pub record IsInput (bytes : List ℕ) (longest front from to max place : ℕ) : Type 0 where
  pub asks : 1 ≤ longest
  pub fits : longest ≤ 2 ^ 20
  pub front_is : front ≡ front_of longest
  pub room : front + longest ≤ length bytes
  pub few : length bytes ≤ 2 ^ 22
  pub order : from ≤ to
  pub within : to ≤ length bytes
  pub place_within : place ≤ max
  pub bounded : place + (to - from) ≤ max + 1
