-- Thinned encodings: the records of an encoding with some left out. This project's own.
use Rattle.std.specs.Prelude.{◌≡◌, ◌==◌, ◌+◌, ◌<◌, ◌≤◌, ◌%◌, ◌&&◌, ◌||◌, ℕ, Bool, false, List, [], ◌∷◌, nat_lt, if◌then◌else◌}
use Rattle.std.specs.List.{list_any}
use Rattle.fg_shape.specs.declared.layouts.Layout.{Layout}
use Rattle.fg_shape.specs.declared.encoding.Losses.{Losses}
use Rattle.fg_shape.specs.declared.encoding.Settings.{Settings}
use Rattle.fg_trace.specs.Trace.{Record}
use Rattle.fg_encode.specs.Encoding.{encoding}
use Rattle.fg_encode.specs.Ends.{columns_before, rows_before}

-- The records of an encoding are counted from 0, media and parity records together. Left out are each number among the
-- drops, and each positive multiple of `every` where that isn't 0.
abbrev pub is_lost : Losses → ℕ → Bool
is_lost losses number =
    list_any (λ drop. drop == number) losses.drops
    || (nat_lt 0 losses.every && (nat_lt 0 number && number % losses.every == 0))

-- Records without those that are lost. The first of them has this number.
abbrev pub without : (ℕ → Bool) → ℕ → List Record → List Record
without lost number [] = []
without lost number (r ∷ records) =
    if lost number then without lost (number + 1) records else (r ∷ without lost (number + 1) records)

-- What is sent of the encoding of these payloads.
abbrev pub thinned : Settings → (ℕ → Bool) → List (List ℕ) → List Record
thinned settings lost payloads = without lost 0 (encoding settings payloads)

-- The number of the media record of a slot: before it come those of the slots before, and the parity of the columns and
-- rows that end there.
abbrev pub media_number : Layout → ℕ → ℕ
media_number layout slot = slot + columns_before layout slot + rows_before layout slot

-- The losses that a thinned encoding of so many payloads may have: never the first record, and never more than 32,000
-- media records in succession.
pub record AreFew (layout : Layout) (count : ℕ) (lost : ℕ → Bool) : Type 0 where
  pub first : lost 0 ≡ false
  pub succession :
      (slot : ℕ) → slot + 32000 < count → (i : ℕ) × (i ≤ 32000) × (lost (media_number layout (slot + i)) ≡ false)
