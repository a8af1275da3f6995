-- What is left of an encoding of which records were left out. This project's own.
use Rattle.std.specs.Prelude.{◌≡◌, ◌+◌, ◌<◌, ◌≤◌, ◌^◌, ℕ, Bool, true, false, List, length}
use Rattle.fg_shape.specs.declared.layouts.Layout.{Layout}
use Rattle.fg_shape.specs.declared.encoding.Settings.{Settings}
use Rattle.fg_shape.specs.Layout.{ColumnEnds}
use Rattle.fg_shape.specs.Settings.{CanEncode}
use Rattle.fg_trace.specs.Trace.{trace_of}
use Rattle.fg_encode.specs.Payloads.{ArePayloads, total_length}
use Rattle.fg_thin.specs.Thinned.{media_number, thinned}
use Rattle.fg_drill.specs.Covered.{is_gone}

-- Of an encoding of so many payloads, the first and the last media record that are left, each by its slot. Of 32,767 media
-- records in succession behind one that is left and before the last, one is left. Sequence numbers have 16 bits (RFC 3550):
-- behind a longer run of losses the next number is read as one that comes late.
pub record LeavesMedia (layout : Layout) (count : ℕ) (lost : ℕ → Bool) (first last : ℕ) : Type 0 where
  pub order : first ≤ last
  pub within : last < count
  pub first_left : is_gone layout lost first ≡ false
  pub last_left : is_gone layout lost last ≡ false
  pub none_before : (slot : ℕ) → slot < first → is_gone layout lost slot ≡ true
  pub none_after : (slot : ℕ) → last < slot → slot < count → is_gone layout lost slot ≡ true
  pub succession :
      (slot : ℕ) → first ≤ slot → slot < last
      → (next : ℕ) × (slot < next) × (next ≤ last) × (next ≤ slot + 32767) × (is_gone layout lost next ≡ false)

-- The parity of a column is left that ends at the first media record that is left, or behind it. It is sent right after the
-- media record of the column's last slot.
pub record LeavesColumn (layout : Layout) (count : ℕ) (lost : ℕ → Bool) (first : ℕ) : Type 0 where
  pub slot : ℕ
  pub base : ℕ
  pub after : first ≤ slot
  pub within : slot < count
  pub ends : ColumnEnds layout slot base
  pub left : lost (media_number layout slot + 1) ≡ false

-- The bytes are exactly the trace of what is left, within the limit on their number.
pub record IsLeftTrace
    (max : ℕ) (bytes : List ℕ) (settings : Settings) (payloads : List (List ℕ)) (lost : ℕ → Bool) (first last : ℕ)
    : Type 0 where
  pub can : CanEncode settings
  pub whole : ArePayloads settings.packets payloads
  pub limit : total_length payloads ≤ 2 ^ 40
  pub media : LeavesMedia settings.layout (length payloads) lost first last
  pub spelled : bytes ≡ trace_of (thinned settings lost payloads)
  pub within : length bytes ≤ max
