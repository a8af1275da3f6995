-- What contracts see of an encoder, and where it stands: this project's own rule.
use Rattle.std.specs.Prelude.{◌≡◌, ◌+◌, ◌*◌, ◌<◌, ◌≤◌, ◌%◌, ◌^◌, ℕ, true, false, IsTrue, List, length, get_or}
use Rattle.fg_ts.specs.Packets.{packet_length}
use Rattle.fg_words.specs.declared.Word.{Word}
use Rattle.fg_shape.specs.declared.encoding.Settings.{Settings}
use Rattle.fg_shape.specs.Layout.{column_base}
use Rattle.fg_shape.specs.Settings.{CanEncode}
use Rattle.fg_shape.specs.Shape.{slots_of}
use Rattle.fg_fechead.specs.declared.Parity.{Parity}
use Rattle.fg_encode.specs.Ends.{columns_before, rows_before}
use Rattle.fg_encode.specs.Encoding.{column_shape, parity_over, payload_at, row_shape, word_at}

-- The settings; how many payloads were taken; the parities under way, one for each column of a matrix and one for the row;
-- and how many of either were sent, modulo 65536.
pub record EncoderState : Type 0 where
  pub settings : Settings
  pub taken : ℕ
  pub columns : List Parity
  pub row : Parity
  pub columns_sent : ℕ
  pub rows_sent : ℕ

-- After the words of the first n slots, the parity under way with number c is that of a column's slots so far: of each
-- column whose slot k is the last below n of those that stand l apart. Of the columns with this number, in whatever
-- matrices, each begins l slots after the last slot of the one before it. So one of them at most is open at a time, in a
-- staggered layout too, and as many sums are open as there are columns. What stood there before a column's first slot is
-- in none.
abbrev pub ColumnsAreUnderWay : Settings → (ℕ → Word) → ℕ → List Parity → Type 0
ColumnsAreUnderWay settings words n columns =
    (m c k : ℕ) (d : Parity) → c < settings.layout.l → k < settings.layout.d
    → let base = column_base settings.layout m c in
    let last = base + k * settings.layout.l in
    last < n → n ≤ last + settings.layout.l
    → get_or columns c d
    ≡ parity_over settings words base (column_shape settings.layout) false (slots_of base settings.layout.l (k + 1))

-- The parity under way of the row is that of the row's slots so far.
abbrev pub RowIsUnderWay : Settings → (ℕ → Word) → ℕ → Parity → Type 0
RowIsUnderWay settings words n row =
    (q k : ℕ) → k < settings.layout.l
    → let base = q * settings.layout.l in
    base + k + 1 ≡ n
    → row ≡ parity_over settings words base (row_shape settings.layout) true (slots_of base 1 (k + 1))

-- The encoder has taken these payloads, all with as many packets as the settings say, and can take more.
pub record StandsAfter (encoder : EncoderState) (payloads : List (List ℕ)) : Type 0 where
  pub fits : CanEncode encoder.settings
  pub taken : encoder.taken ≡ length payloads
  pub whole :
      (slot : ℕ) → slot < length payloads → length (payload_at payloads slot) ≡ packet_length * encoder.settings.packets
  pub width : length encoder.columns ≡ encoder.settings.layout.l
  pub columns :
      ColumnsAreUnderWay encoder.settings (word_at encoder.settings payloads) (length payloads) encoder.columns
  pub row :
      IsTrue encoder.settings.layout.rows
      → RowIsUnderWay encoder.settings (word_at encoder.settings payloads) (length payloads) encoder.row
  pub columns_sent : encoder.columns_sent ≡ columns_before encoder.settings.layout (length payloads) % 2 ^ 16
  pub rows_sent : encoder.rows_sent ≡ rows_before encoder.settings.layout (length payloads) % 2 ^ 16
